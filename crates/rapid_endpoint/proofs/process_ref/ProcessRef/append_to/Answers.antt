use Rattle.std.proofs.Common.{◌≡◌, ◌++◌, take, drop, [], ◌∷◌, sym, ap, ◌∙◌, append_assoc}
use Rattle.std.proofs.lemmas.List.{take-append-drop}
use Rattle.rapid_model.specs.Process.{tags_bytes_of}
use Rattle.rapid_model.proofs.Orders.{same_bytes_decides}
use Rattle.rapid_endpoint.specs.Joined.{second_part}
use Rattle.rapid_endpoint.proofs.process_ref.ProcessRef.append_to.Goals as goal

pub returns-clause-value : goal.returns-clause-value
returns-clause-value c =
    let before = c.args.bytes.now.items in
    let self = c.args.self.now in
    let key : c.extend_from_slice-2.new.self.items ≡ before ++ take 22 self =
    c.in_ok-extend_from_slice.ensures.items ∙ ap (λ l. before ++ l) c.key_bytes.ensures.value in
    let tags : c.self.inside.tags.now ≡ drop 22 self =
    sym (second_part 22 c.self.inside.key c.self.inside.tags.now c.self.invariant.0) ∙ ap (drop 22) c.self.view_is in
    c.in_ok-extend_from_slice-2.ensures.items
    ∙ (λ i. key i ++ tags i)
    ∙ append_assoc before (take 22 self) (drop 22 self)
    ∙ ap (λ l. before ++ l) (take-append-drop 22 self)

pub untagged_bytes-requires : goal.untagged_bytes-requires
untagged_bytes-requires c = (same_bytes_decides (tags_bytes_of c.args.self.now) (0 ∷ [])).0 (sym c.has_no_tags.ensures ∙ c.if-has_no_tags.true)
