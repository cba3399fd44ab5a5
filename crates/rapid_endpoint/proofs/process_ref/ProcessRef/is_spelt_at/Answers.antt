use Rattle.std.proofs.Common.{◌≡◌, ◌<◌, length, take, drop, refl, sym, ap, ◌∙◌, arith}
use Rattle.rapid_model.proofs.Orders.{same_bytes_decides}
use Rattle.rapid_endpoint.specs.Joined.{first_part, second_part}
use Rattle.rapid_endpoint.proofs.Begun.{has_room, has_key, no_longer, tags_decide}
use Rattle.rapid_endpoint.proofs.Keys.{all_behind}
use Rattle.rapid_endpoint.proofs.process_ref.ProcessRef.is_spelt_at.Goals as goal

pub returns-in_default-clause-read : goal.returns-in_default-clause-read
returns-in_default-clause-read c = (
  λ e. cc,
  λ e. let short : length c.args.bytes.now < 22 = c.in_default.ensures.short.0 refl in
      let long = has_room c.args.self.now c.args.bytes.now _ c.tell.ensures e in
      absurd (omega (arith, short, long)),
)

pub returns-then-eq-clause-read : goal.returns-then-eq-clause-read
returns-then-eq-clause-read c =
    let own : take 22 c.args.self.now ≡ c.self.inside.key =
    ap (take 22) (sym c.self.view_is) ∙ first_part 22 c.self.inside.key c.self.inside.tags.now c.self.invariant.0 in
    let same : c.in-Some.key ≡ c.self.inside.key = (same_bytes_decides _ _).0 (sym c.eq.ensures ∙ c.if-eq.true) in
    tags_decide c.args.self.now c.args.bytes.now c.in-Some.key _ c.self.inside.tags.now c.begin_with.result c.tell.ensures
    c.in-Some.ensures.front (same ∙ sym own) (all_behind 22 c.args.bytes.now)
    (sym (second_part 22 c.self.inside.key c.self.inside.tags.now c.self.invariant.0) ∙ ap (drop 22) c.self.view_is) c.begin_with.ensures

pub returns-then-eq-clause-within : goal.returns-then-eq-clause-within
returns-then-eq-clause-within c e = no_longer c.args.self.now c.args.bytes.now _ ((returns-then-eq-clause-read c).0 e)

pub returns-else-eq-clause-read : goal.returns-else-eq-clause-read
returns-else-eq-clause-read c =
    let own : take 22 c.args.self.now ≡ c.self.inside.key =
    ap (take 22) (sym c.self.view_is) ∙ first_part 22 c.self.inside.key c.self.inside.tags.now c.self.invariant.0 in (
      λ e. cc,
      λ e. c.eq.ensures ∙ (same_bytes_decides _ _).1
          (c.in-Some.ensures.front ∙ has_key c.args.self.now c.args.bytes.now _ c.tell.ensures e ∙ own),
    )
