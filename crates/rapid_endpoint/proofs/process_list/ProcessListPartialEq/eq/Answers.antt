use Rattle.std.proofs.Common.{length, sym, ap, ◌∙◌}
use Rattle.std.proofs.lemmas.Slice.Eq.{bytes_eq-Decides}
use Rattle.rapid_endpoint.proofs.Listed.{count_is, same_lists, other_lengths}
use Rattle.rapid_endpoint.proofs.process_list.ProcessListPartialEq.eq.Goals as goal

pub returns-then-len : goal.returns-then-len
returns-then-len c =
    let m = count_is _ _ c.self.invariant ∙ ap length c.self.view_is ∙ sym c.len.ensures in
    let n = count_is _ _ c.other.invariant ∙ ap length c.other.view_is ∙ sym c.len-2.ensures in
    let mine = c.as_slice.ensures.value in
    let others = c.as_slice-then-len.ensures.value in
    let same = bytes_eq-Decides c.as_slice.result.now c.as_slice-then-len.result.now in
    rw (← c.self.view_is, ← c.other.view_is)
    (same_lists _ _ _ _ c.eq.result c.self.invariant c.other.invariant (
      λ t. (m ∙ c.if-len.true ∙ sym n, sym mine ∙ same.0 (sym c.eq.ensures ∙ t) ∙ others),
      λ p. c.eq.ensures ∙ same.1 (mine ∙ p.1 ∙ sym others),
    ))

pub returns-else-len : goal.returns-else-len
returns-else-len c =
    other_lengths c.args.self.now c.args.other.now _ _ c.len.ensures c.len-2.ensures c.if-len.false
