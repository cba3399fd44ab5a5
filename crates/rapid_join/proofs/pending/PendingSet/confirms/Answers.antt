use Rattle.std.proofs.Common.{◌≡◌, ap, ◌∙◌}
use Rattle.rapid_model.specs.Host.{confirms}
use Rattle.rapid_join.specs.Answers.{answered_of, answer_after}
use Rattle.rapid_join.proofs.Waiting.{told_to_all, none_left}
use Rattle.rapid_join.proofs.pending.PendingSet.confirms.Goals as goal

pub returns : goal.returns
returns c =
    let next = c.args.next.now in
    let keys = c.self.inside.joiners.keys in
    let start : c.into_iter-joiner-iterator.result ≡ keys = c.into_iter-joiner-iterator.ensures.into_iter_gives ∙ c.iter-joiner-items.ensures.rest in
    none_left answered_of (λ j. (j, answer_after next j)) c.loop-joiner.answers.items _ _ keys c.loop-joiner.invariant c.in-None.ensures.steps.0 start
    ∙ told_to_all next keys c.len.ensures.ordered
    ∙ ap (confirms next) c.self.view_is
