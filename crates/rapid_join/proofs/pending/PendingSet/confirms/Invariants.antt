use Rattle.std.proofs.Common.{◌≡◌, ◌++◌, map}
use Rattle.rapid_join.specs.Answers.{answered_of, answer_after}
use Rattle.rapid_join.proofs.pending.PendingSet.confirms.Given as goal

abbrev pub invariant-loop-joiner : goal.invariant-loop-joiner
invariant-loop-joiner l =
    map answered_of l.answers.items ++ map (λ j. (j, answer_after l.next j)) l.joiner-iterator ≡ map (λ j. (j, answer_after l.next j)) l.initial.joiner-iterator
