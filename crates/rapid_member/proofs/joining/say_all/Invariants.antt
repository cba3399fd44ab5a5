use Rattle.std.proofs.Common.{◌≡◌, ◌++◌, drop, map, flat_map}
use Rattle.rapid_model.specs.Node.{outputs}
use Rattle.rapid_model.specs.Receive.{answer_to}
use Rattle.rapid_join.specs.Answers.{answered_of}
use Rattle.rapid_member.proofs.joining.say_all.Given as goal

abbrev pub invariant-loop-joiner : goal.invariant-loop-joiner
invariant-loop-joiner l =
    l.said.items ++ outputs l.me (flat_map (λ x. answer_to x.0 x.1) (map answered_of (drop l.joiner-index l.answers)))
    ≡ outputs l.me (flat_map (λ x. answer_to x.0 x.1) (map answered_of l.answers))
