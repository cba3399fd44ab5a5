use Rattle.std.proofs.Common.{◌≡◌, ◌++◌, drop, map}
use Rattle.rapid_model.specs.Node.{To, Says, outputs}
use Rattle.rapid_join.specs.Answers.{request_of}
use Rattle.rapid_member.proofs.joining.send_requests.Given as goal

abbrev pub invariant-loop-request : goal.invariant-loop-request
invariant-loop-request l =
    l.said.items ++ outputs l.me (map (λ x. Says (To x.0) x.1) (map request_of (drop l.request-index l.requests)))
    ≡ outputs l.me (map (λ x. Says (To x.0) x.1) (map request_of l.requests))
