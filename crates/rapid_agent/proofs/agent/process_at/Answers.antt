use Rattle.std.proofs.Common.{rules, ◌≡◌, ◌++◌, List, ℕ, Option, None, Some, Result, Ok, IfSome, ap, sym, ◌∙◌}
use Rattle.rapid_model.specs.Process.{endpoint}
use Rattle.rapid_endpoint.proofs.Keys.{endpoint_between}
use Rattle.rapid_signals.specs.declared.fault.RunningFault.{RunningFault}
use Rattle.rapid_agent.proofs.agent.process_at.Goals as goal

pub returns-clause-there : goal.returns-clause-there
returns-clause-there g c =
    ap endpoint c.of-me.ensures.whole ∙ endpoint_between c.in_ok-id.id c.args.at c.args.tags c.tell.ensures.length c.tell-2.ensures.length

-- The identifier that is given is the one that was found.
found : (r : Result (List ℕ) RunningFault) (given : Option (List ℕ)) (id at tags me : List ℕ) → r ≡ Ok id → me ≡ id ++ at ++ tags
    → IfSome given (λ x. r ≡ Ok x) → IfSome given (λ x. ◌≡◌ {A = Result (List ℕ) RunningFault} (Ok me) (Ok (x ++ at ++ tags)))
found r None id at tags me e f h = tt
found r (Some x) id at tags me e f h = let k : ◌≡◌ {A = Result (List ℕ) RunningFault} (Ok id) (Ok x) = sym e ∙ h in cc

pub returns-clause-given : goal.returns-clause-given
returns-clause-given g c =
    found c.identify.result c.args.given c.in_ok-id.id c.args.at c.args.tags c.of-me.result (search rules) c.of-me.ensures.whole c.identify.ensures.given
