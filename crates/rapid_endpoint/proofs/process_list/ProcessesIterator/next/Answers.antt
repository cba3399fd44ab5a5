use Rattle.std.proofs.Common.{length, ap, arith}
use Rattle.rapid_endpoint.proofs.Listed.{next_in}
use Rattle.rapid_endpoint.proofs.process_list.ProcessesIterator.next.Goals as goal

pub returns-clause-steps : goal.returns-clause-steps
returns-clause-steps c = next_in c.args.self.now.left _ c.args.self.now.bytes.now _ (omega (arith, c.if-self-eq0.false)) c.in-Ok.ensures.read

pub returns-clause-goes : goal.returns-clause-goes
returns-clause-goes c =
    let steps = ap length (returns-clause-steps c) in
    record { on = λ _. (tt, tt, omega (arith, steps)); keeps = tt; rests = λ _. tt }
