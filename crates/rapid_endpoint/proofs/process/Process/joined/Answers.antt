use Rattle.rapid_endpoint.proofs.Keys.{is_process}
use Rattle.rapid_endpoint.proofs.process.Process.joined.Goals as goal

pub invariant_of-result : goal.invariant_of-result
invariant_of-result c =
    (c.tell.ensures.length, is_process c.args.key c.args.tags c.tell.ensures c.tell_bytes.ensures c.tell-2.ensures)
