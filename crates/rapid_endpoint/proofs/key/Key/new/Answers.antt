use Rattle.std.proofs.Common.{ℕ, ◌<◌, length-append, arith}
use Rattle.std.proofs.lemmas.List.Elements.{All-append}
use Rattle.rapid_endpoint.proofs.key.Key.new.Goals as goal

pub invariant_of-result : goal.invariant_of-result
invariant_of-result c = (
  c.tell.ensures.length,
  record {
    length = omega (arith, length-append c.args.id c.args.endpoint, c.tell.ensures.length, c.tell-2.ensures.length);
    bytes = All-append (λ (b : ℕ). b < 256) c.args.id c.args.endpoint c.tell.ensures.bytes c.tell-2.ensures.bytes;
  },
)
