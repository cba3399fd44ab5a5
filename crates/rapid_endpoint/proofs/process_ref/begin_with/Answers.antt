use Rattle.std.proofs.lemmas.Bool.Decides.{Decides-eqb}
use Rattle.std.proofs.lemmas.Slice.Eq.{starts_is}
use Rattle.rapid_endpoint.proofs.process_ref.begin_with.Goals as goal

pub returns-in_default : goal.returns-in_default
returns-in_default c =
    let is = starts_is Decides-eqb c.args.bytes.now c.args.front.now c.starts_with.result c.starts_with.ensures.value in
    (is.0, λ e. is.1 _ e)
