use Rattle.std.proofs.Common.{◌∙◌, sym}
use Rattle.rapid_cut.proofs.Untagged.{is_bare}
use Rattle.rapid_cut.proofs.bare.Bare.of.Goals as goal

pub returns-clause-bare : goal.returns-clause-bare
returns-clause-bare c =
    is_bare c.args.process.now c.id-id.result c.endpoint-endpoint.result c.id-id.ensures c.endpoint-endpoint.ensures (sym c.has_no_tags.ensures ∙ c.if-not-has_no_tags.false)
