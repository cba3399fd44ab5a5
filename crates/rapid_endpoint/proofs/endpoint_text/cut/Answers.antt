use Rattle.std.proofs.Common.{◌==◌}
use Rattle.std.proofs.lemmas.Str.Pattern.{split_once_first}
use Rattle.rapid_endpoint.proofs.Hosts.{cut_gives}
use Rattle.rapid_endpoint.proofs.endpoint_text.cut.Goals as goal

pub returns : goal.returns
returns c =
    cut_gives (λ b. b == c.args.separator) c.args.text.now c.split_once.result
    (split_once_first c.args.separator c.args.text.now c.split_once.result c.split_once.ensures.cases c.requires)
