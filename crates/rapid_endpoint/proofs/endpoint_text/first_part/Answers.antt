use Rattle.rapid_endpoint.proofs.Hosts.{first_part_gives}
use Rattle.rapid_endpoint.proofs.endpoint_text.first_part.Goals as goal

pub returns : goal.returns
returns c = first_part_gives c.args.host.now c.cut.result c.cut.ensures
