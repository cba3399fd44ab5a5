use Rattle.std.proofs.Common.{◌∙◌}
use Rattle.rapid_alerts.specs.Alerts.{alert_of}
use Rattle.rapid_alerts.proofs.Marks.{room_by}
use Rattle.rapid_alerts.proofs.index.Index.has_room.Goals as goal

pub returns : goal.returns
returns c = c.may_join.ensures ∙ room_by c.args.self.now (alert_of c.args.alert.now) c.args.marks c.joiners.result c.requires c.joiners.ensures
