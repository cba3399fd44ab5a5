use Rattle.std.proofs.Common.{All, IfSome, subst}
use Rattle.rapid_model.specs.Configuration.{Configuration, configuration_id}
use Rattle.rapid_alerts.specs.Outboxes.{OwnedOutbox}
use Rattle.rapid_message.specs.Bodies.{IsFrom}
use Rattle.rapid_member.proofs.Flushing.{flushed_from}
use Rattle.rapid_member.proofs.member.parts.Raised.flush.Goals as goal

pub returns-clause-own : goal.returns-clause-own
returns-clause-own c =
    subst (λ (o : OwnedOutbox Configuration). IfSome c.in_ok-batch.batch (λ xs. All (IsFrom o.owner (configuration_id o.table)) xs)) c.self.view_is
    (flushed_from c.self.inside.outbox.table c.self.inside.outbox.owner c.self.inside.outbox.outbox _ c.raised.ensures.sound c.in_ok-batch.ensures.batch)
