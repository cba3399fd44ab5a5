use Rattle.std.proofs.Common.{subst}
use Rattle.rapid_endpoint.specs.ReadErrors.{fault_of}
use Rattle.rapid_alerts.specs.Alerts.{kind_of}
use Rattle.rapid_alerts.specs.Spelt.{Says}
use Rattle.rapid_wire.proofs.Batches.{is_before}
use Rattle.rapid_wire.proofs.Parts.{some_process, no_process, item_read, no_item}
use Rattle.rapid_wire.proofs.reading.add_alert.Goals as goal

pub returns-in-Ok-clause-added : goal.returns-in-Ok-clause-added
returns-in-Ok-clause-added c = record {
  item = record { ring = c.in_ok-ring.ring; kind = kind_of c.in_ok-kind.kind; subject = c.in-Ok.ensures.added.subject };
  read = item_read _ _ _ _ _ _ _ c.in_ok-ring.ensures c.in_ok-kind.ensures (some_process _ _ c.in-Ok.ensures.added.read);
  added = c.in-Ok.ensures.added.added;
}

pub returns-in-Err-NoProcess-clause-refused : goal.returns-in-Err-NoProcess-clause-refused
returns-in-Err-NoProcess-clause-refused c =
    let e = c.in-Err-NoProcess in
    let bytes = c.in_ok-kind.rest.now in
    let none = no_process bytes (fault_of e.field-0-0) (subst (Says bytes) e.field-0-is e.ensures.refused) in
    no_item _ _ _ _ _ c.in_ok-ring.ensures c.in_ok-kind.ensures none

pub returns-in-Ok-clause-next : goal.returns-in-Ok-clause-next
returns-in-Ok-clause-next c = is_before _ _ _ _ _ _ c.in-Ok.ensures.added
