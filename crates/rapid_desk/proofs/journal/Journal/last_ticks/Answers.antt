use Rattle.std.proofs.Common.{◌≡◌, ◌∙◌, length, Some, sym, ap, subst}
use Rattle.std.specs.Prelude.{◌-◌, slice_get}
use Rattle.rapid_model.specs.Node.{configuration_of}
use Rattle.rapid_desk.specs.Records.{JournalValue, last_ticks}
use Rattle.rapid_desk.proofs.Ticking.{last_is_at}
use Rattle.rapid_desk.proofs.journal.Journal.last_ticks.Goals as goal

pub returns-in-Some : goal.returns-in-Some
returns-in-Some c =
    let of = configuration_of c.self.inside.entry.value in
    let last = c.in-Some.last.now in
    let at = subst (λ xs. Some last ≡ slice_get xs (length xs - 1)) c.deref.ensures.value c.in-Some.ensures.value in
    c.ticks_of.ensures of ∙ sym (last_is_at of c.self.inside.records.items (Some last) at) ∙ ap (λ (v : JournalValue). last_ticks v.records) c.self.view_is
