use Rattle.std.proofs.Common.{◌∙◌, sym, ap, arith}
use Rattle.rapid_model.specs.Node.{configuration_of}
use Rattle.rapid_model.specs.Journal.{with_tick}
use Rattle.rapid_desk.specs.Records.{JournalValue, joins, last_ticks}
use Rattle.rapid_desk.proofs.Ticking.{grown, some_ticks, ticks_below}
use Rattle.rapid_desk.proofs.journal.Journal.join_tick.Goals as goal

pub unreachable-requires : goal.unreachable-requires
unreachable-requires c = some_ticks c.args.self.now.records c.requires (sym c.last_ticks.ensures ∙ c.in_default.is)

pub overflow_add-n : goal.overflow_add-n
overflow_add-n c =
    let few = ticks_below c.args.self.now.records c.in-Some.n c.requires (sym c.last_ticks.ensures ∙ c.in-Some.is) in
    omega (arith, few)

pub returns : goal.returns
returns c =
    let of = configuration_of c.self.inside.entry.value in
    let entry = ap (λ (v : JournalValue). v.entry) c.self.view_is in
    let room = ap (λ (v : JournalValue). joins v.records) c.self.view_is ∙ c.requires in
    let at = ap (λ (v : JournalValue). last_ticks v.records) c.self.view_is ∙ sym c.last_ticks.ensures ∙ c.in-Some.is in
    let more = grown of c.self.inside.records.items c.pop.new.self.items c.push_reserved.new.self.items c.pop.result c.self.inside.records.len c.in-Some.n c.pop.ensures.items c.self.inside.records.ok.0 c.pop.ensures.variant.1 room at c.push_reserved.ensures.items in
    let records = more ∙ ap (λ (v : JournalValue). with_tick v.records) c.self.view_is in
    λ i. record { entry = entry i; records = records i }
