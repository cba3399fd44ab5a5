use Rattle.std.proofs.Common.{◌≡◌, ◌∙◌, false, sym}
use Rattle.rapid_desk.specs.Records.{joins}
use Rattle.rapid_desk.proofs.Ticking.{apart_all, on_ok}
use Rattle.rapid_desk.proofs.journal.Journal.add_tick.Goals as goal

pub returns-clause-added : goal.returns-clause-added
returns-clause-added c =
    let old = c.args.self.now in
    let apart : joins old.records ≡ false = sym c.joins_last.ensures ∙ c.if-joins_last.false in
    let same = sym (apart_all old.records apart) in
    on_ok c.push.result (λ is. is ∙ (λ i. record { entry = old.entry; records = same i })) c.push.ensures.added
