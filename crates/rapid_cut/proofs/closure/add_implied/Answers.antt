use Rattle.std.proofs.Common.{◌≡◌, ◌∙◌, ℕ, not, ◌&&◌, refl, ap, sym, subst, arith}
use Rattle.std.specs.FinSet as set
use Rattle.rapid_model.specs.Process.{Process}
use Rattle.rapid_model.specs.Reports.{is_implied}
use Rattle.rapid_alerts.specs.RingMasks.{has_ring}
use Rattle.rapid_cut.specs.Closing.{AddsImplied}
use Rattle.rapid_cut.proofs.Fresh.{adds_for, adds_none, adds_nothing}
use Rattle.rapid_cut.proofs.Passing.{adds_implied}
use Rattle.rapid_cut.proofs.closure.add_implied.Goals as goal

pub returns-clause-direct : goal.returns-clause-direct
returns-clause-direct g c =
    let r = c.args.known.now.reports.direct in
    let added = c.add.new.self.reports.direct in
    let s = c.as_ref-process.result in
    adds_none r added s 0 refl (adds_for c.new-subject.result.process.now s 0 r added c.new-subject.ensures.process c.in_ok-add.ensures.direct)

pub returns-clause-added : goal.returns-clause-added
returns-clause-added g c =
    let t = g.T.ObserverTable.observers c.args.table.now in
    let r = c.args.known.now.reports.all in
    let added = c.add.new.self.reports.all in
    let s = c.as_ref-process.result in
    let rings = c.implied_rings-all.result in
    let same : c.to_process.result ≡ s = c.to_process.ensures ∙ sym c.as_ref-process.ensures in
    let implied = subst (λ (p : Process). (k : ℕ) → has_ring rings k ≡ (not (has_ring c.on-so_far.result.all k) && is_implied t c.args.known.now.reports.direct (p, k))) same c.implied_rings-all.ensures in
    subst (λ p. AddsImplied t c.args.known.now.reports.direct p r added) c.as_ref-process.ensures
    (adds_implied t c.args.known.now.reports.direct s r added
    c.on-so_far.result.all rings c.on-so_far.ensures.all implied
    (adds_for c.new-subject.result.process.now s rings r added c.new-subject.ensures.process c.in_ok-add.ensures.all))

pub returns-then-all-eq0-clause-added : goal.returns-then-all-eq0-clause-added
returns-then-all-eq0-clause-added g c =
    let t = g.T.ObserverTable.observers c.args.table.now in
    let r = c.args.known.now.reports.all in
    let s = c.as_ref-process.result in
    let rings = c.implied_rings-all.result in
    let same : c.to_process.result ≡ s = c.to_process.ensures ∙ sym c.as_ref-process.ensures in
    let implied = subst (λ (p : Process). (k : ℕ) → has_ring rings k ≡ (not (has_ring c.on-so_far.result.all k) && is_implied t c.args.known.now.reports.direct (p, k))) same c.implied_rings-all.ensures in
    subst (λ p. AddsImplied t c.args.known.now.reports.direct p r r) c.as_ref-process.ensures
    (adds_implied t c.args.known.now.reports.direct s r r c.on-so_far.result.all rings c.on-so_far.ensures.all implied
    (adds_nothing r s rings (omega (arith, c.if-all-eq0.true))))

pub add-requires-clause-direct : goal.add-requires-clause-direct
add-requires-clause-direct g c k =
    ap (λ (p : Process). set.contains c.args.known.now.reports.direct (p, k)) c.new-subject.ensures.process ∙ c.on-so_far.ensures.direct k

pub add-requires-clause-all : goal.add-requires-clause-all
add-requires-clause-all g c k =
    ap (λ (p : Process). set.contains c.args.known.now.reports.all (p, k)) c.new-subject.ensures.process ∙ c.on-so_far.ensures.all k
