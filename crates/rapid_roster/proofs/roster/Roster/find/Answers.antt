use Rattle.std.proofs.Common.{◌≡◌, ◌∙◌, ℕ, sym, ap, subst, true≢false, Some, None, Contains, IfSome, IfNone, slice_get, position}
use Rattle.rapid_model.specs.Process.{same_bytes}
use Rattle.rapid_roster.specs.Heads.{head_of}
use Rattle.rapid_roster.specs.Indexed.{noted_for}
use Rattle.rapid_roster.proofs.Indexing.{is_there, unnoted, among}
use Rattle.rapid_roster.proofs.roster.Roster.find.Goals as goal

pub returns-in_err-first : goal.returns-in_err-first
returns-in_err-first c =
    let p = c.args.process.now in
    let firsts = c.self.inside.firsts.entries in
    let none : noted_for firsts (head_of p) ≡ None = ap (noted_for firsts) (sym c.of.ensures) ∙ sym c.in_err-first.ensures.value in
    c.from_residual.ensures ∙ sym (unnoted c.self.inside.processes.items p firsts c.self.inside.others.items c.self.invariant none) ∙ ap (position (same_bytes p)) c.self.view_is

pub returns-then-is_at : goal.returns-then-is_at
returns-then-is_at c =
    let p = c.args.process.now in
    let ps = c.self.inside.processes.items in
    let first = c.in_ok-first.field-0.now in
    let at : slice_get ps first ≡ Some p = subst (λ qs. slice_get qs first ≡ Some p) c.as_slice-processes.ensures.value (c.is_at.ensures.there c.if-is_at.true) in
    sym (is_there ps p first (λ k there. c.self.invariant.distinct k first p there at) at) ∙ ap (position (same_bytes p)) c.self.view_is

pub returns : goal.returns
returns c =
    let p = c.args.process.now in
    let ps = c.self.inside.processes.items in
    let firsts = c.self.inside.firsts.entries in
    let first = c.in_ok-first.field-0.now in
    let processes = c.as_slice-processes.ensures.value in
    let noted : noted_for firsts (head_of p) ≡ Some first = ap (noted_for firsts) (sym c.of.ensures) ∙ sym c.in_ok-first.ensures.value in
    among ps p firsts c.self.inside.others.items first c.find_among.result c.self.invariant noted
    (λ at. true≢false (sym (c.is_at.ensures.told (subst (λ qs. slice_get qs first ≡ Some p) (sym processes) at)) ∙ c.if-is_at.false))
    (subst (λ qs. IfSome c.find_among.result (λ i. slice_get qs i ≡ Some p)) processes c.find_among.ensures.found)
    (subst (λ qs. IfNone c.find_among.result ((i : ℕ) → Contains c.self.inside.others.items i → slice_get qs i ≡ Some p → ⊥)) processes
    (subst (λ ns. IfNone c.find_among.result ((i : ℕ) → Contains ns i → slice_get c.as_slice-processes.result.now i ≡ Some p → ⊥)) c.as_slice.ensures.value c.find_among.ensures.none))
    ∙ ap (position (same_bytes p)) c.self.view_is
