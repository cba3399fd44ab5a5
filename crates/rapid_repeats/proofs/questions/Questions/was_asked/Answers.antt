use Rattle.std.proofs.Common.{◌≡◌, ◌∙◌, None, Some, Contains, sym, ap, subst, position, slice_get}
use Rattle.std.proofs.lemmas.Map.Views.{btree_map_get_iff}
use Rattle.std.proofs.lemmas.Option.{same_Some}
use Rattle.rapid_model.specs.Process.{Process, same_bytes}
use Rattle.rapid_rings.proofs.Lookups.{found_member}
use Rattle.rapid_repeats.specs.Repeating.{IsTimely}
use Rattle.rapid_repeats.specs.Askers.{questions_in}
use Rattle.rapid_repeats.specs.Parts.{asked_in}
use Rattle.rapid_repeats.proofs.Tables.{keys_total, keys_exact}
use Rattle.rapid_repeats.proofs.Askers.{not_there, nowhere, asked_there, asked_here, nobody_asked}
use Rattle.rapid_repeats.proofs.questions.Questions.was_asked.Goals as goal

pub returns-in_default-clause-told : goal.returns-in_default-clause-told
returns-in_default-clause-told c here t h timely =
    let s = c.self.inside in
    let p = c.args.sender.now in
    let none : position (same_bytes p) s.askers ≡ None = ap (λ (q : Process). position (same_bytes q) s.askers) (sym c.as_ref.ensures) ∙ sym c.find.ensures ∙ not_there c.find.result c.in_default.not-Some in
    absurd (nobody_asked s.askers s.times.entries p c.args.asked t c.self.invariant (nowhere s.askers p none) (subst (λ qs. Contains qs ((p, c.args.asked), t)) (sym c.self.view_is) h))

pub returns-in-Some-get-clause-before : goal.returns-in-Some-get-clause-before
returns-in-Some-get-clause-before c here e =
    let s = c.self.inside in
    let p = c.args.sender.now in
    let place = c.in-Some.place in
    let before = c.in-Some-get.before.now in
    let at : slice_get s.askers place ≡ Some p = found_member s.askers p place (ap (λ (q : Process). position (same_bytes q) s.askers) (sym c.as_ref.ensures) ∙ sym c.find.ensures ∙ c.in-Some.is) in
    let found = (btree_map_get_iff keys_total keys_exact s.times c.len.ensures.ordered (place, c.args.asked) before).0 (sym c.in-Some-get.ensures.value) in
    (before, subst (λ qs. Contains qs ((p, c.args.asked), before)) c.self.view_is (asked_there s.askers s.times.entries place p c.args.asked before at found), c.is_timely.ensures.timely here e)

pub returns-in-Some-get-clause-told : goal.returns-in-Some-get-clause-told
returns-in-Some-get-clause-told c here t h timely =
    let s = c.self.inside in
    let p = c.args.sender.now in
    let place = c.in-Some.place in
    let at : slice_get s.askers place ≡ Some p = found_member s.askers p place (ap (λ (q : Process). position (same_bytes q) s.askers) (sym c.as_ref.ensures) ∙ sym c.find.ensures ∙ c.in-Some.is) in
    let there = asked_here s.askers s.times.entries place p c.args.asked t c.tell.ensures c.self.invariant at (subst (λ qs. Contains qs ((p, c.args.asked), t)) (sym c.self.view_is) h) in
    let found = (btree_map_get_iff keys_total keys_exact s.times c.len.ensures.ordered (place, c.args.asked) t).1 there in
    let same = same_Some _ _ (c.in-Some-get.ensures.value ∙ found) in
    c.is_timely.ensures.told here (subst (λ n. IsTimely (asked_in here c.args.asked) n c.args.now) (sym same) timely)

pub returns-in-None-clause-told : goal.returns-in-None-clause-told
returns-in-None-clause-told c here t h timely =
    let s = c.self.inside in
    let p = c.args.sender.now in
    let place = c.in-Some.place in
    let at : slice_get s.askers place ≡ Some p = found_member s.askers p place (ap (λ (q : Process). position (same_bytes q) s.askers) (sym c.as_ref.ensures) ∙ sym c.find.ensures ∙ c.in-Some.is) in
    let there = asked_here s.askers s.times.entries place p c.args.asked t c.tell.ensures c.self.invariant at (subst (λ qs. Contains qs ((p, c.args.asked), t)) (sym c.self.view_is) h) in
    let found = (btree_map_get_iff keys_total keys_exact s.times c.len.ensures.ordered (place, c.args.asked) t).1 there in
    let wrong = c.in-None.ensures.value ∙ found in
    cc
