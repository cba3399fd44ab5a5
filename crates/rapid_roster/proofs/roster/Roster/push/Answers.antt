use Rattle.std.proofs.Common.{◌≡◌, ◌∙◌, ◌++◌, ◌∷◌, [], arith, sym, ap, subst, length, false}
use Rattle.rapid_model.specs.Process.{is_in}
use Rattle.rapid_roster.specs.Heads.{head_of}
use Rattle.rapid_roster.specs.Indexed.{IsIndexed}
use Rattle.rapid_roster.proofs.roster.Roster.push.Goals as goal

pub invariant_of-self-in_err-note : goal.invariant_of-self-in_err-note
invariant_of-self-in_err-note c =
    subst (λ ps. IsIndexed ps c.note.new.firsts.entries c.note.new.others.items) (sym c.in_ok-reserve.ensures.items)
    (c.in_err-note.ensures.unchanged c.self.inside.processes.items c.self.invariant)

pub invariant_of-self-2 : goal.invariant_of-self-2
invariant_of-self-2 c =
    let ps = c.self.inside.processes.items in
    let p = c.args.process in
    let fresh : is_in ps p ≡ false = ap (λ qs. is_in qs p) c.self.view_is ∙ c.requires in
    let ok = c.reserve.new.self.ok.0 in
    let place : c.len.result ≡ length c.reserve.new.self.items = omega (arith, c.len.ensures, ok) in
    let noted = c.in_ok-note.ensures.noted ps p (place ∙ ap length c.in_ok-reserve.ensures.items) (c.of-head.ensures ∙ ap head_of c.as_ref.ensures) fresh c.self.invariant in
    subst (λ qs. IsIndexed qs c.note.new.firsts.entries c.note.new.others.items) (sym (c.push_reserved.ensures.items ∙ ap (λ qs. qs ++ p ∷ []) c.in_ok-reserve.ensures.items)) noted
