use Rattle.std.proofs.Common.{◌≡◌, ◌-◌, refl, slice_get, subst, sym, arith}
use Rattle.std.proofs.lemmas.Option.{slice_get_within}
use Rattle.rapid_world.specs.Sent.{Sent, all_packets, numbered_packet}
use Rattle.rapid_world.proofs.Mails.{read_there}
use Rattle.rapid_world.proofs.mail.find_numbered.Goals as goal

pub bounds-sendings-place : goal.bounds-sendings-place
bounds-sendings-place c = let t = c.in-Some.ensures.found in let l = slice_get_within c.args.sendings.now c.in-Some.place t.sent t.at in omega (arith, l)

pub overflow_sub-number : goal.overflow_sub-number
overflow_sub-number c = let t = c.in-Some.ensures.found in let b = t.begins in omega (arith, b)

pub returns-in-Some : goal.returns-in-Some
returns-in-Some c =
    let t = c.in-Some.ensures.found in
    let same = read_there c.args.sendings.now c.in-Some.place t.sent c.index-sendings-place.result t.at c.index-sendings-place.is in
    rw c.packet.ensures (rw c.first.ensures (subst (λ (s : Sent). slice_get s.packets ((c.args.number - 1) - s.first) ≡ numbered_packet (all_packets c.args.sendings.now) c.args.number) (sym same) t.has))

pub returns-in-None : goal.returns-in-None
returns-in-None c = sym (c.in-None.ensures.none refl)
