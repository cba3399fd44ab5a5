-- What a feed holds after each call.
use Rattle.std.proofs.Common.{◌≡◌, ℕ, true, false, List, [], ◌∷◌, ◌++◌, length, drop, Option, Some, None, Ok, Err, refl, sym, subst, arith}
use Rattle.std.proofs.lemmas.Bool.Decides.{nat_tests}
use Rattle.std.specs.Prelude.{is_some, ◌==◌, ◌↔◌}
use Rattle.rapid_model.specs.Message.{Message}
use Rattle.rapid_model.specs.Feed.{IsFront, Whole, IsIncomplete, Left}
use Rattle.rapid_wire.specs.declared.fault.WireFault.{WireFault}
use Rattle.rapid_wire.specs.declared.fault.WireFault.TheVariants as code
use Rattle.rapid_wire.specs.Feeding.{IsLasting, lasting_of, end_of, fed, IsFrontFault, IsNextOf, IsNext}

pub fed_open : (bytes piece : List ℕ) (o : Option WireFault) → is_some o ≡ false → end_of (bytes ++ piece) o ≡ fed (end_of bytes o) piece
fed_open bytes piece None h = refl
fed_open bytes piece (Some e) h = absurd cc

pub fed_failed : (bytes piece : List ℕ) (o : Option WireFault) → is_some o ≡ true → IsLasting o → end_of bytes o ≡ fed (end_of bytes o) piece
fed_failed bytes piece None h l = absurd cc
fed_failed bytes piece (Some code.TooLong) h l = refl
fed_failed bytes piece (Some code.BadVersion) h l = refl
fed_failed bytes piece (Some code.BadKind) h l = refl
fed_failed bytes piece (Some code.BadBody) h l = refl
fed_failed bytes piece (Some code.OutOfMemory) h l = absurd l

pub same_fault : (bytes : List ℕ) (o : Option WireFault) (e : WireFault) → o ≡ Some e → IsLasting o → IsNext (end_of bytes o) (end_of bytes o) (Err e)
same_fault bytes o e h l = subst (λ x. IsNext (end_of bytes x) (end_of bytes x) (Err e)) (sym h) (by e (subst IsLasting h l))
  where
    by : (e : WireFault) → IsLasting (Some e) → IsNext (end_of bytes (Some e)) (end_of bytes (Some e)) (Err e)
    by code.TooLong l = (refl, refl)
    by code.BadVersion l = (refl, refl)
    by code.BadKind l = (refl, refl)
    by code.BadBody l = (refl, refl)
    by code.OutOfMemory l = absurd l

pub next_none : (bytes : List ℕ) (o : Option WireFault) → o ≡ None → IsIncomplete bytes → IsNext (end_of bytes o) (end_of bytes o) (Ok None)
next_none bytes o h i = subst (λ x. IsNext (end_of bytes x) (end_of bytes x) (Ok None)) (sym h) (i, refl)

pub next_some : (bytes : List ℕ) (o : Option WireFault) (m : Message) (n : ℕ) → o ≡ None → IsFront bytes (Whole m (drop n bytes)) → IsNext (end_of bytes o) (end_of (drop n bytes) o) (Ok (Some m))
next_some bytes o m n h f = subst (λ x. IsNext (end_of bytes x) (end_of (drop n bytes) x) (Ok (Some m))) (sym h) (drop n bytes, f, refl)

pub next_fault : (bytes : List ℕ) (o : Option WireFault) (e : WireFault) → o ≡ None → IsFrontFault bytes e → IsNext (end_of bytes o) (end_of bytes (lasting_of e)) (Err e)
next_fault bytes o e h f = subst (λ x. IsNext (end_of bytes x) (end_of bytes (lasting_of e)) (Err e)) (sym h) (by e f)
  where
    by : (e : WireFault) → IsFrontFault bytes e → IsNextOf bytes (end_of bytes (lasting_of e)) (Err e)
    by code.TooLong f = (f, refl)
    by code.BadVersion f = (f, refl)
    by code.BadKind f = (f, refl)
    by code.BadBody f = (f, refl)
    by code.OutOfMemory f = (f, refl)

pub is_lasting : (e : WireFault) → IsLasting (lasting_of e)
is_lasting code.TooLong = tt
is_lasting code.BadVersion = tt
is_lasting code.BadKind = tt
is_lasting code.BadBody = tt
is_lasting code.OutOfMemory = tt

-- Nothing is left if no bytes are held.
pub left_none : (bytes : List ℕ) (o : Option WireFault) → is_some o ≡ false → ((length bytes == 0) ≡ true) ↔ (end_of bytes o ≡ Left [])
left_none [] None h = (λ e. refl, λ e. refl)
left_none (x ∷ xs) None h = (λ e. absurd (grind (arith, nat_tests)), λ e. absurd cc)
left_none bytes (Some e) h = absurd cc

-- If there was a fault, something is left.
pub fault_left : (bytes : List ℕ) (o : Option WireFault) → is_some o ≡ true → IsLasting o → (false ≡ true) ↔ (end_of bytes o ≡ Left [])
fault_left bytes None h l = absurd cc
fault_left bytes (Some code.TooLong) h l = (λ e. absurd cc, λ e. absurd cc)
fault_left bytes (Some code.BadVersion) h l = (λ e. absurd cc, λ e. absurd cc)
fault_left bytes (Some code.BadKind) h l = (λ e. absurd cc, λ e. absurd cc)
fault_left bytes (Some code.BadBody) h l = (λ e. absurd cc, λ e. absurd cc)
fault_left bytes (Some code.OutOfMemory) h l = absurd l
