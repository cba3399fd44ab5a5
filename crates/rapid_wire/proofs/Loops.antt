-- Reading one value after another, as a loop does.
use Rattle.std.proofs.Common.{◌≡◌, ℕ, suc, ◌-◌, ◌+◌, ◌≤◌, ◌<◌, List, [], ◌∷◌, ◌++◌, Option, Some, None, refl, sym, ap, ◌∙◌, append_assoc, append-nil, arith}
use Rattle.rapid_wire.specs.declared.fault.WireFault.{WireFault}
use Rattle.rapid_wire.specs.declared.fault.WireFault.TheVariants as fault
use Rattle.rapid_wire.specs.Faults.{Fails}
use Rattle.rapid_wire.specs.Reading.{Reader, ◌>>=◌, many}

-- what was read before, and what is still read
abbrev pub with_front : {A : Type 0} → List A → Option (List A × List ℕ) → Option (List A × List ℕ)
with_front front read = read >>= λ x. Some (front ++ x.0, x.1)

regroup : {A : Type 0} (front : List A) (a : A) (read : Option (List A × List ℕ)) → with_front front (read >>= λ x. Some (a ∷ x.0, x.1)) ≡ with_front (front ++ a ∷ []) read
regroup front a (Some x) = ap (λ l. Some (l, x.1)) (sym (append_assoc front (a ∷ []) x.0))
regroup front a None = refl

pub goes_on : {A : Type 0} (r : Reader A) (front next : List A) (count i : ℕ) (bytes : List ℕ) (a : A) (rest after : List ℕ)
    (total : Option (List A × List ℕ)) → i < count → r bytes ≡ Some (a, rest) → after ≡ rest → next ≡ front ++ a ∷ []
    → with_front front (many (count - i) r bytes) ≡ total → with_front next (many (count - (i + 1)) r after) ≡ total
unfolding many
goes_on r front next count i bytes a rest after total lt h left grown so_far =
    let k : count - i ≡ suc (count - (i + 1)) = omega arith in
    let one : with_front front (many (count - i) r bytes) ≡ with_front (front ++ a ∷ []) (many (count - (i + 1)) r rest) =
    ap (λ n. with_front front (many n r bytes)) k
    ∙ ap (λ o. with_front front (o >>= λ x. many (count - (i + 1)) r x.1 >>= λ y. Some (x.0 ∷ y.0, y.1))) h
    ∙ regroup front a (many (count - (i + 1)) r rest) in
    (λ j. with_front (grown j) (many (count - (i + 1)) r (left j))) ∙ sym one ∙ so_far

pub ends : {A : Type 0} (e : WireFault) (r : Reader A) (front : List A) (count i : ℕ) (bytes : List ℕ) (total : Option (List A × List ℕ)) → i < count → Fails e (r bytes)
    → with_front front (many (count - i) r bytes) ≡ total → Fails e total
unfolding many
ends fault.TooLong r front count i bytes total lt h so_far = h
ends fault.BadVersion r front count i bytes total lt h so_far = h
ends fault.BadKind r front count i bytes total lt h so_far = h
ends fault.BadBody r front count i bytes total lt h so_far =
    let k : count - i ≡ suc (count - (i + 1)) = omega arith in
    let one : with_front front (many (count - i) r bytes) ≡ None =
    ap (λ n. with_front front (many n r bytes)) k
    ∙ ap (λ o. with_front front (o >>= λ x. many (count - (i + 1)) r x.1 >>= λ y. Some (x.0 ∷ y.0, y.1))) h in
    sym so_far ∙ one
ends fault.OutOfMemory r front count i bytes total lt h so_far = tt

pub is_done : {A : Type 0} (r : Reader A) (front : List A) (count i : ℕ) (bytes : List ℕ) (total : Option (List A × List ℕ)) → count ≤ i → with_front front (many (count - i) r bytes) ≡ total → total ≡ Some (front, bytes)
unfolding many
is_done r front count i bytes total le so_far =
    let k : count - i ≡ 0 = omega arith in
    let one : with_front front (many (count - i) r bytes) ≡ Some (front, bytes) =
    ap (λ n. with_front front (many n r bytes)) k ∙ ap (λ l. Some (l, bytes)) (append-nil front) in
    sym so_far ∙ one
