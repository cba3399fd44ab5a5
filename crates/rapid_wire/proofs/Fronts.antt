-- What stands in front of a stream.
use Rattle.std.proofs.Common.{◌≡◌, ◌≢◌, ℕ, ◌+◌, ◌^◌, ◌<◌, ◌≤◌, List, [], ◌∷◌, ◌++◌, length, take, drop, get_or, Some, None, refl, sym, ap, subst, ◌∙◌, append_assoc, length-append, arith}
use Rattle.std.specs.Int.{w32, to_be_bytes, from_be_bytes}
use Rattle.std.proofs.lemmas.Nat.{be_bytes_4, from_be_bytes-to_be_bytes_4}
use Rattle.std.proofs.lemmas.List.{take_at, take-append-drop, length-take-le, length-drop, drop-drop}
use Rattle.std.proofs.lemmas.List.Elements.{All-take}
use Rattle.rapid_model.specs.Message.{Message}
use Rattle.rapid_model.specs.Frame.{IsMessage, kind_number, body_bytes, version, payload}
use Rattle.rapid_model.specs.Feed.{BadBody, BeginsWith, IsTooLong, IsIncomplete, IsFront, Whole, IsKind, HasFault, too_short, other_version, other_kind, other_body, BadVersion, BadKind}
use Rattle.rapid_wire.specs.Reading.{message_in}
use Rattle.rapid_wire.proofs.Pieces.{head_same, tail_same}
use Rattle.rapid_wire.proofs.Readers.{AreBytes, bounded}
use Rattle.rapid_wire.proofs.Spelt.{message_again}
use Rattle.rapid_wire.specs.declared.fault.WireFault.{WireFault as CodeFault}
use Rattle.rapid_wire.specs.declared.fault.WireFault.TheVariants as code
use Rattle.rapid_wire.specs.Faults.{Fails, IsFaultOf}
use Rattle.rapid_wire.specs.Feeding.{IsFrontFault}

-- the number in front
abbrev pub announced : List ℕ → ℕ
announced bytes = from_be_bytes w32 (take 4 bytes)

pub announced_is : (bytes more : List ℕ) (n : ℕ) → n < 2 ^ 32 → bytes ≡ to_be_bytes w32 n ++ more → announced bytes ≡ n
announced_is bytes more n h e =
    ap announced e ∙ ap (from_be_bytes w32) (take_at (to_be_bytes w32 n) more 4 refl) ∙ from_be_bytes-to_be_bytes_4 n h

pub starts : (bytes : List ℕ) → AreBytes bytes → 4 ≤ length bytes → bytes ≡ to_be_bytes w32 (announced bytes) ++ drop 4 bytes
starts bytes b h =
    let four = length-take-le 4 bytes h in
    let fits = bounded (take 4 bytes) (All-take (λ b. b < 256) 4 bytes b) in
    sym (take-append-drop 4 bytes) ∙ ap (λ l. l ++ drop 4 bytes) (sym (be_bytes_4 (take 4 bytes) _ four fits refl))

pub announced_below : (bytes : List ℕ) → AreBytes bytes → announced bytes < 2 ^ 32
announced_below bytes b =
    let fits = bounded (take 4 bytes) (All-take (λ b. b < 256) 4 bytes b) in
    omega (arith, fits 0, fits 1, fits 2, fits 3)

pub too_long : (bytes : List ℕ) → AreBytes bytes → 4 ≤ length bytes → 2097152 < announced bytes → IsTooLong bytes
too_long bytes b h l = record { length = announced bytes; rest = drop 4 bytes; above = l; below = announced_below bytes b; is = starts bytes b h }

-- a whole frame stands in front
pub begins : (bytes : List ℕ) → AreBytes bytes → 4 ≤ length bytes → announced bytes ≤ 2097152 → 4 + announced bytes ≤ length bytes →
    BeginsWith bytes (take (announced bytes) (drop 4 bytes)) (drop (4 + announced bytes) bytes)
begins bytes b h few long =
    let n = announced bytes in
    let whole = take n (drop 4 bytes) in
    let rest = length-drop 4 bytes in
    let size : length whole ≡ n = length-take-le n (drop 4 bytes) (omega (arith, rest, long)) in
    let parts : drop 4 bytes ≡ whole ++ drop (4 + n) bytes = sym (take-append-drop n (drop 4 bytes)) ∙ ap (λ l. whole ++ l) (drop-drop n 4 bytes) in
    record {
      fits = omega (arith, size, few);
      is = starts bytes b h ∙ ap (λ l. to_be_bytes w32 n ++ l) parts ∙ sym (append_assoc (to_be_bytes w32 n) whole (drop (4 + n) bytes))
          ∙ ap (λ k. (to_be_bytes w32 k ++ whole) ++ drop (4 + n) bytes) (sym size);
    }

-- a frame that begins has its length in front, and is there
pub begins_long : (bytes whole rest : List ℕ) → BeginsWith bytes whole rest → (announced bytes ≡ length whole) × (4 + length whole ≤ length bytes)
begins_long bytes whole rest h =
    let fits = h.fits in
    let regrouped : bytes ≡ to_be_bytes w32 (length whole) ++ (whole ++ rest) = h.is ∙ append_assoc (to_be_bytes w32 (length whole)) whole rest in
    let size : length bytes ≡ length (to_be_bytes w32 (length whole) ++ (whole ++ rest)) = ap length regrouped in
    let one = length-append (to_be_bytes w32 (length whole)) (whole ++ rest) in
    let two = length-append whole rest in
    let four : length (to_be_bytes w32 (length whole)) ≡ 4 = refl in
    (announced_is bytes (whole ++ rest) (length whole) (omega (arith, fits)) regrouped, omega (arith, size, one, two, four))

long_four : (bytes : List ℕ) → IsTooLong bytes → 4 ≤ length bytes
long_four bytes h =
    let size : length bytes ≡ length (to_be_bytes w32 h.length ++ h.rest) = ap length h.is in
    let one = length-append (to_be_bytes w32 h.length) h.rest in
    let four : length (to_be_bytes w32 h.length) ≡ 4 = refl in
    omega (arith, size, one, four)

pub long_is : (bytes : List ℕ) → IsTooLong bytes → 2097152 < announced bytes
long_is bytes h = let above = h.above in let same = announced_is bytes h.rest h.length h.below h.is in omega (arith, above, same)

-- too few bytes for a length
pub too_few : (bytes : List ℕ) → length bytes < 4 → IsIncomplete bytes
too_few bytes l =
    record {
      no_frame = λ whole rest h. (let b = begins_long bytes whole rest h in absurd (omega (arith, l, b.1)));
      no_fault = λ h. (let f = long_four bytes h in absurd (omega (arith, l, f)));
    }

-- too few bytes for the length
pub not_whole : (bytes : List ℕ) → announced bytes ≤ 2097152 → length bytes < 4 + announced bytes → IsIncomplete bytes
not_whole bytes few l =
    record {
      no_frame = λ whole rest h. (let b = begins_long bytes whole rest h in absurd (omega (arith, l, b.0, b.1)));
      no_fault = λ h. (let f = long_is bytes h in absurd (omega (arith, few, f)));
    }

-- a whole frame of which nothing is read is spelt as no message
pub bad_body : (kind : ℕ) (more : List ℕ) → IsKind kind → message_in kind more ≡ None → HasFault (version ∷ kind ∷ more) BadBody
bad_body kind more k e = other_body kind more k (λ m h same. refuted m h same)
  where
    refuted : (m : Message) → IsMessage m → version ∷ kind ∷ more ≡ payload m → ⊥
    refuted m h same =
        let tails = tail_same version version (kind ∷ more) (kind_number m.body ∷ (m.sender ++ body_bytes m.body)) same in
        let kinds = head_same kind (kind_number m.body) more (m.sender ++ body_bytes m.body) tails in
        let rest = tail_same kind (kind_number m.body) more (m.sender ++ body_bytes m.body) tails in
        let again : message_in kind more ≡ Some m = (λ i. message_in (kinds i) (rest i)) ∙ message_again m h in
        none_is_no (sym e ∙ again)
      where
        none_is_no : {A : Type 0} {x : A} → None ≡ Some x → ⊥
        none_is_no e = cc

-- the fault of a whole frame in front
pub fault_in_front : (bytes whole rest : List ℕ) → BeginsWith bytes whole rest → (e : CodeFault) → IsFaultOf whole e → IsFrontFault bytes e
fault_in_front bytes whole rest b code.TooLong h = absurd h
fault_in_front bytes whole rest b code.BadVersion h = (whole, rest, b, h)
fault_in_front bytes whole rest b code.BadKind h = (whole, rest, b, h)
fault_in_front bytes whole rest b code.BadBody h = (whole, rest, b, h)
fault_in_front bytes whole rest b code.OutOfMemory h = (whole, rest, b, h)

-- ---- the first two bytes

-- a list of two or more
pub opened : (whole : List ℕ) → 2 ≤ length whole → get_or whole 0 0 ≡ 2 → whole ≡ version ∷ get_or whole 1 0 ∷ drop 2 whole
opened [] l h = absurd (omega (arith, l))
opened (x ∷ []) l h = absurd (omega (arith, l))
opened (x ∷ y ∷ more) l h = ap (λ n. n ∷ y ∷ more) h

pub short_fault : (whole : List ℕ) → length whole < 2 → HasFault whole BadBody
short_fault whole l = too_short whole l

pub version_fault : (whole : List ℕ) → 2 ≤ length whole → get_or whole 0 0 ≢ 2 → HasFault whole BadVersion
version_fault [] l n = absurd (omega (arith, l))
version_fault (x ∷ []) l n = absurd (omega (arith, l))
version_fault (x ∷ y ∷ more) l n = other_version x y more n

pub kind_fault : (whole : List ℕ) → 2 ≤ length whole → get_or whole 0 0 ≡ 2 → (IsKind (get_or whole 1 0) → ⊥) → HasFault whole BadKind
kind_fault [] l h n = absurd (omega (arith, l))
kind_fault (x ∷ []) l h n = absurd (omega (arith, l))
kind_fault (x ∷ y ∷ more) l h n = subst (λ v. HasFault (v ∷ y ∷ more) BadKind) (sym h) (other_kind y more n)

-- what is not read of a whole frame is its fault
pub unread : (whole : List ℕ) (kind : ℕ) (rest : List ℕ) → whole ≡ version ∷ kind ∷ rest → IsKind kind → (e : CodeFault) → Fails e (message_in kind rest) → IsFaultOf whole e
unread whole kind rest w k code.TooLong h = h
unread whole kind rest w k code.BadVersion h = absurd h
unread whole kind rest w k code.BadKind h = absurd h
unread whole kind rest w k code.BadBody h = subst (λ l. HasFault l BadBody) (sym w) (bad_body kind rest k h)
unread whole kind rest w k code.OutOfMemory h = (kind, rest, k, w)

-- ---- the length

pub begins_at : (bytes head rest whole : List ℕ) (n : ℕ) → AreBytes bytes → 4 ≤ length bytes → head ≡ take 4 bytes → rest ≡ drop 4 bytes → n ≡ from_be_bytes w32 head → n ≤ 2097152 →
    n ≤ length rest → whole ≡ take n rest → BeginsWith bytes whole (drop (4 + n) bytes)
begins_at bytes head rest whole n b four h r e few long w =
    let same : n ≡ announced bytes = e ∙ ap (from_be_bytes w32) h in
    let size : length rest ≡ length (drop 4 bytes) = ap length r in
    let dropped = length-drop 4 bytes in
    let is : whole ≡ take (announced bytes) (drop 4 bytes) = w ∙ (λ i. take (same i) (r i)) in
    let found = begins bytes b four (omega (arith, same, few)) (omega (arith, same, size, dropped, long, four)) in
    subst (λ l. BeginsWith bytes l (drop (4 + n) bytes)) (sym is) (subst (λ k. BeginsWith bytes (take (announced bytes) (drop 4 bytes)) (drop (4 + k) bytes)) (sym same) found)

pub too_long_at : (bytes head : List ℕ) (n : ℕ) → AreBytes bytes → 4 ≤ length bytes → head ≡ take 4 bytes → n ≡ from_be_bytes w32 head → 2097152 < n → IsTooLong bytes
too_long_at bytes head n b four h e l =
    let same : n ≡ announced bytes = e ∙ ap (from_be_bytes w32) h in
    too_long bytes b four (omega (arith, same, l))

pub not_whole_at : (bytes head rest : List ℕ) (n : ℕ) → head ≡ take 4 bytes → rest ≡ drop 4 bytes → n ≡ from_be_bytes w32 head → n ≤ 2097152 → length rest < n → IsIncomplete bytes
not_whole_at bytes head rest n h r e few l =
    let same : n ≡ announced bytes = e ∙ ap (from_be_bytes w32) h in
    let size : length rest ≡ length (drop 4 bytes) = ap length r in
    let dropped = length-drop 4 bytes in
    not_whole bytes (omega (arith, same, few)) (omega (arith, same, size, dropped, l))

-- too great a length in front
pub length_fault : (bytes : List ℕ) (e : CodeFault) → e ≡ code.TooLong → IsTooLong bytes → IsFrontFault bytes e
length_fault bytes e h l = subst (IsFrontFault bytes) (sym h) l

-- the message of a whole frame in front
pub message_in_front : (bytes whole rest : List ℕ) (m : Message) → BeginsWith bytes whole rest → IsMessage m → whole ≡ payload m → IsFront bytes (Whole m rest)
message_in_front bytes whole rest m b h e = (h, subst (λ l. BeginsWith bytes l rest) e b)
