-- What stands in front of bytes is the only thing that does, so a stream has one answer.
use Rattle.std.proofs.Common.{◌≡◌, ℕ, List, ◌∷◌, ◌++◌, length, refl, sym, ap, subst, ◌∙◌, append_assoc, arith, inl, inr}
use Rattle.std.specs.Prelude.{◌⊎◌}
use Rattle.std.specs.Int.{w32, to_be_bytes}
use Rattle.rapid_model.specs.Message.{Body, Batch, FastVote, Prepare, Promise, Accept, Accepted, Decision, PreJoin, Reply, JoinRequest, Confirm, Probe, ProbeAck, Leave, Message}
use Rattle.rapid_model.specs.Frame.{IsMessage, kind_number, body_bytes, version, payload}
use Rattle.rapid_model.specs.Feed.{WireFault, TooLong, BadVersion, BadKind, BadBody, BeginsWith, IsTooLong, IsIncomplete, IsKind, HasFault, too_short, other_version, other_kind, other_body, IsFront, Whole, Faulty, StreamEnd, Left, Fault, Stream, left, fault, next}
use Rattle.rapid_wire.proofs.Pieces.{head_same, tail_same, split, same_32}
use Rattle.rapid_wire.proofs.Frames.{same_payload}
use Rattle.rapid_wire.proofs.Fronts.{begins_long, long_is}

-- One whole frame stands in front, and one rest follows.
pub one_frame : (bytes v w r s : List ℕ) → BeginsWith bytes v r → BeginsWith bytes w s → (v ≡ w) × (r ≡ s)
one_frame bytes v w r s h k =
    let size = to_be_bytes w32 (length v) in
    let size' = to_be_bytes w32 (length w) in
    let fits = h.fits in
    let fits' = k.fits in
    let same : size ++ (v ++ r) ≡ size' ++ (w ++ s) = sym (append_assoc size v r) ∙ sym h.is ∙ k.is ∙ append_assoc size' w s in
    let parts = split size size' (v ++ r) (w ++ s) refl same in
    split v w r s (same_32 (length v) (length w) (omega (arith, fits)) (omega (arith, fits')) parts.0) parts.1

-- There is no whole frame if the length is too great.
not_too_long : (bytes whole rest : List ℕ) → BeginsWith bytes whole rest → IsTooLong bytes → ⊥
not_too_long bytes whole rest h k =
    let announced = begins_long bytes whole rest h in
    let fits = h.fits in
    let above = long_is bytes k in
    absurd (omega (arith, announced.0, fits, above))

is_kind : (b : Body) → IsKind (kind_number b)
is_kind (Batch id xs) = (omega arith, omega arith)
is_kind (FastVote id v) = (omega arith, omega arith)
is_kind (Prepare id b) = (omega arith, omega arith)
is_kind (Promise id b r) = (omega arith, omega arith)
is_kind (Accept id b v) = (omega arith, omega arith)
is_kind (Accepted id b v) = (omega arith, omega arith)
is_kind (Decision id v) = (omega arith, omega arith)
is_kind PreJoin = (omega arith, omega arith)
is_kind (Reply j a) = (omega arith, omega arith)
is_kind (JoinRequest id k) = (omega arith, omega arith)
is_kind (Confirm c) = (omega arith, omega arith)
is_kind (Probe id) = (omega arith, omega arith)
is_kind (ProbeAck id) = (omega arith, omega arith)
is_kind (Leave id k) = (omega arith, omega arith)

-- What spells a message has no fault.
not_spelt : (whole : List ℕ) (f : WireFault) (m : Message) → HasFault whole f → IsMessage m → whole ≡ payload m → ⊥
not_spelt _ _ m (too_short whole l) h e =
    let sizes : length whole ≡ length (payload m) = ap length e in
    absurd (omega (arith, l, sizes))
not_spelt _ _ m (other_version first kind more n) h e = n (head_same first version (kind ∷ more) (kind_number m.body ∷ (m.sender ++ body_bytes m.body)) e)
not_spelt _ _ m (other_kind kind more n) h e =
    let tails = tail_same version version (kind ∷ more) (kind_number m.body ∷ (m.sender ++ body_bytes m.body)) e in
    n (subst IsKind (sym (head_same kind (kind_number m.body) more (m.sender ++ body_bytes m.body) tails)) (is_kind m.body))
not_spelt _ _ m (other_body kind more k n) h e = n m h e

second_same : (x y a b : ℕ) (xs ys : List ℕ) → x ∷ a ∷ xs ≡ y ∷ b ∷ ys → a ≡ b
second_same x y a b xs ys e = cc

-- A whole frame has one fault.
one_fault : (v w : List ℕ) (f g : WireFault) → HasFault v f → HasFault w g → v ≡ w → f ≡ g
one_fault _ _ _ _ (too_short v l) (too_short w k) e = refl
one_fault _ _ _ _ (too_short v l) (other_version first kind more n) e = let sizes = ap length e in absurd (omega (arith, l, sizes))
one_fault _ _ _ _ (too_short v l) (other_kind kind more n) e = let sizes = ap length e in absurd (omega (arith, l, sizes))
one_fault _ _ _ _ (too_short v l) (other_body kind more k n) e = refl
one_fault _ _ _ _ (other_version first kind more n) (too_short w l) e = let sizes = ap length e in absurd (omega (arith, l, sizes))
one_fault _ _ _ _ (other_version first kind more n) (other_version first' kind' more' n') e = refl
one_fault _ _ _ _ (other_version first kind more n) (other_kind kind' more' n') e = absurd (n (head_same first version (kind ∷ more) (kind' ∷ more') e))
one_fault _ _ _ _ (other_version first kind more n) (other_body kind' more' k' n') e = absurd (n (head_same first version (kind ∷ more) (kind' ∷ more') e))
one_fault _ _ _ _ (other_kind kind more n) (too_short w l) e = let sizes = ap length e in absurd (omega (arith, l, sizes))
one_fault _ _ _ _ (other_kind kind more n) (other_version first' kind' more' n') e = absurd (n' (sym (head_same version first' (kind ∷ more) (kind' ∷ more') e)))
one_fault _ _ _ _ (other_kind kind more n) (other_kind kind' more' n') e = refl
one_fault _ _ _ _ (other_kind kind more n) (other_body kind' more' k' n') e = absurd (n (subst IsKind (sym (second_same version version kind kind' more more' e)) k'))
one_fault _ _ _ _ (other_body kind more k n) (too_short w l) e = refl
one_fault _ _ _ _ (other_body kind more k n) (other_version first' kind' more' n') e = absurd (n' (sym (head_same version first' (kind ∷ more) (kind' ∷ more') e)))
one_fault _ _ _ _ (other_body kind more k n) (other_kind kind' more' n') e = absurd (n' (subst IsKind (second_same version version kind kind' more more' e) k))
one_fault _ _ _ _ (other_body kind more k n) (other_body kind' more' k' n') e = refl

-- A fault in front is a length that is too great, or the fault of a whole frame.
abbrev Faults : List ℕ → WireFault → Type 0
Faults bytes f = (IsTooLong bytes × (f ≡ TooLong)) ⊎ ((whole : List ℕ) × (rest : List ℕ) × BeginsWith bytes whole rest × HasFault whole f)

faults : (bytes : List ℕ) (f : WireFault) → IsFront bytes (Faulty f) → Faults bytes f
faults bytes TooLong h = inl (h, refl)
faults bytes BadVersion h = inr h
faults bytes BadKind h = inr h
faults bytes BadBody h = inr h

one_fault_in_front : (bytes : List ℕ) (f g : WireFault) → IsFront bytes (Faulty f) → IsFront bytes (Faulty g) → f ≡ g
one_fault_in_front bytes f g h k = by (faults bytes f h) (faults bytes g k)
  where
    by : Faults bytes f → Faults bytes g → f ≡ g
    by (inl x) (inl y) = x.1 ∙ sym y.1
    by (inl x) (inr y) = absurd (not_too_long bytes y.0 y.1 y.2 x.0)
    by (inr x) (inl y) = absurd (not_too_long bytes x.0 x.1 x.2 y.0)
    by (inr x) (inr y) = one_fault x.0 y.0 f g x.3 y.3 (one_frame bytes x.0 y.0 x.1 y.1 x.2 y.2).0

pub no_fault_and_message : (bytes : List ℕ) (f : WireFault) (m : Message) (rest : List ℕ) → IsFront bytes (Faulty f) → IsFront bytes (Whole m rest) → ⊥
no_fault_and_message bytes f m rest h k = by (faults bytes f h)
  where
    by : Faults bytes f → ⊥
    by (inl x) = not_too_long bytes (payload m) rest k.1 x.0
    by (inr x) = not_spelt x.0 f m x.3 k.0 (one_frame bytes x.0 (payload m) x.1 rest x.2 k.1).0

no_fault_where_incomplete : (bytes : List ℕ) (f : WireFault) → IsIncomplete bytes → IsFront bytes (Faulty f) → ⊥
no_fault_where_incomplete bytes f i h = by (faults bytes f h)
  where
    by : Faults bytes f → ⊥
    by (inl x) = i.no_fault x.0
    by (inr x) = i.no_frame x.0 x.1 x.2

-- A stream has one answer.
pub one_answer : (b c : List ℕ) (ms ns : List Message) (one other : StreamEnd) → Stream b ms one → Stream c ns other → b ≡ c → (ms ≡ ns) × (one ≡ other)
one_answer _ _ _ _ _ _ (left b i) (left c j) e = (refl, ap Left e)
one_answer _ _ _ _ _ _ (left b i) (fault c f x) e = absurd (no_fault_where_incomplete c f (subst IsIncomplete e i) x)
one_answer _ _ _ _ _ _ (left b i) (next c rest m ms end x t) e = absurd ((subst IsIncomplete e i).no_frame (payload m) rest x.1)
one_answer _ _ _ _ _ _ (fault b f x) (left c j) e = absurd (no_fault_where_incomplete b f (subst IsIncomplete (sym e) j) x)
one_answer _ _ _ _ _ _ (fault b f x) (fault c g y) e = (refl, ap Fault (one_fault_in_front c f g (subst (λ l. IsFront l (Faulty f)) e x) y))
one_answer _ _ _ _ _ _ (fault b f x) (next c rest m ms end y t) e = absurd (no_fault_and_message c f m rest (subst (λ l. IsFront l (Faulty f)) e x) y)
one_answer _ _ _ _ _ _ (next b rest m ms end x t) (left c j) e = absurd ((subst IsIncomplete (sym e) j).no_frame (payload m) rest x.1)
one_answer _ _ _ _ _ _ (next b rest m ms end x t) (fault c f y) e = absurd (no_fault_and_message b f m rest (subst (λ l. IsFront l (Faulty f)) (sym e) y) x)
one_answer _ _ _ _ _ _ (next b rest m ms end x t) (next c rest' n ns end' y u) e =
    let here : IsFront c (Whole m rest) = subst (λ l. IsFront l (Whole m rest)) e x in
    let whole = one_frame c (payload m) (payload n) rest rest' here.1 y.1 in
    let first = same_payload m n x.0 y.0 whole.0 in
    let others = one_answer rest rest' ms ns end end' t u whole.1 in
    (same_list m n ms ns first others.0, others.1)
  where
    same_list : (m n : Message) (ms ns : List Message) → m ≡ n → ms ≡ ns → m ∷ ms ≡ n ∷ ns
    same_list m n ms ns f r = cc
