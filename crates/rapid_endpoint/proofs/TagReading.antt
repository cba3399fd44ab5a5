-- How tags are read, one further.
use Rattle.std.proofs.Common.{◌≡◌, ℕ, suc, ◌+◌, ◌-◌, ◌≤◌, ◌<◌, List, ◌++◌, length, take, drop, sym, ap, subst, ◌∙◌, length-append, arith}
use Rattle.std.specs.Prelude.{Result, Ok, Err}
use Rattle.std.proofs.Math.Seq.{take-append_seam, drop-append_seam}
use Rattle.rapid_model.specs.Tags.{Tag, TagsFault, AreTags, tags_of, tag_at, and_then, after_some, after_tags}
use Rattle.rapid_model.proofs.Tags.{spelt_tags_are_read, read_tags_are_spelt, tags_tell}
use Rattle.rapid_endpoint.specs.declared.read_error.ReadError.{ReadError}
use Rattle.rapid_endpoint.specs.ReadErrors.{fault_of, ReadsSpelt}

pub goes_on : (count i : ℕ) (before t : Tag) (bytes rest : List ℕ) (total : Result (List ℕ) TagsFault) → i < count
    → tag_at before bytes ≡ Ok (t, rest)
    → after_some (count - i) before bytes ≡ total → after_some (count - (i + 1)) t rest ≡ total
unfolding after_some
goes_on count i before t bytes rest total lt h so_far =
    let k : count - i ≡ suc (count - (i + 1)) = omega arith in
    sym (ap (λ n. after_some n before bytes) k ∙ ap (λ r. and_then r (λ u after. after_some (count - (i + 1)) u after)) h) ∙ so_far

pub ends : (count i : ℕ) (before : Tag) (bytes : List ℕ) (e : TagsFault) (total : Result (List ℕ) TagsFault)
    → i < count → tag_at before bytes ≡ Err e
    → after_some (count - i) before bytes ≡ total → total ≡ Err e
unfolding after_some
ends count i before bytes e total lt h so_far =
    let k : count - i ≡ suc (count - (i + 1)) = omega arith in
    sym so_far ∙ ap (λ n. after_some n before bytes) k
    ∙ ap (λ r. and_then r (λ u after. after_some (count - (i + 1)) u after)) h

pub is_done : (count i : ℕ) (before : Tag) (bytes : List ℕ) (total : Result (List ℕ) TagsFault) → count ≤ i
    → after_some (count - i) before bytes ≡ total → total ≡ Ok bytes
unfolding after_some
is_done count i before bytes total le so_far =
    let k : count - i ≡ 0 = omega arith in
    sym so_far ∙ ap (λ n. after_some n before bytes) k

-- What stands before these bytes, where they follow tags.
abbrev pub IsFront : List ℕ → List ℕ → Type 0
IsFront bytes rest =
    (length rest ≤ length bytes) × AreTags (tags_of (take (length bytes - length rest) bytes)) (take (length bytes - length rest) bytes) × (drop (length bytes - length rest) bytes ≡ rest)

pub front_is : (bytes rest : List ℕ) → after_tags bytes ≡ Ok rest → IsFront bytes rest
front_is bytes rest h =
    let r = read_tags_are_spelt bytes rest h in
    let front = r.0 in
    let long : length bytes ≡ length front + length rest = ap length r.2 ∙ length-append front rest in
    let n : length bytes - length rest ≡ length front = omega (arith, long) in
    let taken : take (length bytes - length rest) bytes ≡ front =
    (λ i. take (n i) (r.2 i)) ∙ take-append_seam front rest in
    let left : drop (length bytes - length rest) bytes ≡ rest =
    (λ i. drop (n i) (r.2 i)) ∙ drop-append_seam front rest in
    (omega (arith, long), subst (λ l. AreTags (tags_of l) l) (sym taken) r.1, left)

-- What was spelt is read.
pub spelt_is_read : (bytes front : List ℕ) (n : ℕ) → AreTags (tags_of front) front → bytes ≡ front ++ drop n bytes
    → length front ≡ n → ReadsSpelt bytes (Ok (front, n))
spelt_is_read bytes front n are whole long ts spelt rest h e =
    let t = tags_tell (tags_of front) ts front spelt (drop n bytes) rest are h (sym whole ∙ e) in
    let given : List ℕ → ℕ → Result (List ℕ × ℕ) ReadError = λ l k. Ok (l, k) in
    (λ i. given (t.1 i) ((sym long ∙ ap length t.1) i))

-- What is refused was not spelt.
pub refused_is_not_spelt : (bytes : List ℕ) (e : ReadError) → after_tags bytes ≡ Err (fault_of e)
    → ReadsSpelt bytes (Err e)
refused_is_not_spelt bytes e h ts spelt rest are is =
    let read = sym h ∙ ap after_tags is ∙ spelt_tags_are_read ts spelt rest are in absurd cc
