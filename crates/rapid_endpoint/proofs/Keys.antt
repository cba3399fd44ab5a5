-- A process as its key and the bytes of its tags.
use Rattle.std.proofs.Common.{◌≡◌, ℕ, ◌+◌, ◌-◌, ◌<◌, ◌≤◌, true, false, cond, List, ◌++◌, length, take, drop, sym, ap, subst, ◌∙◌, inl, inr, length-append, arith}
use Rattle.std.specs.Prelude.{All, Result, Ok, Err}
use Rattle.std.proofs.lemmas.Bool.{true≢false, lt-ltb, le-ltb, cases_lt}
use Rattle.std.proofs.lemmas.List.{take-append-le, drop-append-le, take-append-drop, take_all, length-take-le, length-drop, drop-drop}
use Rattle.std.proofs.lemmas.List.Elements.{All-append, All-take}
use Rattle.rapid_model.specs.Tags.{AreTags, tags_of, TagsFault, Truncated, after_tags}
use Rattle.rapid_model.specs.Process.{IsProcess, identifier, endpoint, before_rest, process_at}
use Rattle.rapid_model.proofs.Processes.{process_taken}
use Rattle.rapid_endpoint.specs.Joined.{second_part, endpoint_part}
use Rattle.rapid_endpoint.specs.Keys.{IsKey}
use Rattle.rapid_endpoint.proofs.TagLists.{bytes_are_few}
use Rattle.rapid_endpoint.proofs.TagReading.{front_is}

pub is_process : (key tags : List ℕ) → IsKey key → All (λ b. b < 256) tags → AreTags (tags_of tags) tags → IsProcess (key ++ tags)
is_process key tags h b t =
    let l = length-append key tags in
    record {
      long = omega (arith, l, h.length);
      bytes = All-append (λ b. b < 256) key tags h.bytes b;
      tags = subst (λ u. AreTags (tags_of u) u) (sym (second_part 22 key tags h.length)) t;
    }

-- how many bytes tags have
pub tags_fit : (key tags : List ℕ) → length key ≡ 22 → IsProcess (key ++ tags) → (1 ≤ length tags) × (length tags ≤ 521)
tags_fit key tags e h =
    let are : AreTags (tags_of tags) tags = subst (λ u. AreTags (tags_of u) u) (second_part 22 key tags e) h.tags in
    (omega (arith, ap length are.spelt), bytes_are_few (tags_of tags) tags are)

pub identifier_is : (key tags : List ℕ) → length key ≡ 22 → identifier (key ++ tags) ≡ identifier key
identifier_is key tags e = take-append-le 16 key tags (omega arith)

pub endpoint_is : (key tags : List ℕ) → length key ≡ 22 → endpoint (key ++ tags) ≡ endpoint key
endpoint_is key tags e =
    ap (take 6) (drop-append-le 16 key tags (omega arith))
    ∙ take-append-le 6 (drop 16 key) tags (let l = length-drop 16 key in omega arith)

-- between an identifier and tags
pub endpoint_between : (id at tags : List ℕ) → length id ≡ 16 → length at ≡ 6 → endpoint (id ++ at ++ tags) ≡ at
endpoint_between id at tags e f =
    let all = length-append id at in
    endpoint_is (id ++ at) tags (omega (arith, all, e, f)) ∙ endpoint_part id at e (omega (arith, all, e, f))

-- ---- reading

pub not_below : (m n : ℕ) → (m < n → true ≡ false) → n ≤ m
not_below m n h =
    elim (cases_lt m n) [
      | inl below ↦ absurd (true≢false (h below))
      | inr least ↦ least
    ]

pub too_short : (bytes : List ℕ) → length bytes < 22 → process_at bytes ≡ Err Truncated
unfolding process_at
too_short bytes h = ap (λ b. cond b (Err Truncated) (before_rest bytes (after_tags (drop 22 bytes)))) (lt-ltb (length bytes) 22 h)

with_tags : (bytes : List ℕ) → 22 ≤ length bytes → process_at bytes ≡ before_rest bytes (after_tags (drop 22 bytes))
unfolding process_at
with_tags bytes h = ap (λ b. cond b (Err Truncated) (before_rest bytes (after_tags (drop 22 bytes)))) (le-ltb (length bytes) 22 h)

-- all that is behind the key, as a part of the bytes
abbrev pub behind_it : List ℕ → List ℕ
behind_it bytes = take (length bytes - 22) (drop 22 bytes)

pub all_behind : (n : ℕ) (bytes : List ℕ) → take (length bytes - n) (drop n bytes) ≡ drop n bytes
all_behind n bytes = take_all (length bytes - n) (drop n bytes) (let l = length-drop n bytes in omega (arith, l))

behind_all : (bytes : List ℕ) → behind_it bytes ≡ drop 22 bytes
behind_all bytes = all_behind 22 bytes

pub refused_of : (bytes : List ℕ) (e : TagsFault) → 22 ≤ length bytes → after_tags (behind_it bytes) ≡ Err e → process_at bytes ≡ Err e
refused_of bytes e h r =
    with_tags bytes h ∙ ap (before_rest bytes) (subst (λ s. after_tags s ≡ Err e) (behind_all bytes) r)

-- the process takes all bytes but those that follow its tags
pub length_of : (bytes rest : List ℕ) → 22 ≤ length bytes → after_tags (behind_it bytes) ≡ Ok rest
    → process_at bytes ≡ Ok (take (length bytes - length rest) bytes, drop (length bytes - length rest) bytes)
length_of bytes rest h r =
    let after : after_tags (drop 22 bytes) ≡ Ok rest = subst (λ s. after_tags s ≡ Ok rest) (behind_all bytes) r in
    let front = front_is (drop 22 bytes) rest after in
    let long = length-drop 22 bytes in
    let n : 22 + (length (drop 22 bytes) - length rest) ≡ length bytes - length rest = omega (arith, long, front.0, h) in
    let left : drop (length bytes - length rest) bytes ≡ rest =
    sym (drop-drop (length (drop 22 bytes) - length rest) 22 bytes ∙ ap (λ k. drop k bytes) n) ∙ front.2 in
    let given : List ℕ → Result (List ℕ × List ℕ) TagsFault = λ l. Ok (take (length bytes - length rest) bytes, l) in
    with_tags bytes h ∙ ap (before_rest bytes) after ∙ ap given (sym left)

-- so many bytes are left behind the tags
pub no_more_behind : (bytes rest : List ℕ) → 22 ≤ length bytes → after_tags (behind_it bytes) ≡ Ok rest → length rest ≤ length bytes
no_more_behind bytes rest h r =
    let front = front_is (behind_it bytes) rest r in
    let long = ap length (behind_all bytes) ∙ length-drop 22 bytes in
    omega (arith, long, front.0)

-- what is read is a process
pub front_is_process : (bytes : List ℕ) (n : ℕ) → All (λ b. b < 256) bytes → process_at bytes ≡ Ok (take n bytes, drop n bytes)
    → IsProcess (take n bytes)
front_is_process bytes n h e =
    let taken = process_taken bytes (take n bytes, drop n bytes) e in
    record { long = taken.long; bytes = All-take (λ b. b < 256) n bytes h; tags = taken.tags }

-- ---- a process, made of its bytes

pub are_behind : (bytes : List ℕ) → IsProcess bytes → AreTags (tags_of (behind_it bytes)) (behind_it bytes)
are_behind bytes h = subst (λ t. AreTags (tags_of t) t) (sym (behind_all bytes)) h.tags

pub parts_are_all : (bytes key tags : List ℕ) → key ≡ take 22 bytes → tags ≡ behind_it bytes → key ++ tags ≡ bytes
parts_are_all bytes key tags e f = (λ i. e i ++ (f ∙ behind_all bytes) i) ∙ take-append-drop 22 bytes

pub parts_are_process : (bytes key tags : List ℕ) → IsProcess bytes → key ≡ take 22 bytes → tags ≡ behind_it bytes
    → (length key ≡ 22) × IsProcess (key ++ tags)
parts_are_process bytes key tags h e f =
    (ap length e ∙ length-take-le 22 bytes h.long, subst IsProcess (sym (parts_are_all bytes key tags e f)) h)
