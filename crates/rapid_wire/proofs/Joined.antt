-- Lists of bytes that grow at their end.
use Rattle.std.proofs.Common.{◌≡◌, ℕ, ◌+◌, ◌^◌, ◌<◌, ◌≤◌, ◌-◌, List, [], ◌∷◌, ◌++◌, length, take, get_or, sym, ap, subst, ◌∙◌, arith, append_assoc, append-nil, length-append}
use Rattle.std.specs.Prelude.{All, Some, map, slice_get}
use Rattle.std.specs.List.{concat}
use Rattle.std.proofs.lemmas.List.{take_more, map_push, length-map}
use Rattle.std.proofs.lemmas.List.Elements.{All-append, All-from_recursion, All-map}
use Rattle.std.proofs.lemmas.Option.{get_or_from_slice_get, slice_get_within}
use Rattle.rapid_model.specs.Alert.{Alert}
use Rattle.rapid_model.specs.Message.{Message, item_of}
use Rattle.rapid_model.specs.Frame.{IsItem, IsBatch, IsMessage, item_bytes, payload}
use Rattle.rapid_wire.proofs.Frames.{message_fits}

pub concat_push : (ps : List (List ℕ)) (p : List ℕ) → concat (ps ++ p ∷ []) ≡ concat ps ++ p
concat_push [] p = append-nil p
concat_push (q ∷ ps) p = ap (λ x. q ++ x) (concat_push ps p) ∙ sym (append_assoc q (concat ps) p)

-- one piece more
pub concat_more : (head : List ℕ) (ps : List (List ℕ)) (i : ℕ) (d : List ℕ) → i < length ps → (head ++ concat (take i ps)) ++ get_or ps i d ≡ head ++ concat (take (i + 1) ps)
concat_more head ps i d l =
    append_assoc head (concat (take i ps)) (get_or ps i d) ∙ ap (λ x. head ++ x) (sym (ap concat (take_more ps i d l) ∙ concat_push (take i ps) (get_or ps i d)))

-- the bytes of one piece more
pub length_more : (ps : List (List ℕ)) (i : ℕ) (d : List ℕ) (n : ℕ) → i < length ps → n ≡ length (concat (take i ps))
    → n + length (get_or ps i d) ≡ length (concat (take (i + 1) ps))
length_more ps i d n l e =
    let before = concat (take i ps) in
    let parts = length-append before (get_or ps i d) in
    let more : length (before ++ get_or ps i d) ≡ length (concat (take (i + 1) ps)) = ap length (concat_more [] ps i d l) in
    omega (arith, parts, more, e)

-- what each alert says
abbrev pub all_said : List Alert → List (List ℕ)
all_said xs = map item_bytes (map item_of xs)

all_said_push : (xs : List Alert) (x : Alert) → all_said (xs ++ x ∷ []) ≡ all_said xs ++ item_bytes (item_of x) ∷ []
all_said_push xs x = ap (map item_bytes) (map_push item_of xs x) ∙ map_push item_bytes (map item_of xs) (item_of x)

front_more : (xs : List Alert) (i : ℕ) (a : Alert) → slice_get xs i ≡ Some a → take (i + 1) xs ≡ take i xs ++ a ∷ []
front_more xs i a h = take_more xs i a (slice_get_within xs i a h) ∙ ap (λ (x : Alert). take i xs ++ x ∷ []) (get_or_from_slice_get xs i a a h)

-- one alert more
pub said_more : (head : List ℕ) (xs : List Alert) (i : ℕ) (a : Alert) → slice_get xs i ≡ Some a →
    (head ++ concat (all_said (take i xs))) ++ item_bytes (item_of a) ≡ head ++ concat (all_said (take (i + 1) xs))
said_more head xs i a h =
    append_assoc head (concat (all_said (take i xs))) (item_bytes (item_of a))
    ∙ ap (λ x. head ++ x)
    (sym (ap (λ ys. concat (all_said ys)) (front_more xs i a h) ∙ ap concat (all_said_push (take i xs) a) ∙ concat_push (all_said (take i xs)) (item_bytes (item_of a))))

-- the bytes of one alert more
pub length_said : (xs : List Alert) (i : ℕ) (a : Alert) (n : ℕ) → slice_get xs i ≡ Some a
    → n ≡ length (concat (all_said (take i xs))) → n + (2 + length a.subject) ≡ length (concat (all_said (take (i + 1) xs)))
length_said xs i a n h e =
    let before = concat (all_said (take i xs)) in
    let item = item_bytes (item_of a) in
    let parts = length-append before item in
    let more : length (before ++ item) ≡ length (concat (all_said (take (i + 1) xs))) = ap length (said_more [] xs i a h) in
    omega (arith, parts, more, e)

pub all_more : (P : Alert → Type 0) (xs : List Alert) (i : ℕ) (a : Alert) → slice_get xs i ≡ Some a → All P (take i xs) → P a → All P (take (i + 1) xs)
all_more P xs i a h so_far this =
    subst (All P) (sym (front_more xs i a h)) (All-append P (take i xs) (a ∷ []) so_far (All-from_recursion P (a ∷ []) (this, tt)))

-- alerts of which each can be spelt are a batch
pub is_batch : (xs : List Alert) → 1 ≤ length xs → length xs ≤ 2048 → All (λ a. IsItem (item_of a)) xs → IsBatch (map item_of xs)
is_batch xs some few h =
    let same = length-map xs item_of in
    record {
      some = omega (arith, some, same);
      few = omega (arith, few, same);
      items = All-map IsItem item_of xs h;
    }

-- the length of a message stands in four bytes
pub length_fits : (m : Message) (bytes : List ℕ) (n : ℕ) → IsMessage m → bytes ≡ ([] ++ (0 ∷ 0 ∷ 0 ∷ 0 ∷ [])) ++ payload m → n ≡ length bytes → n - 4 < 2 ^ 32
length_fits m bytes n h e l =
    let fits = message_fits m h in
    let whole : length bytes ≡ length ((0 ∷ 0 ∷ 0 ∷ 0 ∷ []) ++ payload m) = ap length e in
    let parts = length-append (0 ∷ 0 ∷ 0 ∷ 0 ∷ []) (payload m) in
    omega (arith, fits, whole, parts, l)
