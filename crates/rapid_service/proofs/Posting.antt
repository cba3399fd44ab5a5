-- The frames that are posted for what a node says.
use Rattle.std.proofs.Common.{◌≡◌, ℕ, ◌+◌, ◌<◌, true, false, not, cond, List, [], ◌∷◌, ◌++◌, append-nil, append_assoc, length, map, flat_map, take, drop, get_or, Option, Result, Ok, Err, OnErr, refl, ap, sym, ◌∙◌}
use Rattle.std.specs.Option.{option_to_list}
use Rattle.std.proofs.lemmas.List.{take_more, take-append-drop, map-append}
use Rattle.std.proofs.lemmas.List.Elements.{filter-append}
use Rattle.rapid_model.specs.Bytes.{Endpoint}
use Rattle.rapid_model.specs.Process.{Process, endpoint, same_bytes}
use Rattle.rapid_model.specs.Configuration.{Configuration}
use Rattle.rapid_model.specs.Frame.{frame}
use Rattle.rapid_model.specs.Message.{Message}
use Rattle.rapid_model.specs.Node.{Destination, To, Others, Output}
use Rattle.rapid_model.specs.Packets.{other_members, packet_to, packets_to, packets_of}
use Rattle.rapid_service.specs.Posting.{Posting, posting_of, postings, to_each, all_but, present_in, PostsSome}

flat_append : {A B : Type 0} (f : A → List B) (xs ys : List A) → flat_map f (xs ++ ys) ≡ flat_map f xs ++ flat_map f ys
flat_append f [] ys = refl
flat_append f (x ∷ xs) ys = ap (λ l. f x ++ l) (flat_append f xs ys) ∙ sym (append_assoc (f x) (flat_map f xs) (flat_map f ys))

-- ---- those to whom a frame goes

-- One member more.
pub all_but_more : (me : Process) (ps : List Process) (i : ℕ) (p : Process) → i < length ps → p ≡ get_or ps i p → all_but me (take (i + 1) ps) ≡ all_but me (take i ps) ++ all_but me (p ∷ [])
all_but_more me ps i p l is =
    ap (all_but me) (take_more ps i p l ∙ ap (λ x. take i ps ++ x ∷ []) (sym is))
    ∙ filter-append (λ q. not (same_bytes q me)) (take i ps) (p ∷ [])

pub itself : (me p : Process) → same_bytes p me ≡ true → all_but me (p ∷ []) ≡ []
itself me p e = ap (λ b. cond (not b) (p ∷ []) []) e

pub another : (me p : Process) → same_bytes p me ≡ false → all_but me (p ∷ []) ≡ p ∷ []
another me p e = ap (λ b. cond (not b) (p ∷ []) []) e

-- One place more.
pub present_more : (ps : List (Option Process)) (i : ℕ) (p : Option Process) → i < length ps → p ≡ get_or ps i p → present_in (take (i + 1) ps) ≡ present_in (take i ps) ++ option_to_list p
present_more ps i p l is =
    ap present_in (take_more ps i p l ∙ ap (λ x. take i ps ++ x ∷ []) (sym is))
    ∙ flat_append option_to_list (take i ps) (p ∷ [])
    ∙ ap (λ l. present_in (take i ps) ++ l) (append-nil (option_to_list p))

pub to_each_append : (bytes : List ℕ) (ps qs : List Process) → to_each bytes (ps ++ qs) ≡ to_each bytes ps ++ to_each bytes qs
to_each_append bytes ps qs = map-append (λ p. (endpoint p, bytes)) ps qs

-- ---- what a message comes to

pub for_one : (view : Option Configuration) (me : Process) (o : Output) (bytes : List ℕ) (e : Endpoint) → bytes ≡ frame o.message → To e ≡ o.to → (e, bytes) ∷ [] ≡ postings view me (o ∷ [])
for_one view me o bytes e is to =
    ap (λ b. (e, b) ∷ []) is
    ∙ ap (λ (d : Destination). map posting_of (packets_to (other_members view me) o.message d ++ [])) to

each_packet : (m : Message) (ps : List Process) → to_each (frame m) ps ≡ map posting_of (map (λ p. packet_to m (endpoint p)) ps ++ [])
each_packet m [] = refl
each_packet m (p ∷ ps) = ap (λ l. (endpoint p, frame m) ∷ l) (each_packet m ps)

pub for_others : (view : Option Configuration) (me : Process) (o : Output) (bytes : List ℕ) → bytes ≡ frame o.message → Others ≡ o.to → to_each bytes (other_members view me) ≡ postings view me (o ∷ [])
for_others view me o bytes is to =
    ap (λ b. to_each b (other_members view me)) is
    ∙ each_packet o.message (other_members view me)
    ∙ ap (λ (d : Destination). map posting_of (packets_to (other_members view me) o.message d ++ [])) to

pub postings_append : (view : Option Configuration) (me : Process) (os ps : List Output) → postings view me (os ++ ps) ≡ postings view me os ++ postings view me ps
postings_append view me os ps =
    ap (map posting_of) (flat_append (packets_of (other_members view me)) os ps)
    ∙ map-append posting_of (flat_map (packets_of (other_members view me)) os) (flat_map (packets_of (other_members view me)) ps)

-- One message more.
pub postings_more : (view : Option Configuration) (me : Process) (os : List Output) (i : ℕ) (o : Output) → i < length os → o ≡ get_or os i o →
    postings view me (take (i + 1) os) ≡ postings view me (take i os) ++ postings view me (o ∷ [])
postings_more view me os i o l is =
    ap (postings view me) (take_more os i o l ∙ ap (λ x. take i os ++ x ∷ []) (sym is))
    ∙ postings_append view me (take i os) (o ∷ [])

-- The members before a place, and the others.
pub each_first : (bytes : List ℕ) (me : Process) (ps : List Process) (i : ℕ) → to_each bytes (all_but me ps) ≡ to_each bytes (all_but me (take i ps)) ++ to_each bytes (all_but me (drop i ps))
each_first bytes me ps i =
    ap (λ l. to_each bytes (all_but me l)) (sym (take-append-drop i ps))
    ∙ ap (to_each bytes) (filter-append (λ q. not (same_bytes q me)) (take i ps) (drop i ps))
    ∙ to_each_append bytes (all_but me (take i ps)) (all_but me (drop i ps))

-- The same of those who are there.
pub present_first : (bytes : List ℕ) (ps : List (Option Process)) (i : ℕ) → to_each bytes (present_in ps) ≡ to_each bytes (present_in (take i ps)) ++ to_each bytes (present_in (drop i ps))
present_first bytes ps i =
    ap (λ l. to_each bytes (present_in l)) (sym (take-append-drop i ps))
    ∙ ap (to_each bytes) (flat_append option_to_list (take i ps) (drop i ps))
    ∙ to_each_append bytes (present_in (take i ps)) (present_in (drop i ps))

-- The same of messages, with one between.
pub postings_first : (view : Option Configuration) (me : Process) (os : List Output) (i : ℕ) (o : Output) → i < length os → o ≡ get_or os i o →
    postings view me os ≡ postings view me (take i os) ++ (postings view me (o ∷ []) ++ postings view me (drop (i + 1) os))
postings_first view me os i o l is =
    ap (postings view me) (sym (take-append-drop (i + 1) os))
    ∙ postings_append view me (take (i + 1) os) (drop (i + 1) os)
    ∙ ap (λ ps. ps ++ postings view me (drop (i + 1) os)) (postings_more view me os i o l is)
    ∙ append_assoc (postings view me (take i os)) (postings view me (o ∷ [])) (postings view me (drop (i + 1) os))

-- ---- how it is posted

-- What holds at all holds on Err.
pub on_err : {A E P : Type 0} (r : Result A E) → P → OnErr r P
on_err (Ok u) p = tt
on_err (Err e) p = p

module _ {P : Type 0} (has_posted : P → List Posting → P → Type 0) (later : (a b c : P) (xs ys : List Posting) → has_posted a xs b → has_posted b ys c → has_posted a (xs ++ ys) c) where
  -- Some frames were posted, and then the first of others.
  pub some_more : (a b c : P) (xs ys zs all : List Posting) → all ≡ xs ++ (ys ++ zs) → has_posted a xs b → PostsSome has_posted b ys c → PostsSome has_posted a all c
  some_more a b c xs ys zs all is done (some, rest, e, posted) = (
    xs ++ some,
    rest ++ zs,
    is ∙ ap (λ l. xs ++ (l ++ zs)) e ∙ ap (λ l. xs ++ l) (append_assoc some rest zs) ∙ sym (append_assoc xs some (rest ++ zs)),
    later a b c xs some done posted,
  )
