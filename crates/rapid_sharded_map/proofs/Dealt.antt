-- Who has the tag, and to whom keys are dealt.
use Rattle.std.proofs.Common.{◌≡◌, ◌↔◌, ℕ, Bool, true, false, cond, ◌&&◌, List, [], ◌∷◌, All, filter, map, get_or, refl, sym, ap, ◌∙◌, inl, inr, Option}
use Rattle.std.specs.Prelude.{nat_lt}
use Rattle.std.proofs.lemmas.Bool.{and_parts}
use Rattle.std.proofs.lemmas.List.Elements.{All-contains, All-map, All-same, Contains-get_or}
use Rattle.rapid_model.specs.Tags.{tags_of}
use Rattle.rapid_model.specs.Process.{Process, tags_bytes_of, is_in}
use Rattle.rapid_model.specs.Configuration.{Configuration}
use Rattle.rapid_model.proofs.Lists.{In, in_from, contains_from}
use Rattle.rapid_model.proofs.Among.{among_is, is_among, filter_among}
use Rattle.rapid_dealing.specs.Owners.{weight, pick, heaviest, owner_in}
use Rattle.rapid_sharded_map.specs.Stores.{store, HasTag, has_store, IsOwner}

pub tag_decides : (p : Process) (b : Bool) → b ≡ has_store p → (b ≡ true) ↔ HasTag p store
tag_decides p b e =
    let tags = tags_of (tags_bytes_of p) in
    (λ h. contains_from tags store (is_among tags store (sym e ∙ h)), λ h. e ∙ among_is tags store (in_from tags store h))

-- one of two, and the heaviest of all, is among them
picked_in : (key : List ℕ) (ms : List Process) (p q : Process) → In ms p → In ms q → In ms (pick key p q)
picked_in key ms p q h k = elim (nat_lt (weight key p) (weight key q)) as (λ b. In ms (cond b q p)) [ true ↦ k | false ↦ h ]

heaviest_in : (key : List ℕ) (ms : List Process) (p : Process) (qs : List Process) → In ms p
    → ((q : Process) → In qs q → In ms q) → In ms (heaviest key p qs)
heaviest_in key ms p [] h all = h
heaviest_in key ms p (q ∷ qs) h all =
    heaviest_in key ms (pick key p q) qs (picked_in key ms p q h (all q (inl refl))) (λ r k. all r (inr k))

-- who is dealt to is a member and has the tag
store_is : (ms : List Process) (p : Process) → is_in (filter has_store ms) p ≡ true → (is_in ms p ≡ true) × HasTag p store
store_is ms p h =
    let both = and_parts (is_in ms p) (has_store p) (sym (filter_among has_store ms p) ∙ h) in
    (both.0, (tag_decides p (has_store p) refl).0 both.1)

-- a member that has the tag is dealt to
is_store : (ms : List Process) (p : Process) → is_in ms p ≡ true → HasTag p store → is_in (filter has_store ms) p ≡ true
is_store ms p h t = let k = (tag_decides p (has_store p) refl).1 t in filter_among has_store ms p ∙ (λ i. h i && k i)

pub dealt_among : (c : Configuration) (key : List ℕ) (ss : List Process) → ss ≡ filter has_store c.members → IsOwner c (owner_in key ss)
dealt_among c key [] e =
    let nobody : All (λ p. HasTag p store → ⊥) c.members =
    λ k d l t.
    let p = get_or c.members k d in
    let no = ap (λ ps. is_in ps p) e ∙ is_store c.members p (among_is c.members p (in_from c.members p (Contains-get_or c.members k d l))) t in
    cc in
    record { member = tt; nobody = (λ _. nobody, λ _. refl) }
dealt_among c key (s ∷ ss) e =
    let owner = heaviest key s (s ∷ ss) in
    let among = among_is (s ∷ ss) owner (heaviest_in key (s ∷ ss) s (s ∷ ss) (inl refl) (λ q h. h)) in
    let is = store_is c.members owner (sym (ap (λ ps. is_in ps owner) e) ∙ among) in
    record {
      member = is;
      nobody = (
        λ h. cc,
        λ h. absurd (All-contains (λ p. HasTag p store → ⊥) c.members owner h (contains_from c.members owner (is_among c.members owner is.0)) is.1),
      );
    }

-- the owners of keys, in the order of the keys
pub all_dealt : {K : Type 0} (c : Configuration) (text : K → List ℕ) (keys : List K) (owners : List (Option Process))
    → owners ≡ map (λ k. owner_in (text k) (filter has_store c.members)) keys → All (IsOwner c) owners
all_dealt {K} c text keys owners e =
    let owner : K → Option Process = λ k. owner_in (text k) (filter has_store c.members) in
    All-same (IsOwner c) owners (map owner keys) e
    (All-map (IsOwner c) owner keys (λ i d l. dealt_among c (text (get_or keys i d)) (filter has_store c.members) refl))
