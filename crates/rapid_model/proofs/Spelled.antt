-- The bytes of a configuration are read back, and no others are taken for it.
use Rattle.std.proofs.Common.{◌≡◌, ℕ, suc, ◌+◌, ◌<◌, ◌≤◌, Bool, true, false, not, ◌&&◌, cond, List, [], ◌∷◌, ◌++◌, length, take, drop, get_or, refl, sym, ap, subst, ◌∙◌, Option, Some, None, inl, inr, append_assoc, append-nil, length-append, arith}
use Rattle.std.specs.Prelude.{All, nat_lt, nat_le, Ok, Err}
use Rattle.std.specs.List.{concat}
use Rattle.std.specs.Int.{w16, w64, to_be_bytes, from_be_bytes}
use Rattle.std.proofs.lemmas.Bool.{le-ltb, le-leb, and_from, ltb-false, not-false, cases_lt}
use Rattle.std.proofs.lemmas.Nat.{from_be_bytes-to_be_bytes_2, from_be_bytes-to_be_bytes_8, be_bytes_2, be_bytes_8}
use Rattle.std.proofs.lemmas.List.{length-drop, drop-drop, take-append-drop, get_or-drop, get_or_past, length-take-le}
use Rattle.std.proofs.lemmas.List.Elements.{All-take, All-drop}
use Rattle.rapid_model.specs.Tags as tags
use Rattle.rapid_model.specs.Process.{Process, same_bytes}
use Rattle.rapid_model.specs.Configuration.{Params, AreParams, Configuration, AreMembers, IsConfiguration, identifiers_ascend, endpoints_differ, magic, configuration_bytes}
use Rattle.rapid_model.specs.Reading.{ConfigurationFault, BadParams, Truncated, Trailing, BadMagic, TooMany, NotSorted, EndpointTwice, are_params, members_fault, ProcessesRead, processes_at, read_in, read_fault, params_in, count_in, configuration_in, bytes_fault}
use Rattle.rapid_model.proofs.Orders.{same_bytes_decides}
use Rattle.rapid_model.proofs.Processes.{front, behind, processes_read, AreRead, processes_taken}

-- a fault that is none
skip : (b : Bool) (f g : Option ConfigurationFault) → b ≡ false → g ≡ None → cond b f g ≡ None
skip true f g e h = cc
skip false f g e h = h

past : (b : Bool) (f : ConfigurationFault) (g : Option ConfigurationFault) → cond b (Some f) g ≡ None → (b ≡ false) × (g ≡ None)
past true f g h = cc
past false f g h = (refl, h)

no_members_fault : (ps : List Process) → AreMembers ps → members_fault ps ≡ None
no_members_fault ps m =
    skip (nat_lt 1024 (length ps)) (Some TooMany) _ (le-ltb 1024 (length ps) m.few)
    (skip (not (identifiers_ascend ps)) (Some NotSorted) _ (ap not m.identifiers) (skip (not (endpoints_differ ps)) (Some EndpointTwice) None (ap not m.endpoints) refl))

params_pass : (p : Params) → AreParams p → are_params p ≡ true
params_pass p a =
    and_from (nat_le 1 p.l && nat_le p.l p.h && nat_le p.h p.k) (nat_le p.k 16)
    (and_from (nat_le 1 p.l && nat_le p.l p.h) (nat_le p.h p.k) (and_from (nat_le 1 p.l) (nat_le p.l p.h) (le-leb 1 p.l a.some) (le-leb p.l p.h a.below)) (le-leb p.h p.k a.rings))
    (le-leb p.k 16 a.few)

-- the bytes behind the identifier of the configuration before
abbrev after : Configuration → List ℕ
after c = to_be_bytes w64 c.height ++ ((c.params.k ∷ c.params.h ∷ c.params.l ∷ []) ++ (to_be_bytes w16 (length c.members) ++ concat c.members))

abbrev whole : Configuration → List ℕ
whole c = magic ++ (c.previous ++ after c)

regrouped : (c : Configuration) → configuration_bytes c ≡ whole c
regrouped c = simp append_assoc

module _ (c : Configuration) (h : IsConfiguration c) where
  -- what stands behind the head
  behind_before : (j : ℕ) → drop (32 + j) (c.previous ++ after c) ≡ drop j (after c)
  behind_before j = sym (drop-drop j 32 (c.previous ++ after c)) ∙ ap (drop j) (behind 32 c.previous (after c) h.previous.0)

  get_behind : (j : ℕ) → get_or (c.previous ++ after c) (32 + j) 0 ≡ get_or (after c) j 0
  get_behind j = sym (get_or-drop 32 (c.previous ++ after c) j 0) ∙ ap (λ x. get_or x j 0) (behind 32 c.previous (after c) h.previous.0)

  count_is : count_in (whole c) ≡ length c.members
  count_is =
      ap (λ x. from_be_bytes w16 (take 2 x)) (behind_before 11)
      ∙ from_be_bytes-to_be_bytes_2 (length c.members) (omega (arith, h.members.few))

  members_read : processes_at (count_in (whole c)) (drop 49 (whole c)) ≡ Ok (c.members, [])
  members_read =
      ap (λ n. processes_at n (drop 49 (whole c))) count_is
      ∙ ap (processes_at (length c.members)) (behind_before 13 ∙ sym (append-nil (concat c.members)))
      ∙ processes_read c.members [] h.members.processes

  params_are : params_in (whole c) ≡ c.params
  params_are =
      let k : get_or (whole c) 44 0 ≡ c.params.k = get_behind 8 in
      let m : get_or (whole c) 45 0 ≡ c.params.h = get_behind 9 in
      let l : get_or (whole c) 46 0 ≡ c.params.l = get_behind 10 in
      λ i. record { k = k i; h = m i; l = l i }

  is_long : 49 ≤ length (whole c)
  is_long =
      let a = length-append c.previous (after c) in
      omega (arith, a, h.previous.0)

  pub read_is : configuration_in (whole c) ≡ c
  read_is =
      let params = params_are in
      let height : from_be_bytes w64 (take 8 (drop 36 (whole c))) ≡ c.height = ap (λ x. from_be_bytes w64 (take 8 x)) (behind_before 0) ∙ from_be_bytes-to_be_bytes_8 c.height h.height in
      let previous : take 32 (drop 4 (whole c)) ≡ c.previous = front 32 c.previous (after c) h.previous.0 in
      let members : read_in (processes_at (count_in (whole c)) (drop 49 (whole c))) ≡ c.members = ap read_in members_read in
      λ i. record { params = params i; height = height i; previous = previous i; members = members i }

  pub no_fault : bytes_fault (whole c) ≡ None
  no_fault =
      let few = h.members.few in
      let long = is_long in
      let count = count_is in
      skip (nat_lt (length (whole c)) 4) (Some Truncated) _ (le-ltb (length (whole c)) 4 (omega arith))
      (skip (not (same_bytes (take 4 (whole c)) magic)) (Some BadMagic) _ (ap not ((same_bytes_decides magic magic).1 refl))
      (skip (nat_lt (length (whole c)) 49) (Some Truncated) _ (le-ltb (length (whole c)) 49 (omega arith))
      (skip (not (are_params (params_in (whole c)))) (Some BadParams) _ (ap (λ p. not (are_params p)) params_are ∙ ap not (params_pass c.params h.params))
      (skip (nat_lt 1024 (count_in (whole c))) (Some TooMany) _ (ap (λ n. nat_lt 1024 n) count_is ∙ le-ltb 1024 (length c.members) few)
      (ap read_fault members_read ∙ no_members_fault c.members h.members)))))

pub spelling_read : (c : Configuration) → IsConfiguration c → (bytes_fault (configuration_bytes c) ≡ None) × (configuration_in (configuration_bytes c) ≡ c)
spelling_read c h = (ap bytes_fault (regrouped c) ∙ no_fault c h, ap configuration_in (regrouped c) ∙ read_is c h)

pub spelling_tell : (c d : Configuration) → IsConfiguration c → IsConfiguration d → configuration_bytes c ≡ configuration_bytes d → c ≡ d
spelling_tell c d h k e = sym (spelling_read c h).1 ∙ ap configuration_in e ∙ (spelling_read d k).1

bounded : (l : List ℕ) → All (λ b. b < 256) l → (i : ℕ) → get_or l i 0 < 256
bounded l h i =
    elim (cases_lt i (length l)) [
      | inl within ↦ h i 0 within
      | inr out ↦ (let e = get_or_past l i 0 out in omega (arith, e))
    ]

first_three : (l : List ℕ) → 3 ≤ length l → (get_or l 0 0 ∷ get_or l 1 0 ∷ get_or l 2 0 ∷ []) ≡ take 3 l
first_three [] h = absurd (omega (arith, h))
first_three (x ∷ []) h = absurd (omega (arith, h))
first_three (x ∷ y ∷ []) h = absurd (omega (arith, h))
first_three (x ∷ y ∷ z ∷ l) h = refl

-- a part and what is behind it
seam : (i j : ℕ) (b : List ℕ) → take j (drop i b) ++ drop (i + j) b ≡ drop i b
seam i j b = ap (λ x. take j (drop i b) ++ x) (sym (drop-drop j i b)) ∙ take-append-drop j (drop i b)

-- the length of a part
part_length : (i j : ℕ) (b : List ℕ) → i + j ≤ length b → length (take j (drop i b)) ≡ j
part_length i j b l = length-take-le j (drop i b) (let k = length-drop i b in omega (arith, l, k))

part_bytes : (i j : ℕ) (b : List ℕ) → All (λ x. x < 256) b → (k : ℕ) → get_or (take j (drop i b)) k 0 < 256
part_bytes i j b h = bounded (take j (drop i b)) (All-take (λ x. x < 256) j (drop i b) (All-drop (λ x. x < 256) i b h))

-- bytes that begin with the letters and end with the members are spelled again
respelled : (b : List ℕ) → All (λ x. x < 256) b → same_bytes (take 4 b) magic ≡ true → 49 ≤ length b
    → AreRead (count_in b) (drop 49 b) ((configuration_in b).members, []) → configuration_bytes (configuration_in b) ≡ b
respelled b h m l r =
    let ps = (configuration_in b).members in
    let e1 : magic ≡ take 4 b = sym ((same_bytes_decides (take 4 b) magic).0 m) in
    let e2 : to_be_bytes w64 (from_be_bytes w64 (take 8 (drop 36 b))) ≡ take 8 (drop 36 b) = be_bytes_8 (take 8 (drop 36 b)) _ (part_length 36 8 b (omega arith)) (part_bytes 36 8 b h) refl in
    let e3 : (get_or b 44 0 ∷ get_or b 45 0 ∷ get_or b 46 0 ∷ []) ≡ take 3 (drop 44 b) = three in
    let e4 : to_be_bytes w16 (length ps) ≡ take 2 (drop 47 b) = be_bytes_2 (take 2 (drop 47 b)) (length ps) (part_length 47 2 b (omega arith)) (part_bytes 47 2 b h) r.count in
    let x5 : concat ps ≡ drop 49 b = sym (r.spelt ∙ append-nil (concat ps)) in
    let x4 : to_be_bytes w16 (length ps) ++ concat ps ≡ drop 47 b = ap (λ x. to_be_bytes w16 (length ps) ++ x) x5 ∙ ap (λ x. x ++ drop 49 b) e4 ∙ seam 47 2 b in
    let x3 : (get_or b 44 0 ∷ get_or b 45 0 ∷ get_or b 46 0 ∷ []) ++ (to_be_bytes w16 (length ps) ++ concat ps) ≡ drop 44 b =
    ap (λ x. (get_or b 44 0 ∷ get_or b 45 0 ∷ get_or b 46 0 ∷ []) ++ x) x4 ∙ ap (λ x. x ++ drop 47 b) e3 ∙ seam 44 3 b in
    let x2 : after (configuration_in b) ≡ drop 36 b =
    ap (λ x. to_be_bytes w64 (from_be_bytes w64 (take 8 (drop 36 b))) ++ x) x3 ∙ ap (λ x. x ++ drop 44 b) e2 ∙ seam 36 8 b in
    let x1 : take 32 (drop 4 b) ++ after (configuration_in b) ≡ drop 4 b = ap (λ x. take 32 (drop 4 b) ++ x) x2 ∙ seam 4 32 b in
    regrouped (configuration_in b) ∙ ap (λ x. magic ++ x) x1 ∙ ap (λ x. x ++ drop 4 b) e1 ∙ take-append-drop 4 b
  where
    three : (get_or b 44 0 ∷ get_or b 45 0 ∷ get_or b 46 0 ∷ []) ≡ take 3 (drop 44 b)
    three =
        let g0 : get_or b 44 0 ≡ get_or (drop 44 b) 0 0 = sym (get_or-drop 44 b 0 0) in
        let g1 : get_or b 45 0 ≡ get_or (drop 44 b) 1 0 = sym (get_or-drop 44 b 1 0) in
        let g2 : get_or b 46 0 ≡ get_or (drop 44 b) 2 0 = sym (get_or-drop 44 b 2 0) in
        let k = length-drop 44 b in
        let g : (get_or b 44 0 ∷ get_or b 45 0 ∷ get_or b 46 0 ∷ []) ≡ (get_or (drop 44 b) 0 0 ∷ get_or (drop 44 b) 1 0 ∷ get_or (drop 44 b) 2 0 ∷ []) = cc in
        g ∙ first_three (drop 44 b) (omega (arith, l, k))

-- members that have no fault are all of the bytes
none_left : (ps : List Process) (rest : List ℕ) → read_fault (Ok (ps, rest)) ≡ None → rest ≡ []
none_left ps [] h = refl
none_left ps (x ∷ rest) h =
    let e = past (nat_lt 0 (suc (length rest))) Trailing (members_fault ps) h in
    let none = ltb-false 0 (suc (length rest)) e.0 in
    absurd (omega (arith, none))

all_read : (r : ProcessesRead) → read_fault r ≡ None → (ps : List Process) × (r ≡ Ok (ps, []))
all_read (Ok x) h = (x.0, ap (λ l. given x.0 l) (none_left x.0 x.1 h))
  where
    given : List Process → List ℕ → ProcessesRead
    given ps l = Ok (ps, l)
all_read (Err tags.Truncated) h = absurd cc
all_read (Err tags.BadTags) h = absurd cc

pub spelling_one : (b : List ℕ) → All (λ x. x < 256) b → bytes_fault b ≡ None → configuration_bytes (configuration_in b) ≡ b
spelling_one b h f =
    let p1 = past (nat_lt (length b) 4) Truncated _ f in
    let p2 = past (not (same_bytes (take 4 b) magic)) BadMagic _ p1.1 in
    let p3 = past (nat_lt (length b) 49) Truncated _ p2.1 in
    let p4 = past (not (are_params (params_in b))) BadParams _ p3.1 in
    let p5 = past (nat_lt 1024 (count_in b)) TooMany _ p4.1 in
    let read = all_read (processes_at (count_in b) (drop 49 b)) p5.1 in
    let taken = processes_taken (count_in b) (drop 49 b) (read.0, []) read.1 in
    let members : read.0 ≡ (configuration_in b).members = sym (ap read_in read.1) in
    let are : AreRead (count_in b) (drop 49 b) ((configuration_in b).members, []) =
    subst (λ ps. AreRead (count_in b) (drop 49 b) (ps, [])) members taken in
    respelled b h (not-false (same_bytes (take 4 b) magic) p2.0) (ltb-false (length b) 49 p3.0) are
