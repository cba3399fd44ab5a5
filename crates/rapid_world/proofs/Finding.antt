-- Where the peers of a world are found.
use Rattle.std.proofs.Common.{◌≡◌, inl, inr, ℕ, ◌<◌, Bool, true, false, cond, not, ◌&&◌, ◌||◌, List, [], ◌∷◌, ◌++◌, map, take, length, slice_get, slice_set, get_or, refl, sym, ap, subst, ◌∙◌, Option, Some, None, arith, zero, suc, ◌+◌}
use Rattle.std.specs.Prelude.{position, is_some}
use Rattle.std.specs.List.{list_any, find, position_or_len}
use Rattle.std.specs.Option.{option_map, option_and_then}
use Rattle.std.specs.FinMap as finmap
use Rattle.std.proofs.lemmas.Bool.{and_parts, false_from_ne_true, lt-ltb, le-ltb, not-true}
use Rattle.std.proofs.Math.Seq.{map-set_same}
use Rattle.std.proofs.lemmas.List.{set-get_or, map-append}
use Rattle.std.proofs.lemmas.List.Folds.{find_at}
use Rattle.std.proofs.lemmas.List.Sums.{position_or_len_is}
use Rattle.std.proofs.lemmas.Option.{slice_get_within, slice_get-get_or, slice_get_past, get_or_from_slice_get, same_Some}
use Rattle.rapid_model.proofs.Orders.{processes_total, same_bytes_decides}
use Rattle.rapid_model.specs.Bytes.{Endpoint}
use Rattle.rapid_model.specs.Configuration.{Configuration, AreMembers, identifiers_ascend, endpoints_differ}
use Rattle.rapid_model.specs.Process.{Process, identifier, endpoint, same_endpoint}
use Rattle.rapid_model.specs.Node.{Event, seed_node, is_halted, Outcome}
use Rattle.rapid_model.specs.NodeStep.{node_step}
use Rattle.rapid_model.specs.World.{Peer, is_running, has_identifier, has_endpoint}
use Rattle.rapid_model.specs.Edge.{probed}
use Rattle.rapid_model.specs.WorldStep.{added, edge_on, with_edge}
use Rattle.rapid_safety.proofs.Histories.{get_set, get_push}
use Rattle.rapid_safety.proofs.Lived.{get_map, apart_names}
use Rattle.rapid_world.specs.Found.{Places, AreFound, AreListed, IsOnlyAt, RunsAt, IsNew, endpoints_of}
use Rattle.rapid_world.specs.Handed.{handed, told, stepped, KeepsAt}
use Rattle.rapid_model.proofs.Lists.{all_at}
use Rattle.std.proofs.lemmas.Map.Keys.{any_passes_from_place}

differ : {b : Bool} → b ≡ true → b ≡ false → ⊥
differ h k = let no : true ≡ false = sym h ∙ k in cc

-- ---- an element that passes alone

-- none passes
abbrev pub NonePasses : {A : Type 0} → (A → Bool) → List A → Type 0
NonePasses {A} f xs = (j : ℕ) (y : A) → slice_get xs j ≡ Some y → f y ≡ true → ⊥

first_is : {A : Type 0} (f : A → Bool) (xs : List A) (i : ℕ) (x : A) → slice_get xs i ≡ Some x → f x ≡ true → IsOnlyAt f xs (Some i) → position_or_len f xs ≡ i
first_is {A} f xs i x at ok only =
    let l : i < length xs = slice_get_within xs i x at in
    position_or_len_is f xs i x (omega (arith, l)) (before l) (λ _. ap f (get_or_from_slice_get xs i x x at) ∙ ok)
  where
    before : i < length xs → (k : ℕ) → k < i → f (get_or xs k x) ≡ false
    before l k less =
        false_from_ne_true (f (get_or xs k x)) (λ t. let e : i ≡ k = same_Some _ _ (only k (get_or xs k x) (slice_get-get_or xs k x (omega (arith, l, less))) t) in omega (arith, e, less))

none_is : {A : Type 0} (f : A → Bool) (xs : List A) → NonePasses f xs → position_or_len f xs ≡ length xs
none_is f [] none = refl
none_is f (x ∷ xs) none =
    position_or_len_is f (x ∷ xs) (length (x ∷ xs)) x (omega arith)
    (λ k l. false_from_ne_true (f (get_or (x ∷ xs) k x)) (λ t. none k (get_or (x ∷ xs) k x) (slice_get-get_or (x ∷ xs) k x l) t)) (λ l. absurd (omega (arith, l)))

pub position_there : {A : Type 0} (f : A → Bool) (xs : List A) (i : ℕ) (x : A) → slice_get xs i ≡ Some x → f x ≡ true → IsOnlyAt f xs (Some i) → position f xs ≡ Some i
position_there f xs i x at ok only =
    let e = first_is f xs i x at ok only in
    let l : i < length xs = slice_get_within xs i x at in
    ap (λ b. cond b (Some (position_or_len f xs)) None) (lt-ltb (position_or_len f xs) (length xs) (omega (arith, l, e))) ∙ ap Some e

pub position_none : {A : Type 0} (f : A → Bool) (xs : List A) → NonePasses f xs → position f xs ≡ None
position_none f xs none =
    let e = none_is f xs none in
    ap (λ b. cond b (Some (position_or_len f xs)) None) (le-ltb (position_or_len f xs) (length xs) (omega (arith, e)))

pub find_there : {A : Type 0} (f : A → Bool) (xs : List A) (i : ℕ) (x : A) → slice_get xs i ≡ Some x → f x ≡ true → IsOnlyAt f xs (Some i) → find f xs ≡ Some x
find_there f xs i x at ok only = find_at f xs ∙ ap (slice_get xs) (first_is f xs i x at ok only) ∙ at

pub find_none : {A : Type 0} (f : A → Bool) (xs : List A) → NonePasses f xs → find f xs ≡ None
find_none f xs none = let e = none_is f xs none in find_at f xs ∙ slice_get_past xs (position_or_len f xs) (omega (arith, e))

pub any_none : {A : Type 0} (f : A → Bool) (xs : List A) → NonePasses f xs → list_any f xs ≡ false
any_none f [] none = refl
any_none f (x ∷ xs) none = ap (λ b. b || list_any f xs) (false_from_ne_true (f x) (λ t. none 0 x refl t)) ∙ any_none f xs (λ j y. none (suc j) y)

-- and the other way round
pub none_by_any : {A : Type 0} (f : A → Bool) (xs : List A) → list_any f xs ≡ false → NonePasses f xs
none_by_any f xs e j y at ok = differ (any_passes_from_place f xs j y at ok) e

first_within : {A : Type 0} (f : A → Bool) (xs : List A) (j : ℕ) (y : A) → slice_get xs j ≡ Some y → f y ≡ true → position_or_len f xs < length xs
first_within f [] j y at ok = cc
first_within f (x ∷ xs) j y at ok = by (f x) refl j at (λ i h. first_within f xs i y h ok)
  where
    by : (b : Bool) → f x ≡ b → (j : ℕ) → slice_get (x ∷ xs) j ≡ Some y → ((i : ℕ) → slice_get xs i ≡ Some y → position_or_len f xs < length xs) → position_or_len f (x ∷ xs) < length (x ∷ xs)
    by true t j at again = let e = position_or_len_is f (x ∷ xs) 0 x (omega arith) (λ k l. absurd (omega (arith, l))) (λ _. t) in omega (arith, e)
    by false t zero at again = absurd (differ (ap f (same_Some _ _ at) ∙ ok) t)
    by false t (suc j) at again = let l = again j at in let e : position_or_len f (x ∷ xs) ≡ 1 + position_or_len f xs = ap (λ b. cond (not b) (1 + position_or_len f xs) 0) t in omega (arith, l, e)

pub none_by_position : {A : Type 0} (f : A → Bool) (xs : List A) → is_some (position f xs) ≡ false → NonePasses f xs
none_by_position f xs e j y at ok =
    let is : position f xs ≡ Some (position_or_len f xs) = ap (λ b. cond b (Some (position_or_len f xs)) None) (lt-ltb (position_or_len f xs) (length xs) (first_within f xs j y at ok)) in
    differ (ap is_some is) e

-- ---- the peer at the place

abbrev pub There : {A : Type 0} → List A → Option ℕ → Option A
There xs place = option_and_then (slice_get xs) place

-- it passes
there : {A : Type 0} (xs : List A) (place : Option ℕ) (x : A) → Some x ≡ There xs place → (i : ℕ) × (place ≡ Some i) × (slice_get xs i ≡ Some x)
there xs None x at = cc
there xs (Some i) x at = (i, refl, sym at)

-- another stands there
other : {A : Type 0} (f : A → Bool) (xs : List A) (place : Option ℕ) (x : A) → IsOnlyAt f xs place → Some x ≡ There xs place → f x ≡ false → NonePasses f xs
other f xs place x only at fails j y h ok =
    let same : x ≡ y = same_Some _ _ (at ∙ ap (There xs) (only j y h ok) ∙ h) in
    differ (ap f same ∙ ok) fails

-- no peer is at that place
nowhere : {A : Type 0} (f : A → Bool) (xs : List A) (place : Option ℕ) → IsOnlyAt f xs place → None ≡ There xs place → NonePasses f xs
nowhere f xs place only at j y h ok = let no : None ≡ Some y = at ∙ ap (There xs) (only j y h ok) ∙ h in cc

pub place_there : {A : Type 0} (f : A → Bool) (xs : List A) (place : Option ℕ) (x : A) → IsOnlyAt f xs place → Some x ≡ There xs place → f x ≡ true → place ≡ position f xs
place_there f xs place x only at ok =
    let t = there xs place x at in
    t.1 ∙ sym (position_there f xs t.0 x t.2 ok (subst (IsOnlyAt f xs) t.1 only))

pub place_other : {A : Type 0} (f : A → Bool) (xs : List A) (place : Option ℕ) (x : A) → IsOnlyAt f xs place → Some x ≡ There xs place → f x ≡ false → None ≡ position f xs
place_other f xs place x only at fails = sym (position_none f xs (other f xs place x only at fails))

pub place_nowhere : {A : Type 0} (f : A → Bool) (xs : List A) (place : Option ℕ) → IsOnlyAt f xs place → None ≡ There xs place → None ≡ position f xs
place_nowhere f xs place only at = sym (position_none f xs (nowhere f xs place only at))

pub found_there : {A : Type 0} (f : A → Bool) (xs : List A) (place : Option ℕ) (x : A) → IsOnlyAt f xs place → Some x ≡ There xs place → f x ≡ true → find f xs ≡ Some x
found_there f xs place x only at ok =
    let t = there xs place x at in
    find_there f xs t.0 x t.2 ok (subst (IsOnlyAt f xs) t.1 only)

pub found_other : {A : Type 0} (f : A → Bool) (xs : List A) (place : Option ℕ) (x : A) → IsOnlyAt f xs place → Some x ≡ There xs place → f x ≡ false → find f xs ≡ None
found_other f xs place x only at fails = find_none f xs (other f xs place x only at fails)

pub found_nowhere : {A : Type 0} (f : A → Bool) (xs : List A) (place : Option ℕ) → IsOnlyAt f xs place → None ≡ There xs place → find f xs ≡ None
found_nowhere f xs place only at = find_none f xs (nowhere f xs place only at)

pub chosen : {A : Type 0} (f : A → Bool) (xs : List A) (place : Option ℕ) (x : A) → IsOnlyAt f xs place → Some x ≡ There xs place → cond (f x) place None ≡ position f xs
chosen f xs place x only at = by (f x) refl
  where
    by : (b : Bool) → f x ≡ b → cond b place None ≡ position f xs
    by true t = place_there f xs place x only at t
    by false t = place_other f xs place x only at t

pub found : {A B : Type 0} (f : A → Bool) (xs : List A) (place : Option ℕ) (x : A) (part : A → B) → IsOnlyAt f xs place → Some x ≡ There xs place → cond (f x) (Some (part x)) None ≡ option_map part (find f xs)
found f xs place x part only at = by (f x) refl
  where
    by : (b : Bool) → f x ≡ b → cond b (Some (part x)) None ≡ option_map part (find f xs)
    by true t = sym (ap (option_map part) (found_there f xs place x only at t))
    by false t = sym (ap (option_map part) (found_other f xs place x only at t))

pub any_there : {A : Type 0} (f : A → Bool) (xs : List A) (place : Option ℕ) (x : A) (b : Bool) → IsOnlyAt f xs place → Some x ≡ There xs place → b ≡ f x → b ≡ list_any f xs
any_there f xs place x b only at is = is ∙ by (f x) refl
  where
    by : (c : Bool) → f x ≡ c → c ≡ list_any f xs
    by true t = let at' = there xs place x at in sym (any_passes_from_place f xs at'.0 x at'.2 t)
    by false t = sym (any_none f xs (other f xs place x only at t))

pub any_nowhere : {A : Type 0} (f : A → Bool) (xs : List A) (place : Option ℕ) → IsOnlyAt f xs place → None ≡ There xs place → false ≡ list_any f xs
any_nowhere f xs place only at = sym (any_none f xs (nowhere f xs place only at))

-- who alone can have an identifier alone can run under it
pub runs_only : (ps : List Peer) (place : Option ℕ) (id : List ℕ) → IsOnlyAt (has_identifier id) ps place → IsOnlyAt (λ p. is_running p && has_identifier id p) ps place
runs_only ps place id only i p at ok = only i p at (and_parts (is_running p) (has_identifier id p) ok).1

-- a peer of the same process in the place of one
endpoints_set : (ps : List Peer) (i : ℕ) (p q : Peer) → slice_get ps i ≡ Some p → q.node.me ≡ p.node.me → endpoints_of (slice_set ps i q) ≡ endpoints_of ps
endpoints_set ps i p q at same = map-set_same (λ (x : Peer). endpoint x.node.me) ps i q p (ap endpoint (same ∙ ap (λ (x : Peer). x.node.me) (sym (get_or_from_slice_get ps i p p at))))

-- ---- by identifier and by endpoint

module _ (ids ends : Places) (ps : List Peer) (are : AreFound ids ends ps) where
  pub id_only : (id : List ℕ) → IsOnlyAt (has_identifier id) ps (finmap.get ids id)
  id_only id i p at ok = ap (finmap.get ids) ((same_bytes_decides id (identifier p.node.me)).0 ok) ∙ are.ids i p at

  pub end_only : (e : List ℕ) → IsOnlyAt (λ p. is_running p && has_endpoint e p) ps (finmap.get ends e)
  end_only e i p at ok =
      let r = and_parts (is_running p) (has_endpoint e p) ok in
      ap (finmap.get ends) ((same_bytes_decides e (endpoint p.node.me)).0 r.1) ∙ are.endpoints i p at r.0

  -- a place at which one was seen to run there
  pub near_is : (e : List ℕ) (i : ℕ) → RunsAt ps e i → Some i ≡ position (λ p. is_running p && has_endpoint e p) ps
  near_is e i r =
      sym (position_there (λ p. is_running p && has_endpoint e p) ps i r.peer r.at r.runs
      (λ j q at ok. sym (end_only e i r.peer r.at r.runs) ∙ end_only e j q at ok))

  -- a place more by an identifier that no peer has
  pub id_more : (p : Peer) (n : ℕ) → IsNew ps p → AreFound (finmap.insert ids (identifier p.node.me) n) ends ps
  id_more p n new =
      record {
        ids = λ i q at. finmap.get-insert processes_total ids (identifier p.node.me) n (identifier q.node.me)
            ∙ ap (λ b. cond b (Some n) (finmap.get ids (identifier q.node.me)))
            (false_from_ne_true _ (λ t. new.unused i q at ((same_bytes_decides (identifier q.node.me) (identifier p.node.me)).0 t)))
            ∙ are.ids i q at;
        endpoints = are.endpoints;
      }

  -- one peer more
  pub one_more : (p : Peer) → IsNew ps p → AreFound (finmap.insert ids (identifier p.node.me) (length ps)) (finmap.insert ends (endpoint p.node.me) (length ps)) (ps ++ p ∷ [])
  one_more p new = record { ids = named; endpoints = placed }
    where
      named : (i : ℕ) (q : Peer) → slice_get (ps ++ p ∷ []) i ≡ Some q → finmap.get (finmap.insert ids (identifier p.node.me) (length ps)) (identifier q.node.me) ≡ Some i
      named i q at =
          elim (get_push ps i p q at) [
            | inl old ↦ (id_more p (length ps) new).ids i q old
            | inr last ↦ finmap.get-insert processes_total ids (identifier p.node.me) (length ps) (identifier q.node.me)
                ∙ ap (λ b. cond b (Some (length ps)) (finmap.get ids (identifier q.node.me)))
                ((same_bytes_decides (identifier q.node.me) (identifier p.node.me)).1 (ap (λ (x : Peer). identifier x.node.me) last.1))
                ∙ ap Some (sym last.0)
          ]

      placed : (i : ℕ) (q : Peer) → slice_get (ps ++ p ∷ []) i ≡ Some q → is_running q ≡ true → finmap.get (finmap.insert ends (endpoint p.node.me) (length ps)) (endpoint q.node.me) ≡ Some i
      placed i q at runs =
          elim (get_push ps i p q at) [
            | inl old ↦ finmap.get-insert processes_total ends (endpoint p.node.me) (length ps) (endpoint q.node.me)
                ∙ ap (λ b. cond b (Some (length ps)) (finmap.get ends (endpoint q.node.me)))
                (false_from_ne_true _ (λ t. new.free i q old runs ((same_bytes_decides (endpoint q.node.me) (endpoint p.node.me)).0 t)))
                ∙ are.endpoints i q old runs
            | inr last ↦ finmap.get-insert processes_total ends (endpoint p.node.me) (length ps) (endpoint q.node.me)
                ∙ ap (λ b. cond b (Some (length ps)) (finmap.get ends (endpoint q.node.me)))
                ((same_bytes_decides (endpoint q.node.me) (endpoint p.node.me)).1 (ap (λ (x : Peer). endpoint x.node.me) last.1))
                ∙ ap Some (sym last.0)
          ]

  -- a peer is put in the place of one of the same process that ran, if it runs
  pub one_changed : (i : ℕ) (p q : Peer) → slice_get ps i ≡ Some p → q.node.me ≡ p.node.me → (is_running q ≡ true → is_running p ≡ true) → AreFound ids ends (slice_set ps i q)
  one_changed i p q at same runs = record { ids = named; endpoints = placed }
    where
      named : (j : ℕ) (r : Peer) → slice_get (slice_set ps i q) j ≡ Some r → finmap.get ids (identifier r.node.me) ≡ Some j
      named j r h =
          elim (get_set ps i j q r h) [
            | inl here ↦ ap (λ m. finmap.get ids (identifier m)) (ap (λ (x : Peer). x.node.me) here.1 ∙ same) ∙ are.ids i p at ∙ ap Some (sym here.0)
            | inr there ↦ are.ids j r there.1
          ]

      placed : (j : ℕ) (r : Peer) → slice_get (slice_set ps i q) j ≡ Some r → is_running r ≡ true → finmap.get ends (endpoint r.node.me) ≡ Some j
      placed j r h ok =
          elim (get_set ps i j q r h) [
            | inl here ↦ ap (λ m. finmap.get ends (endpoint m)) (ap (λ (x : Peer). x.node.me) here.1 ∙ same)
                ∙ are.endpoints i p at (runs (ap is_running (sym here.1) ∙ ok)) ∙ ap Some (sym here.0)
            | inr there ↦ are.endpoints j r there.1 ok
          ]

-- so all are listed
one_listed : (ids ends : Places) (es : List Endpoint) (ps : List Peer) (i : ℕ) (p q : Peer) → AreListed ids ends es ps → slice_get ps i ≡ Some p → q.node.me ≡ p.node.me → (is_running q ≡ true → is_running p ≡ true) → AreListed ids ends es (slice_set ps i q)
one_listed ids ends es ps i p q are at same runs =
    record { found = one_changed ids ends ps are.found i p q at same runs; listed = are.listed ∙ sym (endpoints_set ps i p q at same) }

-- the same, as the code tells it
indexed_more : (ids ends ids' ends' : Places) (now ps qs : List Peer) (p : Peer) (key : List ℕ) (n : ℕ) → AreFound ids ends ps → IsNew now p → ps ≡ now → key ≡ identifier p.node.me → ids' ≡ finmap.insert ids key n → ends' ≡ ends → qs ≡ ps →
    AreFound ids' ends' qs
indexed_more ids ends ids' ends' now ps qs p key n are new same is more kept room =
    let first : AreFound (finmap.insert ids (identifier p.node.me) n) ends ps = id_more ids ends ps are p n (subst (λ (l : List Peer). IsNew l p) (sym same) new) in
    let by_key : ids' ≡ finmap.insert ids (identifier p.node.me) n = more ∙ ap (λ k. finmap.insert ids k n) is in
    subst (λ (m : Places). AreFound m ends' qs) (sym by_key) (subst (λ (m : Places). AreFound (finmap.insert ids (identifier p.node.me) n) m qs) (sym kept) (subst (λ (l : List Peer). AreFound (finmap.insert ids (identifier p.node.me) n) ends l) (sym room) first))

added_more : (ids ends ids' ends' : Places) (now ps qs rs : List Peer) (p : Peer) (key place : List ℕ) (n : ℕ) → AreFound ids ends ps → IsNew now p → ps ≡ now → n ≡ length ps → key ≡ identifier p.node.me → place ≡ endpoint p.node.me →
    ids' ≡ finmap.insert ids key n → ends' ≡ finmap.insert ends place n → qs ≡ ps → rs ≡ qs ++ p ∷ [] → AreFound ids' ends' rs
added_more ids ends ids' ends' now ps qs rs p key place n are new same len is at more placed room push =
    let first : AreFound (finmap.insert ids (identifier p.node.me) (length ps)) (finmap.insert ends (endpoint p.node.me) (length ps)) (ps ++ p ∷ []) = one_more ids ends ps are p (subst (λ (l : List Peer). IsNew l p) (sym same) new) in
    let by_key : ids' ≡ finmap.insert ids (identifier p.node.me) (length ps) = more ∙ ap (λ k. finmap.insert ids k n) is ∙ ap (finmap.insert ids (identifier p.node.me)) len in
    let by_place : ends' ≡ finmap.insert ends (endpoint p.node.me) (length ps) = placed ∙ ap (λ k. finmap.insert ends k n) at ∙ ap (finmap.insert ends (endpoint p.node.me)) len in
    let all : rs ≡ ps ++ p ∷ [] = push ∙ ap (λ (l : List Peer). l ++ p ∷ []) room in
    subst (λ (m : Places). AreFound m ends' rs) (sym by_key)
    (subst (λ (m : Places). AreFound (finmap.insert ids (identifier p.node.me) (length ps)) m rs) (sym by_place)
    (subst (λ (l : List Peer). AreFound (finmap.insert ids (identifier p.node.me) (length ps)) (finmap.insert ends (endpoint p.node.me) (length ps)) l) (sym all) first))

-- with their endpoints
pub indexed_listed : (ids ends ids' ends' : Places) (es es' : List Endpoint) (now ps qs : List Peer) (p : Peer) (key : List ℕ) (n : ℕ) → AreListed ids ends es ps → IsNew now p → ps ≡ now → key ≡ identifier p.node.me → ids' ≡ finmap.insert ids key n → ends' ≡ ends → qs ≡ ps → es' ≡ es →
    AreListed ids' ends' es' qs
indexed_listed ids ends ids' ends' es es' now ps qs p key n are new same is more kept room es_kept =
    record { found = indexed_more ids ends ids' ends' now ps qs p key n are.found new same is more kept room; listed = es_kept ∙ are.listed ∙ ap endpoints_of (sym room) }

pub added_listed : (ids ends ids' ends' : Places) (es es' es'' : List Endpoint) (now ps qs rs : List Peer) (p : Peer) (key place : List ℕ) (n : ℕ) → AreListed ids ends es ps → IsNew now p → ps ≡ now → n ≡ length ps → key ≡ identifier p.node.me → place ≡ endpoint p.node.me →
    ids' ≡ finmap.insert ids key n → ends' ≡ finmap.insert ends place n → qs ≡ ps → rs ≡ qs ++ p ∷ [] → es' ≡ es → es'' ≡ es' ++ place ∷ [] → AreListed ids' ends' es'' rs
added_listed ids ends ids' ends' es es' es'' now ps qs rs p key place n are new same len is at more placed room push es_kept last =
    record {
      found = added_more ids ends ids' ends' now ps qs rs p key place n are.found new same len is at more placed room push;
      listed = last ∙ ap (λ (l : List Endpoint). l ++ place ∷ []) (es_kept ∙ are.listed) ∙ ap (λ k. endpoints_of ps ++ k ∷ []) at ∙ sym (map-append (λ (x : Peer). endpoint x.node.me) ps (p ∷ []))
          ∙ ap endpoints_of (sym (push ∙ ap (λ (l : List Peer). l ++ p ∷ []) room));
    }

none_found : AreFound finmap.empty finmap.empty []
none_found = record { ids = λ i p at. cc; endpoints = λ i p at runs. cc }

pub none_listed : AreListed finmap.empty finmap.empty [] []
none_listed = record { found = none_found; listed = refl }

-- ---- what becomes of the one at a place

-- it makes a step or halts: it stays the same process, and runs only if it ran
pub handed_me : (p : Peer) (e : Event) (h : Bool) → KeepsAt p.node e → (handed p e h).peer.node.me ≡ p.node.me
unfolding handed
handed_me p e true keeps = refl
handed_me p e false keeps = by (node_step p.node e) refl
  where
    by : (o : Option Outcome) → node_step p.node e ≡ o → (stepped p o).peer.node.me ≡ p.node.me
    by None h = refl
    by (Some o) h = (keeps o h).me

handed_up : (p : Peer) (e : Event) (h : Bool) → (handed p e h).peer.crashed ≡ p.crashed
unfolding handed
handed_up p e true = refl
handed_up p e false = by (node_step p.node e)
  where
    by : (o : Option Outcome) → (stepped p o).peer.crashed ≡ p.crashed
    by None = refl
    by (Some o) = refl

still_runs : (p q : Peer) → q.crashed ≡ p.crashed → is_halted p.node ≡ false → is_running q ≡ true → is_running p ≡ true
still_runs p q same up runs =
    ap (λ b. not b && not (is_halted p.node)) (sym same) ∙ ap (λ b. not q.crashed && not b) up ∙ ap (λ b. b && true) (and_parts (not q.crashed) (not (is_halted q.node)) runs).0

pub handed_listed : (ids ends : Places) (es : List Endpoint) (ps : List Peer) (i : ℕ) (p q : Peer) (e : Event) (h : Bool) → AreListed ids ends es ps → slice_get ps i ≡ Some p → is_halted p.node ≡ false → KeepsAt p.node e →
    q ≡ (handed p e h).peer → AreListed ids ends es (slice_set ps i q)
handed_listed ids ends es ps i p q e h are at up keeps is =
    one_listed ids ends es ps i p q are at
    (ap (λ (x : Peer). x.node.me) is ∙ handed_me p e h keeps)
    (still_runs p q (ap (λ (x : Peer). x.crashed) is ∙ handed_up p e h) up)

pub told_me : (p : Peer) (k : ℕ) (ok : Bool) (e : Event) (h : Bool) → ((probed (edge_on p.edges k) ok).is_down ≡ true → KeepsAt p.node e) → (told p k ok e h).peer.node.me ≡ p.node.me
unfolding told
told_me p k ok e h keeps = by (probed (edge_on p.edges k) ok).is_down refl
  where
    q : Peer
    q = with_edge p k (probed (edge_on p.edges k) ok)

    by : (b : Bool) → (probed (edge_on p.edges k) ok).is_down ≡ b → (cond b (handed q e h) (record { peer = q; packets = []; reports = [] })).peer.node.me ≡ p.node.me
    by true d = handed_me q e h (keeps d)
    by false d = refl

told_up : (p : Peer) (k : ℕ) (ok : Bool) (e : Event) (h : Bool) → (told p k ok e h).peer.crashed ≡ p.crashed
unfolding told
told_up p k ok e h = by (probed (edge_on p.edges k) ok).is_down
  where
    q : Peer
    q = with_edge p k (probed (edge_on p.edges k) ok)

    by : (b : Bool) → (cond b (handed q e h) (record { peer = q; packets = []; reports = [] })).peer.crashed ≡ p.crashed
    by true = handed_up q e h
    by false = refl

pub told_listed : (ids ends : Places) (es : List Endpoint) (ps : List Peer) (i : ℕ) (p q : Peer) (k : ℕ) (ok : Bool) (e : Event) (h : Bool) → AreListed ids ends es ps → slice_get ps i ≡ Some p → is_halted p.node ≡ false →
    ((probed (edge_on p.edges k) ok).is_down ≡ true → KeepsAt p.node e) → q ≡ (told p k ok e h).peer → AreListed ids ends es (slice_set ps i q)
told_listed ids ends es ps i p q k ok e h are at up keeps is =
    one_listed ids ends es ps i p q are at
    (ap (λ (x : Peer). x.node.me) is ∙ told_me p k ok e h keeps)
    (still_runs p q (ap (λ (x : Peer). x.crashed) is ∙ told_up p k ok e h) up)

pub crashed_listed : (ids ends : Places) (es : List Endpoint) (ps : List Peer) (i : ℕ) (p q : Peer) → AreListed ids ends es ps → slice_get ps i ≡ Some p → q ≡ record p { crashed = true } → AreListed ids ends es (slice_set ps i q)
crashed_listed ids ends es ps i p q are at is =
    one_listed ids ends es ps i p q are at (ap (λ (x : Peer). x.node.me) is)
    (λ runs. let no : false ≡ true = sym (ap (λ (x : Peer). is_running x) is) ∙ runs in cc)

-- what was read at a place is the one there
pub read_at : (ps qs : List Peer) (i : ℕ) (p x : Peer) → ps ≡ qs → slice_get qs i ≡ Some p → x ≡ get_or ps i x → x ≡ p
read_at ps qs i p x same at read = read ∙ get_or_from_slice_get ps i p x (ap (λ (l : List Peer). slice_get l i) same ∙ at)

pub at_inside : (ps qs : List Peer) (i : ℕ) (p : Peer) → ps ≡ qs → slice_get qs i ≡ Some p → slice_get ps i ≡ Some p
at_inside ps qs i p same at = ap (λ (l : List Peer). slice_get l i) same ∙ at

-- nothing was changed there
pub put_back : (ps : List Peer) (i : ℕ) (x y : Peer) → x ≡ get_or ps i x → y ≡ x → slice_set ps i y ≡ ps
put_back ps i x y read same = ap (slice_set ps i) (same ∙ read) ∙ set-get_or ps i x

-- ---- who is new

pub starts_new : (ps : List Peer) (p : Peer) (me : Process) → p.node.me ≡ me → list_any (has_identifier (identifier me)) ps ≡ false → is_some (position (λ q. is_running q && has_endpoint (endpoint me) q) ps) ≡ false → IsNew ps p
starts_new ps p me is unused free =
    record {
      unused = λ i q at same. none_by_any (has_identifier (identifier me)) ps unused i q at
          ((same_bytes_decides (identifier me) (identifier q.node.me)).1 (sym (same ∙ ap identifier is)));
      free = λ i q at runs same. none_by_position (λ q. is_running q && has_endpoint (endpoint me) q) ps free i q at
          (both (is_running q) _ runs ((same_bytes_decides (endpoint me) (endpoint q.node.me)).1 (sym (same ∙ ap endpoint is))));
    }
  where
    both : (a b : Bool) → a ≡ true → b ≡ true → (a && b) ≡ true
    both true b h k = k
    both false b h k = cc

-- no two founders have one endpoint
apart_ends : (ms : List Process) (i j : ℕ) (a b : Process) → endpoints_differ ms ≡ true → slice_get ms i ≡ Some a → slice_get ms j ≡ Some b → endpoint a ≡ endpoint b → i ≡ j
apart_ends [] i j a b h ha hb e = cc
apart_ends (m ∷ ms) zero zero a b h ha hb e = refl
apart_ends (m ∷ ms) zero (suc j) a b h ha hb e =
    absurd (differ ((same_bytes_decides (endpoint m) (endpoint b)).1 (ap endpoint (same_Some _ _ ha) ∙ e)) (not-true _ (all_at (λ q. not (same_endpoint m q)) ms j b (and_parts _ _ h).0 hb)))
apart_ends (m ∷ ms) (suc i) zero a b h ha hb e =
    absurd (differ ((same_bytes_decides (endpoint m) (endpoint a)).1 (ap endpoint (same_Some _ _ hb) ∙ sym e)) (not-true _ (all_at (λ q. not (same_endpoint m q)) ms i a (and_parts _ _ h).0 ha)))
apart_ends (m ∷ ms) (suc i) (suc j) a b h ha hb e = ap suc (apart_ends ms i j a b (and_parts _ _ h).1 ha hb e)

take_get : {A : Type 0} (xs : List A) (n i : ℕ) (x : A) → slice_get (take n xs) i ≡ Some x → (i < n) × (slice_get xs i ≡ Some x)
take_get xs zero i x h = cc
take_get [] (suc n) i x h = cc
take_get (y ∷ ys) (suc n) zero x h = (omega arith, h)
take_get (y ∷ ys) (suc n) (suc i) x h = let r = take_get ys n i x h in (let l = r.0 in omega arith, r.1)

-- a founder, among those before it
pub founder_new : (c : Configuration) (ms : List Process) (n : ℕ) (m : Process) → AreMembers c.members → ms ≡ c.members → n < length ms → m ≡ get_or ms n m →
    IsNew (map (λ z. added (seed_node c z)) (take n ms)) (added (seed_node c m))
founder_new c ms n m are same l read =
    record {
      unused = λ i q at e. let r = before i q at in let is = apart_names ms i n r.0 m (ap identifiers_ascend same ∙ are.identifiers) r.1.1 here (sym (ap (λ (x : Peer). identifier x.node.me) r.2) ∙ e) in let less = r.1.0 in omega (arith, is, less);
      free = λ i q at runs e. let r = before i q at in let is = apart_ends ms i n r.0 m (ap endpoints_differ same ∙ are.endpoints) r.1.1 here (sym (ap (λ (x : Peer). endpoint x.node.me) r.2) ∙ e) in let less = r.1.0 in omega (arith, is, less);
    }
  where
    here : slice_get ms n ≡ Some m
    here = slice_get-get_or ms n m l ∙ ap Some (sym read)

    before : (i : ℕ) (q : Peer) → slice_get (map (λ z. added (seed_node c z)) (take n ms)) i ≡ Some q → (a : Process) × ((i < n) × (slice_get ms i ≡ Some a)) × (q ≡ added (seed_node c a))
    before i q at = let r = get_map (λ z. added (seed_node c z)) (take n ms) i q at in (r.0, take_get ms n i r.0 r.1, r.2)
