-- Processes of which no two have one endpoint, one after another.
use Rattle.std.proofs.Common.{◌≡◌, ℕ, ◌+◌, ◌<◌, Bool, true, false, cond, not, ◌&&◌, ◌||◌, List, [], ◌∷◌, ◌++◌, length, take, drop, get_or, refl, sym, ap, subst, ◌∙◌, append-nil, append_assoc}
use Rattle.std.specs.List.{list_all, list_any}
use Rattle.std.proofs.lemmas.Bool.{and_left, and_right}
use Rattle.std.proofs.lemmas.List.{take_more, take-append-drop}
use Rattle.std.proofs.lemmas.Cmp.{eq_by_cmp_equiv}
use Rattle.rapid_model.specs.Process.{Process, endpoint, same_bytes, same_endpoint}
use Rattle.rapid_model.specs.Configuration.{endpoints_differ}
use Rattle.rapid_config.specs.Endpoints.{AreEndpointsOf}
use Rattle.rapid_config.proofs.Ascending.{bytes_total}

pub same_flips : (x y : List ℕ) → same_bytes x y ≡ same_bytes y x
same_flips = (eq_by_cmp_equiv bytes_total).symm

-- one process more at the end
pub differ_push : (ps : List Process) (q : Process) → endpoints_differ (ps ++ q ∷ []) ≡ (endpoints_differ ps && not (list_any (λ p. same_bytes (endpoint q) (endpoint p)) ps))
differ_push [] q = refl
differ_push (p ∷ ps) q =
    ap (λ b. b && endpoints_differ (ps ++ q ∷ [])) (all_push ps)
    ∙ ap (λ b. (list_all (λ r. not (same_endpoint p r)) ps && not (same_endpoint p q)) && b) (differ_push ps q)
    ∙ ap (λ s. (list_all (λ r. not (same_endpoint p r)) ps && not s) && (endpoints_differ ps && not (list_any (λ r. same_bytes (endpoint q) (endpoint r)) ps))) (same_flips (endpoint p) (endpoint q))
    ∙ shuffle (list_all (λ r. not (same_endpoint p r)) ps) (endpoints_differ ps) (same_bytes (endpoint q) (endpoint p)) (list_any (λ r. same_bytes (endpoint q) (endpoint r)) ps)
  where
    one : (b : Bool) → (b && true) ≡ b
    one true = refl
    one false = refl

    all_push : (rs : List Process) → list_all (λ r. not (same_endpoint p r)) (rs ++ q ∷ []) ≡ (list_all (λ r. not (same_endpoint p r)) rs && not (same_endpoint p q))
    all_push [] = one (not (same_endpoint p q))
    all_push (r ∷ rs) = ap (λ b. not (same_endpoint p r) && b) (all_push rs) ∙ join (not (same_endpoint p r)) (list_all (λ r. not (same_endpoint p r)) rs) (not (same_endpoint p q))
      where
        join : (a b c : Bool) → (a && (b && c)) ≡ ((a && b) && c)
        join true b c = refl
        join false b c = refl

    shuffle : (a d s e : Bool) → ((a && not s) && (d && not e)) ≡ ((a && d) && not (s || e))
    shuffle true true true e = refl
    shuffle true true false e = refl
    shuffle true false true e = refl
    shuffle true false false e = refl
    shuffle false d s e = refl

-- what differs differs in a first part
differ_first : (ps qs : List Process) → endpoints_differ ps ≡ false → endpoints_differ (ps ++ qs) ≡ false
differ_first ps [] h = ap endpoints_differ (append-nil ps) ∙ h
differ_first ps (q ∷ qs) h =
    ap endpoints_differ (sym (append_assoc ps (q ∷ []) qs))
    ∙ differ_first (ps ++ q ∷ []) qs (differ_push ps q ∙ and_left (endpoints_differ ps) _ h)

-- the set after one process more, whose endpoint was not there
pub differ_more : (ps : List Process) (i : ℕ) (d : Process) → i < length ps → endpoints_differ (take i ps) ≡ true → list_any (λ p. same_bytes (endpoint (get_or ps i d)) (endpoint p)) (take i ps) ≡ false → endpoints_differ (take (i + 1) ps) ≡ true
differ_more ps i d l h n =
    ap endpoints_differ (take_more ps i d l) ∙ differ_push (take i ps) (get_or ps i d)
    ∙ ap (λ b. b && not (list_any (λ p. same_bytes (endpoint (get_or ps i d)) (endpoint p)) (take i ps))) h ∙ ap not n

-- an endpoint that was there
pub differ_not : (ps : List Process) (i : ℕ) (d : Process) → i < length ps → list_any (λ p. same_bytes (endpoint (get_or ps i d)) (endpoint p)) (take i ps) ≡ true → endpoints_differ ps ≡ false
differ_not ps i d l h =
    ap endpoints_differ (sym (take-append-drop (i + 1) ps))
    ∙ differ_first (take (i + 1) ps) (drop (i + 1) ps)
    (ap endpoints_differ (take_more ps i d l) ∙ differ_push (take i ps) (get_or ps i d) ∙ and_right (endpoints_differ (take i ps)) _ (ap not h))

any_push : (t : Process → Bool) (ps : List Process) (q : Process) → list_any t (ps ++ q ∷ []) ≡ (t q || list_any t ps)
any_push t [] q = refl
any_push t (p ∷ ps) q = ap (λ b. t p || b) (any_push t ps q) ∙ swap (t p) (t q) (list_any t ps)
  where
    swap : (a b c : Bool) → (a || (b || c)) ≡ (b || (a || c))
    swap true true c = refl
    swap true false c = refl
    swap false b c = refl

-- the set n has the endpoint x beside those of s
abbrev pub Gains : List (List ℕ) → List (List ℕ) → List ℕ → Type 0
Gains s n x = (e : List ℕ) → list_any (same_bytes e) n ≡ cond (same_bytes x e) true (list_any (same_bytes e) s)

-- what the set has then
pub gained : (s n : List (List ℕ)) (x e : List ℕ) → Gains s n x → list_any (same_bytes e) n ≡ (same_bytes e x || list_any (same_bytes e) s)
gained s n x e g = g e ∙ ap (λ b. cond b true (list_any (same_bytes e) s)) (same_flips x e) ∙ either (same_bytes e x) (list_any (same_bytes e) s)
  where
    either : (a b : Bool) → cond a true b ≡ (a || b)
    either true b = refl
    either false b = refl

-- the endpoints of one process more
pub endpoints_push : (ps : List Process) (q : Process) (s n : List (List ℕ)) → AreEndpointsOf ps s → Gains s n (endpoint q) → AreEndpointsOf (ps ++ q ∷ []) n
endpoints_push ps q s n h g e =
    gained s n (endpoint q) e g
    ∙ ap (λ b. same_bytes e (endpoint q) || b) (h e) ∙ sym (any_push (λ p. same_bytes e (endpoint p)) ps q)

pub endpoints_more : (ps : List Process) (i : ℕ) (d : Process) (s n : List (List ℕ)) → i < length ps → AreEndpointsOf (take i ps) s → Gains s n (endpoint (get_or ps i d)) → AreEndpointsOf (take (i + 1) ps) n
endpoints_more ps i d s n l h g = subst (λ qs. AreEndpointsOf qs n) (sym (take_more ps i d l)) (endpoints_push (take i ps) (get_or ps i d) s n h g)

-- endpoints one after another, and that of one process more
pub seen_more : (ps : List Process) (i : ℕ) (d : Process) (s : List (List ℕ)) → i < length ps → AreEndpointsOf (take i ps) s → AreEndpointsOf (take (i + 1) ps) (s ++ endpoint (get_or ps i d) ∷ [])
seen_more ps i d s l h =
    subst (λ qs. AreEndpointsOf qs (s ++ endpoint (get_or ps i d) ∷ [])) (sym (take_more ps i d l))
    (λ e. any_push (same_bytes e) s (endpoint (get_or ps i d))
    ∙ ap (λ b. same_bytes e (endpoint (get_or ps i d)) || b) (h e)
    ∙ sym (any_push (λ p. same_bytes e (endpoint p)) (take i ps) (get_or ps i d)))
