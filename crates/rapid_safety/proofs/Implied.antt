-- What follows from other points of `RunHolds`.
use Rattle.std.proofs.Common.{◌≡◌, ◌≤◌, ◌+◌, inl, inr, Bool, true, cond, List, [], ◌∷◌, ◌++◌, map, refl, sym, ap, subst, ◌∙◌, Some, arith}
use Rattle.rapid_model.specs.PublishedList.{HeightsRise}
use Rattle.rapid_model.specs.Configuration.{Stamp, stamp, same_configuration}
use Rattle.std.specs.Option.{option_eq}
use Rattle.rapid_safety.proofs.Basics.{count_by, and_from, map-append, In, in_from, ballots_decided}
use Rattle.rapid_safety.proofs.Values.{Cut, Configuration, configuration_id, apply, Ballot, Accept}
use Rattle.rapid_safety.proofs.Working.{Destination, Says}
use Rattle.rapid_safety.proofs.Worlds.{World, Did, Entry, installs, asks_at, is_asked_in, AcceptsOnce, AsksOnce, IsAgreed, InstallsRise, RunHolds, line_from}
use Rattle.rapid_safety.proofs.Lived.{apply_height}
use Rattle.rapid_safety.proofs.News.{from_acts}
use Rattle.rapid_safety.proofs.Histories.{acts_at, same_configuration_decides}
use Rattle.rapid_model.proofs.Lists.{count_cons}

-- ---- one Accept at most goes out at a ballot, so one cut at most is asked

counted : {A : Type 0} (p : A → Bool) (xs : List A) (x : A) → In xs x → p x ≡ true → 1 ≤ count_by p xs
counted p [] x i t = absurd i
counted p (y ∷ ys) x (inl e) t = omega (arith, (count_cons p y ys ∙ ap (λ b. cond b 1 0 + count_by p ys) (ap p e ∙ t)))
counted p (y ∷ ys) x (inr i) t = omega (arith, (count_cons p y ys), (counted p ys x i t))

-- if one at most passes, two that pass are the same
one_passes : {A : Type 0} (p : A → Bool) (xs : List A) (x y : A) → count_by p xs ≤ 1 → In xs x → In xs y → p x ≡ true → p y ≡ true → x ≡ y
one_passes p [] x y m i j s t = absurd i
one_passes p (z ∷ zs) x y m (inl e) (inl f) s t = sym e ∙ f
one_passes p (z ∷ zs) x y m (inl e) (inr j) s t = absurd (omega (arith, m, (count_cons p z zs ∙ ap (λ b. cond b 1 0 + count_by p zs) (ap p e ∙ s)), (counted p zs y j t)))
one_passes p (z ∷ zs) x y m (inr i) (inl f) s t = absurd (omega (arith, m, (count_cons p z zs ∙ ap (λ b. cond b 1 0 + count_by p zs) (ap p f ∙ t)), (counted p zs x i s)))
one_passes p (z ∷ zs) x y m (inr i) (inr j) s t = one_passes p zs x y (omega (arith, m, (count_cons p z zs))) i j s t

asked : (c : Configuration) (b : Ballot) (e : Entry) (to : Destination) (v : Cut) → e.at ≡ Some c → e.act ≡ Did (Says to (Accept (configuration_id c) b v)) → is_asked_in c b e ≡ true
asked c b e to v at act =
    and_from _ _ (ap (λ o. option_eq same_configuration o (Some c)) at ∙ (same_configuration_decides c c).1 refl) (ap (asks_at b) act ∙ (ballots_decided b b).1 refl)

same_cut_asked : {to from : Destination} {id : List _} {b : Ballot} {v u : Cut} → Did (Says to (Accept id b v)) ≡ Did (Says from (Accept id b u)) → v ≡ u
same_cut_asked e = cc

pub asks_follow : (w : World) → AcceptsOnce w → AsksOnce w
asks_follow w once c p q b v u h g =
    let x = from_acts w.log p c (Did (Says h.0 (Accept (configuration_id c) b v))) (in_from (acts_at w.log p c) (Did (Says h.0 (Accept (configuration_id c) b v))) h.1) in
    let y = from_acts w.log q c (Did (Says g.0 (Accept (configuration_id c) b u))) (in_from (acts_at w.log q c) (Did (Says g.0 (Accept (configuration_id c) b u))) g.1) in
    let same : x.0 ≡ y.0 = one_passes (is_asked_in c b) w.log x.0 y.0 (once c b) x.1 y.1 (asked c b x.0 h.0 v x.3 x.4) (asked c b y.0 g.0 u y.3 y.4) in
    same_cut_asked (sym x.4 ∙ ap (λ (e : Entry). e.act) same ∙ y.4)

-- ---- what a node installed is a stretch of the line, so its heights rise

line_rises : (c : Configuration) (cuts : List Cut) → HeightsRise (map stamp (line_from c cuts))
line_rises c [] = tt
line_rises c (v ∷ []) = (apply_height c v, tt)
line_rises c (v ∷ u ∷ us) = (apply_height c v, line_rises (apply c v) (u ∷ us))

end_rises : (before xs : List Stamp) → HeightsRise (before ++ xs) → HeightsRise xs
end_rises [] xs h = h
end_rises (s ∷ []) [] h = tt
end_rises (s ∷ []) (x ∷ xs) h = h.1
end_rises (s ∷ t ∷ ss) xs h = end_rises (t ∷ ss) xs h.1

beginning_rises : (xs after : List Stamp) → HeightsRise (xs ++ after) → HeightsRise xs
beginning_rises [] after h = tt
beginning_rises (x ∷ []) after h = tt
beginning_rises (x ∷ y ∷ xs) after h = (h.0, beginning_rises (y ∷ xs) after h.1)

rises_follow : (w : World) → IsAgreed w → InstallsRise w
rises_follow w agreed p there =
    let mine = installs w p.node.me in
    let s = agreed.line.consecutive p.node.me in
    let parts : map stamp (line_from w.founding agreed.cuts) ≡ map stamp s.0 ++ (map stamp mine ++ map stamp s.1) =
    ap (map stamp) s.2 ∙ map-append stamp s.0 (mine ++ s.1) ∙ ap (λ l. map stamp s.0 ++ l) (map-append stamp mine s.1)
    in
    subst HeightsRise (sym (agreed.line.shown p there))
    (beginning_rises (map stamp mine) (map stamp s.1) (end_rises (map stamp s.0) (map stamp mine ++ map stamp s.1) (subst HeightsRise parts (line_rises w.founding agreed.cuts))))

-- ---- of a run

pub cuts_asked : (w : World) → RunHolds w → AsksOnce w
cuts_asked w h = asks_follow w h.accepts_once

pub heights_rise : (w : World) → RunHolds w → InstallsRise w
heights_rise w h = rises_follow w h.agreed
