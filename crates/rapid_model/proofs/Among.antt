-- Processes and reports among others.
use Rattle.std.proofs.Common.{◌≡◌, Bool, true, ◌&&◌, List, [], ◌∷◌, filter, refl, sym, ap, ◌∙◌, inl, inr, Some}
use Rattle.std.specs.Ordering.{eq_by_cmp}
use Rattle.std.proofs.lemmas.Bool.{or_cases, or_left, or_right}
use Rattle.std.specs.Cmp.{eq_by_cmp_equiv}
use Rattle.std.proofs.lemmas.Map.Made.{is_member-filter}
use Rattle.rapid_model.specs.Process.{Process, is_in, same_bytes}
use Rattle.rapid_model.specs.Cut.{Cut}
use Rattle.rapid_model.specs.Reports.{Report, report_cmp, cut_if}
use Rattle.rapid_model.proofs.Lists.{In}
use Rattle.rapid_model.proofs.Orders.{processes_total, reports_total, reports_exact, tie_decides, same_bytes_decides}

pub among_is : (ps : List Process) (p : Process) → In ps p → is_in ps p ≡ true
among_is [] p h = absurd h
among_is (q ∷ ps) p (inl e) = or_left (same_bytes p q) (is_in ps p) ((same_bytes_decides p q).1 (sym e))
among_is (q ∷ ps) p (inr h) = or_right (same_bytes p q) (is_in ps p) (among_is ps p h)

pub is_among : (ps : List Process) (p : Process) → is_in ps p ≡ true → In ps p
is_among [] p h = cc
is_among (q ∷ ps) p h = elim (or_cases (same_bytes p q) (is_in ps p) h) [ inl e ↦ inl (sym ((same_bytes_decides p q).0 e)) | inr later ↦ inr (is_among ps p later) ]

pub filter_among : (p : Process → Bool) (xs : List Process) (q : Process) → is_in (filter p xs) q ≡ (is_in xs q && p q)
filter_among p xs q = is_member-filter (eq_by_cmp_equiv processes_total) p q (λ x e. ap p ((same_bytes_decides q x).0 e)) xs

pub same_turned : (p q : Process) → same_bytes p q ≡ same_bytes q p
same_turned p q = (eq_by_cmp_equiv processes_total).symm p q

pub own_report : (x : Report) → eq_by_cmp report_cmp x x ≡ true
own_report x = (tie_decides reports_total reports_exact x x).1 refl

pub cut_parts : (stable unstable : List Process) (v : Cut) → cut_if stable unstable ≡ Some v → (stable ≡ v) × (unstable ≡ []) × (v ≡ [] → ⊥)
cut_parts [] us v e = cc
cut_parts (x ∷ xs) [] v e = let same : x ∷ xs ≡ v = cc in (same, refl, λ none. let wrong : x ∷ xs ≡ [] = same ∙ none in cc)
cut_parts (x ∷ xs) (u ∷ us) v e = cc
