-- Entries that ascend by their subjects: what a search finds, and what the marks of a subject change.
use Rattle.std.proofs.Common.{◌≡◌, ℕ, ◌≤◌, ◌<◌, T, List, [], ◌∷◌, length, set, get_or, refl, sym, ap, subst, ◌∙◌, cond, Some, unwrap_or}
use Rattle.std.specs.declared.cmp.Ordering.TheVariants.{Less, Equal, Greater}
use Rattle.std.specs.Ordering.{ordering_index}
use Rattle.std.specs.List.{insert, HoldsAt}
use Rattle.std.specs.List.Sorted.{IsNonDecreasingBy, IsPartitionPoint}
use Rattle.std.specs.FinMap.Entries.{put, find, is_sorted, find-put}
use Rattle.std.specs.Map.{lookup}
use Rattle.std.specs.BTreeMap.{is_at}
use Rattle.rapid_model.specs.Process.{Process, process_cmp, same_bytes}
use Rattle.rapid_model.proofs.Among.{same_turned}
use Rattle.rapid_model.proofs.Orders.{processes_total}
use Rattle.rapid_model.proofs.Places.{searchable, put_found, find_found, put_missing, find_missing}
use Rattle.rapid_alerts.specs.declared.mark.Marks.{Marks}
use Rattle.rapid_alerts.specs.Marks.{no_marks, marks_of}
use Rattle.rapid_alerts.proofs.Marks.{Puts}

-- what is found is what is looked up
found_by : (es : List (Process × Marks)) (q : Process) → find process_cmp q es ≡ lookup (is_at (process_cmp q)) es
found_by [] q = refl
found_by (e ∷ es) q = ap (λ o. cond (same_bytes q e.0) (Some e.1) o) (found_by es q)

-- the subject has the marks that are put, and the others have what they had
pub puts : (s : Process) (m : Marks) (es ns : List (Process × Marks)) → ns ≡ put process_cmp s m es → Puts s m es ns
puts s m es ns e q =
    ap (λ l. lookup (is_at (process_cmp q)) l) e
    ∙ sym (found_by (put process_cmp s m es) q)
    ∙ find-put process_cmp processes_total q s m es
    ∙ (λ i. cond (same_turned q s i) (Some m) (found_by es q i))

-- the entries es, as the slice zs has them, and a place where a search for the subject ends
module _ (es zs : List (Process × Marks)) (s : Process) (ascend : T (is_sorted process_cmp es)) (same : zs ≡ es) where
  module _ (i : ℕ) (x : Process × Marks) (h : i < length zs) (t : HoldsAt (λ e. process_cmp e.0 s ≡ Equal) zs i) (read : x ≡ get_or es i x) where
    within : i < length es
    within = subst (λ l. i < length l) same h

    ties : process_cmp (get_or es i x).0 s ≡ Equal
    ties = subst (λ (l : List (Process × Marks)). process_cmp (get_or l i x).0 s ≡ Equal) same (t x)

    -- the marks there are those of the subject
    pub marks_there : x.1 ≡ marks_of es s
    marks_there =
        ap (λ (e : Process × Marks). e.1) read
        ∙ ap (λ o. unwrap_or o no_marks) (sym (find_found processes_total s es i x ascend within ties) ∙ found_by es s)

    -- other marks there are other marks of the subject
    pub put_there : (m : Marks) → set es i (x.0, m) ≡ put process_cmp s m es
    put_there m = ap (λ (e : Process × Marks). set es i (e.0, m)) read ∙ sym (put_found processes_total s es i m x ascend within ties)

  module _ (i : ℕ) (h : i ≤ length zs) (place : IsNonDecreasingBy (λ e. ordering_index (process_cmp e.0 s)) zs → IsPartitionPoint (λ e. process_cmp e.0 s ≡ Less) (λ e. process_cmp e.0 s ≡ Greater) zs i) where
    split : IsPartitionPoint (λ e. process_cmp e.0 s ≡ Less) (λ e. process_cmp e.0 s ≡ Greater) es i
    split =
        subst (λ l. IsPartitionPoint (λ (e : Process × Marks). process_cmp e.0 s ≡ Less) (λ e. process_cmp e.0 s ≡ Greater) l i) same
        (place (subst (λ l. IsNonDecreasingBy (λ (e : Process × Marks). ordering_index (process_cmp e.0 s)) l) (sym same) (searchable processes_total es s ascend)))

    room : i ≤ length es
    room = subst (λ l. i ≤ length l) same h

    -- the subject has no marks
    pub none_there : no_marks ≡ marks_of es s
    none_there = ap (λ o. unwrap_or o no_marks) (sym (find_missing processes_total s es i room split.0 split.1) ∙ found_by es s)

    -- an entry more there is the subject's
    pub put_new : (m : Marks) → insert es i (s, m) ≡ put process_cmp s m es
    put_new m = sym (put_missing processes_total s es i m room split.0 split.1)
