-- Lists in order.
use Rattle.std.proofs.Common.{◌≡◌, Bool, true, false, cond, ◌&&◌, ◌||◌, List, [], ◌∷◌, filter, refl, sym, ap, ◌∙◌}
use Rattle.std.specs.List.{dedup, dedup_from}
use Rattle.std.specs.List.Sorted.{IsSorted, IsPermutation}
use Rattle.std.proofs.lemmas.List.Kept.{IsStrictlySortedBy-filter, IsStrictlySortedBy-dedup}
use Rattle.std.proofs.lemmas.List.Sorted.{list_any-IsPermutation}
use Rattle.rapid_model.specs.Process.{Process, process_cmp, same_bytes, is_in}
use Rattle.rapid_model.specs.Reports.{Reports, subjects}
use Rattle.rapid_model.specs.InOrder.{in_order}
use Rattle.rapid_model.proofs.Orders.{processes_total, processes_exact, same_bytes_decides}
use Rattle.rapid_model.proofs.InOrder.{any_in_order, sorted_in_order, same_sorted}
use Rattle.rapid_cut.proofs.Joiners.{sorted_subjects}
use Rattle.rapid_model.proofs.Logic.{or_twice}
use Rattle.rapid_model.proofs.Among.{filter_among}

any_dedup_from : (k : Process) (xs : List Process) (q : Process) → is_in (dedup_from same_bytes k xs) q ≡ (same_bytes q k || is_in xs q)
any_dedup_from k [] q = refl
any_dedup_from k (x ∷ xs) q =
    elim (same_bytes x k) as (λ b. same_bytes x k ≡ b → is_in (cond b (dedup_from same_bytes k xs) (k ∷ dedup_from same_bytes x xs)) q ≡ (same_bytes q k || (same_bytes q x || is_in xs q))) [
      | true ↦ λ e. any_dedup_from k xs q ∙ or_twice (same_bytes q k) (is_in xs q) ∙ ap (λ p. same_bytes q k || (same_bytes q p || is_in xs q)) (sym ((same_bytes_decides x k).0 e))
      | false ↦ λ e. ap (λ b. same_bytes q k || b) (any_dedup_from x xs q)
    ] refl

any_dedup : (xs : List Process) (q : Process) → is_in (dedup same_bytes xs) q ≡ is_in xs q
any_dedup [] q = refl
any_dedup (x ∷ xs) q = any_dedup_from x xs q

-- what is sorted and has each once is in order
pub put_in_order : (xs sorted found : List Process) → IsPermutation xs sorted → IsSorted process_cmp sorted → found ≡ dedup same_bytes sorted → found ≡ in_order process_cmp xs
put_in_order xs sorted found moved up e =
    e ∙ same_sorted process_cmp processes_total processes_exact _ _ (IsStrictlySortedBy-dedup processes_total (λ x y. refl) sorted up) (sorted_in_order process_cmp processes_total xs)
    (λ q. any_dedup sorted q ∙ sym (list_any-IsPermutation (same_bytes q) xs sorted moved) ∙ sym (any_in_order process_cmp processes_total xs q))

-- what has the subjects that pass, in any order, has them in order
pub ordered_subjects : (r : Reports) (p : Process → Bool) (found : List Process) → ((q : Process) → is_in found q ≡ (is_in (subjects r) q && p q)) → in_order process_cmp found ≡ filter p (subjects r)
ordered_subjects r p found h =
    same_sorted process_cmp processes_total processes_exact _ _ (sorted_in_order process_cmp processes_total found) (IsStrictlySortedBy-filter process_cmp p (subjects r) (sorted_subjects r))
    (λ q. any_in_order process_cmp processes_total found q ∙ h q ∙ sym (filter_among p (subjects r) q))
