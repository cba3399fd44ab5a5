-- The joiners that wait, in order, and what each of them gets.
use Rattle.std.proofs.Common.{◌≡◌, ℕ, ◌+◌, ◌<◌, ◌≤◌, Bool, true, false, cond, not, ◌&&◌, nat_lt, List, [], ◌++◌, map, refl, sym, ap, subst, ◌∙◌, arith}
use Rattle.std.specs.List.Sorted.{IsStrictlySortedBy}
use Rattle.std.specs.FinSet as set
use Rattle.std.proofs.lemmas.List.{append-nil}
use Rattle.rapid_model.specs.Process.{Process, ProcessSet, process_cmp}
use Rattle.rapid_model.specs.Configuration.{Configuration}
use Rattle.rapid_model.specs.InOrder.{in_order}
use Rattle.rapid_model.specs.Host.{confirms, is_full_for}
use Rattle.rapid_model.specs.JoinSides.{HostSide}
use Rattle.rapid_model.proofs.Orders.{processes_total, processes_exact}
use Rattle.rapid_model.proofs.InOrder.{any_in_order, sorted_in_order, same_sorted}
use Rattle.rapid_join.specs.Answers.{answer_after}

-- keys that ascend are the items of their set in order
keys_in_order : (ks : List Process) → IsStrictlySortedBy process_cmp ks → ks ≡ in_order process_cmp (set.items (set.from_list {R = process_cmp} ks))
keys_in_order ks h =
    let items = set.items (set.from_list {R = process_cmp} ks) in
    same_sorted process_cmp processes_total processes_exact ks (in_order process_cmp items) h (sorted_in_order process_cmp processes_total items) (λ q.
    sym (set.contains-from_list processes_total ks q) ∙ set.contains-items (set.from_list {R = process_cmp} ks) q
    ∙ sym (any_in_order process_cmp processes_total items q))

-- what is told to each key is what is told to the set
pub told_to_all : (next : Configuration) (ks : List Process) → IsStrictlySortedBy process_cmp ks → map (λ j. (j, answer_after next j)) ks ≡ confirms next (set.from_list ks)
unfolding confirms
told_to_all next ks h = ap (map (λ j. (j, answer_after next j))) (keys_in_order ks h)

-- if none is left, all are answered
pub none_left : {X Y K : Type 0} (f : X → Y) (g : K → Y) (told : List X) (left start ks : List K) → map f told ++ map g left ≡ map g start → left ≡ [] → start ≡ ks → map f told ≡ map g ks
none_left f g told left start ks h none all =
    sym (append-nil (map f told)) ∙ ap (λ l. map f told ++ map g l) (sym none) ∙ h ∙ ap (map g) all

-- none are few
pub none_few : (s : ProcessSet) → s ≡ set.empty → set.len s ≤ 512
none_few s e = let none = ap set.len e ∙ set.len-empty process_cmp in omega (arith, none)

-- if there is room for a joiner, they are few with it
pub few_with : (s : ProcessSet) (j : Process) → set.len s ≤ 512 → is_full_for s j ≡ false → set.len (set.insert s j) ≤ 512
few_with s j few room =
    elim (set.contains s j) as (λ b. set.contains s j ≡ b → set.len (set.insert s j) ≤ 512) [
      | true ↦ λ e. let len = set.len-insert processes_total s j ∙ ap (λ b. cond b (set.len s) (set.len s + 1)) e in omega (arith, len, few)
      | false ↦ λ e.
          let len = set.len-insert processes_total s j ∙ ap (λ b. cond b (set.len s) (set.len s + 1)) e in
          let less : not (nat_lt (set.len s) 512) ≡ false = sym (ap (λ b. not b && not (nat_lt (set.len s) 512)) e) ∙ room in
          omega (arith, len, below (set.len s) less)
    ] refl
  where
    below : (n : ℕ) → not (nat_lt n 512) ≡ false → n < 512
    below n h = grind arith

-- a host that has room for a joiner has few with it
pub host_few : (h k : HostSide) (s : ProcessSet) (j : Process) (full : Bool) → set.len h.pending ≤ 512 → h ≡ k → full ≡ is_full_for k.pending j → full ≡ false → s ≡ set.insert h.pending j → set.len s ≤ 512
host_few h k s j full few same is room added =
    subst (λ (x : ProcessSet). set.len x ≤ 512) (sym added) (few_with h.pending j few (ap (λ (x : HostSide). is_full_for x.pending j) same ∙ sym is ∙ room))
