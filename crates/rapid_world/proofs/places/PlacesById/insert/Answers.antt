use Rattle.std.proofs.Common.{ap, sym, subst, ◌∙◌, cond, Some, ℕ, List}
use Rattle.std.specs.BTreeSet.{insert_key}
use Rattle.std.specs.FinMap as finmap
use Rattle.std.specs.HashMap.{get}
use Rattle.std.proofs.lemmas.Cmp.{nat_list_cmp_total}
use Rattle.rapid_model.specs.Process.{bytes_cmp, same_bytes}
use Rattle.rapid_model.proofs.Orders.{processes_exact}
use Rattle.rapid_rings.proofs.Sets.{map_insert_seen}
use Rattle.rapid_world.specs.Found.{Places, HasAll}
use Rattle.rapid_world.proofs.Next.{kept_more, placed_more}
use Rattle.rapid_world.proofs.places.PlacesById.insert.Goals as goal

pub invariant_of-self-in_err-insert-2 : goal.invariant_of-self-in_err-insert-2
invariant_of-self-in_err-insert-2 c =
    subst (λ (ids : List (List ℕ)). HasAll ids (finmap.from_entries c.insert-2.new.self.entries)) (sym c.in_ok-insert.ensures.keys)
    (subst (λ (es : List (List ℕ × ℕ)). HasAll (insert_key bytes_cmp c.self.inside.ids.keys c.args.id) (finmap.from_entries es)) (sym c.in_err-insert-2.ensures.err)
    (kept_more c.self.inside.ids.keys (finmap.from_entries c.self.inside.places.entries) c.args.id c.self.invariant))

pub invariant_of-self-2 : goal.invariant_of-self-2
invariant_of-self-2 c =
    let seen = map_insert_seen nat_list_cmp_total processes_exact c.self.inside.places.entries c.insert-2.new.self.entries c.args.id c.args.place
    (λ q. c.in_ok-insert-2.ensures.updates.0 q ∙ ap (λ (x : List ℕ). cond (same_bytes x q) (Some c.args.place) (get same_bytes c.self.inside.places q)) c.new.ensures) in
    subst (λ (ids : List (List ℕ)). HasAll ids (finmap.from_entries c.insert-2.new.self.entries)) (sym c.in_ok-insert.ensures.keys)
    (subst (λ (m : Places). HasAll (insert_key bytes_cmp c.self.inside.ids.keys c.args.id) m) (sym seen)
    (placed_more c.self.inside.ids.keys (finmap.from_entries c.self.inside.places.entries) c.args.id c.args.place c.self.invariant))

pub returns-clause-ok : goal.returns-clause-ok
returns-clause-ok c =
    map_insert_seen nat_list_cmp_total processes_exact c.self.inside.places.entries c.insert-2.new.self.entries c.args.id c.args.place
    (λ q. c.in_ok-insert-2.ensures.updates.0 q ∙ ap (λ (x : List ℕ). cond (same_bytes x q) (Some c.args.place) (get same_bytes c.self.inside.places q)) c.new.ensures)
    ∙ ap (λ m. finmap.insert m c.args.id c.args.place) c.self.view_is
