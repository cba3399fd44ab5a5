use Rattle.std.proofs.Common.{ℕ, List, subst, sym, rules}
use Rattle.std.specs.Prelude.{Ok, Err}
use Rattle.std.specs.List.Sorted.{IsBinarySearchResult}
use Rattle.std.proofs.lemmas.List.Sorted.{answers_always}
use Rattle.rapid_model.specs.Process.{identifier, bytes_cmp}
use Rattle.rapid_config.proofs.Insertions.{held_at, none_held}
use Rattle.rapid_join.proofs.host.has_identifier.Goals as goal

pub returns-in-Ok : goal.returns-in-Ok
returns-in-Ok c =
    let h = c.in-Ok.ensures.position identifier (answers_always _ _ _ (λ f a r g h. search rules)) in
    let k = subst (λ (x : List ℕ). IsBinarySearchResult (λ y. bytes_cmp (identifier y) x) c.args.members.now (Ok c.in-Ok._place)) c.id.ensures h in
    sym (held_at c.args.members.now c.args.joiner.now c.in-Ok._place c.in-Ok.ensures.bound k)

pub returns-in-Err : goal.returns-in-Err
returns-in-Err c =
    let h = c.in-Err.ensures.position identifier (answers_always _ _ _ (λ f a r g h. search rules)) in
    let k = subst (λ (x : List ℕ). IsBinarySearchResult (λ y. bytes_cmp (identifier y) x) c.args.members.now (Err c.in-Err._next)) c.id.ensures h in
    sym (none_held c.args.members.now c.args.joiner.now c.in-Err._next c.requires k)
