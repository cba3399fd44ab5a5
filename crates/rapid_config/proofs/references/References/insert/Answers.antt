use Rattle.std.proofs.Common.{List, map, take, drop, ◌∷◌, ◌++◌, ◌≡◌, ℕ, sym, ap, ◌∙◌}
use Rattle.std.specs.List.{insert}
use Rattle.std.proofs.lemmas.List.{map-append, take-map, drop-map}
use Rattle.rapid_model.specs.Process.{Process}
use Rattle.rapid_config.proofs.references.References.insert.Goals as goal

map_insert : {X Y : Type 0} (f : X → Y) (xs : List X) (i : ℕ) (x : X) → map f (insert xs i x) ≡ insert (map f xs) i (f x)
map_insert f xs i x = map-append f (take i xs) (x ∷ drop i xs) ∙ (λ k. sym (take-map f i xs) k ++ f x ∷ sym (drop-map f i xs) k)

pub returns : goal.returns
returns c =
    ap (λ rs. map (λ p. p.now) rs) c.in_ok-insert.ensures.items ∙ map_insert (λ p. p.now) c.self.inside.processes.items c.args.place c.args.process
    ∙ ap (λ (ps : List Process). insert ps c.args.place c.args.process.now) c.self.view_is
