use Rattle.std.proofs.Common.{◌≡◌, ◌∙◌, ap, sym, subst, ℕ, List, ◌∷◌}
use Rattle.std.specs.Prelude.{if◌then◌else◌}
use Rattle.rapid_monitor.specs.BoardRule.{IsIn, IsDown, is_down_after}
use Rattle.rapid_monitor.proofs.Moves.{in_left}
use Rattle.rapid_monitor.proofs.Verdicts.{stretch_when_down, down_when_stretch, told, known_when}
use Rattle.rapid_monitor.proofs.board.EdgeBoard.told_by.Goals as goal

pub returns-clause-found : goal.returns-clause-found
returns-clause-found c = λ here.
    let mine = ap (λ w. w.known) c.self.view_is in
    let edge = ap (λ w. w.edge) c.seat.view_is in
    let results = ap (λ w. w.results) c.seat.view_is in
    let old : IsIn c.seat.inside.edge c.self.inside.seat.me.0.known = subst (λ (p : ℕ × List ℕ). IsIn p.0 p.1) (λ i. (sym edge i, sym mine i)) here in
    stretch_when_down c.args.seat.now.results (subst IsDown results (c.tie.ensures.found (in_left _ _ _ old)))

pub returns-clause-told : goal.returns-clause-told
returns-clause-told c = λ stretch.
    let v = c.seat.inside.seat.me.0 in
    let known = c.self.inside.seat.me.0.known in
    let results : v.results ≡ c.args.seat.now.results = ap (λ w. w.results) c.seat.view_is in
    let edge : v.edge ≡ c.args.seat.now.edge = ap (λ m. m.0.edge) c.seat.invariant.1 ∙ ap (λ w. w.edge) c.seat.view_is in
    let down : IsDown v.results = subst IsDown (sym results) (down_when_stretch c.args.seat.now.results stretch) in
    let new : c.tie.new.seat.me.0.known ≡ (if is_down_after v.results then v.edge ∷ known else known) = ap (λ m. m.0.known) c.tie.ensures.told ∙ told (is_down_after v.results) v.edge known in
    subst (λ (p : ℕ × List ℕ). IsIn p.0 p.1) (λ i. (edge i, sym new i)) (known_when (is_down_after v.results) v.edge known down)
