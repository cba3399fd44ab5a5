use Rattle.std.proofs.Common.{◌≡◌, ◌∙◌, ◌+◌, ap}
use Rattle.std.proofs.lemmas.List.Elements.{All-same, All-push}
use Rattle.rapid_view.specs.Seen.{Watched, Written}
use Rattle.rapid_view.proofs.cell.seats_of.Goals as goal

pub loop-preserved : goal.loop-preserved
loop-preserved c =
    let i = c.loop.invariant in
    let pushed = c.in_ok-push.ensures in
    let made = c.in_ok-seat_of.ensures.seat in
    let cell = ap (λ (v : Watched). v.cell) made ∙ ap (λ (w : Written). w.cell) i.0 in
    let seen = ap (λ (v : Watched). v.seen) made ∙ ap (λ (w : Written). w.seen) i.0 in
    let kept = ap (λ (v : Watched). v.kept) made in
    let Same : Watched → Type 0 = λ s. (s.cell ≡ c.args.writer.now.cell) × (s.seen ≡ c.args.writer.now.seen) × (s.kept ≡ c.args.view.now) in
    (c.in_ok-seat_of.ensures.same ∙ i.0, pushed.len ∙ ap (λ n. n + 1) i.1, All-same Same _ _ pushed.items (All-push Same _ _ i.2 (cell, seen, kept)))
