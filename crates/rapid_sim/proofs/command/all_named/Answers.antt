use Rattle.std.proofs.Common.{ℕ, List, Option, ap, sym, ◌∙◌}
use Rattle.rapid_model.specs.Process.{Process}
use Rattle.rapid_model.specs.SimLine.{all_named, with_named}
use Rattle.rapid_model.specs.Lines.{words}
use Rattle.rapid_sim.proofs.Founders.{before_all, joins}
use Rattle.rapid_sim.proofs.command.all_named.Goals as goal

pub loop-word-preserved : goal.loop-word-preserved
loop-word-preserved c =
    let ps = c.loop-word.found.items in
    let later = all_named (words c.in-Some.others.now) in
    c.loop-word.invariant
    ∙ ap (λ (ws : List (List ℕ)). before_all ps (all_named ws)) c.in-Some.ensures
    ∙ ap (λ (n : Option Process). before_all ps (with_named n later)) (sym c.in-Some-process.ensures)
    ∙ joins ps c.in-Some-process.named later
    ∙ ap (λ (qs : List Process). before_all qs later) (sym c.in_ok-push.ensures.items)
