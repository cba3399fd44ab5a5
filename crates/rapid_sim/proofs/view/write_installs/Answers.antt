use Rattle.std.proofs.Common.{arith, ◌∙◌, ◌++◌, List, ℕ, ap}
use Rattle.rapid_model.specs.Process.{Process, identifier}
use Rattle.rapid_model.specs.Run.{ReportInstalled}
use Rattle.rapid_model.specs.SimText.{report_line}
use Rattle.rapid_text.proofs.Texts.{written_more}
use Rattle.rapid_sim.proofs.view.write_installs.Goals as goal

pub loop-node-preserved : goal.loop-node-preserved
loop-node-preserved c =
    let line = λ (id : List ℕ). report_line (ReportInstalled id c.args.configuration.now) in
    written_more (λ (p : Process). line (identifier p)) c.args.nodes.now c.loop-node.node-index c.args.output.now.items c.loop-node.output.items _ c.node-item.result (omega arith) c.node-item.is c.loop-node.invariant
    (c.in_ok-write_installed.ensures ∙ ap (λ (id : List ℕ). c.loop-node.output.items ++ line id) c.id.ensures)
