use Rattle.std.proofs.Common.{◌≡◌, true, false, Option, ap, subst, ◌∙◌}
use Rattle.std.specs.Prelude.{is_some, IfOk, IfSome, IfNone}
use Rattle.std.proofs.lemmas.Result.{err_from_is_err_and}
use Rattle.rapid_model.specs.Monitors.{Monitors, edge_at}
use Rattle.rapid_model.specs.Edge.{probed}
use Rattle.rapid_model.specs.Node.{member_in}
use Rattle.rapid_model.specs.Process.{Process}
use Rattle.rapid_model.specs.World.{Peer}
use Rattle.rapid_model.specs.WorldStep.{edge_on}
use Rattle.rapid_world.specs.declared.windows.Windows.{Windows}
use Rattle.rapid_world.specs.Windows.{windows_of}
use Rattle.rapid_world.proofs.Taking.{peer_of}
use Rattle.rapid_world.proofs.Probing.{probed_or, probed_not}
use Rattle.rapid_world.proofs.peer.Peer.probe.Goals as goal

pub monitors_of-requires-clause-member : goal.monitors_of-requires-clause-member
monitors_of-requires-clause-member c = ap (λ (p : Peer). is_some (member_in p.node)) c.self.view_is ∙ c.requires.member

pub monitors_of-requires-clause-edge : goal.monitors_of-requires-clause-edge
monitors_of-requires-clause-edge c = (
  c.args.ring,
  c.requires.edge.0,
  ap (λ (w : Windows). edge_at (windows_of w c.self.inside.node) c.args.ring) c.replace-windows.ensures.value ∙ ap (λ (p : Peer). edge_at p.edges c.args.ring) c.self.view_is ∙ c.requires.edge.1,
)

pub returns-in_err-monitors-clause-unchanged : goal.returns-in_err-monitors-clause-unchanged
returns-in_err-monitors-clause-unchanged c =
    let p = err_from_is_err_and c.from_residual.result c.from_residual.ensures.1 in
    rw (p.1)
    (ap (peer_of c.self.inside.node c.self.inside.crashed) c.replace-windows.ensures.after
    ∙ ap (λ (m : Monitors). record { node = c.self.inside.node; crashed = c.self.inside.crashed; edges = m }) (c.in_err-monitors.ensures.fresh ∙ ap (λ (w : Windows). windows_of w c.self.inside.node) c.replace-windows.ensures.value)
    ∙ c.self.view_is)

pub note-lost-requires : goal.note-lost-requires
note-lost-requires c = (
  c.requires.edge.0,
  ap (λ (m : Monitors). edge_at m c.args.ring) (c.in_ok-monitors.ensures.kept ∙ ap (λ (w : Windows). windows_of w c.self.inside.node) c.replace-windows.ensures.value)
      ∙ ap (λ (p : Peer). edge_at p.edges c.args.ring) c.self.view_is ∙ c.requires.edge.1,
)

pub returns-clause-peer : goal.returns-clause-peer
returns-clause-peer c =
    probed_or c.note-lost.result c.self.inside.windows _ _ _ _ _ _ _ c.self.view_is (c.in_ok-monitors.ensures.kept ∙ ap (λ (w : Windows). windows_of w c.self.inside.node) c.replace-windows.ensures.value) c.note-lost.ensures.monitors

pub returns-clause-unchanged : goal.returns-clause-unchanged
returns-clause-unchanged c =
    probed_not c.note-lost.result c.self.inside.windows _ _ _ _ _ c.self.view_is (c.in_ok-monitors.ensures.kept ∙ ap (λ (w : Windows). windows_of w c.self.inside.node) c.replace-windows.ensures.value) c.note-lost.ensures.unchanged

pub returns-clause-down : goal.returns-clause-down
returns-clause-down c =
    subst (λ (m : Monitors). IfOk c.note-lost.result (λ (lost : Option Process). IfSome lost (λ (p : Process). (p ≡ c.args.subject.now) × ((probed (edge_on m c.args.ring) c.args.ok).is_down ≡ true))))
    (c.in_ok-monitors.ensures.kept ∙ ap (λ (w : Windows). windows_of w c.self.inside.node) c.replace-windows.ensures.value ∙ ap (λ (p : Peer). p.edges) c.self.view_is)
    c.note-lost.ensures.down

pub returns-clause-up : goal.returns-clause-up
returns-clause-up c =
    subst (λ (m : Monitors). IfOk c.note-lost.result (λ (lost : Option Process). IfNone lost ((probed (edge_on m c.args.ring) c.args.ok).is_down ≡ false)))
    (c.in_ok-monitors.ensures.kept ∙ ap (λ (w : Windows). windows_of w c.self.inside.node) c.replace-windows.ensures.value ∙ ap (λ (p : Peer). p.edges) c.self.view_is)
    c.note-lost.ensures.up
