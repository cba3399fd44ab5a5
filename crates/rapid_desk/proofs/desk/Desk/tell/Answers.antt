use Rattle.std.proofs.Common.{subst}
use Rattle.rapid_desk.specs.States.{IsDesk}
use Rattle.rapid_desk.specs.Desks.{DeskValue, no_installs_in}
use Rattle.rapid_desk.proofs.Keeping.{joining_shows}
use Rattle.rapid_desk.proofs.desk.Desk.tell.Goals as goal

pub returns-clause-desk : goal.returns-clause-desk
returns-clause-desk g c = subst (λ (v : DeskValue). IsDesk v.state) c.self.view_is c.self.invariant.0.desk

pub returns-clause-joining : goal.returns-clause-joining
returns-clause-joining g c =
    subst (λ (v : DeskValue). no_installs_in v.state.node.phase v.state.published) c.self.view_is (joining_shows _ c.self.invariant.0)
