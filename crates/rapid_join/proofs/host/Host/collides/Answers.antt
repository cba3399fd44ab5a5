use Rattle.std.proofs.Common.{ap, ◌∙◌}
use Rattle.std.specs.FinSet as set
use Rattle.rapid_model.specs.Configuration.{Configuration}
use Rattle.rapid_model.specs.Process.{endpoint}
use Rattle.rapid_model.specs.JoinSides.{HostSide}
use Rattle.rapid_join.specs.Endpoints.{endpoints_of}
use Rattle.rapid_join.proofs.Holding.{collides_at_once, collides_by_endpoint}
use Rattle.rapid_join.proofs.host.Host.collides.Goals as goal

pub returns-then-has_identifier : goal.returns-then-has_identifier
returns-then-has_identifier c =
    let same = c.members.ensures.value ∙ ap (λ (h : HostSide). h.config.members) c.self.view_is in
    collides_at_once c.members.result.now c.args.self.now.config.members c.args.joiner.now c.has_identifier.result same c.has_identifier.ensures c.if-has_identifier.true

pub returns-else-has_identifier : goal.returns-else-has_identifier
returns-else-has_identifier c =
    let same = c.members.ensures.value ∙ ap (λ (h : HostSide). h.config.members) c.self.view_is in
    let config = c.self.invariant.0 ∙ ap (λ (h : HostSide). h.config) c.self.view_is in
    let by_endpoint =
    c.has.ensures ∙ ap (set.contains (endpoints_of c.self.inside.tables.members)) c.endpoint.ensures
    ∙ ap (λ (d : Configuration). set.contains (endpoints_of d.members) (endpoint c.args.joiner.now)) config in
    collides_by_endpoint c.members.result.now c.args.self.now.config.members c.args.joiner.now c.has_identifier.result c.has.result same c.has_identifier.ensures c.if-has_identifier.false by_endpoint
