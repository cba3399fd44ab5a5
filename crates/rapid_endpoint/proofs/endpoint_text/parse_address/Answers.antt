use Rattle.std.proofs.Common.{Option, List, ℕ, ap, ◌∙◌}
use Rattle.std.specs.Option.{ok_or}
use Rattle.rapid_endpoint.specs.declared.parse_error.ParseError.TheVariants.{PartRange}
use Rattle.rapid_endpoint.proofs.Hosts.{address_of_parts}
use Rattle.rapid_endpoint.proofs.endpoint_text.parse_address.Goals as goal

pub returns-in-Some : goal.returns-in-Some
returns-in-Some c =
    c.ok_or.ensures.value ∙ ap (λ (r : Option (List ℕ)). ok_or r PartRange) c.address_of.ensures
    ∙ address_of_parts c.args.host.now _ _ _ _ c.in-Some.ensures
