use Rattle.std.proofs.Common.{ap, sym, ◌∙◌, unwrap_or}
use Rattle.std.specs.FinMap as map
use Rattle.rapid_model.proofs.Orders.{processes_total}
use Rattle.rapid_rings.proofs.Sets.{get-lookup}
use Rattle.rapid_member.proofs.ages.Ages.at.Goals as goal

pub returns : goal.returns
returns c =
    c.unwrap_or.ensures
    ∙ ap (λ o. unwrap_or o 0)
    (c.copied.ensures ∙ c.get.ensures.value
    ∙ sym (get-lookup processes_total c.self.inside.ages.entries c.args.process.now)
    ∙ ap (λ m. map.get m c.args.process.now) c.self.view_is)
