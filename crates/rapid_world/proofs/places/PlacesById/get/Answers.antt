use Rattle.std.proofs.Common.{ap, sym, ◌∙◌, ℕ, List}
use Rattle.std.specs.FinMap as finmap
use Rattle.std.specs.HashMap.{get}
use Rattle.std.proofs.lemmas.Cmp.{nat_list_cmp_total}
use Rattle.rapid_model.specs.Process.{same_bytes}
use Rattle.rapid_rings.proofs.Sets.{get-lookup}
use Rattle.rapid_world.proofs.places.PlacesById.get.Goals as goal

pub returns : goal.returns
returns c =
    c.copied.ensures ∙ c.get.ensures.value
    ∙ ap (λ (x : List ℕ). get same_bytes c.self.inside.places x) c.new.ensures
    ∙ sym (get-lookup nat_list_cmp_total c.self.inside.places.entries c.args.id.now)
    ∙ ap (λ m. finmap.get m c.args.id.now) c.self.view_is
