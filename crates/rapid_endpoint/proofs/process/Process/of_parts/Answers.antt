use Rattle.std.proofs.Common.{List, ℕ, ◌++◌, sym, subst}
use Rattle.rapid_model.specs.Process.{IsProcess}
use Rattle.rapid_model.specs.Tags.{AreTags, tags_of}
use Rattle.rapid_endpoint.specs.Joined.{second_part}
use Rattle.rapid_endpoint.proofs.process.Process.of_parts.Goals as goal

pub spelt-requires : goal.spelt-requires
spelt-requires c = subst (λ (u : List ℕ). AreTags (tags_of u) u) (second_part 22 c.args.key c.args.tags.now c.requires.key) c.requires.process.tags

pub invariant_of-result : goal.invariant_of-result
invariant_of-result c = (c.requires.key, subst (λ (u : List ℕ). IsProcess (c.args.key ++ u)) (sym c.spelt.ensures) c.requires.process)
