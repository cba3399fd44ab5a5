use Rattle.std.proofs.Common.{◌≤◌, ◌/◌, ◌%◌, ◌==◌, get_or, subst, ap, sym, ◌∙◌}
use Rattle.std.specs.FinSet as set
use Rattle.std.proofs.lemmas.Nat.Bits.{shr_and_one}
use Rattle.rapid_fast.proofs.BitSets.{few_positions, contains-positions_of}
use Rattle.rapid_fast.proofs.positions.PositionSet.contains.Goals as goal

pub returns-clause-value : goal.returns-clause-value
returns-clause-value c =
    let p = c.args.position in
    let words = c.self.inside.words in
    ap (λ n. n == 1) (shr_and_one (get_or words (p / 64) 0) (p % 64)) ∙ sym (contains-positions_of words p c.requires) ∙ ap (λ s. set.contains s p) c.self.view_is

pub returns-clause-few : goal.returns-clause-few
returns-clause-few c = subst (λ s. set.len s ≤ 1024) c.self.view_is (few_positions c.self.inside.words)
