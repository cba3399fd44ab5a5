use Rattle.std.proofs.Common.{[], subst}
use Rattle.rapid_repeats.specs.Remembering.{Remembers}
use Rattle.rapid_repeats.specs.Parts.{filter_of}
use Rattle.rapid_repeats.proofs.Judged.{nothing_yet}
use Rattle.rapid_repeats.proofs.Parts.{no_parts}
use Rattle.rapid_repeats.proofs.repeats.Repeats.new.Goals as goal

pub invariant_of-result : goal.invariant_of-result
invariant_of-result c =
    let config = c.in_ok-try_copy.field-0 in
    ((config, 0, [], nothing_yet config c.new.result.entries c.new-2.result.entries c.new-3.result c.new.ensures.empty c.new-2.ensures.empty c.new-3.ensures), no_parts config c.new.result.entries c.new-2.result.entries c.new.ensures.empty c.new-2.ensures.empty)

pub returns : goal.returns
returns c =
    let config = c.in_ok-try_copy.field-0 in
    subst (λ d. Remembers (filter_of config 0 c.new.result.entries c.new-2.result.entries c.new-3.result) d 0 []) c.in_ok-try_copy.ensures
    (nothing_yet config c.new.result.entries c.new-2.result.entries c.new-3.result c.new.ensures.empty c.new-2.ensures.empty c.new-3.ensures)
