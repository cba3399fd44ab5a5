use Rattle.std.proofs.Common.{◌∙◌, sym}
use Rattle.rapid_cut.proofs.Listed.{own_at, none_more}
use Rattle.rapid_cut.proofs.bare.place_in.Goals as goal

pub returns-then-is-clause-found : goal.returns-then-is-clause-found
returns-then-is-clause-found c =
    record {
      within = c.loop-place-test.true;
      own = own_at c.args.entries.now c.args.subject.now c.loop-place.place c.index-entries-place.result c.loop-place-test.true (sym c.is.ensures ∙ c.if-is.true);
      first = c.loop-place.invariant;
    }

pub loop-place-preserved : goal.loop-place-preserved
loop-place-preserved c =
    none_more c.args.entries.now c.args.subject.now c.loop-place.place c.index-entries-place.result c.loop-place-test.true c.loop-place.invariant (sym c.is.ensures ∙ c.if-is.false)
