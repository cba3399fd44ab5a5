use Rattle.rapid_repeats.proofs.repeats.Repeats.admits.Goals as goal

pub returns : goal.returns
returns c =
    record {
      dropped = c.judge.ensures.dropped;
      repeats = c.judge.ensures.repeats;
      learned = c.judge.ensures.learned;
      kept = c.judge.ensures.kept;
    }
