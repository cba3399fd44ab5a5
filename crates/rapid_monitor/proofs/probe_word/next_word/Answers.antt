use Rattle.std.proofs.Common.{◌∙◌, ◌+◌, ◌*◌, ◌%◌, ℕ, ap, refl}
use Rattle.rapid_monitor.proofs.ProbeWords.{next_is}
use Rattle.rapid_monitor.proofs.probe_word.next_word.Goals as goal

pub returns : goal.returns
returns c oks is =
    let window : ℕ = (2 * (c.args.word % 1024) + c.from.result) % 1024 in
    ap (λ (n : ℕ). window + 1024 * c.min-count.result + n) c.down_bit.ensures ∙ next_is oks c.args.ok {window = window} is c.from.ensures refl c.min-count.ensures refl c.goes_down.ensures
