use Rattle.std.proofs.Common.{rules, ◌≡◌, ◌++◌, ◌∙◌, length}
use Rattle.rapid_endpoint.proofs.Places.{all_told}
use Rattle.rapid_endpoint.proofs.process_id.ProcessId.new.Goals as goal

pub returns : goal.returns
returns c =
    let whole : length c.args.bytes ≡ 16 = search rules in
    (λ i. c.new-high.ensures i ++ c.new-low.ensures i)
    ∙ (λ i. (c.new.ensures i ++ c.new-2.ensures i) ++ (c.new-3.ensures i ++ c.new-4.ensures i))
    ∙ all_told 16 c.args.bytes whole
