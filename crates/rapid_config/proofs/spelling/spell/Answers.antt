use Rattle.std.proofs.Common.{◌<◌, ◌++◌, List, ℕ, length, get_or, ap, ◌∙◌, arith}
use Rattle.rapid_config.proofs.Spelled.{head_bytes, spelt_more}
use Rattle.rapid_config.proofs.spelling.spell.Goals as goal

pub loop-member-preserved : goal.loop-member-preserved
loop-member-preserved c =
    let ps = c.args.members.now in
    let i = c.loop-member.member-index in
    let head = head_bytes c.args.params c.args.height c.args.previous (length ps) in
    let l : i < length ps = omega arith in
    c.in_ok-append_to.ensures.value
    ∙ ap (λ (x : List ℕ). c.loop-member.bytes.items ++ x) c.member-item.is
    ∙ ap (λ (x : List ℕ). x ++ get_or ps i c.member-item.result) c.loop-member.invariant
    ∙ spelt_more head ps i c.member-item.result l
