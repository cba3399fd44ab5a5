use Rattle.std.proofs.Common.{rules, of_calls, arith}
use Rattle.std.proofs.lemmas.Fn.{always_returns_same}
use Rattle.rapid_world.proofs.Mails.{begins_before, those_before_first, none_before, last_tells}
use Rattle.rapid_world.proofs.mail.last_before.Goals as goal

pub returns-in_default-clause-none : goal.returns-in_default-clause-none
returns-in_default-clause-none c =
    let h = c.requires in
    let point = c.partition_point-after.ensures.partitioned (begins_before c.args.number) (always_returns_same _ _ _ (λ a r f k. search (rules, of_calls))) (those_before_first c.args.sendings.now h.0 c.args.number h.1) in
    λ e. none_before c.args.sendings.now h.0 c.args.number c.partition_point-after.result h.1 point (omega (arith, c.in_default.ensures))

pub returns-clause-found : goal.returns-clause-found
returns-clause-found c =
    let h = c.requires in
    let point = c.partition_point-after.ensures.partitioned (begins_before c.args.number) (always_returns_same _ _ _ (λ a r f k. search (rules, of_calls))) (those_before_first c.args.sendings.now h.0 c.args.number h.1) in
    last_tells c.args.sendings.now h.0 c.args.number c.partition_point-after.result c.in-Some.last h.1 point (search rules) c.partition_point-after.ensures.bound
