use Rattle.std.proofs.Common.{◌≡◌, ◌++◌, ◌∷◌, [], Some, IsSome, is_some, false, sym, ap, subst, ◌∙◌, cond}
use Rattle.rapid_model.specs.Process.{same_bytes}
use Rattle.rapid_roster.specs.Heads.{head_of}
use Rattle.rapid_roster.specs.Indexed.{noted_for, IsIndexed}
use Rattle.rapid_roster.proofs.Indexing.{unnoted_is_none, other_more, first_more}
use Rattle.rapid_roster.proofs.roster.note.Goals as goal

pub returns-in_ok-push-clause-noted : goal.returns-in_ok-push-clause-noted
returns-in_ok-push-clause-noted c ps p at head new was =
    let firsts = c.args.firsts.now.entries in
    let noted : IsSome (noted_for firsts (head_of p)) = subst (λ h. IsSome (noted_for firsts h)) head (sym c.contains_key.ensures ∙ c.if-contains_key.true) in
    subst (λ ns. IsIndexed (ps ++ p ∷ []) firsts ns) (sym (c.in_ok-push.ensures.items ∙ ap (λ n. c.args.others.now.items ++ n ∷ []) at)) (other_more ps p firsts c.args.others.now.items new noted was)

pub returns-in_ok-insert-clause-noted : goal.returns-in_ok-insert-clause-noted
returns-in_ok-insert-clause-noted c ps p at head new was =
    let old = c.args.firsts.now.entries in
    let lacks : is_some (noted_for old (head_of p)) ≡ false = ap (λ h. is_some (noted_for old h)) (sym head) ∙ sym c.contains_key.ensures ∙ c.if-contains_key.false in
    first_more ps p old c.insert.new.self.entries c.args.others.now.items new (unnoted_is_none (noted_for old (head_of p)) lacks)
    (λ h. c.in_ok-insert.ensures.updates.0 h
    ∙ ap (λ k. cond (same_bytes k h) (Some c.args.place) (noted_for old h)) head
    ∙ ap (λ n. cond (same_bytes (head_of p) h) (Some n) (noted_for old h)) at)
    was
