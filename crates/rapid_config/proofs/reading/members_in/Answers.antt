use Rattle.std.proofs.Common.{ℕ, List, ◌≤◌, length, drop, ap, sym, subst, ◌∙◌}
use Rattle.std.proofs.lemmas.Result.{err_from_is_err_and}
use Rattle.rapid_model.specs.Reading.{processes_at, read_in, count_in}
use Rattle.rapid_config.proofs.Announced.{late_fault, few_read}
use Rattle.rapid_config.proofs.reading.members_in.Goals as goal

pub returns-in_err-members-clause-refused : goal.returns-in_err-members-clause-refused
returns-in_err-members-clause-refused c =
    let p = err_from_is_err_and c.from_residual.result c.from_residual.ensures.1 in
    let bytes = c.args.bytes.now in
    let few : count_in bytes ≤ 1024 = subst (λ (n : ℕ). n ≤ 1024) c.requires.count c.requires.few in
    rw (p.1, p.2) (late_fault (read_in (processes_at (count_in bytes) (drop 49 bytes))) (few_read (count_in bytes) (drop 49 bytes) few c.requires.all))

pub check_identified-requires-clause-few : goal.check_identified-requires-clause-few
check_identified-requires-clause-few c =
    let bytes = c.args.bytes.now in
    let few : count_in bytes ≤ 1024 = subst (λ (n : ℕ). n ≤ 1024) c.requires.count c.requires.few in
    subst (λ (ps : List (List ℕ)). length ps ≤ 1024)
    (ap (λ n. read_in (processes_at n (drop 49 bytes))) (sym c.requires.count) ∙ sym c.in_ok-members.ensures.members ∙ sym c.as_slice.ensures.value)
    (few_read (count_in bytes) (drop 49 bytes) few c.requires.all)
