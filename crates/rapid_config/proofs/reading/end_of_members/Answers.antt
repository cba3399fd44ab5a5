use Rattle.std.proofs.Common.{ℕ, List, sym, ap, subst, ◌∙◌, arith, length-drop}
use Rattle.std.specs.Prelude.{Ok}
use Rattle.std.proofs.lemmas.List.{drop-drop}
use Rattle.rapid_model.specs.Reading.{processes_at}
use Rattle.rapid_endpoint.specs.Ends.{EndsAt}
use Rattle.rapid_endpoint.proofs.Keys.{all_behind}
use Rattle.rapid_config.proofs.reading.end_of_members.Goals as goal

pub returns-in-Ok : goal.returns-in-Ok
returns-in-Ok c =
    let bytes = c.args.bytes.now in
    let n = c.in-Ok.length in
    let h = subst (λ (s : List ℕ). EndsAt s (Ok n) (processes_at c.args.count s)) (all_behind 49 bytes) c.in-Ok.ensures in
    (omega (arith, h.0, length-drop 49 bytes), h.1, h.2 ∙ (λ i. Ok (h.1, drop-drop n 49 bytes i)))

pub returns-in-Err : goal.returns-in-Err
returns-in-Err c = ap (processes_at c.args.count) (sym (all_behind 49 c.args.bytes.now)) ∙ c.in-Err.ensures
