use Rattle.std.proofs.Common.{◌∙◌, sym, ℕ, List, Bor}
use Rattle.std.proofs.lemmas.Result.{err_from_is_err_and}
use Rattle.std.specs.Option.{option_map}
use Rattle.rapid_options.proofs.Refusing.{identifier_refused, tags_refused}
use Rattle.rapid_options.proofs.options.judge.Goals as goal

pub returns-in_err-id-clause-refused : goal.returns-in_err-id-clause-refused
returns-in_err-id-clause-refused c =
    let p = err_from_is_err_and c.from_residual-in_err-id.result c.from_residual-in_err-id.ensures.1 in
    rw (p.1, p.2)
    (identifier_refused _ c.args.words.listen.now (option_map (λ (t : Bor (List ℕ)). t.now) c.args.words.join)
    (option_map (λ (t : Bor (List ℕ)). t.now) c.args.words.id) (option_map (λ (t : Bor (List ℕ)). t.now) c.args.words.tags) _ _ c.in_err-id.field-0.0 c.in-Ok.ensures.exactly.0
    (sym c.local_endpoint.ensures ∙ c.in_ok-listen.was) (sym c.seed.ensures ∙ c.in_ok-join.was) (sym c.identifier.ensures ∙ c.in_err-id.was))

pub returns-in-Err-clause-refused : goal.returns-in-Err-clause-refused
returns-in-Err-clause-refused c =
    tags_refused _ c.args.words.listen.now (option_map (λ (t : Bor (List ℕ)). t.now) c.args.words.join)
    (option_map (λ (t : Bor (List ℕ)). t.now) c.args.words.id) (option_map (λ (t : Bor (List ℕ)). t.now) c.args.words.tags) _ _ _ c.in-Err.fault c.in-Ok.ensures.exactly.0
    (sym c.local_endpoint.ensures ∙ c.in_ok-listen.was) (sym c.seed.ensures ∙ c.in_ok-join.was) (sym c.identifier.ensures ∙ c.in_ok-id.was) (sym c.tags.ensures ∙ c.in-Err.is)
