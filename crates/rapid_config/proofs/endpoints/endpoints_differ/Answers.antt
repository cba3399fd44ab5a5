use Rattle.std.proofs.Common.{◌≡◌, ℕ, true, false, List, ◌∷◌, [], ◌++◌, ◌+◌, take, get_or, sym, ap, subst, ◌∙◌, arith}
use Rattle.std.specs.List.{list_any}
use Rattle.std.proofs.lemmas.Bool.{not-true, not-false}
use Rattle.rapid_model.specs.Process.{endpoint, same_bytes}
use Rattle.rapid_config.specs.Endpoints.{AreEndpointsOf}
use Rattle.rapid_config.proofs.Differing.{differ_more, differ_not, seen_more}
use Rattle.rapid_config.proofs.endpoints.endpoints_differ.Goals as goal

pub returns-then-not-branch : goal.returns-then-not-branch
returns-then-not-branch c =
    let ps = c.args.processes.now in
    let i = c.loop-process.process-index in
    let d = c.process-item.result in
    let here : c.endpoint.result ≡ endpoint (get_or ps i d) = c.endpoint.ensures ∙ ap endpoint c.process-item.is in
    let there : list_any (same_bytes c.endpoint.result) c.loop-process.seen ≡ true = not-false _ (sym c.in_ok-insert.ensures.added ∙ c.if-not-branch.true) in
    sym
    (differ_not ps i d (omega arith)
    (subst (λ (e : List ℕ). list_any (λ p. same_bytes e (endpoint p)) (take i ps) ≡ true) here (sym (c.loop-process.invariant.seen c.endpoint.result) ∙ there)))

pub loop-process-preserved : goal.loop-process-preserved
loop-process-preserved c =
    let ps = c.args.processes.now in
    let i = c.loop-process.process-index in
    let d = c.process-item.result in
    let seen = c.loop-process.seen in
    let here : c.endpoint.result ≡ endpoint (get_or ps i d) = c.endpoint.ensures ∙ ap endpoint c.process-item.is in
    let new : list_any (same_bytes c.endpoint.result) seen ≡ false = not-true _ (sym c.in_ok-insert.ensures.added ∙ c.if-not-branch.false) in
    record {
      differ =
          differ_more ps i d (omega arith) c.loop-process.invariant.differ
          (subst (λ (e : List ℕ). list_any (λ p. same_bytes e (endpoint p)) (take i ps) ≡ false) here (sym (c.loop-process.invariant.seen c.endpoint.result) ∙ new));
      seen =
          subst (λ (es : List (List ℕ)). AreEndpointsOf (take (i + 1) ps) es)
          (sym (c.in_ok-insert.ensures.behind c.if-not-branch.false ∙ ap (λ (e : List ℕ). seen ++ e ∷ []) here))
          (seen_more ps i d seen (omega arith) c.loop-process.invariant.seen);
    }
