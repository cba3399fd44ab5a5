use Rattle.std.proofs.Common.{◌≡◌, ◌↔◌, ◌∙◌, ◌∷◌, ◌++◌, [], Bool, List, ap, sym, subst}
use Rattle.rapid_model.specs.Edge.{HasDownStretch}
use Rattle.rapid_monitor.specs.declared.edge.Verdict.{Verdict}
use Rattle.rapid_monitor.specs.declared.edge.Verdict.TheVariants.{Down}
use Rattle.rapid_monitor.specs.BoardRule.{owner_of}
use Rattle.rapid_monitor.specs.Boards.{verdict_after}
use Rattle.rapid_monitor.proofs.ProbeWords.{stored_word, stored_results}
use Rattle.rapid_monitor.proofs.Verdicts.{verdict_of_word, verdict_is_stretch}
use Rattle.rapid_monitor.proofs.edge_seat.EdgeSeat.probe.Goals as goal

pub store-requires-clause-word : goal.store-requires-clause-word
store-requires-clause-word c =
    let before : List Bool = c.self.inside.seat.me.0.results in
    stored_word before c.find-word.new.seat.me.0.results c.args.ok c.next_word-next.result (ap (λ m. m.0.results) c.find-word.ensures.same.2) (c.next_word-next.ensures before c.find-word.ensures.word)

-- the results after this one
results_are : (c : goal.After-result-1) → c.store.new.seat.me.0.results ≡ c.self.inside.seat.me.0.results ++ c.args.ok ∷ []
results_are c =
    let before : List Bool = c.self.inside.seat.me.0.results in
    stored_results before c.find-word.new.seat.me.0.results c.store.new.seat.me.0.results c.args.ok c.next_word-next.result (ap (λ m. m.0.results) c.find-word.ensures.same.2)
    (c.next_word-next.ensures before c.find-word.ensures.word) (ap (λ m. m.0.results) c.store.ensures.stored)

verdict_is : (c : goal.After-result-1) → c.of.result ≡ verdict_after c.store.new.seat.me.0.results
verdict_is c =
    let before : List Bool = c.self.inside.seat.me.0.results in
    verdict_of_word (before ++ c.args.ok ∷ []) c.of.ensures c.is_down.ensures (c.next_word-next.ensures before c.find-word.ensures.word)
    ∙ ap verdict_after (sym (results_are c))

pub invariant_of-self : goal.invariant_of-self
invariant_of-self c =
    let stored = c.store.ensures.stored in (
      c.store.ensures.same.0 ∙ c.find-word.ensures.same.0 ∙ c.self.invariant.0,
      stored ∙ (λ i. (owner_of c.self.inside.edge (sym (ap (λ m. m.0.results) stored) i) (sym (ap (λ m. m.0.known) stored) i), [])),
      c.self.invariant.2,
      c.self.invariant.3,
      verdict_is c,
    )

pub returns-clause-results : goal.returns-clause-results
returns-clause-results c = results_are c ∙ ap (λ (oks : List Bool). oks ++ c.args.ok ∷ []) (ap (λ w. w.results) c.self.view_is)

pub returns-clause-verdict : goal.returns-clause-verdict
returns-clause-verdict c = verdict_is c

pub returns-clause-so_far : goal.returns-clause-so_far
returns-clause-so_far c =
    let after : List Bool = c.store.new.seat.me.0.results in
    subst (λ (v : Verdict). (v ≡ Down) ↔ HasDownStretch after) (sym (verdict_is c)) (verdict_is_stretch after)
