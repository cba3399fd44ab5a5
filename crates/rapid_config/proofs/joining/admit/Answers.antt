use Rattle.std.proofs.Common.{◌≡◌, ◌<◌, ℕ, true, false, cond, List, length, sym, ap, subst, ◌∙◌, arith}
use Rattle.std.specs.List.{list_any}
use Rattle.std.proofs.lemmas.Bool.{not-true, not-false}
use Rattle.rapid_model.specs.Process.{Process, endpoint, same_bytes}
use Rattle.rapid_model.specs.Configuration.{AreMembers}
use Rattle.rapid_config.specs.Endpoints.{AreEndpointsOf}
use Rattle.rapid_config.proofs.Insertions.{identifier_held, endpoint_held, joined, members_insert, endpoints_insert}
use Rattle.rapid_config.proofs.joining.admit.Goals as goal

pub returns-in_default-clause-admitted : goal.returns-in_default-clause-admitted
returns-in_default-clause-admitted c = identifier_held c.args.members.now c.args.joiner.now c.in_default.ensures

pub returns-then-not-branch-clause-admitted : goal.returns-then-not-branch-clause-admitted
returns-then-not-branch-clause-admitted c =
    let ps = c.args.members.now in
    let there : list_any (same_bytes c.new.result) c.args.endpoints.now.keys ≡ true = not-false _ (sym c.in_ok-insert.ensures.added ∙ c.if-not-branch.true) in
    endpoint_held ps c.args.joiner.now
    (subst (λ (e : List ℕ). list_any (λ p. same_bytes e (endpoint p)) ps ≡ true) (c.new.ensures ∙ c.endpoint.ensures) (sym (c.requires.endpoints c.new.result) ∙ there))

pub returns-clause-admitted : goal.returns-clause-admitted
returns-clause-admitted c =
    let ps = c.args.members.now in
    let j = c.args.joiner.now in
    let absent : list_any (same_bytes c.new.result) c.args.endpoints.now.keys ≡ false = not-true _ (sym c.in_ok-insert.ensures.added ∙ c.if-not-branch.false) in
    let few : length ps < 1024 = omega arith in
    c.in_ok-insert-2.ensures ∙ c.in-Some.ensures.2
    ∙ joined ps j few c.in-Some.ensures.1
    (subst (λ (e : List ℕ). list_any (λ p. same_bytes e (endpoint p)) ps ≡ false) (c.new.ensures ∙ c.endpoint.ensures) (sym (c.requires.endpoints c.new.result) ∙ absent))

pub returns-clause-members : goal.returns-clause-members
returns-clause-members c =
    let ps = c.args.members.now in
    let j = c.args.joiner.now in
    let absent : list_any (same_bytes c.new.result) c.args.endpoints.now.keys ≡ false = not-true _ (sym c.in_ok-insert.ensures.added ∙ c.if-not-branch.false) in
    let few : length ps < 1024 = omega arith in
    subst AreMembers (sym (c.in_ok-insert-2.ensures ∙ c.in-Some.ensures.2))
    (members_insert j ps c.requires.members c.tell.ensures few c.in-Some.ensures.1
    (subst (λ (e : List ℕ). list_any (λ p. same_bytes e (endpoint p)) ps ≡ false) (c.new.ensures ∙ c.endpoint.ensures) (sym (c.requires.endpoints c.new.result) ∙ absent)))

pub returns-clause-endpoints : goal.returns-clause-endpoints
returns-clause-endpoints c =
    let ps = c.args.members.now in
    let j = c.args.joiner.now in
    subst (λ (qs : List Process). AreEndpointsOf qs c.insert.new.self.keys) (sym (c.in_ok-insert-2.ensures ∙ c.in-Some.ensures.2))
    (endpoints_insert j ps c.args.endpoints.now.keys c.insert.new.self.keys c.requires.endpoints
    (λ q. c.in_ok-insert.ensures.updates.0 q ∙ ap (λ (e : List ℕ). cond (same_bytes e q) true (list_any (same_bytes q) c.args.endpoints.now.keys)) (c.new.ensures ∙ c.endpoint.ensures)))
