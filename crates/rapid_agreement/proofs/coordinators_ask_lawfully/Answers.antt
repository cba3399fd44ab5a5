use Rattle.std.proofs.Common.{◌≡◌, ◌++◌, ◌∷◌, [], List, inl, inr, refl, ap, ◌∙◌}
use Rattle.rapid_model.specs.Ballot.{Ballot}
use Rattle.rapid_model.specs.Coordinator.{Coordinator, after_report, accept_cut, begun}
use Rattle.rapid_model.proofs.Lists.{in_right, contains_from, In}
use Rattle.rapid_agreement.specs.Runs.{said_in}
use Rattle.rapid_agreement.specs.Asking.{Report, after_promises}
use Rattle.rapid_agreement.proofs.Asking.{asks_lawfully, asks_once}
use Rattle.rapid_agreement.proofs.coordinators_ask_lawfully.Goals as goal

after-append : (c : Coordinator) (b : Ballot) (xs : List Report) (y : Report) (ys : List Report) → after_promises c b (xs ++ y ∷ ys) ≡ after_promises (after_report (after_promises c b xs) y.0 b y.1) b ys
after-append c b [] y ys = refl
after-append c b (x ∷ xs) y ys = after-append (after_report c x.0 b x.1) b xs y ys

in_front : (xs : List Report) (y : Report) (ys : List Report) (x : Report) → In (xs ++ y ∷ []) x → In (xs ++ y ∷ ys) x
in_front [] y ys x h = elim h [ inl e ↦ inl e | inr none ↦ absurd none ]
in_front (z ∷ zs) y ys x h = elim h [ inl e ↦ inl e | inr later ↦ inr (in_front zs y ys x later) ]

pub returns-clause-lawfully : goal.returns-clause-lawfully
returns-clause-lawfully g c members place sent d b earlier last own v = asks_lawfully members place (said_in sent) d b earlier last own v

pub returns-clause-once : goal.returns-clause-once
returns-clause-once g c d b earlier more last next own other v within asked =
    ap (λ e. accept_cut e next.0 b next.1 other) (after-append (begun d b) b earlier last more)
    ∙ asks_once d.size d b earlier more last next own other v refl
    (λ x i. within x (contains_from (earlier ++ last ∷ more) x (in_front earlier last more x i)))
    (λ x i. within x (contains_from (earlier ++ last ∷ more) x (in_right earlier (last ∷ more) x (inr i)))) asked
