use Rattle.std.proofs.Common.{◌≡◌, ◌||◌, false, true, [], ◌∷◌, refl, ap}
use Rattle.rapid_endpoint.specs.Same.{same_when_equal}
use Rattle.rapid_model.specs.Configuration.{Params, founding, is_member}
use Rattle.rapid_model.specs.Process.{Process}
use Rattle.rapid_service.proofs.service.Service.found.Goals as goal

-- Who founds alone is a member.
alone : (params : Params) (me : Process) → is_member (founding params (me ∷ [])) me ≡ true
alone params me = ap (λ b. b || false) (same_when_equal me me refl)

pub returns-then-not-is_member-clause-fault : goal.returns-then-not-is_member-clause-fault
returns-then-not-is_member-clause-fault g c =
    let member = alone c.args.params c.args.me in
    let founded = ap (λ config. is_member config c.args.me) c.in-Ok.ensures.value in
    let told = c.is_member.ensures in
    let not = c.if-not-is_member.true in
    absurd (cc)
