use Rattle.std.proofs.Common.{◌≡◌, ◌<◌, ℕ, List, true, false, length, sym, ap, subst, ◌∙◌, arith}
use Rattle.std.specs.Prelude.{Ok, Err}
use Rattle.std.proofs.lemmas.List.{length-map, get_or_default}
use Rattle.rapid_model.specs.Process.{identifier, same_bytes}
use Rattle.rapid_config.proofs.Places.{searched, found_at, found_other, found_none}
use Rattle.rapid_config.proofs.members.place_of.Goals as goal

pub returns-then-is-clause-place : goal.returns-then-is-clause-place
returns-then-is-clause-place c =
    let ps = c.args.members.now in
    let p = c.args.process.now in
    let i = c.in-Ok.place in
    let within : i < length ps = omega (arith, ap (λ (ids : List (List ℕ)). length ids) c.requires.identifiers, length-map ps identifier, c.in-Ok.ensures.bound) in
    let k = searched c.args.identifiers.now ps p c.id.result (Ok i) c.requires.identifiers c.id.ensures c.in-Ok.ensures.bound c.in-Ok.ensures.position in
    let at = c.index-members-place.is ∙ get_or_default ps i c.index-members-place.result p within in
    sym (found_at ps p i c.requires.ascend within k (subst (λ (q : List ℕ). same_bytes p q ≡ true) (c.as_ref.ensures ∙ at) (sym c.is.ensures ∙ c.if-is.true)))

pub returns-else-is-clause-place : goal.returns-else-is-clause-place
returns-else-is-clause-place c =
    let ps = c.args.members.now in
    let p = c.args.process.now in
    let i = c.in-Ok.place in
    let within : i < length ps = omega (arith, ap (λ (ids : List (List ℕ)). length ids) c.requires.identifiers, length-map ps identifier, c.in-Ok.ensures.bound) in
    let k = searched c.args.identifiers.now ps p c.id.result (Ok i) c.requires.identifiers c.id.ensures c.in-Ok.ensures.bound c.in-Ok.ensures.position in
    let at = c.index-members-place.is ∙ get_or_default ps i c.index-members-place.result p within in
    sym (found_other ps p i c.requires.ascend within k (subst (λ (q : List ℕ). same_bytes p q ≡ false) (c.as_ref.ensures ∙ at) (sym c.is.ensures ∙ c.if-is.false)))

pub returns-in-Err-clause-place : goal.returns-in-Err-clause-place
returns-in-Err-clause-place c =
    let ps = c.args.members.now in
    let p = c.args.process.now in
    let k = searched c.args.identifiers.now ps p c.id.result (Err c.in-Err._next) c.requires.identifiers c.id.ensures c.in-Err.ensures.bound c.in-Err.ensures.position in
    sym (found_none ps p c.in-Err._next c.requires.ascend k)
