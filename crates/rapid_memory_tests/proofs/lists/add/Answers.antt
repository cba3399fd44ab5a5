use Rattle.std.proofs.Common.{◌≡◌, ◌∙◌, None, is_some, false, ap, sym, subst, position}
use Rattle.rapid_model.specs.Process.{Process, same_bytes, is_in}
use Rattle.rapid_config.proofs.Places.{in_by_place}
use Rattle.rapid_memory_tests.proofs.lists.add.Goals as goal

pub push-requires : goal.push-requires
push-requires c =
    let ps = c.args.roster.now in
    let p = c.args.process.now in
    let none : position (same_bytes p) ps ≡ None = ap (λ (q : Process). position (same_bytes q) ps) (sym c.as_ref.ensures) ∙ sym c.find.ensures ∙ c.in-None.is in
    subst (λ (q : Process). is_in ps q ≡ false) (sym (c.in_ok-new-in-None.ensures ∙ c.as_ref-in-None.ensures)) (sym (in_by_place (same_bytes p) ps) ∙ ap is_some none)
