use Rattle.std.proofs.Common.{◌≡◌, ◌||◌, ◌∙◌, ◌∷◌, ap, sym, Option}
use Rattle.rapid_model.specs.Process.{Process}
use Rattle.rapid_model.proofs.Orders.{same_bytes_decides}
use Rattle.rapid_cut.specs.declared.growing.Added.{Added}
use Rattle.rapid_cut.specs.Growing.{is_for, is_added, all_added}
use Rattle.rapid_cut.proofs.Fresh.{noted_with}
use Rattle.rapid_cut.proofs.growing.note_joined.Goals as goal

pub returns-then-is-clause-direct : goal.returns-then-is-clause-direct
returns-then-is-clause-direct c x =
    let a : Added = record { subject = c.args.kept.now; rings = c.args.rings } in
    let xs = c.args.others.now.items in
    let same : c.in-Some.noted.subject ≡ a.subject = sym ((same_bytes_decides c.get.result.now c.in-Some.noted.subject).0 (sym c.is.ensures ∙ c.if-is.true)) ∙ c.get.ensures ∙ sym c.requires in
    let now : Process → Added = λ s. record { subject = s; rings = c.with-noted.result } in
    ap (λ (s : Process). is_added (λ m. m.direct) (now s ∷ xs) x) same
    ∙ noted_with (λ m. m.direct) c.in-Some.noted xs a c.with-noted.result x same c.with-noted.ensures.direct
    ∙ ap (λ (o : Option Added). is_added (λ m. m.direct) (all_added o xs) x || is_for a.subject a.rings.direct x) (sym c.in-Some.is)

pub returns-then-is-clause-all : goal.returns-then-is-clause-all
returns-then-is-clause-all c x =
    let a : Added = record { subject = c.args.kept.now; rings = c.args.rings } in
    let xs = c.args.others.now.items in
    let same : c.in-Some.noted.subject ≡ a.subject = sym ((same_bytes_decides c.get.result.now c.in-Some.noted.subject).0 (sym c.is.ensures ∙ c.if-is.true)) ∙ c.get.ensures ∙ sym c.requires in
    let now : Process → Added = λ s. record { subject = s; rings = c.with-noted.result } in
    ap (λ (s : Process). is_added (λ m. m.all) (now s ∷ xs) x) same
    ∙ noted_with (λ m. m.all) c.in-Some.noted xs a c.with-noted.result x same c.with-noted.ensures.all
    ∙ ap (λ (o : Option Added). is_added (λ m. m.all) (all_added o xs) x || is_for a.subject a.rings.all x) (sym c.in-Some.is)
