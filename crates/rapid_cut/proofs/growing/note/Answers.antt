use Rattle.std.proofs.Common.{◌≡◌, ◌||◌, ◌∙◌, ap, sym, List, [], ◌∷◌, ◌++◌, Option, Vec, Global}
use Rattle.rapid_model.specs.Process.{Process}
use Rattle.rapid_cut.specs.declared.growing.Added.{Added}
use Rattle.rapid_cut.specs.Growing.{is_for, is_added, all_added}
use Rattle.rapid_cut.proofs.Fresh.{noted_first, noted_then}
use Rattle.rapid_cut.proofs.growing.note.Goals.{in-Some+in_ok-try_copy-2+in_ok-push, in_default}
use Rattle.rapid_cut.proofs.growing.note.Goals as goal

pub returns-clause-more : goal.returns-clause-more
returns-clause-more c part x =
    let a : Added = record { subject = c.in_ok-try_copy.field-0; rings = c.args.rings } in
    let xs = c.args.others.now.items in
    let noted : is_added part (a ∷ c.match-last.others.items) x ≡ (is_added part (all_added c.args.last.now xs) x || is_for a.subject (part a.rings) x) =
    elim c.match-last.branch [
      | in-Some+in_ok-try_copy-2+in_ok-push w ↦
          ap (λ (v : Vec Added Global). is_added part (a ∷ v.items) x) w.others-is ∙ ap (λ (ys : List Added). is_added part (a ∷ ys) x) w.in_ok-push.ensures.items
          ∙ ap (λ (s : Process). is_added part (a ∷ (xs ++ record { subject = s; rings = w.in-Some.noted.rings } ∷ [])) x) w.in_ok-try_copy-2.ensures
          ∙ noted_then part w.in-Some.noted xs a x ∙ ap (λ (o : Option Added). is_added part (all_added o xs) x || is_for a.subject (part a.rings) x) (sym w.in-Some.is)
      | in_default w ↦
          ap (λ (v : Vec Added Global). is_added part (a ∷ v.items) x) w.others-is ∙ noted_first part xs a x
          ∙ ap (λ (o : Option Added). is_added part (all_added o xs) x || is_for a.subject (part a.rings) x) (sym w.in_default.is)
    ] in
    noted ∙ ap (λ (s : Process). is_added part (all_added c.args.last.now xs) x || is_for s (part a.rings) x) c.in_ok-try_copy.ensures
