use Rattle.std.proofs.Common.{◌≡◌, ◌∙◌, [], ◌∷◌, sym, subst, arith}
use mathlib.Core.Option.{some}
use lib.ListN.{get_elem?}
use Rattle.atomic_table.specs.Table.{Me}
use Rattle.rapid_view.specs.declared.cell_rule.CellKnowledge.{CellKnowledge}
use Rattle.rapid_view.specs.Words.{stamp_of}
use Rattle.rapid_view.proofs.stamp_reader.read_stamp.Goals as goal

pub returns-clause-stamp : goal.returns-clause-stamp
returns-clause-stamp c s e whole =
    let n = c.args.number in
    let S : Me (Unit {0}) CellKnowledge → Type 0 = λ m. get_elem? m.0.seen n ≡ some s in
    let e1 = subst S (sym c.read_word-height.ensures.same.2) e in
    let e2 = subst S (sym c.read_word-a.ensures.same.2) e1 in
    let e3 = subst S (sym c.read_word-b.ensures.same.2) e2 in
    let e4 = subst S (sym c.read_word-c.ensures.same.2) e3 in
    let e5 = subst S (sym c.read_word-d.ensures.same.2) e4 in
    let h0 = c.read_word-height.ensures.word n 0 s e (omega arith) (omega arith) in
    let h1 = c.read_word-a.ensures.word n 1 s e1 (omega arith) (omega arith) in
    let h2 = c.read_word-b.ensures.word n 2 s e2 (omega arith) (omega arith) in
    let h3 = c.read_word-c.ensures.word n 3 s e3 (omega arith) (omega arith) in
    let h4 = c.read_word-d.ensures.word n 4 s e4 (omega arith) (omega arith) in
    let h5 = c.read_word-members.ensures.word n 5 s e5 (omega arith) (omega arith) in
    c.from_words.ensures ∙ (λ i. stamp_of (h0 i ∷ h1 i ∷ h2 i ∷ h3 i ∷ h4 i ∷ h5 i ∷ [])) ∙ sym whole
