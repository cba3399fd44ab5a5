use Rattle.std.proofs.Common.{◌≡◌, ◌∙◌, ◌<◌, length, sym, subst, ap, arith, length-append}
use Rattle.std.specs.Prelude.{slice_get, Some, ◌-◌, List}
use mathlib.Core.Option.{some}
use lib.ListN.{get_elem?}
use Rattle.atomic_table.specs.Table.{Me}
use Rattle.rapid_view.specs.declared.cell_rule.CellKnowledge.{CellKnowledge}
use Rattle.rapid_model.specs.Configuration.{Stamp}
use Rattle.rapid_view.proofs.Moves.{last_there}
use Rattle.rapid_view.proofs.stamp_reader.StampReader.stamp.Goals as goal

pub returns-clause-last : goal.returns-clause-last
returns-clause-last c =
    let l = c.look-count.ensures.looked in
    let seen : List Stamp = c.look-count.new.seat.me.0.seen in
    let n : c.look-count.result ≡ length seen = l.4 in
    let some_there : 0 < length seen = omega (arith, ap length l.2.1, length-append c.self.inside.seat.me.0.seen l.2.0, c.self.invariant.6) in
    let t = last_there seen some_there in
    let there : get_elem? seen (c.look-count.result - 1) ≡ some t.0 = subst (λ k. get_elem? seen (k - 1) ≡ some t.0) (sym n) t.1 in
    let read : c.read_stamp.result ≡ t.0 = c.read_stamp.ensures.stamp t.0 there (l.6 _ t.0 there) in
    subst (λ (m : Me (Unit {0}) CellKnowledge). slice_get m.0.seen (length m.0.seen - 1) ≡ Some c.read_stamp.result) (sym c.read_stamp.ensures.same.2) (t.2 ∙ ap Some (sym read))
