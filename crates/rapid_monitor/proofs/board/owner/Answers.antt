use Rattle.std.proofs.Common.{◌∙◌, ℕ, ◌<◌, ◌+◌, ap, sym, subst, arith, []}
use Rattle.atomic_table.specs.Table.{Splits}
use Rattle.rapid_monitor.specs.declared.board_rule.BoardKnowledge.{BoardKnowledge}
use Rattle.rapid_monitor.specs.BoardRule.{Kept, maker_at, owner_of}
use Rattle.rapid_monitor.proofs.Moves.{owners}
use Rattle.rapid_monitor.proofs.board.owner.Goals as goal

pub split_seat-seat-requires : goal.split_seat-seat-requires
split_seat-seat-requires c =
    let at = ap (λ t. t.shared) c.deref.ensures in
    let edges : ℕ = c.deref.result.now.shared.key in
    let id : ℕ = c.args.maker.now.id in
    let within : c.args.edge < edges = omega (arith, c.requires.maker.1, ap (λ t. t.key) at) in (
      c.requires.own ∙ sym (ap (λ t. t.table_id) at),
      omega (arith, ap (λ t. t.table_id.words) at, c.requires.words, c.requires.maker.1),
      subst (λ (v : BoardKnowledge). Splits (Kept edges) id v (maker_at (v.next + 1)) (owner_of v.next [] [])) (sym (ap (λ m. m.0) c.requires.maker.0)) (owners edges id c.args.edge within),
    )
