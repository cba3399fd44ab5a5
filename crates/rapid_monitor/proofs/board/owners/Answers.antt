use Rattle.std.proofs.Common.{◌≡◌, subst, All, ap, ◌∙◌, sym, List, [], ◌∷◌, ◌++◌, arith}
use Rattle.std.specs.List.{range_with_len}
use Rattle.std.proofs.lemmas.List.FromFn.{map-range_with_len_more}
use Rattle.atomic_table.specs.Seated.{TableId}
use Rattle.rapid_monitor.specs.Boards.{Owned, fresh_seat}
use Rattle.rapid_monitor.proofs.Seats.{all_of_board}
use Rattle.rapid_monitor.proofs.board.owners.Goals as goal

pub loop-edge-preserved : goal.loop-edge-preserved
loop-edge-preserved c =
    let board = c.args.maker.table_id in
    let edge = c.loop-edge.edge in
    record {
      of = c.owner.ensures.same.0 ∙ c.loop-edge.invariant.of;
      next = c.owner.ensures.same.1;
      made =
          c.in_ok-push.ensures.items
          ∙ ap (λ (seat : Owned). c.loop-edge.seats.items ++ seat ∷ []) (c.in_ok-owner.ensures.seat ∙ ap (λ (z : TableId). fresh_seat z edge) c.loop-edge.invariant.of)
          ∙ ap (λ (seats : List Owned). seats ++ fresh_seat board edge ∷ []) c.loop-edge.invariant.made
          ∙ sym (map-range_with_len_more (fresh_seat board) 0 edge edge (omega arith));
    }

pub returns-clause-board : goal.returns-clause-board
returns-clause-board c = subst (λ (seats : List Owned). All (λ s. s.board ≡ c.args.maker.table_id) seats) (sym c.loop-edge.invariant.made) (all_of_board c.args.maker.table_id (range_with_len 0 c.loop-edge.edge))
