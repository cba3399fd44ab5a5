-- The seats of one board.
use Rattle.std.proofs.Common.{◌≡◌, ℕ, List, map, All, refl}
use Rattle.std.proofs.lemmas.List.Elements.{All-map}
use Rattle.atomic_table.specs.Seated.{TableId}
use Rattle.rapid_monitor.specs.Boards.{Owned, fresh_seat}

pub all_of_board : (board : TableId) (edges : List ℕ) → All (λ (s : Owned). s.board ≡ board) (map (fresh_seat board) edges)
all_of_board board edges = All-map (λ (s : Owned). s.board ≡ board) (fresh_seat board) edges (λ k d l. refl)
