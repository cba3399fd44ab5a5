use Rattle.std.proofs.Common.{◌∙◌, ◌++◌, ◌∷◌, [], ap, ap₂, sym, map, arith}
use Rattle.std.proofs.lemmas.List.FromFn.{map-range_with_len_more}
use Rattle.rapid_rounds.specs.Edges.{blank_part, told_of, dealt_seats, seats_of}
use Rattle.rapid_rounds.proofs.Observing.{one_behind}
use Rattle.rapid_rounds.proofs.observed_edges.ObservedEdges.all_parts.Goals as goal

pub loop-part-preserved : goal.loop-part-preserved
loop-part-preserved c =
    let i = c.loop-part.invariant in
    let parts = c.args.parts in
    let part = c.loop-part.part in
    let edges = c.args.self.now.edges.items in
    let seats = c.args.self.now.seats.items in
    record {
      rings = c.part.ensures.same.0 ∙ i.rings;
      me = c.part.ensures.same.1 ∙ i.me;
      edges = c.part.ensures.same.2 ∙ i.edges;
      parted = c.part.ensures.same.3 ∙ i.parted;
      board = c.part.ensures.board ∙ i.board;
      made =
          ap (map told_of) c.in_ok-push.ensures.items
          ∙ one_behind told_of c.loop-part.all.items c.in_ok-part.field-0
          ∙ ap₂ (λ xs x. xs ++ x ∷ []) i.made (c.in_ok-part.ensures.part ∙ ap₂ (λ rings edges. blank_part rings edges parts part) i.rings i.edges)
          ∙ sym (map-range_with_len_more (blank_part c.args.self.now.rings edges parts) 0 part part (omega arith));
      dealt =
          ap (map seats_of) c.in_ok-push.ensures.items
          ∙ one_behind seats_of c.loop-part.all.items c.in_ok-part.field-0
          ∙ ap₂ (λ xs x. xs ++ x ∷ []) i.dealt (c.in_ok-part.ensures.seats ∙ ap (λ es. dealt_seats es c.loop-part.self.seats.items parts part) i.edges ∙ i.left part (omega arith))
          ∙ sym (map-range_with_len_more (dealt_seats edges seats parts) 0 part part (omega arith));
      left = λ q l.
          ap (λ es. dealt_seats es c.part.new.self.seats.items parts q) (sym i.edges)
          ∙ c.part.ensures.others q (λ e. omega (arith, e, l))
          ∙ ap (λ es. dealt_seats es c.loop-part.self.seats.items parts q) i.edges
          ∙ i.left q (omega (arith, l));
    }
