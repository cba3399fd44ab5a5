-- What the definitions of `sim` print is among what it may print.
use Rattle.std.proofs.Common.{ℕ, inl, List, [], ◌∷◌, refl}
use Rattle.rapid_model.specs.SimText.{SimState, asked, after, printed, text_of_lines}
use Rattle.rapid_sim.specs.Wants.{LinesPrint}

-- Memory never ran out.
pub definitions_print : (s : SimState) (ls : List (List ℕ)) → LinesPrint s ls (text_of_lines s ls) 0
unfolding LinesPrint
definitions_print s [] = (refl, refl)
definitions_print s (line ∷ ls) =
    record {
      next = after s (asked line);
      said = printed s (asked line);
      rest = text_of_lines (after s (asked line)) ls;
      first = 0;
      later = 0;
      says = refl;
      counts = refl;
      prints = inl (record { says = refl; goes_to = refl; none = refl });
      after = definitions_print (after s (asked line)) ls;
    }
