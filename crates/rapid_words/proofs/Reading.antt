-- Numbers that options have.
use Rattle.std.proofs.Common.{◌≡◌, ℕ, List, refl, sym, ap, ◌∙◌, Option, Some, None, IfSome, Result, Ok}
use Rattle.std.specs.Prelude.{option_map}
use Rattle.std.specs.Str.Parse.{ParsesUnsigned, digits_value, without_leading_plus}
use Rattle.clap.specs.Words.{Text, ReadsOne, one_text, rows_of}
use Rattle.clap.specs.declared.parser.matches.Found.{Found}
use Rattle.clap.proofs.WalkLemmas.{one_text-rows}
use Rattle.rapid_words.specs.Asked.{number_in}

-- The number that is read of an option is the one that its value spells.
pub read_number : (E : Type 0) (G : List ℕ → Result ℕ E → Type 0) (k : ℕ) (f : Found) (id : Text) (r : Option ℕ)
    → (one_text f id ≡ None → r ≡ None) → ((t : List ℕ) → one_text f id ≡ Some t → ReadsOne G t r) → ((u : List ℕ) (x : Result ℕ E) → G u x → ParsesUnsigned k 10 u x)
    → IfSome r (λ n. number_in (rows_of f) id ≡ Some n)
read_number E G k f id r none read only = by (one_text f id) refl
  where
    spelled : (t : List ℕ) → one_text f id ≡ Some t → (o : Option ℕ) → ReadsOne G t o → IfSome o (λ n. number_in (rows_of f) id ≡ Some n)
    spelled t e None h = tt
    spelled t e (Some v) h = ap (option_map (λ u. digits_value 10 (without_leading_plus u))) (sym (one_text-rows f id) ∙ e) ∙ ap Some (sym (only t (Ok v) h).1)

    by : (o : Option (List ℕ)) → one_text f id ≡ o → IfSome r (λ n. number_in (rows_of f) id ≡ Some n)
    by None e = rw (none e) tt
    by (Some t) e = spelled t e r (read t e)
