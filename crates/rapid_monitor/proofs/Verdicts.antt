-- The verdict of results is that of the stretches among them.
use Rattle.std.proofs.Common.{◌≡◌, ◌↔◌, ◌∙◌, ◌++◌, [], ◌∷◌, ℕ, Bool, true, false, List, refl, ap, inl}
use Rattle.std.specs.Prelude.{if◌then◌else◌}
use Rattle.rapid_model.specs.Edge.{HasDownStretch}
use Rattle.rapid_model.proofs.Edges.{down_is_stretch}
use Rattle.rapid_monitor.specs.declared.edge.Verdict.{Verdict}
use Rattle.rapid_monitor.specs.declared.edge.Verdict.TheVariants.{Up, Down}
use Rattle.rapid_monitor.specs.BoardRule.{is_down_after, IsDown, IsIn}
use Rattle.rapid_monitor.specs.ProbeWord.{word_after, is_down_word}
use Rattle.rapid_monitor.proofs.ProbeWords.{down_of}
use Rattle.rapid_monitor.specs.Boards.{verdict_after}

pub stretch_when_down : (oks : List Bool) → IsDown oks → HasDownStretch oks
stretch_when_down oks down = (down_is_stretch oks).0 down

pub down_when_stretch : (oks : List Bool) → HasDownStretch oks → IsDown oks
down_when_stretch oks stretch = (down_is_stretch oks).1 stretch

down_from : (b : Bool) → (if b then Down else Up) ≡ Down → b ≡ true
down_from true e = refl
down_from false e = cc

to_down : (b : Bool) → b ≡ true → (if b then Down else Up) ≡ Down
to_down true e = refl
to_down false e = cc

-- the verdict is Down exactly if the results hold a stretch
pub verdict_is_stretch : (oks : List Bool) → (verdict_after oks ≡ Down) ↔ HasDownStretch oks
verdict_is_stretch oks = (
  λ e. stretch_when_down oks (down_from (is_down_after oks) e),
  λ stretch. to_down (is_down_after oks) (down_when_stretch oks stretch),
)

-- what is known after what an owner knows was told
pub told : (b : Bool) (edge : ℕ) (known : List ℕ) → (if b then edge ∷ [] else []) ++ known ≡ (if b then edge ∷ known else known)
told true edge known = refl
told false edge known = refl

-- an edge that is down is known then
pub known_when : (b : Bool) (edge : ℕ) (known : List ℕ) → b ≡ true → IsIn edge (if b then edge ∷ known else known)
known_when true edge known e = inl refl
known_when false edge known e = cc

-- the verdict of a word
pub verdict_of_word : (oks : List Bool) {verdict : Verdict} {down : Bool} {next : ℕ} → verdict ≡ (if down then Down else Up) → down ≡ is_down_word next → next ≡ word_after oks → verdict ≡ verdict_after oks
verdict_of_word oks verdict_is down_is is =
    verdict_is ∙ ap (λ (b : Bool). if b then Down else Up) (down_is ∙ ap is_down_word is ∙ down_of oks)
