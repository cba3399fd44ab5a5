-- Lines that a run answers, and what a whole run wrote.
use Rattle.std.proofs.Common.{◌≡◌, ◌≢◌, ℕ, ◌+◌, List, [], ◌++◌, refl, ap, sym, ◌∙◌, subst, arith, Option, Some, None, IfSome, Result, Ok, Err, IfErr, OnOk, is_ok, if◌then◌else◌}
use Rattle.std.specs.Io.KnownBytes.{Appends}
use Rattle.rapid_model.specs.Lines.{lines}
use Rattle.rapid_model.specs.SimText.{Blank, Asked, asked, sim_text}
use Rattle.rapid_text.specs.Underway.{Answers, AppendsFront, IsCounted, Writes, WritesFront}
use Rattle.rapid_text.specs.declared.fault.RunFault.{RunFault}
use Rattle.rapid_text.specs.declared.fault.RunFault.TheVariants.{Read, Write, OutOfMemory}
use Rattle.rapid_sim.specs.Wants.{LinePrints, LinesPrint, SimPrints}
use Rattle.rapid_sim.specs.Progress.{IsAnswered}
use Rattle.rapid_sim.specs.Simulators.{RunPrints, state_of, wants_in}
use Rattle.rapid_sim.specs.declared.sim.SimRun.{SimRun}
use Rattle.rapid_sim.proofs.Exact.{lines_exact}

-- A line was answered, whatever comes later.
pub line_answered : (old new : SimRun) (line : List ℕ) (a : Asked) (before after none said : List ℕ) → a ≡ asked line → none ≡ [] → IsAnswered (state_of old) (state_of new) a none said (wants_in old) (wants_in new) → after ≡ before ++ said
    → Answers RunPrints old new line before after
unfolding LinesPrint
line_answered old new line a before after none said is nothing h e =
    record {
      said = h.said;
      appended = e ∙ ap (λ xs. before ++ xs) (h.appended ∙ ap (λ xs. xs ++ h.said) nothing);
      goes_on = λ later text met p.
          record {
            later = h.wants + p.later;
            prints =
                record {
                  next = state_of new;
                  said = h.said;
                  rest = text;
                  first = h.wants;
                  later = p.later;
                  says = refl;
                  counts = refl;
                  prints = subst (λ x. LinePrints (state_of old) x h.said (state_of new) h.wants) is h.prints;
                  after = p.prints;
                };
            counts = p.counts ∙ ap (λ n. n + p.later) h.counted ∙ adds (wants_in old) h.wants p.later;
          };
    }
  where
    adds : (a b c : ℕ) → (a + b) + c ≡ a + (b + c)
    adds a b c = omega arith

-- If memory never ran out, what was written is the text of the input.
pub all_exact : (r : SimRun) (known a b : Option (List ℕ)) (met : ℕ) → state_of r ≡ Blank → IfSome known (λ input. Writes RunPrints r (lines input) met a b) → met ≡ 0 → IfSome known (λ input. Appends a b (sim_text input))
all_exact r None a b met is w zero = tt
all_exact r (Some input) a b met is w zero =
    let later : w.printed.later ≡ 0 = omega (arith, w.printed.counts, zero) in
    let p = subst (λ s. LinesPrint s (lines input) w.text w.printed.later) is w.printed.prints in
    subst (Appends a b) (lines_exact Blank (lines input) w.text (subst (LinesPrint Blank (lines input) w.text) later p)) w.written

-- What a run prints from its beginning on is what the input prints.
from_beginning : (r : SimRun) (input text : List ℕ) (met : ℕ) → state_of r ≡ Blank → wants_in r ≡ 0 → RunPrints r (lines input) text met → SimPrints input text met
from_beginning r input text met is none p =
    let same : p.later ≡ met = omega (arith, p.counts, none) in
    subst (LinesPrint Blank (lines input) text) same (subst (λ s. LinesPrint s (lines input) text p.later) is p.prints)

-- What was written at the end of the input.
pub all_prints : (r : SimRun) (known a b : Option (List ℕ)) (met told : ℕ) → state_of r ≡ Blank → wants_in r ≡ 0 → told ≡ met → IfSome known (λ input. Writes RunPrints r (lines input) met a b) →
    IfSome known (λ input. (text : List ℕ) × SimPrints input text told × Appends a b text)
all_prints r None a b met told is none same w = tt
all_prints r (Some input) a b met told is none same w =
    (w.text, subst (SimPrints input w.text) (sym same) (from_beginning r input w.text met is none w.printed), w.written)

-- What was written after a fault.
pub front_prints : (r : SimRun) (known a b : Option (List ℕ)) (fault : RunFault) (count told : ℕ) → state_of r ≡ Blank → wants_in r ≡ 0 → told ≡ count → IfSome known (λ input. WritesFront RunPrints r (lines input) fault count a b) →
    IfSome known (λ input. (text : List ℕ) × (met : ℕ) × IsCounted fault met told × SimPrints input text met × AppendsFront a b text)
front_prints r None a b fault count told is none same w = tt
front_prints r (Some input) a b fault count told is none same w =
    (w.text, w.met, subst (IsCounted fault w.met) (sym same) w.counted, from_beginning r input w.text w.met is none w.printed, w.written)

-- A fault of reading or writing leaves what was counted.
counted_is : (fault : RunFault) (met count : ℕ) → (fault ≢ OutOfMemory) → IsCounted fault met count → met ≡ count
counted_is Read met count not h = h
counted_is Write met count not h = h
counted_is OutOfMemory met count not h = absurd (not refl)

-- After a fault of reading or writing, if memory never ran out, it is a beginning of the text of the input.
pub front_exact : (r : SimRun) (known a b : Option (List ℕ)) (fault : RunFault) (count : ℕ) → state_of r ≡ Blank → wants_in r ≡ 0 → IfSome known (λ input. WritesFront RunPrints r (lines input) fault count a b) →
    (fault ≢ OutOfMemory) → count ≡ 0 → IfSome known (λ input. AppendsFront a b (sim_text input))
front_exact r None a b fault count is none w not zero = tt
front_exact r (Some input) a b fault count is none w not zero =
    let met : w.met ≡ 0 = counted_is fault w.met count not w.counted ∙ zero in
    let p : SimPrints input w.text w.met = from_beginning r input w.text w.met is none w.printed in
    subst (AppendsFront a b) (lines_exact Blank (lines input) w.text (subst (LinesPrint Blank (lines input) w.text) met p)) w.written

-- Of what was written after a fault, without the count.
some_front : (known a b : Option (List ℕ)) (fault : RunFault) (count : ℕ) → IfSome known (λ input. (text : List ℕ) × (met : ℕ) × IsCounted fault met count × SimPrints input text met × AppendsFront a b text) →
    IfSome known (λ input. (text : List ℕ) × (met : ℕ) × SimPrints input text met × AppendsFront a b text)
some_front None a b fault count h = tt
some_front (Some input) a b fault count h = (h.0, h.1, h.3, h.4)

-- The same of a run that ended by a fault.
pub ended_front : {T : Type 0} (ended : Result T RunFault) (fault : RunFault) (known a b : Option (List ℕ)) (count : ℕ) → ended ≡ Err fault →
    IfErr ended (λ f. IfSome known (λ input. (text : List ℕ) × (met : ℕ) × IsCounted f met count × SimPrints input text met × AppendsFront a b text)) →
    IfSome known (λ input. (text : List ℕ) × (met : ℕ) × SimPrints input text met × AppendsFront a b text)
ended_front (Ok x) fault known a b count is h = cc
ended_front (Err e) fault known a b count is h = some_front known a b e count h

-- What holds after a step that may fail, if it did not.
pub where_ok : {T D : Type 0} (r : Result T D) (new xs ys : List ℕ) → new ≡ (if is_ok r then xs else ys) → OnOk r (new ≡ xs)
where_ok (Ok x) new xs ys e = e
where_ok (Err x) new xs ys e = tt
