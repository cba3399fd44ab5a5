-- Clauses of public calls cite this file.
-- How far a run over an input has come. What lines print is a relation: from a state on, these lines may print this
-- text if memory runs out this many times in all.
use Rattle.std.specs.Prelude.{◌≡◌, ℕ, true, List, ◌∷◌, ◌++◌, Option}
use Rattle.std.specs.Io.KnownBytes.{Appends, Consumes}
use Rattle.rapid_model.specs.Lines.{lines}
use Rattle.rapid_text.specs.Endings.{BeginsWith, has_no_end, without_return, Keeps}
use Rattle.rapid_text.specs.declared.fault.RunFault.{RunFault}
use Rattle.rapid_text.specs.declared.fault.RunFault.TheVariants.{Read, Write, OutOfMemory}

-- ---- texts

-- A line was answered: what it said stands behind the output before, and in front of whatever later lines print.
pub record Answers {E : Type 0} (prints : E → List (List ℕ) → List ℕ → ℕ → Type 0) (old new : E) (line before after : List ℕ) : Type 0 where
  pub said : List ℕ
  pub appended : after ≡ before ++ said
  pub goes_on : (later : List (List ℕ)) (text : List ℕ) (met : ℕ) → prints new later text met → prints old (line ∷ later) (said ++ text) met

-- A line was answered that ends behind these bytes; others were held of it before.
pub record EndsLine {E : Type 0} (prints : E → List (List ℕ) → List ℕ → ℕ → Type 0) (old new : E) (held front before after : List ℕ) : Type 0 where
  pub kept : List ℕ
  pub held_no_end : has_no_end held ≡ true
  pub kept_no_end : has_no_end kept ≡ true
  pub keeps : Keeps (held ++ front) kept
  pub answered : Answers prints old new (without_return kept) before after

-- A part of an input was answered but for its rest: what it said stands behind the output before, and in front of
-- whatever the rest and later bytes print.
pub record Feeds {E : Type 0} (prints : E → List (List ℕ) → List ℕ → ℕ → Type 0) (old new : E) (line kept part rest before after : List ℕ) : Type 0 where
  pub said : List ℕ
  pub appended : after ≡ before ++ said
  pub goes_on : (later text : List ℕ) (met : ℕ) → prints new (lines (kept ++ (rest ++ later))) text met → prints old (lines (line ++ (part ++ later))) (said ++ text) met

-- These lines may print what was appended to the output.
pub record Says {E : Type 0} (prints : E → List (List ℕ) → List ℕ → ℕ → Type 0) (state : E) (ls : List (List ℕ)) (met : ℕ) (before after : List ℕ) : Type 0 where
  pub said : List ℕ
  pub printed : prints state ls said met
  pub appended : after ≡ before ++ said

-- What was appended to the output is a beginning of what these lines may print.
pub record SaysFront {E : Type 0} (prints : E → List (List ℕ) → List ℕ → ℕ → Type 0) (state : E) (ls : List (List ℕ)) (met : ℕ) (before after : List ℕ) : Type 0 where
  pub text : List ℕ
  pub printed : prints state ls text met
  pub front : BeginsWith (before ++ text) after

-- ---- what was written

-- A beginning of a text was appended to what is known to be written.
abbrev pub AppendsFront : Option (List ℕ) → Option (List ℕ) → List ℕ → Type 0
AppendsFront old new text = (said : List ℕ) × BeginsWith text said × Appends old new said

-- A part of an input was answered, and what it said was written.
pub record AnswersPart {E : Type 0} (prints : E → List (List ℕ) → List ℕ → ℕ → Type 0) (old new : E) (line kept part : List ℕ) (before after : Option (List ℕ)) : Type 0 where
  pub said : List ℕ
  pub appended : Appends before after said
  pub goes_on : (later text : List ℕ) (met : ℕ) → prints new (lines (kept ++ later)) text met → prints old (lines (line ++ (part ++ later))) (said ++ text) met

-- A text that these lines may print was written, and nothing else.
pub record Writes {E : Type 0} (prints : E → List (List ℕ) → List ℕ → ℕ → Type 0) (state : E) (ls : List (List ℕ)) (met : ℕ) (before after : Option (List ℕ)) : Type 0 where
  pub text : List ℕ
  pub printed : prints state ls text met
  pub written : Appends before after text

-- After a fault of reading or writing memory ran out as often as was counted. If the fault is out of memory, the count
-- says nothing.
abbrev pub IsCounted : RunFault → ℕ → ℕ → Type 0
IsCounted Read met count = met ≡ count
IsCounted Write met count = met ≡ count
IsCounted OutOfMemory met count = Unit {0}

-- After this fault a beginning of a text that these lines may print was written, and nothing else. In the text memory
-- runs out as often as was counted.
pub record WritesFront {E : Type 0} (prints : E → List (List ℕ) → List ℕ → ℕ → Type 0) (state : E) (ls : List (List ℕ)) (fault : RunFault) (count : ℕ) (before after : Option (List ℕ)) : Type 0 where
  pub text : List ℕ
  pub met : ℕ
  pub counted : IsCounted fault met count
  pub printed : prints state ls text met
  pub written : AppendsFront before after text

-- Some of the input was read and some of the output was written; what is left to write is what the rest of the input
-- prints.
pub record IsUnderway {E : Type 0} (prints : E → List (List ℕ) → List ℕ → ℕ → Type 0) (first : E) (input written : Option (List ℕ))
    (state : E) (line : List ℕ) (left holds : Option (List ℕ)) : Type 0 where
  pub read : List ℕ
  pub said : List ℕ
  pub consumed : Consumes input left read
  pub appended : Appends written holds said
  pub goes_on : (later text : List ℕ) (met : ℕ) → prints state (lines (line ++ later)) text met → prints first (lines (read ++ later)) (said ++ text) met
