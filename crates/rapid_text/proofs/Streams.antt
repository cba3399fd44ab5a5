-- What lines print if an input comes in parts.
use Rattle.std.proofs.Common.{◌≡◌, ◌≢◌, ℕ, ◌+◌, ◌<◌, true, List, [], ◌∷◌, ◌++◌, length, take, drop, refl, ap, sym, ◌∙◌, subst, arith, inl, inr, append_assoc, append-nil, Result, Ok, Err, OnErr, IfErr, Option, Some, None, IfSome, OnOk}
use Rattle.std.specs.Io.BufRead.{drop_through}
use Rattle.std.specs.Result.{IsErrAnd}
use Rattle.std.specs.Io.KnownBytes.{Appends, Consumes, IsAtEnd}
use Rattle.std.proofs.KnownBytes.{Appends-nil, Appends-trans, Consumes-nil, Consumes-trans}
use Rattle.std.proofs.lemmas.List.{take-append-drop}
use lib.Seq.{take-add}
use Rattle.rapid_model.specs.Lines.{line_feed, lines}
use Rattle.rapid_text.specs.Endings.{has_no_end, without_return, Keeps, BeginsWith}
use Rattle.rapid_text.specs.Underway.{Answers, Feeds, Says, SaysFront, AppendsFront, AnswersPart, Writes, WritesFront, IsCounted, IsUnderway}
use Rattle.rapid_text.specs.declared.fault.RunFault.{RunFault}
use Rattle.rapid_text.specs.declared.fault.RunFault.TheVariants.{Read, Write, OutOfMemory}
use Rattle.rapid_text.proofs.Endings.{no_end_append, long_first, line_ends, line_last, HasLongFirst}

-- What lines of more than 256 bytes print does not hang on what stands in them.
abbrev pub IsBlindToLong : {E : Type 0} → (E → List (List ℕ) → List ℕ → ℕ → Type 0) → Type 0
IsBlindToLong {E} prints = (s : E) (line other : List ℕ) (later : List (List ℕ)) (text : List ℕ) (n : ℕ) → 256 < length line → 256 < length other →
    prints s (line ∷ later) text n → prints s (other ∷ later) text n

-- Whatever the lines are, they print something, and memory runs out no more.
abbrev pub Speaks : {E : Type 0} → (E → List (List ℕ) → List ℕ → ℕ → Type 0) → (E → ℕ) → Type 0
Speaks {E} prints count = (s : E) (ls : List (List ℕ)) → (text : List ℕ) × prints s ls text (count s)

module _ {E : Type 0} (prints : E → List (List ℕ) → List ℕ → ℕ → Type 0) (blind : IsBlindToLong prints) where
  long_same : (s : E) (m n : ℕ) (xs ys : List (List ℕ)) (later t : List ℕ) (k : ℕ) → 257 < m → 257 < n → HasLongFirst m xs later → HasLongFirst n ys later → prints s ys t k → prints s xs t k
  long_same s m n xs ys later t k h i p q w =
      subst (λ ls. prints s ls t k) (sym p.1)
      (blind s q.0 p.0 (lines later) t k (omega (arith, q.2)) (omega (arith, p.2)) (subst (λ ls. prints s ls t k) q.1 w))

  -- What is kept of a line prints what the line prints.
  pub kept_same : (s : E) (line kept rest t : List ℕ) (n : ℕ) → has_no_end line ≡ true → has_no_end kept ≡ true → Keeps line kept → prints s (lines (kept ++ rest)) t n → prints s (lines (line ++ rest)) t n
  kept_same s line kept rest t n h k (inl e) w = subst (λ xs. prints s (lines (xs ++ rest)) t n) e w
  kept_same s [] kept rest t n h k (inr e) w = absurd (omega (arith, e.0))
  kept_same s (x ∷ xs) [] rest t n h k (inr e) w = absurd (omega (arith, e.1))
  kept_same s (x ∷ xs) (y ∷ ys) rest t n h k (inr e) w = long_same s _ _ _ _ (drop_through line_feed rest) t n e.0 e.1 (long_first x xs rest h) (long_first y ys rest k) w

  -- If a line ends in a part, the line is answered, and the rest of the part comes after it.
  pub line_answered : (s : E) (line kept front rest part later t : List ℕ) (n : ℕ) → has_no_end line ≡ true → has_no_end kept ≡ true → has_no_end front ≡ true → Keeps (line ++ front) kept → part ≡ front ++ line_feed ∷ rest
      → prints s (without_return kept ∷ lines (rest ++ later)) t n → prints s (lines (line ++ (part ++ later))) t n
  line_answered s line kept front rest part later t n h k f keeps e w =
      let joined : line ++ (part ++ later) ≡ (line ++ front) ++ (line_feed ∷ rest ++ later) =
      ap (λ xs. line ++ (xs ++ later)) e ∙ ap (λ xs. line ++ xs) (append_assoc front (line_feed ∷ rest) later) ∙ sym (append_assoc line front (line_feed ∷ rest ++ later)) in
      subst (λ xs. prints s (lines xs) t n) (sym joined)
      (kept_same s (line ++ front) kept (line_feed ∷ rest ++ later) t n (no_end_append line front h f) k keeps
      (subst (λ ls. prints s ls t n) (sym (line_ends kept (rest ++ later) k)) w))

  -- If no line ends in a part, it is kept.
  pub part_kept : (s : E) (line kept part later t : List ℕ) (n : ℕ) → has_no_end line ≡ true → has_no_end kept ≡ true → has_no_end part ≡ true → Keeps (line ++ part) kept
      → prints s (lines (kept ++ later)) t n → prints s (lines (line ++ (part ++ later))) t n
  part_kept s line kept part later t n h k f keeps w =
      subst (λ xs. prints s (lines xs) t n) (append_assoc line part later) (kept_same s (line ++ part) kept later t n (no_end_append line part h f) k keeps w)

  -- Nothing of a part was fed yet.
  pub feeds_first : (s : E) (line part before : List ℕ) → Feeds prints s s line line part part before before
  feeds_first s line part before = record { said = []; appended = sym (append-nil before); goes_on = λ later t n w. w }

  -- One more line of a part was answered.
  pub feeds_line : (first s next : E) (line held kept front rest others part before output after : List ℕ) → Feeds prints first s line held part rest before output
      → has_no_end held ≡ true → has_no_end kept ≡ true → has_no_end front ≡ true → rest ≡ front ++ line_feed ∷ others → Keeps (held ++ front) kept
      → Answers prints s next (without_return kept) output after → Feeds prints first next line [] part others before after
  feeds_line first s next line held kept front rest others part before output after f h k i e keeps a =
      record {
        said = f.said ++ a.said;
        appended = a.appended ∙ ap (λ xs. xs ++ a.said) f.appended ∙ append_assoc before f.said a.said;
        goes_on = λ later t n w.
            subst (λ xs. prints first (lines (line ++ (part ++ later))) xs n) (sym (append_assoc f.said a.said t))
            (f.goes_on later (a.said ++ t) n (line_answered s held kept front others rest later (a.said ++ t) n h k i keeps e (a.goes_on (lines (others ++ later)) t n w)));
      }

  -- The rest of a part, in which no line ends, was kept.
  pub feeds_rest : (first s : E) (line held kept rest part before after : List ℕ) → Feeds prints first s line held part rest before after
      → has_no_end held ≡ true → has_no_end kept ≡ true → has_no_end rest ≡ true → Keeps (held ++ rest) kept → Feeds prints first s line kept part [] before after
  feeds_rest first s line held kept rest part before after f h k i keeps =
      record { said = f.said; appended = f.appended; goes_on = λ later t n w. f.goes_on later t n (part_kept s held kept rest later t n h k i keeps w) }

-- What was said of a part is a beginning, since the rest would print something.
pub feeds_begun : {E : Type 0} (prints : E → List (List ℕ) → List ℕ → ℕ → Type 0) (count : E → ℕ) (speaks : Speaks prints count) (first s : E) (line held part rest before after : List ℕ)
    → Feeds prints first s line held part rest before after → (later : List ℕ) → SaysFront prints first (lines (line ++ (part ++ later))) (count s) before after
feeds_begun prints count speaks first s line held part rest before after f later =
    let some = speaks s (lines (held ++ (rest ++ later))) in
    record {
      text = f.said ++ some.0;
      printed = f.goes_on later some.0 (count s) some.1;
      front = (some.0, sym (append_assoc before f.said some.0) ∙ ap (λ xs. xs ++ some.0) (sym f.appended));
    }

pub is_nil : (xs : List ℕ) → length xs ≡ 0 → xs ≡ []
is_nil [] e = refl
is_nil (x ∷ xs) e = absurd (omega arith)

-- If the input ends, what is kept is the last line.
pub last_lines : (kept : List ℕ) → has_no_end kept ≡ true → length kept ≢ 0 → lines (kept ++ []) ≡ kept ∷ []
last_lines [] h e = absurd (e refl)
last_lines (x ∷ xs) h e = ap (λ ys. lines ys) (append-nil (x ∷ xs)) ∙ line_last x xs h

-- Out of memory ends a run in a part.
pub feeds_stopped : {E : Type 0} (prints : E → List (List ℕ) → List ℕ → ℕ → Type 0) (count : E → ℕ) (speaks : Speaks prints count) (first s : E) (line held part rest before after : List ℕ)
    → Feeds prints first s line held part rest before after → (later : List ℕ) → (met : ℕ) × SaysFront prints first (lines (line ++ (part ++ later))) met before after
feeds_stopped prints count speaks first s line held part rest before after f later = (count s, feeds_begun prints count speaks first s line held part rest before after f later)

-- What is said of an error.
pub on_err : {T D : Type 0} (P : Type 0) (r : Result T D) → P → OnErr r P
on_err P (Ok x) p = tt
on_err P (Err e) p = p

-- What is said of each error.
pub if_err : {T D : Type 0} (P : D → Type 0) (r : Result T D) → ((e : D) → P e) → IfErr r P
if_err P (Ok x) p = tt
if_err P (Err e) p = p e

-- What is said of each error, by what holds after any.
pub err_after : {T D Q : Type 0} {P : D → Type 0} (r : Result T D) → ((e : D) → Q → P e) → OnErr r Q → IfErr r P
err_after (Ok x) f q = tt
err_after (Err e) f q = f e q

-- An error was handed on.
pub handed_on : {T D : Type 0} (P : D → Type 0) (e : D) (r : Result T D) → IsErrAnd r (λ f. f ≡ e) → P e → IfErr r P
handed_on P e (Ok x) is p = tt
handed_on P e (Err f) is p = subst P (sym is) p

-- What was counted is counted after any fault.
pub counted : (fault : RunFault) (count : ℕ) → IsCounted fault count count
counted Read count = refl
counted Write count = refl
counted OutOfMemory count = tt

-- ---- what is written

-- What was written is a beginning.
pub front_of : (a b : Option (List ℕ)) (xs : List ℕ) (n : ℕ) → Appends a b (take n xs) → AppendsFront a b xs
front_of a b xs n h = (take n xs, (drop n xs, sym (take-append-drop n xs)), h)

-- Then nothing more was written.
pub front_and_none : (a b c : Option (List ℕ)) (xs : List ℕ) (n : ℕ) → Appends a b (take n xs) → Appends b c [] → AppendsFront a c xs
front_and_none a b c xs n h k = front_of a c xs n (subst (Appends a c) (append-nil (take n xs)) (Appends-trans a b c (take n xs) [] h k))

-- Then more was written.
pub wrote_more : (a b c : Option (List ℕ)) (xs : List ℕ) (m n : ℕ) (ys : List ℕ) → Appends a b (take m xs) → ys ≡ drop m xs → Appends b c (take n ys) → Appends a c (take (m + n) xs)
wrote_more a b c xs m n ys h e k =
    subst (Appends a c) (ap (λ zs. take m xs ++ take n zs) e ∙ sym (take-add m n xs)) (Appends-trans a b c (take m xs) (take n ys) h k)

-- A beginning of a beginning is one.
pub front_within : (a b : Option (List ℕ)) (xs whole : List ℕ) → BeginsWith whole xs → AppendsFront a b xs → AppendsFront a b whole
front_within a b xs whole h k = (k.0, (k.1.0 ++ h.0, h.1 ∙ ap (λ ys. ys ++ h.0) k.1.1 ∙ append_assoc k.0 k.1.0 h.0), k.2)

-- A whole text is a beginning.
pub whole_front : (a b : Option (List ℕ)) (xs : List ℕ) → Appends a b xs → AppendsFront a b xs
whole_front a b xs all = (xs, ([], sym (append-nil xs)), all)

-- All of a text was written, or a beginning of it.
pub wrote_some : {T D : Type 0} (r : Result T D) (a b : Option (List ℕ)) (xs : List ℕ) → OnOk r (Appends a b xs) → OnErr r (AppendsFront a b xs) → AppendsFront a b xs
wrote_some (Ok x) a b xs all front = whole_front a b xs all
wrote_some (Err e) a b xs all front = front

-- ---- a part, fed and written

module _ {E : Type 0} (prints : E → List (List ℕ) → List ℕ → ℕ → Type 0) (count : E → ℕ) where
  -- Of a beginning, a beginning was written.
  pub front_written : (fault : RunFault) (now met : ℕ) (s : E) (ls : List (List ℕ)) (before output : List ℕ) (a b : Option (List ℕ)) → before ≡ [] → IsCounted fault met now → SaysFront prints s ls met before output → AppendsFront a b output
      → WritesFront prints s ls fault now a b
  front_written fault now met s ls before output a b none is f w =
      record { text = f.text; met = met; counted = is; printed = f.printed; written = front_within a b output f.text (subst (λ xs. BeginsWith (xs ++ f.text) output) none f.front) w }

  -- What a part said was written.
  pub part_written : (first s : E) (line held part before output : List ℕ) (a b : Option (List ℕ)) → before ≡ [] → Feeds prints first s line held part [] before output → Appends a b output
      → AnswersPart prints first s line held part a b
  part_written first s line held part before output a b none f w =
      record { said = f.said; appended = subst (Appends a b) (f.appended ∙ ap (λ xs. xs ++ f.said) none) w; goes_on = f.goes_on }

  -- Of what a part said, a beginning was written.
  pub part_begun : (speaks : Speaks prints count) (fault : RunFault) (first s : E) (line held part before output : List ℕ) (a b : Option (List ℕ)) → before ≡ [] → Feeds prints first s line held part [] before output → AppendsFront a b output
      → (later : List ℕ) → WritesFront prints first (lines (line ++ (part ++ later))) fault (count s) a b
  part_begun speaks fault first s line held part before output a b none f w later =
      front_written fault (count s) (count s) first (lines (line ++ (part ++ later))) before output a b none (counted fault (count s)) (feeds_begun prints count speaks first s line held part [] before output f later) w

  -- Memory ran out in a part.
  pub part_stopped : (now : ℕ) (first : E) (line part before output : List ℕ) (a b : Option (List ℕ)) → before ≡ [] → ((later : List ℕ) → (met : ℕ) × SaysFront prints first (lines (line ++ (part ++ later))) met before output) → AppendsFront a b output
      → (later : List ℕ) → WritesFront prints first (lines (line ++ (part ++ later))) OutOfMemory now a b
  part_stopped now first line part before output a b none f w later =
      front_written OutOfMemory now (f later).0 first (lines (line ++ (part ++ later))) before output a b none tt (f later).1 w

  -- What was said is a beginning of itself.
  says_all : (s : E) (ls : List (List ℕ)) (met : ℕ) (before after : List ℕ) → Says prints s ls met before after → SaysFront prints s ls met before after
  says_all s ls met before after f = record { text = f.said; printed = f.printed; front = ([], sym f.appended ∙ sym (append-nil after)) }

  -- Of what the last line said, a beginning was written.
  pub last_begun : (fault : RunFault) (s : E) (ls : List (List ℕ)) (met : ℕ) (before output : List ℕ) (a b : Option (List ℕ)) → before ≡ [] → Says prints s ls met before output → AppendsFront a b output → WritesFront prints s ls fault met a b
  last_begun fault s ls met before output a b none f w = front_written fault met met s ls before output a b none (counted fault met) (says_all s ls met before output f) w

  -- Memory ran out in the last line: nothing was said, which is a beginning.
  pub last_stopped : (speaks : Speaks prints count) (now : ℕ) (s : E) (ls : List (List ℕ)) (before output : List ℕ) (a b : Option (List ℕ)) → before ≡ [] → output ≡ before → AppendsFront a b output → WritesFront prints s ls OutOfMemory now a b
  last_stopped speaks now s ls before output a b none same w =
      let some = speaks s ls in
      front_written OutOfMemory now (count s) s ls before output a b none tt (record { text = some.0; printed = some.1; front = (some.0, ap (λ xs. xs ++ some.0) (sym same)) }) w

  -- What the last line says was written.
  pub says_written : (s : E) (ls : List (List ℕ)) (met : ℕ) (before output : List ℕ) (a b : Option (List ℕ)) → before ≡ [] → Says prints s ls met before output → Appends a b output
      → Writes prints s ls met a b
  says_written s ls met before output a b none f w =
      record { text = f.said; printed = f.printed; written = subst (Appends a b) (f.appended ∙ ap (λ xs. xs ++ f.said) none) w }

  -- Nothing was written, which is a beginning.
  pub writes_none : (speaks : Speaks prints count) (fault : RunFault) (s : E) (ls : List (List ℕ)) (a : Option (List ℕ)) → WritesFront prints s ls fault (count s) a a
  writes_none speaks fault s ls a =
      let some = speaks s ls in
      record { text = some.0; met = count s; counted = counted fault (count s); printed = some.1; written = ([], (some.0, refl), Appends-nil a) }

  pub writes_none_of : (speaks : Speaks prints count) (s : E) (input a : Option (List ℕ)) (fault : RunFault) → IfSome input (λ xs. WritesFront prints s (lines xs) fault (count s) a a)
  writes_none_of speaks s None a fault = tt
  writes_none_of speaks s (Some xs) a fault = writes_none speaks fault s (lines xs) a

  -- ---- how far a run has come

  -- Nothing was read yet.
  pub underway_first : (first : E) (input written : Option (List ℕ)) (line : List ℕ) → line ≡ [] → IsUnderway prints first input written first line input written
  underway_first first input written line none =
      record { read = []; said = []; consumed = Consumes-nil input; appended = Appends-nil written; goes_on = λ later t n w. subst (λ xs. prints first (lines (xs ++ later)) t n) none w }

  -- A part more was read and answered.
  pub underway_more : (first : E) (input written : Option (List ℕ)) (state next : E) (line kept : List ℕ) (left rest holds after : Option (List ℕ)) (part : List ℕ)
      → IsUnderway prints first input written state line left holds → Consumes left rest part → AnswersPart prints state next line kept part holds after
      → IsUnderway prints first input written next kept rest after
  underway_more first input written state next line kept left rest holds after part u c a =
      record {
        read = u.read ++ part;
        said = u.said ++ a.said;
        consumed = Consumes-trans input left rest u.read part u.consumed c;
        appended = Appends-trans written holds after u.said a.said u.appended a.appended;
        goes_on = λ later t n w.
            subst (λ xs. prints first (lines xs) ((u.said ++ a.said) ++ t) n) (sym (append_assoc u.read part later))
            (subst (λ xs. prints first (lines (u.read ++ (part ++ later))) xs n) (sym (append_assoc u.said a.said t))
            (u.goes_on (part ++ later) (a.said ++ t) n (a.goes_on later t n w)));
      }

  -- If the input is this, what was written and a beginning of what the rest prints are a beginning of what it prints.
  front_by : (fault : RunFault) (now : ℕ) (first : E) (input written : Option (List ℕ)) (state : E) (line : List ℕ) (left holds new : Option (List ℕ)) (whole later : List ℕ)
      → (u : IsUnderway prints first input written state line left holds) → whole ≡ u.read ++ later → WritesFront prints state (lines (line ++ later)) fault now holds new
      → WritesFront prints first (lines whole) fault now written new
  front_by fault now first input written state line left holds new whole later u e f =
      record {
        text = u.said ++ f.text;
        met = f.met;
        counted = f.counted;
        printed = subst (λ xs. prints first (lines xs) (u.said ++ f.text) f.met) (sym e) (u.goes_on later f.text f.met f.printed);
        written = (
          u.said ++ f.written.0,
          (f.written.1.0, ap (λ xs. u.said ++ xs) f.written.1.1 ∙ sym (append_assoc u.said f.written.0 f.written.1.0)),
          Appends-trans written holds new u.said f.written.0 u.appended f.written.2,
        );
      }

  -- After a fault in a part that was read.
  pub underway_front : (now : ℕ) (first : E) (input written : Option (List ℕ)) (state : E) (line : List ℕ) (left rest holds new : Option (List ℕ)) (part : List ℕ)
      → IsUnderway prints first input written state line left holds → Consumes left rest part → (fault : RunFault) → ((later : List ℕ) → WritesFront prints state (lines (line ++ (part ++ later))) fault now holds new)
      → IfSome input (λ xs. WritesFront prints first (lines xs) fault now written new)
  underway_front now first None written state line left rest holds new part u c fault f = tt
  underway_front now first (Some xs) written state line None rest holds new part u c fault f = absurd u.consumed
  underway_front now first (Some xs) written state line (Some ys) None holds new part u c fault f = absurd c
  underway_front now first (Some xs) written state line (Some ys) (Some zs) holds new part u c fault f =
      front_by fault now first (Some xs) written state line (Some ys) holds new xs (part ++ zs) u (u.consumed ∙ ap (λ qs. u.read ++ qs) c) (f zs)

  -- After a fault in which nothing was read.
  pub underway_stopped : (speaks : Speaks prints count) (first : E) (input written : Option (List ℕ)) (state : E) (line : List ℕ) (left holds : Option (List ℕ))
      → IsUnderway prints first input written state line left holds → (fault : RunFault) → IfSome input (λ xs. WritesFront prints first (lines xs) fault (count state) written holds)
  underway_stopped speaks first input written state line left holds u fault =
      underway_front (count state) first input written state line left left holds holds [] u (Consumes-nil left) fault
      (λ later. writes_none speaks fault state (lines (line ++ later)) holds)

  -- At the end of the input.
  pub underway_failed : (now : ℕ) (first : E) (input written : Option (List ℕ)) (state : E) (line : List ℕ) (left rest holds new : Option (List ℕ))
      → IsUnderway prints first input written state line left holds → Consumes left rest [] → IsAtEnd rest → (fault : RunFault) → WritesFront prints state (lines (line ++ [])) fault now holds new
      → IfSome input (λ xs. WritesFront prints first (lines xs) fault now written new)
  underway_failed now first None written state line left rest holds new u c e fault f = tt
  underway_failed now first (Some xs) written state line None rest holds new u c e fault f = absurd u.consumed
  underway_failed now first (Some xs) written state line (Some ys) None holds new u c e fault f = absurd c
  underway_failed now first (Some xs) written state line (Some ys) (Some zs) holds new u c e fault f =
      front_by fault now first (Some xs) written state line (Some ys) holds new xs [] u (u.consumed ∙ ap (λ qs. u.read ++ qs) (c ∙ e)) f

  -- At the end of the input, if all was answered.
  pub underway_end : (first : E) (input written : Option (List ℕ)) (state : E) (line : List ℕ) (met : ℕ) (left rest holds new : Option (List ℕ))
      → IsUnderway prints first input written state line left holds → Consumes left rest [] → IsAtEnd rest → Writes prints state (lines (line ++ [])) met holds new
      → IfSome input (λ xs. Writes prints first (lines xs) met written new)
  underway_end first None written state line met left rest holds new u c e f = tt
  underway_end first (Some xs) written state line met None rest holds new u c e f = absurd u.consumed
  underway_end first (Some xs) written state line met (Some ys) None holds new u c e f = absurd c
  underway_end first (Some xs) written state line met (Some ys) (Some zs) holds new u c e f =
      record {
        text = u.said ++ f.text;
        printed = subst (λ qs. prints first (lines qs) (u.said ++ f.text) met) (sym (u.consumed ∙ ap (λ qs. u.read ++ qs) (c ∙ e))) (u.goes_on [] f.text met f.printed);
        written = Appends-trans written holds new u.said f.text u.appended f.written;
      }
