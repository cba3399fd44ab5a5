-- Packets of framed outputs, counted and found by their places.
use Rattle.std.proofs.Common.{◌≡◌, ℕ, zero, suc, ◌+◌, ◌-◌, ◌<◌, ◌≤◌, List, [], ◌∷◌, ◌++◌, map, length, get_or, take, drop, slice_get, refl, sym, ap, subst, ◌∙◌, Option, Some, None, arith}
use Rattle.std.specs.Prelude.{flat_map}
use Rattle.std.specs.Option.{option_map}
use Rattle.std.proofs.lemmas.List.{take-append-drop, length-map, length-append, drop_more, drop_all, take_more, append-nil}
use Rattle.std.proofs.lemmas.Option.{slice_get-map, slice_get_past}
use Rattle.rapid_model.specs.Process.{Process, endpoint}
use Rattle.rapid_model.specs.Node.{Destination, To, Others, Itself}
use Rattle.rapid_world.specs.Arrivals.{HaveFrame}
use Rattle.rapid_world.specs.Framed.{FramedPacket, FramedOutput, frames_of, frames_to, frame_to}

-- what stands in the first of two lists, and in the second
pub get_left : {A : Type 0} (xs ys : List A) (i : ℕ) → i < length xs → slice_get (xs ++ ys) i ≡ slice_get xs i
get_left [] ys i h = absurd (omega arith)
get_left (x ∷ xs) ys zero h = refl
get_left (x ∷ xs) ys (suc i) h = get_left xs ys i (omega arith)

pub get_right : {A : Type 0} (xs ys : List A) (i : ℕ) → length xs ≤ i → slice_get (xs ++ ys) i ≡ slice_get ys (i - length xs)
get_right [] ys i h = let e : i ≡ i - 0 = omega arith in ap (slice_get ys) e
get_right (x ∷ xs) ys zero h = absurd (omega arith)
get_right (x ∷ xs) ys (suc i) h = let e : i - length xs ≡ suc i - suc (length xs) = omega arith in get_right xs ys i (omega arith) ∙ ap (slice_get ys) e

abbrev made : List Process → List FramedOutput → List FramedPacket
made rs os = flat_map (frames_of rs) os

-- an output to the others makes as many packets as they are
pub count_of : (rs : List Process) (o : FramedOutput) → o.to ≡ Others → length (frames_of rs o) ≡ length rs
count_of rs o e = ap (λ (t : Destination). length (frames_to rs o.bytes t)) e ∙ length-map rs (λ p. frame_to o.bytes (endpoint p))

-- the packets of one output more
pub made_more : (rs : List Process) (os : List FramedOutput) (i : ℕ) (d : FramedOutput) → i < length os → made rs (drop i os) ≡ frames_of rs (get_or os i d) ++ made rs (drop (i + 1) os)
made_more rs os i d h = ap (made rs) (drop_more os i d h)

made_append : (rs : List Process) (xs ys : List FramedOutput) → made rs (xs ++ ys) ≡ made rs xs ++ made rs ys
made_append rs [] ys = refl
made_append rs (x ∷ xs) ys = ap (λ l. frames_of rs x ++ l) (made_append rs xs ys) ∙ sym (Rattle.std.proofs.Common.append_assoc (frames_of rs x) (made rs xs) (made rs ys))

pub count_more : (rs : List Process) (os : List FramedOutput) (i : ℕ) (d : FramedOutput) → i < length os → length (made rs (take (i + 1) os)) ≡ length (made rs (take i os)) + length (frames_of rs (get_or os i d))
count_more rs os i d h =
    ap (λ l. length (made rs l)) (take_more os i d h)
    ∙ ap length (made_append rs (take i os) (get_or os i d ∷ []) ∙ ap (λ l. made rs (take i os) ++ l) (append-nil (frames_of rs (get_or os i d))))
    ∙ length-append (made rs (take i os)) (frames_of rs (get_or os i d))

-- the packets to the others, by place
pub to_others : (rs : List Process) (m : List ℕ) (i : ℕ) → slice_get (frames_to rs m Others) i ≡ option_map (λ p. frame_to m (endpoint p)) (slice_get rs i)
to_others rs m i = slice_get-map (λ p. frame_to m (endpoint p)) rs i

pub to_one : (rs : List Process) (m : List ℕ) (e : List ℕ) (i : ℕ) → 0 < i → slice_get (frames_to rs m (To e)) i ≡ None
to_one rs m e i h = slice_get_past (frame_to m e ∷ []) i (omega arith)

-- a place that is not among the packets of an output
pub passes : (rs : List Process) (os : List FramedOutput) (i : ℕ) (d : FramedOutput) (n : ℕ) → i < length os → length (frames_of rs (get_or os i d)) ≤ n →
    slice_get (made rs (drop i os)) n ≡ slice_get (made rs (drop (i + 1) os)) (n - length (frames_of rs (get_or os i d)))
passes rs os i d n h past = ap (λ l. slice_get l n) (made_more rs os i d h) ∙ get_right (frames_of rs (get_or os i d)) (made rs (drop (i + 1) os)) n past

-- one that is
pub stops : (rs : List Process) (os : List FramedOutput) (i : ℕ) (d : FramedOutput) (n : ℕ) → i < length os → n < length (frames_of rs (get_or os i d)) →
    slice_get (made rs (drop i os)) n ≡ slice_get (frames_of rs (get_or os i d)) n
stops rs os i d n h within = ap (λ l. slice_get l n) (made_more rs os i d h) ∙ get_left (frames_of rs (get_or os i d)) (made rs (drop (i + 1) os)) n within

-- and none if no output is left
pub none_left : (rs : List Process) (os : List FramedOutput) (i n : ℕ) → length os ≤ i → slice_get (made rs (drop i os)) n ≡ None
none_left rs os i n h = ap (λ l. slice_get (made rs l) n) (drop_all i os h)

-- ---- those of one frame

-- the packets of an output have its frame
frames_have : (rs : List Process) (bytes : List ℕ) (to : Destination) (i : ℕ) (p : FramedPacket) → slice_get (frames_to rs bytes to) i ≡ Some p → p.bytes ≡ bytes
frames_have rs bytes (To e) zero p is = let same : frame_to bytes e ≡ p = cc in ap (λ (q : FramedPacket). q.bytes) (sym same)
frames_have rs bytes (To e) (suc i) p is = absurd cc
frames_have rs bytes Others i p is = each (slice_get rs i) (sym (to_others rs bytes i) ∙ is)
  where
    each : (o : Option Process) → option_map (λ q. frame_to bytes (endpoint q)) o ≡ Some p → p.bytes ≡ bytes
    each None e = absurd cc
    each (Some q) e = let same : frame_to bytes (endpoint q) ≡ p = cc in ap (λ (x : FramedPacket). x.bytes) (sym same)
frames_have rs bytes Itself i p is = absurd cc

whole_made : (rs : List Process) (os : List FramedOutput) (i : ℕ) (d : FramedOutput) → i < length os →
    made rs os ≡ made rs (take i os) ++ (frames_of rs (get_or os i d) ++ made rs (drop (i + 1) os))
whole_made rs os i d h =
    ap (made rs) (sym (take-append-drop i os))
    ∙ made_append rs (take i os) (drop i os)
    ∙ ap (λ l. made rs (take i os) ++ l) (made_more rs os i d h)

-- the packets of one output, counted on
pub count_on : (rs : List Process) (os : List FramedOutput) (i : ℕ) (d : FramedOutput) (first before end : ℕ) → i < length os → before ≡ first + length (made rs (take i os)) → end ≡ before + length (frames_of rs (get_or os i d)) →
    end ≡ first + length (made rs (take (i + 1) os))
count_on rs os i d first before end h b e = let m = count_more rs os i d h in omega (arith, m, b, e)

-- they have one frame
pub have_frame : (rs : List Process) (os : List FramedOutput) (i : ℕ) (d : FramedOutput) (first k before end : ℕ) → i < length os → before ≡ first + length (made rs (take i os)) → end ≡ before + length (frames_of rs (get_or os i d)) →
    before < k → k ≤ end → HaveFrame (record { first = first; packets = made rs os }) before end k
have_frame rs os i d first k before end h b e lo hi =
    record {
      starts = lo;
      ends = hi;
      above = omega (arith, b);
      there = omega (arith, whole, b, e);
      bytes = o.bytes;
      same = λ j p l u is. frames_have rs o.bytes o.to ((j - 1) - before) p (sym (found j l u) ∙ is);
    }
  where
    o : FramedOutput
    o = get_or os i d

    parts : made rs os ≡ made rs (take i os) ++ (frames_of rs o ++ made rs (drop (i + 1) os))
    parts = whole_made rs os i d h

    whole : length (made rs os) ≡ length (made rs (take i os)) + (length (frames_of rs o) + length (made rs (drop (i + 1) os)))
    whole = ap length parts ∙ length-append (made rs (take i os)) (frames_of rs o ++ made rs (drop (i + 1) os)) ∙ ap (λ n. length (made rs (take i os)) + n) (length-append (frames_of rs o) (made rs (drop (i + 1) os)))

    found : (j : ℕ) → before < j → j ≤ end → slice_get (made rs os) ((j - 1) - first) ≡ slice_get (frames_of rs o) ((j - 1) - before)
    found j l u =
        let past : length (made rs (take i os)) ≤ (j - 1) - first = omega (arith, b, l) in
        let same : ((j - 1) - first) - length (made rs (take i os)) ≡ (j - 1) - before = omega (arith, b, l) in
        ap (λ ps. slice_get ps ((j - 1) - first)) parts
        ∙ get_right (made rs (take i os)) (frames_of rs o ++ made rs (drop (i + 1) os)) ((j - 1) - first) past
        ∙ ap (slice_get (frames_of rs o ++ made rs (drop (i + 1) os))) same
        ∙ get_left (frames_of rs o) (made rs (drop (i + 1) os)) ((j - 1) - before) (omega (arith, e, l, u))
