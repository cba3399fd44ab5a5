-- Packets by number.
use Rattle.std.proofs.Common.{◌≡◌, ℕ, zero, suc, ◌+◌, ◌-◌, ◌<◌, ◌≤◌, Bool, true, false, cond, ◌==◌, List, [], ◌∷◌, ◌++◌, length, get_or, slice_get, refl, sym, ap, subst, ◌∙◌, Option, Some, None, arith, append_assoc}
use Rattle.std.specs.Prelude.{nat_lt}
use Rattle.std.specs.List.Sorted.{IsPartitionPoint, IsPartitionedBy}
use Rattle.std.proofs.lemmas.List.{length-append}
use Rattle.std.proofs.lemmas.Option.{slice_get_past, slice_get_within, slice_get-get_or, get_or_from_slice_get}
use Rattle.rapid_model.specs.Node.{Event}
use Rattle.rapid_world.specs.Arrivals.{AreRead, Brings, HaveFrame, IsReadFrom}
use Rattle.rapid_world.specs.Framed.{FramedPacket}
use Rattle.rapid_world.specs.Sent.{Sent, all_packets, AreNumbered, HasSent, Tells, numbered_packet}
use Rattle.rapid_world.proofs.Packets.{get_left, get_right}
use Rattle.std.proofs.lemmas.Bool.{ltb-true, lt-ltb, ltb-false}

-- as many as are counted
pub sent_from : (n : ℕ) (ss : List Sent) (total : ℕ) → AreNumbered n ss total → total ≡ n + length (all_packets ss)
sent_from n [] total h = let e = h in omega arith
sent_from n (s ∷ ss) total h =
    let r = sent_from (n + length s.packets) ss total h.1 in
    let e = length-append s.packets (all_packets ss) in
    omega arith

pub sent_are : (ss : List Sent) (total : ℕ) → AreNumbered 0 ss total → total ≡ length (all_packets ss)
sent_are ss total h = let r = sent_from 0 ss total h in omega arith

nil_end : {A : Type 0} (xs : List A) → xs ≡ xs ++ []
nil_end [] = refl
nil_end (x ∷ xs) = ap (λ l. x ∷ l) (nil_end xs)

-- one step more
pub posted : (ss : List Sent) (s : Sent) → all_packets (ss ++ s ∷ []) ≡ all_packets ss ++ s.packets
posted [] s = sym (nil_end s.packets)
posted (t ∷ ss) s = ap (λ l. t.packets ++ l) (posted ss s) ∙ sym (append_assoc t.packets (all_packets ss) s.packets)

pub numbered_from : (n : ℕ) (ss : List Sent) (total : ℕ) (s : Sent) → AreNumbered n ss total → s.first ≡ total → AreNumbered n (ss ++ s ∷ []) (total + length s.packets)
numbered_from n [] total s h e = let g = h in (omega arith, omega arith)
numbered_from n (t ∷ ss) total s h e = (h.0, numbered_from (n + length t.packets) ss total s h.1 e)

pub numbered : (ss : List Sent) (total : ℕ) (s : Sent) → AreNumbered 0 ss total → s.first ≡ length (all_packets ss) → AreNumbered 0 (ss ++ s ∷ []) (s.first + length s.packets)
numbered ss total s h e =
    let t : total ≡ s.first = sent_are ss total h ∙ sym e in
    subst (λ k. AreNumbered 0 (ss ++ s ∷ []) (k + length s.packets)) t (numbered_from 0 ss total s h (sym t))

-- ---- the step of a packet

-- each step begins where those before it end
begins : (n : ℕ) (ss : List Sent) (total : ℕ) → AreNumbered n ss total → (j : ℕ) (d : Sent) → j < length ss → n ≤ (get_or ss j d).first
begins n [] total h j d l = absurd (omega arith)
begins n (s ∷ ss) total h zero d l = let e = h.0 in omega arith
begins n (s ∷ ss) total h (suc j) d l = let r = begins (n + length s.packets) ss total h.1 j d (omega arith) in omega arith

rise : (n : ℕ) (ss : List Sent) (total : ℕ) → AreNumbered n ss total → (i j : ℕ) (d : Sent) → i ≤ j → j < length ss → (get_or ss i d).first ≤ (get_or ss j d).first
rise n [] total h i j d le l = absurd (omega arith)
rise n (s ∷ ss) total h zero j d le l = let e = h.0 in let r = begins n (s ∷ ss) total h j d l in omega arith
rise n (s ∷ ss) total h (suc i) zero d le l = absurd (omega arith)
rise n (s ∷ ss) total h (suc i) (suc j) d le l = rise (n + length s.packets) ss total h.1 i j d (omega arith) (omega arith)

abbrev pub begins_before : ℕ → Sent → Bool
begins_before k s = nat_lt s.first k

pub those_before_first : (ss : List Sent) (total : ℕ) (number : ℕ) → AreNumbered 0 ss total → IsPartitionedBy (begins_before number) ss
those_before_first ss total number h i j d le l e = let r = rise 0 ss total h i j d le l in let t = ltb-true _ _ e in lt-ltb _ _ (omega arith)

-- those from a place on begin after the packet, those before it do not
Parts : ℕ → List Sent → ℕ → Type 0
Parts k ss i = ((j : ℕ) (d : Sent) → j < i → (get_or ss j d).first < k) × ((j : ℕ) (d : Sent) → i ≤ j → j < length ss → k ≤ (get_or ss j d).first)

parts : (k : ℕ) (ss : List Sent) (i : ℕ) → IsPartitionPoint (λ s. begins_before k s ≡ true) (λ s. begins_before k s ≡ false) ss i → Parts k ss i
unfolding Parts
parts k ss i h = (λ j d l. ltb-true _ _ (h.0 j d (omega arith) l), λ j d le l. ltb-false _ _ (h.1 j d le l))

rest : (k : ℕ) (s : Sent) (ss : List Sent) (i : ℕ) → Parts k (s ∷ ss) (suc i) → Parts k ss i
unfolding Parts
rest k s ss i h = (λ j d l. h.0 (suc j) d (omega arith), λ j d le l. h.1 (suc j) d (omega arith) (omega arith))

-- if no step is left, or the next begins after the packet, the packet is none of the rest
none_after : (n k : ℕ) (ss : List Sent) (total : ℕ) (m : ℕ) → AreNumbered n ss total → n < k → Parts k ss 0 → slice_get (all_packets ss) m ≡ None
unfolding Parts
none_after n k [] total m h l p = refl
none_after n k (s ∷ ss) total m h l p = let e = h.0 in let r = p.1 0 s (omega arith) (omega arith) in absurd (omega arith)

found_from : (n k : ℕ) (ss : List Sent) (total : ℕ) (i : ℕ) (d : Sent) → AreNumbered n ss total → n < k → i < length ss → Parts k ss (suc i) →
    slice_get (all_packets ss) ((k - 1) - n) ≡ slice_get (get_or ss i d).packets ((k - 1) - (get_or ss i d).first)
unfolding Parts
found_from n k [] total i d h l w p = absurd (omega arith)
found_from n k (s ∷ ss) total zero d h l w p = by (nat_lt ((k - 1) - n) (length s.packets)) refl
  where
    here : slice_get s.packets ((k - 1) - n) ≡ slice_get s.packets ((k - 1) - s.first)
    here = ap (λ x. slice_get s.packets ((k - 1) - x)) (sym h.0)

    by : (b : Bool) → nat_lt ((k - 1) - n) (length s.packets) ≡ b → slice_get (s.packets ++ all_packets ss) ((k - 1) - n) ≡ slice_get s.packets ((k - 1) - s.first)
    by true e = get_left s.packets (all_packets ss) ((k - 1) - n) (ltb-true _ _ e) ∙ here
    by false e =
        let past : length s.packets ≤ (k - 1) - n = ltb-false _ _ e in
        get_right s.packets (all_packets ss) ((k - 1) - n) past
        ∙ none_after (n + length s.packets) k ss total _ h.1 (omega arith) (rest k s ss zero p)
        ∙ sym (slice_get_past s.packets ((k - 1) - n) past)
        ∙ here
found_from n k (s ∷ ss) total (suc i) d h l w p =
    let next = begins (n + length s.packets) ss total h.1 i d (omega arith) in
    let before = p.0 (suc i) d (omega arith) in
    let past : length s.packets ≤ (k - 1) - n = omega arith in
    let e : ((k - 1) - n) - length s.packets ≡ (k - 1) - (n + length s.packets) = omega arith in
    get_right s.packets (all_packets ss) ((k - 1) - n) past
    ∙ ap (slice_get (all_packets ss)) e
    ∙ found_from (n + length s.packets) k ss total i d h.1 (omega arith) (omega arith) (rest k s ss (suc i) p)

abbrev Points : ℕ → List Sent → ℕ → Type 0
Points k ss i = IsPartitionPoint (λ s. begins_before k s ≡ true) (λ s. begins_before k s ≡ false) ss i

zero_or_not : (k : ℕ) (x : Option FramedPacket) → (0 < k → x ≡ None) → cond (k == 0) None x ≡ None
zero_or_not k x h = by (k == 0) refl
  where
    by : (b : Bool) → (k == 0) ≡ b → cond b None x ≡ None
    by true e = refl
    by false e = h (Prim.grind (arith, e))

-- if no step begins before the packet, there is none
pub none_before : (ss : List Sent) (total k i : ℕ) → AreNumbered 0 ss total → Points k ss i → i ≡ 0 → numbered_packet (all_packets ss) k ≡ None
none_before ss total k i h p e = zero_or_not k _ (λ some. none_after 0 k ss total (k - 1) h some (subst (Parts k ss) e (parts k ss i p)))

-- what stands last before the packet begins before it
pub last_begins : (ss : List Sent) (k i j : ℕ) (s : Sent) → Points k ss i → j + 1 ≡ i → i ≤ length ss → s ≡ get_or ss j s → s.first < k
unfolding Parts
last_begins ss k i j s p e l at = let r = (parts k ss i p).0 j s (omega arith) in let same = ap (λ (x : Sent). x.first) at in omega arith

-- and has it, if there is one
pub last_has : (ss : List Sent) (total k i j : ℕ) (s : Sent) → AreNumbered 0 ss total → Points k ss i → j + 1 ≡ i → i ≤ length ss → s ≡ get_or ss j s →
    slice_get s.packets ((k - 1) - s.first) ≡ numbered_packet (all_packets ss) k
last_has ss total k i j s h p e l at =
    let some : s.first < k = last_begins ss k i j s p e l at in
    let one : i ≡ suc j = omega arith in
    ap (λ (x : Sent). slice_get x.packets ((k - 1) - x.first)) at
    ∙ sym (found_from 0 k ss total j s h (omega arith) (omega arith) (subst (Parts k ss) one (parts k ss i p)))
    ∙ sym (not_zero k (omega arith))
  where
    not_zero : (k : ℕ) → 0 < k → numbered_packet (all_packets ss) k ≡ slice_get (all_packets ss) ((k - 1) - 0)
    not_zero k l = by (k == 0) refl
      where
        same : k - 1 ≡ (k - 1) - 0
        same = omega arith

        by : (b : Bool) → (k == 0) ≡ b → cond b None (slice_get (all_packets ss) (k - 1)) ≡ slice_get (all_packets ss) ((k - 1) - 0)
        by true e = absurd (Prim.grind (arith, e, l))
        by false e = ap (slice_get (all_packets ss)) same

-- ---- the step that sent a packet

numbered_at : (ps : List FramedPacket) (k : ℕ) → 0 < k → numbered_packet ps k ≡ slice_get ps ((k - 1) - 0)
numbered_at ps k l = by (k == 0) refl
  where
    same : k - 1 ≡ (k - 1) - 0
    same = omega arith

    by : (b : Bool) → (k == 0) ≡ b → cond b None (slice_get ps (k - 1)) ≡ slice_get ps ((k - 1) - 0)
    by true e = absurd (Prim.grind (arith, e, l))
    by false e = ap (slice_get ps) same

inside : {x y : Sent} → ◌≡◌ {A = Option Sent} (Some x) (Some y) → x ≡ y
inside e = cc

begins_there : (n : ℕ) (ss : List Sent) (total i : ℕ) (s : Sent) → AreNumbered n ss total → slice_get ss i ≡ Some s → n ≤ s.first
begins_there n ss total i s h at = let l = begins n ss total h i s (slice_get_within ss i s at) in subst (λ (x : Sent). n ≤ x.first) (get_or_from_slice_get ss i s s at) l

sent_there : (n k : ℕ) (ss : List Sent) (total i : ℕ) (s : Sent) → AreNumbered n ss total → slice_get ss i ≡ Some s → s.first < k → k ≤ s.first + length s.packets →
    slice_get s.packets ((k - 1) - s.first) ≡ slice_get (all_packets ss) ((k - 1) - n)
sent_there n k [] total i s h at b e = absurd cc
sent_there n k (t ∷ ss) total zero s h at b e =
    let same : t ≡ s = inside at in
    let first : s.first ≡ n = sym (ap (λ (x : Sent). x.first) same) ∙ h.0 in
    let len : length t.packets ≡ length s.packets = ap (λ (x : Sent). length x.packets) same in
    let l : (k - 1) - n < length t.packets = omega (arith, first, len, b, e) in
    ap (λ m. slice_get s.packets ((k - 1) - m)) first ∙ ap (λ (x : Sent). slice_get x.packets ((k - 1) - n)) (sym same) ∙ sym (get_left t.packets (all_packets ss) ((k - 1) - n) l)
sent_there n k (t ∷ ss) total (suc i) s h at b e =
    let next : n + length t.packets ≤ s.first = begins_there (n + length t.packets) ss total i s h.1 at in
    let past : length t.packets ≤ (k - 1) - n = omega (arith, next, b) in
    let same : ((k - 1) - n) - length t.packets ≡ (k - 1) - (n + length t.packets) = omega arith in
    sent_there (n + length t.packets) k ss total i s h.1 at b e
    ∙ sym (get_right t.packets (all_packets ss) ((k - 1) - n) past ∙ ap (slice_get (all_packets ss)) same)

-- it has the packet
pub tells_it : (ss : List Sent) (total k i : ℕ) → AreNumbered 0 ss total → HasSent ss k i → Tells ss k i
tells_it ss total k i h has =
    let b = has.begins in
    record {
      sent = has.sent;
      at = has.at;
      begins = has.begins;
      has = sent_there 0 k ss total i has.sent h has.at has.begins has.ends ∙ sym (numbered_at (all_packets ss) k (omega (arith, b)));
    }

there : (ss : List Sent) (i : ℕ) → i < length ss → (s : Sent) × (slice_get ss i ≡ Some s)
there [] i h = absurd (omega arith)
there (s ∷ ss) zero h = (s, refl)
there (s ∷ ss) (suc i) h = there ss i (omega arith)

-- so has the last one that begins before it, if any does
pub last_tells : (ss : List Sent) (total k i j : ℕ) → AreNumbered 0 ss total → Points k ss i → j + 1 ≡ i → i ≤ length ss → Tells ss k j
last_tells ss total k i j h p e l =
    let t = there ss j (omega (arith, e, l)) in
    let is : t.0 ≡ get_or ss j t.0 = sym (get_or_from_slice_get ss j t.0 t.0 t.1) in
    record {
      sent = t.0;
      at = t.1;
      begins = last_begins ss k i j t.0 p e l is;
      has = last_has ss total k i j t.0 h p e l is;
    }

-- what is read at the place
pub read_there : (ss : List Sent) (i : ℕ) (s x : Sent) → slice_get ss i ≡ Some s → x ≡ get_or ss i x → x ≡ s
read_there ss i s x at is = is ∙ get_or_from_slice_get ss i s x at

-- ---- what is read from one frame

-- packets that come later change nothing of it
pub still_read : (ps qs : List FramedPacket) (first end : ℕ) (e : Event) → AreRead ps first end e → AreRead (ps ++ qs) first end e
still_read ps qs first end e h =
    record {
      there = let l = length-append ps qs in let t = h.there in omega arith;
      read = λ k lo hi p is.
          let t = h.there in
          let some : 0 < k = omega (arith, lo) in
          let within : (k - 1) - 0 < length ps = omega (arith, lo, hi, t) in
          h.read k lo hi p (numbered_at ps k some ∙ sym (get_left ps qs ((k - 1) - 0) within) ∙ sym (numbered_at (ps ++ qs) k some) ∙ is);
    }

-- the packets of a step are among all
sent_within : (n : ℕ) (ss : List Sent) (total i : ℕ) (s : Sent) → AreNumbered n ss total → slice_get ss i ≡ Some s → s.first + length s.packets ≤ n + length (all_packets ss)
sent_within n [] total i s h at = absurd cc
sent_within n (t ∷ ss) total zero s h at =
    let same : t ≡ s = inside at in
    let first : s.first ≡ n = sym (ap (λ (x : Sent). x.first) same) ∙ h.0 in
    let len : length t.packets ≡ length s.packets = ap (λ (x : Sent). length x.packets) same in
    let all = length-append t.packets (all_packets ss) in
    omega (arith, first, len, all)
sent_within n (t ∷ ss) total (suc i) s h at =
    let r = sent_within (n + length t.packets) ss total i s h.1 at in
    let all = length-append t.packets (all_packets ss) in
    omega (arith, r, all)

-- what is read from the frame of one packet is read from those of all that have it
pub all_read : (ss : List Sent) (total k i : ℕ) (s : Sent) (first end : ℕ) (e : Event) → AreNumbered 0 ss total → slice_get ss i ≡ Some s → HaveFrame s first end k → Brings (all_packets ss) k e → AreRead (all_packets ss) first end e
all_read ss total k i s first end e h at f reads =
    record {
      there = let w = sent_within 0 ss total i s h at in let t = f.there in omega (arith, w, t);
      read = each;
    }
  where
    packet_at : (j : ℕ) → first < j → j ≤ end → slice_get s.packets ((j - 1) - s.first) ≡ numbered_packet (all_packets ss) j
    packet_at j lo hi =
        let a = f.above in
        let t = f.there in
        sent_there 0 j ss total i s h at (omega (arith, a, lo)) (omega (arith, t, hi)) ∙ sym (numbered_at (all_packets ss) j (omega (arith, lo)))

    each : (j : ℕ) → first < j → j ≤ end → Brings (all_packets ss) j e
    each j lo hi p is =
        let a = f.above in
        let t = f.there in
        let lo' = f.starts in
        let hi' = f.ends in
        let q : FramedPacket = get_or s.packets ((k - 1) - s.first) p in
        let one : slice_get s.packets ((k - 1) - s.first) ≡ Some q = slice_get-get_or s.packets ((k - 1) - s.first) p (omega (arith, a, t, lo', hi')) in
        let here : p.bytes ≡ f.bytes = f.same j p lo hi (packet_at j lo hi ∙ is) in
        let there : q.bytes ≡ f.bytes = f.same k q lo' hi' one in
        subst (λ (l : List ℕ). IsReadFrom l e) (there ∙ sym here) (reads q (sym (packet_at k lo' hi') ∙ one))
