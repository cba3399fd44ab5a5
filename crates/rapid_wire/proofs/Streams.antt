-- What stands in front of a stream stays there, whatever follows.
use Rattle.std.proofs.Common.{◌≡◌, ℕ, List, ◌++◌, ap, subst, ◌∙◌, append_assoc}
use Rattle.std.specs.Int.{w32, to_be_bytes}
use Rattle.rapid_model.specs.Message.{Message}
use Rattle.rapid_model.specs.Frame.{framed}
use Rattle.rapid_model.specs.Feed.{WireFault, TooLong, BadVersion, BadKind, BadBody, BeginsWith, IsFront, Whole, Faulty, StreamEnd, Left, Fault, Stream, left, fault, next}

begun : (bytes more whole rest : List ℕ) → BeginsWith bytes whole rest → BeginsWith (bytes ++ more) whole (rest ++ more)
begun bytes more whole rest h = record { fits = h.fits; is = ap (λ l. l ++ more) h.is ∙ append_assoc (framed whole) rest more }

pub stays_whole : (bytes more : List ℕ) (m : Message) (rest : List ℕ) → IsFront bytes (Whole m rest) → IsFront (bytes ++ more) (Whole m (rest ++ more))
stays_whole bytes more m rest h = (h.0, begun bytes more _ rest h.1)

stays_faulty : (bytes more : List ℕ) (f : WireFault) → IsFront bytes (Faulty f) → IsFront (bytes ++ more) (Faulty f)
stays_faulty bytes more TooLong h =
    record { length = h.length; rest = h.rest ++ more; above = h.above; below = h.below; is = ap (λ l. l ++ more) h.is ∙ append_assoc (to_be_bytes w32 h.length) h.rest more }
stays_faulty bytes more BadVersion h = (h.0, h.1 ++ more, begun bytes more h.0 h.1 h.2, h.3)
stays_faulty bytes more BadKind h = (h.0, h.1 ++ more, begun bytes more h.0 h.1 h.2, h.3)
stays_faulty bytes more BadBody h = (h.0, h.1 ++ more, begun bytes more h.0 h.1 h.2, h.3)

same_left : (x y : List ℕ) → Left x ≡ Left y → y ≡ x
same_left x y e = cc

same_fault : (x y : WireFault) → Fault x ≡ Fault y → x ≡ y
same_fault x y e = cc

pub goes_on : (bytes : List ℕ) (ms : List Message) (end : StreamEnd) → Stream bytes ms end → (more l : List ℕ) (ns : List Message) (e : StreamEnd) → end ≡ Left l → Stream (l ++ more) ns e →
    Stream (bytes ++ more) (ms ++ ns) e
goes_on _ _ _ (left bytes i) more l ns e h s = subst (λ b. Stream (b ++ more) ns e) (same_left bytes l h) s
goes_on _ _ _ (fault bytes f x) more l ns e h s = absurd cc
goes_on _ _ _ (next bytes rest m ms end x t) more l ns e h s =
    next (bytes ++ more) (rest ++ more) m (ms ++ ns) e (stays_whole bytes more m rest x) (goes_on rest ms end t more l ns e h s)

pub fails_on : (bytes : List ℕ) (ms : List Message) (end : StreamEnd) → Stream bytes ms end → (more : List ℕ) (f : WireFault) → end ≡ Fault f → Stream (bytes ++ more) ms (Fault f)
fails_on _ _ _ (left bytes i) more f h = absurd cc
fails_on _ _ _ (fault bytes g x) more f h = fault (bytes ++ more) f (subst (λ k. IsFront (bytes ++ more) (Faulty k)) (same_fault g f h) (stays_faulty bytes more g x))
fails_on _ _ _ (next bytes rest m ms end x t) more f h =
    next (bytes ++ more) (rest ++ more) m ms (Fault f) (stays_whole bytes more m rest x) (fails_on rest ms end t more f h)
