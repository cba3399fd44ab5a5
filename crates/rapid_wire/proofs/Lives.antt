-- What a feed answered is what stands in front of its stream.
use Rattle.std.proofs.Common.{ℕ, List, [], ◌∷◌, ◌++◌, Option, Some, None, Result, Ok, Err, refl, sym, subst, append-nil, arith}
use Rattle.std.specs.Prelude.{All, map}
use Rattle.std.specs.List.{concat}
use Rattle.std.proofs.lemmas.List.Elements.{All-head, All-tail}
use Rattle.rapid_model.specs.Message.{Message}
use Rattle.rapid_model.specs.Frame.{IsMessage, frame}
use Rattle.rapid_model.specs.Feed as model
use Rattle.rapid_model.specs.Feed.{IsFront, Whole, Faulty, StreamEnd, Left, Fault, Stream, left, fault, next}
use Rattle.rapid_wire.specs.declared.fault.WireFault.{WireFault}
use Rattle.rapid_wire.specs.declared.fault.WireFault.TheVariants.{TooLong, BadVersion, BadKind, BadBody, OutOfMemory}
use Rattle.rapid_wire.specs.Feeding.{IsNext, fed}
use Rattle.rapid_wire.specs.Laws.{History, new, given, asked, answered, ToCome}
use Rattle.rapid_wire.proofs.Frames.{message_fits}
use Rattle.rapid_wire.proofs.Fronts.{too_few}
use Rattle.rapid_wire.proofs.Streams.{stays_whole, fails_on}

-- These messages stand in front of the bytes, and this is behind them.
data Behind : List ℕ → List Message → List ℕ → Type 0 where
  none : (bytes : List ℕ) → Behind bytes [] bytes
  some : (bytes rest held : List ℕ) (m : Message) (ms : List Message) → IsFront bytes (Whole m rest) → Behind rest ms held → Behind bytes (m ∷ ms) held

-- Further bytes come behind.
with_piece : (bytes held : List ℕ) (ms : List Message) (piece : List ℕ) → Behind bytes ms held → Behind (bytes ++ piece) ms (held ++ piece)
with_piece _ _ _ piece (none bytes) = none (bytes ++ piece)
with_piece _ _ _ piece (some bytes rest held m ms x b) =
    some (bytes ++ piece) (rest ++ piece) (held ++ piece) m ms (stays_whole bytes piece m rest x) (with_piece rest held ms piece b)

-- One more message is answered.
with_message : (bytes held : List ℕ) (ms : List Message) (m : Message) (rest : List ℕ) → Behind bytes ms held → IsFront held (Whole m rest) → Behind bytes (ms ++ m ∷ []) rest
with_message _ _ _ m rest (none bytes) x = some bytes rest rest m [] x (none rest)
with_message _ _ _ m rest (some bytes behind held n ms y b) x = some bytes behind rest n (ms ++ m ∷ []) y (with_message behind held ms m rest b x)

-- What is behind goes on as a stream.
goes_on_behind : (bytes held : List ℕ) (ms ns : List Message) (end : StreamEnd) → Behind bytes ms held → Stream held ns end → Stream bytes (ms ++ ns) end
goes_on_behind _ _ _ ns end (none bytes) s = s
goes_on_behind _ _ _ ns end (some bytes rest held m ms x b) s = next bytes rest m (ms ++ ns) end x (goes_on_behind rest held ms ns end b s)

-- What is known of a feed in the end.
abbrev Known : List ℕ → List Message → StreamEnd → Type 0
Known bytes ms (Left held) = Behind bytes ms held
Known bytes ms (Fault f) = Stream bytes ms (Fault f)

-- It is known after a piece.
after_piece : (bytes piece : List ℕ) (ms : List Message) (end : StreamEnd) → Known bytes ms end → Known (bytes ++ piece) ms (fed end piece)
after_piece bytes piece ms (Left held) k = with_piece bytes held ms piece k
after_piece bytes piece ms (Fault f) k = fails_on bytes ms (Fault f) k piece f refl

-- It is known after an answer.
after_answer : (bytes : List ℕ) (ms : List Message) (end now : StreamEnd) (answer : Result (Option Message) WireFault) → Known bytes ms end → IsNext end now answer →
    Known bytes (ms ++ answered answer) now
after_answer bytes ms (Left held) now (Ok (Some m)) k n = subst (Known bytes (ms ++ m ∷ [])) (sym n.2) (with_message bytes held ms m n.0 k n.1)
after_answer bytes ms (Left held) now (Ok None) k n = subst (Known bytes (ms ++ [])) (sym n.1) (subst (λ l. Behind bytes l held) (sym (append-nil ms)) k)
after_answer bytes ms (Left held) now (Err TooLong) k n =
    subst (Known bytes (ms ++ [])) (sym n.1) (goes_on_behind bytes held ms [] (Fault model.TooLong) k (fault held model.TooLong n.0))
after_answer bytes ms (Left held) now (Err BadVersion) k n =
    subst (Known bytes (ms ++ [])) (sym n.1) (goes_on_behind bytes held ms [] (Fault model.BadVersion) k (fault held model.BadVersion n.0))
after_answer bytes ms (Left held) now (Err BadKind) k n =
    subst (Known bytes (ms ++ [])) (sym n.1) (goes_on_behind bytes held ms [] (Fault model.BadKind) k (fault held model.BadKind n.0))
after_answer bytes ms (Left held) now (Err BadBody) k n =
    subst (Known bytes (ms ++ [])) (sym n.1) (goes_on_behind bytes held ms [] (Fault model.BadBody) k (fault held model.BadBody n.0))
after_answer bytes ms (Left held) now (Err OutOfMemory) k n = subst (Known bytes (ms ++ [])) (sym n.1) (subst (λ l. Behind bytes l held) (sym (append-nil ms)) k)
after_answer bytes ms (Fault f) now (Ok o) k n = absurd n
after_answer bytes ms (Fault f) now (Err e) k n =
    subst (Known bytes (ms ++ [])) (sym n.1) (subst (λ l. Stream bytes l (Fault f)) (sym (append-nil ms)) k)

known : (bytes : List ℕ) (ms : List Message) (end : StreamEnd) → History bytes ms end → Known bytes ms end
known _ _ _ new = none []
known _ _ _ (given bytes piece ms end h) = after_piece bytes piece ms end (known bytes ms end h)
known _ _ _ (asked bytes ms end now answer h n) = after_answer bytes ms end now answer (known bytes ms end h) n

-- What was answered and what is to come are the stream's.
pub answers_the_stream : (bytes : List ℕ) (ms ns : List Message) (now end : StreamEnd) → History bytes ms now → ToCome now ns end → Stream bytes (ms ++ ns) end
answers_the_stream bytes ms ns now end h t = by now (known bytes ms now h) t
  where
    by : (now : StreamEnd) → Known bytes ms now → ToCome now ns end → Stream bytes (ms ++ ns) end
    by (Left held) k t = goes_on_behind bytes held ms ns end k t
    by (Fault f) k t =
        subst (λ e. Stream bytes (ms ++ ns) e) (sym t.1)
        (subst (λ l. Stream bytes (ms ++ l) (Fault f)) (sym t.0) (subst (λ l. Stream bytes l (Fault f)) (sym (append-nil ms)) k))

-- Frames are read again.
pub reads_frames : (ms : List Message) → All IsMessage ms → Stream (concat (map frame ms)) ms (Left [])
reads_frames [] h = left [] (too_few [] (omega arith))
reads_frames (m ∷ ms) h =
    let rest = concat (map frame ms) in
    let first = All-head IsMessage m ms h in
    next (frame m ++ rest) rest m ms (Left []) (first, record { fits = message_fits m first; is = refl }) (reads_frames ms (All-tail IsMessage m ms h))
