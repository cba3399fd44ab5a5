-- What is answered of the bytes that went through a feed.
use Rattle.std.proofs.Common.{◌≡◌, ◌≢◌, ℕ, true, false, List, [], ◌++◌, Option, Some, None, Ok, Err, refl, sym, subst, ap, ◌∙◌, append_assoc, append-nil}
use Rattle.std.specs.Int.{w32, to_be_bytes}
use Rattle.std.specs.Io.KnownBytes.{Consumes}
use Rattle.std.proofs.KnownBytes.{Consumes-nil, Consumes-trans}
use Rattle.rapid_model.specs.Message.{Message}
use Rattle.rapid_model.specs.Frame.{framed}
use Rattle.rapid_model.specs.Feed.{StreamEnd, Left, Fault, IsIncomplete}
use Rattle.rapid_wire.specs.declared.fault.WireFault.{WireFault}
use Rattle.rapid_wire.specs.declared.fault.WireFault.TheVariants as wire
use Rattle.rapid_wire.specs.Feeding.{IsNext, fed}
use Rattle.rapid_transport.specs.declared.error.TransportError.{TransportError}
use Rattle.rapid_transport.specs.declared.error.TransportError.TheVariants.{PeerClosed, Io, Wire, QueueFull, OutOfMemory}
use Rattle.rapid_transport.specs.Errors.{of_fault}
use Rattle.rapid_transport.specs.Receiving.{Wants, Receives, Refills, IsUnderway}

pub fed_none : (s : StreamEnd) → fed s [] ≡ s
fed_none (Left h) = ap Left (append-nil h)
fed_none (Fault f) = refl

pub fed_more : (s : StreamEnd) (xs ys : List ℕ) → fed (fed s xs) ys ≡ fed s (xs ++ ys)
fed_more (Left h) xs ys = ap Left (append_assoc h xs ys)
fed_more (Fault f) xs ys = refl

-- If more is wanted of some bytes, more was wanted of their beginning.
incomplete_front : (h xs : List ℕ) → IsIncomplete (h ++ xs) → IsIncomplete h
incomplete_front h xs i = record {
  no_frame = λ whole rest b. i.no_frame whole (rest ++ xs) (record { fits = b.fits; is = ap (λ l. l ++ xs) b.is ∙ append_assoc (framed whole) rest xs });
  no_fault = λ t. i.no_fault (record { length = t.length; rest = t.rest ++ xs; above = t.above; below = t.below; is = ap (λ l. l ++ xs) t.is ∙ append_assoc (to_be_bytes w32 t.length) t.rest xs });
}

pub wants_front : (s : StreamEnd) (xs : List ℕ) → Wants (fed s xs) → Wants s
wants_front (Left h) xs w = (incomplete_front h xs w.0, refl)
wants_front (Fault f) xs w = absurd w

-- A feed that answers none stays as it is.
pub none_stays : (s new : StreamEnd) → IsNext s new (Ok None) → new ≡ s
none_stays (Left h) new n = n.1
none_stays (Fault f) new n = absurd n

pub none_wants : (s new : StreamEnd) → IsNext s new (Ok None) → Wants s
none_wants (Left h) new n = (n.0, refl)
none_wants (Fault f) new n = absurd n

-- Out of memory changes nothing in a feed.
short_stays : (s new : StreamEnd) → IsNext s new (Err wire.OutOfMemory) → new ≡ s
short_stays (Left h) new n = n.1
short_stays (Fault f) new n = absurd n.0

pub underway_first : (s : StreamEnd) (a : Option (List ℕ)) → IsUnderway s s a a
underway_first s a = record { taken = []; read = Consumes-nil a; feed = sym (fed_none s); wanted = λ n. absurd (n refl) }

module _ (old now : StreamEnd) (before left : Option (List ℕ)) (u : IsUnderway old now before left) where
  still_wants : Wants now → Wants old
  still_wants w = wants_front old u.taken (subst Wants u.feed w)

  pub underway_more : (next : StreamEnd) (later : Option (List ℕ)) → Wants now → Refills now next left later (Ok true) → IsUnderway old next before later
  underway_more next later w r = record {
    taken = u.taken ++ r.0;
    read = Consumes-trans before left later u.taken r.0 u.read r.1;
    feed = r.2 ∙ ap (λ s. fed s r.0) u.feed ∙ fed_more old u.taken r.0;
    wanted = λ n. still_wants w;
  }

  whole_read : (later : Option (List ℕ)) → Consumes left later [] → Consumes before later (u.taken ++ [])
  whole_read later c = Consumes-trans before left later u.taken [] u.read c

  unread : Consumes before left (u.taken ++ [])
  unread = subst (Consumes before left) (sym (append-nil u.taken)) u.read

  was_wanted : u.taken ++ [] ≢ [] → Wants old
  was_wanted n = u.wanted (λ e. n (append-nil u.taken ∙ e))

  -- The feed answered a message.
  pub receives_message : (new : StreamEnd) (m : Message) → IsNext now new (Ok (Some m)) → Receives old new before left (Ok (Some m))
  receives_message new m n = record {
    taken = u.taken;
    lost = [];
    read = unread;
    loses = refl;
    wanted = was_wanted;
    answers = subst (λ s. IsNext s new (Ok (Some m))) u.feed n;
  }

  -- The feed answered a fault.
  pub receives_fault : (new : StreamEnd) (f : WireFault) → IsNext now new (Err f) → Receives old new before left (Err (of_fault f))
  receives_fault new wire.TooLong n = record { taken = u.taken; lost = []; read = unread; loses = refl; wanted = was_wanted; answers = (subst (λ s. IsNext s new (Err wire.TooLong)) u.feed n, tt) }
  receives_fault new wire.BadVersion n = record { taken = u.taken; lost = []; read = unread; loses = refl; wanted = was_wanted; answers = (subst (λ s. IsNext s new (Err wire.BadVersion)) u.feed n, tt) }
  receives_fault new wire.BadKind n = record { taken = u.taken; lost = []; read = unread; loses = refl; wanted = was_wanted; answers = (subst (λ s. IsNext s new (Err wire.BadKind)) u.feed n, tt) }
  receives_fault new wire.BadBody n = record { taken = u.taken; lost = []; read = unread; loses = refl; wanted = was_wanted; answers = (subst (λ s. IsNext s new (Err wire.BadBody)) u.feed n, tt) }
  receives_fault new wire.OutOfMemory n = record { taken = u.taken; lost = []; read = unread; loses = tt; wanted = was_wanted; answers = short_stays now new n ∙ u.feed }

  -- The device failed, or there was no memory.
  pub receives_failure : (new : StreamEnd) (later : Option (List ℕ)) (e : TransportError) → Wants now → Refills now new left later (Err e) → Receives old new before later (Err e)
  receives_failure new later PeerClosed w r = absurd r
  receives_failure new later Io w r = record {
    taken = u.taken;
    lost = [];
    read = whole_read later r.0;
    loses = refl;
    wanted = was_wanted;
    answers = (subst Wants u.feed w, r.1 ∙ u.feed);
  }
  receives_failure new later (Wire f) w r = absurd r
  receives_failure new later QueueFull w r = absurd r
  receives_failure new later OutOfMemory w r = record {
    taken = u.taken;
    lost = r.0;
    read = Consumes-trans before left later u.taken r.0 u.read r.1;
    loses = tt;
    wanted = λ n. still_wants w;
    answers = r.2 ∙ u.feed;
  }

  -- The input has ended between frames.
  pub receives_end : (new : StreamEnd) (later : Option (List ℕ)) → Refills now new left later (Ok false) → new ≡ Left [] → Receives old new before later (Ok None)
  receives_end new later r e = record {
    taken = u.taken;
    lost = [];
    read = whole_read later r.0;
    loses = refl;
    wanted = was_wanted;
    answers = (r.1, sym (r.2 ∙ u.feed) ∙ e, r.2 ∙ u.feed);
  }

  -- The input has ended within a frame.
  pub receives_cut : (new : StreamEnd) (later : Option (List ℕ)) → Wants now → Refills now new left later (Ok false) → new ≢ Left [] → Receives old new before later (Err PeerClosed)
  receives_cut new later w r n = record {
    taken = u.taken;
    lost = [];
    read = whole_read later r.0;
    loses = refl;
    wanted = was_wanted;
    answers = (r.1, subst Wants u.feed w, λ e. n (r.2 ∙ u.feed ∙ e), r.2 ∙ u.feed);
  }
