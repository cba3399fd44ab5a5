-- Packets and the frames of their messages.
use Rattle.std.proofs.Common.{◌≡◌, ℕ, zero, suc, ◌-◌, Bool, true, false, cond, ◌==◌, List, [], ◌∷◌, ◌++◌, map, slice_get, refl, sym, ap, subst, ◌∙◌, Option, Some, None}
use Rattle.std.specs.Prelude.{All, flat_map, is_some, nat_eq}
use Rattle.std.specs.Cmp.Lexicographic.{pointwise, same_text}
use Rattle.std.specs.Option.{option_map}
use Rattle.std.proofs.lemmas.List.{map-append}
use Rattle.std.proofs.lemmas.List.Elements.{All-nil, All-cons, All-head, All-tail, All-append}
use Rattle.std.proofs.lemmas.Option.{slice_get-map}
use Rattle.rapid_model.specs.Bytes.{Endpoint}
use Rattle.rapid_model.specs.Process.{Process, endpoint}
use Rattle.rapid_model.specs.Message.{Message}
use Rattle.rapid_model.specs.Frame.{IsMessage, IsFrame, frame}
use Rattle.rapid_model.specs.Node.{Destination, To, Others, Itself, Output}
use Rattle.rapid_model.specs.Packets.{packets_of, packets_to, packet_to}
use Rattle.rapid_model.specs.World.{World, Packet, packet, can_receive, running_at}
use Rattle.rapid_world.specs.Framed.{FramedPacket, framed_packet, framed_output, HasFrame, CanBeFramed, frame_to, output_to, frames_to, frames_of, IsFrameOf}
use Rattle.rapid_model.specs.Node.{Event, Receive}
use Rattle.rapid_world.specs.Arrivals.{Brings, IsReadFrom}
use Rattle.rapid_world.specs.Sent.{numbered_packet}

-- ---- what goes out

-- an output whose bytes are its message's frame
pub framed_is : (o : Output) (to : Destination) (bytes : List ℕ) (m : Message) → to ≡ o.to → m ≡ o.message → IsFrame bytes m → output_to bytes to ≡ framed_output o
unfolding framed_output
framed_is o to bytes m goes says h = ap (output_to bytes) goes ∙ ap (λ (b : List ℕ). output_to b o.to) (h.1 ∙ ap frame says)

-- equal bytes
pub same_frame : (xs ys : List ℕ) (b : Bool) → b ≡ pointwise nat_eq xs ys → b ≡ true → xs ≡ ys
same_frame xs ys b e t = same_text xs ys (sym t ∙ e)

pub can_be_framed : (o : Output) (bytes : List ℕ) (m : Message) → m ≡ o.message → IsFrame bytes m → CanBeFramed o
can_be_framed o bytes m says h = subst IsMessage says h.0

to_others : (m : Message) (rs : List Process) → map (λ p. frame_to (frame m) (endpoint p)) rs ≡ map framed_packet (map (λ p. packet_to m (endpoint p)) rs)
unfolding framed_packet
to_others m [] = refl
to_others m (r ∷ rs) = ap (λ l. frame_to (frame m) (endpoint r) ∷ l) (to_others m rs)

to_each : (rs : List Process) (m : Message) (to : Destination) → frames_to rs (frame m) to ≡ map framed_packet (packets_to rs m to)
unfolding framed_packet
to_each rs m (To e) = refl
to_each rs m Others = to_others m rs
to_each rs m Itself = refl

one_output : (rs : List Process) (o : Output) → frames_of rs (framed_output o) ≡ map framed_packet (packets_of rs o)
unfolding framed_output
one_output rs o = to_each rs o.message o.to

-- the packets of framed outputs are the framed packets of the outputs
pub frames_are : (rs : List Process) (os : List Output) → flat_map (frames_of rs) (map framed_output os) ≡ map framed_packet (flat_map (packets_of rs) os)
frames_are rs [] = refl
frames_are rs (o ∷ os) =
    ap (λ l. frames_of rs (framed_output o) ++ l) (frames_are rs os)
    ∙ ap (λ l. l ++ map framed_packet (flat_map (packets_of rs) os)) (one_output rs o)
    ∙ sym (map-append framed_packet (packets_of rs o) (flat_map (packets_of rs) os))

each_framed : (rs : List Process) (m : Message) → IsMessage m → All HasFrame (map (λ p. packet_to m (endpoint p)) rs)
each_framed [] m h = All-nil HasFrame
each_framed (r ∷ rs) m h = All-cons HasFrame (packet_to m (endpoint r)) (map (λ p. packet_to m (endpoint p)) rs) h (each_framed rs m h)

output_framed : (rs : List Process) (m : Message) (to : Destination) → IsMessage m → All HasFrame (packets_to rs m to)
output_framed rs m (To e) h = All-cons HasFrame (packet_to m e) [] h (All-nil HasFrame)
output_framed rs m Others h = each_framed rs m h
output_framed rs m Itself h = All-nil HasFrame

-- and each has a frame
pub have_frames : (rs : List Process) (os : List Output) → All CanBeFramed os → All HasFrame (flat_map (packets_of rs) os)
have_frames rs [] h = All-nil HasFrame
have_frames rs (o ∷ os) h =
    All-append HasFrame (packets_of rs o) (flat_map (packets_of rs) os) (output_framed rs o.message o.to (All-head CanBeFramed o os h)) (have_frames rs os (All-tail CanBeFramed o os h))

-- ---- what is kept

frame_kept : {A : Type 0} (f : A → Endpoint) (g : A → List ℕ) (o : Option Packet) (r : Option A) → option_map (λ x. frame_to (g x) (f x)) r ≡ option_map framed_packet o → ((p : Packet) → o ≡ Some p → HasFrame p) →
    IsFrameOf o (option_map (λ x. (f x, g x)) r)
unfolding framed_packet
frame_kept f g None None e h = tt
frame_kept f g None (Some x) e h = absurd cc
frame_kept f g (Some p) None e h = absurd cc
frame_kept f g (Some p) (Some x) e h =
    let same : frame_to (g x) (f x) ≡ framed_packet p = cc in
    (ap (λ (q : FramedPacket). q.to) same, (h p refl, ap (λ (q : FramedPacket). q.bytes) same))

framed_at : (ps : List Packet) (i : ℕ) (p : Packet) → All HasFrame ps → slice_get ps i ≡ Some p → HasFrame p
framed_at [] i p h e = absurd cc
framed_at (q ∷ ps) zero p h e = let same : q ≡ p = cc in subst HasFrame same (All-head HasFrame q ps h)
framed_at (q ∷ ps) (suc i) p h e = framed_at ps i p (All-tail HasFrame q ps h) e

-- the frame of the packet of a number
pub frame_of_packet : {A : Type 0} (f : A → Endpoint) (g : A → List ℕ) (w : World) (sent : List FramedPacket) (k : ℕ) (r : Option A) → sent ≡ map framed_packet w.packets → All HasFrame w.packets →
    option_map (λ x. frame_to (g x) (f x)) r ≡ numbered_packet sent k → IsFrameOf (packet w k) (option_map (λ x. (f x, g x)) r)
frame_of_packet f g w sent k r same framed found = by (k == 0) (found ∙ ap (λ (l : List FramedPacket). numbered_packet l k) same)
  where
    by : (b : Bool) → option_map (λ x. frame_to (g x) (f x)) r ≡ cond b None (slice_get (map framed_packet w.packets) (k - 1)) → IsFrameOf (cond b None (slice_get w.packets (k - 1))) (option_map (λ x. (f x, g x)) r)
    by true e = frame_kept f g None r e (λ p i. absurd cc)
    by false e = frame_kept f g (slice_get w.packets (k - 1)) r (e ∙ slice_get-map framed_packet w.packets (k - 1)) (λ p i. framed_at w.packets (k - 1) p framed i)

-- there is such a packet
pub packet_there : (o : Option Packet) (to : Endpoint) (bytes : List ℕ) → IsFrameOf o (Some (to, bytes)) → (p : Packet) × (o ≡ Some p) × (to ≡ p.to) × IsFrame bytes p.message
packet_there None to bytes h = absurd h
packet_there (Some p) to bytes h = (p, refl, h.0, h.1)

pub packet_not_there : (o : Option Packet) → IsFrameOf o None → o ≡ None
packet_not_there None h = refl
packet_not_there (Some p) h = absurd h

-- and whether it can be received
pub can_be_received : (w : World) (o : Option Packet) (to : Endpoint) (bytes : List ℕ) → IsFrameOf o (Some (to, bytes)) → is_some (running_at w to) ≡ can_receive w o
can_be_received w None to bytes h = absurd h
can_be_received w (Some p) to bytes h = ap (λ e. is_some (running_at w e)) h.0

pub cannot_be_received : (w : World) (o : Option Packet) → IsFrameOf o None → false ≡ can_receive w o
cannot_be_received w None h = refl
cannot_be_received w (Some p) h = absurd h

-- ---- what is read of a packet's frame

numbered_is : (w : World) (k : ℕ) → numbered_packet (map framed_packet w.packets) k ≡ option_map framed_packet (packet w k)
numbered_is w k = by (k == 0)
  where
    by : (b : Bool) → cond b None (slice_get (map framed_packet w.packets) (k - 1)) ≡ option_map framed_packet (cond b None (slice_get w.packets (k - 1)))
    by true = refl
    by false = slice_get-map framed_packet w.packets (k - 1)

-- what is read from the frame of a packet
pub brings_read : (w : World) (k : ℕ) (to : Endpoint) (bytes : List ℕ) (e : Event) → IsFrameOf (packet w k) (Some (to, bytes)) → IsReadFrom bytes e → Brings (map framed_packet w.packets) k e
unfolding framed_packet
brings_read w k to bytes e h reads q is = by (packet w k) refl h
  where
    by : (o : Option Packet) → packet w k ≡ o → IsFrameOf o (Some (to, bytes)) → IsReadFrom q.bytes e
    by None i h = absurd h
    by (Some p) i h =
        let same : framed_packet p ≡ q = let j = sym (numbered_is w k ∙ ap (option_map framed_packet) i) ∙ is in cc in
        subst (λ (l : List ℕ). IsReadFrom l e) (h.1.1 ∙ ap (λ (x : FramedPacket). x.bytes) same) reads

-- is its message
pub brings_message : (w : World) (k : ℕ) (p : Packet) (e : Event) → Brings (map framed_packet w.packets) k e → packet w k ≡ Some p → HasFrame p → e ≡ Receive p.message
unfolding framed_packet
brings_message w k p e h is framed = h (framed_packet p) (numbered_is w k ∙ ap (option_map framed_packet) is) p.message (framed, refl)
