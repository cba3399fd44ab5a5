-- Clauses of public calls cite this file.
-- The frames that a service posts for what its node says.
use Rattle.std.specs.Prelude.{◌≡◌, ◌⊎◌, ℕ, not, List, ◌++◌, map, filter, flat_map, Option}
use Rattle.std.specs.Option.{option_to_list}
use Rattle.rapid_model.specs.Bytes.{Endpoint, Text}
use Rattle.rapid_model.specs.Process.{Process, endpoint, same_bytes}
use Rattle.rapid_model.specs.Configuration.{Configuration}
use Rattle.rapid_model.specs.Frame.{frame}
use Rattle.rapid_model.specs.Node.{Event, Output}
use Rattle.rapid_model.specs.Packets.{other_members, packets_of}
use Rattle.rapid_model.specs.World.{Packet}
use Rattle.rapid_desk.specs.States.{DeskState}
use Rattle.rapid_desk.specs.Desks.{DeskValue}
use Rattle.rapid_service.specs.Entering.{Views, after_entering, installed_by, views_of}
use Rattle.rapid_service.specs.Stepping.{HasStepped, AllInTurn, OneFails}
use Rattle.rapid_service.specs.declared.present.Present.{Present}

-- A frame on its way: the endpoint to which it goes, and its bytes.
abbrev pub Posting : Type 0
Posting = Endpoint × List ℕ

-- The packet, with the frame of its message.
abbrev pub posting_of : Packet → Posting
posting_of p = (p.to, frame p.message)

-- The frames of what a node says: one for each of its packets, in order. What goes to the others goes to the other
-- members of this view, and to nobody without a view.
abbrev pub postings : Option Configuration → Process → List Output → List Posting
postings view me sent = map posting_of (flat_map (packets_of (other_members view me)) sent)

-- A frame to each of these, in order.
abbrev pub to_each : List ℕ → List Process → List Posting
to_each bytes ps = map (λ p. (endpoint p, bytes)) ps

-- These processes but for one.
abbrev pub all_but : Process → List Process → List Process
all_but me ps = filter (λ p. not (same_bytes p me)) ps

-- Those who are there.
abbrev pub present_in : List (Option Process) → List Process
present_in ps = flat_map option_to_list ps

-- The first of these frames were posted, from one state up to another, and nothing else.
abbrev pub PostsSome : {P : Type 0} → (P → List Posting → P → Type 0) → P → List Posting → P → Type 0
PostsSome {P} has_posted old all new = (some : List Posting) × (rest : List Posting) × (all ≡ some ++ rest) × has_posted old some new

-- Where a service stands between two steps: the state of its desk, its views, and what takes its frames.
pub record Standing (P : Type 0) : Type 0 where
  pub desk : DeskState
  pub views : Views
  pub post : P

-- A service with this desk, these lines, this view, and what takes its frames.
abbrev pub stands : {P : Type 0} → DeskValue → Text → Option Present → P → Standing P
stands desk lines present post = record { desk = desk.state; views = views_of lines present; post = post }

-- The desk made a step with this event. Just the frames of what its node says then were posted, by the view before.
-- What the node installed, if anything, is the view that was entered.
pub record SaysAt {P : Type 0} (has_posted : P → List Posting → P → Type 0) (me : Process) (old : Standing P) (event : Event) (new : Standing P) : Type 0 where
  pub sent : List Output
  pub stepped : HasStepped old.desk event new.desk sent
  pub posted : has_posted old.post (postings old.views.view me sent) new.post
  pub entered : new.views ≡ after_entering old.views (installed_by old.desk.node new.desk.node)

-- The event failed. Nothing was posted, or the desk made a step, and the first of what its node says then was posted.
abbrev pub SaysSome : {P : Type 0} → (P → List Posting → P → Type 0) → Process → Standing P → Event → Standing P → Type 0
SaysSome {P} has_posted me old event new =
    (new.post ≡ old.post) ⊎ ((sent : List Output) × HasStepped old.desk event new.desk sent × PostsSome has_posted old.post (postings old.views.view me sent) new.post)

-- So with each of these events, in order. Then these frames were posted, and nothing else.
abbrev pub SaysAll : {P : Type 0} → (P → List Posting → P → Type 0) → Process → Standing P → List Event → List Posting → Standing P → Type 0
SaysAll {P} has_posted me old events probes new =
    (between : P) × AllInTurn (SaysAt has_posted me) old events (record new { post = between }) × has_posted between probes new.post

-- One of these events failed, behind those before it. Or none did, and the first of these frames were posted.
abbrev pub SaysFirst : {P : Type 0} → (P → List Posting → P → Type 0) → Process → Standing P → List Event → List Posting → Standing P → Type 0
SaysFirst {P} has_posted me old events probes new =
    OneFails (SaysAt has_posted me) (SaysSome has_posted me) old events new
    ⊎ ((between : P) × AllInTurn (SaysAt has_posted me) old events (record new { post = between }) × PostsSome has_posted between probes new.post)
