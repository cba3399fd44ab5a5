-- The numbers of the service, each once. Positions take ten bits and counts on the wire two bytes; the rest is chosen
-- so that a process, whatever its peers send, keeps a bounded amount.
use Rattle.std.specs.Prelude.{ℕ}

-- How many members a configuration has at most: positions in ballots are below it.
abbrev pub most_members : ℕ
most_members = 1024

-- How many joiners wait at a host, are known to an outbox or are taken by a detector at most.
abbrev pub most_joiners : ℕ
most_joiners = 512

-- How many processes a cut has at most: all members and all joiners.
abbrev pub most_in_cut : ℕ
most_in_cut = 1536

-- How many alerts a batch has at most, so that its frame is within the longest.
abbrev pub most_alerts : ℕ
most_alerts = 2048

-- How many rings there are at most: a subject's rings are the bits of a word of sixteen.
abbrev pub most_rings : ℕ
most_rings = 16

-- The last round of a classic ballot: a round is one byte.
abbrev pub most_rounds : ℕ
most_rounds = 250

-- How many of an edge's last results its window keeps.
abbrev pub probe_window : ℕ
probe_window = 10

-- How many of these failed if the edge goes down.
abbrev pub down_failures : ℕ
down_failures = 4

-- How many decisions are kept for those who are behind.
abbrev pub kept_decisions : ℕ
kept_decisions = 64

-- How many views a node installs at most.
abbrev pub most_views : ℕ
most_views = 65536

-- How many events a world accepts at most.
abbrev pub most_events : ℕ
most_events = 1000000

-- How many entries the journal of a desk has at most.
abbrev pub most_entries : ℕ
most_entries = 65536

-- How many bytes a frame has at most, after those of its length.
abbrev pub longest_frame : ℕ
longest_frame = 2097152

-- How many bytes a line of an input has at most.
abbrev pub longest_line : ℕ
longest_line = 256

-- Every this many ticks the vote and the alerts are sent once more.
abbrev pub resend_period : ℕ
resend_period = 20

-- How many ticks longer than the one before it each member waits until it begins a classic ballot.
abbrev pub recovery_step : ℕ
recovery_step = 4

-- Every this many ticks a joiner asks once more.
abbrev pub question_period : ℕ
question_period = 10

-- After this many ticks at which it was unstable, a process is echoed.
abbrev pub echo_age : ℕ
echo_age = 40

-- How many seats a published view has at most: each is for one thread that reads.
abbrev pub most_seats : ℕ
most_seats = 64

-- How many subscriptions a desk serves at most, and how many views may wait at one.
abbrev pub most_subscriptions : ℕ
most_subscriptions = 64

abbrev pub most_waiting_views : ℕ
most_waiting_views = 1024

-- How many watchers the edges that threads share have at most.
abbrev pub most_watchers : ℕ
most_watchers = 64

-- In how many parts, each for a thread, a running node probes at most.
abbrev pub most_probers : ℕ
most_probers = 16

-- Every this many ticks a running node begins a round of probes.
abbrev pub probe_period : ℕ
probe_period = 10

-- How many messages a running node remembers at most, the last of each sender and kind: of members, and of others.
abbrev pub most_kept_of_members : ℕ
most_kept_of_members = 2048

abbrev pub most_kept_of_others : ℕ
most_kept_of_others = 4096

-- From this many entries on, a running node begins its journal anew.
abbrev pub long_journal : ℕ
long_journal = 512

-- How many notes of a running node wait to be reported at most.
abbrev pub most_notes : ℕ
most_notes = 64

-- How many bytes of lines wait to be printed by a running node at most.
abbrev pub most_unprinted : ℕ
most_unprinted = 1048576

-- How many frames wait for one sender at most, how many connections it keeps open, and how many peers that were too
-- slow it remembers.
abbrev pub most_waiting_frames : ℕ
most_waiting_frames = 4096

abbrev pub most_connections : ℕ
most_connections = 64

abbrev pub most_slow_peers : ℕ
most_slow_peers = 1024

-- How many incoming connections a running node reads at most.
abbrev pub most_readers : ℕ
most_readers = 256

-- How many clerks drive a simulated cluster at most, each in a thread of its own.
abbrev pub most_clerks : ℕ
most_clerks = 32

-- How many lines `edge` the input of `detect` has at most, and how many alerts one of its batches.
abbrev pub most_edge_lines : ℕ
most_edge_lines = 16384

abbrev pub most_batch_lines : ℕ
most_batch_lines = 16384

-- How often one line of `sim` repeats an event at most.
abbrev pub most_repeats : ℕ
most_repeats = 1000

-- How many packets one `flow` of `sim` settles at most.
abbrev pub most_in_flow : ℕ
most_in_flow = 10000
