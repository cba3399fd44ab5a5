-- Worlds, their runs and what is said of them: the names that proofs of this crate cite.
pub use Rattle.rapid_model.specs.World.{Act, Crash, Crashed, Deliver, Did, Entry, HasHalted, Installed, Leave, MarkedEvent, Packet, Peer, Probe, Probed, Start, Tick, Ticked, Took, World, WorldEvent, has_endpoint, has_identifier, is_running, observed, observed_in, packet, running_at, running_under}
pub use Rattle.rapid_model.specs.WorldStep.{acts_of, added, by_event, crashed, deliver, edge_on, edges_after, entry, halted, install_acts, message_at, moved, noted, probes, settled, started, told, with_edge, with_found, with_peer}
unfoldable pub use Rattle.rapid_model.specs.WorldStep.{hands, windows_in, world_step}
pub use Rattle.rapid_model.specs.Refusal.{WorldRefusal, refusal}
pub use Rattle.rapid_model.specs.Run.{founded, run}
pub use Rattle.rapid_model.specs.History.{Received, Sent, SentAlert, acts_in, alerts_said, first_of, installed_by, installed_of, installs, is_act_in, proposed, proposed_by, received, result_on, results, said_by, sent, taken_by}
pub use Rattle.rapid_model.specs.Chosen.{Chosen, Voted, said_about}
pub use Rattle.rapid_model.specs.FastPaxos.{IsChosenAt, IsLastVote, IsQuorumAt, KeepsRules, MayAccept, VotesOwn}
pub use Rattle.rapid_model.specs.Justified.{HasCause, IsEchoed, IsJustified, IsUnstableThrough, alerts_taken, batch_in, batches_in, is_tick, taken_of, was_unstable}
pub use Rattle.rapid_model.specs.Packets.{other_members, packet_to, packets_of, packets_to}
pub use Rattle.rapid_model.specs.Prompt.{HeardDecision, HeardFromEach, Prompt, by_message, by_notices, by_votes}
pub use Rattle.rapid_model.specs.Agreement.{Agreement, EachChange, IsAgreed, IsLine, IsReportedEnough, IsStretchOf, IsSupport, IsSupported, Line, NoCollision, SameNext, line_from}
pub use Rattle.rapid_model.specs.RunFacts.{AcceptsExclude, AcceptsLawful, AcceptsOnce, AlertsJustified, AsksOnce, ConfirmsInstalled, DecisionsChosen, DecisionsInstalled, HasInstalled, HasLeft, InstallsRise, IsNext, MembersSpeak, OneChosen, SaidIn, SpokenAsMembers, VotesOnce, asks_at, belongs_to, is_asked_in}
pub use Rattle.rapid_model.specs.RunHolds.{RunHolds}
