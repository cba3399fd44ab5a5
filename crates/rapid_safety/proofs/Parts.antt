-- The parts of a member: the names that proofs of this crate cite.
pub use Rattle.rapid_model.specs.Edge.{Edge, HasDownStretch, edge_after, fresh_edge, probed}
pub use Rattle.rapid_model.specs.Monitors.{Monitors, edge_at}
pub use Rattle.rapid_model.specs.Outbox.{OldConfiguration, Outbox, Raised, Raising, WrongObserver, after_raising, empty_outbox, flush, has_room, is_own, raise, resend, unflushed}
pub use Rattle.rapid_model.specs.Reports.{Includes, IsClosed, IsLeastClosed, Report, Reports, cut_if, cut_of, direct_reports, is_implied, is_stable, is_unstable, reaches_low, report_cmp, report_of, reports, stable, tally, unstable}
unfoldable pub use Rattle.rapid_model.specs.Reports.{subjects}
pub use Rattle.rapid_model.specs.Detector.{Detector, batch_taken, direct_after, empty_detector, is_taken, taken, with_alerts}
unfoldable pub use Rattle.rapid_model.specs.Detector.{after_batch, batch_cut}
pub use Rattle.rapid_model.specs.FastRound.{FastRound, count_of, fresh_round, hear_vote, one_more}
unfoldable pub use Rattle.rapid_model.specs.FastRound.{fast_decision}
pub use Rattle.rapid_model.specs.Acceptor.{Acceptor, AcceptorRefusal, Promised, fresh_acceptor, has_voted_at}
unfoldable pub use Rattle.rapid_model.specs.Acceptor.{accept_answer, accepts, after_accept, after_promise, promise_answer}
pub use Rattle.rapid_model.specs.Coordinator.{Coordinator, begun, counts_promise, fresh_coordinator, is_ballot, last_round, next_round, value_by, value_of}
unfoldable pub use Rattle.rapid_model.specs.Coordinator.{accept_cut, after_report, next_ballot}
pub use Rattle.rapid_model.specs.Learner.{Learner, Notice, completes_notices, fresh_learner, notice_cmp, notice_count, notices_with}
unfoldable pub use Rattle.rapid_model.specs.Learner.{after_notice, learnt}
pub use Rattle.rapid_model.specs.Host.{Confirms, HostAnswer, Nothing, Raises, Replies, is_full_for, observers_for, pending_after}
unfoldable pub use Rattle.rapid_model.specs.Host.{confirms, join_request, pre_join}
pub use Rattle.rapid_model.specs.Joiner.{Joiner, after_tick, asks_at_tick, fresh_joiner, requests_from, sent_at_reply}
