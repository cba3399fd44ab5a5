-- A node and its steps: the names that proofs of this crate cite.
pub use Rattle.rapid_model.specs.Node.{Decisions, Destination, EdgeDown, Effect, Event, Halted, Itself, Joining, Leave, Member, MemberState, Node, Others, Outcome, Output, Phase, Proposes, Receive, Removed, Says, Tick, To, configuration_of, halt, has_installed, joiner_node, member_config, member_in, output_of, outputs, place, seed_node, shown_in}
unfoldable pub use Rattle.rapid_model.specs.Node.{fresh_member}
pub use Rattle.rapid_model.specs.Member.{Work, after_effects, alert_on, and_then, at_position, current_id, give_promise, leave_to, own_place, removal_of, says, still, take_accepted, take_leave, take_vote, then_if, vote_seen}
unfoldable pub use Rattle.rapid_model.specs.Member.{cast_vote, farewells, propose, raise_alert, send_accept, take_accept, take_batch, take_prepare, take_promise}
pub use Rattle.rapid_model.specs.Tick.{age_of, begin_at, clock_moved, echo, echoes, is_due, next_ages, raise_all, vote_again}
unfoldable pub use Rattle.rapid_model.specs.Tick.{aged, batch_tick, on_tick, quiet_tick, recovers, repeats, send_alerts, sends_batch, unstable_now}
pub use Rattle.rapid_model.specs.Receive.{answer_to, catch_up, decided_in, decision_to, host_work, is_about, joins_on, raise_join, replied, sends, take_or_catch_up}
unfoldable pub use Rattle.rapid_model.specs.Receive.{receive_as_joiner, receive_as_member, take}
pub use Rattle.rapid_model.specs.NodeStep.{idle, is_history_full, last_64, phase_in, put_before, question_to, settle_at, stays_member, step_edge_down, step_leave, step_receive, step_tick}
unfoldable pub use Rattle.rapid_model.specs.NodeStep.{install, node_step, settle}
