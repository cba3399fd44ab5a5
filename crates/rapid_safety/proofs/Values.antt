-- What processes exchange and agree on: the names that proofs of this crate cite.
pub use Rattle.rapid_model.specs.Process.{IsProcess, Process, ProcessSet, bytes_cmp, endpoint, identifier, is_in, process_cmp, same_bytes, same_endpoint, same_identifier}
pub use Rattle.rapid_model.specs.Cut.{Cut, cut_cmp, same_cut}
pub use Rattle.rapid_model.specs.Configuration.{AreMembers, AreParams, Configuration, Stamp, founding, identifiers_ascend, is_member, position_of, same_configuration, stamp}
unfoldable pub use Rattle.rapid_model.specs.Configuration.{configuration_id}
pub use Rattle.rapid_model.specs.Apply.{collides, insert_process, with_joiners}
unfoldable pub use Rattle.rapid_model.specs.Apply.{apply}
pub use Rattle.rapid_model.specs.Ring.{Observers, observes, ring_observer, rings, subject_on}
unfoldable pub use Rattle.rapid_model.specs.Ring.{observers_of, ring_key}
pub use Rattle.rapid_model.specs.Alert.{Alert, Join, Kind, Remove, is_well_formed, kind_fits, kind_for, same_alert}
pub use Rattle.rapid_model.specs.Ballot.{Ballot, Before, UpTo, Vote, ballot_cmp, fast_ballot, is_below, same_ballot}
pub use Rattle.rapid_model.specs.Quorum.{IsClassic, IsFast, classic_size, fast_size, size}
pub use Rattle.rapid_model.specs.Message.{Accept, Accepted, AlertItem, Answer, Batch, Body, ConfigurationChanged, Confirm, Decision, EndpointInUse, FastVote, JoinRequest, Leave, Message, PreJoin, Prepare, Probe, ProbeAck, Promise, Reply, Safe, TooManyJoiners, batch_alerts, caught_up_by, item_of}
