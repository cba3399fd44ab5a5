-- Which work of a member sends nothing.
use Rattle.std.proofs.Common.{◌≡◌, ℕ, ◌%◌, Bool, true, false, cond, ◌==◌, List, [], refl, sym, ap, subst, ◌∙◌, Option, Some, None}
use Rattle.rapid_model.proofs.Orders.{same_bytes_decides}
use Rattle.rapid_model.specs.Limits.{resend_period}
use Rattle.rapid_model.specs.Bytes.{ConfigurationId}
use Rattle.rapid_model.specs.Process.{Process}
use Rattle.rapid_model.specs.Alert.{Alert}
use Rattle.rapid_model.specs.Configuration.{position_of}
use Rattle.rapid_model.specs.Cut.{Cut}
use Rattle.rapid_model.specs.Ring.{observers_of}
use Rattle.rapid_model.specs.Reports.{unstable}
use Rattle.rapid_model.specs.Outbox.{unflushed, resend}
use Rattle.rapid_model.specs.FastRound.{fast_decision}
use Rattle.rapid_model.specs.Message.{Body, FastVote, caught_up_by}
use Rattle.rapid_model.specs.Node.{MemberState, Decisions}
use Rattle.rapid_model.specs.Member.{Work, still, and_then, after_effects, current_id, at_position, take_vote}
use Rattle.rapid_model.specs.Receive.{take, receive_as_member, take_or_catch_up, sends, catch_up}
use Rattle.rapid_model.specs.Tick.{clock_moved, next_ages, unstable_now, aged, echo, repeats, vote_again, sends_batch, send_alerts, begin_at, is_due, recovers, quiet_tick, batch_tick, on_tick}
use Rattle.rapid_model.specs.Coordinator.{next_ballot}
use Rattle.rapid_member.specs.Quiet.{SaysNothing}

-- the member after a tick at which nothing is due
abbrev calm : MemberState → MemberState
calm s = record (clock_moved s) { ages = next_ages s.ages [] }

ages_only : (s : MemberState) → unstable (observers_of s.config) s.detector.direct ≡ [] → aged (clock_moved s) ≡ calm s
unfolding aged unstable_now
ages_only s e = ap (λ us. echo (record (clock_moved s) { ages = next_ages s.ages us }) us) e

repeats_nothing : (s : MemberState) → (s.tick % resend_period == 0) ≡ false → repeats s ≡ still s
unfolding repeats
repeats_nothing s e =
    let s' : MemberState = record s { outbox = resend s.outbox } in
    ap (λ b. cond b (cond s.voted (vote_again s' s.proposal) (still s')) (still s)) e

sends_nothing : (s : MemberState) → unflushed s.outbox ≡ [] → sends_batch s ≡ still s
unfolding sends_batch send_alerts
sends_nothing s e = ap (send_alerts s) e

begins_nothing : (s : MemberState) → is_due s s.first_vote ≡ false → recovers s ≡ still s
unfolding recovers
begins_nothing s e = ap (λ b. cond b (begin_at s (next_ballot s.coordinator s.acceptor.rnd)) (still s)) e

-- work after work that does nothing
after_still : (s : MemberState) (f : MemberState → Work) → f s ≡ still s → and_then (still s) f ≡ still s
after_still s f e = ap (after_effects []) e

-- a tick at which nothing is unstable, nothing waits and nothing is due
pub tick_says_nothing : (s : MemberState) → unstable (observers_of s.config) s.detector.direct ≡ [] → unflushed s.outbox ≡ [] → ((clock_moved s).tick % resend_period == 0) ≡ false →
    is_due (clock_moved s) s.first_vote ≡ false → SaysNothing (on_tick s)
unfolding on_tick batch_tick quiet_tick
tick_says_nothing s steady flushed repeat due =
    let t : MemberState = calm s in
    let quiet : quiet_tick s ≡ still t = ap repeats (ages_only s steady) ∙ repeats_nothing t repeat in
    let batch : batch_tick s ≡ still t = ap (λ w. and_then w sends_batch) quiet ∙ after_still t sends_batch (sends_nothing t flushed) in
    let all : on_tick s ≡ still t = ap (λ w. and_then w recovers) batch ∙ after_still t recovers (begins_nothing t due) in
    subst SaysNothing (sym all) (record { effects = refl; decided = refl })

-- a fast vote that cannot decide
takes_vote : (s : MemberState) (v : Cut) (o : Option ℕ) → ((p : ℕ) (v : Cut) → fast_decision s.fast p v ≡ None) → SaysNothing (at_position s o (λ p. take_vote s p v))
takes_vote s v None h = record { effects = refl; decided = refl }
takes_vote s v (Some p) h = record { effects = refl; decided = h p v }

pub vote_says_nothing : (ds : Decisions) (s : MemberState) (from : Process) (id : ConfigurationId) (v : Cut) → id ≡ current_id s → ((p : ℕ) (v : Cut) → fast_decision s.fast p v ≡ None) →
    SaysNothing (receive_as_member ds s from (FastVote id v))
unfolding receive_as_member take
vote_says_nothing ds s from id v same h =
    let own = (same_bytes_decides id (current_id s)).1 same in
    let is : take_or_catch_up ds s from (FastVote id v) ≡ take s from (FastVote id v) = ap (λ b. cond b (take s from (FastVote id v)) (sends s (catch_up ds from (Some id)))) own in
    subst SaysNothing (sym is) (takes_vote s v (position_of s.config from) h)

-- the same of the body of a message
pub message_says_nothing : (s : MemberState) (from : Process) (b : Body) (id : ConfigurationId) (v : Cut) → b ≡ FastVote id v → id ≡ current_id s → ((p : ℕ) (v : Cut) → fast_decision s.fast p v ≡ None) →
    (ds : Decisions) → SaysNothing (receive_as_member ds s from b)
message_says_nothing s from b id v is same h ds = subst (λ x. SaysNothing (receive_as_member ds s from x)) (sym is) (vote_says_nothing ds s from id v same h)
