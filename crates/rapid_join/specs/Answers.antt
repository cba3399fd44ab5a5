-- Clauses of public calls cite this file.
-- What the two sides answer, as the definitions see it.
use Rattle.std.specs.Prelude.{ℕ, ◌≤◌, Bool, true, false, List, [], ◌∷◌, length, map, if◌then◌else◌, Option, Some, None}
use Rattle.rapid_model.specs.Process.{Process}
use Rattle.rapid_model.specs.Configuration.{Configuration, configuration_id, is_member}
use Rattle.rapid_model.specs.Host as model
use Rattle.rapid_model.specs.Message as message
use Rattle.rapid_join.specs.declared.reply.Reply.{Reply}
use Rattle.rapid_join.specs.declared.reply.Reply.TheVariants as reply
use Rattle.rapid_join.specs.declared.answers.HostAnswer.{HostAnswer}
use Rattle.rapid_join.specs.declared.answers.HostAnswer.TheVariants as host
use Rattle.rapid_join.specs.declared.answers.JoinRequest.{JoinRequest}
use Rattle.rapid_join.specs.declared.answers.JoinerAnswer.{JoinerAnswer}
use Rattle.rapid_join.specs.declared.answers.JoinerAnswer.TheVariants as joiner

-- The number of a reply.
abbrev pub code_of : Reply → ℕ
code_of (reply.Safe id os) = 1
code_of reply.EndpointInUse = 2
code_of reply.ConfigurationChanged = 3
code_of reply.TooManyJoiners = 4

-- A reply.
abbrev pub answer_of : Reply → message.Answer
answer_of (reply.Safe id os) = message.Safe id os
answer_of reply.EndpointInUse = message.EndpointInUse
answer_of reply.ConfigurationChanged = message.ConfigurationChanged
answer_of reply.TooManyJoiners = message.TooManyJoiners

-- It is a reply Safe.
abbrev pub is_safe : Reply → Bool
is_safe (reply.Safe id os) = true
is_safe reply.EndpointInUse = false
is_safe reply.ConfigurationChanged = false
is_safe reply.TooManyJoiners = false

-- A reply Safe names an observer.
abbrev pub NamesObservers : Reply → Type 0
NamesObservers (reply.Safe id os) = 1 ≤ length os
NamesObservers reply.EndpointInUse = Unit {0}
NamesObservers reply.ConfigurationChanged = Unit {0}
NamesObservers reply.TooManyJoiners = Unit {0}

-- The same of what a host answers.
abbrev pub AnswersObservers : HostAnswer → Type 0
AnswersObservers host.Nothing = Unit {0}
AnswersObservers (host.Reply r) = NamesObservers r
AnswersObservers (host.Confirm c) = Unit {0}
AnswersObservers host.Raise = Unit {0}

-- What a host answers.
abbrev pub host_answer_of : HostAnswer → model.HostAnswer
host_answer_of host.Nothing = model.Nothing
host_answer_of (host.Reply r) = model.Replies (answer_of r)
host_answer_of (host.Confirm c) = model.Confirms c
host_answer_of host.Raise = model.Raises

-- What a host answers to a joiner that waited.
abbrev pub answered_of : Process × HostAnswer → Process × model.HostAnswer
answered_of x = (x.0, host_answer_of x.1)

-- The answer Safe of a member of the configuration.
abbrev pub safe_for : Configuration → Process → model.HostAnswer
safe_for c j = model.Replies (message.Safe (configuration_id c) (model.observers_for c j))

-- What a joiner that waited gets after a change.
abbrev pub answer_after : Configuration → Process → model.HostAnswer
answer_after next j = if is_member next j then model.Confirms next else model.Replies message.ConfigurationChanged

-- A request, with the endpoint that it goes to.
abbrev pub request_of : JoinRequest → List ℕ × message.Body
request_of r = (r.to, message.JoinRequest r.id r.ring)

-- What a joiner sends, each with the endpoint that it goes to.
abbrev pub sent_by : JoinerAnswer → List (List ℕ × message.Body)
sent_by joiner.Nothing = []
sent_by (joiner.PreJoin seed) = (seed, message.PreJoin) ∷ []
sent_by (joiner.Requests rs) = map request_of rs.items

-- These are requests, if only none.
abbrev pub is_requests : JoinerAnswer → Bool
is_requests joiner.Nothing = false
is_requests (joiner.PreJoin seed) = false
is_requests (joiner.Requests rs) = true

-- The question to the seed, if it is time for one.
abbrev pub question_to : Option (List ℕ) → JoinerAnswer
question_to None = joiner.Nothing
question_to (Some seed) = joiner.PreJoin seed
