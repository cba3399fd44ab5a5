-- Clauses of public calls cite this file.
-- Why an acceptor or a coordinator refuses, and the numbers of the refusals.
use Rattle.std.specs.Prelude.{◌≡◌, ℕ, Option, Result, Err, IsOk}
use Rattle.rapid_model.specs.Cut.{Cut}
use Rattle.rapid_model.specs.Ballot.{Vote}
use Rattle.rapid_model.specs.Acceptor as model
use Rattle.rapid_paxos.specs.declared.acceptor.AcceptError.{AcceptError}
use Rattle.rapid_paxos.specs.declared.acceptor.AcceptError.TheVariants as accept
use Rattle.rapid_paxos.specs.declared.acceptor.PromiseError.{PromiseError}
use Rattle.rapid_paxos.specs.declared.acceptor.PromiseError.TheVariants as promise

-- Out of memory is answered only if a vote would be cast.
abbrev pub IsAcceptRefusal : Result (Unit {0}) model.AcceptorRefusal → AcceptError → Type 0
IsAcceptRefusal r (accept.Promised b) = r ≡ Err (model.Promised b)
IsAcceptRefusal r accept.AlreadyVoted = r ≡ Err model.AlreadyVoted
IsAcceptRefusal r accept.OutOfMemory = IsOk r

-- Out of memory is answered only if a promise would be given.
abbrev pub IsPromiseRefusal : Result (Option (Vote Cut)) model.AcceptorRefusal → PromiseError → Type 0
IsPromiseRefusal r (promise.Promised b) = r ≡ Err (model.Promised b)
IsPromiseRefusal r promise.OutOfMemory = IsOk r

-- The numbers of the refusals of a vote.
abbrev pub accept_code : AcceptError → ℕ
accept_code (accept.Promised b) = 1
accept_code accept.AlreadyVoted = 2
accept_code accept.OutOfMemory = 99

-- The numbers of the refusals of a promise.
abbrev pub promise_code : PromiseError → ℕ
promise_code (promise.Promised b) = 1
promise_code promise.OutOfMemory = 99
