-- Which refusals end a clerk.
use Rattle.rapid_world.specs.declared.error.WorldError.{WorldError}
use Rattle.rapid_world.specs.declared.error.WorldError.TheVariants.{IdentifierUsed, EndpointBusy, NoSuchNode, NoSuchPacket, NotObserved, EventsFull, OutOfMemory}
use Rattle.rapid_clerks.specs.declared.verdict.Ended.TheVariants as ended
use Rattle.rapid_clerks.specs.declared.verdict.Verdict.{Verdict}
use Rattle.rapid_clerks.specs.declared.verdict.Verdict.TheVariants.{Passed, Ends}

-- A clerk ends if the world is full or out of memory, and skips a job that is refused for another reason.
abbrev pub verdict_on : WorldError → Verdict
verdict_on IdentifierUsed = Passed
verdict_on EndpointBusy = Passed
verdict_on NoSuchNode = Passed
verdict_on NoSuchPacket = Passed
verdict_on NotObserved = Passed
verdict_on EventsFull = Ends ended.Full
verdict_on OutOfMemory = Ends ended.OutOfMemory
