use Rattle.std.proofs.Common.{sym}
use Rattle.rapid_config.proofs.Places.{search_finds, search_misses}
use Rattle.rapid_config.proofs.joining.contains.Goals as goal

pub returns-in-Ok : goal.returns-in-Ok
returns-in-Ok c = sym (search_finds c.args.processes.now c.args.process.now c.in-Ok._place c.in-Ok.ensures.bound c.in-Ok.ensures.position)

pub returns-in-Err : goal.returns-in-Err
returns-in-Err c = sym (search_misses c.args.processes.now c.args.process.now c.in-Err._next c.requires c.in-Err.ensures.position)
