use Rattle.rapid_world.proofs.world.World.hand.Goals as goal

pub returns-in-Err-clause-refused : goal.returns-in-Err-clause-refused
returns-in-Err-clause-refused c = c.requires.does.not_refused
