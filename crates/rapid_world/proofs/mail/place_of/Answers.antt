use Rattle.rapid_world.proofs.Mails.{tells_it}
use Rattle.rapid_world.proofs.mail.place_of.Goals as goal

pub returns-then-is_at-clause-found : goal.returns-then-is_at-clause-found
returns-then-is_at-clause-found c = tells_it c.args.sendings.now c.requires.0 c.args.number c.args.near c.requires.1 (c.is_at.ensures c.if-is_at.true)

pub returns-then-is_at-2-clause-found : goal.returns-then-is_at-2-clause-found
returns-then-is_at-2-clause-found c = tells_it c.args.sendings.now c.requires.0 c.args.number c.saturating_add-next.result c.requires.1 (c.is_at-2.ensures c.if-is_at-2.true)
