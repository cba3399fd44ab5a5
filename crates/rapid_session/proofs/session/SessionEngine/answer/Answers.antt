use Rattle.std.proofs.Common.{[], sym, append-nil}
use Rattle.rapid_session.proofs.session.SessionEngine.answer.Goals as goal

pub returns-then-goes_on-clause-ok : goal.returns-then-goes_on-clause-ok
returns-then-goes_on-clause-ok g c = record { said = []; appended = sym (append-nil c.args.output.now.items); goes_on = λ later text met printed. tt }
