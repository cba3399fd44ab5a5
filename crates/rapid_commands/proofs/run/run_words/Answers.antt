use Rattle.std.proofs.Common.{◌≡◌, map, arith, inl, inr, sym, refl, ◌∙◌}
use Rattle.rapid_words.proofs.Asking.{asked, asks}
use Rattle.rapid_words.proofs.Refusing.{refused_by, refused_so}
use Rattle.rapid_commands.proofs.run.run_words.Goals as goal

pub returns-in-Err-clause-written : goal.returns-in-Err-clause-written
returns-in-Err-clause-written g c = λ is. inr (inr (refl, asks c.in-Err.error (map g.S.AsStr.text c.args.words.now) c.in-Err.ensures.fails (c.tell.ensures.asked (omega (arith, is)))))

pub returns-in-Err-clause-failed : goal.returns-in-Err-clause-failed
returns-in-Err-clause-failed g c = λ is. inr (inr (refl, asks c.in-Err.error (map g.S.AsStr.text c.args.words.now) c.in-Err.ensures.fails (c.tell.ensures.asked (omega (arith, is)))))

pub returns-in-Err-clause-memory : goal.returns-in-Err-clause-memory
returns-in-Err-clause-memory g c = λ is. inr (inr (c.tell.ensures.silent (omega (arith, is))))

pub returns-in-Some-clause-written : goal.returns-in-Some-clause-written
returns-in-Some-clause-written g c = λ is. inr (inl (c.in-Some.invocation, asked c.in-Ok.ensures.taken c.in-Ok.ensures.found c.in-Some.ensures.named c.in-Some.ensures.in_order, c.run.ensures.written is))

pub returns-in-Some-clause-failed : goal.returns-in-Some-clause-failed
returns-in-Some-clause-failed g c = λ is. inr (inl (c.in-Some.invocation, asked c.in-Ok.ensures.taken c.in-Ok.ensures.found c.in-Some.ensures.named c.in-Some.ensures.in_order, c.run.ensures.begun (λ z. let no : 1 ≡ 0 = sym is ∙ z in cc)))

pub returns-in-Some-clause-memory : goal.returns-in-Some-clause-memory
returns-in-Some-clause-memory g c = λ is. inr (inl (c.in-Some.invocation, asked c.in-Ok.ensures.taken c.in-Ok.ensures.found c.in-Some.ensures.named c.in-Some.ensures.in_order, c.run.ensures.begun (λ z. let no : 3 ≡ 0 = sym is ∙ z in cc)))

pub returns-in-Err-clause-fault : goal.returns-in-Err-clause-fault
returns-in-Err-clause-fault g c = λ is. inr (refused_by c.in-Err.error (map g.S.AsStr.text c.args.words.now) c.in-Err.ensures.fails (c.tell.ensures.fault is))

pub returns-clause-fault : goal.returns-clause-fault
returns-clause-fault g c = λ is. inr (refused_so (map g.S.AsStr.text c.args.words.now) c.in-Ok.ensures.found c.in-None.ensures.none)
