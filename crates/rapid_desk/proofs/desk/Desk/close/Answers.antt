use Rattle.std.proofs.Common.{sym, ap, subst, ◌∙◌}
use Rattle.rapid_desk.specs.Desks.{DeskValue, AreMarked, queues_of}
use Rattle.rapid_desk.proofs.Following.{are_marked, queues_ended}
use Rattle.rapid_desk.proofs.desk.Desk.close.Goals as goal

pub returns-clause-marked : goal.returns-clause-marked
returns-clause-marked g c = subst (λ v. AreMarked v.items) (sym c.replace.ensures.value) (are_marked _ _ c.end_all.ensures)

pub returns-clause-queues : goal.returns-clause-queues
returns-clause-queues g c =
    ap (λ v. queues_of v.items) c.replace.ensures.value ∙ queues_ended _ _ c.end_all.ensures ∙ ap (λ (v : DeskValue). queues_of v.subscriptions) c.self.view_is
