use Rattle.std.proofs.Common.{ap, ◌∙◌, sym, subst}
use Rattle.rapid_model.specs.Process.{Process}
use Rattle.rapid_cut.specs.Listed.{masks_at, StandsAt, PutsMasks}
use Rattle.rapid_cut.specs.Many.{entries_of}
use Rattle.rapid_cut.proofs.Listed.{put_at, behind}
use Rattle.rapid_cut.proofs.reports.put_among.Goals as goal

pub returns-in-Some-clause-put : goal.returns-in-Some-clause-put
returns-in-Some-clause-put c _ =
    put_at c.args.few.now.items (entries_of c.args.many.now) c.args.subject.now c.in-Some.place c.index_mut.result.now c.args.masks c.index_mut.ensures.value
    (subst (λ xs. StandsAt xs c.args.subject.now c.in-Some.place) c.as_slice.ensures.value c.in-Some.ensures.found)

pub returns-in_ok-put-in-Some-many-clause-put : goal.returns-in_ok-put-in-Some-many-clause-put
returns-in_ok-put-in-Some-many-clause-put c _ =
    let s = c.args.subject.now in
    let ns = c.put.new.self in
    behind c.args.few.now.items s c.args.masks (entries_of c.args.many.now) ns (ap (λ xs. masks_at xs s) (sym c.as_slice.ensures.value) ∙ c.in_default.ensures.none)
    (subst (λ xs. PutsMasks s c.args.masks xs ns) (c.deref_mut.ensures.value ∙ ap entries_of (sym c.in-Some-many.is)) (subst (λ (p : Process). PutsMasks p c.args.masks c.deref_mut.result.now ns) c.requires c.in_ok-put-in-Some-many.ensures.put))
