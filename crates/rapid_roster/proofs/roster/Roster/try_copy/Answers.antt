use Rattle.std.proofs.Common.{◌∙◌, sym, subst}
use Rattle.std.proofs.lemmas.List.Elements.{same_from_all_zip}
use Rattle.std.proofs.lemmas.Map.Entries.{entries_from_clone}
use Rattle.rapid_roster.specs.Indexed.{IsIndexed}
use Rattle.rapid_roster.proofs.roster.Roster.try_copy.Goals as goal

pub returns : goal.returns
returns c = same_from_all_zip _ c.self.inside.processes.items c.in_ok-clone.field-0.items c.in_ok-clone.ensures.cases.0 (λ x y r. r) ∙ c.self.view_is

pub invariant_of-result : goal.invariant_of-result
invariant_of-result c =
    let processes = same_from_all_zip _ c.self.inside.processes.items c.in_ok-clone.field-0.items c.in_ok-clone.ensures.cases.0 (λ x y r. r) in
    let firsts = entries_from_clone _ _ (λ x y r. r) (λ x y r. r) c.self.inside.firsts.entries c.in_ok-clone-2.field-0.entries c.in_ok-clone-2.ensures.cases in
    let others = same_from_all_zip _ c.self.inside.others.items c.in_ok-clone-3.field-0.items c.in_ok-clone-3.ensures.cases.0 (λ x y r. r) in
    subst (λ ps. IsIndexed ps c.in_ok-clone-2.field-0.entries c.in_ok-clone-3.field-0.items) (sym processes)
    (subst (λ es. IsIndexed c.self.inside.processes.items es c.in_ok-clone-3.field-0.items) (sym firsts)
    (subst (λ ns. IsIndexed c.self.inside.processes.items c.self.inside.firsts.entries ns) (sym others) c.self.invariant))
