use Rattle.std.proofs.Common.{◌≡◌, ℕ, ◌+◌, true, List, [], nat_lt, refl, ap, ◌∙◌, arith}
use Rattle.std.proofs.lemmas.Bool.Decides.{nat_tests}
use Rattle.rapid_model.specs.Alert as model
use Rattle.rapid_model.specs.DetectLine.{Joiner}
use Rattle.rapid_model.specs.DetectText.{Command, after, printed}
use Rattle.rapid_model.specs.Numbered.{numbered}
use Rattle.rapid_model.specs.Process.{Process}
use Rattle.rapid_model.specs.Table.{Table, after_joiner}
use Rattle.rapid_detect.specs.declared.detect.DetectPhase.{DetectPhase}
use Rattle.rapid_detect.specs.declared.detect.DetectPhase.TheVariants.{Building}
use Rattle.rapid_detect.specs.Numbers.{alerts_of}
use Rattle.rapid_detect.specs.Phases.{run_by}
use Rattle.rapid_detect.proofs.detect.DetectRun.joiner.Goals as goal

-- A joiner is taken, if there is room.
taken : (p : DetectPhase) (t new : Table) (j e : ℕ) (xs : List model.Alert) (x y : Process) → p ≡ Building t → nat_lt j 512 ≡ true → new ≡ after_joiner t x → x ≡ y
    → (run_by (Building new) (j + 1) e xs ≡ after (run_by p j e xs) (Command (Joiner y))) × ([] ≡ printed (run_by p j e xs) (Command (Joiner y)))
unfolding after printed
taken p t new j e xs x y at few is same =
    rw at (rw few (ap (λ s. run_by (Building s) (j + 1) e xs) (is ∙ ap (after_joiner t) same), refl))

pub returns-in_ok-joiner-in-Building : goal.returns-in_ok-joiner-in-Building
returns-in_ok-joiner-in-Building c =
    let s = c.args.self.now in
    let few : nat_lt s.joiner_lines 512 ≡ true = grind (arith, nat_tests) in
    let h = taken s.phase c.in-Building.table c.joiner.new.self s.joiner_lines s.edge_lines (alerts_of s.alerts.items) c.numbered.result (numbered c.args.number) c.in-Building.is few c.in_ok-joiner-in-Building.ensures.ok c.numbered.ensures in
    record { state = h.0; text = h.1 }
