use Rattle.std.proofs.Common.{◌≡◌, ℕ, ◌+◌, true, List, [], nat_lt, Some, None, refl, sym, ap, subst, ◌∙◌, arith}
use Rattle.std.proofs.lemmas.Bool.Decides.{nat_tests}
use Rattle.rapid_model.specs.Alert as model
use Rattle.rapid_model.specs.DetectLine.{Edge, Place}
use Rattle.rapid_model.specs.DetectText.{Command, after, printed, refusal_line, table_refusal}
use Rattle.rapid_model.specs.Process.{Process}
use Rattle.rapid_model.specs.Table.{Table, TableFault, TooMany, RingRange, EdgeTwice, add_fault, after_add}
use Rattle.rapid_rings.specs.Faults.{Reports}
use Rattle.rapid_detect.specs.Commands.{place_of}
use Rattle.rapid_detect.specs.declared.detect.DetectPhase.{DetectPhase}
use Rattle.rapid_detect.specs.declared.detect.DetectPhase.TheVariants.{Building}
use Rattle.rapid_detect.specs.Numbers.{alerts_of}
use Rattle.rapid_detect.specs.Phases.{run_by}
use Rattle.rapid_detect.proofs.detect.DetectRun.edge.Goals as goal

-- An edge is taken, if there is room and the table takes it.
taken : (p : DetectPhase) (t new : Table) (j e : ℕ) (xs : List model.Alert) (place : Place) (o s : Process) → p ≡ Building t → nat_lt e 16384 ≡ true
    → o ≡ place.observer → s ≡ place.subject → add_fault t place.ring s ≡ None → new ≡ after_add t place.ring o s
    → (run_by (Building new) j (e + 1) xs ≡ after (run_by p j e xs) (Command (Edge place))) × ([] ≡ printed (run_by p j e xs) (Command (Edge place)))
unfolding after printed
taken p t new j e xs place o s at few same same' free is =
    let free' : add_fault t place.ring place.subject ≡ None = ap (add_fault t place.ring) (sym same') ∙ free in
    rw at
    (rw few
    (rw free' (ap (λ n. run_by (Building n) j (e + 1) xs) (is ∙ (λ i. after_add t place.ring (same i) (same' i))), refl)))

-- An edge is refused by the table, which stays as it is.
refused : (p : DetectPhase) (t new : Table) (j e : ℕ) (xs : List model.Alert) (place : Place) (s : Process) (f : TableFault) → p ≡ Building t → nat_lt e 16384 ≡ true
    → s ≡ place.subject → add_fault t place.ring s ≡ Some f → new ≡ t
    → (run_by (Building new) j e xs ≡ after (run_by p j e xs) (Command (Edge place))) × (refusal_line (table_refusal f) ≡ printed (run_by p j e xs) (Command (Edge place)))
unfolding after printed
refused p t new j e xs place s f at few same fault is =
    let fault' : add_fault t place.ring place.subject ≡ Some f = ap (add_fault t place.ring) (sym same) ∙ fault in
    rw at (rw few (rw fault' (ap (λ n. run_by (Building n) j e xs) is, refl)))

pub returns-in-Ok : goal.returns-in-Ok
returns-in-Ok c =
    let s = c.args.self.now in
    let few : nat_lt s.edge_lines 16384 ≡ true = grind (arith, nat_tests) in
    let h = taken s.phase c.in-Building.table c.add.new.self s.joiner_lines s.edge_lines (alerts_of s.alerts.items) (place_of c.args.place) c.numbered.result c.numbered-in-Building.result
    c.in-Building.is few c.numbered.ensures c.numbered-in-Building.ensures c.in-Ok.ensures.allowed c.in-Ok.ensures.ok in
    record { state = h.0; text = h.1 }

pub returns-in-Err-TooMany : goal.returns-in-Err-TooMany
returns-in-Err-TooMany c =
    let s = c.args.self.now in
    let few : nat_lt s.edge_lines 16384 ≡ true = grind (arith, nat_tests) in
    let h = refused s.phase c.in-Building.table c.add.new.self s.joiner_lines s.edge_lines (alerts_of s.alerts.items) (place_of c.args.place) c.numbered-in-Building.result TooMany
    c.in-Building.is few c.numbered-in-Building.ensures (subst (Reports _) c.in-Err-TooMany.field-0-is c.in-Err-TooMany.ensures.refused) c.in-Err-TooMany.ensures.unchanged in
    record { state = h.0; text = h.1 }

pub returns-in-Err-RingRange : goal.returns-in-Err-RingRange
returns-in-Err-RingRange c =
    let s = c.args.self.now in
    let few : nat_lt s.edge_lines 16384 ≡ true = grind (arith, nat_tests) in
    let h = refused s.phase c.in-Building.table c.add.new.self s.joiner_lines s.edge_lines (alerts_of s.alerts.items) (place_of c.args.place) c.numbered-in-Building.result RingRange
    c.in-Building.is few c.numbered-in-Building.ensures (subst (Reports _) c.in-Err-RingRange.field-0-is c.in-Err-RingRange.ensures.refused) c.in-Err-RingRange.ensures.unchanged in
    record { state = h.0; text = h.1 }

pub returns-in-Err-EdgeTwice : goal.returns-in-Err-EdgeTwice
returns-in-Err-EdgeTwice c =
    let s = c.args.self.now in
    let few : nat_lt s.edge_lines 16384 ≡ true = grind (arith, nat_tests) in
    let h = refused s.phase c.in-Building.table c.add.new.self s.joiner_lines s.edge_lines (alerts_of s.alerts.items) (place_of c.args.place) c.numbered-in-Building.result EdgeTwice
    c.in-Building.is few c.numbered-in-Building.ensures (subst (Reports _) c.in-Err-EdgeTwice.field-0-is c.in-Err-EdgeTwice.ensures.refused) c.in-Err-EdgeTwice.ensures.unchanged in
    record { state = h.0; text = h.1 }
