use Rattle.std.proofs.Common.{◌≡◌, ◌≢◌, ℕ, true, false, List, [], ◌∷◌, ◌++◌, length, nat_lt, replicate, refl, ap, ◌∙◌, arith}
use Rattle.std.proofs.lemmas.Bool.Decides.{nat_tests}
use Rattle.std.proofs.lemmas.List.{length-map, map_push}
use Rattle.rapid_model.specs.Alert as model
use Rattle.rapid_model.specs.DetectLine.{Place, Report}
use Rattle.rapid_model.specs.DetectText.{Command, TooMany, refusal_line, after, printed}
use Rattle.rapid_model.specs.Table.{table_observers}
use Rattle.rapid_alerts.specs.Alerts.{kind_of}
use Rattle.rapid_detect.specs.declared.detect.DetectPhase.{DetectPhase}
use Rattle.rapid_detect.specs.declared.detect.DetectPhase.TheVariants.{Unmarked, Building, Reporting}
use Rattle.rapid_detect.specs.declared.numbered_alerts.NumberedAlert.{NumberedAlert}
use Rattle.rapid_detect.specs.Commands.{place_of}
use Rattle.rapid_detect.specs.Numbers.{alert_in, alerts_of}
use Rattle.rapid_detect.specs.Phases.{run_by, reporting}
use Rattle.rapid_detect.proofs.detect.DetectRun.report.Goals as goal

-- A full batch stays as it is.
full : (p : DetectPhase) (j e : ℕ) (xs : List model.Alert) (kind : model.Kind) (x : Place) → p ≢ Unmarked → nat_lt (length xs) 16384 ≡ false
    → (run_by p j e xs ≡ after (run_by p j e xs) (Command (Report kind x))) × (refusal_line TooMany ≡ printed (run_by p j e xs) (Command (Report kind x)))
unfolding after printed
full Unmarked j e xs kind x n h = absurd (n refl)
full (Building t) j e xs kind x n h = rw h (refl, refl)
full (Reporting d) j e xs kind x n h = rw h (refl, refl)

pub returns-then-len-ge-MOST_ALERTS : goal.returns-then-len-ge-MOST_ALERTS
returns-then-len-ge-MOST_ALERTS c =
    let xs = c.args.self.now.alerts.items in
    let many : nat_lt (length (alerts_of xs)) 16384 ≡ false = rw (length-map xs (alert_in (replicate 32 0))) (grind (arith, nat_tests)) in
    let h = full c.args.self.now.phase c.args.self.now.joiner_lines c.args.self.now.edge_lines (alerts_of xs) (kind_of c.args.kind) (place_of c.args.place) c.in_default.not-Unmarked many in
    record { state = h.0; text = h.1 }

-- An alert is taken for the next batch, if there is room and `watermarks` was taken.
taken : (p q : DetectPhase) (j e : ℕ) (xs : List model.Alert) (kind : model.Kind) (x : Place) → p ≢ Unmarked → nat_lt (length xs) 16384 ≡ true
    → ((j e : ℕ) (ys : List model.Alert) → run_by q j e ys ≡ reporting (run_by p j e ys))
    → let a : model.Alert = record { observer = x.observer; subject = x.subject; ring = x.ring; kind = kind; config = replicate 32 0 } in
    (run_by q j e (xs ++ a ∷ []) ≡ after (run_by p j e xs) (Command (Report kind x))) × ([] ≡ printed (run_by p j e xs) (Command (Report kind x)))
unfolding after printed table_observers
taken Unmarked q j e xs kind x n h begins = absurd (n refl)
taken (Building t) q j e xs kind x n h begins = rw h (begins j e _, refl)
taken (Reporting d) q j e xs kind x n h begins = rw h (begins j e _, refl)

pub returns : goal.returns
returns c =
    let xs = c.args.self.now.alerts.items in
    let x : NumberedAlert = record { kind = c.args.kind; ring = c.args.place.ring; observer = c.args.place.observer; subject = c.args.place.subject } in
    let few : nat_lt (length (alerts_of xs)) 16384 ≡ true = rw (length-map xs (alert_in (replicate 32 0))) (grind (arith, nat_tests)) in
    let items : alerts_of c.push.new.self.items ≡ alerts_of xs ++ alert_in (replicate 32 0) x ∷ [] = ap alerts_of c.in_ok-push.ensures.items ∙ map_push (alert_in (replicate 32 0)) xs x in
    let h = taken c.args.self.now.phase c.start.new.phase c.args.self.now.joiner_lines c.args.self.now.edge_lines (alerts_of xs) (kind_of c.args.kind) (place_of c.args.place) c.in_default.not-Unmarked few c.start.ensures.state in
    record { state = ap (run_by c.start.new.phase c.args.self.now.joiner_lines c.args.self.now.edge_lines) items ∙ h.0; text = h.1 }
