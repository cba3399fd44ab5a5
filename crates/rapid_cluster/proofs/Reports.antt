-- Reports that are made and written.
use Rattle.std.proofs.Common.{◌≡◌, ℕ, List, sym, subst, Option, Result, Ok, Err, OnOk, OnErr, IfOk, IfErr}
use Rattle.std.specs.Io.KnownBytes.{Appends}
use Rattle.rapid_model.specs.Agreement.{NoCollision}
use Rattle.rapid_model.specs.Configuration.{Params}
use Rattle.rapid_model.specs.RunHolds.{RunHolds}
use Rattle.rapid_model.specs.StoredWorld.{world_of}
use Rattle.rapid_text.specs.Underway.{AppendsFront}
use Rattle.rapid_text.specs.declared.fault.RunFault.{RunFault}
use Rattle.rapid_text.specs.declared.fault.RunFault.TheVariants as fault
use Rattle.rapid_cluster.specs.ClusterText.{IsReport, cluster_text}
use Rattle.rapid_cluster.specs.Driven.{IsDriven}
use Rattle.rapid_cluster.specs.Written.{Ended}
use Rattle.rapid_clerks.specs.Clusters.{ClusterState}

-- What is printed of a world is a report.
pub reports : {T E : Type 0} (params : Params) (n most : ℕ) (c : ClusterState) (r : Result T E) (text : T → List ℕ) → IsDriven params n most c → IfOk r (λ x. text x ≡ cluster_text n c.world) →
    (NoCollision (world_of c.world) → RunHolds (world_of c.world)) → IfOk r (λ x. IsReport params n most (text x))
reports params n most c (Ok x) text driven printed holds = record { end = c; driven = driven; printed = printed; holds = holds }
reports params n most c (Err e) text driven printed holds = tt

-- A report was written.
pub was_written : {T E : Type 0} (params : Params) (n most : ℕ) (old new : Option (List ℕ)) (r : Result T E) (text : List ℕ) → IsReport params n most text → OnOk r (Appends old new text) →
    OnOk r ((t : List ℕ) × IsReport params n most t × Appends old new t)
was_written params n most old new (Ok x) text report all = (text, report, all)
was_written params n most old new (Err e) text report all = tt

-- A report could not be written to its end.
pub has_ended : {T : Type 0} (params : Params) (n most : ℕ) (old new : Option (List ℕ)) (r : Result T RunFault) (text : List ℕ) → IsReport params n most text → IfErr r (λ f. f ≡ fault.Write) → OnErr r (AppendsFront old new text) →
    IfErr r (Ended params n most old new)
has_ended params n most old new (Ok x) text report is front = tt
has_ended params n most old new (Err f) text report is front = subst (Ended params n most old new) (sym is) (text, report, front)
