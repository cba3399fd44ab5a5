-- What is at fault in members that are read.
use Rattle.std.proofs.Common.{◌≡◌, ℕ, ◌≤◌, Bool, true, false, not, cond, List, [], length, refl, ap, ◌∙◌, inl, inr, Option, Some, None, arith}
use Rattle.std.specs.Prelude.{nat_lt}
use Rattle.std.proofs.lemmas.Bool.{le-ltb}
use Rattle.rapid_model.specs.Process.{Process}
use Rattle.rapid_model.specs.Configuration.{identifiers_ascend, endpoints_differ}
use Rattle.rapid_model.specs.Reading as fault
use Rattle.rapid_model.specs.Reading.{processes_at, read_in, members_fault}
use Rattle.rapid_model.proofs.Processes.{processes_taken}
use Rattle.rapid_endpoint.specs.Ends.{AreAll}
use Rattle.rapid_config.specs.Faults.{ReportsOfFounders, ReportsOfBytes}
use Rattle.rapid_config.specs.declared.error.ConfigError.{ConfigError}
use Rattle.rapid_config.specs.declared.error.ConfigError.TheVariants.{BadParams, Truncated, Trailing, BadMagic, NotSorted, EndpointTwice, TooMany, EmptyCut, HeightFull, BadTags, OutOfMemory}

-- what can still be at fault in members that are few
pub late_fault : (ps : List Process) → length ps ≤ 1024 → ReportsOfBytes (members_fault ps) OutOfMemory
late_fault ps l = choose (nat_lt 1024 (length ps)) (identifiers_ascend ps) (endpoints_differ ps) (le-ltb 1024 (length ps) l)
  where
    choose : (a b c : Bool) → a ≡ false → ReportsOfBytes (cond a (Some fault.TooMany) (cond (not b) (Some fault.NotSorted) (cond (not c) (Some fault.EndpointTwice) None))) OutOfMemory
    choose true b c e = cc
    choose false false c e = inr (inl refl)
    choose false true false e = inr (inr refl)
    choose false true true e = inl refl

-- what is reported of founders may be reported of the members that are read
pub of_bytes : (f : Option fault.ConfigurationFault) (e : ConfigError) → ReportsOfFounders f e → ReportsOfBytes f e
of_bytes f BadParams h = h
of_bytes f Truncated h = h
of_bytes f Trailing h = h
of_bytes f BadMagic h = h
of_bytes f NotSorted h = h
of_bytes f EndpointTwice h = h
of_bytes f TooMany h = h
of_bytes f EmptyCut h = h
of_bytes f HeightFull h = h
of_bytes f BadTags h = h
of_bytes f OutOfMemory (inl none) = inl none
of_bytes f OutOfMemory (inr twice) = inr (inr twice)

-- as many are read as are announced
pub few_read : (n : ℕ) (bytes : List ℕ) → n ≤ 1024 → AreAll (processes_at n bytes) → length (read_in (processes_at n bytes)) ≤ 1024
few_read n bytes l all =
    let count = (processes_taken n bytes (all.0, []) all.1).count in
    let e : length (read_in (processes_at n bytes)) ≡ n = ap (λ r. length (read_in r)) all.1 ∙ count in
    omega (arith, l, e)
