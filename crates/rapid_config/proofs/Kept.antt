-- Members of whom some are kept.
use Rattle.std.proofs.Common.{Bool, not, List, refl, arith}
use Rattle.std.specs.List.{filter}
use Rattle.std.specs.Ordering.{is_lt}
use Rattle.std.proofs.lemmas.List.Elements.{All-filter}
use Rattle.std.proofs.lemmas.List.Sums.{length-filter, count_by-le-length}
use Rattle.rapid_model.specs.Process.{Process, IsProcess, identifier, bytes_cmp, same_endpoint}
use Rattle.rapid_model.specs.Configuration.{AreMembers, identifiers_ascend, endpoints_differ}
use Rattle.rapid_config.proofs.Ascending.{kept_ascends}

pub members_kept : (t : Process → Bool) (ps : List Process) → AreMembers ps → AreMembers (filter t ps)
members_kept t ps m = record {
  few = let k = length-filter t ps in let l = count_by-le-length t ps in omega (arith, m.few, k, l);
  processes = All-filter t IsProcess ps m.processes;
  identifiers = kept_ascends (λ p q. is_lt (bytes_cmp (identifier p) (identifier q))) identifiers_ascend refl (λ _ _. refl) t ps m.identifiers;
  endpoints = kept_ascends (λ p q. not (same_endpoint p q)) endpoints_differ refl (λ _ _. refl) t ps m.endpoints;
}
