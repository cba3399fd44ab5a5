-- Clauses of public calls cite this file.
-- A host as it begins, and a code by which a proof tells hosts apart.
use Rattle.std.specs.Prelude.{ℕ, List, refl}
use Rattle.std.specs.Coded.{Coded, code_by, coded×, coded_ℕ, coded_list}
use Rattle.std.specs.FinSet as set
use Rattle.rapid_model.specs.Process.{Process, ProcessSet}
use Rattle.rapid_model.specs.Configuration.{Params, Configuration}
use Rattle.rapid_model.specs.JoinSides.{HostSide}
use Rattle.rapid_model.specs.Codes.{bytes_code, processes_code}

-- Parameters.
abbrev pub params_code : Coded Params
params_code =
    code_by (ℕ × (ℕ × ℕ)) (coded× coded_ℕ (coded× coded_ℕ coded_ℕ)) (λ p. (p.k, (p.h, p.l))) (λ x. record { k = x.0; h = x.1.0; l = x.1.1 }) (λ _. refl)

-- Configurations.
abbrev pub configuration_code : Coded Configuration
configuration_code =
    code_by (Params × (ℕ × (List ℕ × List Process)))
    (coded× params_code (coded× coded_ℕ (coded× bytes_code (coded_list bytes_code))))
    (λ c. (c.params, (c.height, (c.previous, c.members))))
    (λ x. record { params = x.0; height = x.1.0; previous = x.1.1.0; members = x.1.1.1 })
    (λ _. refl)

-- Hosts.
abbrev pub host_code : Coded HostSide
host_code =
    code_by (Configuration × (Process × ProcessSet))
    (coded× configuration_code (coded× bytes_code processes_code))
    (λ h. (h.config, (h.me, h.pending)))
    (λ x. record { config = x.0; me = x.1.0; pending = x.1.1 })
    (λ _. refl)

-- The host of a process in a configuration, at which nobody is pending.
abbrev pub fresh_host : Configuration → Process → HostSide
fresh_host c me = record { config = c; me = me; pending = set.empty }
