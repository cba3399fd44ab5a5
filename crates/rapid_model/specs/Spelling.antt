-- One configuration, one spelling: what is proved of the bytes of configurations.
use Rattle.std.specs.Prelude.{◌≡◌, ℕ, ◌<◌, List, All, None}
use Rattle.rapid_model.specs.Configuration.{Configuration, IsConfiguration, configuration_bytes}
use Rattle.rapid_model.specs.Reading.{configuration_in, bytes_fault}

-- The bytes of a configuration are taken, and it is read back from them.
abbrev pub SpellingIsRead : Type 0
SpellingIsRead = (c : Configuration) → IsConfiguration c → (bytes_fault (configuration_bytes c) ≡ None) × (configuration_in (configuration_bytes c) ≡ c)

-- Bytes that are taken are those of the configuration that is read from them.
abbrev pub SpellingIsOne : Type 0
SpellingIsOne = (bytes : List ℕ) → All (λ b. b < 256) bytes → bytes_fault bytes ≡ None → configuration_bytes (configuration_in bytes) ≡ bytes

-- No configuration has the bytes of another.
abbrev pub SpellingTells : Type 0
SpellingTells = (c d : Configuration) → IsConfiguration c → IsConfiguration d → configuration_bytes c ≡ configuration_bytes d → c ≡ d
