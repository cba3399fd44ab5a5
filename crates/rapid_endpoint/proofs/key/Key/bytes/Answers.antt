use Rattle.std.proofs.Common.{◌++◌, ◌∙◌, ℕ, List, length, ap}
use Rattle.rapid_endpoint.proofs.Places.{all_told}
use Rattle.rapid_endpoint.proofs.key.Key.bytes.Goals as goal

pub returns-clause-value : goal.returns-clause-value
returns-clause-value c =
    let size : (l : List ℕ) → ℕ = λ l. length l in
    (λ i. all_told 16 c.bytes.result (ap size c.bytes.ensures.value ∙ c.bytes.ensures.length) i
    ++ all_told 6 c.to_bytes.result (ap size c.to_bytes.ensures.value ∙ c.to_bytes.ensures.length) i)
    ∙ (λ i. c.bytes.ensures.value i ++ c.to_bytes.ensures.value i)
    ∙ c.self.view_is
