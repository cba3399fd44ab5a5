use Rattle.std.proofs.Common.{◌++◌, ◌∙◌, ℕ, List, length, ap}
use Rattle.rapid_endpoint.proofs.Places.{all_told}
use Rattle.rapid_endpoint.proofs.process_id.ProcessId.bytes.Goals as goal

pub returns-clause-value : goal.returns-clause-value
returns-clause-value c =
    let size : (l : List ℕ) → ℕ = λ l. length l in
    (λ i. all_told 8 c.bytes.result (ap size c.bytes.ensures.value ∙ c.bytes.ensures.length) i
    ++ all_told 8 c.bytes-2.result (ap size c.bytes-2.ensures.value ∙ c.bytes-2.ensures.length) i)
    ∙ (λ i. c.bytes.ensures.value i ++ c.bytes-2.ensures.value i)
    ∙ c.self.view_is
