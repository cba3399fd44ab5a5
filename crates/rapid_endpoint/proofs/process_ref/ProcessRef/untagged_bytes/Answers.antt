use Rattle.std.proofs.Common.{◌++◌, ◌∙◌, ℕ, List, [], ◌∷◌, length, ap, sym}
use Rattle.std.proofs.lemmas.List.{take-append-drop, length-take-le}
use Rattle.rapid_endpoint.proofs.Places.{all_told}
use Rattle.rapid_endpoint.proofs.process_ref.ProcessRef.untagged_bytes.Goals as goal

pub returns : goal.returns
returns c =
    let size : (l : List ℕ) → ℕ = λ l. length l in
    ap (λ (l : List ℕ). l ++ 0 ∷ []) (all_told 22 c.key_bytes.result (ap size c.key_bytes.ensures.value ∙ length-take-le 22 c.args.self.now c.key_bytes.ensures.process.long))
    ∙ (λ i. c.key_bytes.ensures.value i ++ sym c.requires i)
    ∙ take-append-drop 22 c.args.self.now
