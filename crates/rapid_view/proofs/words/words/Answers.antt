use Rattle.std.proofs.Common.{◌≡◌, ◌∙◌, ◌++◌, ℕ, List, sym, subst, take, drop}
use Rattle.std.specs.Int.{w64, from_be_bytes}
use Rattle.rapid_view.specs.Words.{id_of}
use Rattle.rapid_view.proofs.Parts.{four_parts}
use Rattle.rapid_view.proofs.words.words.Goals as goal

pub returns-clause-whole : goal.returns-clause-whole
returns-clause-whole c =
    let s = c.args.stamp.now in
    let bytes = c.bytes-id.result in
    let a = c.whole_number.ensures in
    let Same : List ℕ → Type 0 = λ l. l ≡ id_of (from_be_bytes w64 (take 8 l)) (from_be_bytes w64 (take 8 (drop 8 l))) (from_be_bytes w64 (take 8 (drop 16 l))) (from_be_bytes w64 (take 8 (drop 24 l))) in
    let parts : Same bytes = four_parts bytes a.length ∙ (λ i. sym a.bytes i ++ (sym c.whole_number-2.ensures.bytes i ++ (sym c.whole_number-3.ensures.bytes i ++ sym c.whole_number-4.ensures.bytes i))) in
    let id : Same s.id = subst Same (c.bytes-id.ensures ∙ c.id.ensures) parts in
    λ i. record { height = s.height; id = id i; members = s.members }
