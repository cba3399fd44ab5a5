-- What a joiner sends.
use Rattle.std.proofs.Common.{◌≡◌, ℕ, Bool, true, false, List, [], map, refl, Option, Some, None}
use Rattle.std.specs.Prelude.{if◌then◌else◌}
use Rattle.rapid_model.specs.Message.{Body}
use Rattle.rapid_model.specs.Node.{To, Says}
use Rattle.rapid_model.specs.NodeStep.{question_to}
use Rattle.rapid_join.specs.Answers as join
use Rattle.rapid_join.specs.Answers.{sent_by}

-- the question to the seed
pub asked : (seed : Option (List ℕ)) → map (λ (x : List ℕ × Body). Says (To x.0) x.1) (sent_by (join.question_to seed)) ≡ question_to seed
asked None = refl
asked (Some seed) = refl

-- a reply to this process or to another
pub replied : (b : Bool) (xs : List (List ℕ × Body)) → map (λ (x : List ℕ × Body). Says (To x.0) x.1) (if b then xs else []) ≡ (if b then map (λ (x : List ℕ × Body). Says (To x.0) x.1) xs else [])
replied true xs = refl
replied false xs = refl
