-- Byte strings made of an identifier, an endpoint and more.
use Rattle.std.proofs.Common.{◌≡◌, ℕ, List, ◌++◌, length, take, ap, ◌∙◌}
use Rattle.std.proofs.lemmas.List.{append_assoc}
use Rattle.rapid_model.specs.Process.{identifier, endpoint}
use Rattle.rapid_endpoint.specs.Joined.{first_part, second_part}

-- The identifier, by its length.
pub front_part : (id place rest : List ℕ) → length id ≡ 16 → identifier (id ++ place ++ rest) ≡ id
front_part id place rest l = ap (take 16) (append_assoc id place rest) ∙ first_part 16 id (place ++ rest) l

-- The endpoint, by the lengths.
pub middle_part : (id place rest : List ℕ) → length id ≡ 16 → length place ≡ 6 → endpoint (id ++ place ++ rest) ≡ place
middle_part id place rest l m = ap endpoint (append_assoc id place rest) ∙ ap (take 6) (second_part 16 id (place ++ rest) l) ∙ first_part 6 place rest m
