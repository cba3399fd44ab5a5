-- Clauses of public calls cite this file.
-- How endpoints are spelled.
use Rattle.std.specs.Prelude.{◌≡◌, ℕ, ◌<◌, List, All, length, Ok}
use Rattle.rapid_model.specs.EndpointText.{endpoint_text}
use Rattle.rapid_endpoint.specs.Texts.{endpoint_from}

-- Six bytes are what their text is read as.
abbrev pub PrintedIsRead : Type 0
PrintedIsRead = (place : List ℕ) → length place ≡ 6 → All (λ b. b < 256) place → endpoint_from (endpoint_text place) ≡ Ok place

-- A text that is read as an endpoint is the text of that endpoint, so no endpoint has two.
abbrev pub ReadIsPrinted : Type 0
ReadIsPrinted = (text place : List ℕ) → endpoint_from text ≡ Ok place → text ≡ endpoint_text place
