-- Clauses of public calls cite this file.
-- What bytes are read as, and the numbers of the errors.
use Rattle.std.specs.Prelude.{◌≡◌, ℕ, List, ◌++◌, length, Result, Ok, Err}
use Rattle.rapid_endpoint.specs.declared.read_error.ReadError.{ReadError}
use Rattle.rapid_endpoint.specs.declared.read_error.ReadError.TheVariants.{Truncated, BadTags}
use Rattle.rapid_model.specs.Tags as tags

-- The number of an error.
abbrev pub code_of : ReadError → ℕ
code_of Truncated = 1
code_of BadTags = 2

-- What an error says of the bytes.
abbrev pub fault_of : ReadError → tags.TagsFault
fault_of Truncated = tags.Truncated
fault_of BadTags = tags.BadTags

-- The answer is what the definitions read: a value, seen this way, or what is met first.
abbrev pub Gives : {X Y : Type 0} → (X → Y) → Result X ReadError → Result Y tags.TagsFault → Type 0
Gives view (Ok x) read = read ≡ Ok (view x)
Gives view (Err e) read = read ≡ Err (fault_of e)

-- If tags were spelt in front of the bytes, they are the answer, and how many bytes they take.
abbrev pub ReadsSpelt : List ℕ → Result (List ℕ × ℕ) ReadError → Type 0
ReadsSpelt bytes result =
    (ts : List tags.Tag) (front rest : List ℕ) → tags.AreTags ts front → bytes ≡ front ++ rest → result ≡ Ok (front, length front)
