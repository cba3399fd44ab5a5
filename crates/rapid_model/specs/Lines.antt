-- The lines of an input, and the words and numbers in a line.
use Rattle.std.specs.Prelude.{ℕ, Bool, true, false, not, ◌&&◌, ◌==◌, List, [], ◌∷◌, filter, length, nat_le, if◌then◌else◌, Option, Some, None}
use Rattle.std.specs.List.{list_all}
use Rattle.rapid_model.specs.Limits.{longest_line}
use Rattle.rapid_model.specs.Bytes.{Line, Word, Text}
use Rattle.rapid_model.specs.EndpointText.{in_front, is_number, value_of}

-- The byte that ends a line.
abbrev pub line_feed : ℕ
line_feed = 10

-- The byte that may stand before it.
abbrev pub carriage_return : ℕ
carriage_return = 13

-- The byte between words.
abbrev pub space : ℕ
space = 32

-- The byte that a comment begins with.
abbrev pub hash : ℕ
hash = 35

-- The line ends here.
abbrev pub ends_here : Text → Bool
ends_here [] = false
ends_here (x ∷ xs) = x == line_feed

-- The lines of an input: a line feed ends a line, the last line may lack it, and one carriage return before it is
-- dropped.
abbrev pub lines : Text → List Line
lines [] = []
lines (x ∷ xs) =
    if x == line_feed then [] ∷ lines xs
    else if (x == carriage_return) && ends_here xs then lines xs
    else in_front x (lines xs)

-- A byte of a word, or a space.
abbrev pub is_allowed : ℕ → Bool
is_allowed b = nat_le space b && nat_le b 126

-- A line has at most 256 bytes, all of them allowed.
abbrev pub is_plain : Line → Bool
is_plain line = nat_le (length line) longest_line && list_all is_allowed line

-- The pieces of a line between its spaces.
abbrev pub pieces : Line → List Word
pieces [] = [] ∷ []
pieces (x ∷ xs) = if x == space then [] ∷ pieces xs else in_front x (pieces xs)

-- A piece is a word if it has a byte.
abbrev pub is_word : Word → Bool
is_word [] = false
is_word (x ∷ xs) = true

-- The words of a line are its pieces that are not empty.
abbrev pub words : Line → List Word
words line = filter is_word (pieces line)

-- The first byte of the line is a hash.
abbrev pub is_comment : Line → Bool
is_comment [] = false
is_comment (x ∷ xs) = x == hash

-- The words of a line: none if the line is bad, no words if it is skipped.
abbrev pub line_words : Line → Option (List Word)
line_words line = if not (is_plain line) then None else if is_comment line then Some [] else Some (words line)

-- The number that a word spells without leading zeros, if it is one up to the limit.
abbrev pub number_up_to : ℕ → Word → Option ℕ
number_up_to limit w = if is_number 20 limit w then Some (value_of w) else None
