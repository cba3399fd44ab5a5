-- Tags: words that a process has of its own. What they are, their bytes, and how they are read.
use Rattle.std.specs.Prelude.{◌≡◌, ℕ, ◌≤◌, zero, suc, Bool, true, not, ◌&&◌, ◌==◌, List, [], ◌∷◌, ◌++◌, flat_map, length, take, drop, nat_lt, nat_le, if◌then◌else◌, IsTrue, Option, Some, None, Result, Ok, Err}
use Rattle.std.specs.List.{list_all}
use Rattle.std.specs.Ordering.{is_lt, nat_cmp}
use Rattle.std.specs.Cmp.Lexicographic.{slice_cmp}

-- A tag is a string of bytes.
abbrev pub Tag : Type 0
Tag = List ℕ

-- The most tags of a process.
abbrev pub most_tags : ℕ
most_tags = 8

-- The most bytes of a tag.
abbrev pub most_tag_bytes : ℕ
most_tag_bytes = 64

-- A tag may have this byte: one that prints and is no space, no comma and no square bracket.
abbrev pub is_tag_byte : ℕ → Bool
is_tag_byte b = nat_le 0x21 b && nat_le b 0x7e && not (b == 0x2c) && not (b == 0x5b) && not (b == 0x5d)

-- A tag may have this length.
abbrev pub is_tag_length : ℕ → Bool
is_tag_length n = nat_le 1 n && nat_le n most_tag_bytes

-- The string is a tag.
abbrev pub is_tag : Tag → Bool
is_tag t = is_tag_length (length t) && list_all is_tag_byte t

-- One tag is below another. They are ordered by their own bytes, as in a dictionary.
abbrev pub is_below : Tag → Tag → Bool
is_below t u = is_lt (slice_cmp nat_cmp t u)

-- Each is above the one before it, and the first above this one.
abbrev pub ascend_from : Tag → List Tag → Bool
ascend_from t [] = true
ascend_from t (u ∷ us) = is_below t u && ascend_from u us

-- Each is above the one before it. The first is above the empty string, as each tag is.
abbrev pub tags_ascend : List Tag → Bool
tags_ascend ts = ascend_from [] ts

-- The bytes of a tag are its length and then its own.
abbrev pub tag_bytes : Tag → List ℕ
tag_bytes t = length t ∷ t

-- The bytes of tags are their number and then those of each.
abbrev pub tags_bytes : List Tag → List ℕ
tags_bytes ts = length ts ∷ flat_map tag_bytes ts

-- These are the tags of a process, and these are their bytes.
pub record AreTags (ts : List Tag) (bytes : List ℕ) : Type 0 where
  pub few : length ts ≤ most_tags
  pub tags : IsTrue (list_all is_tag ts)
  pub ascending : IsTrue (tags_ascend ts)
  pub spelt : bytes ≡ tags_bytes ts

-- Why a list is not that of the tags of a process.
pub data TagsRefusal : Type 0 where
  BadTag : TagsRefusal
  TooManyTags : TagsRefusal
  TagsNotSorted : TagsRefusal

-- Why a list is not that of the tags of a process: the first that holds.
abbrev pub tags_refusal : List Tag → Option TagsRefusal
tags_refusal ts =
    if nat_lt most_tags (length ts) then Some TooManyTags
    else if not (list_all is_tag ts) then Some BadTag
    else if not (tags_ascend ts) then Some TagsNotSorted
    else None

-- How tags are printed: between square brackets, with commas between them. None are printed as nothing.
abbrev pub tags_text : List Tag → List ℕ
tags_text [] = []
tags_text (t ∷ ts) = 0x5b ∷ t ++ flat_map (λ u. 0x2c ∷ u) ts ++ 0x5d ∷ []

-- The first n tags in bytes that have the length of each before it.
abbrev pub tags_in : ℕ → List ℕ → List Tag
tags_in zero bytes = []
tags_in (suc n) [] = []
tags_in (suc n) (l ∷ bytes) = take l bytes ∷ tags_in n (drop l bytes)

-- The tags in their bytes.
abbrev pub tags_of : List ℕ → List Tag
tags_of [] = []
tags_of (n ∷ bytes) = tags_in n bytes

-- What is met first, from the left, where bytes do not begin with tags.
pub data TagsFault : Type 0 where
  Truncated : TagsFault
  BadTags : TagsFault

-- The tag in front of the bytes, which is to be above the one before it, and what follows. Whether it is above is judged
-- at its end.
abbrev pub tag_at : Tag → List ℕ → Result (Tag × List ℕ) TagsFault
tag_at before [] = Err Truncated
tag_at before (n ∷ bytes) =
    if not (is_tag_length n) then Err BadTags
    else if not (list_all is_tag_byte (take n bytes)) then Err BadTags
    else if nat_lt (length bytes) n then Err Truncated
    else if not (is_below before (take n bytes)) then Err BadTags
    else Ok (take n bytes, drop n bytes)

-- One step after another.
abbrev pub and_then : Result (Tag × List ℕ) TagsFault → (Tag → List ℕ → Result (List ℕ) TagsFault)
    → Result (List ℕ) TagsFault
and_then (Ok x) f = f x.0 x.1
and_then (Err e) f = Err e

-- What follows n tags in front of the bytes, the first of which is to be above this one.
unfoldable pub after_some : ℕ → Tag → List ℕ → Result (List ℕ) TagsFault
after_some zero before bytes = Ok bytes
after_some (suc n) before bytes = and_then (tag_at before bytes) (λ t rest. after_some n t rest)

-- What follows the tags in front of the bytes, or what is met first.
unfoldable pub after_tags : List ℕ → Result (List ℕ) TagsFault
after_tags [] = Err Truncated
after_tags (n ∷ bytes) = if nat_lt most_tags n then Err BadTags else after_some n [] bytes

-- What is spelt is read, whatever follows.
abbrev pub SpeltTagsAreRead : Type 0
SpeltTagsAreRead = (ts : List Tag) (bytes rest : List ℕ) → AreTags ts bytes → after_tags (bytes ++ rest) ≡ Ok rest

-- What is read was spelt.
abbrev pub ReadTagsAreSpelt : Type 0
ReadTagsAreSpelt = (bytes rest : List ℕ) → after_tags bytes ≡ Ok rest → (front : List ℕ) × AreTags (tags_of front) front × (bytes ≡ front ++ rest)

-- Tags have one spelling, no bytes spell two lists of tags, and no tags begin others.
abbrev pub TagsTell : Type 0
TagsTell = (ts us : List Tag) (a b x y : List ℕ) → AreTags ts a → AreTags us b → a ++ x ≡ b ++ y → (ts ≡ us) × (a ≡ b) × (x ≡ y)
