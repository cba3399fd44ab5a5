-- What is spelt of tags is read, what is read was spelt, and no tags begin others.
use Rattle.std.proofs.Common.{◌≡◌, ℕ, zero, suc, ◌≤◌, Bool, true, false, not, ◌&&◌, cond, List, [], ◌∷◌, ◌++◌, length, take, drop, refl, sym, ap, subst, ◌∙◌, append_assoc, append-nil, length-append, arith}
use Rattle.std.specs.Prelude.{flat_map, nat_lt, Result, Ok, Err}
use Rattle.std.specs.List.{list_all}
use Rattle.std.proofs.lemmas.Bool.{le-ltb, ltb-false, not-false, and_from}
use Rattle.std.proofs.lemmas.List.{take-append-drop, length-take-le}
use Rattle.std.proofs.Math.Seq.{take-append_seam, drop-append_seam}
use Rattle.rapid_model.specs.Tags.{Tag, most_tags, is_tag_byte, is_tag_length, is_tag, is_below, ascend_from, tag_bytes, tags_bytes, AreTags, tags_in, tags_of, TagsFault, Truncated, BadTags, tag_at, and_then, after_some, after_tags, SpeltTagsAreRead, ReadTagsAreSpelt, TagsTell}

-- ---- tests of more than one part

pub both_of : (a b : Bool) → (a && b) ≡ true → (a ≡ true) × (b ≡ true)
both_of true b h = (refl, h)
both_of false b h = absurd cc

-- the test of an error failed, and the rest gives what is given
pub passed : {A : Type 0} (b : Bool) (e : TagsFault) (r : Result A TagsFault) (x : A) → cond b (Err e) r ≡ Ok x
    → (b ≡ false) × (r ≡ Ok x)
passed true e r x h = absurd cc
passed false e r x h = (refl, h)

abbrev pub some_ok : {A : Type 0} → A → Result A TagsFault
some_ok x = Ok x

pub ok_is : {A : Type 0} (x y : A) → some_ok x ≡ some_ok y → x ≡ y
ok_is x y e = cc

-- ---- one tag

pub tag_read : (before t : Tag) (rest : List ℕ) → is_tag t ≡ true → is_below before t ≡ true
    → tag_at before (tag_bytes t ++ rest) ≡ Ok (t, rest)
tag_read before t rest h above =
    let parts = both_of (is_tag_length (length t)) (list_all is_tag_byte t) h in
    let front = take-append_seam t rest in
    let behind = drop-append_seam t rest in
    let long : nat_lt (length (t ++ rest)) (length t) ≡ false =
    le-ltb (length (t ++ rest)) (length t) (omega (arith, length-append t rest)) in
    let given : List ℕ → List ℕ → Result (Tag × List ℕ) TagsFault = λ u v. Ok (u, v) in
    (λ i. cond (not (parts.0 i)) (Err BadTags) (cond (not (list_all is_tag_byte (front i))) (Err BadTags) (cond (long i) (Err Truncated) (cond (not (is_below before (front i))) (Err BadTags) (given (front i) (behind i))))))
    ∙ (λ i. cond (not (parts.1 i)) (Err BadTags) (cond (not (above i)) (Err BadTags) (given t rest)))

pub tag_taken : (before : Tag) (bytes : List ℕ) (x : Tag × List ℕ) → tag_at before bytes ≡ Ok x
    → (is_tag x.0 ≡ true) × (is_below before x.0 ≡ true) × (bytes ≡ tag_bytes x.0 ++ x.1)
tag_taken before [] x h = absurd cc
tag_taken before (n ∷ bytes) x h =
    let one = passed (not (is_tag_length n)) BadTags _ x h in
    let two = passed (not (list_all is_tag_byte (take n bytes))) BadTags _ x one.1 in
    let three = passed (nat_lt (length bytes) n) Truncated _ x two.1 in
    let four = passed (not (is_below before (take n bytes))) BadTags _ x three.1 in
    let enough : n ≤ length bytes = ltb-false (length bytes) n three.0 in
    let long = length-take-le n bytes enough in
    let whole : Tag × List ℕ = (take n bytes, drop n bytes) in
    subst (λ (z : Tag × List ℕ). (is_tag z.0 ≡ true) × (is_below before z.0 ≡ true) × (n ∷ bytes ≡ tag_bytes z.0 ++ z.1)) (ok_is whole x four.1) (
      and_from (is_tag_length (length (take n bytes))) (list_all is_tag_byte (take n bytes)) (ap is_tag_length long ∙ not-false _ one.0) (not-false _ two.0),
      not-false _ four.0,
      (λ i. sym long i ∷ sym (take-append-drop n bytes) i),
    )

-- ---- tags, one after another

pub some_read : (ts : List Tag) (before : Tag) (rest : List ℕ) → list_all is_tag ts ≡ true
    → ascend_from before ts ≡ true → after_some (length ts) before (flat_map tag_bytes ts ++ rest) ≡ Ok rest
unfolding after_some
some_read [] before rest h k = refl
some_read (t ∷ ts) before rest h k =
    let first = both_of (is_tag t) (list_all is_tag ts) h in
    let above = both_of (is_below before t) (ascend_from t ts) k in
    ap (λ bytes. and_then (tag_at before bytes) (λ u after. after_some (length ts) u after)) (append_assoc (tag_bytes t) (flat_map tag_bytes ts) rest)
    ∙ ap (λ r. and_then r (λ u after. after_some (length ts) u after)) (tag_read before t (flat_map tag_bytes ts ++ rest) first.0 above.0)
    ∙ some_read ts t rest first.1 above.1

-- what a step gives
then_ok : (r : Result (Tag × List ℕ) TagsFault) (f : Tag → List ℕ → Result (List ℕ) TagsFault) (rest : List ℕ)
    → and_then r f ≡ Ok rest → (x : Tag × List ℕ) × (r ≡ Ok x) × (f x.0 x.1 ≡ Ok rest)
then_ok (Ok x) f rest h = (x, refl, h)
then_ok (Err e) f rest h = absurd cc

pub some_taken : (n : ℕ) (before : Tag) (bytes rest : List ℕ) → after_some n before bytes ≡ Ok rest
    → (ts : List Tag) × (length ts ≡ n) × (list_all is_tag ts ≡ true) × (ascend_from before ts ≡ true) × (bytes ≡ flat_map tag_bytes ts ++ rest)
unfolding after_some
some_taken zero before bytes rest h = ([], refl, refl, refl, ok_is bytes rest h)
some_taken (suc n) before bytes rest h =
    let one = then_ok (tag_at before bytes) (λ u after. after_some n u after) rest h in
    let t = one.0.0 in
    let tag = tag_taken before bytes one.0 one.1 in
    let more = some_taken n t one.0.1 rest one.2 in (
      t ∷ more.0,
      ap suc more.1,
      and_from (is_tag t) (list_all is_tag more.0) tag.0 more.2,
      and_from (is_below before t) (ascend_from t more.0) tag.1 more.3,
      tag.2 ∙ ap (λ l. tag_bytes t ++ l) more.4 ∙ sym (append_assoc (tag_bytes t) (flat_map tag_bytes more.0) rest),
    )

-- the tags stand in their bytes
pub tags_back : (ts : List Tag) (rest : List ℕ) → tags_in (length ts) (flat_map tag_bytes ts ++ rest) ≡ ts
tags_back [] rest = refl
tags_back (t ∷ ts) rest =
    let more = flat_map tag_bytes ts ++ rest in
    ap (tags_in (suc (length ts))) (append_assoc (tag_bytes t) (flat_map tag_bytes ts) rest)
    ∙ (λ i. take-append_seam t more i ∷ tags_in (length ts) (drop-append_seam t more i))
    ∙ ap (λ us. t ∷ us) (tags_back ts rest)

-- ---- all tags

pub spelt_tags_are_read : SpeltTagsAreRead
unfolding after_tags
spelt_tags_are_read ts bytes rest h =
    let few : nat_lt most_tags (length ts) ≡ false = le-ltb most_tags (length ts) h.few in
    ap (λ l. after_tags (l ++ rest)) h.spelt
    ∙ ap (λ b. cond b (Err BadTags) (after_some (length ts) [] (flat_map tag_bytes ts ++ rest))) few
    ∙ some_read ts [] rest h.tags h.ascending

-- the bytes of tags, and the tags in them
pub tags_in_bytes : (ts : List Tag) (bytes : List ℕ) → AreTags ts bytes → tags_of bytes ≡ ts
tags_in_bytes ts bytes h =
    ap tags_of h.spelt ∙ ap (tags_in (length ts)) (sym (append-nil (flat_map tag_bytes ts))) ∙ tags_back ts []

pub read_tags_are_spelt : ReadTagsAreSpelt
unfolding after_tags
read_tags_are_spelt [] rest h = absurd cc
read_tags_are_spelt (n ∷ bytes) rest h =
    let few = passed (nat_lt most_tags n) BadTags (after_some n [] bytes) rest h in
    let some = some_taken n [] bytes rest few.1 in
    let ts = some.0 in
    let front : List ℕ = tags_bytes ts in
    let are : AreTags ts front =
    record { few = subst (λ k. k ≤ most_tags) (sym some.1) (ltb-false most_tags n few.0); tags = some.2; ascending = some.3; spelt = refl } in (
      front,
      subst (λ us. AreTags us front) (sym (tags_in_bytes ts front are)) are,
      (λ i. sym some.1 i ∷ some.4 i),
    )

-- the tags in front of bytes
front_tags : (ts : List Tag) (bytes rest : List ℕ) → AreTags ts bytes → tags_of (bytes ++ rest) ≡ ts
front_tags ts bytes rest h = ap (λ l. tags_of (l ++ rest)) h.spelt ∙ tags_back ts rest

pub tags_tell : TagsTell
tags_tell ts us a b x y h k e =
    let one : ts ≡ us = sym (front_tags ts a x h) ∙ ap tags_of e ∙ front_tags us b y k in (
      one,
      h.spelt ∙ ap tags_bytes one ∙ sym k.spelt,
      ok_is x y (sym (spelt_tags_are_read ts a x h) ∙ ap after_tags e ∙ spelt_tags_are_read us b y k),
    )
