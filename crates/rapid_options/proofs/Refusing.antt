-- Why the words of a node are refused.
use Rattle.std.proofs.Common.{◌≡◌, ℕ, List, Option, Some, None, Result, Ok, Err, refl}
use Rattle.rapid_model.specs.Bytes.{Text}
use Rattle.rapid_model.specs.Configuration.{Params, AreParams}
use Rattle.rapid_endpoint.specs.declared.parse_error.ParseError.{ParseError}
use Rattle.rapid_options.specs.declared.options.OptionsError.{OptionsError}
use Rattle.rapid_options.specs.declared.options.OptionsError.TheVariants.{BadParams, Unreadable, NotLocal}
use Rattle.rapid_options.specs.Options.{readable, readable_tags, local_from, endpoint_of, identifier_of, tags_of, IsRefusal}

no_params : (r : Result (List ℕ) ParseError) → readable r ≡ Err BadParams → ⊥
no_params (Ok x) h = cc
no_params (Err fault) h = cc

never_params : (id : Option Text) → identifier_of id ≡ Err BadParams → ⊥
never_params None h = cc
never_params (Some text) h = no_params _ h

-- The identifier is refused if all before it is read.
pub identifier_refused : (params : Params) (listen : Text) (join id tags : Option Text) (place : List ℕ) (seed : Option (List ℕ)) (fault : OptionsError) →
    AreParams params → local_from listen ≡ Ok place → endpoint_of join ≡ Ok seed → identifier_of id ≡ Err fault → IsRefusal params listen join id tags fault
identifier_refused params listen join id tags place seed BadParams ok l j h = absurd (never_params id h)
identifier_refused params listen join id tags place seed (Unreadable fault) ok l j h = (ok, rw (l, j, h) refl)
identifier_refused params listen join id tags place seed NotLocal ok l j h = (ok, rw (l, j, h) refl)

no_tags_params : (r : Result (List ℕ) ParseError) → readable_tags r ≡ Err BadParams → ⊥
no_tags_params (Ok x) h = cc
no_tags_params (Err fault) h = cc

tags_never_params : (tags : Option Text) → tags_of tags ≡ Err BadParams → ⊥
tags_never_params None h = cc
tags_never_params (Some text) h = no_tags_params _ h

-- The tags are refused if all before them is read.
pub tags_refused : (params : Params) (listen : Text) (join id tags : Option Text) (place : List ℕ) (seed name : Option (List ℕ)) (fault : OptionsError) →
    AreParams params → local_from listen ≡ Ok place → endpoint_of join ≡ Ok seed → identifier_of id ≡ Ok name → tags_of tags ≡ Err fault → IsRefusal params listen join id tags fault
tags_refused params listen join id tags place seed name BadParams ok l j n h = absurd (tags_never_params tags h)
tags_refused params listen join id tags place seed name (Unreadable fault) ok l j n h = (ok, rw (l, j, n, h) refl)
tags_refused params listen join id tags place seed name NotLocal ok l j n h = (ok, rw (l, j, n, h) refl)
