-- How the notes of a service go on.
use Rattle.std.proofs.Common.{◌≡◌, ◌⊎◌, ◌+◌, ◌^◌, ◌<◌, Bool, true, false, if◌then◌else◌, Result, Ok, Err, OnOk, OnErr, List, [], ◌∷◌, ◌++◌, append-nil, append_assoc, length, map, Option, None, Some, inl, inr, ap, sym, subst, ◌∙◌, arith}
use Rattle.std.proofs.lemmas.List.{length-append, map-append}
use Rattle.rapid_model.specs.Bytes.{Text}
use Rattle.rapid_model.specs.Configuration.{Configuration}
use Rattle.rapid_node.specs.declared.phase.Phase.{Phase}
use Rattle.rapid_lines.specs.Asking.{note_at}
use Rattle.rapid_lines.specs.ViewText.{view_text}
use Rattle.rapid_lines.specs.declared.asking.Asking.{Asking}
use Rattle.rapid_lines.specs.declared.note.Note.{Note}
use Rattle.rapid_lines.specs.declared.note.Note.TheVariants as note
use Rattle.rapid_service.specs.declared.present.Present.{Present}
use Rattle.rapid_service.specs.Entering.{Views, after_entering}
use Rattle.rapid_service.specs.Filters.{TickedIn}
use Rattle.rapid_service.specs.Noting.{NotesRemoval, AddsRemovals, NotesQuestion, AsksOrNone, asking_after}

-- Who adds none keeps them.
pub adds_same : (old new : List Note) → new ≡ old → AddsRemovals old new
adds_same old new same = ([], same ∙ sym (append-nil old))

-- Who adds that the node was removed keeps those that waited.
pub adds_removal : (phase : Phase) (present : Option Present) (old new : List Note) → NotesRemoval phase present old new → AddsRemovals old new
adds_removal phase present old new (inl same) = adds_same old new same
adds_removal phase None old new (inr removed) = absurd removed.1
adds_removal phase (Some p) old new (inr removed) = (p.view.height ∷ [], removed.1)

-- Notes are kept by one after another.
pub adds_more : (old mid new : List Note) → AddsRemovals old mid → AddsRemovals mid new → AddsRemovals old new
adds_more old mid new first next = (
  first.0 ++ next.0,
  next.1 ∙ ap (λ notes. notes ++ map note.Removed next.0) first.1 ∙ append_assoc old (map note.Removed first.0) (map note.Removed next.0)
      ∙ ap (λ l. old ++ l) (sym (map-append note.Removed first.0 next.0)),
)

-- A view with the same configuration has the same note.
pub removal_in : (phase : Phase) (present other : Option Present) (old new : List Note) → TickedIn present other → NotesRemoval phase present old new → NotesRemoval phase other old new
removal_in phase present other old new ticked (inl same) = inl same
removal_in phase None other old new ticked (inr removed) = absurd removed.1
removal_in phase (Some p) None old new ticked (inr removed) = absurd ticked
removal_in phase (Some p) (Some q) old new ticked (inr removed) = inr (removed.0, subst (λ (c : Configuration). new ≡ old ++ note.Removed c.height ∷ []) (sym ticked.0) removed.1)

-- A question that was to be reported is, or not.
pub questioned : {T E : Type 0} (added : Result T E) (full : Bool) (a : Asking) (old new : List Note) (x : Note) → OnOk added (new ≡ (if full then old else old ++ x ∷ [])) → OnErr added (new ≡ old) → (a.ticks + 1 < 2 ^ 64 → Some x ≡ note_at a.seed (a.ticks + 1) a.answer)
    → NotesQuestion (Some a) old new
questioned (Ok t) true a old new x is same due = inl is
questioned (Ok t) false a old new x is same due = inr (x, (λ few. sym (due few)), is)
questioned (Err e) full a old new x is same due = inl same

-- A note that was to be added is, or not.
pub noted : {T E : Type 0} (added : Result T E) (full : Bool) (old new : List Note) (x : Note) → OnOk added (new ≡ (if full then old else old ++ x ∷ [])) → OnErr added (new ≡ old) → (new ≡ old) ⊎ (new ≡ old ++ x ∷ [])
noted (Ok t) true old new x is same = inl is
noted (Ok t) false old new x is same = inr is
noted (Err e) full old new x is same = inl same

longer : (lines : Text) (v : Configuration) → length lines < length (lines ++ view_text v)
longer lines v = let whole = length-append lines (view_text v) in let some : 0 < length (view_text v) = omega arith in omega (arith, whole, some)

-- Who enters a view asks no more, and adds its line.
pub asks_one : (entered : Option Configuration) (old new : Views) (asking next : Option Asking) → new ≡ after_entering old entered → next ≡ asking_after entered asking → AsksOrNone old.lines asking new.lines next
asks_one None old new asking next views asked = inl (ap (λ (w : Views). w.lines) views, asked)
asks_one (Some v) old new asking next views asked =
    inr (subst (λ (l : Text). length old.lines < length l) (sym (ap (λ (w : Views). w.lines) views)) (longer old.lines v), asked)

-- So if it is answered Ok.
pub asked_or_none : {E : Type 0} (r : Result (Unit {0}) E) (entered : Option Configuration) (old new : Views) (asking next : Option Asking) → OnOk r (new ≡ after_entering old entered) → OnOk r (next ≡ asking_after entered asking) → OnOk r (AsksOrNone old.lines asking new.lines next)
asked_or_none (Ok u) entered old new asking next views asked = asks_one entered old new asking next views asked
asked_or_none (Err e) entered old new asking next views asked = tt

-- After some steps one more.
pub asks_more : (lines mid more : Text) (old between new : Option Asking) → AsksOrNone lines old mid between → AsksOrNone mid between more new → AsksOrNone lines old more new
asks_more lines mid more old between new (inl same) (inl next) = inl (next.0 ∙ same.0, next.1 ∙ same.1)
asks_more lines mid more old between new (inl same) (inr none) = inr (omega (arith, ap length same.0, none.0), none.1)
asks_more lines mid more old between new (inr none) (inl next) = inr (omega (arith, ap length next.0, none.0), next.1 ∙ none.1)
asks_more lines mid more old between new (inr first) (inr none) = inr (omega (arith, first.0, none.0), none.1)
