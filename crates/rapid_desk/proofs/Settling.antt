-- What is held and published after each outcome of a step.
use Rattle.std.proofs.Common.{◌≡◌, ℕ, ◌<◌, length, Bool, true, false, List, [], ◌∷◌, refl, sym, ap, ◌∙◌, subst}
use Rattle.std.specs.Prelude.{◌&&◌, ◌||◌, not, Option, Some, None, Result, Ok, Err, nat_le, IsSome, OnOk, OnErr, IfErr}
use Rattle.rapid_model.specs.Configuration.{Configuration, Stamp}
use Rattle.rapid_model.specs.Node.{Node, Event, configuration_of, has_installed, halt}
use Rattle.rapid_model.specs.Journal.{with_event}
use Rattle.rapid_desk.specs.declared.error.DeskError.{DeskError}
use Rattle.rapid_desk.specs.declared.error.DeskError.TheVariants as error
use Rattle.rapid_desk.specs.States.{DeskState}
use Rattle.rapid_desk.specs.Desks.{HeldValue, BoardValue, NotTaken, TakesNoEdge, Refused, state_with, state_of, is_blank, Keeps, Advances, Tried, Installs, Grown, Shown, NotEntered}
use Rattle.rapid_desk.proofs.Moving.{enters_shows}
use Rattle.rapid_desk.proofs.Keeping.{enters, has_room}
use Rattle.rapid_desk.proofs.Stepping.{Well, edge_full, goes_on, begins, not_shown, stays_full, halts}

-- what is held is by its parts
pub by_parts : (g : HeldValue) (entry n : Node) (j : List _) (full : Bool) (published : List Stamp) → g.entry ≡ entry → g.journal ≡ j → g.full ≡ full → g.node ≡ n → state_of entry j full n published ≡ state_with g published
by_parts g entry n j full published e k f m = λ i. state_of (sym e i) (sym k i) (sym f i) (sym m i) published

well_at : (old : DeskState) (e : Event) (a b : DeskState) → a ≡ b → Well old e a → Well old e b
well_at old e a b is w = subst (Well old e) is w

pub goes : (h g : HeldValue) (published : List Stamp) (e : Event) → Keeps (state_with h published) → Tried h e → has_installed h.node h.next ≡ false → g.entry ≡ h.entry → g.full ≡ h.full → g.journal ≡ with_event h.journal e → g.node ≡ h.next → Well (state_with h published) e (state_with g published)
goes h g published e k t none entry full journal node =
    well_at (state_with h published) e _ _ (by_parts g h.entry h.next g.journal g.full published entry refl refl node)
    (goes_on h.entry h.node h.next h.journal g.journal h.full g.full published e k t.0 full t.1 t.2 none journal)

pub starts : (h g : HeldValue) (published published1 : List Stamp) (e : Event) → Keeps (state_with h published) → Tried h e → has_installed h.node h.next ≡ true → g.entry ≡ h.next → g.full ≡ h.full → g.journal ≡ [] → g.node ≡ h.next → Grown (configuration_of h.next) published published1 → Well (state_with h published) e (state_with g published1)
starts h g published published1 e k t some entry full journal node grown =
    well_at (state_with h published) e _ _ (by_parts g g.entry h.next g.journal g.full published1 refl refl refl node)
    (begins h.entry h.node h.next g.entry h.journal g.journal h.full g.full published published1 e k t.0 full t.1 t.2 some entry journal grown)

-- the desk could not publish what the node installed
pub lost : (h g : HeldValue) (published : List Stamp) (e : Event) → Keeps (state_with h published) → Tried h e → has_installed h.node h.next ≡ true → g.entry ≡ h.entry → g.journal ≡ h.journal → g.full ≡ h.full → g.node ≡ halt h.next
    → ((x : Node) × Installs h.node e x × (state_with g published ≡ record (state_with h published) { node = halt x })) × Keeps (state_with g published)
lost h g published e k t some entry journal full node =
    let r = not_shown h.entry h.node h.next g.node h.journal g.journal h.full g.full published published e k full journal t.1 t.2 some node refl in
    let is : state_of h.entry g.journal g.full g.node published ≡ state_with g published = by_parts g h.entry g.node g.journal g.full published entry refl refl refl in
    ((r.0.0, r.0.1, sym is ∙ r.0.2), subst Keeps is r.1)

pub same_state : (h g : HeldValue) (published : List Stamp) → g.entry ≡ h.entry → g.journal ≡ h.journal → g.full ≡ h.full → g.node ≡ h.node → state_with g published ≡ state_with h published
same_state h g published entry journal full node = sym (by_parts g h.entry h.node h.journal h.full published entry journal full node)

is_some_of : (x : Option Configuration) (c : Configuration) → x ≡ Some c → IsSome x
is_some_of None c h = cc
is_some_of (Some d) c h = refl

pub shows : (h : HeldValue) (published : List Stamp) (e : Event) → Keeps (state_with h published) → Tried h e → has_installed h.node h.next ≡ true → IsSome (configuration_of h.next)
shows h published e k t some =
    let new = enters h.node e t.2.0 k.joins t.2.1 (ap (has_installed h.node) (sym t.2.2) ∙ some) in
    is_some_of (configuration_of h.next) new.config (ap configuration_of t.2.2 ∙ enters_shows h.node.installed t.2.0.node new)

room_for : (h : HeldValue) (published : List Stamp) (e : Event) → Keeps (state_with h published) → Tried h e → has_installed h.node h.next ≡ true → length published < 65536
room_for h published e k t some = has_room (state_with h published) e t.2.0 t.1 t.2.1 (ap (has_installed h.node) (sym t.2.2) ∙ some) k

-- what is published is not blank any more
pub not_blank : (shown : Option Configuration) (old new : List Stamp) → Grown shown old new → is_blank new ≡ false
not_blank None old new h = absurd h
not_blank (Some c) [] new h = ap is_blank h.0
not_blank (Some c) (s ∷ old) new h = ap is_blank h.0

-- ---- the seats, and what is shown

blank_before : (was now : Bool) → now ≡ false → was ≡ (was && not now)
blank_before true now h = rw h refl
blank_before false now h = refl

-- a view that is published has seats
pub seats_shown : {A : Type 0} (r : Result A DeskError) (shown : Option Configuration) (b b1 : BoardValue) → OnOk r (b1.seats ≡ (b.seats || is_blank b.published)) → OnOk r (Grown shown b.published b1.published)
    → OnOk r (b1.seats ≡ (b.seats || (is_blank b.published && not (is_blank b1.published))))
seats_shown (Ok a) shown b b1 seats grown =
    seats ∙ ap (λ (x : Bool). b.seats || x) (blank_before (is_blank b.published) (is_blank b1.published) (not_blank shown b.published b1.published grown))
seats_shown (Err e) shown b b1 seats grown = tt

-- as long as nothing is published the seats stay
pub seats_same : (seats blank : Bool) → seats ≡ (seats || (blank && not blank))
seats_same true blank = refl
seats_same false true = refl
seats_same false false = refl

pub shown_grown : {A : Type 0} (r : Result A DeskError) (some : Bool) (shown : Option Configuration) (old new : List Stamp) → some ≡ true → OnOk r (Grown shown old new) → OnOk r (Shown some shown old new)
shown_grown (Ok a) some shown old new is grown = subst (λ x. Shown x shown old new) (sym is) grown
shown_grown (Err e) some shown old new is grown = tt

pub shown_same : (some : Bool) (shown : Option Configuration) (stamps : List Stamp) → some ≡ false → Shown some shown stamps stamps
shown_same some shown stamps is = subst (λ x. Shown x shown stamps stamps) (sym is) refl

-- ---- by what the calls answer

pub after_enter : {A : Type 0} (r : Result A DeskError) (h g : HeldValue) (b b1 : BoardValue) (e : Event) → Keeps (state_with h b.published) → Tried h e → has_installed h.node h.next ≡ true
    → OnOk r ((g.entry ≡ h.next) × (g.journal ≡ []) × (g.full ≡ h.full) × (g.node ≡ h.next)) → OnOk r (Grown (configuration_of h.next) b.published b1.published) → IfErr r (NotEntered h g) → OnErr r (b1 ≡ b)
    → Keeps (state_with g b1.published) × OnOk r (Advances (state_with h b.published) e (state_with g b1.published) × (g.node ≡ h.next)) × IfErr r (Refused (state_with h b.published) e (state_with g b1.published))
after_enter (Ok a) h g b b1 e k t some held grown refused same =
    let w = starts h g b.published b1.published e k t some held.0 held.2 held.1 held.3 grown in
    (w.keeps, (w.advances, held.3), tt)
after_enter (Err error.OutOfMemory) h g b b1 e k t some held grown refused same =
    let is : state_with g b1.published ≡ state_with h b.published = λ i. state_with (refused i) (same i).published in
    (subst Keeps (sym is) k, tt, (t.0, is))
after_enter (Err error.Unpublished) h g b b1 e k t some held grown refused same =
    let l = lost h g b.published e k t some refused.0 refused.1 refused.2 refused.3 in
    let is : state_with g b1.published ≡ state_with g b.published = λ i. state_with g (same i).published in
    (subst Keeps (sym is) l.1, tt, (t.0, room_for h b.published e k t some, (l.0.0, l.0.1, is ∙ l.0.2)))
after_enter (Err error.JournalFull) h g b b1 e k t some held grown refused same = absurd refused
after_enter (Err (error.Node f)) h g b b1 e k t some held grown refused same = absurd refused
after_enter (Err error.TooManySubscribers) h g b b1 e k t some held grown refused same = absurd refused
after_enter (Err error.BadCapacity) h g b b1 e k t some held grown refused same = absurd refused

pub after_keep : (h g : HeldValue) (b : BoardValue) (e : Event) → Keeps (state_with h b.published) → Tried h e → has_installed h.node h.next ≡ false
    → (g.entry ≡ h.entry) × (g.full ≡ h.full) → (g.journal ≡ with_event h.journal e) × (g.node ≡ h.next)
    → Keeps (state_with g b.published) × (Advances (state_with h b.published) e (state_with g b.published) × (g.node ≡ h.next))
after_keep h g b e k t none same new =
    let w = goes h g b.published e k t none same.0 same.1 new.0 new.1 in
    (w.keeps, (w.advances, new.1))

pub after_refusal : (f : DeskError) (h g : HeldValue) (published : List Stamp) (e : Event) → NotTaken h e g f → (g.entry ≡ h.entry) × (g.journal ≡ h.journal) → Keeps (state_with h published)
    → Keeps (state_with g published) × Refused (state_with h published) e (state_with g published) f
after_refusal error.JournalFull h g published e not same k =
    let r = stays_full h.entry h.node h.journal g.journal h.full g.full published e k not.0 not.1 same.1 in
    let is : state_of h.entry g.journal g.full h.node published ≡ state_with g published = by_parts g h.entry h.node g.journal g.full published same.0 refl refl not.2 in
    (subst Keeps is r.2, (not.0, r.0, sym is ∙ r.1))
after_refusal error.OutOfMemory h g published e not same k =
    let is = same_state h g published same.0 same.1 not.1 not.2 in
    (subst Keeps (sym is) k, (not.0, is))
after_refusal (error.Node f) h g published e not same k =
    let r = halts h.entry h.node g.node h.node h.journal g.journal h.full g.full published e f k not.1 same.1 refl not.2 in
    let is : state_of h.entry g.journal g.full g.node published ≡ state_with g published = by_parts g h.entry g.node g.journal g.full published same.0 refl refl refl in
    (subst Keeps is r.2, (not.0, r.0, sym is ∙ r.1))
after_refusal error.TooManySubscribers h g published e not same k = absurd not
after_refusal error.BadCapacity h g published e not same k = absurd not
after_refusal error.Unpublished h g published e not same k = absurd not

-- ---- an edge that went down, for whose event there was no memory

or_false : (a b : Bool) → (a || b) ≡ false → a ≡ false
or_false true b h = h
or_false false b h = refl

-- the journal has no room for it either
pub edge_full_for : (h g : HeldValue) (n : ℕ) → n ≡ length h.journal → g.full ≡ (h.full || nat_le 65536 n) → g.node ≡ h.node → g.full ≡ true → TakesNoEdge h g error.JournalFull
edge_full_for h g n len full node is id k p = (edge_full h.full h.journal n len id k p ∙ sym full ∙ is, is, node)

-- the journal has room for it
pub edge_unmade : (h g : HeldValue) (n : ℕ) → n ≡ length h.journal → g.full ≡ (h.full || nat_le 65536 n) → g.node ≡ h.node → g.full ≡ false → TakesNoEdge h g error.OutOfMemory
edge_unmade h g n len full node is id k p =
    (edge_full h.full h.journal n len id k p ∙ sym full ∙ is, is ∙ sym (or_false h.full (nat_le 65536 n) (sym full ∙ is)), node)
