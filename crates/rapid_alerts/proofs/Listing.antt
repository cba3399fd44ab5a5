-- Lists of alerts whose subjects stand at places.
use Rattle.std.proofs.Common.{◌≡◌, ℕ, suc, zero, ◌+◌, ◌<◌, ◌≤◌, Bool, true, false, ◌&&◌, List, [], ◌∷◌, ◌++◌, length, map, take, drop, refl, sym, ap, subst, ◌∙◌, append-nil, arith, nat_eq, Some}
use Rattle.std.specs.Prelude.{All, slice_get, Result, Ok, Err, OnErr}
use Rattle.std.specs.Bool.{Decides}
use Rattle.std.proofs.lemmas.Bool.{and_parts, eqb-true, and_from}
use Rattle.std.proofs.lemmas.Cmp.{nat_eq_equiv}
use Rattle.std.proofs.lemmas.Option.{slice_get_within, get_or_from_slice_get}
use Rattle.std.proofs.lemmas.List.{take_more, take_all, map_push, length-map, length-append, get_or_append_left, get_or-drop, length-drop}
use Rattle.std.proofs.lemmas.List.Elements.{All-append, All-from_recursion, All-map, All-weaker}
use Rattle.rapid_model.specs.Process.{Process, same_bytes}
use Rattle.rapid_model.specs.Alert as model
use Rattle.rapid_model.specs.Message.{AlertItem, item_of, batch_alerts, alert_of as read_as}
use Rattle.rapid_model.proofs.Orders.{same_bytes_decides}
use Rattle.rapid_alerts.specs.Alerts.{ListedAlerts, ArePlaced, alert_of_ref, alerts_in, item_in, kind_of}
use Rattle.rapid_alerts.specs.Listing.{Grows}
use Rattle.rapid_alerts.specs.declared.alert.AlertRef.{AlertRef}
use Rattle.rapid_alerts.specs.declared.alert.Kind.{Kind}
use Rattle.rapid_alerts.specs.declared.alert.Kind.TheVariants.{Remove, Join}
use Rattle.rapid_alerts.specs.declared.list.Item.{Item}

-- ---- subjects

-- the one that was put at the end
pub at_end : {A : Type 0} (ss : List A) (s : A) → slice_get (ss ++ s ∷ []) (length ss) ≡ Some s
at_end [] s = refl
at_end (x ∷ ss) s = at_end ss s

-- ---- items

-- what an alert says is the same with more subjects behind
item_still : (ss rest : List Process) (x : Item) → x.place < length ss → item_in (ss ++ rest) x ≡ item_in ss x
item_still ss rest x l = ap (λ s. record { ring = x.ring; kind = kind_of x.kind; subject = s }) (get_or_append_left ss rest [] x.place l)

items_still : (ss rest : List Process) (xs : List Item) → ArePlaced ss xs → map (item_in (ss ++ rest)) xs ≡ map (item_in ss) xs
items_still ss rest [] h = refl
items_still ss rest (x ∷ xs) h =
    let one = item_still ss rest x (h 0 x (omega arith)) in
    let others = items_still ss rest xs (λ i d l. h (suc i) d (omega (arith, l))) in
    λ i. one i ∷ others i

-- alerts say the same once there are more subjects
pub still : (ss new : List Process) (xs : List Item) → Grows ss new → ArePlaced ss xs → map (item_in new) xs ≡ map (item_in ss) xs
still ss new xs g h = ap (λ l. map (item_in l) xs) g.1 ∙ items_still ss g.0 xs h

-- and their subjects stand at their places
pub still_placed : (ss new : List Process) (xs : List Item) → Grows ss new → ArePlaced ss xs → ArePlaced new xs
still_placed ss new xs g h =
    All-weaker (λ x. x.place < length ss) (λ x. x.place < length new)
    (λ x l. let more = ap length g.1 in let both = length-append ss g.0 in omega (arith, l, more, both)) xs h

-- one alert more, whose subject stands at its place
pub more_items : (ss new : List Process) (xs : List Item) (x : Item) (s : Process) → Grows ss new → ArePlaced ss xs → slice_get new x.place ≡ Some s
    → map (item_in new) (xs ++ x ∷ []) ≡ map (item_in ss) xs ++ (record { ring = x.ring; kind = kind_of x.kind; subject = s }) ∷ []
more_items ss new xs x s g h at =
    map_push (item_in new) xs x
    ∙ ap (λ l. l ++ item_in new x ∷ []) (still ss new xs g h)
    ∙ ap (λ p. map (item_in ss) xs ++ (record { ring = x.ring; kind = kind_of x.kind; subject = p }) ∷ []) (get_or_from_slice_get new x.place s [] at)

pub more_placed : (ss new : List Process) (xs : List Item) (x : Item) (s : Process) → Grows ss new → ArePlaced ss xs → slice_get new x.place ≡ Some s → ArePlaced new (xs ++ x ∷ [])
more_placed ss new xs x s g h at =
    All-append (λ y. y.place < length new) xs (x ∷ []) (still_placed ss new xs g h)
    (All-from_recursion (λ y. y.place < length new) (x ∷ []) (slice_get_within new x.place s at, tt))

-- no subject more
pub as_they_were : (ss : List Process) → Grows ss ss
as_they_were ss = ([], sym (append-nil ss))

-- a list is its observer, its configuration and what its alerts say
pub listed_is : (observer config : List ℕ) {xs ys : List AlertItem} → xs ≡ ys → ◌≡◌ {A = ListedAlerts} (record { observer = observer; config = config; items = xs }) (record { observer = observer; config = config; items = ys })
listed_is observer config e = ap (λ (xs : List AlertItem). let l : ListedAlerts = record { observer = observer; config = config; items = xs } in l) e

-- what holds in any case holds after an error
pub whenever : {X E P : Type 0} (r : Result X E) → P → OnErr r P
whenever (Ok x) p = tt
whenever (Err e) p = p

-- ---- one alert of a list

-- a place among the alerts is one among the items
pub within_items : (ss : List Process) (xs : List Item) (at : ℕ) (l : ListedAlerts) → map (item_in ss) xs ≡ l.items → at < length (alerts_in l) → at < length xs
within_items ss xs at l e h =
    let whole = length-map l.items (read_as l.observer l.config) in
    let same = ap length e in
    let own = length-map xs (item_in ss) in
    omega (arith, h, whole, same, own)

pub slice_get_map : {A B : Type 0} (f : A → B) (xs : List A) (i : ℕ) (a : A) → slice_get xs i ≡ Some a → slice_get (map f xs) i ≡ Some (f a)
slice_get_map f [] i a h = cc
slice_get_map f (x ∷ xs) zero a h = let e : x ≡ a = cc in ap (λ y. Some (f y)) e
slice_get_map f (x ∷ xs) (suc i) a h = slice_get_map f xs i a h

-- what an alert of the program says, if its parts are those of a place
pub item_at_place : (ss : List Process) (xs : List Item) (i : ℕ) (x : Item) (s : Process) → slice_get xs i ≡ Some x → slice_get ss x.place ≡ Some s
    → slice_get (map (item_in ss) xs) i ≡ Some (record { ring = x.ring; kind = kind_of x.kind; subject = s })
item_at_place ss xs i x s at there =
    slice_get_map (item_in ss) xs i x at
    ∙ ap (λ p. Some (record { ring = x.ring; kind = kind_of x.kind; subject = p })) (get_or_from_slice_get ss x.place s [] there)

pub alert_at_place : (l : ListedAlerts) (i : ℕ) (x : AlertItem) → slice_get l.items i ≡ Some x → slice_get (alerts_in l) i ≡ Some (read_as l.observer l.config x)
alert_at_place l i x h = slice_get_map (read_as l.observer l.config) l.items i x h

items_back : (from : Process) (id : List ℕ) (xs : List AlertItem) → map item_of (batch_alerts from id xs) ≡ xs
items_back from id [] = refl
items_back from id (x ∷ xs) = ap (λ ys. x ∷ ys) (items_back from id xs)

-- what the alerts of a list say is what the list has
pub listed_items : (l : ListedAlerts) → map item_of (alerts_in l) ≡ l.items
listed_items l = items_back l.observer l.config l.items

-- what an alert says is the item at its place
pub item_of_alert : (l : ListedAlerts) (i : ℕ) (a : model.Alert) → slice_get (alerts_in l) i ≡ Some a → slice_get l.items i ≡ Some (item_of a)
item_of_alert l i a h = ap (λ xs. slice_get xs i) (sym (listed_items l)) ∙ slice_get_map item_of (alerts_in l) i a h

-- the subject at a place is that of the alert there
pub subject_is : (xs : List model.Alert) (i : ℕ) (a : model.Alert) (s : Process) → slice_get (map (λ x. x.subject) xs) i ≡ Some s → slice_get xs i ≡ Some a → s ≡ a.subject
subject_is xs i a s h k = let e : Some s ≡ Some a.subject = sym h ∙ slice_get_map (λ x. x.subject) xs i a k in cc

-- the alert that was put at the end
pub last_at : (xs ys : List model.Alert) (a : model.Alert) (at : ℕ) → ys ≡ xs ++ a ∷ [] → at ≡ length xs → slice_get ys at ≡ Some a
last_at xs ys a at e n = (λ i. slice_get (e i) (n i)) ∙ at_end xs a

-- ---- lists of the same alerts

front_more : {A : Type 0} (xs : List A) (i : ℕ) (a : A) → slice_get xs i ≡ Some a → take (i + 1) xs ≡ take i xs ++ a ∷ []
front_more xs i a h = take_more xs i a (slice_get_within xs i a h) ∙ ap (λ x. take i xs ++ x ∷ []) (get_or_from_slice_get xs i a a h)

-- two fronts of lists go on alike
pub fronts_more : (xs ys : List model.Alert) (i : ℕ) (a b : model.Alert) → slice_get xs i ≡ Some a → slice_get ys i ≡ Some b → a ≡ b → take i xs ≡ take i ys → take (i + 1) xs ≡ take (i + 1) ys
fronts_more xs ys i a b h k e so_far = front_more xs i a h ∙ (λ j. so_far j ++ e j ∷ []) ∙ sym (front_more ys i b k)

pub fronts_all : (xs ys : List model.Alert) (i : ℕ) → length xs ≤ i → length ys ≤ i → take i xs ≡ take i ys → xs ≡ ys
fronts_all xs ys i h k e = sym (take_all i xs h) ∙ e ∙ take_all i ys k

same_kind : (E : Kind → Kind → Bool) → E Remove Join ≡ false → E Join Remove ≡ false → (k l : Kind) → E k l ≡ true → kind_of k ≡ kind_of l
same_kind E a b Remove Remove e = refl
same_kind E a b Remove Join e = let n : false ≡ true = sym a ∙ e in cc
same_kind E a b Join Remove e = let n : false ≡ true = sym b ∙ e in cc
same_kind E a b Join Join e = refl

kind_back : (E : Kind → Kind → Bool) → E Remove Remove ≡ true → E Join Join ≡ true → (k l : Kind) → kind_of k ≡ kind_of l → E k l ≡ true
kind_back E a b Remove Remove e = a
kind_back E a b Remove Join e = cc
kind_back E a b Join Remove e = cc
kind_back E a b Join Join e = b

bytes_back : (a b : List ℕ) → a ≡ b → same_bytes a b ≡ true
bytes_back a b e = (same_bytes_decides a b).1 e

number_back : (a b : ℕ) → a ≡ b → nat_eq a b ≡ true
number_back a b e = subst (λ n. nat_eq a n ≡ true) e (nat_eq_equiv.refl a)

-- two items are one if their parts are
pub items_decide : (E : Kind → Kind → Bool) → ((k l : Kind) → Decides (E k l) (k ≡ l)) → (x y : Item)
    → Decides (nat_eq x.place y.place && (nat_eq x.ring y.ring && E x.kind y.kind)) (x ≡ y)
items_decide E h x y = (one, other)
  where
    one : (nat_eq x.place y.place && (nat_eq x.ring y.ring && E x.kind y.kind)) ≡ true → x ≡ y
    one e =
        let p = and_parts _ _ e in
        let q = and_parts _ _ p.1 in
        let place : x.place ≡ y.place = eqb-true x.place y.place p.0 in
        let ring : x.ring ≡ y.ring = eqb-true x.ring y.ring q.0 in
        let kind : x.kind ≡ y.kind = (h x.kind y.kind).0 q.1 in
        λ i. record { place = place i; ring = ring i; kind = kind i }

    other : x ≡ y → (nat_eq x.place y.place && (nat_eq x.ring y.ring && E x.kind y.kind)) ≡ true
    other e =
        and_from _ _ (number_back _ _ (ap (λ (z : Item). z.place) e))
        (and_from _ _ (number_back _ _ (ap (λ (z : Item). z.ring) e)) ((h x.kind y.kind).1 (ap (λ (z : Item). z.kind) e)))

-- kinds are told from each other
pub kinds_decide : (E : Kind → Kind → Bool) → E Remove Remove ≡ true → E Join Join ≡ true → E Remove Join ≡ false → E Join Remove ≡ false → (k l : Kind) → Decides (E k l) (k ≡ l)
kinds_decide E a b m n Remove Remove = (λ e. refl, λ e. a)
kinds_decide E a b m n Remove Join = (λ e. let f : false ≡ true = sym m ∙ e in cc, λ e. cc)
kinds_decide E a b m n Join Remove = (λ e. let f : false ≡ true = sym n ∙ e in cc, λ e. cc)
kinds_decide E a b m n Join Join = (λ e. refl, λ e. b)

-- alerts of which all parts are the same
pub same_parts : (E : Kind → Kind → Bool) → E Remove Join ≡ false → E Join Remove ≡ false → (a b : AlertRef)
    → (same_bytes a.observer b.observer && (same_bytes a.subject b.subject && (nat_eq a.ring b.ring && (E a.kind b.kind && same_bytes a.config.now b.config.now)))) ≡ true
    → alert_of_ref a ≡ alert_of_ref b
same_parts E m n a b h =
    let p = and_parts _ _ h in
    let q = and_parts _ _ p.1 in
    let r = and_parts _ _ q.1 in
    let s = and_parts _ _ r.1 in
    let observer : a.observer ≡ b.observer = (same_bytes_decides a.observer b.observer).0 p.0 in
    let subject : a.subject ≡ b.subject = (same_bytes_decides a.subject b.subject).0 q.0 in
    let ring : a.ring ≡ b.ring = eqb-true a.ring b.ring r.0 in
    let kind : kind_of a.kind ≡ kind_of b.kind = same_kind E m n a.kind b.kind s.0 in
    let config : a.config.now ≡ b.config.now = (same_bytes_decides a.config.now b.config.now).0 s.1 in
    λ i. record { observer = observer i; subject = subject i; ring = ring i; kind = kind i; config = config i }

pub parts_back : (E : Kind → Kind → Bool) → E Remove Remove ≡ true → E Join Join ≡ true → (a b : AlertRef) → alert_of_ref a ≡ alert_of_ref b
    → (same_bytes a.observer b.observer && (same_bytes a.subject b.subject && (nat_eq a.ring b.ring && (E a.kind b.kind && same_bytes a.config.now b.config.now)))) ≡ true
parts_back E p q a b e =
    and_from _ _ (bytes_back _ _ (ap (λ x. x.observer) e))
    (and_from _ _ (bytes_back _ _ (ap (λ x. x.subject) e))
    (and_from _ _ (number_back _ _ (ap (λ x. x.ring) e)) (and_from _ _ (kind_back E p q a.kind b.kind (ap (λ x. x.kind) e)) (bytes_back _ _ (ap (λ x. x.config) e)))))

-- if two lists are one, so are two alerts at the same place
pub same_at : (xs ys : List model.Alert) (i : ℕ) (a b : model.Alert) → xs ≡ ys → slice_get xs i ≡ Some a → slice_get ys i ≡ Some b → a ≡ b
same_at xs ys i a b e h k = let s : Some a ≡ Some b = sym h ∙ ap (λ l. slice_get l i) e ∙ k in cc

-- ---- a stretch of a list

-- one more of what stands behind the first ones
pub stretch_more : {A : Type 0} (xs : List A) (from i : ℕ) (a : A) → slice_get xs (from + i) ≡ Some a → take (i + 1) (drop from xs) ≡ take i (drop from xs) ++ a ∷ []
stretch_more xs from i a h =
    let within : from + i < length xs = slice_get_within xs (from + i) a h in
    let left = length-drop from xs in
    let l : i < length (drop from xs) = omega (arith, within, left) in
    take_more (drop from xs) i a l ∙ ap (λ x. take i (drop from xs) ++ x ∷ []) (get_or-drop from xs i a ∙ get_or_from_slice_get xs (from + i) a a h)

-- ---- batches

-- the alerts of a list have its observer and its configuration
pub of_observer : (l : ListedAlerts) → All (λ a. a.observer ≡ l.observer) (alerts_in l)
of_observer l = All-map (λ a. a.observer ≡ l.observer) (read_as l.observer l.config) l.items (λ i d k. refl)

pub of_config : (l : ListedAlerts) → All (λ a. a.config ≡ l.config) (alerts_in l)
of_config l = All-map (λ a. a.config ≡ l.config) (read_as l.observer l.config) l.items (λ i d k. refl)

-- one alert more of the same observer and configuration
pub listed_more : (l m : ListedAlerts) (a : model.Alert) → m ≡ record l { items = l.items ++ item_of a ∷ [] } → a.observer ≡ l.observer → a.config ≡ l.config → alerts_in m ≡ alerts_in l ++ a ∷ []
listed_more l m a e o c =
    ap alerts_in e ∙ map_push (read_as l.observer l.config) l.items (item_of a)
    ∙ ap (λ x. alerts_in l ++ x ∷ []) (λ i. record { observer = sym o i; subject = a.subject; ring = a.ring; kind = a.kind; config = sym c i })
