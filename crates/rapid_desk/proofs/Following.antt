-- What subscribers hear, compared with what is published.
use Rattle.std.proofs.Common.{◌≡◌, ◌≢◌, ℕ, zero, suc, ◌+◌, ◌<◌, Bool, true, false, cond, Option, Some, None, List, [], ◌∷◌, ◌++◌, length, get_or, set, refl, sym, ap, ◌∙◌, subst, inl, inr, arith}
use Rattle.std.specs.Prelude.{MatchOption, IfSome, IsSomeAnd, slice_get}
use Rattle.std.specs.List.{AllZip}
use Rattle.rapid_line.specs.Ends.{SinkState}
use Rattle.rapid_line.specs.Line.{StartsWith, Untaken}
use Rattle.rapid_model.specs.Node.{Node, configuration_of, has_installed}
use Rattle.rapid_model.specs.Configuration.{Configuration, Stamp, stamp}
use Rattle.rapid_view.specs.Seen.{last_height, Refused}
use Rattle.rapid_view.specs.declared.error.ViewError.{ViewError}
use Rattle.rapid_view.specs.declared.error.ViewError.TheVariants as view
use Rattle.rapid_desk.specs.declared.notice.Notice.{Notice}
use Rattle.rapid_desk.specs.declared.notice.Notice.TheVariants.{Change, Lag, End}
use Rattle.rapid_desk.specs.declared.notice.Loss.TheVariants.{Full}
use Rattle.rapid_desk.specs.declared.notice.State.{State}
use Rattle.rapid_desk.specs.declared.notice.State.TheVariants.{Open, Lagged, Closed}
use Rattle.rapid_desk.specs.Notices.{Served, with_notice, state_of, height_from, IsNextFrom, IsLost, OfferedIn, Offered, EndedIn, Ended}
use Rattle.rapid_desk.specs.Desks.{shown_height, IsNextShown, Follow, Await, AreMarked, Announced, Shown, NotPublished, queues_of, with_known}
use Rattle.rapid_desk.proofs.Marks.{state_of_more, height_more}
use Rattle.rapid_desk.proofs.Each.{Partly}

-- ---- the last height

last_more : (xs : List Stamp) (s : Stamp) → last_height (xs ++ s ∷ []) ≡ s.height
last_more [] s = refl
last_more (x ∷ []) s = refl
last_more (x ∷ y ∷ xs) s = last_more (y ∷ xs) s

pub shown_more : (xs : List Stamp) (s : Stamp) → shown_height (xs ++ s ∷ []) ≡ Some s.height
shown_more [] s = refl
shown_more (x ∷ xs) s = ap Some (last_more (x ∷ xs) s)

pub shown_after : (xs ys : List Stamp) (s : Stamp) → ys ≡ xs ++ s ∷ [] → shown_height ys ≡ Some s.height
shown_after xs ys s is = ap shown_height is ∙ shown_more xs s

pub next_shown : (xs : List Stamp) (h : ℕ) → h ≡ last_height xs + 1 → IsNextShown xs h
next_shown [] h is = tt
next_shown (x ∷ xs) h is = is

pub first_shown : (xs : List Stamp) (h : ℕ) → xs ≡ [] → IsNextShown xs h
first_shown xs h none = subst (λ l. IsNextShown l h) (sym none) tt

-- ---- why a view is not published

pub not_published : (room : ℕ) (seen : List Stamp) (h : ℕ) (e : ViewError) → room ≡ 65536 → Refused room seen h e → NotPublished seen h e
not_published room seen h view.NotNext is r = r
not_published room seen h view.CellFull is r = r.1 ∙ is
not_published room seen h view.OutOfMemory is r = tt
not_published room seen h (view.Behind s) is r = r
not_published room seen h view.NoPlace is r = absurd r

-- ---- a view comes

one_awaits : (published : List Stamp) (s : Served) (h : ℕ) → height_from s.since s.put ≡ shown_height published → IsNextShown published h → IsNextFrom s.since s.put h
one_awaits published s h is next = subst (λ o. MatchOption o (Unit {0}) (λ last. h ≡ last + 1)) (sym is) next

pub awaits : (published : List Stamp) (subscriptions : List Served) (h : ℕ) → Follow (shown_height published) subscriptions → IsNextShown published h → Await h subscriptions
awaits published [] h f next = tt
awaits published (s ∷ subscriptions) h f next = ((λ open_. one_awaits published s h (f.0 open_) next), awaits published subscriptions h f.1 next)

pub await_shown : (installed : Bool) (shown : Option Configuration) (old new : List Stamp) (subscriptions : List Served) → Shown installed shown old new → Follow (shown_height old) subscriptions → installed ≡ true → IfSome shown (λ c. Await c.height subscriptions)
await_shown true None old new subscriptions grown f some = absurd grown
await_shown true (Some c) old new subscriptions grown f some = awaits old subscriptions c.height f grown.1
await_shown false shown old new subscriptions grown f some = let wrong : false ≡ true = some in cc

pub await_at : (c : Configuration) (n : ℕ) (old new : List Served) (d : Served) → Partly (Offered c) n old new → Await c.height old → n < length new → state_of (get_or new n d).put ≡ Open → IsNextFrom (get_or new n d).since (get_or new n d).put c.height
await_at c zero old [] d p a h = absurd (omega arith)
await_at c zero old (x ∷ xs) d p a h = (subst (Await c.height) (sym p) a).0
await_at c (suc n) [] [] d p a h = absurd (omega arith)
await_at c (suc n) [] (z ∷ zs) d p a h = absurd p
await_at c (suc n) (x ∷ xs) [] d p a h = absurd p
await_at c (suc n) (x ∷ xs) (z ∷ zs) d p a h = await_at c n xs zs d p.1 a.1 (omega arith)

-- ---- what follows then

not_open : (a b : State) → a ≡ b → b ≢ Open → a ≢ Open
not_open a b is apart open_ = apart (sym is ∙ open_)

lagged : Lagged ≢ Open
lagged e = cc

closed : Closed ≢ Open
closed e = cc

put_of : (x y : Served) (notice : Notice) → y ≡ with_notice x notice → y.put ≡ x.put ++ notice ∷ []
put_of x y notice is = ap (λ (s : Served). s.put) is

offered_one : (c : Configuration) (x y : Served) (st : State) → state_of x.put ≡ st → OfferedIn st c x y → state_of y.put ≡ Open → height_from y.since y.put ≡ Some c.height
offered_one c x y Open was (inl new) open_ = ap (λ (s : Served). height_from s.since s.put) new.0 ∙ height_more x.since x.put (Change c)
offered_one c x y Open was (inr lost) open_ = absurd (not_open (state_of y.put) Lagged (ap state_of (put_of x y (Lag lost.0) lost.1) ∙ state_of_more x.put (Lag lost.0) was) lagged open_)
offered_one c x y Lagged was same open_ = absurd (not_open (state_of y.put) Lagged (ap (λ (s : Served). state_of s.put) same ∙ was) lagged open_)
offered_one c x y Closed was same open_ = absurd (not_open (state_of y.put) Closed (ap (λ (s : Served). state_of s.put) same ∙ was) closed open_)

follow_offered : (c : Configuration) (old new : List Served) → AllZip (Offered c) old new → Follow (Some c.height) new
follow_offered c [] [] p = tt
follow_offered c [] (y ∷ ys) p = absurd p
follow_offered c (x ∷ xs) [] p = absurd p
follow_offered c (x ∷ xs) (y ∷ ys) p = (offered_one c x y (state_of x.put) refl p.0, follow_offered c xs ys p.1)

pub follow_announced : (installed : Bool) (shown : Option Configuration) (published published1 : List Stamp) (old new : List Served) → Shown installed shown published published1 → Follow (shown_height published) old → Announced installed shown old new → Follow (shown_height published1) new
follow_announced true None published published1 old new grown f a = absurd grown
follow_announced true (Some c) published published1 old new grown f a = subst (λ h. Follow h new) (sym (shown_after published published1 (stamp c) grown.0)) (follow_offered c old new a)
follow_announced false shown published published1 old new same f a = subst (λ h. Follow h new) (ap shown_height (sym same)) (subst (Follow (shown_height published)) (sym a) f)

-- ---- a full queue

lost_full : (s : Served) (room : ℕ) → room ≡ s.capacity + 1 → Untaken s.put s.known room → IsLost s Full
lost_full s room is untaken = (room, omega (arith, is), untaken)

abbrev pub served_by : SinkState Notice → Option ℕ → ℕ → Served
served_by sink since capacity = record { queue = sink.queue; since = since; capacity = capacity; put = sink.put; known = sink.known }

pub lost_here : (sink counted back : SinkState Notice) (since : Option ℕ) (capacity : ℕ) (old : Served) → served_by sink since capacity ≡ old → counted ≡ sink → (back.queue ≡ counted.queue) × (back.known ≡ counted.known) × (back.room ≡ counted.room) → back.put ≡ counted.put → Untaken counted.put counted.known counted.room → sink.room ≡ capacity + 1
    → (served_by back since capacity ≡ old) × IsLost old Full
lost_here sink counted back since capacity old shown same queue put untaken room =
    let here : served_by back since capacity ≡ served_by sink since capacity =
    λ i. record { queue = (queue.0 ∙ ap (λ (x : SinkState Notice). x.queue) same) i; since = since; capacity = capacity; put = (put ∙ ap (λ (x : SinkState Notice). x.put) same) i; known = (queue.1 ∙ ap (λ (x : SinkState Notice). x.known) same) i } in
    let now : Untaken sink.put sink.known sink.room = subst (λ (x : SinkState Notice). Untaken x.put x.known x.room) same untaken in
    (here ∙ shown, subst (λ s. IsLost s Full) shown (lost_full (served_by sink since capacity) sink.room room now))

-- ---- one subscription more, and one that is compared

pub follow_more : (shown : Option ℕ) (old : List Served) (s : Served) → s.since ≡ shown → s.put ≡ [] → Follow shown old → Follow shown (old ++ s ∷ [])
follow_more shown [] s since none f = ((λ open_. ap (height_from s.since) none ∙ since), tt)
follow_more shown (x ∷ old) s since none f = (f.0, follow_more shown old s since none f.1)

some_is : (x y : Served) → Some x ≡ Some y → x ≡ y
some_is x y h = cc

known_one : (shown : Option ℕ) (x s t : Served) (taken : List Notice) → x ≡ s → t ≡ with_known taken s → (state_of x.put ≡ Open → height_from x.since x.put ≡ shown) → state_of t.put ≡ Open → height_from t.since t.put ≡ shown
known_one shown x s t taken same is f open_ =
    let there : state_of s.put ≡ Open = ap (λ (y : Served). state_of y.put) (sym is) ∙ open_ in
    ap (λ (y : Served). height_from y.since y.put) is ∙ ap (λ (y : Served). height_from y.since y.put) (sym same) ∙ f (ap (λ (y : Served). state_of y.put) same ∙ there)

pub follow_known : (shown : Option ℕ) (old : List Served) (n : ℕ) (s t : Served) (taken : List Notice) → slice_get old n ≡ Some s → t ≡ with_known taken s → Follow shown old → Follow shown (set old n t)
follow_known shown [] n s t taken at is f = tt
follow_known shown (x ∷ old) zero s t taken at is f = (known_one shown x s t taken (some_is x s at) is f.0, f.1)
follow_known shown (x ∷ old) (suc n) s t taken at is f = (f.0, follow_known shown old n s t taken at is f.1)

pub follow_pushed : (ok : Bool) (shown : Option ℕ) (old new : List Served) (s : Served) → new ≡ cond ok (old ++ s ∷ []) old → s.since ≡ shown → s.put ≡ [] → Follow shown old → Follow shown new
follow_pushed true shown old new s is since none f = subst (Follow shown) (sym is) (follow_more shown old s since none f)
follow_pushed false shown old new s is since none f = subst (Follow shown) (sym is) f

served_at : (subscriptions : List Served) (n : ℕ) (x : Served) (P : Served → Type 0) → x ≡ get_or subscriptions n x → IsSomeAnd (slice_get subscriptions n) P → slice_get subscriptions n ≡ Some x
served_at [] n x P is h = absurd h
served_at (s ∷ subscriptions) zero x P is h = ap Some (sym is)
served_at (s ∷ subscriptions) (suc n) x P is h = served_at subscriptions n x P is h

at_old : (mine old : List Served) (n : ℕ) (x : Served) (P : Served → Type 0) → mine ≡ old → x ≡ get_or mine n x → IsSomeAnd (slice_get old n) P → slice_get old n ≡ Some x
at_old mine old n x P same is h =
    ap (λ l. slice_get l n) (sym same) ∙ served_at mine n x P is (subst (λ l. IsSomeAnd (slice_get l n) P) (sym same) h)

pub compare_follows : (shown : Option ℕ) (mine old : List Served) (n : ℕ) (x t : Served) (taken : List Notice) (P : Served → Type 0) → mine ≡ old → x ≡ get_or mine n x → IsSomeAnd (slice_get old n) P → t ≡ with_known taken x → Follow shown mine → Follow shown (set mine n t)
compare_follows shown mine old n x t taken P same is h known f =
    follow_known shown mine n x t taken (ap (λ l. slice_get l n) same ∙ at_old mine old n x P same is h) known f

pub compare_known : (mine old : List Served) (n : ℕ) (x t : Served) (taken : List Notice) (P : Served → Type 0) → mine ≡ old → x ≡ get_or mine n x → IsSomeAnd (slice_get old n) P → t ≡ with_known taken x
    → IfSome (slice_get old n) (λ s. set mine n t ≡ set old n (with_known taken s))
compare_known mine old n x t taken P same is h known =
    subst (λ o. IfSome o (λ s. set mine n t ≡ set old n (with_known taken s))) (sym (at_old mine old n x P same is h)) (λ i. set (same i) n (known i))

pub compare_order : (mine old : List Served) (n : ℕ) (x : Served) (taken : List Notice) (P : Served → Type 0) → mine ≡ old → x ≡ get_or mine n x → IsSomeAnd (slice_get old n) P → StartsWith x.put taken
    → IfSome (slice_get old n) (λ s. StartsWith s.put taken)
compare_order mine old n x taken P same is h begins =
    subst (λ o. IfSome o (λ s. StartsWith s.put taken)) (sym (at_old mine old n x P same is h)) begins

-- ---- a step

pub await_in : (b : Bool) (p n m : Node) (old new : List Stamp) (subscriptions : List Served) → Shown (has_installed p m) (configuration_of m) old new → b ≡ has_installed p m → n ≡ m → Follow (shown_height old) subscriptions → b ≡ true
    → IfSome (configuration_of n) (λ c. Await c.height subscriptions)
await_in b p n m old new subscriptions shown is same f some =
    subst (λ x. IfSome (configuration_of x) (λ c. Await c.height subscriptions)) (sym same) (await_shown (has_installed p m) (configuration_of m) old new subscriptions shown f (sym is ∙ some))

pub follow_in : (b : Bool) (p n m : Node) (published published1 : List Stamp) (old new : List Served) → Shown (has_installed p m) (configuration_of m) published published1 → b ≡ has_installed p m → n ≡ m → Follow (shown_height published) old → Announced b (configuration_of n) old new
    → Follow (shown_height published1) new
follow_in b p n m published published1 old new shown is same f told =
    follow_announced (has_installed p m) (configuration_of m) published published1 old new shown f (subst (λ x. Announced (has_installed p m) (configuration_of x) old new) same (subst (λ x. Announced x (configuration_of n) old new) is told))

-- ---- the queues stay

offered_queue : (c : Configuration) (x y : Served) (st : State) → OfferedIn st c x y → y.queue ≡ x.queue
offered_queue c x y Open (inl new) = ap (λ (s : Served). s.queue) new.0
offered_queue c x y Open (inr lost) = ap (λ (s : Served). s.queue) lost.1
offered_queue c x y Lagged same = ap (λ (s : Served). s.queue) same
offered_queue c x y Closed same = ap (λ (s : Served). s.queue) same

queues_offered : (c : Configuration) (old new : List Served) → AllZip (Offered c) old new → queues_of new ≡ queues_of old
queues_offered c [] [] p = refl
queues_offered c [] (y ∷ ys) p = absurd p
queues_offered c (x ∷ xs) [] p = absurd p
queues_offered c (x ∷ xs) (y ∷ ys) p =
    let one = offered_queue c x y (state_of x.put) p.0 in
    let rest = queues_offered c xs ys p.1 in
    λ i. one i ∷ rest i

pub queues_announced : (installed : Bool) (shown : Option Configuration) (old new : List Served) → Announced installed shown old new → queues_of new ≡ queues_of old
queues_announced true None old new same = ap queues_of same
queues_announced true (Some c) old new all = queues_offered c old new all
queues_announced false shown old new same = ap queues_of same

ended_queue : (x y : Served) (st : State) → EndedIn st x y → y.queue ≡ x.queue
ended_queue x y Open new = ap (λ (s : Served). s.queue) new
ended_queue x y Lagged same = ap (λ (s : Served). s.queue) same
ended_queue x y Closed same = ap (λ (s : Served). s.queue) same

pub queues_ended : (old new : List Served) → AllZip Ended old new → queues_of new ≡ queues_of old
queues_ended [] [] p = refl
queues_ended [] (y ∷ ys) p = absurd p
queues_ended (x ∷ xs) [] p = absurd p
queues_ended (x ∷ xs) (y ∷ ys) p =
    let one = ended_queue x y (state_of x.put) p.0 in
    let rest = queues_ended xs ys p.1 in
    λ i. one i ∷ rest i

-- ---- the end

ended_one : (x y : Served) (st : State) → state_of x.put ≡ st → EndedIn st x y → state_of y.put ≢ Open
ended_one x y Open was new = not_open (state_of y.put) Closed (ap state_of (put_of x y End new) ∙ state_of_more x.put End was) closed
ended_one x y Lagged was same = not_open (state_of y.put) Lagged (ap (λ (s : Served). state_of s.put) same ∙ was) lagged
ended_one x y Closed was same = not_open (state_of y.put) Closed (ap (λ (s : Served). state_of s.put) same ∙ was) closed

pub are_marked : (old new : List Served) → AllZip Ended old new → AreMarked new
are_marked [] [] p = tt
are_marked [] (y ∷ ys) p = absurd p
are_marked (x ∷ xs) [] p = absurd p
are_marked (x ∷ xs) (y ∷ ys) p = (ended_one x y (state_of x.put) refl p.0, are_marked xs ys p.1)
