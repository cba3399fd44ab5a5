-- What is kept is a repeat if it comes again, and nothing else is.
use Rattle.std.proofs.Common.{◌≡◌, ◌⊎◌, inl, inr, ℕ, ◌+◌, ◌≤◌, Bool, true, false, cond, List, [], ◌∷◌, ◌++◌, map, length, All, Contains, Some, None, refl, sym, ap, subst, ◌∙◌, arith}
use Rattle.std.specs.Prelude.{◌-◌, ◌^◌, min}
use Rattle.std.proofs.lemmas.List.Elements.{All-nil, All-weaker, All-contains, Contains-append_left, Contains-append_right, Contains-append_cases, Contains-push}
use Rattle.rapid_model.specs.Bytes.{ConfigurationId}
use Rattle.rapid_model.specs.Process.{same_bytes}
use Rattle.rapid_model.specs.Configuration.{Configuration, configuration_id}
use Rattle.rapid_model.specs.Message.{Message, Body, Batch, FastVote, PreJoin, JoinRequest}
use Rattle.rapid_model.proofs.Orders.{same_bytes_decides}
use Rattle.rapid_repeats.specs.Repeating.{Passed, WasPassed, IsTimely, IsRepeatIn, passed_after, of_members_in}
use Rattle.rapid_repeats.specs.Remembering.{Filter, IsSoughtOf, Remembers, IsFilter, IsRepeatFor, KeepsSame}
use Rattle.rapid_repeats.specs.Parts.{Adds, Judges}
use Rattle.rapid_repeats.proofs.Tables.{each, mapped, in_map, adds_all}

-- ---- one message

-- It was let through before, within its time.
abbrev pub WasLet : ℕ → List Passed → Message → Body → Type 0
WasLet now passed m b = (t : ℕ) × Contains passed (record { message = m; ticks = t }) × IsTimely b t now

was_let : (here : ConfigurationId) (now : ℕ) (passed : List Passed) (m : Message) (b : Body) → IsRepeatIn here now passed m b → WasLet now passed m b
was_let here now passed m (Batch id xs) h = (h.1.0, h.1.1, tt)
was_let here now passed m (FastVote id v) h = (h.1.0, h.1.1, tt)
was_let here now passed m (JoinRequest id k) h = (h.1.0, h.1.1, tt)
was_let here now passed m PreJoin h = h
was_let here now passed m b h = absurd h

named : (id here : ConfigurationId) (of_members is : Bool) → cond (same_bytes id here) (Some of_members) None ≡ Some is → (id ≡ here) × (of_members ≡ is)
named id here of_members is e = by (same_bytes id here) refl e
  where
    by : (b : Bool) → same_bytes id here ≡ b → cond b (Some of_members) None ≡ Some is → (id ≡ here) × (of_members ≡ is)
    by true s e = ((same_bytes_decides id here).0 s, cc)
    by false s e = cc

-- What members alone are to say is a repeat at any time.
repeats_of_members : (here : ConfigurationId) (now : ℕ) (passed : List Passed) (m : Message) (b : Body) → of_members_in here b ≡ Some true → WasPassed passed m → IsRepeatIn here now passed m b
repeats_of_members here now passed m (Batch id xs) e was = ((named id here true true e).0, was)
repeats_of_members here now passed m (FastVote id v) e was = ((named id here true true e).0, was)
repeats_of_members here now passed m (JoinRequest id k) e was = let wrong = (named id here false true e).1 in cc
repeats_of_members here now passed m b e was = cc

repeats_of_others : (here : ConfigurationId) (now : ℕ) (passed : List Passed) (m : Message) (b : Body) → of_members_in here b ≡ Some false → WasLet now passed m b → IsRepeatIn here now passed m b
repeats_of_others here now passed m (JoinRequest id k) e was = ((named id here false false e).0, (was.0, was.1))
repeats_of_others here now passed m PreJoin e was = was
repeats_of_others here now passed m (Batch id xs) e was = let wrong = (named id here true false e).1 in cc
repeats_of_others here now passed m (FastVote id v) e was = let wrong = (named id here true false e).1 in cc
repeats_of_others here now passed m b e was = cc

timely_now : (b : Body) (n : ℕ) → IsTimely b n n
timely_now PreJoin n = omega arith
timely_now b n = tt

-- ---- what a filter keeps

-- An equal message is kept, and of others within its time.
abbrev pub IsKept : Filter → Message → Type 0
IsKept r m = Contains r.members m ⊎ WasLet r.ticks r.others m m.body

abbrev at_start : Message → Passed
at_start m = record { message = m; ticks = 0 }

-- Of what was let through by a filter only what it keeps may be known.
remembers_kept : (r : Filter) (c : Configuration) (now : ℕ) (passed : List Passed) → Remembers r c now passed → Remembers r c now (map at_start r.members ++ r.others)
remembers_kept r c now passed h =
    let ms = map at_start r.members in
    record {
      configuration = h.configuration;
      ticks = h.ticks;
      members = each (WasPassed (ms ++ r.others)) r.members (λ m i. (0, Contains-append_left ms r.others (record { message = m; ticks = 0 }) (in_map at_start r.members m i)));
      others = each (Contains (ms ++ r.others)) r.others (λ p i. Contains-append_right ms r.others p i);
      members_sought = h.members_sought;
      others_sought = h.others_sought;
      few_members = h.few_members;
      few_others = h.few_others;
    }

-- What is a repeat for a filter is kept by it.
is_kept : (r : Filter) (c : Configuration) (now : ℕ) (passed : List Passed) (m : Message) → Remembers r c now passed → IsRepeatFor r m → IsKept r m
is_kept r c now passed m h again =
    let was = was_let (configuration_id c) now (map at_start r.members ++ r.others) m m.body (again c now _ (remembers_kept r c now passed h)) in
    by was.0 was.2 (Contains-append_cases (map at_start r.members) r.others (record { message = m; ticks = was.0 }) was.1)
  where
    by : (t : ℕ) → IsTimely m.body t now → Contains (map at_start r.members) (record { message = m; ticks = t }) ⊎ Contains r.others (record { message = m; ticks = t }) → IsKept r m
    by t timely (inl i) =
        let d = mapped at_start r.members _ i in
        inl (subst (Contains r.members) (ap (λ (p : Passed). p.message) d.2) d.1)
    by t timely (inr i) = inr (t, i, subst (IsTimely m.body t) (sym h.ticks) timely)

-- What is kept is a repeat.
is_repeat : (r : Filter) (m : Message) → IsKept r m → IsRepeatFor r m
is_repeat r m (inl i) = λ c now passed h.
    repeats_of_members (configuration_id c) now passed m m.body (All-contains (IsSoughtOf c true) r.members m h.members_sought i).body (All-contains (WasPassed passed) r.members m h.members i)
is_repeat r m (inr was) = λ c now passed h.
    repeats_of_others (configuration_id c) now passed m m.body (All-contains (λ (p : Passed). IsSoughtOf c false p.message) r.others _ h.others_sought was.1).body
    (was.0, All-contains (Contains passed) r.others _ h.others was.1, subst (IsTimely m.body was.0) h.ticks was.2)

-- It is looked for as what members alone are to say, or as what others say, not as both.
not_both : (c d : Configuration) (m : Message) → c ≡ d → IsSoughtOf c true m → IsSoughtOf d false m → ⊥
not_both c d m e is other = let wrong : Some true ≡ Some false = sym is.body ∙ ap (λ x. of_members_in (configuration_id x) m.body) e ∙ other.body in cc

-- ---- how a filter goes on

was_more : (passed : List Passed) (x : Passed) (m : Message) → WasPassed passed m → WasPassed (passed ++ x ∷ []) m
was_more passed x m was = (was.0, Contains-append_left passed (x ∷ []) _ was.1)

-- A message was let through, and is not kept.
remembers_more : (r : Filter) (c : Configuration) (now : ℕ) (passed : List Passed) (x : Passed) → Remembers r c now passed → Remembers r c now (passed ++ x ∷ [])
remembers_more r c now passed x h =
    record {
      configuration = h.configuration;
      ticks = h.ticks;
      members = All-weaker (WasPassed passed) (WasPassed (passed ++ x ∷ [])) (was_more passed x) r.members h.members;
      others = All-weaker (Contains passed) (Contains (passed ++ x ∷ [])) (λ y i. Contains-append_left passed (x ∷ []) y i) r.others h.others;
      members_sought = h.members_sought;
      others_sought = h.others_sought;
      few_members = h.few_members;
      few_others = h.few_others;
    }

-- A tick more.
pub remembers_tick : (r : Filter) (c : Configuration) (now : ℕ) (passed : List Passed) (n : ℕ) → n ≡ min (r.ticks + 1) (2 ^ 64 - 1) → Remembers r c now passed → Remembers (record r { ticks = n }) c (min (now + 1) (2 ^ 64 - 1)) passed
remembers_tick r c now passed n e h =
    record {
      configuration = h.configuration;
      ticks = e ∙ ap (λ t. min (t + 1) (2 ^ 64 - 1)) h.ticks;
      members = h.members;
      others = h.others;
      members_sought = h.members_sought;
      others_sought = h.others_sought;
      few_members = h.few_members;
      few_others = h.few_others;
    }

-- At first nothing is kept.
pub remembers_nothing : (c : Configuration) (ms : List Message) (os : List Passed) → ms ≡ [] → os ≡ [] → Remembers (record { configuration = c; ticks = 0; members = ms; others = os }) c 0 []
remembers_nothing c ms os e k =
    record {
      configuration = refl;
      ticks = refl;
      members = subst (All (WasPassed [])) (sym e) (All-nil (WasPassed []));
      others = subst (All (Contains [])) (sym k) (All-nil (Contains []));
      members_sought = subst (All (IsSoughtOf c true)) (sym e) (All-nil (IsSoughtOf c true));
      others_sought = subst (All (λ (p : Passed). IsSoughtOf c false p.message)) (sym k) (All-nil (λ (p : Passed). IsSoughtOf c false p.message));
      few_members = subst (λ xs. length xs ≤ 2048) (sym e) (omega arith);
      few_others = subst (λ xs. length xs ≤ 4096) (sym k) (omega arith);
    }

-- A message of a member was let through, and may be kept.
remembers_member : (c : Configuration) (ticks : ℕ) (ms ns : List Message) (os : List Passed) (m : Message) (d : Configuration) (now : ℕ) (passed : List Passed) → Remembers (record { configuration = c; ticks = ticks; members = ms; others = os }) d now passed
    → IsSoughtOf c true m → Adds ms m ns → length ns ≤ 2048 → Remembers (record { configuration = c; ticks = ticks; members = ns; others = os }) d now (passed ++ record { message = m; ticks = now } ∷ [])
remembers_member c ticks ms ns os m d now passed h sought adds few =
    let more = remembers_more _ d now passed (record { message = m; ticks = now }) h in
    record {
      configuration = more.configuration;
      ticks = more.ticks;
      members = adds_all (WasPassed (passed ++ record { message = m; ticks = now } ∷ [])) ms m ns adds more.members (now, Contains-push passed (record { message = m; ticks = now }));
      others = more.others;
      members_sought = adds_all (IsSoughtOf d true) ms m ns adds h.members_sought (subst (λ x. IsSoughtOf x true m) h.configuration sought);
      others_sought = h.others_sought;
      few_members = few;
      few_others = h.few_others;
    }

-- A message of another was let through, and may be kept.
remembers_other : (c : Configuration) (ticks : ℕ) (ms : List Message) (os ns : List Passed) (m : Message) (d : Configuration) (now : ℕ) (passed : List Passed) → Remembers (record { configuration = c; ticks = ticks; members = ms; others = os }) d now passed
    → IsSoughtOf c false m → Adds os (record { message = m; ticks = ticks }) ns → length ns ≤ 4096
    → Remembers (record { configuration = c; ticks = ticks; members = ms; others = ns }) d now (passed ++ record { message = m; ticks = now } ∷ [])
remembers_other c ticks ms os ns m d now passed h sought adds few =
    let x : Passed = record { message = m; ticks = now } in
    let more = remembers_more _ d now passed x h in
    record {
      configuration = more.configuration;
      ticks = more.ticks;
      members = more.members;
      others = adds_all (Contains (passed ++ x ∷ [])) os (record { message = m; ticks = ticks }) ns adds more.others (subst (λ t. Contains (passed ++ x ∷ []) (record { message = m; ticks = t })) (sym h.ticks) (Contains-push passed x));
      members_sought = h.members_sought;
      others_sought = adds_all (λ (p : Passed). IsSoughtOf d false p.message) os (record { message = m; ticks = ticks }) ns adds h.others_sought (subst (λ c. IsSoughtOf c false m) h.configuration sought);
      few_members = h.few_members;
      few_others = few;
    }

-- ---- a message is judged

-- A message of which repeats are not looked for is let through.
pub not_sought : (r : Filter) (m : Message) → IsFilter r → ((of_members : Bool) → IsSoughtOf r.configuration of_members m → ⊥) → Judges r m true r
not_sought r m i never =
    record {
      dropped = λ c now passed h e. cc;
      repeats = λ again. absurd (by (is_kept r i.0 i.1 i.2 m i.3 again));
      learned = λ sought e. inr (refl, refl);
      kept = λ c now passed h. remembers_more r c now passed (record { message = m; ticks = now }) h;
    }
  where
    by : IsKept r m → ⊥
    by (inl j) = never true (subst (λ c. IsSoughtOf c true m) (sym i.3.configuration) (All-contains (IsSoughtOf i.0 true) r.members m i.3.members_sought j))
    by (inr was) = never false (subst (λ c. IsSoughtOf c false m) (sym i.3.configuration) (All-contains (λ (p : Passed). IsSoughtOf i.0 false p.message) r.others _ i.3.others_sought was.1))

-- What members alone are to say is let through unless it is kept.
pub judged_member : (c : Configuration) (ticks : ℕ) (ms ns : List Message) (os : List Passed) (m : Message) (passes : Bool) → IsFilter (record { configuration = c; ticks = ticks; members = ms; others = os }) → IsSoughtOf c true m
    → (passes ≡ false → Contains ms m) → (passes ≡ false → ns ≡ ms) → (Contains ms m → passes ≡ false) → Adds ms m ns → length ns ≤ 2048
    → Judges (record { configuration = c; ticks = ticks; members = ms; others = os }) m passes (record { configuration = c; ticks = ticks; members = ns; others = os })
judged_member c ticks ms ns os m passes i sought dropped same told adds few =
    record {
      dropped = λ d now passed h e. is_repeat _ m (inl (dropped e)) d now passed h;
      repeats = λ again. repeats (is_kept _ i.0 i.1 i.2 m i.3 again);
      learned = λ _ e. learned adds.learned;
      kept = λ d now passed h. kept passes refl d now passed h;
    }
  where
    repeats : IsKept (record { configuration = c; ticks = ticks; members = ms; others = os }) m → passes ≡ false
    repeats (inl j) = told j
    repeats (inr was) = absurd (not_both c i.0 m i.3.configuration sought (All-contains (λ (p : Passed). IsSoughtOf i.0 false p.message) os _ i.3.others_sought was.1))

    learned : Contains ns m ⊎ (ns ≡ ms)
        → IsRepeatFor (record { configuration = c; ticks = ticks; members = ns; others = os }) m ⊎ KeepsSame (record { configuration = c; ticks = ticks; members = ms; others = os }) (record { configuration = c; ticks = ticks; members = ns; others = os })
    learned (inl j) = inl (is_repeat _ m (inl j))
    learned (inr stays) = inr (stays, refl)

    kept : (b : Bool) → passes ≡ b → (d : Configuration) (now : ℕ) (passed : List Passed) → Remembers (record { configuration = c; ticks = ticks; members = ms; others = os }) d now passed
        → Remembers (record { configuration = c; ticks = ticks; members = ns; others = os }) d now (passed_after b m now passed)
    kept true e d now passed h = remembers_member c ticks ms ns os m d now passed h sought adds few
    kept false e d now passed h = subst (λ xs. Remembers (record { configuration = c; ticks = ticks; members = xs; others = os }) d now passed) (sym (same e)) h

-- What others say is let through unless it is kept and within its time.
pub judged_other : (c : Configuration) (ticks : ℕ) (ms : List Message) (os ns : List Passed) (m : Message) (passes : Bool) → IsFilter (record { configuration = c; ticks = ticks; members = ms; others = os }) → IsSoughtOf c false m
    → (passes ≡ false → WasLet ticks os m m.body) → (passes ≡ false → ns ≡ os) → (WasLet ticks os m m.body → passes ≡ false) → Adds os (record { message = m; ticks = ticks }) ns → length ns ≤ 4096
    → Judges (record { configuration = c; ticks = ticks; members = ms; others = os }) m passes (record { configuration = c; ticks = ticks; members = ms; others = ns })
judged_other c ticks ms os ns m passes i sought dropped same told adds few =
    record {
      dropped = λ d now passed h e. is_repeat _ m (inr (dropped e)) d now passed h;
      repeats = λ again. repeats (is_kept _ i.0 i.1 i.2 m i.3 again);
      learned = λ _ e. learned adds.learned;
      kept = λ d now passed h. kept passes refl d now passed h;
    }
  where
    repeats : IsKept (record { configuration = c; ticks = ticks; members = ms; others = os }) m → passes ≡ false
    repeats (inl j) = absurd (not_both i.0 c m (sym i.3.configuration) (All-contains (IsSoughtOf i.0 true) ms m i.3.members_sought j) sought)
    repeats (inr was) = told was

    learned : Contains ns (record { message = m; ticks = ticks }) ⊎ (ns ≡ os)
        → IsRepeatFor (record { configuration = c; ticks = ticks; members = ms; others = ns }) m ⊎ KeepsSame (record { configuration = c; ticks = ticks; members = ms; others = os }) (record { configuration = c; ticks = ticks; members = ms; others = ns })
    learned (inl j) = inl (is_repeat _ m (inr (ticks, j, timely_now m.body ticks)))
    learned (inr stays) = inr (refl, stays)

    kept : (b : Bool) → passes ≡ b → (d : Configuration) (now : ℕ) (passed : List Passed) → Remembers (record { configuration = c; ticks = ticks; members = ms; others = os }) d now passed
        → Remembers (record { configuration = c; ticks = ticks; members = ms; others = ns }) d now (passed_after b m now passed)
    kept true e d now passed h = remembers_other c ticks ms os ns m d now passed h sought adds few
    kept false e d now passed h = subst (λ xs. Remembers (record { configuration = c; ticks = ticks; members = ms; others = xs }) d now passed) (sym (same e)) h

-- After it is judged it is the filter of a configuration still.
pub filter_after : (old new : Filter) (m : Message) (passes : Bool) → IsFilter old → Judges old m passes new → IsFilter new
filter_after old new m passes i j = (i.0, i.1, passed_after passes m i.1 i.2, j.kept i.0 i.1 i.2 i.3)
