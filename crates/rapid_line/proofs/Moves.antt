-- Each move keeps the rule.
use Rattle.std.proofs.Common.{◌≡◌, ◌≢◌, ℕ, zero, suc, true, false, true≢false, List, [], ◌∷◌, ◌++◌, length, set, sym, refl, ap, ◌∙◌, subst, ⊎_elim, append_assoc, append-nil}
use mathlib.Core.Option.{some, some-ne-none, some-injective}
use lib.ListN.{get_elem?}
use Rattle.crossbeam_queue.specs.Fifo.{Pushes, Pops, Forks, Merges, Learns}
use Rattle.crossbeam_queue.proofs.Lists.{at_set, at_snoc, set_again}
use Rattle.rapid_line.specs.declared.Post.{Post}
use Rattle.rapid_line.specs.Line.{post, StartsWith, Waiting, Coming, Follows, Fits, Kept}

off : false ≡ true → ⊥
off e = true≢false (sym e)

module _ {T : Type 0} where
  follows_more : (next : List T → T → Type 0) (before xs : List T) (x : T) → Follows next before xs → next (before ++ xs) x → Follows next before (xs ++ x ∷ [])
  follows_more next before [] x f n = (subst (λ l. next l x) (append-nil before) n, tt)
  follows_more next before (y ∷ ys) x f n = (f.0, follows_more next (before ++ y ∷ []) ys x f.1 (subst (λ l. next l x) (sym (append_assoc before (y ∷ []) ys)) n))

  follows_at : (next : List T → T → Type 0) (before xs items : List T) (x : T) → Follows next before (xs ++ x ∷ items) → next (before ++ xs) x
  follows_at next before [] items x f = subst (λ l. next l x) (sym (append-nil before)) f.0
  follows_at next before (y ∷ ys) items x f = subst (λ l. next l x) (append_assoc before (y ∷ []) ys) (follows_at next (before ++ y ∷ []) ys items x f.1)

  -- each view still fits after one has changed
  all_set : (F : ℕ → Post T → Type 0) (views : List (Post T)) (port : ℕ) (w : Post T) → F port w → ((j : ℕ) (u : Post T) → j ≢ port → get_elem? views j ≡ some u → F j u) → (j : ℕ) (u : Post T) → get_elem? (set views port w) j ≡ some u → F j u
  all_set F views port w mine others j u e = ⊎_elim (λ (x : (j ≡ port) × (w ≡ u)). subst (λ (y : ℕ × Post T). F y.0 y.1) (λ i. (sym x.0 i, x.1 i)) mine)
      (λ (x : (j ≢ port) × (get_elem? views j ≡ some u)). others j u x.0 x.1) (at_set views port j w u e)

  at_end : (l : List (Post T)) (a b : Post T) (j : ℕ) → get_elem? l j ≢ some b → get_elem? (l ++ a ∷ []) j ≡ some b → j ≡ length l
  at_end [] a b zero n e = refl
  at_end [] a b (suc j) n e = absurd (some-ne-none b (sym e))
  at_end (x ∷ xs) a b zero n e = absurd (n e)
  at_end (x ∷ xs) a b (suc j) n e = ap suc (at_end xs a b j n e)

  longer : (put taken : List T) (x : T) → StartsWith put taken → StartsWith (put ++ x ∷ []) taken
  longer put taken x s = (s.0 ++ x ∷ [], ap (λ l. l ++ x ∷ []) s.1 ∙ append_assoc taken s.0 (x ∷ []))

  same_start : (put known : List T) → known ≡ put → StartsWith put known
  same_start put known e = ([], sym e ∙ sym (append-nil known))

  module _ (next : List T → T → Type 0) where
    pub begins : Kept next [] (post true true [] [] ∷ [])
    begins = record { writer = 0; reader = 0; put = []; taken = []; whole = refl; follows = tt; each = one }
      where
        one : (port : ℕ) (v : Post T) → get_elem? (post {T = T} true true [] [] ∷ []) port ≡ some v → Fits {T = T} 0 0 [] [] port v
        one zero v e = subst (Fits {T = T} 0 0 [] [] 0) (some-injective _ _ e) record { puts = λ _. (refl, refl); takes = λ _. (refl, refl); told = ([], refl); claims = ([], refl) }
        one (suc j) v e = absurd (some-ne-none v (sym e))

    pub puts : (n port : ℕ) (v : Post T) (x : T) → v.puts ≡ true → next v.put x → Pushes (Kept next) n port v x (λ w. w ≡ post v.puts v.takes (v.put ++ x ∷ []) v.taken)
    puts n port v x may follows items views room k at =
        let f = k.each port v at in
        let mine = f.puts may in
        let now : List T = k.put ++ x ∷ [] in
        let w : Post T = post v.puts v.takes (v.put ++ x ∷ []) v.taken in (
          w,
          record {
            writer = k.writer;
            reader = k.reader;
            put = now;
            taken = k.taken;
            whole = ap (λ l. l ++ x ∷ []) k.whole ∙ append_assoc k.taken items (x ∷ []);
            follows = follows_more next [] k.put x k.follows (subst (λ l. next l x) mine.1 follows);
            each = all_set (Fits k.writer k.reader now k.taken) views port w record { puts = λ _. (mine.0, ap (λ l. l ++ x ∷ []) mine.1); takes = f.takes; told = same_start now w.put (ap (λ l. l ++ x ∷ []) mine.1); claims = f.claims }
                (λ j u other e. let g = k.each j u e in record { puts = λ p. absurd (other ((g.puts p).0 ∙ sym mine.0)); takes = g.takes; told = longer k.put u.put x g.told; claims = g.claims });
          },
          refl,
        )

    pub takes : (port : ℕ) (v : Post T) → v.takes ≡ true → Pops (Kept next) port v (λ x w. (w ≡ post v.puts v.takes v.put (v.taken ++ x ∷ [])) × next v.taken x × ((later : List T) × Coming v.taken v.put (x ∷ later)))
    takes port v may x items views k at =
        let f = k.each port v at in
        let mine = f.takes may in
        let now : List T = k.taken ++ x ∷ [] in
        let w : Post T = post v.puts v.takes v.put (v.taken ++ x ∷ []) in
        let whole : k.put ≡ now ++ items = k.whole ∙ sym (append_assoc k.taken (x ∷ []) items) in (
          w,
          record {
            writer = k.writer;
            reader = k.reader;
            put = k.put;
            taken = now;
            whole = whole;
            follows = k.follows;
            each = all_set (Fits k.writer k.reader k.put now) views port w record { puts = f.puts; takes = λ _. (mine.0, ap (λ l. l ++ x ∷ []) mine.1); told = f.told; claims = ([], ap (λ l. l ++ x ∷ []) (sym mine.1) ∙ sym (append-nil (v.taken ++ x ∷ []))) }
                (λ j u other e. let g = k.each j u e in record { puts = g.puts; takes = λ p. absurd (other ((g.takes p).0 ∙ sym mine.0)); told = g.told; claims = longer k.taken u.taken x g.claims });
          },
          (refl, subst (λ l. next l x) (sym mine.1) (follows_at next [] k.taken items x (subst (Follows next []) k.whole k.follows)), (items, (f.told.0, ap (λ l. l ++ x ∷ items) mine.1 ∙ sym k.whole ∙ f.told.1))),
        )

    -- the two ends
    pub parts : (port : ℕ) (v : Post T) → v.puts ≡ true → v.takes ≡ true → Forks (Kept next) port v (post true false v.put []) (post false true [] v.taken)
    parts port v a b items views k at =
        let f = k.each port v at in
        let l : Post T = post true false v.put [] in
        let r : Post T = post false true [] v.taken in
        let vs : List (Post T) = set views port l in
        let Old : ℕ → Post T → Type 0 = λ j u. (u.puts ≡ true → (j ≡ k.writer) × (u.put ≡ k.put)) × (u.takes ≢ true) × StartsWith k.put u.put × StartsWith k.taken u.taken in
        let old : (j : ℕ) (u : Post T) → get_elem? vs j ≡ some u → Old j u = all_set Old views port l ((λ _. f.puts a), (λ p. off p), f.told, (k.taken, refl))
        (λ j u other e. let g = k.each j u e in (g.puts, (λ p. other ((g.takes p).0 ∙ sym (f.takes b).0)), g.told, g.claims)) in record {
          writer = k.writer;
          reader = length vs;
          put = k.put;
          taken = k.taken;
          whole = k.whole;
          follows = k.follows;
          each = λ j u e.
              ⊎_elim
              (λ x. let o = old j u x in record { puts = o.0; takes = λ p. absurd (o.1 p); told = o.2; claims = o.3 })
              (λ (is : r ≡ u). record {
                puts = λ p. absurd (off (ap (λ (y : Post T). y.puts) is ∙ p));
                takes = λ p. (at_end vs r u j (λ x. (old j u x).1 p) e, ap (λ (y : Post T). y.taken) (sym is) ∙ (f.takes b).1);
                told = subst (λ (y : Post T). StartsWith k.put y.put) is (k.put, refl);
                claims = subst (λ (y : Post T). StartsWith k.taken y.taken) is f.claims;
              })
              (at_snoc vs r u j e);
        }

    -- a note of what a pass knows
    note : (port : ℕ) (v : Post T) (put taken : List T) → ((p t : List T) → StartsWith p v.put → StartsWith t v.taken → StartsWith p put × StartsWith t taken) → Forks (Kept next) port v v (post false false put taken)
    note port v put taken says items views k at =
        let f = k.each port v at in
        let r : Post T = post false false put taken in
        let said = says k.put k.taken f.told f.claims in record {
          writer = k.writer;
          reader = k.reader;
          put = k.put;
          taken = k.taken;
          whole = k.whole;
          follows = k.follows;
          each = λ j u e.
              ⊎_elim
              (λ was. k.each j u (subst (λ l. get_elem? l j ≡ some u) (set_again views port v at) was))
              (λ (is : r ≡ u). subst (Fits k.writer k.reader k.put k.taken j) is record { puts = λ p. absurd (off p); takes = λ p. absurd (off p); told = said.0; claims = said.1 })
              (at_snoc (set views port v) r u j e);
        }

    -- a note of what was taken
    pub notes : (port : ℕ) (v : Post T) → Forks (Kept next) port v v (post false false [] v.taken)
    notes port v = note port v [] v.taken (λ p t told claims. ((p, refl), claims))

    -- a note of what was put
    pub put_notes : (port : ℕ) (v : Post T) → Forks (Kept next) port v v (post false false v.put [])
    put_notes port v = note port v v.put [] (λ p t told claims. (told, (t, refl)))

    -- a pass takes in what the other knows to be put, or to be taken
    join : (port : ℕ) (v : Post T) (other : ℕ) (u : Post T) (put taken : List T)
        → ((writer reader : ℕ) (p t : List T) → Fits writer reader p t port v → Fits writer reader p t other u → Fits writer reader p t port (post v.puts v.takes put taken))
        → Merges (Kept next) port v other u (post v.puts v.takes put taken) (post false false [] [])
    join port v other u put taken says items views k at apart there =
        let f = k.each port v at in
        let w : Post T = post v.puts v.takes put taken in
        let F : ℕ → Post T → Type 0 = Fits k.writer k.reader k.put k.taken in
        let g : F other u = ⊎_elim (λ (t : (other ≡ port) × (w ≡ u)). absurd (apart t.0)) (λ (t : (other ≢ port) × (get_elem? views other ≡ some u)). k.each other u t.1) (at_set views port other w u there) in
        let once : (j : ℕ) (y : Post T) → get_elem? (set views port w) j ≡ some y → F j y = all_set F views port w (says k.writer k.reader k.put k.taken f g) (λ j y _ e. k.each j y e) in record {
          writer = k.writer;
          reader = k.reader;
          put = k.put;
          taken = k.taken;
          whole = k.whole;
          follows = k.follows;
          each = all_set F (set views port w) other (post false false [] []) record { puts = λ p. absurd (off p); takes = λ p. absurd (off p); told = (k.put, refl); claims = (k.taken, refl) } (λ j y _ e. once j y e);
        }

    pub hears : (port : ℕ) (v : Post T) (other : ℕ) (u : Post T) → v.takes ≡ false → Merges (Kept next) port v other u (post v.puts v.takes v.put u.taken) (post false false [] [])
    hears port v other u idle = join port v other u v.put u.taken (λ writer reader p t f g. record { puts = f.puts; takes = λ b. absurd (off (sym idle ∙ b)); told = f.told; claims = g.claims })

    pub put_hears : (port : ℕ) (v : Post T) (other : ℕ) (u : Post T) → v.puts ≡ false → Merges (Kept next) port v other u (post v.puts v.takes u.put v.taken) (post false false [] [])
    put_hears port v other u idle = join port v other u u.put v.taken (λ writer reader p t f g. record { puts = λ b. absurd (off (sym idle ∙ b)); takes = f.takes; told = g.told; claims = f.claims })

    pub compares : (port : ℕ) (v : Post T) → v.puts ≡ true → Learns (Kept next) port v (λ items. StartsWith v.put v.taken)
    compares port v may items views k at =
        let f = k.each port v at in
        (f.claims.0 ++ items, (f.puts may).1 ∙ k.whole ∙ ap (λ l. l ++ items) f.claims.1 ∙ append_assoc v.taken f.claims.0 items)

    pub counts : (port : ℕ) (v : Post T) → v.puts ≡ true → Learns (Kept next) port v (λ items. Waiting v.put v.taken items)
    counts port v may items views k at =
        let f = k.each port v at in
        (k.taken, (f.puts may).1 ∙ k.whole, f.claims)

    pub waits : (port : ℕ) (v : Post T) → v.takes ≡ true → Learns (Kept next) port v (λ items. Coming v.taken v.put items)
    waits port v may items views k at =
        let f = k.each port v at in
        (f.told.0, ap (λ l. l ++ items) (f.takes may).1 ∙ sym k.whole ∙ f.told.1)
