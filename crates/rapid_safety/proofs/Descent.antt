-- Each configuration that was installed is made of the founding one by cuts, each of which ended the one before.
use Rattle.std.proofs.Common.{◌≡◌, inl, inr, List, [], ◌∷◌, ◌++◌, refl, sym, ap, subst, ◌∙◌, Some}
use Rattle.rapid_safety.proofs.Values.{Cut, Configuration, AreMembers, apply, Message}
use Rattle.rapid_safety.proofs.Working.{Member, MemberState, member_config}
use Rattle.rapid_safety.proofs.Worlds.{World, Installed, Entry, MarkedEvent, run, founded, EachChange}
use Rattle.rapid_safety.proofs.Basics.{In}
use Rattle.rapid_safety.proofs.Atoms.{Lives}
use Rattle.rapid_safety.proofs.Steps.{Steps, run_keeps}
use Rattle.rapid_safety.proofs.Nodes.{WasInstalled, acts_then, InstallKind, by_member, by_joiner, install_kind_of, move_present}
use Rattle.rapid_safety.proofs.News.{Moves, InstalledNow, installed_new}
use Rattle.rapid_safety.proofs.Told.{Confirmed, Histories, histories_kept, histories_founded}
use Rattle.rapid_safety.proofs.Members.{of_map, Distinct, distinct_apply, founders_differ}

-- the configuration that these cuts make of c
abbrev pub reached : Configuration → List Cut → Configuration
reached c [] = c
reached c (v ∷ vs) = reached (apply c v) vs

-- ---- changes

pub changes_more : (P Q : Configuration → Cut → Type 0) → ((c : Configuration) (v : Cut) → P c v → Q c v) → (c : Configuration) (vs : List Cut) → EachChange P c vs → EachChange Q c vs
changes_more P Q f c [] h = tt
changes_more P Q f c (v ∷ vs) h = (f c v h.0, changes_more P Q f (apply c v) vs h.1)

pub changes_push : (P : Configuration → Cut → Type 0) (c : Configuration) (vs : List Cut) (v : Cut) → EachChange P c vs → P (reached c vs) v → EachChange P c (vs ++ v ∷ [])
changes_push P c [] v h k = (k, tt)
changes_push P c (u ∷ us) v h k = (h.0, changes_push P (apply c u) us v h.1 k)

pub reached_push : (c : Configuration) (vs : List Cut) (v : Cut) → reached c (vs ++ v ∷ []) ≡ apply (reached c vs) v
reached_push c [] v = refl
reached_push c (u ∷ us) v = reached_push (apply c u) us v

-- ---- what holds of each change, and is kept

-- what holds of a change lasts
abbrev pub Lasts : (World → Configuration → Cut → Type 0) → World → World → Type 0
Lasts P w v = (c : Configuration) (u : Cut) → P w c u → P v c u

-- it holds if a step decides
abbrev pub Decides : (World → Configuration → Cut → Type 0) → World → World → Type 0
Decides P w v =
    (m : Moves w v) (s : MemberState) (heard : List Message) (t : MemberState) (u : Cut) → m.peer.node.phase ≡ Member s →
    Lives s.config m.peer.node.me (acts_then w v m s.config) heard t (Some u) → P v s.config u

module _ (P : World → Configuration → Cut → Type 0) (f : Configuration) where
  -- d is made of the founding configuration by such changes
  abbrev pub Descends : World → Configuration → Type 0
  Descends w d = (vs : List Cut) × EachChange (P w) f vs × (reached f vs ≡ d)

  abbrev pub Descent : World → Type 0
  Descent w = (e : Entry) (d : Configuration) → In w.log e → e.act ≡ Installed d → Descends w d

  pub descends_more : (w v : World) → Lasts P w v → (d : Configuration) → Descends w d → Descends v d
  descends_more w v g d h = (h.0, changes_more (P w) (P v) g f h.0 h.1, h.2)

  pub descends_on : (v : World) (c : Configuration) (u : Cut) → Descends v c → P v c u → Descends v (apply c u)
  descends_on v c u h k =
      (h.0 ++ u ∷ [], changes_push (P v) f h.0 u h.1 (subst (λ x. P v x u) (sym h.2) k), reached_push f h.0 u ∙ ap (λ x. apply x u) h.2)

  pub descent_kept : (w v : World) → Steps w v → Histories w → Lasts P w v → Decides P w v → Descent w → Descent v
  unfolding Confirmed
  descent_kept w v s k g new old e d h is = elim (installed_new w v s e d h is) [ inl x ↦ descends_more w v g d (old e d x is) | inr x ↦ by x ]
    where
      kind : (m : Moves w v) (c : Configuration) → InstallKind w v m c → Descends v c
      kind m _ (by_member t heard u x at life) =
          let p = move_present w v m t.config k.present (ap member_config at) in
          descends_on v t.config x (descends_more w v g t.config (old p.0 t.config p.1 p.3)) (new m t heard u x at life)
      kind m c (by_joiner j from _ at said member) =
          let p = k.confirmed said.0 said.1 c said.2 said.4 in
          descends_more w v g c (old p.0 c p.1 p.3)

      by : InstalledNow w v e d → Descends v d
      by x = kind x.move d (install_kind_of w v x.move k.lived k.said d x.act)

  pub descent_founded : Descent (founded f)
  descent_founded e d h is = let r = of_map _ f.members e h in let z : Installed f ≡ Installed d = ap (λ (x : Entry). x.act) r.2 ∙ is in ([], tt, cc)

-- ---- members that differ

-- nothing more is said of a change
abbrev pub AnyChange : World → Configuration → Cut → Type 0
AnyChange w c u = Unit {0}

distinct_reached : (c : Configuration) (vs : List Cut) → Distinct c.members → Distinct (reached c vs).members
distinct_reached c [] h = h
distinct_reached c (v ∷ vs) h = distinct_reached (apply c v) vs (distinct_apply c v h)

pub descends_distinct : (P : World → Configuration → Cut → Type 0) (f : Configuration) → AreMembers f.members → (w : World) (d : Configuration) → Descends P f w d → Distinct d.members
descends_distinct P f are w d h = subst (λ (x : Configuration). Distinct x.members) h.2 (distinct_reached f h.0 (founders_differ f.members are.identifiers))

pub descent_run : (f : Configuration) (es : List MarkedEvent) → AreMembers f.members → Descent AnyChange f (run es (founded f))
descent_run f es are =
    (run_keeps (λ w. Histories w × Descent AnyChange f w)
    (λ w v s h. (histories_kept w v s h.0, descent_kept AnyChange f w v s h.0 (λ c u x. tt) (λ m t heard x u at life. tt) h.1)) es (founded f)
    (histories_founded f are, descent_founded AnyChange f)).1

-- the members of each installed configuration differ
pub installed_distinct : (f : Configuration) (es : List MarkedEvent) → AreMembers f.members → (d : Configuration) → WasInstalled (run es (founded f)).log d → Distinct d.members
installed_distinct f es are d h = descends_distinct AnyChange f are (run es (founded f)) d (descent_run f es are h.0 d h.1 h.2)
