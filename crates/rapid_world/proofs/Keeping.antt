-- A node of a run keeps its configuration, unless it installs something.
use Rattle.std.proofs.Common.{◌≡◌, ℕ, Bool, true, false, List, [], ◌∷◌, ◌++◌, length, refl, sym, ap, subst, ◌∙◌, Option, Some, None}
use Rattle.std.specs.Prelude.{nat_lt}
use Rattle.rapid_model.specs.Configuration.{Configuration, Stamp, stamp}
use Rattle.rapid_model.specs.Apply.{apply}
use Rattle.rapid_model.specs.Joiner.{Joiner}
use Rattle.rapid_model.specs.Node.{Node, Phase, Joining, Member, Removed, Halted, MemberState, Event, Outcome, member_config, shown_in, has_installed, seed_node, halt}
use Rattle.rapid_model.specs.World.{World, Peer, Act}
use Rattle.rapid_safety.proofs.Atoms.{lives_config}
use Rattle.rapid_safety.proofs.NodeWorks.{Stepped, goes_on, installs, length-push, below_next}
use Rattle.rapid_safety.proofs.Histories.{acts_at, Lived, comes_steps}
use Rattle.rapid_safety.proofs.Lived.{JoinerSteps, joins_still, joins, joiner_steps, stays_out_of}
use Rattle.rapid_safety.proofs.Steps.{StandsAt, Comes}
use Rattle.rapid_world.specs.Handed.{Keeps, KeepsAt}

-- if its configuration is the same, it would halt the same
halts_alike : (n : Node) {c d : Option Configuration} → c ≡ d → record n { phase = Halted c } ≡ record n { phase = Halted d }
halts_alike n e = ap (λ c. record n { phase = Halted c }) e

-- a member goes on in its configuration, or it installs the next
member_keeps : (n : Node) (s : MemberState) (acts more : List Act) (m : Node) → n.phase ≡ Member s → Stepped s.config acts n more m → Keeps n m
member_keeps n s acts more _ at (goes_on heard t life sync) =
    let same : t.config ≡ s.config = lives_config s.config n.me _ heard t None life in
    record { me = refl; shown = λ _. ap Some same ∙ sym (ap shown_in at); member = λ _. ap Some same ∙ sym (ap member_config at); halted = λ _. halts_alike n (ap Some same ∙ sym (ap shown_in at)) }
member_keeps n s acts more _ at (installs heard t v life full) =
    let has : nat_lt (length n.installed) (length (n.installed ++ stamp (apply s.config v) ∷ [])) ≡ true = below_next (length n.installed) _ (length-push n.installed (stamp (apply s.config v))) in
    record { me = refl; shown = λ none. absurd (differ has none); member = λ none. absurd (differ has none); halted = λ none. absurd (differ has none) }
  where
    differ : {b : Bool} → b ≡ true → b ≡ false → ⊥
    differ h k = let no : true ≡ false = sym h ∙ k in cc

-- a node that joins goes on joining, or it installs its first
joiner_keeps : (n : Node) (j : Joiner) (e : Event) (o : Outcome) → n.phase ≡ Joining j → n.installed ≡ [] → JoinerSteps n e o → Keeps n o.node
joiner_keeps n j _ _ at bare (joins_still e i es) = record { me = refl; shown = λ _. sym (ap shown_in at); member = λ _. sym (ap member_config at); halted = λ _. halts_alike n (sym (ap shown_in at)) }
joiner_keeps n j _ _ at bare (joins from c m) =
    let has : has_installed n (seed_node c n.me) ≡ true = ap (λ (l : List Stamp). nat_lt (length l) 1) bare in
    record { me = refl; shown = λ none. absurd (differ has none); member = λ none. absurd (differ has none); halted = λ none. absurd (differ has none) }
  where
    differ : {b : Bool} → b ≡ true → b ≡ false → ⊥
    differ h k = let no : true ≡ false = sym h ∙ k in cc

still_keeps : (n m : Node) → m ≡ n → Keeps n m
still_keeps n m e = record { me = ap (λ (x : Node). x.me) e; shown = λ _. ap (λ (x : Node). shown_in x.phase) e; member = λ _. ap (λ (x : Node). member_config x.phase) e; halted = λ _. ap halt e }

-- what comes to a node of a run is taken so
pub keeps_at : (w : World) → Lived w → (i : ℕ) (old p : Peer) (before : List Act) (e : Event) → StandsAt w i old → p.node ≡ old.node → Comes w i p before e → KeepsAt p.node e
keeps_at w lived i old p before e at same comes o h = by p.node.phase refl
  where
    by : (ph : Phase) → p.node.phase ≡ ph → Keeps p.node o.node
    by (Joining j) is =
        joiner_keeps p.node j e o is (subst (λ (n : Node). (j : Joiner) → n.phase ≡ Joining j → n.installed ≡ []) (sym same) (lived.bare i old at) j is)
        (joiner_steps p.node j is e o h)
    by (Member s) is = member_keeps p.node s (acts_at w.log p.node.me s.config) _ o.node is (comes_steps w lived i p before e s o comes is h)
    by (Removed c) is = still_keeps p.node o.node (stays_out_of p.node (Removed c) e o tt is h)
    by (Halted c) is = still_keeps p.node o.node (stays_out_of p.node (Halted c) e o tt is h)
