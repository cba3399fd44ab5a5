-- A replay that goes on by an event.
use Rattle.std.proofs.Common.{◌≡◌, Bool, true, false, List, [], ◌∷◌, ◌++◌, refl, sym, ap, ◌∙◌}
use Rattle.std.specs.Prelude.{Option, Some, None}
use Rattle.std.specs.Option.{option_and_then}
use Rattle.rapid_model.specs.Node.{Node, Event, Outcome}
use Rattle.rapid_model.specs.NodeStep.{node_step}
use Rattle.rapid_model.specs.Journal.{JournalRecord, after_events, journal_events, with_event}
use Rattle.rapid_desk.proofs.Ticking.{is_kept_event, kept_events, left_out}
use Rattle.rapid_desk.proofs.Moving.{not_kept_stays}

pub one_more : (n m : Node) (es : List Event) (e : Event) (o : Outcome) → after_events n es ≡ Some m → node_step m e ≡ Some o → after_events n (es ++ e ∷ []) ≡ Some o.node
one_more n m [] e o was is =
    ap (λ (x : Option Outcome). option_and_then (λ (o : Outcome). Some o.node) x) (ap (λ (x : Option Node). option_and_then (λ k. node_step k e) x) was ∙ is)
one_more n m (x ∷ es) e o was is = by (node_step n x) was (λ p h. one_more p m es e o h is)
  where
    by : (r : Option Outcome) → option_and_then (λ (o : Outcome). after_events o.node es) r ≡ Some m → ((p : Node) → after_events p es ≡ Some m → after_events p (es ++ e ∷ []) ≡ Some o.node) → option_and_then (λ (o : Outcome). after_events o.node (es ++ e ∷ [])) r ≡ Some o.node
    by None h f = cc
    by (Some p) h f = f p.node h

pub replayed : (entry : Node) (j : List JournalRecord) (n : Node) (e : Event) (o : Outcome) → after_events entry (journal_events j) ≡ Some n → node_step n e ≡ Some o → after_events entry (journal_events (with_event j e)) ≡ Some o.node
replayed entry j n e o was is = by (is_kept_event e) refl
  where
    by : (b : Bool) → is_kept_event e ≡ b → after_events entry (journal_events (with_event j e)) ≡ Some o.node
    by true k = ap (after_events entry) (kept_events j e k) ∙ one_more entry n (journal_events j) e o was is
    by false k = ap (λ l. after_events entry (journal_events l)) (left_out j e k) ∙ was ∙ ap Some (sym (not_kept_stays n e o k is))
