-- What was written, as what a command prints.
use Rattle.std.proofs.Common.{◌≡◌, ◌*◌, ℕ, List, refl, sym, ap, subst, ◌∙◌, Option, Some, None, IfSome, Result, Ok, Err, IfErr, OnOk, OnErr}
use Rattle.std.specs.Io.KnownBytes.{Appends}
use Rattle.rapid_model.specs.DetectText.{detect_text}
use Rattle.rapid_cluster.specs.ClusterText.{IsReport}
use Rattle.rapid_cluster.specs.Written.{Ended}
use Rattle.rapid_text.specs.Underway.{AppendsFront}
use Rattle.rapid_text.specs.declared.fault.RunFault.{RunFault}
use Rattle.rapid_commands.specs.Invocations.{Wrote, WroteFront}
use Rattle.rapid_words.specs.declared.words.Invocation.{Invocation}
use Rattle.rapid_words.specs.declared.words.Invocation.TheVariants.{Detect, Cluster}
use Rattle.rapid_words.specs.declared.words.Setting.{Setting}

detect_known : (known a b : Option (List ℕ)) → IfSome known (λ input. AppendsFront a b (detect_text input)) → WroteFront Detect known a b
detect_known None a b h = tt
detect_known (Some input) a b h = (detect_text input, refl, h)

-- After a fault of `detect`.
pub detect_front : {T D : Type 0} (r : Result T D) (invocation : Invocation) (known a b : Option (List ℕ)) → invocation ≡ Detect → OnErr r (IfSome known (λ input. AppendsFront a b (detect_text input))) → OnErr r (WroteFront invocation known a b)
detect_front (Ok x) invocation known a b is h = tt
detect_front (Err e) invocation known a b is h = subst (λ j. WroteFront j known a b) (sym is) (detect_known known a b h)

-- The turns of all clerks, as the setting has their numbers.
all_turns : (s : Setting) (workers turns : ℕ) → workers ≡ s.workers → turns ≡ s.turns → workers * turns ≡ s.workers * s.turns
all_turns s workers turns w t = ap (λ k. k * turns) w ∙ ap (λ k. s.workers * k) t

-- After `cluster`.
pub cluster_wrote : {T : Type 0} (r : Result T RunFault) (invocation : Invocation) (s : Setting) (workers turns : ℕ) (known a b : Option (List ℕ)) → invocation ≡ Cluster s → workers ≡ s.workers → turns ≡ s.turns →
    OnOk r ((text : List ℕ) × IsReport s.params s.nodes (workers * turns) text × Appends a b text) → OnOk r (Wrote invocation known a b)
cluster_wrote (Ok x) invocation s workers turns known a b is w t h =
    subst (λ j. Wrote j known a b) (sym is) (h.0, subst (λ most. IsReport s.params s.nodes most h.0) (all_turns s workers turns w t) h.1, h.2)
cluster_wrote (Err e) invocation s workers turns known a b is w t h = tt

-- After a fault of `cluster`.
pub cluster_front : {T : Type 0} (r : Result T RunFault) (invocation : Invocation) (s : Setting) (workers turns : ℕ) (known a b : Option (List ℕ)) → invocation ≡ Cluster s → workers ≡ s.workers → turns ≡ s.turns →
    IfErr r (Ended s.params s.nodes (workers * turns) a b) → OnErr r (WroteFront invocation known a b)
cluster_front (Ok x) invocation s workers turns known a b is w t h = tt
cluster_front (Err e) invocation s workers turns known a b is w t h =
    subst (λ j. WroteFront j known a b) (sym is) (e, subst (λ most. Ended s.params s.nodes most a b e) (all_turns s workers turns w t) h)
