use Rattle.std.proofs.Common.{◌≡◌, ℕ, List, ◌∷◌, ◌++◌, sym, ap, ◌∙◌, decimal, flat_map}
use Rattle.std.proofs.lemmas.List.{append_assoc}
use Rattle.rapid_model.specs.Lines.{space}
use Rattle.rapid_model.specs.Numbered.{number_of}
use Rattle.rapid_model.specs.Process.{Process}
use Rattle.rapid_detect.proofs.reply.write_processes.Goals as goal

-- One process more was written.
more : (f : Process → List ℕ) (out old new : List ℕ) (p : Process) (before rest all : List Process) → before ≡ p ∷ rest → new ≡ old ++ f p
    → (said : List ℕ) × (old ≡ out ++ said) × (said ++ flat_map f before ≡ flat_map f all)
    → (said : List ℕ) × (new ≡ out ++ said) × (said ++ flat_map f rest ≡ flat_map f all)
more f out old new p before rest all steps put (said, e, h) = (
  said ++ f p,
  put ∙ ap (λ l. l ++ f p) e ∙ append_assoc out said (f p),
  append_assoc said (f p) (flat_map f rest) ∙ sym (ap (λ ps. said ++ flat_map f ps) steps) ∙ h,
)

pub loop-process-preserved : goal.loop-process-preserved
loop-process-preserved c =
    more (λ p. space ∷ decimal (number_of p)) c.args.output.now.items c.loop-process.output.items c.write_process.new.output.items c.in-Some.process _ _ c.args.processes.now c.in-Some.ensures.steps c.in_ok-write_process.ensures c.loop-process.invariant
