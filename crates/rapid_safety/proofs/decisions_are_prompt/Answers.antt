use Rattle.rapid_safety.proofs.Prompting.{decisions_are_prompt as law}
use Rattle.rapid_safety.proofs.decisions_are_prompt.Goals as goal

pub returns : goal.returns
returns c = law
