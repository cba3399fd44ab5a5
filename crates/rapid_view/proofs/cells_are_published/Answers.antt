use Rattle.rapid_view.proofs.Published.{cells_are_published as law}
use Rattle.rapid_view.proofs.cells_are_published.Goals as goal

pub returns : goal.returns
returns c = law
