-- Clauses of public calls cite this file.
-- Destinations as the definitions see them.
use Rattle.rapid_model.specs.Node as model
use Rattle.rapid_message.specs.declared.output.Destination.{Destination}
use Rattle.rapid_message.specs.declared.output.Destination.TheVariants.{To, Others}

-- A destination.
abbrev pub destination_of : Destination → model.Destination
destination_of (To e) = model.To e
destination_of Others = model.Others
