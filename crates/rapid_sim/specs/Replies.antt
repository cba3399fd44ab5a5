-- Refusals as the definitions see them.
use Rattle.rapid_model.specs.Refusal as faults
use Rattle.rapid_model.specs.Tags as tags
use Rattle.rapid_model.specs.SimText as text
use Rattle.rapid_sim.specs.declared.view.SimRefusal.{SimRefusal}
use Rattle.rapid_sim.specs.declared.view.SimRefusal.TheVariants.{BadLine, NoParams, BadParams, BadTag, TooManyTags, TagsNotSorted, IdentifierUsed, EndpointBusy, NoSuchNode, NoSuchPacket, NotObserved, EventsFull}

-- A refusal.
abbrev pub refusal_of : SimRefusal → text.SimRefusal
refusal_of BadLine = text.BadLine
refusal_of NoParams = text.NoParams
refusal_of BadParams = text.BadParams
refusal_of BadTag = text.ByTags tags.BadTag
refusal_of TooManyTags = text.ByTags tags.TooManyTags
refusal_of TagsNotSorted = text.ByTags tags.TagsNotSorted
refusal_of IdentifierUsed = text.ByWorld faults.IdentifierUsed
refusal_of EndpointBusy = text.ByWorld faults.EndpointBusy
refusal_of NoSuchNode = text.ByWorld faults.NoSuchNode
refusal_of NoSuchPacket = text.ByWorld faults.NoSuchPacket
refusal_of NotObserved = text.ByWorld faults.NotObserved
refusal_of EventsFull = text.ByWorld faults.EventsFull
