use Rattle.rapid_text.proofs.Endings.{no_end_kept}
use Rattle.rapid_text.proofs.line_buffer.LineBuffer.keep.Goals as goal

pub invariant_of-self-2 : goal.invariant_of-self-2
invariant_of-self-2 c = no_end_kept c.self.inside.bytes.items c.args.part.now _ _ c.in_ok-extend_from_slice.ensures.items c.self.invariant c.requires

pub returns-clause-unended : goal.returns-clause-unended
returns-clause-unended c = no_end_kept c.self.inside.bytes.items c.args.part.now _ _ c.in_ok-extend_from_slice.ensures.items c.self.invariant c.requires
