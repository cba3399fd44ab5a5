use Rattle.std.proofs.Common.{◌∙◌, ap, map, List, arith}
use Rattle.std.proofs.lemmas.List.{with_items_is}
use Rattle.rapid_monitor.specs.Probes.{heard}
use Rattle.rapid_monitor.specs.declared.probe_book.Watched.{Watched}
use Rattle.rapid_monitor.proofs.Books.{heard_book}
use Rattle.rapid_monitor.proofs.probe_book.ProbeBook.ack.Goals as goal

pub returns-clause-acks : goal.returns-clause-acks
returns-clause-acks c subjects begun acks is =
    ap (λ (es : List Watched). record { edges = es; begun = c.self.inside.begun }) (with_items_is c.self.inside.edges c.hear.new.edges (omega arith))
    ∙ heard_book c.args.process.now subjects begun acks c.self.inside.edges.items c.hear.new.edges c.self.inside.begun (c.self.view_is ∙ is)
    (c.hear.ensures ∙ ap (λ (es : List Watched). map (heard c.args.process.now) es) c.as_mut_slice.ensures.value)
