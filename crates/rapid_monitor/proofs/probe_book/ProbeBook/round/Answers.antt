use Rattle.std.proofs.Common.{◌∙◌, ap, map, List, true, arith}
use Rattle.std.proofs.lemmas.List.{with_items_is}
use Rattle.rapid_monitor.specs.Probes.{unheard, asked}
use Rattle.rapid_monitor.specs.declared.probe_book.Watched.{Watched}
use Rattle.rapid_monitor.proofs.Books.{unheard_book, asked_book}
use Rattle.rapid_monitor.proofs.probe_book.ProbeBook.round.Goals as goal

pub returns-clause-answers : goal.returns-clause-answers
returns-clause-answers c subjects begun acks is =
    asked_book subjects begun acks c.self.inside.edges.items c.self.inside.begun c.in_ok-answers.answers.items (c.self.view_is ∙ is)
    (c.in_ok-answers.ensures ∙ ap (λ (es : List Watched). map (asked c.self.inside.begun) es) c.as_slice.ensures.value)

pub returns-clause-cleared : goal.returns-clause-cleared
returns-clause-cleared c subjects begun acks is =
    ap (λ (es : List Watched). record { edges = es; begun = true }) (with_items_is c.self.inside.edges c.forget.new.edges (omega arith))
    ∙ unheard_book subjects begun acks c.self.inside.edges.items c.forget.new.edges c.self.inside.begun (c.self.view_is ∙ is)
    (c.forget.ensures ∙ ap (λ (es : List Watched). map unheard es) c.as_mut_slice.ensures.value)
