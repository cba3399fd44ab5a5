-- Beginnings of lists.
use Rattle.std.proofs.Common.{◌∙◌, ap, sym, List, [], ◌++◌, append_assoc, append-nil}
use Rattle.rapid_model.specs.Configuration.{Stamp}
use Rattle.rapid_model.specs.PublishedList.{IsBeginning}

pub begins_itself : (a : List Stamp) → IsBeginning a a
begins_itself a = ([], sym (append-nil a))

pub begins_longer : (a b c : List Stamp) → IsBeginning a b → IsBeginning b c → IsBeginning a c
begins_longer a b c p q = (p.0 ++ q.0, q.1 ∙ ap (λ l. l ++ q.0) p.1 ∙ append_assoc a p.0 q.0)
