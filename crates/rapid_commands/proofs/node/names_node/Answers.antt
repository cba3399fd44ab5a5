use lib.Pointwise.{bytes_decides}
use Rattle.std.proofs.Common.{arith, ◌≡◌, ◌<◌, ◌∙◌, ap, codes, length, option_map, refl, slice_get, sym, Some, true, false, nat_lt}
use Rattle.std.proofs.lemmas.Bool.Decides.{nat_tests}
use Rattle.std.proofs.lemmas.Option.{slice_get_read}
use Rattle.rapid_commands.proofs.node.names_node.Goals as goal

pub returns-in-Some-clause-named : goal.returns-in-Some-clause-named
returns-in-Some-clause-named g c = λ named.
    let inside : true ≡ nat_lt 1 (length c.args.words.now) = c.in-Some.ensures.lookup.0 in
    let less : 1 < length c.args.words.now = grind (arith, nat_tests) in
    let found : slice_get c.args.words.now 1 ≡ Some c.in-Some.command.now =
    slice_get_read c.args.words.now (length c.args.words.now) 1 c.in-Some.command.now refl less c.in-Some.ensures.lookup.1 in
    let text : g.S.AsStr.text c.in-Some.command.now ≡ codes "node" =
    sym c.as_str.ensures ∙ (bytes_decides c.as_str.result.now (codes "node")).0 (sym c.eq.ensures ∙ named) in
    ap (option_map g.S.AsStr.text) found ∙ ap Some text

pub returns-in-Some-clause-other : goal.returns-in-Some-clause-other
returns-in-Some-clause-other g c = λ other names.
    let inside : true ≡ nat_lt 1 (length c.args.words.now) = c.in-Some.ensures.lookup.0 in
    let less : 1 < length c.args.words.now = grind (arith, nat_tests) in
    let found : slice_get c.args.words.now 1 ≡ Some c.in-Some.command.now =
    slice_get_read c.args.words.now (length c.args.words.now) 1 c.in-Some.command.now refl less c.in-Some.ensures.lookup.1 in
    let same : Some (g.S.AsStr.text c.in-Some.command.now) ≡ Some (codes "node") = sym (ap (option_map g.S.AsStr.text) found) ∙ names in
    let text : g.S.AsStr.text c.in-Some.command.now ≡ codes "node" = cc in
    let equal : c.eq.result ≡ true = c.eq.ensures ∙ (bytes_decides c.as_str.result.now (codes "node")).1 (c.as_str.ensures ∙ text) in
    let no : true ≡ false = sym equal ∙ other in
    cc
