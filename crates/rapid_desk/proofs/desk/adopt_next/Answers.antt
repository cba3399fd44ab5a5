use Rattle.std.proofs.Common.{◌∙◌, sym, subst}
use Rattle.rapid_model.specs.Node.{configuration_of, has_installed}
use Rattle.rapid_node.specs.Steps.{event_of}
use Rattle.rapid_desk.specs.Desks.{Keeps, is_blank}
use Rattle.rapid_desk.proofs.Settling.{shows, same_state, after_enter, after_keep, seats_shown, seats_same, shown_grown, shown_same}
use Rattle.rapid_desk.proofs.desk.adopt_next.Goals as goal

pub adopt_installed-requires : goal.adopt_installed-requires
adopt_installed-requires g c = shows c.args.held.now c.args.board.now.published (event_of c.args.event) c.requires.keeps c.requires.tried (sym c.installs.ensures ∙ c.if-installs.true)

pub returns-then-installs-clause-keeps : goal.returns-then-installs-clause-keeps
returns-then-installs-clause-keeps g c =
    (after_enter c.adopt_installed.result c.args.held.now c.adopt_installed.new.held c.args.board.now c.adopt_installed.new.board (event_of c.args.event) c.requires.keeps c.requires.tried (sym c.installs.ensures ∙ c.if-installs.true) c.adopt_installed.ensures.held c.adopt_installed.ensures.published c.adopt_installed.ensures.refused c.adopt_installed.ensures.unchanged).0

pub returns-then-installs-clause-advances : goal.returns-then-installs-clause-advances
returns-then-installs-clause-advances g c =
    (after_enter c.adopt_installed.result c.args.held.now c.adopt_installed.new.held c.args.board.now c.adopt_installed.new.board (event_of c.args.event) c.requires.keeps c.requires.tried (sym c.installs.ensures ∙ c.if-installs.true) c.adopt_installed.ensures.held c.adopt_installed.ensures.published c.adopt_installed.ensures.refused c.adopt_installed.ensures.unchanged).1

pub returns-clause-keeps : goal.returns-clause-keeps
returns-clause-keeps g c =
    (after_keep c.args.held.now c.keep.new.self c.args.board.now (event_of c.args.event) c.requires.keeps c.requires.tried (sym c.installs.ensures ∙ c.if-installs.false) c.in_ok-keep.ensures.same c.in_ok-keep.ensures.ok).0

pub returns-clause-advances : goal.returns-clause-advances
returns-clause-advances g c =
    (after_keep c.args.held.now c.keep.new.self c.args.board.now (event_of c.args.event) c.requires.keeps c.requires.tried (sym c.installs.ensures ∙ c.if-installs.false) c.in_ok-keep.ensures.same c.in_ok-keep.ensures.ok).1

pub returns-then-installs-clause-refused : goal.returns-then-installs-clause-refused
returns-then-installs-clause-refused g c =
    (after_enter c.adopt_installed.result c.args.held.now c.adopt_installed.new.held c.args.board.now c.adopt_installed.new.board (event_of c.args.event) c.requires.keeps c.requires.tried (sym c.installs.ensures ∙ c.if-installs.true) c.adopt_installed.ensures.held c.adopt_installed.ensures.published c.adopt_installed.ensures.refused c.adopt_installed.ensures.unchanged).2

pub returns-then-installs-clause-seats : goal.returns-then-installs-clause-seats
returns-then-installs-clause-seats g c =
    seats_shown c.adopt_installed.result (configuration_of c.args.held.now.next) c.args.board.now c.adopt_installed.new.board c.adopt_installed.ensures.seats c.adopt_installed.ensures.published

pub returns-then-installs-clause-shown : goal.returns-then-installs-clause-shown
returns-then-installs-clause-shown g c =
    shown_grown c.adopt_installed.result (has_installed c.args.held.now.node c.args.held.now.next) (configuration_of c.args.held.now.next) c.args.board.now.published c.adopt_installed.new.board.published (sym c.installs.ensures ∙ c.if-installs.true) c.adopt_installed.ensures.published

pub returns-in_err-keep-clause-keeps : goal.returns-in_err-keep-clause-keeps
returns-in_err-keep-clause-keeps g c =
    subst Keeps (sym (same_state c.args.held.now c.keep.new.self c.args.board.now.published c.in_err-keep.ensures.same.0 c.in_err-keep.ensures.unchanged.0 c.in_err-keep.ensures.same.1 c.in_err-keep.ensures.unchanged.1)) c.requires.keeps

pub returns-clause-seats : goal.returns-clause-seats
returns-clause-seats g c = seats_same c.args.board.now.seats (is_blank c.args.board.now.published)

pub returns-clause-shown : goal.returns-clause-shown
returns-clause-shown g c =
    shown_same (has_installed c.args.held.now.node c.args.held.now.next) (configuration_of c.args.held.now.next) c.args.board.now.published (sym c.installs.ensures ∙ c.if-installs.false)
