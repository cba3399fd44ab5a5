use Rattle.std.proofs.Common.{◌≡◌, ◌++◌, List, [], map, get_or, slice_set, is_some, refl, ap, subst, sym, ◌∙◌}
use Rattle.std.specs.Prelude.{All}
use Rattle.std.proofs.lemmas.Result.{err_from_is_err_and}
use Rattle.rapid_model.specs.Node.{Node, is_halted}
use Rattle.rapid_model.specs.NodeStep.{node_step}
use Rattle.rapid_model.specs.World.{Peer}
use Rattle.rapid_node.specs.Steps.{event_of as taken_of}
use Rattle.rapid_world.specs.Events.{event_of}
use Rattle.rapid_world.specs.Framed.{framed_packet, HasFrame}
use Rattle.rapid_world.specs.Handed.{Handed, handed}
use Rattle.rapid_world.proofs.Doing.{handed_marks}
use Rattle.rapid_world.proofs.Finding.{handed_me}
use Rattle.rapid_world.proofs.Going.{same_mark, mark_needed}
use Rattle.rapid_world.proofs.Giving.{at_place, named_at, read_at, kept_run, given_run, given_stored, one_report}
use Rattle.rapid_world.proofs.world.World.give.Goals as goal

pub invariant_of-self : goal.invariant_of-self
invariant_of-self c = rw c.reserve.ensures.world c.self.invariant

pub returns-in_err-reserve-clause-unchanged : goal.returns-in_err-reserve-clause-unchanged
returns-in_err-reserve-clause-unchanged c =
    let p = err_from_is_err_and c.from_residual.result c.from_residual.ensures.1 in
    rw (p.1) (c.reserve.ensures.world ∙ c.self.view_is)

pub invariant_of-self-in_err-reserve-2 : goal.invariant_of-self-in_err-reserve-2
invariant_of-self-in_err-reserve-2 c = rw c.reserve.ensures.world c.self.invariant

pub returns-in_err-reserve-2-clause-unchanged : goal.returns-in_err-reserve-2-clause-unchanged
returns-in_err-reserve-2-clause-unchanged c =
    let p = err_from_is_err_and c.from_residual-in_err-reserve-2.result c.from_residual-in_err-reserve-2.ensures.1 in
    rw (p.1) (c.reserve.ensures.world ∙ c.self.view_is)

pub has_outcome-requires : goal.has_outcome-requires
has_outcome-requires c =
    let at = at_place _ _ _ _ _ _ c.self.invariant c.self.view_is c.requires.does.at in
    let is = read_at c.self.inside.peers c.args.place c.requires.peer c.index-as_slice-place.result at (c.index-as_slice-place.is ∙ ap (λ (l : List Peer). get_or l c.args.place c.index-as_slice-place.result) c.as_slice.ensures) in
    ap is_halted (c.node.ensures ∙ ap (λ (p : Peer). p.node) is) ∙ c.requires.up

pub invariant_of-self-in_err-has_outcome : goal.invariant_of-self-in_err-has_outcome
invariant_of-self-in_err-has_outcome c = rw c.reserve.ensures.world c.self.invariant

pub returns-in_err-has_outcome-clause-unchanged : goal.returns-in_err-has_outcome-clause-unchanged
returns-in_err-has_outcome-clause-unchanged c =
    let p = err_from_is_err_and c.from_residual-in_err-has_outcome.result c.from_residual-in_err-has_outcome.ensures.1 in
    rw (p.1) (c.reserve.ensures.world ∙ c.self.view_is)

pub hand-requires : goal.hand-requires
hand-requires c =
    record { peer = c.requires.peer; at = at_place _ _ _ _ _ _ c.self.invariant c.self.view_is c.requires.does.at; up = c.requires.up; keeps = c.requires.keeps }

pub push-requires-clause-names : goal.push-requires-clause-names
push-requires-clause-names c = named_at _ _ _ _ _ _ _ _ c.self.invariant c.self.view_is c.reserve.ensures.world c.requires.does.at c.requires.does.names

pub invariant_of-self-2 : goal.invariant_of-self-2
invariant_of-self-2 c =
    let at = at_place _ _ _ _ _ _ c.self.invariant c.self.view_is c.requires.does.at in
    let is = read_at c.self.inside.peers c.args.place c.requires.peer c.index-as_slice-place.result at (c.index-as_slice-place.is ∙ ap (λ (l : List Peer). get_or l c.args.place c.index-as_slice-place.result) c.as_slice.ensures) in
    let goes : c.in_ok-has_outcome.has_outcome ≡ is_some (node_step c.requires.peer.node (taken_of c.args.taken.now)) =
    c.in_ok-has_outcome.ensures ∙ ap (λ (n : Node). is_some (node_step n (taken_of c.args.taken.now))) (c.node.ensures ∙ ap (λ (p : Peer). p.node) is) in
    let same = same_mark c.requires.peer (taken_of c.args.taken.now) c.in_ok-told.told.halts c.in_ok-has_outcome.has_outcome goes ∙ ap (handed c.requires.peer (taken_of c.args.taken.now)) (sym c.is_marked-mark.ensures) in
    given_run c.args.self.now _ _ _ (record { event = event_of c.args.event.now; halts = c.is_marked-mark.result }) _ _ _ _ _ _ (handed c.requires.peer (taken_of c.args.taken.now))
    c.self.view_is c.reserve.ensures.world c.push.ensures c.self.invariant c.requires.does
    (handed_me c.requires.peer (taken_of c.args.taken.now) c.is_marked-mark.result c.requires.keeps)
    (c.in_ok-told.ensures.peers c.requires.peer at ∙ ap (λ (d : Handed). slice_set c.self.inside.peers c.args.place d.peer) same)
    (c.in_ok-told.ensures.packets c.requires.peer at ∙ ap (λ (d : Handed). c.self.inside.mail.packets ++ map framed_packet d.packets) same)
    (subst (λ (d : Handed). All HasFrame d.packets) same (c.in_ok-told.ensures.framed c.requires.peer at))

pub returns-clause-stored : goal.returns-clause-stored
returns-clause-stored c =
    let at = at_place _ _ _ _ _ _ c.self.invariant c.self.view_is c.requires.does.at in
    let is = read_at c.self.inside.peers c.args.place c.requires.peer c.index-as_slice-place.result at (c.index-as_slice-place.is ∙ ap (λ (l : List Peer). get_or l c.args.place c.index-as_slice-place.result) c.as_slice.ensures) in
    let goes : c.in_ok-has_outcome.has_outcome ≡ is_some (node_step c.requires.peer.node (taken_of c.args.taken.now)) =
    c.in_ok-has_outcome.ensures ∙ ap (λ (n : Node). is_some (node_step n (taken_of c.args.taken.now))) (c.node.ensures ∙ ap (λ (p : Peer). p.node) is) in
    let same = same_mark c.requires.peer (taken_of c.args.taken.now) c.in_ok-told.told.halts c.in_ok-has_outcome.has_outcome goes ∙ ap (handed c.requires.peer (taken_of c.args.taken.now)) (sym c.is_marked-mark.ensures) in
    given_stored c.args.self.now _ _ _ (record { event = event_of c.args.event.now; halts = c.is_marked-mark.result }) _ _ (handed c.requires.peer (taken_of c.args.taken.now)) _
    c.self.view_is c.reserve.ensures.world c.push.ensures c.requires.does
    (one_report [] _ _ c.take.ensures refl ∙ c.in_ok-told.ensures.reports c.requires.peer at ∙ ap (λ (d : Handed). d.reports) same)
    (handed_marks c.requires.peer (taken_of c.args.taken.now) c.is_marked-mark.result)
    (λ t. mark_needed c.requires.peer (taken_of c.args.taken.now) c.in_ok-told.told.halts c.in_ok-has_outcome.has_outcome goes (sym c.is_marked-mark.ensures ∙ t))

pub invariant_of-self-in_err-told : goal.invariant_of-self-in_err-told
invariant_of-self-in_err-told c =
    kept_run _ _ _ _ _ _ c.self.invariant c.reserve.ensures.world c.in_err-told.ensures.unchanged c.in_err-told.ensures.mail_unchanged

pub returns-in_err-told-clause-unchanged : goal.returns-in_err-told-clause-unchanged
returns-in_err-told-clause-unchanged c =
    let p = err_from_is_err_and c.from_residual-in_err-told.result c.from_residual-in_err-told.ensures.1 in
    rw (p.1) (c.reserve.ensures.world ∙ c.self.view_is)
