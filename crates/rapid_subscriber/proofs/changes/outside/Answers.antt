use Rattle.std.proofs.Common.{◌≡◌, ◌≤◌, ◌<◌, List, length, get_or, not, ap, sym, subst, ◌∙◌, arith}
use Rattle.std.specs.List.{filter}
use Rattle.std.proofs.lemmas.Result.{IfOk-weaker}
use Rattle.rapid_model.specs.Process.{Process}
use Rattle.rapid_model.specs.Configuration.{is_member}
use Rattle.rapid_model.specs.Reading.{processes_at, read_in}
use Rattle.rapid_subscriber.proofs.Outside.{found_spelt, passed_spelt, spelt_read}
use Rattle.rapid_subscriber.proofs.changes.outside.Goals.{then-not-is_member+in_ok-append_to, else-not-is_member}
use Rattle.rapid_subscriber.proofs.changes.outside.Goals as goal

pub loop-member-preserved : goal.loop-member-preserved
loop-member-preserved c =
    let ps = c.args.configuration.now.members in
    let f = λ (p : Process). not (is_member c.args.other.now p) in
    let i = c.loop-member.member-index in
    let p = c.member-item.result in
    let is : p ≡ get_or ps i p = c.member-item.is ∙ ap (λ (l : List Process). get_or l i p) c.members-member-items.ensures.value in
    let l : i < length ps = subst (λ (l : List Process). i < length l) c.members-member-items.ensures.value c.loop-member-test.true in
    elim c.if-not-is_member.branch [
      | then-not-is_member+in_ok-append_to w ↦ (
        found_spelt f ps i p _ _ _ _ l is (ap not (sym c.is_member.ensures ∙ w.if-not-is_member.true)) w.append_to.ensures.process
            (ap (λ v. v.items) w.bytes-is ∙ w.in_ok-append_to.ensures.value) w.count-is c.loop-member.invariant.0,
        omega arith,
      )
      | else-not-is_member w ↦ (
        rw (w.bytes-is, w.count-is) (passed_spelt f ps i p _ _ l is (ap not (sym c.is_member.ensures ∙ w.if-not-is_member.false)) c.loop-member.invariant.0),
        omega arith,
      )
    ]

pub of_bytes-requires : goal.of_bytes-requires
of_bytes-requires c =
    let ps = c.args.configuration.now.members in
    let f = λ (p : Process). not (is_member c.args.other.now p) in
    let l : length ps ≤ c.loop-member.member-index = subst (λ (l : List Process). length l ≤ c.loop-member.member-index) c.members-member-items.ensures.value c.loop-member-test.false in
    (filter f ps, ap (processes_at c.loop-member.count) c.as_slice.ensures.value ∙ spelt_read f ps c.loop-member.member-index _ _ l c.loop-member.invariant.0)

pub returns : goal.returns
returns c =
    let ps = c.args.configuration.now.members in
    let f = λ (p : Process). not (is_member c.args.other.now p) in
    let l : length ps ≤ c.loop-member.member-index = subst (λ (l : List Process). length l ≤ c.loop-member.member-index) c.members-member-items.ensures.value c.loop-member-test.false in
    IfOk-weaker c.of_bytes.result _ _
    (λ x e. e ∙ ap read_in (ap (processes_at c.loop-member.count) c.as_slice.ensures.value ∙ spelt_read f ps c.loop-member.member-index _ _ l c.loop-member.invariant.0))
    c.of_bytes.ensures
