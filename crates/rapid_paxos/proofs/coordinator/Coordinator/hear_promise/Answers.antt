use Rattle.std.proofs.Common.{◌+◌, ◌∙◌, ap, sym, Option}
use Rattle.std.specs.FinSet as set
use Rattle.std.specs.Option.{option_map}
use Rattle.rapid_model.specs.Cut.{Cut}
use Rattle.rapid_model.specs.Quorum.{classic_size}
use Rattle.rapid_model.specs.Coordinator.{Coordinator, value_of, with_report}
use Rattle.rapid_paxos.specs.Reported.{last_of}
use Rattle.rapid_paxos.proofs.Coordinating.{ignored, taken, no_accept, not_complete, complete}
use Rattle.rapid_paxos.proofs.coordinator.Coordinator.hear_promise.Goals as goal

pub returns-then-not-counts_promise-clause-heard : goal.returns-then-not-counts_promise-clause-heard
returns-then-not-counts_promise-clause-heard c =
    sym (ignored c.args.self.now c.args.position c.args.promise.now.ballot (last_of c.args.promise.now.vote) (sym c.counts_promise.ensures ∙ c.if-not-counts_promise.true))

pub returns-then-not-counts_promise-clause-cut : goal.returns-then-not-counts_promise-clause-cut
returns-then-not-counts_promise-clause-cut c =
    let own : Option Cut = option_map (λ v. v.now) c.args.own in
    no_accept c.args.self.now c.args.position c.args.promise.now.ballot (last_of c.args.promise.now.vote) own (sym c.counts_promise.ensures ∙ c.if-not-counts_promise.true)

pub returns-then-len-classic_size-clause-heard : goal.returns-then-len-classic_size-clause-heard
returns-then-len-classic_size-clause-heard c =
    c.in_ok-report.ensures.ok
    ∙ sym (taken c.args.self.now c.args.position c.args.promise.now.ballot (last_of c.args.promise.now.vote) (sym c.counts_promise.ensures ∙ c.if-not-counts_promise.false))

pub returns-then-len-classic_size-clause-cut : goal.returns-then-len-classic_size-clause-cut
returns-then-len-classic_size-clause-cut c =
    let own : Option Cut = option_map (λ v. v.now) c.args.own in
    not_complete c.args.self.now c.args.position c.args.promise.now.ballot (last_of c.args.promise.now.vote) own (sym c.counts_promise.ensures ∙ c.if-not-counts_promise.false)
    (λ e. c.if-len-classic_size.true (ap (λ n. n + 1) c.len.ensures.value ∙ ap (λ q. set.len q.heard + 1) c.self.view_is ∙ e ∙ sym (c.classic_size.ensures ∙ ap (λ q. classic_size q.size) c.self.view_is)))

pub returns-clause-heard : goal.returns-clause-heard
returns-clause-heard c =
    c.next.view_is ∙ c.in_ok-report-2.ensures.ok
    ∙ ap (λ (q : Coordinator). with_report (record { size = q.size; position = q.position; ballot = q.ballot; heard = set.insert q.heard c.args.position; top = q.top; counts = q.counts }) (last_of c.args.promise.now.vote)) c.in_ok-next.ensures
    ∙ sym (taken c.args.self.now c.args.position c.args.promise.now.ballot (last_of c.args.promise.now.vote) (sym c.counts_promise.ensures ∙ c.if-not-counts_promise.false))

pub returns-clause-cut : goal.returns-clause-cut
returns-clause-cut c =
    let own : Option Cut = option_map (λ v. v.now) c.args.own in
    c.request.ensures.cut ∙ c.in_ok-cut.ensures
    ∙ ap (λ (q : Coordinator). value_of q own)
    (c.in_ok-report-2.ensures.ok
    ∙ ap (λ (q : Coordinator). with_report (record { size = q.size; position = q.position; ballot = q.ballot; heard = set.insert q.heard c.args.position; top = q.top; counts = q.counts }) (last_of c.args.promise.now.vote)) c.in_ok-next.ensures
    ∙ sym (taken c.args.self.now c.args.position c.args.promise.now.ballot (last_of c.args.promise.now.vote) (sym c.counts_promise.ensures ∙ c.if-not-counts_promise.false)))
    ∙ sym (complete c.args.self.now c.args.position c.args.promise.now.ballot (last_of c.args.promise.now.vote) own (sym c.counts_promise.ensures ∙ c.if-not-counts_promise.false)
    (ap (λ q. set.len q.heard + 1) (sym c.self.view_is) ∙ ap (λ n. n + 1) (sym c.len.ensures.value) ∙ c.if-len-classic_size.false ∙ c.classic_size.ensures ∙ ap (λ q. classic_size q.size) c.self.view_is))
