use Rattle.std.proofs.Common.{◌≡◌, [], ◌∙◌, ℕ, List, true, cond, get_or, ap, arith}
use Rattle.std.specs.List.{list_any}
use Rattle.rapid_model.specs.Process.{endpoint, same_bytes}
use Rattle.rapid_config.proofs.Differing.{endpoints_more}
use Rattle.rapid_config.proofs.endpoints.endpoints_of.Goals as goal

pub loop-place-preserved : goal.loop-place-preserved
loop-place-preserved c =
    let ps = c.args.processes.now in
    let i = c.loop-place.place in
    let here : c.new.result ≡ endpoint (get_or ps i []) = c.new.ensures ∙ c.endpoint.ensures ∙ ap endpoint c.at.ensures in
    endpoints_more ps i [] c.loop-place.endpoints.keys c.insert.new.self.keys (omega arith) c.loop-place.invariant
    (λ q. c.in_ok-insert.ensures.updates.0 q ∙ ap (λ (e : List ℕ). cond (same_bytes e q) true (list_any (same_bytes q) c.loop-place.endpoints.keys)) here)
