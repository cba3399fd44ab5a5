use Rattle.std.proofs.Common.{◌++◌, ◌∷◌, [], List, ℕ, ◌≤◌, map, sym, ap, ◌∙◌, arith}
use Rattle.std.proofs.lemmas.List.{map-append}
use Rattle.rapid_model.specs.Process.{identifier}
use Rattle.rapid_model.specs.Reading.{read_in}
use Rattle.rapid_endpoint.specs.ReadErrors.{fault_of}
use Rattle.rapid_endpoint.proofs.Walking.{step, not_stopped, ended}
use Rattle.rapid_config.proofs.reading.read_members.Goals as goal

pub unreachable-requires : goal.unreachable-requires
unreachable-requires c =
    not_stopped c.args.count 49 c.loop.counter c.loop.at c.args.bytes.now c.loop.members.items (fault_of c.in_default.field-0) c.loop.invariant.0 c.loop-test.true c.in_default.ensures.read c.requires.all

pub loop-preserved : goal.loop-preserved
loop-preserved c =
    let ms = c.loop.members.items in
    let m = c.read_from.new.process in
    let items = c.in_ok-extend_from_slice.ensures.items ∙ ap (λ (xs : List (List ℕ)). ms ++ xs) c.from_ref.ensures.value in (
      rw items (step c.args.count 49 c.loop.counter c.loop.at _ c.args.bytes.now ms _ c.loop.invariant.0 c.loop-test.true c.in-Ok.ensures.read c.in-Ok.ensures.within),
      c.in_ok-push.ensures.items
          ∙ ap (λ (i : List ℕ). c.loop.identifiers.items ++ i ∷ []) c.id.ensures
          ∙ ap (λ (xs : List (List ℕ)). xs ++ identifier m ∷ []) c.loop.invariant.1
          ∙ sym (map-append identifier ms (m ∷ []))
          ∙ ap (λ (xs : List (List ℕ)). map identifier xs) (sym items),
    )

pub returns : goal.returns
returns c =
    let done : c.args.count ≤ c.loop.counter = omega (arith, c.loop-test.false) in
    record {
      members = sym (ap read_in (ended c.args.count 49 c.loop.counter c.loop.at c.args.bytes.now c.loop.members.items c.loop.invariant.0 done));
      identifiers = c.loop.invariant.1;
    }
