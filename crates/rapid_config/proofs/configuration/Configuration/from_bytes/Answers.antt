use Rattle.std.proofs.Common.{List, ℕ, sym, ap, ◌∙◌}
use Rattle.std.specs.Int.{w64, from_be_bytes}
use Rattle.rapid_model.specs.Configuration.{configuration_bytes}
use Rattle.rapid_model.proofs.Spelled.{spelling_one}
use Rattle.rapid_config.proofs.configuration.Configuration.from_bytes.Goals as goal

pub assemble_spelled-configuration-requires-clause-bytes : goal.assemble_spelled-configuration-requires-clause-bytes
assemble_spelled-configuration-requires-clause-bytes c =
    sym
    (spelling_one c.args.bytes.now c.tell_bytes.ensures (c.in_ok-params.ensures.fault ∙ c.in_ok-members.ensures.allowed))
    ∙ (λ i. configuration_bytes
    (record {
      params = sym c.in_ok-params.ensures.params i;
      height = sym (c.from_be_bytes-height.ensures ∙ ap (λ (bs : List ℕ). from_be_bytes w64 bs) c.chunk_at-2.ensures) i;
      previous = sym (c.new-previous.ensures ∙ c.chunk_at.ensures) i;
      members = sym c.in_ok-members.ensures.members i;
    }))
