use Rattle.std.proofs.Common.{subst, rules, arith}
use Rattle.std.specs.Prelude.{All}
use Rattle.rapid_model.specs.Process.{IsProcess}
use Rattle.rapid_config.proofs.Cuts.{is_cut}
use Rattle.rapid_config.proofs.cut.Cut.new.Goals as goal

pub of-requires : goal.of-requires
of-requires c =
    let all = subst (All IsProcess) c.as_slice-2.ensures.value c.tell_processes.ensures in
    rw (c.in_ok-list.ensures, c.as_slice-3.ensures.value) (is_cut c.args.processes.items (search rules) (omega arith) all (search rules))
