-- `carv_scheduler::exits::add_exit` meets its contract. Assumes nothing.
use Rattle.std.proofs.Common.{◌∙◌, arith}
use Rattle.carv_scheduler.specs.Area.{exits_part}
use Rattle.carv_scheduler.specs.Laws.Formed.{exits_written}
use Rattle.carv_scheduler.specs.Laws.ExitSteps.{length_exits}
use Rattle.carv_scheduler.proofs.exits.add_exit.Goals as goal

pub append_exit-requires : goal.append_exit-requires
unfolding exits_part
append_exit-requires c =
    record { stored = c.requires.well_formed.exits; t_in_bounds = omega (arith, length_exits c.args.a.now c.requires.well_formed.size, c.requires.a_len_bound) }

pub returns : goal.returns
unfolding exits_part
returns c =
    exits_written _ c.requires.well_formed _ _ (c.append_exit.auto.t ∙ length_exits c.args.a.now c.requires.well_formed.size) c.append_exit.ensures
