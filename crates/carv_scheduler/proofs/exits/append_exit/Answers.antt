-- `carv_scheduler::exits::append_exit` meets its contract. Assumes nothing.
use Rattle.std.proofs.Common.{arith}
use Rattle.carv_area.specs.Laws.Stored.{stored_append}
use Rattle.carv_scheduler.specs.Area.{exit_fields}
use Rattle.carv_scheduler.specs.Laws.Rows.{wide_exit}
use Rattle.carv_scheduler.specs.Laws.ExitSteps.{exit}
use Rattle.carv_scheduler.proofs.exits.append_exit.Goals as goal

pub returns : goal.returns
returns c =
    stored_append exit_fields 2 wide_exit _ _ _ c.requires.stored (exit c.args.thread c.args.cause) (omega (arith, c.requires.t_in_bounds)) (rw c.code.ensures at c.append_row.ensures.words)
