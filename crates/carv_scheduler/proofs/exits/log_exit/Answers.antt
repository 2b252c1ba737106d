-- `carv_scheduler::exits::log_exit` meets its contract. Assumes nothing.
use Rattle.carv_scheduler.specs.Laws.AreaLaws.{formed_laid}
use Rattle.carv_scheduler.specs.Laws.ExitSteps.{logged_room}
use Rattle.carv_scheduler.proofs.exits.log_exit.Goals as goal

pub add_exit-requires-clause-a_len_bound : goal.add_exit-requires-clause-a_len_bound
add_exit-requires-clause-a_len_bound c =
    logged_room _ _ (formed_laid c.args.a.now c.requires) c.make_room.ensures.is
