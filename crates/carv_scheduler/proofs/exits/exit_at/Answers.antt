-- `carv_scheduler::exits::exit_at` meets its contract. Assumes nothing.
use Rattle.carv_scheduler.specs.Area.{exits_part}
use Rattle.carv_scheduler.specs.Laws.AreaLaws.{formed_laid}
use Rattle.carv_scheduler.specs.Laws.ExitSteps.{exit_room, exit_is}
use Rattle.carv_scheduler.proofs.exits.exit_at.Goals as goal

pub read_exit-requires : goal.read_exit-requires
unfolding exits_part
read_exit-requires c =
    exit_room _ (formed_laid _ c.requires.well_formed) _ c.requires.i_in_bounds

pub returns : goal.returns
unfolding exits_part
returns c =
    exit_is _ (formed_laid _ c.requires.well_formed) _ c.requires.i_in_bounds _ c.read_exit.ensures
