-- `carv_scheduler::exits::exit_count` meets its contract. Assumes nothing.
use Rattle.carv_scheduler.specs.Area.{exits_part}
use Rattle.carv_scheduler.specs.Laws.AreaLaws.{formed_laid}
use Rattle.carv_scheduler.specs.Laws.ExitSteps.{exits_count}
use Rattle.carv_scheduler.proofs.exits.exit_count.Goals as goal

pub returns : goal.returns
unfolding exits_part
returns c =
    exits_count _ (formed_laid _ c.requires) _ c.get.ensures
