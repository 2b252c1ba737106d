-- `carv_scheduler::area::queue_length` meets its contract. Assumes nothing.
use Rattle.carv_scheduler.specs.Area.{queue_part}
use Rattle.carv_scheduler.specs.Laws.AreaLaws.{formed_laid}
use Rattle.carv_scheduler.specs.Laws.AreaSteps.{queue_count}
use Rattle.carv_scheduler.proofs.area.queue_length.Goals as goal

pub returns : goal.returns
unfolding queue_part
returns c =
    queue_count _ (formed_laid _ c.requires) _ c.get.ensures
