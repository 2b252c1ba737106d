-- `carv_scheduler::area::thread_count` meets its contract. Assumes nothing.
use Rattle.carv_scheduler.specs.Area.{threads_part}
use Rattle.carv_scheduler.specs.Laws.AreaLaws.{formed_laid}
use Rattle.carv_scheduler.specs.Laws.AreaSteps.{threads_count}
use Rattle.carv_scheduler.proofs.area.thread_count.Goals as goal

pub returns : goal.returns
unfolding threads_part
returns c =
    threads_count _ (formed_laid _ c.requires) _ c.get.ensures
