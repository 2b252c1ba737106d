-- `carv_scheduler::area::thread_rank` meets its contract. Assumes nothing.
use Rattle.carv_scheduler.specs.Laws.AreaLaws.{formed_laid}
use Rattle.carv_scheduler.specs.Laws.AreaSteps.{thread_placed}
use Rattle.carv_scheduler.proofs.area.thread_rank.Goals as goal

pub returns : goal.returns
returns c =
    thread_placed _ (formed_laid _ c.requires) _ c.threads.ensures _ _ c.rank.ensures
