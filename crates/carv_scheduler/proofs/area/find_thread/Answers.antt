-- `carv_scheduler::area::find_thread` meets its contract. Assumes nothing.
use Rattle.carv_scheduler.specs.Laws.AreaLaws.{formed_laid}
use Rattle.carv_scheduler.specs.Laws.AreaSteps.{thread_found}
use Rattle.carv_scheduler.proofs.area.find_thread.Goals as goal

pub returns : goal.returns
returns c =
    thread_found _ (formed_laid _ c.requires) _ c.threads.ensures _ _ c.find.ensures
