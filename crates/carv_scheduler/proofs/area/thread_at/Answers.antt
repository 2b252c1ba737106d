-- `carv_scheduler::area::thread_at` meets its contract. Assumes nothing.
use Rattle.carv_scheduler.specs.Area.{threads_part}
use Rattle.carv_scheduler.specs.Laws.AreaLaws.{formed_laid}
use Rattle.carv_scheduler.specs.Laws.AreaSteps.{thread_room, thread_is}
use Rattle.carv_scheduler.proofs.area.thread_at.Goals as goal

pub read_thread-requires : goal.read_thread-requires
unfolding threads_part
read_thread-requires c =
    thread_room _ (formed_laid _ c.requires.well_formed) _ c.requires.i_in_bounds

pub returns : goal.returns
unfolding threads_part
returns c =
    thread_is _ (formed_laid _ c.requires.well_formed) _ c.requires.i_in_bounds _ c.read_thread.ensures
