-- `carv_scheduler::calls::read_thread` meets its contract. Assumes nothing.
use Rattle.carv_scheduler.specs.Laws.AreaLaws.{area_formed}
use Rattle.carv_scheduler.proofs.calls.read_thread.Goals as goal

pub find_thread-requires : goal.find_thread-requires
find_thread-requires c =
    area_formed _ c.requires

pub thread_at-requires-clause-well_formed : goal.thread_at-requires-clause-well_formed
thread_at-requires-clause-well_formed c =
    area_formed _ c.requires
