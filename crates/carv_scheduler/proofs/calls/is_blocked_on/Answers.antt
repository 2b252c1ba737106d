-- `carv_scheduler::calls::is_blocked_on` meets its contract. Assumes nothing.
use Rattle.carv_scheduler.specs.Laws.AreaLaws.{area_formed}
use Rattle.carv_scheduler.proofs.calls.is_blocked_on.Goals as goal

pub find_thread-requires : goal.find_thread-requires
find_thread-requires c =
    area_formed _ c.requires

pub state_at-requires-clause-well_formed : goal.state_at-requires-clause-well_formed
state_at-requires-clause-well_formed c =
    area_formed _ c.requires
