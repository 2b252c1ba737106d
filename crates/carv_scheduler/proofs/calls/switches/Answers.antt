-- `carv_scheduler::calls::switches` meets its contract. Assumes nothing.
use Rattle.carv_scheduler.specs.Laws.AreaLaws.{area_formed}
use Rattle.carv_scheduler.proofs.calls.switches.Goals as goal

pub switches-requires : goal.switches-requires
switches-requires c =
    area_formed _ c.requires
