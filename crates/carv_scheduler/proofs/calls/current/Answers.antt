-- `carv_scheduler::calls::current` meets its contract. Assumes nothing.
use Rattle.carv_scheduler.specs.Laws.AreaLaws.{area_formed}
use Rattle.carv_scheduler.proofs.calls.current.Goals as goal

pub current-requires : goal.current-requires
current-requires c =
    (area_formed _ c.requires).size
