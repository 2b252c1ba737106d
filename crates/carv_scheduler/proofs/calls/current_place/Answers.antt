-- `carv_scheduler::calls::current_place` meets its contract. Assumes nothing.
use Rattle.carv_scheduler.specs.Area.{decode}
use Rattle.carv_scheduler.specs.Laws.AreaLaws.{area_formed, area_sound}
use Rattle.carv_scheduler.specs.Laws.CallSteps.{current_stands}
use Rattle.carv_scheduler.proofs.calls.current_place.Goals as goal

pub current-requires : goal.current-requires
current-requires c =
    (area_formed _ c.requires).size

pub find_thread-requires : goal.find_thread-requires
find_thread-requires c =
    area_formed _ c.requires

pub unwrap-requires : goal.unwrap-requires
unwrap-requires c =
    current_stands (decode c.args.a.now) (area_sound _ c.requires) _ c.current.ensures _ c.find_thread.ensures
