-- `carv_scheduler::area::queue_at` meets its contract. Assumes nothing.
use Rattle.std.proofs.Common.{◌∙◌, arith}
use Rattle.carv_area.specs.Laws.Stored.{queue_at}
use Rattle.carv_scheduler.specs.Area.{queue_part}
use Rattle.carv_scheduler.specs.Laws.AreaLaws.{formed_laid}
use Rattle.carv_scheduler.specs.Laws.AreaSteps.{queue_room}
use Rattle.carv_scheduler.proofs.area.queue_at.Goals as goal

pub overflow_add-i : goal.overflow_add-i
unfolding queue_part
overflow_add-i c =
    omega (arith, queue_room _ (formed_laid _ c.requires.well_formed) _ c.requires.i_in_bounds)

pub get-requires : goal.get-requires
unfolding queue_part
get-requires c =
    omega (arith, queue_room _ (formed_laid _ c.requires.well_formed) _ c.requires.i_in_bounds)

pub returns : goal.returns
unfolding queue_part
returns c =
    c.get.ensures ∙ queue_at _ _ c.requires.i_in_bounds
