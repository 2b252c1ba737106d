-- `carv_scheduler::area::thread_id` meets its contract. Assumes nothing.
use Rattle.std.proofs.Common.{arith}
use Rattle.carv_scheduler.specs.Area.{threads_part}
use Rattle.carv_scheduler.specs.Laws.AreaLaws.{formed_laid}
use Rattle.carv_scheduler.specs.Laws.AreaSteps.{thread_room, thread_id_is}
use Rattle.carv_scheduler.proofs.area.thread_id.Goals as goal

pub overflow_mul-i : goal.overflow_mul-i
unfolding threads_part
overflow_mul-i c =
    omega (arith, thread_room _ (formed_laid _ c.requires.well_formed) _ c.requires.i_in_bounds)

pub overflow_add-i : goal.overflow_add-i
unfolding threads_part
overflow_add-i c =
    omega (arith, thread_room _ (formed_laid _ c.requires.well_formed) _ c.requires.i_in_bounds)

pub get-requires : goal.get-requires
unfolding threads_part
get-requires c =
    omega (arith, thread_room _ (formed_laid _ c.requires.well_formed) _ c.requires.i_in_bounds)

pub returns : goal.returns
unfolding threads_part
returns c =
    thread_id_is _ (formed_laid _ c.requires.well_formed) _ c.requires.i_in_bounds _ c.get.ensures
