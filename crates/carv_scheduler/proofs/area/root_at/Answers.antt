-- `carv_scheduler::area::root_at` meets its contract. Assumes nothing.
use Rattle.std.proofs.Common.{arith}
use Rattle.carv_scheduler.specs.Area.{threads_part}
use Rattle.carv_scheduler.specs.Laws.AreaLaws.{formed_laid}
use Rattle.carv_scheduler.specs.Laws.AreaSteps.{length_threads, thread_room, thread_root_is}
use Rattle.carv_scheduler.proofs.area.root_at.Goals as goal

pub overflow_mul-i : goal.overflow_mul-i
unfolding threads_part
overflow_mul-i c =
    let room = thread_room _ (formed_laid _ c.requires.well_formed) _ c.requires.i_in_bounds in
    let size = length_threads _ c.requires.well_formed.size in
    omega (arith, room, size)

pub overflow_add-i : goal.overflow_add-i
unfolding threads_part
overflow_add-i c =
    let room = thread_room _ (formed_laid _ c.requires.well_formed) _ c.requires.i_in_bounds in
    let size = length_threads _ c.requires.well_formed.size in
    omega (arith, room, size)

pub read_root-requires : goal.read_root-requires
unfolding threads_part
read_root-requires c =
    omega (arith, thread_room _ (formed_laid _ c.requires.well_formed) _ c.requires.i_in_bounds)

pub returns : goal.returns
unfolding threads_part
returns c =
    thread_root_is _ (formed_laid _ c.requires.well_formed) _ c.requires.i_in_bounds _ c.read_root.ensures
