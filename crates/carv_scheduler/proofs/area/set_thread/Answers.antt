-- `carv_scheduler::area::set_thread` meets its contract. Assumes nothing.
use Rattle.std.proofs.Common.{◌∙◌}
use Rattle.carv_scheduler.specs.Area.{threads_part}
use Rattle.carv_scheduler.specs.Laws.AreaLaws.{formed_laid}
use Rattle.carv_scheduler.specs.Laws.AreaSteps.{length_threads, thread_room, thread_set}
use Rattle.carv_scheduler.proofs.area.set_thread.Goals as goal

pub write_thread-requires : goal.write_thread-requires
unfolding threads_part
write_thread-requires c =
    thread_room _ (formed_laid _ c.requires.well_formed) _ c.requires.i_in_bounds.0

pub returns : goal.returns
unfolding threads_part
returns c =
    thread_set _ c.requires.well_formed _ (c.write_thread.auto.t ∙ length_threads c.args.a.now c.requires.well_formed.size) _ _ _ c.requires.i_in_bounds.0 c.requires.i_in_bounds.1 c.write_thread.ensures
