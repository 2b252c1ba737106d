-- `carv_scheduler::area::add_tick` meets its contract. Assumes nothing.
use Rattle.std.proofs.Common.{refl, ◌∙◌}
use Rattle.carv_scheduler.specs.Area.{threads_part}
use Rattle.carv_scheduler.specs.Laws.AreaLaws.{formed_laid}
use Rattle.carv_scheduler.specs.Laws.AreaSteps.{length_threads, thread_room}
use Rattle.carv_scheduler.specs.Laws.RowWords.{thread_ticked}
use Rattle.carv_scheduler.proofs.area.add_tick.Goals as goal

pub write_ticked-requires : goal.write_ticked-requires
unfolding threads_part
write_ticked-requires c =
    thread_room _ (formed_laid _ c.requires.well_formed) _ c.requires.i_in_bounds

pub returns : goal.returns
unfolding threads_part
returns c =
    thread_ticked _ c.requires.well_formed _ c.requires.i_in_bounds _ (c.write_ticked.auto.t ∙ length_threads c.args.a.now c.requires.well_formed.size) _ refl c.write_ticked.ensures
