-- `carv_scheduler::area::set_state` meets its contract. Assumes nothing.
use Rattle.std.proofs.Common.{◌∙◌}
use Rattle.carv_scheduler.specs.Area.{threads_part}
use Rattle.carv_scheduler.specs.Laws.AreaLaws.{formed_laid}
use Rattle.carv_scheduler.specs.Laws.AreaSteps.{length_threads, thread_room}
use Rattle.carv_scheduler.specs.Laws.RowWords.{thread_state}
use Rattle.carv_scheduler.proofs.area.set_state.Goals as goal

pub write_state-requires : goal.write_state-requires
unfolding threads_part
write_state-requires c =
    thread_room _ (formed_laid _ c.requires.well_formed) _ c.requires.i_in_bounds

pub returns : goal.returns
unfolding threads_part
returns c =
    thread_state _ c.requires.well_formed _ c.requires.i_in_bounds _ (c.write_state.auto.t ∙ length_threads c.args.a.now c.requires.well_formed.size) _ c.write_state.ensures
