-- `carv_scheduler::area::remove_thread` meets its contract. Assumes nothing.
use Rattle.std.proofs.Common.{◌∙◌}
use Rattle.carv_scheduler.specs.Area.{threads_part}
use Rattle.carv_scheduler.specs.Laws.AreaLaws.{formed_laid}
use Rattle.carv_scheduler.specs.Laws.AreaSteps.{length_threads, threads_room, thread_counted, thread_removed}
use Rattle.carv_scheduler.proofs.area.remove_thread.Goals as goal

pub remove_row-requires : goal.remove_row-requires
unfolding threads_part
remove_row-requires c =
    record { rows_fit = threads_room _ (formed_laid _ c.requires.well_formed); is_row = thread_counted _ (formed_laid _ c.requires.well_formed) _ c.requires.i_in_bounds }

pub returns : goal.returns
unfolding threads_part
returns c =
    thread_removed _ c.requires.well_formed _ (c.remove_row.auto.t ∙ length_threads c.args.a.now c.requires.well_formed.size) _ c.requires.i_in_bounds c.remove_row.ensures.words
