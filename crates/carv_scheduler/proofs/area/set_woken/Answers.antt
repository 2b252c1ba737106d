-- `carv_scheduler::area::set_woken` meets its contract. Assumes nothing.
use Rattle.std.proofs.Common.{◌∙◌}
use Rattle.carv_scheduler.specs.Area.{threads_part}
use Rattle.carv_scheduler.specs.Laws.AreaLaws.{formed_laid}
use Rattle.carv_scheduler.specs.Laws.AreaSteps.{length_threads, thread_room}
use Rattle.carv_scheduler.specs.Laws.RowWords.{thread_woken}
use Rattle.carv_scheduler.proofs.area.set_woken.Goals as goal

pub write_woken-requires : goal.write_woken-requires
unfolding threads_part
write_woken-requires c =
    thread_room _ (formed_laid _ c.requires.well_formed) _ c.requires.i_in_bounds

pub returns : goal.returns
unfolding threads_part
returns c =
    thread_woken _ c.requires.well_formed _ c.requires.i_in_bounds _ (c.write_woken.auto.t ∙ length_threads c.args.a.now c.requires.well_formed.size) _ c.write_woken.ensures
