-- `carv_scheduler::area::insert_at` meets its contract. Assumes nothing.
use Rattle.std.proofs.Common.{◌∙◌}
use Rattle.carv_scheduler.specs.Area.{threads_part}
use Rattle.carv_scheduler.specs.Laws.AreaLaws.{formed_laid}
use Rattle.carv_scheduler.specs.Laws.AreaSteps.{length_threads, threads_space, place_counted, thread_inserted}
use Rattle.carv_scheduler.proofs.area.insert_at.Goals as goal

pub insert_thread-requires : goal.insert_thread-requires
unfolding threads_part
insert_thread-requires c =
    record { t_in_bounds = threads_space _ (formed_laid _ c.requires.well_formed) c.requires.new.few (length_threads c.args.a.now c.requires.well_formed.size); i_bound = place_counted _ (formed_laid _ c.requires.well_formed) _ (c.requires.placed.within c.requires.new.fresh) }

pub returns : goal.returns
unfolding threads_part
returns c =
    thread_inserted _ c.requires.well_formed _ (c.insert_thread.auto.t ∙ length_threads c.args.a.now c.requires.well_formed.size) _ _ _ c.requires.placed c.requires.new (length_threads c.args.a.now c.requires.well_formed.size) c.insert_thread.ensures
