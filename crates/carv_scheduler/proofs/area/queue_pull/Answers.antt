-- `carv_scheduler::area::queue_pull` meets its contract. Assumes nothing.
use Rattle.std.proofs.Common.{◌∙◌}
use Rattle.carv_scheduler.specs.Area.{queue_part}
use Rattle.carv_scheduler.specs.Laws.Formed.{queue_written}
use Rattle.carv_scheduler.specs.Laws.AreaSteps.{length_queue}
use Rattle.carv_scheduler.proofs.area.queue_pull.Goals as goal

pub pull-requires : goal.pull-requires
unfolding queue_part
pull-requires c =
    record { queue = c.requires.well_formed.queue; is_place = c.requires.i_in_bounds }

pub returns : goal.returns
unfolding queue_part
returns c =
    (c.pull.ensures.value, queue_written _ c.requires.well_formed _ _ (c.pull.auto.t ∙ length_queue c.args.a.now c.requires.well_formed.size) c.pull.ensures.pulled)
