-- `carv_scheduler::area::queue_push` meets its contract. Assumes nothing.
use Rattle.std.proofs.Common.{◌∙◌, arith}
use Rattle.carv_scheduler.specs.Area.{queue_part}
use Rattle.carv_scheduler.specs.Laws.Formed.{queue_written}
use Rattle.carv_scheduler.specs.Laws.AreaSteps.{length_queue}
use Rattle.carv_scheduler.proofs.area.queue_push.Goals as goal

pub push-requires : goal.push-requires
unfolding queue_part
push-requires c =
    record { queue = c.requires.well_formed.queue; one_more_fits = omega (arith, length_queue c.args.a.now c.requires.well_formed.size, c.requires.a_len_bound) }

pub returns : goal.returns
unfolding queue_part
returns c =
    queue_written _ c.requires.well_formed _ _ (c.push.auto.t ∙ length_queue c.args.a.now c.requires.well_formed.size) c.push.ensures.pushed
