-- `carv_scheduler::killing::leave_queue` meets its contract. Assumes nothing.
use Rattle.carv_scheduler.specs.Laws.KillSteps.{queue_here, queue_gone, queue_stays, queue_left}
use Rattle.carv_scheduler.specs.Area.{decode}
use Rattle.carv_scheduler.proofs.killing.leave_queue.Goals as goal

pub returns-in_default : goal.returns-in_default
returns-in_default c =
    queue_stays c.args.a.now _ c.requires.well_formed (queue_gone (decode c.args.a.now).queue _ _ c.queue_find.ensures c.in_default.is)

pub queue_pull-requires-clause-i_in_bounds : goal.queue_pull-requires-clause-i_in_bounds
queue_pull-requires-clause-i_in_bounds c =
    (queue_here (decode c.args.a.now).queue _ _ c.queue_find.ensures _ c.in-Some.is).0

pub returns-in-Some : goal.returns-in-Some
returns-in-Some c =
    queue_left c.args.a.now _ _ ((queue_here (decode c.args.a.now).queue _ _ c.queue_find.ensures _ c.in-Some.is).1 c.requires.a_value) _ c.queue_pull.ensures.1
