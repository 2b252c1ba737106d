-- `carv_scheduler::killing::kill` meets its contract. Assumes nothing.
use Rattle.carv_scheduler.proofs.Rules.{met}
use Rattle.carv_scheduler_spec.proofs.Laws.Codes.{cause_known, cause_named}
use Rattle.carv_scheduler.specs.Laws.AreaLaws.{area_formed}
use Rattle.carv_scheduler.specs.Laws.Places.{found_here}
use Rattle.carv_scheduler.specs.Laws.KillSteps.{kill_distinct, kill_served}
use Rattle.carv_scheduler.specs.Area.{decode}
use Rattle.carv_scheduler.proofs.killing.kill.Goals as goal

pub find_thread-requires : goal.find_thread-requires
find_thread-requires c =
    area_formed _ c.requires

pub state_at-state-requires-clause-well_formed : goal.state_at-state-requires-clause-well_formed
state_at-state-requires-clause-well_formed c =
    area_formed _ c.requires

pub end_thread-requires-clause-well_formed : goal.end_thread-requires-clause-well_formed
end_thread-requires-clause-well_formed c =
    area_formed _ c.requires

pub leave_queue-requires-clause-a_value : goal.leave_queue-requires-clause-a_value
leave_queue-requires-clause-a_value c =
    kill_distinct c.args.a.now c.requires c.args.id c.args.cause (cause_known c.args.cause c.from_code.result c.from_code.ensures _ (met c.ok_or.ensures.ok_part c.in_ok-cause.was)) c.if-id-eq-IDLE.false _ c.end_thread.ensures

pub returns : goal.returns
returns c =
    kill_served c.args.a.now c.requires c.args.id c.args.cause (cause_known c.args.cause c.from_code.result c.from_code.ensures _ (met c.ok_or.ensures.ok_part c.in_ok-cause.was)) c.if-id-eq-IDLE.false _ c.end_thread.ensures _ (found_here (decode c.args.a.now).threads _ _ c.find_thread.ensures _ (met c.ok_or-2.ensures.ok_part c.in_ok-i.was)) _ c.state_at-state.ensures _ c.leave_queue.ensures _ (cause_named c.args.cause c.from_code.result c.from_code.ensures _ (met c.ok_or.ensures.ok_part c.in_ok-cause.was)) _ c.log_exit.ensures _ c.wait.ensures
