-- `carv_scheduler::planning::put_back` meets its contract. Assumes nothing.
use Rattle.std.proofs.Common.{◌∙◌}
use Rattle.carv_scheduler_spec.proofs.Laws.Equal.{equal_dead}
use Rattle.carv_scheduler.specs.Laws.PlanSteps.{backs_not, backs_idle, backs_room, backs_goes}
use Rattle.carv_scheduler.specs.Laws.AreaLaws.{area_formed}
use Rattle.carv_scheduler.proofs.planning.put_back.Goals as goal

pub state_at-requires-clause-well_formed : goal.state_at-requires-clause-well_formed
state_at-requires-clause-well_formed c =
    area_formed _ c.requires.a_value

pub set_state-requires-clause-well_formed : goal.set_state-requires-clause-well_formed
set_state-requires-clause-well_formed c =
    area_formed _ c.requires.a_value

pub queue_push-requires-clause-a_len_bound : goal.queue_push-requires-clause-a_len_bound
queue_push-requires-clause-a_len_bound c =
    backs_room _ c.requires.a_value _ c.requires.value _ c.current_place-i.ensures _ c.state_at.ensures c.in-Running-2.is c.if-old-eq-IDLE.false _ c.set_state.ensures

pub returns-in-Running : goal.returns-in-Running
returns-in-Running c =
    backs_idle _ c.requires.a_value _ c.requires.value _ c.current_place-i.ensures _ c.state_at.ensures c.in-Running.is c.if-old-eq-IDLE.true

pub returns-in-Running-2 : goal.returns-in-Running-2
returns-in-Running-2 c =
    backs_goes _ c.requires.a_value _ c.requires.value _ c.current_place-i.ensures _ c.state_at.ensures c.in-Running-2.is c.if-old-eq-IDLE.false _ c.set_state.ensures _ c.queue_push.ensures

pub returns-in_default : goal.returns-in_default
returns-in_default c =
    backs_not _ c.requires.a_value _ c.requires.value _ c.current_place-i.ensures _ c.state_at.ensures c.in_default.not-Running _ (c.eq.ensures ∙ equal_dead c.state_at.result)
