-- `carv_scheduler::planning::choose` meets its contract. Assumes nothing.
use Rattle.carv_scheduler.specs.Laws.Planning.{chooses_within, chooses_at, chooses_idle}
use Rattle.carv_scheduler.proofs.planning.choose.Goals as goal

pub queue_pull-id-requires-clause-i_in_bounds : goal.queue_pull-id-requires-clause-i_in_bounds
queue_pull-id-requires-clause-i_in_bounds c =
    chooses_within _ _ _ _ c.walk.ensures.place c.walk.ensures.area.is _ _ c.in-Some.is

pub returns-in-Some : goal.returns-in-Some
returns-in-Some c =
    chooses_at _ _ _ _ c.walk.ensures _ _ c.in-Some.is _ c.queue_pull-id.ensures.0 _ c.queue_pull-id.ensures.1

pub returns-in-None : goal.returns-in-None
returns-in-None c =
    chooses_idle _ _ _ _ c.walk.ensures c.in-None.is _ c.find_thread-at.ensures
