-- `carv_scheduler::ticking::wake_thread` meets its contract. Assumes nothing.
use Rattle.carv_scheduler.specs.Laws.AreaLaws.{area_formed}
use Rattle.carv_scheduler.specs.Laws.Waking.{wake_room, wakes}
use Rattle.carv_scheduler.proofs.ticking.wake_thread.Goals as goal

pub set_woken-requires-clause-well_formed : goal.set_woken-requires-clause-well_formed
set_woken-requires-clause-well_formed c =
    area_formed _ c.requires.a_value

pub queue_push-requires-clause-a_len_bound : goal.queue_push-requires-clause-a_len_bound
queue_push-requires-clause-a_len_bound c =
    wake_room c.args.a.now c.requires.a_value _ _ c.requires.here.0 _ c.requires.here.1 _ c.set_woken.ensures

pub returns : goal.returns
returns c =
    wakes c.args.a.now c.requires.a_value _ _ c.requires.here.0 _ c.requires.here.1 _ c.set_woken.ensures _ c.queue_push.ensures
