-- `carv_scheduler::ticking::wake_sleepers` meets its contract. The loop's invariant: waking the threads from place i on gives the whole. Assumes nothing.
use Rattle.carv_scheduler.specs.Laws.AreaLaws.{area_formed}
use Rattle.carv_scheduler.specs.Laws.Waking.{waking_on}
use Rattle.carv_scheduler.proofs.ticking.wake_sleepers.Goals as goal

pub thread_count-i-end-requires : goal.thread_count-i-end-requires
thread_count-i-end-requires c =
    area_formed _ c.requires

pub loop-i-preserved : goal.loop-i-preserved
loop-i-preserved c =
    waking_on _ _ _ _ _ c.loop-i.invariant c.loop-i-test.true _ c.wake_at.ensures
