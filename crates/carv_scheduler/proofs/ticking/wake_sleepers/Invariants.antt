-- `carv_scheduler::ticking::wake_sleepers` meets its contract. The loop's invariant: waking the threads from place i on gives the whole. Assumes nothing.
use Rattle.carv_scheduler.specs.Laws.Waking.{Waking}
use Rattle.carv_scheduler.proofs.ticking.wake_sleepers.Given as goal

abbrev pub invariant-loop-i : goal.invariant-loop-i
invariant-loop-i l = Waking l.n l.i-end l.i l.initial.a l.a
