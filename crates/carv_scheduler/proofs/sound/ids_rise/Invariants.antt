-- `carv_scheduler::sound::ids_rise` meets its contract. The loop's invariant: the ids below place i rise, and before is the last of them. Assumes nothing.
use Rattle.carv_area.specs.Words.{words}
use Rattle.carv_scheduler.specs.Laws.SoundWalk.{Order}
use Rattle.carv_scheduler.proofs.sound.ids_rise.Given as goal

abbrev pub invariant-loop-i : goal.invariant-loop-i
invariant-loop-i l = Order (words l.t) l.n l.i l.before
