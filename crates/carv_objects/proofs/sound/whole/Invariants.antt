-- `carv_objects::sound::whole` meets its contract. The loop's invariant: the rows below i are walked. Assumes nothing.
use Prim.Native.Nat.{◌-◌}
use Rattle.carv_area.specs.Words.{words}
use Rattle.carv_objects.specs.Laws.SoundWalk.{Walk}
use Rattle.carv_objects.proofs.sound.whole.Given as goal

abbrev pub invariant-loop-i : goal.invariant-loop-i
invariant-loop-i l = Walk (words l.t) l.next l.i l.figures

abbrev pub decreases-loop-i : goal.decreases-loop-i
decreases-loop-i l = l.n - l.i
