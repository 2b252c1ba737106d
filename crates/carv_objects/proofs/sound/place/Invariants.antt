-- `carv_objects::sound::place` meets its contract. The loop's invariant: the ids before lo are below p, and those from lo + len on are above it.
-- Assumes nothing.
use Rattle.carv_area.specs.Words.{words}
use Rattle.carv_objects.specs.Laws.SoundPlace.{Near}
use Rattle.carv_objects.proofs.sound.place.Given as goal

abbrev pub invariant-loop-len : goal.invariant-loop-len
invariant-loop-len l = Near (words l.t) l.i l.p l.lo l.len

abbrev pub decreases-loop-len : goal.decreases-loop-len
decreases-loop-len l = l.len
