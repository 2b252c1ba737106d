-- `carv_scheduler::sound::queue_fits` meets its contract. The loop's invariant: the first j ids are walked. Assumes nothing.
use Rattle.std.proofs.Common.{◌≤◌}
use Rattle.carv_area.specs.Words.{words}
use Rattle.carv_scheduler.specs.Laws.SoundWalk.{Walk}
use Rattle.carv_scheduler.proofs.sound.queue_fits.Given as goal

abbrev pub invariant-loop-j : goal.invariant-loop-j
invariant-loop-j l = (l.j ≤ l.m) × Walk (words l.table.bytes.now) (words l.q) l.j l.marks
