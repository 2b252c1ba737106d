-- `carv_scheduler::planning::walk` meets its contract. The loop's invariant: what is left to do from place k gives the whole answer. Assumes nothing.
use Rattle.carv_scheduler.specs.Laws.Planning.{Turn}
use Rattle.carv_scheduler.proofs.planning.walk.Given as goal

abbrev pub invariant-loop-k : goal.invariant-loop-k
invariant-loop-k l = Turn l.time l.initial.a l.k-end l.a l.k
