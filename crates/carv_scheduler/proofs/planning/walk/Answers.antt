-- `carv_scheduler::planning::walk` meets its contract. The loop's invariant: what is left to do from place k gives the whole answer. Assumes nothing.
use Rattle.carv_scheduler.specs.Laws.Planning.{turn_starts, turn_found, turn_on, turn_ends}
use Rattle.carv_scheduler.proofs.planning.walk.Goals as goal

pub loop-k-init : goal.loop-k-init
loop-k-init c =
    turn_starts _ _ c.requires _ c.queue_length-k-end.ensures

pub returns-in-Some : goal.returns-in-Some
returns-in-Some c =
    turn_found _ _ _ _ _ c.loop-k.invariant c.loop-k-test.true _ c.queue_at-id.ensures _ _ c.try_thread.ensures _ c.in-Some.is

pub loop-k-preserved : goal.loop-k-preserved
loop-k-preserved c =
    turn_on _ _ _ _ _ c.loop-k.invariant c.loop-k-test.true _ c.queue_at-id.ensures _ _ c.try_thread.ensures c.in_default.is

pub returns : goal.returns
returns c =
    turn_ends _ _ _ _ _ c.loop-k.invariant c.loop-k-test.false
