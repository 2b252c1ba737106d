-- `replay_records::replay_all` meets its contract. Assumes nothing.
use Rattle.std.proofs.Common.{arith}
use Rattle.replay_records.proofs.Laws.Run.{block_more, none_yet}
use Rattle.replay_records.proofs.replay_all.Goals as goal

pub loop-run-init : goal.loop-run-init
loop-run-init g c = record { room = c.start.ensures.room; read = rw c.start.ensures.value (none_yet g.P.Replay.replays g.row.SIZE _ _) }

pub loop-run-preserved : goal.loop-run-preserved
loop-run-preserved g c = record {
  room = c.next_block-run.ensures.room.0;
  read = block_more g.P.Replay.replays g.row.SIZE _ _ _ _ _ _ _ _ g.met.P.Replay.size_fits.0 c.loop-run.invariant.read (omega (arith, c.loop-run-test.true)) c.next_block-run.ensures.taken;
}
