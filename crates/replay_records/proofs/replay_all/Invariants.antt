-- `replay_records::replay_all` meets its contract. The loop's invariant: the tally tells of the bytes that the input gave, and leaves room for the blocks that may come, which
-- are the measure.
use Rattle.replay_records.specs.Replayed.{Replays}
use Rattle.replay_records.specs.Tally.{Room}
use Rattle.replay_records.proofs.Laws.Run.{SoFar}
use Rattle.replay_records.proofs.replay_all.Given as goal

abbrev pub invariant-loop-run : goal.invariant-loop-run
invariant-loop-run g l = record {
  room : Room l.run.tally;
  read : SoFar g.row.SIZE (Replays g.P.Replay.replays g.row.SIZE l.initial.program l.program) l.run (g.R.Read.remaining l.initial.input) (g.R.Read.remaining l.input);
}

abbrev pub decreases-loop-run : goal.decreases-loop-run
decreases-loop-run g l = l.run.tally.blocks
