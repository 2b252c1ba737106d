-- `replay_records::differences` meets its contract. The loop's invariant: of the first `i` records `count` differ.
use Rattle.std.proofs.Common.{◌≤◌}
use Rattle.replay_records.specs.Replayed.{Replays}
use Rattle.replay_records.proofs.differences.Given as goal

abbrev pub invariant-loop-i : goal.invariant-loop-i
invariant-loop-i g l = record {
  replayed : Replays g.P.Replay.replays g.row.SIZE l.initial.program l.program l.block l.i l.count;
  few : l.count ≤ l.i;
}
