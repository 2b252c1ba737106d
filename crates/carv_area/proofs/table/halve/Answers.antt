-- `carv_area::table::halve` meets its contract. Assumes nothing.
use Rattle.std.proofs.Common.{arith}
use Rattle.std.specs.Prelude.{◌/◌}
use Rattle.carv_area.specs.Laws.Search.{go_right, go_left, rank_after, rank_here}
use Rattle.carv_area.proofs.table.halve.Goals.{then-key-id, else-key-id}
use Rattle.carv_area.proofs.table.halve.Goals as goal

pub loop-len-preserved : goal.loop-len-preserved
loop-len-preserved c =
    let at = c.loop-len in
    let rise = c.requires.keyed.rise in
    elim c.if-key-id.branch [
      | then-key-id w ↦ rw w.lo-is (go_right rise at.invariant (at.len / 2) (omega arith) (omega arith) (omega arith))
      | else-key-id w ↦ rw w.lo-is (go_left rise at.invariant (at.len / 2) (omega arith) (omega arith) (omega arith))
    ]

pub returns-then-key-id-2 : goal.returns-then-key-id-2
returns-then-key-id-2 c =
    rank_after c.loop-len.invariant (omega arith) (omega arith)

pub returns-else-key-id-2 : goal.returns-else-key-id-2
returns-else-key-id-2 c =
    rank_here c.loop-len.invariant (omega arith) (omega arith)
