-- The loop's invariant in `carv_area::table::halve`: the keys before lo are below id, and those from lo + len on above it. Assumes nothing.
use Rattle.carv_area.specs.Words.{words}
use Rattle.carv_area.specs.Keys.{keys}
use Rattle.carv_area.specs.Search.{Bracket}
use Rattle.carv_area.proofs.table.halve.Given as goal

abbrev pub invariant-loop-len : goal.invariant-loop-len
invariant-loop-len l = Bracket (keys l.w (words l.t)) l.id l.lo l.len

abbrev pub decreases-loop-len : goal.decreases-loop-len
decreases-loop-len l = l.len
