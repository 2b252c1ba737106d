-- `carv_objects::subtree::sums` meets its contract. The loop's invariant: the places before i are marked, and the sums are those of their objects within b. Assumes nothing.
use mathlib.Core.Path.{◌≡◌}
use Prim.Native.Nat.{◌-◌}
use lib.ListN.{length}
use Rattle.carv_objects.specs.Area.{decode}
use Rattle.carv_objects.specs.Laws.TotalSteps.{Passed}
use Rattle.carv_objects.proofs.subtree.sums.Given as goal

abbrev pub invariant-loop-i : goal.invariant-loop-i
invariant-loop-i l = (l.i-end ≡ length (decode l.a).rows) × (length l.marks ≡ 512) × Passed (decode l.a) l.b l.marks l.sums.memory_used l.sums.memory_free l.sums.cpu_left l.i

abbrev pub decreases-loop-i : goal.decreases-loop-i
decreases-loop-i l = l.i-end - l.i
