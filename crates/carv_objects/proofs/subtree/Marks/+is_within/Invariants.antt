-- `carv_objects::subtree::Marks::is_within` meets its contract. The measure is the id. Assumes nothing.
use Rattle.carv_objects.proofs.subtree.Marks.+is_within.Given as goal

abbrev pub decreases-is_within : goal.decreases-is_within
decreases-is_within l = l.id
