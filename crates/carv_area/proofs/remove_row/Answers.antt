-- `carv_area::remove_row` meets its contract. Assumes nothing.
use Rattle.carv_area.specs.Moves.{cut_row}
use Rattle.carv_area.proofs.remove_row.Goals as goal

pub returns : goal.returns
unfolding cut_row
returns c =
    record { words = cc; rest = cc }
