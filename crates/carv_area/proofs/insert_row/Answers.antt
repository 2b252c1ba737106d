-- `carv_area::insert_row` meets its contract. Assumes nothing.
use Rattle.carv_area.specs.Moves.{open_row}
use Rattle.carv_area.proofs.insert_row.Goals as goal

pub returns : goal.returns
unfolding open_row
returns c =
    record { words = cc; rest = cc }
