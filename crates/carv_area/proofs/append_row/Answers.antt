-- `carv_area::append_row` meets its contract. Assumes nothing.
use Rattle.carv_area.specs.Moves.{add_row}
use Rattle.carv_area.proofs.append_row.Goals as goal

pub returns : goal.returns
unfolding add_row
returns c =
    record { words = cc; rest = cc }
