-- `carv_objects::rows::append_entry` meets its contract. Assumes nothing.
use Rattle.std.proofs.Common.{arith}
use Rattle.carv_area.specs.Laws.Stored.{stored_append}
use Rattle.carv_objects.specs.Area.{fields}
use Rattle.carv_objects.specs.Laws.Rows.{row, wide}
use Rattle.carv_objects.proofs.rows.append_entry.Goals as goal

pub returns : goal.returns
returns c =
    stored_append fields 11 wide _ _ _ c.requires.stored (row c.args.id c.args.e) (omega (arith, c.requires.t_in_bounds)) (rw (c.code.ensures, c.words.ensures) at c.append_row.ensures.words)
