-- `carv_area::table::find_near` meets its contract. Assumes nothing.
use Rattle.std.proofs.Common.{arith, ◌∙◌, sym}
use Rattle.carv_area.specs.Laws.Keys.{find_there}
use Rattle.carv_area.proofs.table.find_near.Goals as goal

pub returns-then-key-id : goal.returns-then-key-id
returns-then-key-id c =
    sym (find_there _ _ _ c.requires.rise (omega arith) (sym c.key.ensures ∙ c.if-key-id.true))
