-- `carv_area::table::key` meets its contract. Assumes nothing.
use Rattle.std.proofs.Common.{sym, ◌∙◌}
use Rattle.carv_area.specs.Laws.Keys.{get_or_keys}
use Rattle.carv_area.proofs.table.key.Goals as goal

pub returns : goal.returns
returns c =
    c.get.ensures ∙ sym (get_or_keys _ _ _ c.requires.is_row)
