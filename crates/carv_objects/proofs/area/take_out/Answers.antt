-- `carv_objects::area::take_out` meets its contract. Assumes nothing.
use mathlib.Core.Path.{◌∙◌}
use Rattle.carv_objects.specs.Area.{table}
use Rattle.carv_objects.specs.Laws.Formed.{length_table}
use Rattle.carv_objects.specs.Laws.AreaLaws.{formed_laid}
use Rattle.carv_objects.specs.Laws.AreaSteps.{remove_room, remove_within, entry_removed}
use Rattle.carv_objects.proofs.area.take_out.Goals as goal

pub remove_row-requires : goal.remove_row-requires
unfolding table
remove_row-requires c =
    record { rows_fit = remove_room _ (formed_laid _ c.requires.well_formed); is_row = remove_within _ (formed_laid _ c.requires.well_formed) _ c.requires.i_in_bounds }

pub returns : goal.returns
unfolding table
returns c =
    entry_removed _ c.requires.well_formed _ (c.remove_row.auto.t ∙ length_table c.args.a.now c.requires.well_formed.size) _ c.requires.i_in_bounds c.remove_row.ensures.words
