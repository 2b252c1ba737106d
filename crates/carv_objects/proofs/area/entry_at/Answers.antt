-- `carv_objects::area::entry_at` meets its contract. Assumes nothing.
use Rattle.carv_objects.specs.Area.{table}
use Rattle.carv_objects.specs.Laws.AreaLaws.{formed_laid}
use Rattle.carv_objects.specs.Laws.AreaSteps.{entry_room, entry_is}
use Rattle.carv_objects.proofs.area.entry_at.Goals as goal

pub read_entry-requires : goal.read_entry-requires
unfolding table
read_entry-requires c =
    entry_room _ (formed_laid _ c.requires.well_formed) _ c.requires.i_in_bounds

pub returns : goal.returns
unfolding table
returns c =
    entry_is _ (formed_laid _ c.requires.well_formed) _ c.requires.i_in_bounds _ c.read_entry.ensures
