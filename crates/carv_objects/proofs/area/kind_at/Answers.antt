-- `carv_objects::area::kind_at` meets its contract. Assumes nothing.
use Rattle.std.proofs.Common.{arith}
use Rattle.carv_objects.specs.Area.{table}
use Rattle.carv_objects.specs.Laws.AreaLaws.{formed_laid}
use Rattle.carv_objects.specs.Laws.AreaSteps.{entry_room, kind_is}
use Rattle.carv_objects.proofs.area.kind_at.Goals as goal

pub overflow_mul-i : goal.overflow_mul-i
unfolding table
overflow_mul-i c =
    omega (arith, entry_room _ (formed_laid _ c.requires.well_formed) _ c.requires.i_in_bounds)

pub overflow_add-i : goal.overflow_add-i
unfolding table
overflow_add-i c =
    omega (arith, entry_room _ (formed_laid _ c.requires.well_formed) _ c.requires.i_in_bounds)

pub get-requires : goal.get-requires
unfolding table
get-requires c =
    omega (arith, entry_room _ (formed_laid _ c.requires.well_formed) _ c.requires.i_in_bounds)

pub returns : goal.returns
unfolding table
returns c =
    kind_is _ (formed_laid _ c.requires.well_formed) _ c.requires.i_in_bounds _ c.get.ensures _ c.of_code.ensures
