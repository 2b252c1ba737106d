-- `carv_objects::area::set_charge` meets its contract. Assumes nothing.
use Rattle.std.proofs.Common.{arith}
use mathlib.Core.Path.{◌∙◌}
use Rattle.carv_objects.specs.Area.{table}
use Rattle.carv_objects.specs.Laws.Formed.{length_table}
use Rattle.carv_objects.specs.Laws.AreaLaws.{formed_laid}
use Rattle.carv_objects.specs.Laws.AreaSteps.{entry_room, charge_written}
use Rattle.carv_objects.proofs.area.set_charge.Goals as goal

pub overflow_mul-i : goal.overflow_mul-i
unfolding table
overflow_mul-i c =
    omega (arith, entry_room _ (formed_laid _ c.requires.well_formed) _ c.requires.here.within)

pub overflow_add-i : goal.overflow_add-i
unfolding table
overflow_add-i c =
    omega (arith, entry_room _ (formed_laid _ c.requires.well_formed) _ c.requires.here.within)

pub put-requires : goal.put-requires
unfolding table
put-requires c =
    omega (arith, entry_room _ (formed_laid _ c.requires.well_formed) _ c.requires.here.within)

pub returns : goal.returns
unfolding table
returns c =
    charge_written _ c.requires.well_formed _ (c.put.auto.a ∙ length_table c.args.a.now c.requires.well_formed.size) _ _ c.requires.here _ c.put.ensures.words
