-- `carv_objects::area::objects` meets its contract. Assumes nothing.
use Rattle.std.proofs.Common.{refl}
use Rattle.carv_objects.specs.Area.{table}
use Rattle.carv_objects.specs.Laws.AreaLaws.{formed_laid}
use Rattle.carv_objects.specs.Laws.AreaSteps.{table_keyed}
use Rattle.carv_objects.proofs.area.objects.Goals as goal

pub invariant_of-result : goal.invariant_of-result
unfolding table
invariant_of-result c =
    record { keyed = table_keyed _ (formed_laid _ c.requires) }

pub returns : goal.returns
unfolding table
returns c =
    refl
