-- `carv_objects::area::count` meets its contract. Assumes nothing.
use Rattle.carv_objects.specs.Area.{table}
use Rattle.carv_objects.specs.Laws.AreaLaws.{formed_laid}
use Rattle.carv_objects.specs.Laws.AreaSteps.{count_is}
use Rattle.carv_objects.proofs.area.count.Goals as goal

pub returns : goal.returns
unfolding table
returns c =
    count_is _ (formed_laid _ c.requires) _ c.get.ensures
