-- `carv_objects::area::find_near` meets its contract. Assumes nothing.
use Rattle.carv_objects.specs.Laws.AreaLaws.{formed_laid}
use Rattle.carv_objects.specs.Laws.AreaSteps.{found_is}
use Rattle.carv_objects.proofs.area.find_near.Goals as goal

pub returns : goal.returns
returns c =
    found_is _ (formed_laid _ c.requires) _ c.objects.ensures _ _ c.find_near.ensures
