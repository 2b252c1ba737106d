-- `carv_objects::calls::pays_for_anything` meets its contract. Assumes nothing.
use Rattle.carv_objects.specs.Laws.Calls.{area_formed}
use Rattle.carv_objects.proofs.calls.pays_for_anything.Goals as goal

pub pays-requires : goal.pays-requires
pays-requires c =
    area_formed _ c.requires
