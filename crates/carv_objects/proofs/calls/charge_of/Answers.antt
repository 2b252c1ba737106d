-- `carv_objects::calls::charge_of` meets its contract. Assumes nothing.
use Rattle.carv_objects.specs.Laws.Calls.{area_formed}
use Rattle.carv_objects.proofs.calls.charge_of.Goals as goal

pub find-requires : goal.find-requires
find-requires c =
    area_formed _ c.requires

pub entry_at-payer-requires-clause-well_formed : goal.entry_at-payer-requires-clause-well_formed
entry_at-payer-requires-clause-well_formed c =
    area_formed _ c.requires
