-- `carv_objects::calls::totals` meets its contract. Assumes nothing.
use Rattle.carv_objects.specs.Laws.Calls.{area_formed}
use Rattle.carv_objects.proofs.calls.totals.Goals as goal

pub find_budget-requires : goal.find_budget-requires
find_budget-requires c =
    area_formed _ c.requires
