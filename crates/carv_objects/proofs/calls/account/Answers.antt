-- `carv_objects::calls::account` meets its contract. Assumes nothing.
use Rattle.carv_objects.specs.Laws.AreaLaws.{sound_laid}
use Rattle.carv_objects.specs.Laws.Calls.{area_formed}
use Rattle.carv_objects.proofs.calls.account.Goals as goal

pub find_budget-requires : goal.find_budget-requires
find_budget-requires c =
    area_formed _ c.requires

pub account_at-requires-clause-laid_out : goal.account_at-requires-clause-laid_out
account_at-requires-clause-laid_out c =
    sound_laid _ c.requires
