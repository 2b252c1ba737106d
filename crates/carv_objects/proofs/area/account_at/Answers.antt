-- `carv_objects::area::account_at` meets its contract. Assumes nothing.
use Rattle.carv_objects.specs.Area.{table}
use Rattle.carv_objects.specs.Laws.AreaSteps.{entry_room, account_is}
use Rattle.carv_objects.proofs.area.account_at.Goals as goal

pub read_account-requires : goal.read_account-requires
unfolding table
read_account-requires c =
    entry_room _ c.requires.laid_out _ c.requires.i_in_bounds

pub returns : goal.returns
unfolding table
returns c =
    account_is _ c.requires.laid_out _ c.requires.i_in_bounds _ c.read_account.ensures
