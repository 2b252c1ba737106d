-- `carv_objects::area::set_account` meets its contract. Assumes nothing.
use mathlib.Core.Path.{◌∙◌}
use Rattle.carv_objects.specs.Area.{table}
use Rattle.carv_objects.specs.Laws.Formed.{length_table}
use Rattle.carv_objects.specs.Laws.AreaLaws.{formed_laid}
use Rattle.carv_objects.specs.Laws.AreaSteps.{entry_room, account_written}
use Rattle.carv_objects.proofs.area.set_account.Goals as goal

pub write_account-requires : goal.write_account-requires
unfolding table
write_account-requires c =
    entry_room _ (formed_laid _ c.requires.well_formed) _ c.requires.here.within

pub returns : goal.returns
unfolding table
returns c =
    account_written _ c.requires.well_formed _ (c.write_account.auto.t ∙ length_table c.args.a.now c.requires.well_formed.size) _ _ c.requires.here _ c.write_account.ensures
