-- `carv_scheduler::ticking::account` meets its contract. Assumes nothing.
use Rattle.carv_scheduler.specs.Laws.AreaLaws.{area_formed}
use Rattle.carv_scheduler.specs.Laws.Ticking.{account_free, account_paid}
use Rattle.carv_scheduler.proofs.ticking.account.Goals as goal

pub budget_at-payer-requires-clause-well_formed : goal.budget_at-payer-requires-clause-well_formed
budget_at-payer-requires-clause-well_formed c =
    area_formed _ c.requires

pub add_tick-requires-clause-well_formed : goal.add_tick-requires-clause-well_formed
add_tick-requires-clause-well_formed c =
    area_formed _ c.requires

pub returns-in_default : goal.returns-in_default
returns-in_default c =
    account_free _ c.args.a.now c.requires _ c.current_place-i.ensures _ c.budget_at-payer.ensures _ c.add_tick.ensures c.in_default.is

pub returns-in-Some : goal.returns-in-Some
returns-in-Some c =
    account_paid _ c.args.a.now c.requires _ c.current_place-i.ensures _ c.budget_at-payer.ensures _ c.add_tick.ensures _ c.in-Some.is _ c.charge.ensures
