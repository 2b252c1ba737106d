-- `carv_objects::cpu::renew_and_test` meets its contract. Assumes nothing.
use Rattle.carv_objects.specs.Laws.AreaSteps.{budget_here}
use Rattle.carv_objects.specs.Laws.AreaLaws.{sound_laid}
use Rattle.carv_objects.specs.Laws.Calls.{area_formed, account_at_sound}
use Rattle.carv_objects.specs.Laws.Cpu.{cpu_left, renewed_is, renews}
use Rattle.carv_objects.specs.Area.{decode}
use Rattle.carv_objects.proofs.cpu.renew_and_test.Goals as goal

pub find_budget-requires : goal.find_budget-requires
find_budget-requires c =
    area_formed _ c.requires

pub account_at-account-requires-clause-laid_out : goal.account_at-account-requires-clause-laid_out
account_at-account-requires-clause-laid_out c =
    sound_laid _ c.requires

pub renew-renewed-requires : goal.renew-renewed-requires
renew-renewed-requires c =
    account_at_sound _ c.requires _ _ (budget_here (decode c.args.a.now) _ _ c.find_budget.ensures _ c.in-Some.is).0 _ c.account_at-account.ensures

pub set_account-requires-clause-well_formed : goal.set_account-requires-clause-well_formed
set_account-requires-clause-well_formed c =
    area_formed _ c.requires

pub returns : goal.returns
returns c =
    (let (h, b) = budget_here (decode c.args.a.now) _ _ c.find_budget.ensures _ c.in-Some.is in
    renews _ c.requires _ _ _ _ (cpu_left (decode c.args.a.now) _ _ h b _ c.account_at-account.ensures _ _ c.renew-renewed.ensures) _ (renewed_is (decode c.args.a.now) _ _ h b _ c.account_at-account.ensures _ _ c.renew-renewed.ensures) c.set_account.ensures)
