-- `carv_objects::calls::charge_cpu` meets its contract. Assumes nothing.
use Rattle.carv_objects.proofs.Rules.{met}
use mathlib.Core.Path.{refl}
use Rattle.carv_objects.specs.Laws.Formed.{leaves_as}
use Rattle.carv_objects.specs.Laws.AreaSteps.{budget_here}
use Rattle.carv_objects.specs.Laws.AreaLaws.{sound_laid}
use Rattle.carv_objects.specs.Laws.Calls.{area_sound, area_formed, account_at_sound, refused_after, answered, booked_yes, booked_no, spend_left, spent_by, kept_at}
use Rattle.carv_objects_spec.proofs.Laws.Questions.{charge_cpu_above, charge_cpu_done}
use Rattle.carv_objects_spec.proofs.Laws.Kept.{charge_cpu_kept}
use Rattle.carv_objects.specs.Area.{decode}
use Rattle.carv_objects.proofs.calls.charge_cpu.Goals as goal

pub find_budget-requires : goal.find_budget-requires
find_budget-requires c =
    area_formed _ c.requires

pub account_at-account-requires-clause-laid_out : goal.account_at-account-requires-clause-laid_out
account_at-account-requires-clause-laid_out c =
    sound_laid _ c.requires

pub spend-requires : goal.spend-requires
spend-requires c =
    account_at_sound _ c.requires _ _ (budget_here (decode c.args.a.now) _ _ c.find_budget.ensures _ (met c.ok_or.ensures.ok_part c.in_ok-i.was)).0 _ c.account_at-account.ensures

pub renew-requires-clause-well_formed : goal.renew-requires-clause-well_formed
renew-requires-clause-well_formed c =
    area_formed _ c.requires

pub renew-requires-clause-account_value : goal.renew-requires-clause-account_value
renew-requires-clause-account_value c =
    let h = (budget_here (decode c.args.a.now) _ _ c.find_budget.ensures _ (met c.ok_or.ensures.ok_part c.in_ok-i.was)).0 in (account_at_sound _ c.requires _ _ h _ c.account_at-account.ensures, c.account_at-account.ensures)

pub returns-in_default : goal.returns-in_default
returns-in_default c =
    (let (h, b) = budget_here (decode c.args.a.now) _ _ c.find_budget.ensures _ (met c.ok_or.ensures.ok_part c.in_ok-i.was) in
    let z = charge_cpu_above c.args.id c.args.ns c.args.time (decode c.args.a.now) b (spend_left (decode c.args.a.now) _ _ h _ c.account_at-account.ensures _ _ _ (booked_no _ _ _ c.spend.ensures c.in_default.is)) in
    refused_after _ _ c.requires _ z _ c.renew.ensures (kept_at _ _ (charge_cpu_kept c.args.id c.args.ns c.args.time (decode c.args.a.now) (area_sound _ c.requires)) z))

pub set_account-requires-clause-well_formed : goal.set_account-requires-clause-well_formed
set_account-requires-clause-well_formed c =
    area_formed _ c.requires

pub returns : goal.returns
returns c =
    (let (h, b) = budget_here (decode c.args.a.now) _ _ c.find_budget.ensures _ (met c.ok_or.ensures.ok_part c.in_ok-i.was) in
    let (q, e) = booked_yes _ _ _ c.spend.ensures _ c.in-Some.is in
    let z = charge_cpu_done c.args.id c.args.ns c.args.time (decode c.args.a.now) b (spend_left (decode c.args.a.now) _ _ h _ c.account_at-account.ensures _ _ _ q) in
    answered _ _ c.requires _ z _ refl refl _ (leaves_as _ _ _ (spent_by (decode c.args.a.now) _ _ h _ c.account_at-account.ensures _ _ _ e) c.set_account.ensures) (kept_at _ _ (charge_cpu_kept c.args.id c.args.ns c.args.time (decode c.args.a.now) (area_sound _ c.requires)) z))
