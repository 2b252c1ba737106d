-- `carv_objects::calls::create_budget` meets its contract. Assumes nothing.
use Rattle.carv_objects.proofs.Rules.{met}
use Rattle.std.proofs.Common.{refl, ap, ℕ, Some}
use Rattle.carv_objects_spec.specs.Reply.{id}
use mathlib.Core.Path.{ap}
use Rattle.carv_objects.proofs.Rules.{said_so}
use Rattle.carv_objects.specs.Laws.Formed.{leaves_as}
use Rattle.carv_objects.specs.Laws.AreaSteps.{budget_here}
use Rattle.carv_objects.specs.Laws.AreaLaws.{sound_laid}
use Rattle.carv_objects.specs.Laws.Calls.{area_sound, area_formed, account_at_sound, refused_after, answered, booked_yes, carved_yes, carved_no, free_here, charged_sound, carve_refused, carve_left, carve_memory, stored_budget, kept_at}
use Rattle.carv_objects_spec.proofs.Laws.Questions.{create_budget_carve, create_budget_done}
use Rattle.carv_objects_spec.proofs.Laws.Kept.{create_budget_kept}
use Rattle.carv_objects.specs.Area.{decode}
use mathlib.Core.Bool.{not}
use Rattle.carv_objects.proofs.calls.create_budget.Goals as goal

pub has_room-requires : goal.has_room-requires
has_room-requires c =
    area_formed _ c.requires

pub find_budget-requires : goal.find_budget-requires
find_budget-requires c =
    area_formed _ c.requires

pub account_at-account-requires : goal.account_at-account-requires
account_at-account-requires c =
    record { laid_out = sound_laid _ c.requires; i_in_bounds = (budget_here (decode c.args.a.now) _ _ c.find_budget.ensures _ (met c.ok_or.ensures.ok_part c.in_ok-i.was)).0.within }

pub charge-requires : goal.charge-requires
charge-requires c =
    account_at_sound _ c.requires _ _ (budget_here (decode c.args.a.now) _ _ c.find_budget.ensures _ (met c.ok_or.ensures.ok_part c.in_ok-i.was)).0 _ c.account_at-account.ensures

pub carve-requires : goal.carve-requires
carve-requires c =
    (let h = (budget_here (decode c.args.a.now) _ _ c.find_budget.ensures _ (met c.ok_or.ensures.ok_part c.in_ok-i.was)).0 in
    let (f, e) = booked_yes _ _ _ c.charge.ensures _ (met c.ok_or-2.ensures.ok_part c.in_ok-paid.was) in
    charged_sound _ _ _ e (account_at_sound _ c.requires _ _ h _ c.account_at-account.ensures) f)

pub renew-requires : goal.renew-requires
renew-requires c =
    let h = (budget_here (decode c.args.a.now) _ _ c.find_budget.ensures _ (met c.ok_or.ensures.ok_part c.in_ok-i.was)).0 in record { well_formed = area_formed _ c.requires; here = h; account_value = (account_at_sound _ c.requires _ _ h _ c.account_at-account.ensures, c.account_at-account.ensures) }

pub returns-in_default : goal.returns-in_default
returns-in_default c =
    (let (h, b) = budget_here (decode c.args.a.now) _ _ c.find_budget.ensures _ (met c.ok_or.ensures.ok_part c.in_ok-i.was) in
    let (f, e) = booked_yes _ _ _ c.charge.ensures _ (met c.ok_or-2.ensures.ok_part c.in_ok-paid.was) in
    let z = create_budget_carve c.args.parent c.args.cpu c.args.memory c.args.time (decode c.args.a.now) (said_so _ _ c.has_room.ensures (ap not c.if-not-has_room.false)) b (free_here (decode c.args.a.now) _ _ h _ c.account_at-account.ensures _ _ f)
    (carve_refused (decode c.args.a.now) _ _ h _ _ c.account_at-account.ensures e _ _ _ (carved_no _ _ _ _ _ c.carve.ensures c.in_default.is)) in
    refused_after _ _ c.requires _ z _ c.renew.ensures (kept_at _ _ (create_budget_kept c.args.parent c.args.cpu c.args.memory c.args.time (decode c.args.a.now) (area_sound _ c.requires)) z))

pub store-requires : goal.store-requires
store-requires c =
    record { well_formed = area_formed _ c.requires; here = (budget_here (decode c.args.a.now) _ _ c.find_budget.ensures _ (met c.ok_or.ensures.ok_part c.in_ok-i.was)).0; a_value = said_so _ _ c.has_room.ensures (ap not c.if-not-has_room.false) }

pub returns : goal.returns
returns c =
    (let (h, b) = budget_here (decode c.args.a.now) _ _ c.find_budget.ensures _ (met c.ok_or.ensures.ok_part c.in_ok-i.was) in
    let (f, e) = booked_yes _ _ _ c.charge.ensures _ (met c.ok_or-2.ensures.ok_part c.in_ok-paid.was) in
    let v = carved_yes _ _ _ _ _ c.carve.ensures _ c.in-Some.is in
    let z = create_budget_done c.args.parent c.args.cpu c.args.memory c.args.time (decode c.args.a.now) (said_so _ _ c.has_room.ensures (ap not c.if-not-has_room.false)) b (free_here (decode c.args.a.now) _ _ h _ c.account_at-account.ensures _ _ f)
    (carve_left (decode c.args.a.now) _ _ h _ _ c.account_at-account.ensures e _ c.args.memory _ v.0) (carve_memory (decode c.args.a.now) _ _ h _ _ c.account_at-account.ensures e c.args.cpu _ _ v.1) in
    answered _ _ c.requires _ z _ refl (ap (λ (x : ℕ). Some (id x)) c.store.ensures.0) _
    (leaves_as _ _ _ (stored_budget (decode c.args.a.now) _ _ h _ _ c.account_at-account.ensures e _ _ _ _ _ v.2 v.3) c.store.ensures.1)
    (kept_at _ _ (create_budget_kept c.args.parent c.args.cpu c.args.memory c.args.time (decode c.args.a.now) (area_sound _ c.requires)) z))
