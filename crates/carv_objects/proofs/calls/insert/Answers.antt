-- `carv_objects::calls::insert` meets its contract. Assumes nothing.
use Rattle.carv_objects.proofs.Rules.{met}
use Rattle.std.proofs.Common.{refl, ap, ℕ, Some}
use Rattle.carv_objects_spec.specs.Reply.{id}
use Rattle.carv_objects.proofs.Rules.{said_so}
use mathlib.Core.Path.{ap, sym, ◌∙◌}
use Rattle.carv_objects.specs.Laws.Formed.{leaves_as}
use Rattle.carv_objects.specs.Laws.Codes.{named_some, listed_named, other_named, stored_named}
use Rattle.carv_objects.specs.Laws.AreaSteps.{budget_here}
use Rattle.carv_objects.specs.Laws.AreaLaws.{sound_laid}
use Rattle.carv_objects.specs.Laws.Calls.{area_sound, area_formed, account_at_sound, answered, booked_yes, free_here, kept_at}
use Rattle.carv_objects_spec.proofs.Laws.Questions.{insert_done}
use Rattle.carv_objects_spec.proofs.Laws.Kept.{insert_kept}
use Rattle.carv_objects.specs.Area.{decode}
use mathlib.Core.Bool.{not}
use Rattle.carv_objects.proofs.calls.insert.Goals as goal

pub has_room-requires : goal.has_room-requires
has_room-requires c =
    area_formed _ c.requires

pub find_budget-requires : goal.find_budget-requires
find_budget-requires c =
    area_formed _ c.requires

pub account_at-account-requires : goal.account_at-account-requires
account_at-account-requires c =
    record { laid_out = sound_laid _ c.requires; i_in_bounds = (budget_here (decode c.args.a.now) _ _ c.find_budget.ensures _ (met c.ok_or-2.ensures.ok_part c.in_ok-i.was)).0.within }

pub charge-requires : goal.charge-requires
charge-requires c =
    account_at_sound _ c.requires _ _ (budget_here (decode c.args.a.now) _ _ c.find_budget.ensures _ (met c.ok_or-2.ensures.ok_part c.in_ok-i.was)).0 _ c.account_at-account.ensures

pub store-requires : goal.store-requires
store-requires c =
    record { well_formed = area_formed _ c.requires; here = (budget_here (decode c.args.a.now) _ _ c.find_budget.ensures _ (met c.ok_or-2.ensures.ok_part c.in_ok-i.was)).0; a_value = said_so _ _ c.has_room.ensures (ap not c.if-not-has_room.false) }

pub returns : goal.returns
returns c =
    (let k = named_some c.args.code c.from_code.result c.from_code.ensures c.in_ok-kind.kind (met c.ok_or.ensures.ok_part c.in_ok-kind.was) in
    let z = insert_done c.args.code c.args.payer c.args.bytes (decode c.args.a.now) (listed_named _ c.in_ok-kind.kind k) (other_named _ c.in_ok-kind.kind k (sym c.is_budget.ensures ∙ c.if-is_budget.false)) (said_so _ _ c.has_room.ensures (ap not c.if-not-has_room.false)) (budget_here (decode c.args.a.now) _ _ c.find_budget.ensures _ (met c.ok_or-2.ensures.ok_part c.in_ok-i.was)).1 (free_here (decode c.args.a.now) _ _ (budget_here (decode c.args.a.now) _ _ c.find_budget.ensures _ (met c.ok_or-2.ensures.ok_part c.in_ok-i.was)).0 _ c.account_at-account.ensures _ _ (booked_yes _ _ _ c.charge.ensures _ (met c.ok_or-3.ensures.ok_part c.in_ok-paid.was)).0) in
    answered _ _ c.requires _ z _ refl (ap (λ (x : ℕ). Some (id x)) c.store.ensures.0) _
    (leaves_as _ _ _ (stored_named (decode c.args.a.now) _ _ _ c.args.code c.in_ok-kind.kind k (budget_here (decode c.args.a.now) _ _ c.find_budget.ensures _ (met c.ok_or-2.ensures.ok_part c.in_ok-i.was)).0 _ _ c.account_at-account.ensures (booked_yes _ _ _ c.charge.ensures _ (met c.ok_or-3.ensures.ok_part c.in_ok-paid.was)).1 _ refl) (rw c.plain.ensures at c.store.ensures.1))
    (kept_at _ _ (insert_kept c.args.code c.args.payer c.args.bytes (decode c.args.a.now) (area_sound _ c.requires)) z))
