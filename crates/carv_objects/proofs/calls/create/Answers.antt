-- `carv_objects::calls::create` meets its contract. Assumes nothing.
use Rattle.carv_objects.proofs.Rules.{met}
use Rattle.std.proofs.Common.{refl, ap, ℕ, Some}
use Rattle.carv_objects_spec.specs.Reply.{id}
use mathlib.Core.Path.{ap}
use mathlib.Core.Bool.{not}
use Rattle.carv_objects.proofs.Rules.{said_so}
use Rattle.carv_objects.specs.Laws.Formed.{leaves_as}
use Rattle.carv_objects.specs.Laws.Codes.{named_some, stored_named, listed_named, bytes_named, creatable_named, backing_named}
use Rattle.carv_objects.specs.Laws.AreaSteps.{budget_here}
use Rattle.carv_objects.specs.Laws.AreaLaws.{sound_laid}
use Rattle.carv_objects.specs.Laws.Calls.{area_sound, area_formed, account_at_sound, answered, booked_yes, free_of, kept_at}
use Rattle.carv_objects_spec.proofs.Laws.Questions.{create_done}
use Rattle.carv_objects_spec.proofs.Laws.Kept.{create_kept}
use Rattle.carv_objects.specs.Area.{decode}
use Rattle.carv_objects.proofs.calls.create.Goals as goal

pub has_room-requires : goal.has_room-requires
has_room-requires c =
    area_formed _ c.requires

pub find_budget-requires : goal.find_budget-requires
find_budget-requires c =
    area_formed _ c.requires

pub account_at-account-requires : goal.account_at-account-requires
account_at-account-requires c =
    record { laid_out = sound_laid _ c.requires; i_in_bounds = (budget_here (decode c.args.a.now) _ _ c.find_budget.ensures _ (met c.ok_or-2.ensures.ok_part c.in_ok-i.was)).0.within }

pub charge-requires : goal.charge-requires
charge-requires c =
    account_at_sound _ c.requires _ _ (budget_here (decode c.args.a.now) _ _ c.find_budget.ensures _ (met c.ok_or-2.ensures.ok_part c.in_ok-i.was)).0 _ c.account_at-account.ensures

pub store-requires : goal.store-requires
store-requires c =
    record { well_formed = area_formed _ c.requires; here = (budget_here (decode c.args.a.now) _ _ c.find_budget.ensures _ (met c.ok_or-2.ensures.ok_part c.in_ok-i.was)).0; a_value = said_so _ _ c.has_room.ensures (ap not c.if-not-has_room.false) }

pub returns : goal.returns
returns c =
    (let k = named_some c.args.code c.from_code.result c.from_code.ensures c.in_ok-kind.kind (met c.ok_or.ensures.ok_part c.in_ok-kind.was) in
    let (h, b) = budget_here (decode c.args.a.now) _ _ c.find_budget.ensures _ (met c.ok_or-2.ensures.ok_part c.in_ok-i.was) in
    let n = bytes_named _ c.in_ok-kind.kind k _ c.bytes-bytes.ensures in
    let (f, e) = booked_yes _ _ _ c.charge.ensures _ (met c.ok_or-3.ensures.ok_part c.in_ok-paid.was) in
    let q = free_of (decode c.args.a.now) _ _ h _ c.account_at-account.ensures _ _ n _ f in
    let z = create_done c.args.code c.args.payer c.args.backing (decode c.args.a.now) (listed_named _ c.in_ok-kind.kind k) (said_so _ _ c.has_room.ensures (ap not c.if-not-has_room.false)) b q (creatable_named _ c.in_ok-kind.kind k _ (said_so _ _ c.is_creatable.ensures (ap not c.if-not-is_creatable.false)))
    (backing_named _ c.in_ok-kind.kind k _ _ (said_so _ _ c.has_backing.ensures (ap not c.if-not-has_backing.false))) in
    answered _ _ c.requires _ z _ refl (ap (λ (x : ℕ). Some (id x)) c.store.ensures.0) _
    (leaves_as _ _ _ (stored_named (decode c.args.a.now) _ _ _ c.args.code c.in_ok-kind.kind k h _ _ c.account_at-account.ensures e _ n) (rw c.plain.ensures at c.store.ensures.1))
    (kept_at _ _ (create_kept c.args.code c.args.payer c.args.backing (decode c.args.a.now) (area_sound _ c.requires)) z))
