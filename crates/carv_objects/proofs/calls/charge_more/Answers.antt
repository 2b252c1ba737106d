-- `carv_objects::calls::charge_more` meets its contract. Assumes nothing.
use Rattle.carv_objects.proofs.Rules.{met}
use Rattle.carv_objects.specs.Laws.AreaSteps.{located_here}
use Rattle.carv_objects.specs.Laws.AreaLaws.{sound_laid}
use Rattle.carv_objects.specs.Laws.Calls.{area_sound, area_formed, booked_yes}
use native.Mathlib.Omega.{arith}
use Rattle.carv_objects.specs.Laws.CallSteps.{payer_has, payer_sound, charge_fits, charge_more_served}
use Rattle.carv_objects.specs.Area.{decode}
use Rattle.carv_objects.proofs.calls.charge_more.Goals as goal

pub find-requires : goal.find-requires
find-requires c =
    area_formed _ c.requires

pub entry_at-e-requires : goal.entry_at-e-requires
entry_at-e-requires c =
    record { well_formed = area_formed _ c.requires; i_in_bounds = (located_here (decode c.args.a.now).rows _ _ c.find.ensures _ (met c.ok_or.ensures.ok_part c.in_ok-i.was)).within }

pub payer_place-j-requires : goal.payer_place-j-requires
payer_place-j-requires c =
    record { well_formed = area_formed _ c.requires; payer_value = payer_has (decode c.args.a.now) (area_sound _ c.requires) _ _ (located_here (decode c.args.a.now).rows _ _ c.find.ensures _ (met c.ok_or.ensures.ok_part c.in_ok-i.was)) _ c.entry_at-e.ensures }

pub account_at-account-requires : goal.account_at-account-requires
account_at-account-requires c =
    record { laid_out = sound_laid _ c.requires; i_in_bounds = c.payer_place-j.ensures.within }

pub charge-requires : goal.charge-requires
charge-requires c =
    payer_sound (decode c.args.a.now) (area_sound _ c.requires) _ _ (located_here (decode c.args.a.now).rows _ _ c.find.ensures _ (met c.ok_or.ensures.ok_part c.in_ok-i.was)) _ c.entry_at-e.ensures _ c.payer_place-j.ensures _ c.account_at-account.ensures

pub overflow_add-e : goal.overflow_add-e
overflow_add-e c =
    omega (arith, charge_fits _ c.requires _ _ (located_here (decode c.args.a.now).rows _ _ c.find.ensures _ (met c.ok_or.ensures.ok_part c.in_ok-i.was)) _ c.entry_at-e.ensures _ c.payer_place-j.ensures _ c.account_at-account.ensures (λ k. omega (arith, c.slice_known-1.given k)) _ (booked_yes _ _ _ c.charge.ensures _ (met c.ok_or-2.ensures.ok_part c.in_ok-paid.was)).0)

pub book-requires : goal.book-requires
book-requires c =
    record { well_formed = area_formed _ c.requires; here = c.payer_place-j.ensures; here_2 = (located_here (decode c.args.a.now).rows _ _ c.find.ensures _ (met c.ok_or.ensures.ok_part c.in_ok-i.was)) }

pub returns : goal.returns
returns c =
    charge_more_served _ c.requires _ _ (located_here (decode c.args.a.now).rows _ _ c.find.ensures _ (met c.ok_or.ensures.ok_part c.in_ok-i.was)) _ c.entry_at-e.ensures _ c.payer_place-j.ensures _ c.account_at-account.ensures _ _ (booked_yes _ _ _ c.charge.ensures _ (met c.ok_or-2.ensures.ok_part c.in_ok-paid.was)) _ c.book.ensures
