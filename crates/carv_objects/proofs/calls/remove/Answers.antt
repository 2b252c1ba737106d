-- `carv_objects::calls::remove` meets its contract. Assumes nothing.
use Rattle.carv_objects.proofs.Rules.{met}
use mathlib.Core.Path.{sym, ◌∙◌}
use Rattle.carv_objects.specs.Laws.AreaSteps.{located_here}
use Rattle.carv_objects.specs.Laws.AreaLaws.{sound_laid}
use Rattle.carv_objects.specs.Laws.Calls.{area_sound, area_formed}
use native.Mathlib.Omega.{arith}
use Rattle.carv_objects.specs.Laws.CallSteps.{payer_has, payer_sound, child_sound, credit_asks, returned_asks, remove_plain, remove_in_use, remove_returnable, remove_served}
use Rattle.carv_objects.specs.Area.{decode}
use Rattle.carv_objects.proofs.calls.remove.Goals as goal

pub find-requires : goal.find-requires
find-requires c =
    area_formed _ c.requires

pub entry_at-e-requires : goal.entry_at-e-requires
entry_at-e-requires c =
    record { well_formed = area_formed _ c.requires; i_in_bounds = (located_here (decode c.args.a.now).rows _ _ c.find.ensures _ (met c.ok_or.ensures.ok_part c.in_ok-i.was)).within }

pub payer_place-j-requires : goal.payer_place-j-requires
payer_place-j-requires c =
    record { well_formed = area_formed _ c.requires; payer_value = payer_has (decode c.args.a.now) (area_sound _ c.requires) _ _ (located_here (decode c.args.a.now).rows _ _ c.find.ensures _ (met c.ok_or.ensures.ok_part c.in_ok-i.was)) _ c.entry_at-e.ensures }

pub account_at-account-requires : goal.account_at-account-requires
account_at-account-requires c =
    record { laid_out = sound_laid _ c.requires; i_in_bounds = c.payer_place-j.ensures.within }

pub credit-paid-requires : goal.credit-paid-requires
credit-paid-requires c =
    credit_asks (decode c.args.a.now) (area_sound _ c.requires) _ _ (located_here (decode c.args.a.now).rows _ _ c.find.ensures _ (met c.ok_or.ensures.ok_part c.in_ok-i.was)) _ c.entry_at-e.ensures _ c.payer_place-j.ensures _ c.account_at-account.ensures _ (omega arith)

pub release-requires : goal.release-requires
release-requires c =
    record { well_formed = area_formed _ c.requires; here = c.payer_place-j.ensures; i_in_bounds = (located_here (decode c.args.a.now).rows _ _ c.find.ensures _ (met c.ok_or.ensures.ok_part c.in_ok-i.was)).within }

pub returns-then-not-is_budget : goal.returns-then-not-is_budget
returns-then-not-is_budget c =
    remove_plain _ c.requires _ _ (located_here (decode c.args.a.now).rows _ _ c.find.ensures _ (met c.ok_or.ensures.ok_part c.in_ok-i.was)) _ c.entry_at-e.ensures _ c.payer_place-j.ensures _ c.account_at-account.ensures c.if-id-eq-ROOT.false _ (sym c.is_budget.ensures ∙ c.if-not-is_budget.true) _ c.credit-paid.ensures _ c.release.ensures

pub pays-requires : goal.pays-requires
pays-requires c =
    area_formed _ c.requires

pub returns-then-pays : goal.returns-then-pays
returns-then-pays c =
    remove_in_use _ c.requires _ _ (located_here (decode c.args.a.now).rows _ _ c.find.ensures _ (met c.ok_or.ensures.ok_part c.in_ok-i.was)) _ c.entry_at-e.ensures _ c.payer_place-j.ensures _ c.account_at-account.ensures c.if-id-eq-ROOT.false _ (sym c.is_budget.ensures ∙ c.if-not-is_budget.false) (sym c.pays.ensures ∙ c.if-pays.true)

pub give_back-returned-requires : goal.give_back-returned-requires
give_back-returned-requires c =
    (payer_sound (decode c.args.a.now) (area_sound _ c.requires) _ _ (located_here (decode c.args.a.now).rows _ _ c.find.ensures _ (met c.ok_or.ensures.ok_part c.in_ok-i.was)) _ c.entry_at-e.ensures _ c.payer_place-j.ensures _ c.account_at-account.ensures, child_sound (decode c.args.a.now) (area_sound _ c.requires) _ _ (located_here (decode c.args.a.now).rows _ _ c.find.ensures _ (met c.ok_or.ensures.ok_part c.in_ok-i.was)) _ c.entry_at-e.ensures, remove_returnable _ c.requires _ _ (located_here (decode c.args.a.now).rows _ _ c.find.ensures _ (met c.ok_or.ensures.ok_part c.in_ok-i.was)) _ c.entry_at-e.ensures _ c.payer_place-j.ensures _ c.account_at-account.ensures c.if-id-eq-ROOT.false c.args.time (sym c.is_budget.ensures ∙ c.if-not-is_budget.false) (sym c.pays.ensures ∙ c.if-pays.false))

pub credit-paid-requires-2 : goal.credit-paid-requires-2
credit-paid-requires-2 c =
    returned_asks (decode c.args.a.now) (area_sound _ c.requires) _ _ (located_here (decode c.args.a.now).rows _ _ c.find.ensures _ (met c.ok_or.ensures.ok_part c.in_ok-i.was)) _ c.entry_at-e.ensures _ c.payer_place-j.ensures _ c.account_at-account.ensures _ _ c.give_back-returned.ensures

pub release-requires-2 : goal.release-requires-2
release-requires-2 c =
    record { well_formed = area_formed _ c.requires; here = c.payer_place-j.ensures; i_in_bounds = (located_here (decode c.args.a.now).rows _ _ c.find.ensures _ (met c.ok_or.ensures.ok_part c.in_ok-i.was)).within }

pub returns : goal.returns
returns c =
    remove_served _ c.requires _ _ (located_here (decode c.args.a.now).rows _ _ c.find.ensures _ (met c.ok_or.ensures.ok_part c.in_ok-i.was)) _ c.entry_at-e.ensures _ c.payer_place-j.ensures _ c.account_at-account.ensures c.if-id-eq-ROOT.false _ (sym c.is_budget.ensures ∙ c.if-not-is_budget.false) (sym c.pays.ensures ∙ c.if-pays.false) _ c.give_back-returned.ensures _ c.credit-paid-2.ensures _ c.release-2.ensures
