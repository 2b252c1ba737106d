-- `carv_objects::calls::uncharge` meets its contract. Assumes nothing.
use Rattle.carv_objects.proofs.Rules.{met}
use Rattle.carv_objects.specs.Laws.AreaSteps.{located_here}
use Rattle.carv_objects.specs.Laws.AreaLaws.{sound_laid}
use Rattle.carv_objects.specs.Laws.Calls.{area_sound, area_formed}
use Rattle.carv_objects.specs.Laws.CallSteps.{payer_has, credit_asks, uncharge_served}
use Rattle.carv_objects.specs.Area.{decode}
use Rattle.carv_objects.proofs.calls.uncharge.Goals as goal

pub find-requires : goal.find-requires
find-requires c =
    area_formed _ c.requires

pub entry_at-e-requires-clause-well_formed : goal.entry_at-e-requires-clause-well_formed
entry_at-e-requires-clause-well_formed c =
    area_formed _ c.requires

pub payer_place-j-requires-clause-well_formed : goal.payer_place-j-requires-clause-well_formed
payer_place-j-requires-clause-well_formed c =
    area_formed _ c.requires

pub payer_place-j-requires-clause-payer_value : goal.payer_place-j-requires-clause-payer_value
payer_place-j-requires-clause-payer_value c =
    payer_has (decode c.args.a.now) (area_sound _ c.requires) _ _ (located_here (decode c.args.a.now).rows _ _ c.find.ensures _ (met c.ok_or.ensures.ok_part c.in_ok-i.was)) _ c.entry_at-e.ensures

pub account_at-account-requires-clause-laid_out : goal.account_at-account-requires-clause-laid_out
account_at-account-requires-clause-laid_out c =
    sound_laid _ c.requires

pub credit-paid-requires : goal.credit-paid-requires
credit-paid-requires c =
    credit_asks (decode c.args.a.now) (area_sound _ c.requires) _ _ (located_here (decode c.args.a.now).rows _ _ c.find.ensures _ (met c.ok_or.ensures.ok_part c.in_ok-i.was)) _ c.entry_at-e.ensures _ c.payer_place-j.ensures _ c.account_at-account.ensures _ c.if-bytes-e.false

pub book-requires-clause-well_formed : goal.book-requires-clause-well_formed
book-requires-clause-well_formed c =
    area_formed _ c.requires

pub returns : goal.returns
returns c =
    uncharge_served _ c.requires _ _ (located_here (decode c.args.a.now).rows _ _ c.find.ensures _ (met c.ok_or.ensures.ok_part c.in_ok-i.was)) _ c.entry_at-e.ensures _ c.payer_place-j.ensures _ c.account_at-account.ensures _ c.if-bytes-e.false _ c.credit-paid.ensures _ c.book.ensures
