-- `carv_objects::calls::book` meets its contract. Assumes nothing.
use Rattle.carv_objects.specs.Laws.CallSteps.{moved_here}
use Rattle.carv_objects.specs.Area.{decode}
use Rattle.carv_objects.proofs.calls.book.Goals as goal

pub set_charge-requires-clause-here : goal.set_charge-requires-clause-here
set_charge-requires-clause-here c =
    moved_here (decode c.args.a.now) _ _ _ c.set_account.ensures.is c.requires.well_formed.rising _ _ c.requires.here_2
