-- `carv_objects::opening::open` meets its contract. Assumes nothing.
use Rattle.carv_objects.proofs.Rules.{met}
use Rattle.carv_objects.specs.Laws.Calls.{booked_yes}
use Rattle.carv_objects.specs.Laws.Opening.{open_done}
use Rattle.carv_objects.proofs.opening.open.Goals as goal

pub returns : goal.returns
returns c =
    open_done c.args.cpu c.args.memory c.args.area.now c.if-area-ne-BYTES.false _ (booked_yes _ _ _ c.opened.ensures _ (met c.ok_or.ensures.ok_part c.in_ok-account.was)) _ c.start.ensures
