-- `carv_scheduler::opening::open` meets its contract. Assumes nothing.
use Rattle.carv_scheduler.specs.Laws.Opening.{board_opened, opened_done}
use Rattle.carv_scheduler.specs.Laws.Formed.{unchanged}
use Rattle.carv_scheduler.proofs.opening.open.Goals as goal

pub returns : goal.returns
returns c =
    opened_done _ _ _ c.if-area-ne-BYTES.false c.if-cpu-gt-PERIOD.false _ _ (unchanged _ c.insert_thread-2.ensures.formed) (board_opened c.args.cpu c.args.memory _ _ _ _ _ c.blank.ensures.is c.fresh_thread.ensures c.fresh_thread-2.ensures c.insert_thread.ensures.is c.insert_thread-2.ensures.is)
