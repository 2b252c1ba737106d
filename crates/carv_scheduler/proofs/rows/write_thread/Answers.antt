-- `carv_scheduler::rows::write_thread` meets its contract. Assumes nothing.
use Rattle.carv_scheduler.specs.Laws.Rows.{thread_set}
use Rattle.carv_scheduler.proofs.rows.write_thread.Goals as goal

pub returns : goal.returns
returns c = thread_set _ _ _ c.args.i c.args.id c.args.thread c.put.ensures.words (rw c.words.ensures at c.put_words.ensures.words)
