-- `carv_scheduler::rows::write_state` meets its contract. Assumes nothing.
use Rattle.carv_scheduler.specs.Laws.Rows.{set_state}
use Rattle.carv_scheduler.proofs.rows.write_state.Goals as goal

pub returns : goal.returns
unfolding set_state
returns c = rw c.code.ensures at (rw c.wait_kind.ensures at (rw c.wait_number.ensures at c.put_words.ensures.words))
