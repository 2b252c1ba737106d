-- `carv_scheduler::rows::write_results` meets its contract. Assumes nothing.
use Rattle.carv_scheduler.specs.Laws.Rows.{set_results}
use Rattle.carv_scheduler.proofs.rows.write_results.Goals as goal

pub returns : goal.returns
unfolding set_results
returns c = c.put_words.ensures.words
