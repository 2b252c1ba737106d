-- `carv_scheduler::rows::write_ticked` meets its contract. Assumes nothing.
use Rattle.carv_scheduler.specs.Laws.Rows.{set_ticks}
use Rattle.carv_scheduler.proofs.rows.write_ticked.Goals as goal

pub returns : goal.returns
unfolding set_ticks
returns c =
    cc
