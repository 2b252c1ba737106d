-- `carv_scheduler::area::switches` meets its contract. Assumes nothing.
use Rattle.carv_scheduler.specs.Area.{head}
use Rattle.carv_scheduler.proofs.area.switches.Goals as goal

pub returns : goal.returns
unfolding head
returns c =
    c.get.ensures
