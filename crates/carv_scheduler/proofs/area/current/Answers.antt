-- `carv_scheduler::area::current` meets its contract. Assumes nothing.
use Rattle.carv_scheduler.specs.Area.{head}
use Rattle.carv_scheduler.proofs.area.current.Goals as goal

pub returns : goal.returns
unfolding head
returns c =
    c.get.ensures
