-- `carv_objects::area::next_id` meets its contract. Assumes nothing.
use Rattle.carv_objects.specs.Area.{head}
use Rattle.carv_objects.proofs.area.next_id.Goals as goal

pub returns : goal.returns
unfolding head
returns c =
    c.get.ensures
