-- `carv_scheduler::opening::blank` meets its contract. Assumes nothing.
use Rattle.carv_scheduler.specs.Laws.Opening.{blank_formed}
use Rattle.carv_scheduler.proofs.opening.blank.Goals as goal

pub returns : goal.returns
returns c =
    blank_formed _ _ _ _ _ c.requires.a_len c.open_registry.ensures c.clear_rest.ensures
