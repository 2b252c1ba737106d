-- `carv_scheduler::exits::exit_of` meets its contract. Assumes nothing.
use Rattle.carv_scheduler.specs.Laws.AreaLaws.{area_formed}
use Rattle.carv_scheduler.proofs.exits.exit_of.Goals as goal

pub oldest-requires : goal.oldest-requires
oldest-requires c =
    area_formed _ c.requires
