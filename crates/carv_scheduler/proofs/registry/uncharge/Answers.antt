-- `carv_scheduler::registry::uncharge` meets its contract. Assumes nothing.
use Rattle.std.proofs.Common.{rules}
use Rattle.carv_scheduler.specs.Laws.OnRegistry.{part_served}
use Rattle.carv_scheduler.proofs.registry.uncharge.Goals as goal

pub returns : goal.returns
returns c =
    part_served _ c.args.a.now c.requires _ _ (search rules) c.uncharge.ensures
