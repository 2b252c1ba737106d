-- `carv_scheduler::registry::pays_for_anything` meets its contract. Assumes nothing.
use Rattle.carv_scheduler.specs.Laws.OnRegistry.{part_read}
use Rattle.carv_scheduler.proofs.registry.pays_for_anything.Goals as goal

pub returns : goal.returns
returns c =
    part_read _ c.args.a.now c.requires _ c.pays_for_anything.ensures
