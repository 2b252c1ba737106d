-- `carv_scheduler::registry::account` meets its contract. Assumes nothing.
use Rattle.carv_scheduler.specs.Laws.OnRegistry.{part_read}
use Rattle.carv_scheduler.proofs.registry.account.Goals as goal

pub returns : goal.returns
returns c =
    part_read _ c.args.a.now c.requires _ c.account.ensures
