-- `carv_objects::opening::write_table` meets its contract. Assumes nothing.
use mathlib.Core.Path.{◌∙◌}
use Rattle.carv_objects.specs.Laws.Formed.{length_table}
use Rattle.carv_objects.specs.Laws.Opening.{table_put}
use Rattle.carv_objects.proofs.opening.write_table.Goals as goal

pub returns : goal.returns
returns c =
    table_put c.args.a.now _ c.requires (c.write_only.auto.t ∙ length_table c.args.a.now c.requires) _ c.write_only.ensures
