-- `carv_objects::area::append` meets its contract. Assumes nothing.
use native.Mathlib.Omega.{arith}
use mathlib.Core.Path.{◌∙◌}
use Rattle.carv_objects.specs.Area.{table}
use Rattle.carv_objects.specs.Laws.Formed.{length_table}
use Rattle.carv_objects.specs.Laws.AreaSteps.{entry_appended}
use Rattle.carv_objects.proofs.area.append.Goals as goal

pub append_entry-requires-clause-stored : goal.append_entry-requires-clause-stored
unfolding table
append_entry-requires-clause-stored c =
    c.requires.well_formed.rows

pub append_entry-requires-clause-t_in_bounds : goal.append_entry-requires-clause-t_in_bounds
unfolding table
append_entry-requires-clause-t_in_bounds c =
    omega (arith, length_table c.args.a.now c.requires.well_formed.size, c.requires.a_len_bound.0)

pub returns : goal.returns
unfolding table
returns c =
    entry_appended _ c.requires.well_formed _ (c.append_entry.auto.t ∙ length_table c.args.a.now c.requires.well_formed.size) _ _ c.requires.a_len_bound.1 c.append_entry.ensures
