-- `carv_objects::opening::write_only` meets its contract. Assumes nothing.
use mathlib.Core.Path.{refl}
use Rattle.carv_objects.specs.Laws.Opening.{cleared_stored, cleared_room, only_row}
use Rattle.carv_objects.proofs.opening.write_only.Goals as goal

pub append_entry-requires-clause-stored : goal.append_entry-requires-clause-stored
append_entry-requires-clause-stored c =
    cleared_stored c.args.t.now _ c.requires _ refl c.clear.ensures.words

pub append_entry-requires-clause-t_in_bounds : goal.append_entry-requires-clause-t_in_bounds
append_entry-requires-clause-t_in_bounds c =
    cleared_room c.args.t.now _ c.requires _ refl c.clear.ensures.words c.clear.auto.t

pub returns : goal.returns
returns c =
    only_row c.args.t.now _ c.requires _ refl c.clear.ensures.words _ _ c.append_entry.ensures
