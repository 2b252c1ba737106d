-- `carv_area::pull` meets its contract. Assumes nothing.
use Rattle.std.proofs.Common.{◌∙◌}
use Rattle.carv_area.specs.Laws.Stored.{queue_at, queue_pull}
use Rattle.carv_area.proofs.pull.Goals as goal

pub returns-clause-value : goal.returns-clause-value
returns-clause-value c =
    c.get-v.ensures ∙ queue_at _ c.args.i c.requires.is_place

pub returns-clause-pulled : goal.returns-clause-pulled
returns-clause-pulled c =
    queue_pull _ _ _ c.requires.queue c.args.i c.requires.is_place c.remove_row.ensures.words
