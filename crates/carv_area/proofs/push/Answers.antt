-- `carv_area::push` meets its contract. Assumes nothing.
use Rattle.carv_area.specs.Laws.Stored.{queue_push}
use Rattle.carv_area.proofs.push.Goals as goal

pub returns-clause-pushed : goal.returns-clause-pushed
returns-clause-pushed c =
    queue_push _ _ _ c.requires.queue c.args.v c.requires.one_more_fits c.append_row.ensures.words
