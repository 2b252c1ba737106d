-- `replay_board::replay::matches` meets its contract. Assumes nothing.
use Rattle.replay_board.specs.Laws.{one_made}
use Rattle.replay_board.proofs.replay.matches.Goals as goal

pub returns : goal.returns
returns c = one_made _ _ _ _ c.call_of-call.ensures _ _ _ c.make-number.ensures _ c.is_recorded.ensures
