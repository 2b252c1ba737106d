-- `replay_board::record::recorded_word` meets its contract. Assumes nothing.
use Rattle.replay_board.specs.Laws.{written, stays}
use Rattle.replay_board.proofs.record.recorded_word.Goals as goal

pub returns-then-i-get : goal.returns-then-i-get
returns-then-i-get c = written _ _ _ _ _ c.get.ensures c.if-i-get.true c.get-then-i-get.ensures

pub returns : goal.returns
returns c = stays _ _ _ _ c.get.ensures c.if-i-get.false
