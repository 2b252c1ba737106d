-- `replay_records::Tally::add` meets its contract. Assumes nothing.
use Rattle.std.proofs.Common.{◌∙◌, sym}
use Rattle.replay_records.proofs.Laws.Tally.{added_full, added_last}
use Rattle.replay_records.proofs.Tally.add.Goals as goal
use Rattle.replay_records.proofs.Tally.add.Goals.{then-n-block_bytes, else-n-block_bytes}

pub returns : goal.returns
returns c = elim c.if-n-block_bytes.branch [
  | then-n-block_bytes w ↦ rw w.blocks-is (added_full _ _ _ _ _ c.cut_short.ensures.0 (w.if-n-block_bytes.true ∙ c.block_bytes.ensures.0))
  | else-n-block_bytes w ↦ rw w.blocks-is (added_last _ _ _ _ _ c.cut_short.ensures.0 (λ e. w.if-n-block_bytes.false (e ∙ sym c.block_bytes.ensures.0)))
]
