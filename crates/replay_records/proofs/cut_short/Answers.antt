-- `replay_records::cut_short` meets its contract. Assumes nothing.
use Rattle.std.proofs.Common.{◌∙◌}
use Rattle.replay_records.proofs.Laws.Tally.{cut_is, cut_most}
use Rattle.replay_records.proofs.cut_short.Goals as goal

pub returns : goal.returns
returns c =
    let e = c.from.ensures ∙ rw c.is_cut.ensures (cut_is _ _) in
    (e, rw e (cut_most _ _))
