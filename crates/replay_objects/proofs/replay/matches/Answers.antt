-- `replay_objects::replay::matches` meets its contract. Assumes nothing.
use Rattle.std.proofs.Common.{◌∙◌}
use Rattle.replay_objects.specs.Laws.{same_derived}
use Rattle.replay_objects.specs.Replay.{made}
use Rattle.replay_objects.proofs.replay.matches.Goals as goal

pub returns : goal.returns
returns c = made _ c.make.ensures (c.eq.ensures ∙ same_derived _ _)
