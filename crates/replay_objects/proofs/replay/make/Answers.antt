-- `replay_objects::replay::make` meets its contract. Assumes nothing.
use Rattle.std.proofs.Common.{◌∙◌, ap}
use Rattle.replay_objects.specs.Record.{code}
use Rattle.replay_objects.specs.Replay.{opened}
use Rattle.replay_objects.proofs.replay.make.Goals as goal

pub returns-in-Open : goal.returns-in-Open
returns-in-Open c = opened (c.requires ∙ ap code c.in-Open.is) _ c.«open».ensures c.into.ensures
