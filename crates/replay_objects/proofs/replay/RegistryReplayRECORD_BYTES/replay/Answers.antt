-- `replay_objects::replay`, its replay of a record, meets its contract. Assumes nothing.
use Rattle.replay_objects.proofs.replay.RegistryReplayRECORD_BYTES.replay.Goals as goal

pub returns : goal.returns
returns c = let a = c.call_of.ensures in let b = c.reply_of.ensures in let d = c.matches.ensures in rw (← a, ← b) d
