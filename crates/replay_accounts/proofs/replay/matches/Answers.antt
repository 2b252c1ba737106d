-- `replay_accounts::replay::matches` meets its contract. The derived `==` groups its tests to the right, and `same_reply` to the left. Assumes nothing.
use Rattle.std.proofs.Common.{arith}
use Rattle.std.proofs.Math.Bool.{and_assoc}
use Rattle.replay_accounts.specs.Replay.{same, same_reply}
use Rattle.replay_accounts.specs.Laws.{gives_made, gives_none}
use Rattle.replay_accounts.proofs.replay.matches.Goals as goal

pub returns-in_default : goal.returns-in_default
returns-in_default c =
    gives_none _ _ _ (λ e. omega arith) (λ e. omega arith) (λ e. omega arith) (λ e. omega arith) (λ e. omega arith) (λ e. omega arith) (λ e. omega arith)

pub returns : goal.returns
unfolding same same_reply
returns c = gives_made _ _ _ _ _ _ c.in-Ok.ensures c.make-given.ensures (simp and_assoc (simp and_assoc at c.eq.ensures))
