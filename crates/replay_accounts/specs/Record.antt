-- What a record holds: 34 words of 8 bytes, the least byte first. Assumes nothing.
--   word 0        op: 1 open, 2 refill, 3 charge CPU, 4 charge memory, 5 release memory, 6 carve out, 7 release a child
--   words 1-7     the account before the call
--   words 8-14    the child before the call
--   word 15       CPU time (ops 1, 3, 6), or memory (4, 5)
--   word 16       memory (1, 6)
--   word 17       the time (1, 2, 3, 6)
--   word 18       the number that answers, 0 where the call is accepted
--   word 19       1 where the call is a refill that renewed
--   words 20-26   the account after the call
--   words 27-33   the child after the call
-- Every other word is 0. Where it stands before the call it is not looked at, and after the call it is compared.
use Rattle.std.specs.Prelude.{ℕ, ◌+◌, List}
use Rattle.carv_budget.specs.declared.Account.{Account}
use Rattle.replay_records.specs.Word.{word}
use Rattle.replay_accounts.specs.declared.record.Call.{Call}
use Rattle.replay_accounts.specs.declared.record.Reply.{Reply}

-- the account in the seven words of l from word number k on
unfoldable pub account : List ℕ → ℕ → Account
account l k =
    record { cpu_allowance = word l k; memory_limit = word l (k + 1); period_start = word l (k + 2); cpu_left = word l (k + 3); cpu_reserved = word l (k + 4); memory_used = word l (k + 5); memory_reserved = word l (k + 6) }

-- the call of the record from word number k on
unfoldable pub call : List ℕ → ℕ → Call
call l k =
    record { op = word l k; account = account l (k + 1); child = account l (k + 8); first = word l (k + 15); second = word l (k + 16); time = word l (k + 17) }

-- what that record says that the call answers and leaves
unfoldable pub reply : List ℕ → ℕ → Reply
reply l k =
    record { number = word l (k + 18); value = word l (k + 19); account = account l (k + 20); child = account l (k + 27) }
