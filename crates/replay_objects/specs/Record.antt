-- What a record holds: 16 words of 8 bytes, the least byte first. Assumes nothing.
--   word 0        op: 1 open, 2 create, 3 insert, 4 create a budget, 5 charge more, 6 uncharge, 7 remove, 8 refill, 9 charge CPU,
--                 10 whether it pays for anything, 11 account, 12 charge, 13 totals
--   words 1-4     the arguments: CPU and memory (op 1); kind, payer and 1 where the backing is there (2); kind, payer and bytes (3);
--                 parent, CPU, memory and time (4); id and bytes (5, 6); id (10 to 13); id and time (7, 8); id, CPU time and time (9)
--   word 5        the number that answers, 0 where the call is accepted
--   words 6-12    the values: an id; 1 or 0 for yes or no (8, 10); the seven figures of an account; payer and charge;
--                 memory used, memory free and CPU left (13)
-- Every other word is 0. Among words 1-4 and 13-15 it is not looked at, and among words 6-12 it is compared.
use Rattle.std.specs.Prelude.{◌≡◌, false, ◌&&◌, ℕ, ◌+◌, List, leb, Result, MatchResult}
use Rattle.replay_records.specs.Word.{word}
use Rattle.replay_objects.specs.declared.record.Op.{Op}
use Rattle.replay_objects.specs.declared.record.Op.TheVariants.{Open, Create, Insert, CreateBudget, ChargeMore, Uncharge, Remove, Refill, ChargeCpu, PaysForAnything, Account, ChargeOf, Totals}
use Rattle.replay_records.specs.declared.UnlistedOp.{UnlistedOp}
use Rattle.replay_objects.specs.declared.record.Call.{Call}
use Rattle.replay_objects.specs.declared.record.Reply.{Reply}

-- the number of an op in a record
abbrev pub code : Op → ℕ
code Open = 1
code Create = 2
code Insert = 3
code CreateBudget = 4
code ChargeMore = 5
code Uncharge = 6
code Remove = 7
code Refill = 8
code ChargeCpu = 9
code PaysForAnything = 10
code Account = 11
code ChargeOf = 12
code Totals = 13

-- the op with this number, or the number, which is not listed
abbrev pub Decodes : ℕ → Result Op UnlistedOp → Type 0
Decodes n r = MatchResult r (λ op. n ≡ code op) (λ e. (e.0 ≡ n) × ((leb 1 n && leb n 13) ≡ false))

-- the call of the record from word number k on
unfoldable pub call : List ℕ → ℕ → Call
call l k = record { op = word l k; first = word l (k + 1); second = word l (k + 2); third = word l (k + 3); fourth = word l (k + 4) }

-- the answer that it expects
unfoldable pub reply : List ℕ → ℕ → Reply
reply l k = record {
  number = word l (k + 5);
  first = word l (k + 6);
  second = word l (k + 7);
  third = word l (k + 8);
  fourth = word l (k + 9);
  fifth = word l (k + 10);
  sixth = word l (k + 11);
  seventh = word l (k + 12);
}
