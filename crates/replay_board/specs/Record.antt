-- What a record holds: 34 words of 8 bytes, the least byte first. Assumes nothing.
--   word 0        the call's code, as `Made` in Replay lists them
--   words 1-11    its arguments in order
--   word 12       the number that answers, 0 where the call is accepted
--   word 13       how many answer words the call writes, always the first ones
--   words 14-33   the answer words
-- Arguments and answer words without a use are not looked at.
use Rattle.std.specs.Prelude.{◌≡◌, ◌⊎◌, Bool, true, cond, List, Result, MatchResult, ℕ, ◌+◌, ◌<◌, ltb}
use Rattle.carv_area.specs.Lists.{tab}
use Rattle.replay_records.specs.Word.{word}
use Rattle.replay_board.specs.declared.record.Op.{Op}
use Rattle.replay_board.specs.declared.record.Op.TheVariants.{Open, Create, Insert, CreateBudget, ChargeMore, Uncharge, Remove, Refill, ChargeCpu, PaysForAnything, Account, ChargeOf, CreateUserThread, Start, BlockCurrent, Wake, IsBlockedOn, Kill, Tick, Plan, ReadThread, Current, Switches, ExitOf, Totals}
use Rattle.replay_records.specs.declared.UnlistedOp.{UnlistedOp}
use Rattle.replay_board.specs.declared.record.Call.{Call}

-- the code of an op in a record
abbrev pub code : Op → ℕ
code Open = 1
code Create = 2
code Insert = 3
code CreateBudget = 4
code ChargeMore = 5
code Uncharge = 6
code Remove = 7
code Refill = 8
code ChargeCpu = 9
code PaysForAnything = 10
code Account = 11
code ChargeOf = 12
code CreateUserThread = 13
code Start = 14
code BlockCurrent = 15
code Wake = 16
code IsBlockedOn = 17
code Kill = 18
code Tick = 19
code Plan = 20
code ReadThread = 21
code Current = 22
code Switches = 23
code ExitOf = 24
code Totals = 25

-- the op with this code, or the code, which is not listed
abbrev pub Decodes : ℕ → Result Op UnlistedOp → Type 0
Decodes n r = MatchResult r (λ op. n ≡ code op) (λ e. (e.0 ≡ n) × ((n < 1) ⊎ (25 < n)))

-- the call of the record from word number k on
unfoldable pub call : List ℕ → ℕ → Call
call l k = record {
  op = word l k;
  first = word l (k + 1);
  second = word l (k + 2);
  third = word l (k + 3);
  fourth = word l (k + 4);
  fifth = word l (k + 5);
  sixth = word l (k + 6);
  seventh = word l (k + 7);
  eighth = word l (k + 8);
  ninth = word l (k + 9);
  tenth = word l (k + 10);
  eleventh = word l (k + 11);
}

-- what each answer word holds before a call
abbrev pub unwritten : ℕ
unwritten = 6_148_914_691_236_517_205

-- what the record says of answer word i: one that is not written stays as it was
unfoldable pub recorded_word : List ℕ → ℕ → ℕ → ℕ
recorded_word l k i = cond (ltb i (word l (k + 13))) (word l (k + 14 + i)) unwritten

-- and of all 20
unfoldable pub recorded : List ℕ → ℕ → List ℕ
recorded l k = tab 20 (recorded_word l k)

-- b is true where P holds, and only there
abbrev pub Tells : Bool → Type 0 → Type 0
Tells b P = (b ≡ true → P) × (P → b ≡ true)
