-- The laws of `Replay`: that the tests of equality tell equality, a call by its op, and the count of differences. Assumes nothing.
use Rattle.std.specs.Prelude.{Bool, true, false, List, ◌≡◌, refl, ℕ, ◌+◌, ◌*◌}
use Rattle.std.proofs.Common.{add-one, arith, eqb-true, eq-eqb, ne_eqb}
use Rattle.carv_budget.specs.declared.Account.{Account}
use Rattle.carv_budget.specs.Account.{with_memory}
use Rattle.carv_budget.proofs.Laws.Account.{both, first, second}
use Rattle.replay_accounts.specs.declared.record.Call.{Call}
use Rattle.replay_accounts.specs.declared.record.Reply.{Reply}
use Rattle.replay_accounts.specs.Record.{call, reply}
use Rattle.replay_accounts.specs.declared.record.Op.{Op}
use Rattle.replay_accounts.specs.declared.record.Op.TheVariants.{OpenAccount, Refill, ChargeCpu, ChargeMemory, ReleaseMemory, CarveOut, ReleaseChild}
use Rattle.replay_accounts.specs.Op.{op_number}
use Rattle.replay_accounts.specs.Replay.{made, same, same_reply, gives, agrees, differing}

-- accounts whose figures are equal
pub all_equal : (a b : Account) → a.cpu_allowance ≡ b.cpu_allowance → a.memory_limit ≡ b.memory_limit → a.period_start ≡ b.period_start
    → a.cpu_left ≡ b.cpu_left → a.cpu_reserved ≡ b.cpu_reserved → a.memory_used ≡ b.memory_used
    → a.memory_reserved ≡ b.memory_reserved → a ≡ b
all_equal a b e1 e2 e3 e4 e5 e6 e7 =
    let e : with_memory a a.memory_used a.memory_reserved ≡ with_memory b b.memory_used b.memory_reserved = cc in
    e

-- the test of two accounts is true where they are equal, and only there
ruleset parts = (eqb-true, first, second)

pub same_told : (a b : Account) → same a b ≡ true → a ≡ b
unfolding same
same_told a b p =
    all_equal a b (search parts depth 8) (search parts depth 8) (search parts depth 8) (search parts depth 8) (search parts depth 8) (search parts depth 8)
    (search parts depth 8)

pub same_shown : (a b : Account) → a ≡ b → same a b ≡ true
unfolding same
same_shown a b e = rw e (search (both, eq-eqb, refl) depth 8)

-- and so is the test of two replies
abbrev whole : Reply → Reply
whole a = record { number = a.number; value = a.value; account = a.account; child = a.child }

pub same_reply_told : (a b : Reply) → same_reply a b ≡ true → a ≡ b
unfolding same_reply
same_reply_told a b p =
    let e1 : a.number ≡ b.number = search parts in
    let e2 : a.value ≡ b.value = search parts in
    let e3 : a.account ≡ b.account = search (same_told, parts) in
    let e4 : a.child ≡ b.child = search (same_told, parts) in
    let e : whole a ≡ whole b = cc in
    e

pub same_reply_shown : (a b : Reply) → a ≡ b → same_reply a b ≡ true
unfolding same_reply
same_reply_shown a b e = rw e (search (both, eq-eqb, same_shown, refl))

-- a call by its op, whose number is n: x is what was made of it, and b says whether x is r
gives_op : (op : Op) (c : Call) (r : Reply) → same_reply (made op c) r ≡ gives (op_number op) c r
unfolding gives
gives_op OpenAccount c r = refl
gives_op Refill c r = refl
gives_op ChargeCpu c r = refl
gives_op ChargeMemory c r = refl
gives_op ReleaseMemory c r = refl
gives_op CarveOut c r = refl
gives_op ReleaseChild c r = refl

pub gives_made : (n : ℕ) (op : Op) (c : Call) (x r : Reply) (b : Bool) → op_number op ≡ n → x ≡ made op c → b ≡ same_reply x r → b ≡ gives n c r
gives_made n op c x r b p q e = rw (← p, ← gives_op op c r, ← q) e

pub gives_none : (op : ℕ) (c : Call) (r : Reply) → (op ≡ 1 → ⊥) → (op ≡ 2 → ⊥) → (op ≡ 3 → ⊥) → (op ≡ 4 → ⊥) → (op ≡ 5 → ⊥) → (op ≡ 6 → ⊥)
    → (op ≡ 7 → ⊥) → false ≡ gives op c r
unfolding gives
gives_none op c r n1 n2 n3 n4 n5 n6 n7 =
    rw (ne_eqb _ _ n1, ne_eqb _ _ n2, ne_eqb _ _ n3, ne_eqb _ _ n4, ne_eqb _ _ n5, ne_eqb _ _ n6, ne_eqb _ _ n7)

-- the differences with one record more
pub differing_right : (n : ℕ) (l : List ℕ) → agrees (call l (n * 34)) (reply l (n * 34)) ≡ true → differing (n + 1) l ≡ differing n l
unfolding differing
differing_right n l p = rw (add-one, p) (omega arith)

pub differing_wrong : (n : ℕ) (l : List ℕ) → agrees (call l (n * 34)) (reply l (n * 34)) ≡ false → differing (n + 1) l ≡ differing n l + 1
unfolding differing
differing_wrong n l p = rw (add-one, p)
