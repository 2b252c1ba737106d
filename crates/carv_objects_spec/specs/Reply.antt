-- What a call answers and leaves, and the questions before it. Assumes nothing.
use Rattle.std.specs.Prelude.{Bool, cond, ℕ, Option, None}
use Rattle.carv_budget.specs.declared.Account.{Account}
use Rattle.carv_objects_spec.specs.declared.Totals.{Totals}

-- number 0, the value and the new state; or the number of the first question missed, no value, and the state as it was left
pub record Reply (A S : Type 0) : Type 0 where
  pub number : ℕ
  pub value : Option A
  pub after : S

module _ {A S : Type 0} where
  abbrev pub refuse : ℕ → S → Reply A S
  refuse n s = record { number = n; value = None; after = s }

  abbrev pub accept : Option A → S → Reply A S
  accept v s = record { number = 0; value = v; after = s }

  -- a reply without its answer: the state alone
  abbrev pub without_answer : Reply A S → Reply A S
  without_answer z = accept None z.after

pub record Question : Type 0 where
  pub number : ℕ
  pub holds : Bool

-- "A "no" returns the number."
abbrev pub ask : ℕ → Bool → Question
ask n b = record { number = n; holds = b }

infixr 10 ◌>>◌
-- the first question that is missed answers, and the state stays
abbrev pub ◌>>◌ : {A S : Type 0} → Question → (S → Reply A S) → S → Reply A S
◌>>◌ q k s = cond q.holds (k s) (refuse q.number s)

module _ {A S : Type 0} where
  -- the questions are asked of the state s: a refusal leaves s
  abbrev pub on : S → (S → Reply A S) → Reply A S
  on s k = k s

  -- from here on a refusal leaves s, instead of the state before
  abbrev pub from : S → (S → Reply A S) → S → Reply A S
  from s k before = k s

  -- nothing is left to ask: the value, and the new state s
  abbrev pub finish : Option A → S → S → Reply A S
  finish v s before = accept v s

-- the values of the registry's calls
pub data Value : Type 0 where
  id : ℕ → Value
  renewed : Bool → Value
  pays : Bool → Value
  of_account : Account → Value
  charge : (payer bytes : ℕ) → Value
  of_totals : Totals → Value
