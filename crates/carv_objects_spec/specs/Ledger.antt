-- P3's ledger, its half for the registry: every budget ever carved, with its parent and its allowance, and every charge of CPU time, from which the CPU time charged in a period
-- to a budget and to all below it is summed. Like the book it is fed each call's arguments and its refusal number (0: accepted), and never sees the registry. Assumes nothing.
use Rattle.std.specs.Prelude.{◌≡◌, Bool, false, cond, ◌&&◌, ◌||◌, List, [], ◌∷◌, ℕ, ◌+◌, ◌/◌, ◌≤◌, eqb, Option, Some, None}
use Rattle.carv_area.specs.Table.{Row, at}
use Rattle.carv_budget.specs.Account.{period}
use Rattle.carv_objects_spec.specs.Book.{Call, create, insert, create_budget, charge_more, uncharge, remove, refill, charge_cpu, pays_for_anything, read_account, charge_of, read_totals}

-- a budget, the root among them: the budget that it was carved from, and its allowance
pub record Carved : Type 0 where
  pub parent : ℕ
  pub allowance : ℕ

-- CPU time charged: to which budget, how much, and when
pub record Charge : Type 0 where
  pub budget : ℕ
  pub ns : ℕ
  pub time : ℕ

-- the budgets by id, and the charges, each from the latest. Nothing is ever struck out: a removed budget and its charges stay
pub record Ledger : Type 0 where
  pub budgets : List (Row Carved)
  pub charges : List Charge

-- Is i the budget b, or below it? Going from i to its parent, among the budgets carved before it, and so on up to the root.
abbrev pub under : List (Row Carved) → (b i : ℕ) → Bool
under [] b i = false
under (x ∷ m) b i = cond (eqb x.id i) (eqb i b || under m b x.it.parent) (under m b i)

-- "periods of 10 ms counted from time 0"
abbrev pub period_of : (time : ℕ) → ℕ
period_of time = time / period

-- of these charges, those in period p to b and to all below it, summed
abbrev pub spent_among : List (Row Carved) → List Charge → (p b : ℕ) → ℕ
spent_among m [] p b = 0
spent_among m (x ∷ xs) p b = cond (eqb (period_of x.time) p && under m b x.budget) x.ns 0 + spent_among m xs p b

-- "the CPU charged to a budget and to all below it, those removed meanwhile included", in period p
abbrev pub spent : Ledger → (p b : ℕ) → ℕ
spent l p b = spent_among l.budgets l.charges p b

-- "In each [period], the CPU charged .. is at most that budget's allowance." Of every budget of the ledger
abbrev pub NoneOverspent : Ledger → Type 0
NoneOverspent l = (b : ℕ) (x : Carved) → at l.budgets b ≡ Some x → (p : ℕ) → spent l p b ≤ x.allowance

-- What is written of the ledger.

abbrev pub note_budget : (i parent allowance : ℕ) → Ledger → Ledger
note_budget i parent allowance l = record { budgets = record { id = i; it = record { parent = parent; allowance = allowance } } ∷ l.budgets; charges = l.charges }

abbrev pub note_charge : (i ns time : ℕ) → Ledger → Ledger
note_charge i ns time l = record { budgets = l.budgets; charges = record { budget = i; ns = ns; time = time } ∷ l.charges }

-- what an accepted call writes, where next is the next id by the book: a carve-out the new budget, a CPU charge itself. Carved CPU time is no charge
abbrev pub accepted : Call → (next : ℕ) → Ledger → Ledger
accepted (create kind payer backing) next l = l
accepted (insert kind payer bytes) next l = l
accepted (create_budget parent cpu memory time) next l = note_budget next parent cpu l
accepted (charge_more i bytes) next l = l
accepted (uncharge i bytes) next l = l
accepted (remove i time) next l = l
accepted (refill i time) next l = l
accepted (charge_cpu i ns time) next l = note_charge i ns time l
accepted (pays_for_anything i) next l = l
accepted (read_account i) next l = l
accepted (charge_of i) next l = l
accepted (read_totals i) next l = l

-- a refused call writes nothing
abbrev pub note : Call → (number next : ℕ) → Ledger → Ledger
note c number next l = cond (eqb number 0) (accepted c next l) l

-- the root is there from the opening on, its own parent
abbrev pub opening : (cpu : ℕ) → Ledger
opening cpu = record { budgets = record { id = 1; it = record { parent = 1; allowance = cpu } } ∷ []; charges = [] }

-- The clock.

-- the clock value of a call: its time, where it has one
abbrev pub clock : Call → Option ℕ
clock (create kind payer backing) = None
clock (insert kind payer bytes) = None
clock (create_budget parent cpu memory time) = Some time
clock (charge_more i bytes) = None
clock (uncharge i bytes) = None
clock (remove i time) = Some time
clock (refill i time) = Some time
clock (charge_cpu i ns time) = Some time
clock (pays_for_anything i) = None
clock (read_account i) = None
clock (charge_of i) = None
clock (read_totals i) = None

-- "clock values that never fall", after the last one: each, where a call has one, is at or after that before it. laws/Clock.antt says it of any two of them
abbrev pub NeverFall : (last : ℕ) → List (Option ℕ) → Type 0
NeverFall last [] = Unit {0}
NeverFall last (None ∷ ts) = NeverFall last ts
NeverFall last (Some time ∷ ts) = (last ≤ time) × NeverFall time ts
