-- Document 01's soundness, for objects: a test that computes. "Every code is a listed one" is said of the stored words, in carv_objects/specs/Area.antt: an entry has a
-- kind. proofs/Laws/SoundFacts.antt has the same as a record of facts. Assumes nothing.
use Rattle.std.specs.Prelude.{Bool, true, cond, not, ◌&&◌, ◌||◌, List, [], ◌∷◌, ℕ, suc, eqb, ltb, leb, length}
use Rattle.carv_area.specs.Table.{Row, at, total}
use Rattle.carv_budget.specs.declared.Account.{Account}
use Rattle.carv_budget.specs.Account as account
use Rattle.carv_objects_spec.specs.declared.kind.Kind.{Kind}
use Rattle.carv_objects_spec.specs.declared.Entry.{Entry}
use Rattle.carv_objects_spec.specs.Kinds.{is_budget_kind}
use Rattle.carv_objects_spec.specs.Registry.{Registry, or_missing, most_objects}

-- every test of a list holds
abbrev pub all : List Bool → Bool
all [] = true
all (b ∷ bs) = b && all bs

module _ {A : Type 0} where
  -- every row passes a test
  abbrev pub every : (ℕ → A → Bool) → List (Row A) → Bool
  every p [] = true
  every p (r ∷ m) = p r.id r.it && every p m

  -- ids rise from l on and lie below n
  abbrev pub rises : (l n : ℕ) → List (Row A) → Bool
  rises l n [] = leb l n
  rises l n (r ∷ m) = leb l r.id && rises (suc r.id) n m

-- the kind of what stands under i
abbrev pub kind_at : List (Row Entry) → ℕ → Kind
kind_at m i = (or_missing (at m i)).kind

-- Of entry i, e: the bytes that p pays for it, and the memory and CPU time that p reserves for it. "The root not being its own child".

abbrev pub is_child : (p i : ℕ) → Entry → Bool
is_child p i e = eqb e.payer p && not (eqb i p)

abbrev pub charge_by : (p i : ℕ) → Entry → ℕ
charge_by p i e = cond (eqb e.payer p) e.charge 0

abbrev pub memory_by : (p i : ℕ) → Entry → ℕ
memory_by p i e = cond (is_child p i e) e.account.memory_limit 0

abbrev pub cpu_by : (p i : ℕ) → Entry → ℕ
cpu_by p i e = cond (is_child p i e) e.account.cpu_allowance 0

-- an account of zeros
abbrev pub is_blank : Account → Bool
is_blank a = all (
    eqb a.cpu_allowance 0 ∷ eqb a.memory_limit 0 ∷ eqb a.period_start 0 ∷ eqb a.cpu_left 0 ∷ eqb a.cpu_reserved 0
    ∷ eqb a.memory_used 0 ∷ eqb a.memory_reserved 0 ∷ [])

-- what is asked of entry i, e, of the rows m
abbrev pub entry_tests : List (Row Entry) → ℕ → Entry → List Bool
entry_tests m i e =
    -- what is no budget has no account
    (is_budget_kind e.kind || is_blank e.account)
    -- "entry 1 is a budget paying for itself; other payers are live budgets of lower id"
    ∷ cond (eqb i 1) (is_budget_kind e.kind && eqb e.payer 1) (ltb e.payer i)
    ∷ is_budget_kind (kind_at m e.payer)
    -- "used equals the charges it pays; reservations equal its live children's limits"
    ∷ eqb e.account.memory_used (total (charge_by i) m)
    ∷ eqb e.account.memory_reserved (total (memory_by i) m)
    ∷ eqb e.account.cpu_reserved (total (cpu_by i) m)
    -- "used + reserved ≤ memory limit; CPU left + CPU reserved ≤ allowance ≤ period"
    ∷ account.sound e.account ∷ []

-- what is asked of a registry: "at most 512 objects; ids rise and lie below the next id"
abbrev pub registry_tests : Registry → List Bool
registry_tests r =
    leb (length r.rows) most_objects
    ∷ rises 1 r.next r.rows
    ∷ is_budget_kind (kind_at r.rows 1)
    ∷ every (λ i e. all (entry_tests r.rows i e)) r.rows ∷ []

abbrev pub sound : Registry → Bool
sound r = all (registry_tests r)
