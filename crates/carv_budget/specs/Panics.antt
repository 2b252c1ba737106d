-- carv-budget/src/lib.rs, built with overflow checks: what can panic in each method of `Budget`, with its line. A method lists, in its order, the sums, differences
-- and remainders that it computes and the `expect`s that it meets; Rust.antt goes on past all of these. `saturating_sub` can't panic. Assumes nothing.
use Rattle.std.specs.Prelude.{Bool, true, cond, ◌≡◌, List, [], ◌∷◌, ◌++◌, ℕ, ◌+◌, ◌-◌, ◌*◌, ◌^◌, ◌%◌, ◌≤◌, ◌<◌, ltb}
use Rattle.carv_budget.specs.declared.Account.{Account}
use Rattle.carv_budget.specs.Rust.{cpu_period_ns}
use Rattle.carv_budget.specs.Rust as rust

pub data Check : Type 0 where
  -- `a + b`, `a * b`, `a - b`, `a % b` of `u64`s
  sum : (a b : ℕ) → Check
  product : (a b : ℕ) → Check
  difference : (a b : ℕ) → Check
  remainder : (a b : ℕ) → Check
  -- `expect`, or an index: is it there?
  expect : Bool → Check

-- it doesn't panic
abbrev pub Passes : Check → Type 0
Passes (sum a b) = a + b < 2 ^ 64
Passes (product a b) = a * b < 2 ^ 64
Passes (difference a b) = b ≤ a
Passes (remainder a b) = 0 < b
Passes (expect there) = there ≡ true

-- none of them panics
abbrev pub AllPass : List Check → Type 0
AllPass [] = Unit {0}
AllPass (c ∷ cs) = Passes c × AllPass cs

-- what comes behind the `return Err(..)`s
abbrev pub if_ok : {A : Type 0} → rust.Result A → List Check → List Check
if_ok (rust.ok _) checks = checks
if_ok (rust.err _) checks = []

-- 256 `.try_update(.., |id| id.checked_add(1)).expect("budget identity space exhausted")`; `ids` is `NEXT_BUDGET_ID`
abbrev pub next_budget_id : (ids : ℕ) → Check
next_budget_id ids = expect (ltb (ids + 1) (2 ^ 64))

-- `Budget::new`: 95 `id: next_budget_id()`
abbrev pub new : (ids cpu_budget cpu_period memory now : ℕ) → List Check
new ids cpu_budget cpu_period memory now = if_ok (rust.new cpu_budget cpu_period memory now) (next_budget_id ids ∷ [])

-- `Budget::refill`: 134 `now_ns - self.period_start_ns`, 139 `now_ns - elapsed % self.limits.cpu_period_ns`,
-- 140 `self.limits.cpu_budget_ns - self.child_cpu_reserved_ns`
unfoldable pub refill : Account → (now : ℕ) → List Check
refill self now =
    cond (ltb now self.period_start) []
    (let elapsed : ℕ = now - self.period_start in
    difference now self.period_start
    ∷ cond (ltb elapsed cpu_period_ns) []
    (remainder elapsed cpu_period_ns ∷ difference now (elapsed % cpu_period_ns) ∷ difference self.cpu_allowance self.cpu_reserved ∷ []))

-- `Budget::charge_cpu`: 150 `self.cpu_remaining_ns -= amount_ns`
unfoldable pub charge_cpu : Account → (amount now : ℕ) → List Check
charge_cpu self amount now =
    refill self now
    ++ (let refilled : Account = (rust.refill self now).self in
    cond (ltb refilled.cpu_left amount) [] (difference refilled.cpu_left amount ∷ []))

-- `Budget::charge_memory`: 164 `self.memory_used_bytes += amount_bytes`
unfoldable pub charge_memory : Account → (amount : ℕ) → List Check
charge_memory self amount = if_ok (rust.charge_memory self amount).result (sum self.memory_used amount ∷ [])

-- `Budget::release_memory`: 176 `self.memory_used_bytes -= amount_bytes`
unfoldable pub release_memory : Account → (amount : ℕ) → List Check
release_memory self amount = if_ok (rust.release_memory self amount).result (difference self.memory_used amount ∷ [])

-- `Budget::release_child`: 199 `self.child_cpu_reserved_ns -= child.limits.cpu_budget_ns`, 200 `self.child_memory_reserved_bytes -= child.limits.memory_bytes`
unfoldable pub release_child : (own : Bool) (self child : Account) → List Check
release_child own self child =
    if_ok (rust.release_child own self child).result
    (difference self.cpu_reserved child.cpu_allowance ∷ difference self.memory_reserved child.memory_limit ∷ [])

-- `Budget::carve_out`: 233 `self.cpu_remaining_ns -= cpu_budget_ns`, 234 `self.child_cpu_reserved_ns += cpu_budget_ns`,
-- 235 `self.child_memory_reserved_bytes += memory_bytes`, 238 `id: next_budget_id()`
unfoldable pub carve_out : (ids : ℕ) → Account → (cpu_budget memory now : ℕ) → List Check
carve_out ids self cpu_budget memory now =
    refill self now
    ++ (let refilled : Account = (rust.refill self now).self in
    if_ok (rust.carve_out self cpu_budget memory now).result
    (difference refilled.cpu_left cpu_budget ∷ sum refilled.cpu_reserved cpu_budget ∷ sum refilled.memory_reserved memory ∷ next_budget_id ids ∷ []))
