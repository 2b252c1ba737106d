-- kernel/src/objects.rs, built with overflow checks: what can panic in each method of `ObjectRegistry`, with its line, over the states that Rust.antt has in between.
-- A method lists in its order what it computes, the `expect`s that it meets, and what the methods of `Budget` that it calls do. Left out is what belongs to the
-- host: a frame's address (285). Assumes nothing.
use Rattle.std.specs.Prelude.{Bool, true, false, cond, ◌&&◌, List, [], ◌∷◌, ◌++◌, ℕ, suc, ◌-◌, eqb, Option, Some, None, Result, Ok, Err}
use Rattle.carv_budget.specs.declared.Account.{Account}
use Rattle.carv_budget.specs.Rust as budget
use Rattle.carv_budget.specs.Panics as budget_panics
use Rattle.carv_budget.specs.Panics.{Check, sum, expect, AllPass}
use Rattle.carv_objects_spec.specs.declared.kind.Kind.{Kind}
use Rattle.carv_objects_spec.specs.declared.Entry.{Entry}
use Rattle.carv_objects_spec.specs.Registry.{Registry}
use Rattle.carv_objects_spec.specs.Rust as rust
use Rattle.carv_objects_spec.specs.Book as book
use Rattle.carv_objects_spec.specs.Book.{Call}
use Rattle.carv_objects_spec.specs.Demand2.{rust_run}

abbrev pub is_some : {A : Type 0} → Option A → Bool
is_some None = false
is_some (Some _) = true

abbrev pub is_ok : budget.Result Account → Bool
is_ok (budget.ok _) = true
is_ok (budget.err _) = false

-- what comes behind a `?`
abbrev pub if_ok : {A : Type 0} → Result A rust.ObjectError → List Check → List Check
if_ok (Ok _) checks = checks
if_ok (Err _) checks = []

-- what is done to something that is there
abbrev pub if_some : {A : Type 0} → Option A → (A → List Check) → List Check
if_some None checks = []
if_some (Some a) checks = checks a

-- 220 `charge`, 227 `credit`
unfoldable pub charge : (budget bytes : ℕ) → Registry → List Check
charge id bytes self = if_some (rust.budget_mut id self) λ b. budget_panics.charge_memory b bytes

unfoldable pub credit : (budget bytes : ℕ) → Registry → List Check
credit id bytes self = if_some (rust.budget_mut id self) λ b. budget_panics.release_memory b bytes

-- 235 `charge_more`: 238 `self.entries.get_mut(&id).expect("checked above").charged += bytes`
abbrev pub raise : (id bytes : ℕ) → Registry → List Check
raise id bytes self = expect (is_some (rust.get id self)) ∷ if_some (rust.get id self) λ e. sum e.charge bytes ∷ []

abbrev pub charge_more : (id bytes : ℕ) → Registry → List Check
charge_more id bytes self = if_some (rust.get id self) λ e.
    let charged : rust.Call (Unit {0}) = rust.charge e.payer bytes self in
    charge e.payer bytes self ++ if_ok charged.result (raise id bytes charged.self)

-- 243 `uncharge`: it lowers the entry's charge by `saturating_sub`, then credits
abbrev pub uncharge : (id bytes : ℕ) → Registry → List Check
uncharge id bytes self = if_some (rust.get id self) λ e. credit e.payer bytes (rust.write_charged id (λ charged. charged - bytes) self)

-- 252 `insert`: 260 `self.next_id += 1`
abbrev pub insert : (payer bytes : ℕ) → Registry → List Check
insert payer bytes self =
    let charged : rust.Call (Unit {0}) = rust.charge payer bytes self in
    charge payer bytes self ++ if_ok charged.result (sum charged.self.next 1 ∷ [])

-- 274 `create`: it charges, credits by what it could build, and inserts
abbrev pub create_built : rust.Built → (payer bytes : ℕ) → Registry → List Check
create_built rust.no_method payer bytes self = credit payer bytes self
create_built rust.no_backing payer bytes self = credit payer bytes self
create_built rust.built payer bytes self = credit payer bytes self ++ insert payer bytes (rust.credit payer bytes self)

abbrev pub create : (ty : Kind) (payer : ℕ) (backing : Bool) → Registry → List Check
create ty payer backing self =
    let bytes : ℕ = rust.object_bytes ty in
    let charged : rust.Call (Unit {0}) = rust.charge payer bytes self in
    charge payer bytes self ++ if_ok charged.result (create_built (rust.build ty backing) payer bytes charged.self)

-- 311 `create_budget`: 319 `self.budget_mut(parent).expect("charged above")`, then 328 `self.next_id += 1`, or the credit where the carve-out is refused
abbrev pub create_carved : budget.Result Account → (parent : ℕ) → Registry → List Check
create_carved (budget.ok _) parent self = sum self.next 1 ∷ []
create_carved (budget.err _) parent self = credit parent rust.BUDGET_BYTES self

abbrev pub carve : (ids parent cpu memory now : ℕ) → Registry → List Check
carve ids parent cpu memory now self =
    expect (is_some (rust.budget_mut parent self))
    ∷ if_some (rust.budget_mut parent self) λ b.
    let carved : budget.Call (budget.Result Account) = budget.carve_out b cpu memory now in
    budget_panics.carve_out ids b cpu memory now ++ create_carved carved.result parent (rust.write_budget parent carved.self self)

abbrev pub create_budget : (ids parent cpu memory now : ℕ) → Registry → List Check
create_budget ids parent cpu memory now self =
    let charged : rust.Call (Unit {0}) = rust.charge parent rust.BUDGET_BYTES self in
    charge parent rust.BUDGET_BYTES self ++ if_ok charged.result (carve ids parent cpu memory now charged.self)

-- 349 `remove`: 361 `self.entries.remove(&id).expect("checked above")`, then P2's `refill` and 374 `release_child` of a budget, then the credit
abbrev pub remove_taken : (now : ℕ) → Entry → Registry → List Check
remove_taken now e self =
    cond (rust.is_budget e)
    (if_some (rust.budget_mut e.payer self) λ parent.
    let renewed : Account = (budget.refill parent now).self in
    let returned : budget.Call (budget.Result (Unit {0})) = budget.release_child true renewed e.account in
    budget_panics.refill parent now
    ++ budget_panics.release_child true renewed e.account
    ++ budget_panics.if_ok returned.result (credit e.payer e.charge (rust.write_budget e.payer returned.self self)))
    (credit e.payer e.charge self)

abbrev pub remove : (id now : ℕ) → Registry → List Check
remove id now self =
    cond (eqb id rust.root_id) []
    (if_some (rust.get id self) λ e.
    cond (rust.is_budget e && rust.pays_for_anything id self) []
    (expect (is_some (rust.get id self)) ∷ remove_taken now e (rust.remove_entry id self)))

-- through `budget_mut`
abbrev pub refill : (id now : ℕ) → Registry → List Check
refill id now self = if_some (rust.budget_mut id self) λ b. budget_panics.refill b now

abbrev pub charge_cpu : (id amount now : ℕ) → Registry → List Check
charge_cpu id amount now self = if_some (rust.budget_mut id self) λ b. budget_panics.charge_cpu b amount now

-- 166 `ObjectRegistry::new`: 174 `.expect("root budget fits its period")`
abbrev pub new : (ids cpu memory : ℕ) → List Check
new ids cpu memory = budget_panics.new ids cpu rust.CPU_PERIOD_NS memory 0 ++ (expect (is_ok (budget.new cpu rust.CPU_PERIOD_NS memory 0)) ∷ [])

-- Calls. `ids` is `NEXT_BUDGET_ID`, the Rust's counter of budgets ever made. For a kind that isn't listed no method is called, so that none can panic.

unfoldable pub checks : Call → (ids : ℕ) → Registry → List Check
checks (book.create n payer backing) ids r = if_some (rust.from_raw n) λ ty. create ty payer backing r
checks (book.insert n payer bytes) ids r = if_some (rust.from_raw n) λ ty. insert payer bytes r
checks (book.create_budget parent cpu memory time) ids r = create_budget ids parent cpu memory time r
checks (book.charge_more i bytes) ids r = charge_more i bytes r
checks (book.uncharge i bytes) ids r = uncharge i bytes r
checks (book.remove i time) ids r = remove i time r
checks (book.refill i time) ids r = refill i time r
checks (book.charge_cpu i ns time) ids r = charge_cpu i ns time r
checks (book.pays_for_anything i) ids r = []
checks (book.read_account i) ids r = []
checks (book.charge_of i) ids r = []
-- the Rust has no such method
checks (book.read_totals i) ids r = []

-- a call that leaves a budget under the next id made it, and took one of the counter
abbrev pub ids_after : Call → (ids : ℕ) → Registry → ℕ
ids_after c ids r = cond (is_some (rust.budget_mut r.next (rust_run c r).after)) (suc ids) ids

-- no call of a list panics, each on what the Rust's last one left
abbrev pub NoPanics : List Call → (ids : ℕ) → Registry → Type 0
NoPanics [] ids r = Unit {0}
NoPanics (c ∷ cs) ids r = AllPass (checks c ids r) × NoPanics cs (ids_after c ids r) (rust_run c r).after
