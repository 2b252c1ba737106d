-- Document 01's soundness of objects, both ways: a sound registry and, for each test of specs/Sound.antt in its order, neighbours that fail it. A neighbour differs in one
-- place, and where that moves a sum, in the sum too, so that no other test fails where that can be had. Assumes nothing.
use Rattle.std.specs.Prelude.{◌≡◌, refl, true, false, [], ◌∷◌, ℕ}
use Rattle.carv_area.specs.Table.{Row}
use Rattle.carv_budget.specs.declared.Account.{Account}
use Rattle.carv_budget.specs.Account as account
use Rattle.carv_budget.specs.Account.{blank, fresh}
use Rattle.carv_objects_spec.specs.declared.kind.Kind.{Kind}
use Rattle.carv_objects_spec.specs.declared.kind.Kind.TheVariants.{Thread, Frame, Notification, Budget, IrqControl}
use Rattle.carv_objects_spec.specs.declared.Entry.{Entry}
use Rattle.carv_objects_spec.specs.Registry.{Registry, plain, opening}
use Rattle.carv_objects_spec.specs.Sound.{sound}
use Rattle.carv_objects_spec.proofs.Laws.Limits.{crowd}

abbrev pub Holds : Registry → Type 0
Holds r = sound r ≡ true

abbrev pub Fails : Registry → Type 0
Fails r = sound r ≡ false

abbrev pub row : ℕ → Entry → Row Entry
row i e = record { id = i; it = e }

abbrev pub figures : (allowance limit start left cpu_reserved used memory_reserved : ℕ) → Account
figures allowance limit start left cpu_reserved used memory_reserved = record {
  cpu_allowance = allowance;
  memory_limit = limit;
  period_start = start;
  cpu_left = left;
  cpu_reserved = cpu_reserved;
  memory_used = used;
  memory_reserved = memory_reserved;
}

abbrev pub entry : (kind : Kind) (payer charge : ℕ) → Account → Entry
entry kind payer charge a = record { kind = kind; payer = payer; charge = charge; account = a }

-- The sound registry: the root, a Frame and a budget that it pays for, and a Notification that this budget pays for.

abbrev pub root : (allowance limit left cpu_reserved used memory_reserved : ℕ) → Entry
root allowance limit left cpu_reserved used memory_reserved = entry Budget 1 0 (figures allowance limit 0 left cpu_reserved used memory_reserved)

abbrev pub the_root : Entry
the_root = root 10_000_000 12_416 5_000_000 4_000_000 4_224 8_192

abbrev pub frame : Entry
frame = plain Frame 1 4_096

-- with this payer, and these bytes used
abbrev pub budget : (payer used : ℕ) → Entry
budget payer used = entry Budget payer 128 (figures 4_000_000 8_192 0 4_000_000 0 used 0)

abbrev pub notification : Entry
notification = plain Notification 3 64

-- four entries with ids 1 to 4, and this next id
abbrev pub four : ℕ → (first second third fourth : Entry) → Registry
four next first second third fourth = record { next = next; rows = row 1 first ∷ row 2 second ∷ row 3 third ∷ row 4 fourth ∷ [] }

abbrev pub with_root : Entry → Registry
with_root e = four 5 e frame (budget 1 64) notification

abbrev pub with_second : Entry → Registry
with_second e = four 5 the_root e (budget 1 64) notification

-- the fourth costs nothing
abbrev pub with_fourth : Entry → Registry
with_fourth e = four 5 the_root frame (budget 1 0) e

-- these ids, in this order
abbrev pub ids : (second third fourth : ℕ) → Registry
ids second third fourth = record { next = 5; rows = row 1 the_root ∷ row second frame ∷ row third (plain Notification 1 0) ∷ row fourth (entry Budget 1 128 (fresh 4_000_000 8_192 0)) ∷ [] }

-- two budgets without anything, the first with this payer
abbrev pub two : ℕ → Registry
two payer = record { next = 3; rows = row 1 (entry Budget payer 0 blank) ∷ row 2 (entry Budget 1 0 blank) ∷ [] }

pub record Unsound : Type 0 where
  pub as_it_is : Holds (with_root the_root)
  pub opened : Holds (opening 10_000_000 1_000_000)
  -- "every code is a listed one": the first and the last kind
  pub kinds : Holds (with_second (plain Thread 1 4_096)) × Holds (with_second (plain IrqControl 1 4_096))
  -- what is no budget has no account: a start, an allowance, a limit, the last two reserved by the root
  pub no_account : Fails (with_second (entry Frame 1 4_096 (figures 0 0 1 0 0 0 0)))
      × Fails (four 5 (root 10_000_000 12_416 5_000_000 4_000_001 4_224 8_192) (entry Frame 1 4_096 (figures 1 0 0 0 0 0 0)) (budget 1 64) notification)
      × Fails (four 5 (root 10_000_000 12_417 5_000_000 4_000_000 4_224 8_193) (entry Frame 1 4_096 (figures 0 1 0 0 0 0 0)) (budget 1 64) notification)
  -- "entry 1 is a budget paying for itself"
  pub root_payer : Holds (two 1) × Fails (two 2)
  pub root_kind : Fails (with_root (entry Frame 1 0 the_root.account)) × Fails (record { next = 2; rows = row 1 (plain Frame 1 0) ∷ [] })
  -- "other payers are live budgets of lower id": budget 3 pays for itself, then for the Frame, 2
  pub payer_lower : Fails (four 5 (root 10_000_000 12_416 5_000_000 0 4_096 0) frame (budget 3 192) notification)
      × Fails (four 5 (root 10_000_000 12_416 5_000_000 4_000_000 128 8_192) (plain Frame 3 4_096) (budget 1 4_160) notification)
  -- the payer is the budget, then the Frame, then missing
  pub payer_budget : Holds (with_fourth (plain Notification 3 0)) × Fails (with_fourth (plain Notification 2 0)) × Fails (with_fourth (plain Notification 0 0))
  -- "used equals the charges it pays"
  pub used : Fails (with_root (root 10_000_000 12_417 5_000_000 4_000_000 4_225 8_192)) × Fails (with_root (root 10_000_000 12_416 5_000_000 4_000_000 4_223 8_192))
      × Fails (four 5 the_root frame (budget 1 65) notification)
  -- "reservations equal its live children's limits, the root not being its own child"
  pub memory_reserved : Fails (with_root (root 10_000_000 12_417 5_000_000 4_000_000 4_224 8_193))
      × Fails (with_root (root 10_000_000 12_416 5_000_000 4_000_000 4_224 8_191))
  pub cpu_reserved : Fails (with_root (root 10_000_000 12_416 5_000_000 4_000_001 4_224 8_192))
      × Fails (with_root (root 10_000_000 12_416 5_000_000 3_999_999 4_224 8_192))
  pub own_child : Fails (record { next = 2; rows = row 1 (root 5 0 0 5 0 0) ∷ [] }) × Fails (record { next = 2; rows = row 1 (root 0 5 0 0 0 5) ∷ [] })
  -- "used + reserved ≤ memory limit": 4,224 and 8,192
  pub memory : Holds (with_root (root 10_000_000 12_416 5_000_000 4_000_000 4_224 8_192)) × Fails (with_root (root 10_000_000 12_415 5_000_000 4_000_000 4_224 8_192))
  -- "CPU left + CPU reserved ≤ allowance ≤ period"
  pub cpu : Holds (with_root (root 10_000_000 12_416 6_000_000 4_000_000 4_224 8_192)) × Fails (with_root (root 10_000_000 12_416 6_000_001 4_000_000 4_224 8_192))
  pub allowance : Fails (with_root (root 10_000_001 12_416 5_000_000 4_000_000 4_224 8_192))
  -- "at most 512 objects"
  pub objects_513 : Fails (crowd 514 512)
  -- "ids rise and lie below the next id": exchanged, twice the same, the next id given
  pub rising : Holds (ids 2 3 4) × Fails (ids 3 2 4) × Fails (ids 2 2 4)
  pub below_next : Fails (four 4 the_root frame (budget 1 64) notification) × Holds (four 6 the_root frame (budget 1 64) notification)
  -- "entry 1 is a budget": there is none
  pub no_root : Fails (record { next = 1; rows = [] })

pub unsound_hold : Unsound
unfolding account.sound
unsound_hold = record {
  as_it_is = refl;
  opened = refl;
  kinds = (refl, refl);
  no_account = (refl, refl, refl);
  root_payer = (refl, refl);
  root_kind = (refl, refl);
  payer_lower = (refl, refl);
  payer_budget = (refl, refl, refl);
  used = (refl, refl, refl);
  memory_reserved = (refl, refl);
  cpu_reserved = (refl, refl);
  own_child = (refl, refl);
  memory = (refl, refl);
  cpu = (refl, refl);
  allowance = refl;
  objects_513 = refl;
  rising = (refl, refl, refl);
  below_next = (refl, refl);
  no_root = refl;
}
