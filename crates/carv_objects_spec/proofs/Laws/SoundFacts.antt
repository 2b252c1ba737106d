-- Document 01's soundness, for objects, as a record of facts. proofs/Laws/SoundLaws.antt shows that it says what the test of specs/Sound.antt says. Assumes nothing.
use Rattle.std.specs.Prelude.{◌≡◌, false, List, ℕ, ◌+◌, ◌≤◌, ◌<◌, length, Some}
use Rattle.carv_area.specs.Table.{Row, at, total, Rising}
use Rattle.carv_budget.specs.Account.{period, blank}
use Rattle.carv_objects_spec.specs.declared.kind.Kind.TheVariants.{Budget}
use Rattle.carv_objects_spec.specs.Kinds.{is_budget_kind}
use Rattle.carv_objects_spec.specs.declared.Entry.{Entry}
use Rattle.carv_objects_spec.specs.Registry.{Registry}
use Rattle.carv_objects_spec.specs.Sound.{kind_at, charge_by, memory_by, cpu_by}

-- entry i, e, of the rows m
pub record SoundEntry (m : List (Row Entry)) (i : ℕ) (e : Entry) : Type 0 where
  pub plain : is_budget_kind e.kind ≡ false → e.account ≡ blank
  pub root : i ≡ 1 → (e.kind ≡ Budget) × (e.payer ≡ 1)
  pub lower : (i ≡ 1 → ⊥) → e.payer < i
  pub paid : kind_at m e.payer ≡ Budget
  pub used : e.account.memory_used ≡ total (charge_by i) m
  pub memory_reserved : e.account.memory_reserved ≡ total (memory_by i) m
  pub cpu_reserved : e.account.cpu_reserved ≡ total (cpu_by i) m
  pub memory : e.account.memory_used + e.account.memory_reserved ≤ e.account.memory_limit
  pub cpu : e.account.cpu_left + e.account.cpu_reserved ≤ e.account.cpu_allowance
  pub share : e.account.cpu_allowance ≤ period

pub record Sound (r : Registry) : Type 0 where
  pub few : length r.rows ≤ 512
  pub rising : Rising 1 r.next r.rows
  pub root : kind_at r.rows 1 ≡ Budget
  pub each : (i : ℕ) (e : Entry) → at r.rows i ≡ Some e → SoundEntry r.rows i e
