-- What question 1's walk over the rows knows. w is the table's words, next the next id. Assumes nothing.
use Rattle.std.specs.Prelude.{◌≡◌, Bool, true, false, ◌&&◌, List, ℕ, ◌+◌, ◌-◌, ◌*◌, ◌≤◌, ◌<◌, eqb, map, length, get_or, drop, Option, Some, None}
use Rattle.carv_area.specs.Table.{total}
use Rattle.carv_area.specs.Lists.{tab}
use Rattle.carv_area.specs.Zero.{all_zero}
use Rattle.carv_budget.specs.declared.Account.{Account}
use Rattle.carv_budget.specs.Account as account
use Rattle.carv_objects_spec.specs.declared.Entry.{Entry}
use Rattle.carv_objects_spec.specs.declared.kind.Kind.TheVariants.{Budget}
use Rattle.carv_objects_spec.specs.Kinds.{listed, is_budget_kind}
use Rattle.carv_objects_spec.specs.Sound.{charge_by, memory_by, cpu_by}
use Rattle.carv_objects.specs.declared.sound.Figures.{Figures}
use Rattle.carv_objects.specs.Area.{kind_word, row_at}

-- the answer r says whether P
pub record Tells (r : Bool) (P : Type 0) : Type 0 where
  pub so : r ≡ true → P
  pub not : r ≡ false → P → ⊥

-- the id and the entry at place i
abbrev pub id_at : List ℕ → ℕ → ℕ
id_at w i = (row_at w i).id

abbrev pub entry_at : List ℕ → ℕ → Entry
entry_at w i = (row_at w i).it

-- what an entry must be by itself, whose kind is stored as this code. Where it is no budget, the other figures of its account are below these three
pub record Plain (code : ℕ) (e : Entry) : Type 0 where
  pub named : listed code ≡ true
  pub sound : account.sound e.account ≡ true
  pub no_cpu : is_budget_kind e.kind ≡ false → e.account.cpu_allowance ≡ 0
  pub no_memory : is_budget_kind e.kind ≡ false → e.account.memory_limit ≡ 0
  pub no_start : is_budget_kind e.kind ≡ false → e.account.period_start ≡ 0

-- row i stands behind the one before it, and row j, a budget, pays for it
pub record Paid (w : List ℕ) (next i j : ℕ) : Type 0 where
  pub below : id_at w i < next
  pub kind : (entry_at w j).kind ≡ Budget
  pub payer : (entry_at w i).payer ≡ id_at w j
  pub first : i ≡ 0 → (id_at w i ≡ 1) × (j ≡ i)
  pub later : (h : ℕ) → h + 1 ≡ i → (id_at w h < id_at w i) × (j < i)

-- the rows below i have rising ids
abbrev pub Rise : List ℕ → ℕ → Type 0
Rise w i = (j k : ℕ) → j < k → k < i → id_at w j < id_at w k

-- what is found is the place below i with the id p
abbrev pub Place : List ℕ → (i p : ℕ) → Option ℕ → Type 0
Place w i p (Some r) = (r < i) × (id_at w r ≡ p)
Place w i p None = (j : ℕ) → j < i → id_at w j ≡ p → ⊥

-- what is found is the place of row i's payer, if row i fits
abbrev pub Owner : List ℕ → (next i : ℕ) → Option ℕ → Type 0
Owner w next i (Some r) = Paid w next i r
Owner w next i None = (j : ℕ) → Paid w next i j → ⊥

-- xs has, for each row below i, what is left of the figure f when the weights v of the rows below i are taken off; then zeros
pub record Left (v : ℕ → ℕ → Entry → ℕ) (f : Account → ℕ) (w : List ℕ) (i : ℕ) (xs : List ℕ) : Type 0 where
  pub size : length xs ≡ 512
  pub sum : (k : ℕ) → k < i → get_or xs k 0 + total (v (id_at w k)) (tab i (row_at w)) ≡ f (entry_at w k).account
  pub rest : (k : ℕ) → i ≤ k → get_or xs k 0 ≡ 0

-- the figures that are sums
abbrev pub used : Account → ℕ
used a = a.memory_used

abbrev pub memory_reserved : Account → ℕ
memory_reserved a = a.memory_reserved

abbrev pub cpu_reserved : Account → ℕ
cpu_reserved a = a.cpu_reserved

-- some row pays for row i
pub record Owned (w : List ℕ) (next i : ℕ) : Type 0 where
  pub place : ℕ
  pub is : Paid w next i place

-- the rows below i are in order
pub record Front (w : List ℕ) (next i : ℕ) : Type 0 where
  pub plain : (k : ℕ) → k < i → Plain (kind_word w k) (entry_at w k)
  pub paid : (k : ℕ) → k < i → Owned w next k

-- what is left of each of the three
abbrev pub left_used : List Figures → List ℕ
left_used fs = map (λ f. f.used) fs

abbrev pub left_memory : List Figures → List ℕ
left_memory fs = map (λ f. f.memory) fs

abbrev pub left_cpu : List Figures → List ℕ
left_cpu fs = map (λ f. f.cpu) fs

-- the walk has come to row i
pub record Walk (w : List ℕ) (next i : ℕ) (fs : List Figures) : Type 0 where
  pub front : Front w next i
  pub used : Left charge_by used w i (left_used fs)
  pub memory : Left memory_by memory_reserved w i (left_memory fs)
  pub cpu : Left cpu_by cpu_reserved w i (left_cpu fs)

-- each figure f of the first n rows is the sum of the weights v of these rows
abbrev pub Sums : (ℕ → ℕ → Entry → ℕ) → (Account → ℕ) → List ℕ → ℕ → Type 0
Sums v f w n = (k : ℕ) → k < n → total (v (id_at w k)) (tab n (row_at w)) ≡ f (entry_at w k).account

-- all rows are in order, and each budget's figures are the sums
pub record Whole (w : List ℕ) (next : ℕ) : Type 0 where
  pub some : 0 < get_or w 0 0
  pub front : Front w next (get_or w 0 0)
  pub used : Sums charge_by used w (get_or w 0 0)
  pub memory : Sums memory_by memory_reserved w (get_or w 0 0)
  pub cpu : Sums cpu_by cpu_reserved w (get_or w 0 0)

-- one turn of the walk
pub record Turned (w : List ℕ) (next i : ℕ) (r : Bool) (fs : List Figures) : Type 0 where
  pub on : r ≡ true → Walk w next (i + 1) fs
  pub off : r ≡ false → Whole w next → ⊥

-- what is left of f where g is taken off, if it can be
abbrev pub Lessened : (f g : Figures) → Option Figures → Type 0
Lessened f g (Some h) =
    (g.used ≤ f.used) × (g.memory ≤ f.memory) × (g.cpu ≤ f.cpu)
    × (h ≡ record { used = f.used - g.used; memory = f.memory - g.memory; cpu = f.cpu - g.cpu })
Lessened f g None = g.used ≤ f.used → g.memory ≤ f.memory → g.cpu ≤ f.cpu → ⊥

-- nothing is left
abbrev pub spent : Figures → Bool
spent f = eqb f.used 0 && (eqb f.memory 0 && eqb f.cpu 0)

-- r is what row i's payer reserves for it, x, but for the root
pub record ReservedFor (i x r : ℕ) : Type 0 where
  pub root : i ≡ 0 → r ≡ 0
  pub child : (i ≡ 0 → ⊥) → r ≡ x

-- what question 1 asks of the table's words
pub record SoundTable (w : List ℕ) (next : ℕ) : Type 0 where
  pub few : get_or w 0 0 ≤ 512
  pub rest : all_zero (drop (get_or w 0 0 * 11 + 1) w) ≡ true
  pub whole : Whole w next
