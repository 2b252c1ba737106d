-- Document 01's book, its half for the registry: what demand 3's figures are worked from. It is fed each call's arguments and its refusal number (0: accepted),
-- and never sees the registry. Assumes nothing.
use Rattle.std.specs.Prelude.{Bool, true, false, cond, ◌&&◌, List, [], ◌∷◌, ◌++◌, ℕ, suc, ◌+◌, ◌-◌, ◌%◌, ◌≤◌, eqb, leb, Option, Some, None}
use Rattle.carv_area.specs.Table.{Row, at, alter, erase}
use Rattle.carv_budget.specs.Account.{period}
use Rattle.carv_objects_spec.specs.Kinds.{kind_of, bytes_of}

-- "objects with payer and charge"
pub record Object : Type 0 where
  pub payer : ℕ
  pub charge : ℕ

-- "live budgets (the root and those carved, not removed) with limits, start and figures": the sums that the figures are worked from
pub record Budget : Type 0 where
  pub cpu_allowance : ℕ
  pub memory_limit : ℕ
  pub start : ℕ
  pub charged : ℕ  -- bytes charged to it
  pub credited : ℕ  -- bytes credited to it
  pub carved_memory : ℕ  -- bytes carved out of it
  pub returned_memory : ℕ  -- bytes that removed children returned to it
  pub carved_cpu : ℕ  -- the same two for CPU time
  pub returned_cpu : ℕ
  pub noted_cpu : ℕ  -- CPU reserved at its last renewal
  pub taken_cpu : ℕ  -- CPU time charged to it and carved out of it since

-- "the next id, objects .., live budgets .."
pub record Book : Type 0 where
  pub next : ℕ
  pub objects : List (Row Object)
  pub budgets : List (Row Budget)

-- The four figures.

abbrev pub memory_used : Budget → ℕ
memory_used b = b.charged - b.credited

abbrev pub memory_reserved : Budget → ℕ
memory_reserved b = b.carved_memory - b.returned_memory

abbrev pub cpu_reserved : Budget → ℕ
cpu_reserved b = b.carved_cpu - b.returned_cpu

-- the fourth: CPU left
abbrev pub cpu_left : Budget → ℕ
cpu_left b = b.cpu_allowance - b.noted_cpu - b.taken_cpu

pub record Figures : Type 0 where
  pub memory_used : ℕ
  pub memory_reserved : ℕ
  pub cpu_reserved : ℕ
  pub cpu_left : ℕ

abbrev pub figures : Budget → Figures
figures b = record { memory_used = memory_used b; memory_reserved = memory_reserved b; cpu_reserved = cpu_reserved b; cpu_left = cpu_left b }

-- The figures are true differences: ℕ's `-` cuts nothing off at 0.
pub record Differences (b : Budget) : Type 0 where
  pub credited_charged : b.credited ≤ b.charged
  pub memory_returned_carved : b.returned_memory ≤ b.carved_memory
  pub cpu_returned_carved : b.returned_cpu ≤ b.carved_cpu
  pub cpu_gone_allowed : b.noted_cpu + b.taken_cpu ≤ b.cpu_allowance

-- memory free by the book
abbrev pub free : Budget → ℕ
free b = b.memory_limit - memory_reserved b - memory_used b

-- "an opening or a carve-out counts as the new account's first renewal, with nothing reserved"
abbrev pub new_budget : (cpu memory start : ℕ) → Budget
new_budget cpu memory start = record {
  cpu_allowance = cpu;
  memory_limit = memory;
  start = start;
  charged = 0;
  credited = 0;
  carved_memory = 0;
  returned_memory = 0;
  carved_cpu = 0;
  returned_cpu = 0;
  noted_cpu = 0;
  taken_cpu = 0;
}

-- Reading. An id without an object or a live budget reads as zeros.

abbrev pub or_no_object : Option Object → Object
or_no_object None = record { payer = 0; charge = 0 }
or_no_object (Some o) = o

abbrev pub or_no_budget : Option Budget → Budget
or_no_budget None = new_budget 0 0 0
or_no_budget (Some b) = b

abbrev pub is_some : {A : Type 0} → Option A → Bool
is_some None = false
is_some (Some a) = true

abbrev pub object_of : Book → ℕ → Object
object_of k i = or_no_object (at k.objects i)

abbrev pub budget_of : Book → ℕ → Budget
budget_of k i = or_no_budget (at k.budgets i)

abbrev pub is_live : Book → ℕ → Bool
is_live k i = is_some (at k.budgets i)

-- What is written of a budget.

abbrev pub with_memory : Budget → (charged credited carved returned : ℕ) → Budget
with_memory b charged credited carved returned = record {
  cpu_allowance = b.cpu_allowance;
  memory_limit = b.memory_limit;
  start = b.start;
  charged = charged;
  credited = credited;
  carved_memory = carved;
  returned_memory = returned;
  carved_cpu = b.carved_cpu;
  returned_cpu = b.returned_cpu;
  noted_cpu = b.noted_cpu;
  taken_cpu = b.taken_cpu;
}

abbrev pub with_cpu : Budget → (start carved returned noted taken : ℕ) → Budget
with_cpu b start carved returned noted taken = record {
  cpu_allowance = b.cpu_allowance;
  memory_limit = b.memory_limit;
  start = start;
  charged = b.charged;
  credited = b.credited;
  carved_memory = b.carved_memory;
  returned_memory = b.returned_memory;
  carved_cpu = carved;
  returned_cpu = returned;
  noted_cpu = noted;
  taken_cpu = taken;
}

abbrev pub charge : ℕ → Budget → Budget
charge bytes b = with_memory b (b.charged + bytes) b.credited b.carved_memory b.returned_memory

abbrev pub credit : ℕ → Budget → Budget
credit bytes b = with_memory b b.charged (b.credited + bytes) b.carved_memory b.returned_memory

-- a renewal is due: "nothing if t < start or t − start < period"
abbrev pub due : ℕ → Budget → Bool
due time b = leb b.start time && leb period (time - b.start)

-- "a renewal due by the book's start notes CPU reserved and clears what was charged and carved"
abbrev pub renew : ℕ → Budget → Budget
renew time b =
    with_cpu b (cond (due time b) (time - (time - b.start) % period) b.start) b.carved_cpu b.returned_cpu
    (cond (due time b) (cpu_reserved b) b.noted_cpu)
    (cond (due time b) 0 b.taken_cpu)

-- the same where the test holds
abbrev pub renew_if : Bool → (time : ℕ) → Budget → Budget
renew_if c time b = cond c (renew time b) b

abbrev pub take_cpu : ℕ → Budget → Budget
take_cpu ns b = with_cpu b b.start b.carved_cpu b.returned_cpu b.noted_cpu (b.taken_cpu + ns)

abbrev pub carve : (cpu memory : ℕ) → Budget → Budget
carve cpu memory b =
    with_memory (with_cpu b b.start (b.carved_cpu + cpu) b.returned_cpu b.noted_cpu (b.taken_cpu + cpu)) b.charged b.credited
    (b.carved_memory + memory) b.returned_memory

-- a child's limits come back
abbrev pub return : Budget → Budget → Budget
return child b =
    with_memory (with_cpu b b.start b.carved_cpu (b.returned_cpu + child.cpu_allowance) b.noted_cpu b.taken_cpu) b.charged b.credited
    b.carved_memory (b.returned_memory + child.memory_limit)

-- What is written of the book.

abbrev pub on_budget : ℕ → (Budget → Budget) → Book → Book
on_budget i f k = record { next = k.next; objects = k.objects; budgets = alter i f k.budgets }

abbrev pub on_charge : ℕ → (ℕ → ℕ) → Book → Book
on_charge i f k = record { next = k.next; objects = alter i (λ o. record { payer = o.payer; charge = f o.charge }) k.objects; budgets = k.budgets }

abbrev pub add_object : (payer bytes : ℕ) → Book → Book
add_object payer bytes k =
    record { next = suc k.next; objects = k.objects ++ (record { id = k.next; it = record { payer = payer; charge = bytes } } ∷ []); budgets = k.budgets }

-- the budget that stands under the next id, before its object is added
abbrev pub add_budget : Budget → Book → Book
add_budget b k = record { next = k.next; objects = k.objects; budgets = k.budgets ++ (record { id = k.next; it = b } ∷ []) }

abbrev pub remove_object : ℕ → Book → Book
remove_object i k = record { next = k.next; objects = erase i k.objects; budgets = erase i k.budgets }

-- The calls of the registry. A kind is given by its code.
pub data Call : Type 0 where
  create : (kind payer : ℕ) (backing : Bool) → Call
  insert : (kind payer bytes : ℕ) → Call
  create_budget : (parent cpu memory time : ℕ) → Call
  charge_more : (i bytes : ℕ) → Call
  uncharge : (i bytes : ℕ) → Call
  remove : (i time : ℕ) → Call
  refill : (i time : ℕ) → Call
  charge_cpu : (i ns time : ℕ) → Call
  pays_for_anything : (i : ℕ) → Call
  read_account : (i : ℕ) → Call
  charge_of : (i : ℕ) → Call
  read_totals : (i : ℕ) → Call

-- what an accepted call writes
abbrev pub accepted : Call → Book → Book
accepted (create n payer backing) k = add_object payer (bytes_of (kind_of n)) (on_budget payer (charge (bytes_of (kind_of n))) k)
accepted (insert kind payer bytes) k = add_object payer bytes (on_budget payer (charge bytes) k)
accepted (create_budget parent cpu memory time) k =
    add_object parent 128 (add_budget (new_budget cpu memory (renew time (budget_of k parent)).start)
    (on_budget parent (λ b. carve cpu memory (charge 128 (renew time b))) k))
accepted (charge_more i bytes) k = on_charge i (λ c. c + bytes) (on_budget (object_of k i).payer (charge bytes) k)
accepted (uncharge i bytes) k = on_charge i (λ c. c - bytes) (on_budget (object_of k i).payer (credit bytes) k)
-- P2: "last renewal in the budget figures now includes these", the payer's where a live budget is removed
accepted (remove i time) k =
    on_budget (object_of k i).payer (λ b. credit (object_of k i).charge (return (budget_of k i) (renew_if (is_live k i) time b))) (remove_object i k)
accepted (refill i time) k = on_budget i (renew time) k
accepted (charge_cpu i ns time) k = on_budget i (λ b. take_cpu ns (renew time b)) k
accepted (pays_for_anything i) k = k
accepted (read_account i) k = k
accepted (charge_of i) k = k
accepted (read_totals i) k = k

-- "refused with 12, a CPU charge renews, as does a carve-out with at least 128 bytes free by the book"
abbrev pub refused_12 : Call → Book → Book
refused_12 (create kind payer backing) k = k
refused_12 (insert kind payer bytes) k = k
refused_12 (create_budget parent cpu memory time) k = cond (leb 128 (free (budget_of k parent))) (on_budget parent (renew time) k) k
refused_12 (charge_more i bytes) k = k
refused_12 (uncharge i bytes) k = k
refused_12 (remove i time) k = k
refused_12 (refill i time) k = k
refused_12 (charge_cpu i ns time) k = on_budget i (renew time) k
refused_12 (pays_for_anything i) k = k
refused_12 (read_account i) k = k
refused_12 (charge_of i) k = k
refused_12 (read_totals i) k = k

-- "other refusals move nothing"
abbrev pub write : Call → (number : ℕ) → Book → Book
write c number k = cond (eqb number 0) (accepted c k) (cond (eqb number 12) (refused_12 c k) k)

-- "the next id .., the root": the book at an opening
abbrev pub opening : (cpu memory : ℕ) → Book
opening cpu memory = record {
  next = 2;
  objects = record { id = 1; it = record { payer = 1; charge = 0 } } ∷ [];
  budgets = record { id = 1; it = new_budget cpu memory 0 } ∷ [];
}
