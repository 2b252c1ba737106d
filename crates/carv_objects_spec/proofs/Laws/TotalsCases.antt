-- P1 on a tree of budgets four levels deep, written out: the definitions compute these figures. Assumes nothing.
use Rattle.std.specs.Prelude.{◌≡◌, refl, Bool, true, false, not, ◌&&◌, List, [], ◌∷◌, ℕ, eqb, Option, Some, None}
use Rattle.carv_area.specs.Table.{Row}
use Rattle.carv_budget.specs.Account as account
use Rattle.carv_objects_spec.specs.declared.kind.Kind.TheVariants.{Frame, Budget}
use Rattle.carv_objects_spec.specs.declared.Entry.{Entry}
use Rattle.carv_objects_spec.specs.declared.Totals.{Totals}
use Rattle.carv_objects_spec.specs.Reply.{Value, id, renewed, pays, of_account, charge, of_totals}
use Rattle.carv_objects_spec.specs.Registry.{Registry, RegistryReply, opening}
use Rattle.carv_objects_spec.specs.Book as book
use Rattle.carv_objects_spec.specs.Book.{Book, Call, create, create_budget, charge_cpu, remove}
use Rattle.carv_objects_spec.specs.BookTotals.{totals_of}
use Rattle.carv_objects_spec.specs.Runs.{run, after, Numbered, write_all}
use Rattle.carv_objects_spec.specs.Sound.{all, sound}
use Rattle.carv_objects_spec.specs.Within.{within}
use Rattle.carv_objects_spec.specs.Totals.{over_all, used, free, left}

-- a budget's row; and that of a Frame
abbrev budget : (i payer bytes allowance limit left cpu_reserved used memory_reserved : ℕ) → Row Entry
budget i payer bytes allowance limit left cpu_reserved used memory_reserved = record {
  id = i;
  it = record {
    kind = Budget;
    payer = payer;
    charge = bytes;
    account = record {
      cpu_allowance = allowance;
      memory_limit = limit;
      period_start = 0;
      cpu_left = left;
      cpu_reserved = cpu_reserved;
      memory_used = used;
      memory_reserved = memory_reserved;
    };
  };
}

abbrev frame : (i payer : ℕ) → Row Entry
frame i payer = record { id = i; it = record { kind = Frame; payer = payer; charge = 4_096; account = account.blank } }

-- The root, 1, with 10 ms and 1,000,000 bytes; a Frame of it, 2; budget 3 carved from 1, with 4 ms and 20,000 bytes; budget 4 carved from 3, with 1 ms and 8,192 bytes; a Frame
-- of 4, 5; budget 6 carved from 1, with 2 ms and 1,000 bytes; budget 7 carved from 4, with 0.5 ms and 2,000 bytes, of which 0.2 ms are charged.
abbrev tree : Registry
tree = record {
  next = 8;
  rows = budget 1 1 0 10_000_000 1_000_000 4_000_000 6_000_000 4_352 21_000 ∷ frame 2 1
      ∷ budget 3 1 128 4_000_000 20_000 3_000_000 1_000_000 128 8_192 ∷ budget 4 3 128 1_000_000 8_192 500_000 500_000 4_224 2_000 ∷ frame 5 4
      ∷ budget 6 1 128 2_000_000 1_000 2_000_000 0 0 0 ∷ budget 7 4 128 500_000 2_000 300_000 0 0 0 ∷ [];
}

-- without 7: its bytes are back, its CPU time at the next renewal only
abbrev pruned : Registry
pruned = record {
  next = 8;
  rows = budget 1 1 0 10_000_000 1_000_000 4_000_000 6_000_000 4_352 21_000 ∷ frame 2 1
      ∷ budget 3 1 128 4_000_000 20_000 3_000_000 1_000_000 128 8_192 ∷ budget 4 3 128 1_000_000 8_192 500_000 0 4_096 0 ∷ frame 5 4
      ∷ budget 6 1 128 2_000_000 1_000 2_000_000 0 0 0 ∷ [];
}

-- seven budgets, each carved from the one before it
abbrev chain : Registry
chain = record {
  next = 8;
  rows = budget 1 1 0 0 0 0 0 0 0 ∷ budget 2 1 0 0 0 0 0 0 0 ∷ budget 3 2 0 0 0 0 0 0 0 ∷ budget 4 3 0 0 0 0 0 0 0 ∷ budget 5 4 0 0 0 0 0 0 0 ∷ budget 6 5 0 0 0 0 0 0 0
      ∷ budget 7 6 0 0 0 0 0 0 0 ∷ [];
}

abbrev calls : List Call
calls =
    create 3 1 true ∷ create_budget 1 4_000_000 20_000 0 ∷ create_budget 3 1_000_000 8_192 0 ∷ create 3 4 true ∷ create_budget 1 2_000_000 1_000 0
    ∷ create_budget 4 500_000 2_000 0 ∷ charge_cpu 7 200_000 0 ∷ []

-- the book after these calls, all of them accepted, and after the removal of 7
abbrev accepted_all : List Call → List Numbered
accepted_all [] = []
accepted_all (c ∷ cs) = record { call = c; number = 0 } ∷ accepted_all cs

abbrev booked : Book
booked = write_all (accepted_all calls) (book.opening 10_000_000 1_000_000)

abbrev booked_pruned : Book
booked_pruned = write_all (accepted_all (remove 7 0 ∷ [])) booked

-- accepted, with these figures
abbrev figures_are : (used free left : ℕ) → Totals → Bool
figures_are u f l t = eqb t.memory_used u && eqb t.memory_free f && eqb t.cpu_left l

abbrev are : (used free left : ℕ) → Option Value → Bool
are u f l None = false
are u f l (Some (id i)) = false
are u f l (Some (renewed b)) = false
are u f l (Some (pays b)) = false
are u f l (Some (of_account a)) = false
are u f l (Some (charge p n)) = false
are u f l (Some (of_totals t)) = figures_are u f l t

abbrev Reads : RegistryReply → (used free left : ℕ) → Type 0
Reads z u f l = (eqb z.number 0 && are u f l z.value) ≡ true

pub record Cases : Type 0 where
  pub made : after calls (opening 10_000_000 1_000_000) ≡ tree
  pub cut : after (remove 7 0 ∷ []) tree ≡ pruned
  pub sound : all (sound tree ∷ sound pruned ∷ []) ≡ true
  -- a budget with none below it; one that pays 4,096 and 128 bytes; one two levels up, which pays 128; one beside them; the root, which pays 4,096 and twice 128
  pub leaf : Reads (run (book.read_totals 7) tree) 0 2_000 300_000
  pub inner : Reads (run (book.read_totals 4) tree) 4_224 3_968 800_000
  pub upper : Reads (run (book.read_totals 3) tree) 4_352 15_648 3_800_000
  pub beside : Reads (run (book.read_totals 6) tree) 0 1_000 2_000_000
  pub root : Reads (run (book.read_totals 1) tree) 8_704 991_296 9_800_000
  pub all_live : (over_all used tree ≡ 8_704) × (over_all free tree ≡ 991_296) × (over_all left tree ≡ 9_800_000)
  -- budget 7 removed
  pub inner_pruned : Reads (run (book.read_totals 4) pruned) 4_096 4_096 500_000
  pub upper_pruned : Reads (run (book.read_totals 3) pruned) 4_224 15_776 3_500_000
  pub root_pruned : Reads (run (book.read_totals 1) pruned) 8_576 991_424 9_500_000
  pub removed : (run (book.read_totals 7) pruned).number ≡ 7
  -- the same by the book
  pub by_book : all (figures_are 0 2_000 300_000 (totals_of booked 7) ∷ figures_are 4_224 3_968 800_000 (totals_of booked 4) ∷ figures_are 4_352 15_648 3_800_000 (totals_of booked 3)
      ∷ figures_are 0 1_000 2_000_000 (totals_of booked 6) ∷ figures_are 8_704 991_296 9_800_000 (totals_of booked 1) ∷ []) ≡ true
  pub by_book_pruned : all (figures_are 4_096 4_096 500_000 (totals_of booked_pruned 4) ∷ figures_are 4_224 15_776 3_500_000 (totals_of booked_pruned 3)
      ∷ figures_are 8_576 991_424 9_500_000 (totals_of booked_pruned 1) ∷ []) ≡ true
  -- a Frame and an id that was never given
  pub no_budget : ((run (book.read_totals 5) tree).number ≡ 7) × ((run (book.read_totals 9) tree).number ≡ 7)
  -- within: each within itself, its payer and so on up to the root; not the other way, and not beside
  pub up : all (within tree 7 7 ∷ within tree 4 7 ∷ within tree 3 7 ∷ within tree 1 7 ∷ within tree 4 5 ∷ within tree 3 5 ∷ within tree 1 6 ∷ within tree 1 1 ∷ []) ≡ true
  pub not_down : all (not (within tree 7 4) ∷ not (within tree 4 3) ∷ not (within tree 3 1) ∷ not (within tree 5 4) ∷ []) ≡ true
  pub all_the_way : all (within chain 1 7 ∷ within chain 2 7 ∷ within chain 3 7 ∷ within chain 1 6 ∷ not (within chain 7 1) ∷ not (within chain 4 3) ∷ []) ≡ true
  pub not_beside : all (not (within tree 6 7) ∷ not (within tree 6 3) ∷ not (within tree 3 6) ∷ not (within tree 3 2) ∷ not (within tree 9 7) ∷ []) ≡ true

pub cases_hold : Cases
unfolding account.renew account.due account.sound
cases_hold = record {
  made = refl;
  cut = refl;
  sound = refl;
  leaf = refl;
  inner = refl;
  upper = refl;
  beside = refl;
  root = refl;
  all_live = (refl, refl, refl);
  inner_pruned = refl;
  upper_pruned = refl;
  root_pruned = refl;
  removed = refl;
  by_book = refl;
  by_book_pruned = refl;
  no_budget = (refl, refl);
  up = refl;
  not_down = refl;
  all_the_way = refl;
  not_beside = refl;
}
