-- Demand 2's "no added refusal", pinned: call by call which refusal numbers count as added, and lists of calls that meet none, so that demand 2 speaks of every
-- registry call and of each number that is the Rust's. Assumes nothing.
use Rattle.std.specs.Prelude.{◌≡◌, refl, Bool, true, false, cond, not, ◌&&◌, ◌||◌, List, [], ◌∷◌, ℕ, ◌<◌, eqb}
use Rattle.std.proofs.Common.{sym, ap, ◌∙◌, arith, ne_eqb, le-leb}
use Rattle.std.proofs.lemmas.Bool.{lt-leb, not-true}
use Rattle.carv_budget.specs.Account.{due, renew}
use Rattle.carv_budget.proofs.Laws.Account.{first, second}
use Rattle.carv_objects_spec.specs.Registry.{Registry, RegistryReply, opening}
use Rattle.carv_objects_spec.specs.Rust as rust
use Rattle.carv_objects_spec.specs.Book.{Call, create, insert, create_budget, charge_more, uncharge, remove, refill, charge_cpu, pays_for_anything, read_account, charge_of, read_totals}
use Rattle.carv_objects_spec.specs.Refused.{added}
use Rattle.carv_objects_spec.specs.Runs.{run, Numbered, numbers}
use Rattle.carv_objects_spec.specs.Demand2.{in_rust, is_added, compared_replies, rust_replies, NoneAdded}
use Rattle.carv_objects_spec.proofs.Laws.Demand2.{demand2}

-- Which numbers are added.

-- those from 0 to 14 that pass a test
abbrev pub passing : (ℕ → Bool) → List ℕ → List ℕ
passing p [] = []
passing p (n ∷ ns) = cond (p n) (n ∷ passing p ns) (passing p ns)

abbrev pub those : (ℕ → Bool) → List ℕ
those p = passing p (0 ∷ 1 ∷ 2 ∷ 3 ∷ 4 ∷ 5 ∷ 6 ∷ 7 ∷ 8 ∷ 9 ∷ 10 ∷ 11 ∷ 12 ∷ 13 ∷ 14 ∷ [])

-- "numbers marked +"
abbrev pub marked : List ℕ
marked = 1 ∷ 2 ∷ 3 ∷ 4 ∷ 5 ∷ 6 ∷ 11 ∷ []

pub create_added : (kind payer : ℕ) (backing : Bool) → those (is_added (create kind payer backing)) ≡ marked
create_added kind payer backing = refl

pub insert_added : (kind payer bytes : ℕ) → those (is_added (insert kind payer bytes)) ≡ marked
insert_added kind payer bytes = refl

pub create_budget_added : (parent cpu memory time : ℕ) → those (is_added (create_budget parent cpu memory time)) ≡ marked
create_budget_added parent cpu memory time = refl

pub charge_more_added : (i bytes : ℕ) → those (is_added (charge_more i bytes)) ≡ marked
charge_more_added i bytes = refl

-- "for a missing id, where the Rust says nothing, 7, there an added refusal"
pub uncharge_added : (i bytes : ℕ) → those (is_added (uncharge i bytes)) ≡ 1 ∷ 2 ∷ 3 ∷ 4 ∷ 5 ∷ 6 ∷ 7 ∷ 11 ∷ []
uncharge_added i bytes = refl

pub remove_added : (i time : ℕ) → those (is_added (remove i time)) ≡ marked
remove_added i time = refl

pub refill_added : (i time : ℕ) → those (is_added (refill i time)) ≡ marked
refill_added i time = refl

pub charge_cpu_added : (i ns time : ℕ) → those (is_added (charge_cpu i ns time)) ≡ marked
charge_cpu_added i ns time = refl

pub pays_for_anything_added : (i : ℕ) → those (is_added (pays_for_anything i)) ≡ marked
pays_for_anything_added i = refl

pub read_account_added : (i : ℕ) → those (is_added (read_account i)) ≡ marked
read_account_added i = refl

pub charge_of_added : (i : ℕ) → those (is_added (charge_of i)) ≡ marked
charge_of_added i = refl

pub read_totals_added : (i : ℕ) → those (is_added (read_totals i)) ≡ marked
read_totals_added i = refl

-- and no number above 14
above_14 : (n : ℕ) → 14 < n → added n ≡ false
above_14 n h = rw (le-leb 1 n (omega arith), lt-leb n 6 (omega arith), ne_eqb n 11 (λ q. omega arith))

pub no_more_added : (c : Call) (n : ℕ) → 14 < n → is_added c n ≡ false
no_more_added (create kind payer backing) n h = above_14 n h
no_more_added (insert kind payer bytes) n h = above_14 n h
no_more_added (create_budget parent cpu memory time) n h = above_14 n h
no_more_added (charge_more i bytes) n h = above_14 n h
no_more_added (uncharge i bytes) n h = rw (above_14 n h, ne_eqb n 7 (λ q. omega arith))
no_more_added (remove i time) n h = above_14 n h
no_more_added (refill i time) n h = above_14 n h
no_more_added (charge_cpu i ns time) n h = above_14 n h
no_more_added (pays_for_anything i) n h = above_14 n h
no_more_added (read_account i) n h = above_14 n h
no_more_added (charge_of i) n h = above_14 n h
no_more_added (read_totals i) n h = above_14 n h

-- Lists of calls that meet none.

-- a call and the number that it is to answer
infix 70 ◌answers◌
abbrev pub ◌answers◌ : Call → ℕ → Numbered
◌answers◌ c n = record { call = c; number = n }

abbrev pub calls_of : List Numbered → List Call
calls_of [] = []
calls_of (n ∷ ns) = n.call ∷ calls_of ns

-- the numbers alone, and those of replies
abbrev pub told : List Numbered → List ℕ
told [] = []
told (n ∷ ns) = n.number ∷ told ns

abbrev pub numbers_in : List RegistryReply → List ℕ
numbers_in [] = []
numbers_in (x ∷ xs) = x.number ∷ numbers_in xs

-- on an opening each call answers its number, and none of these is an added refusal; so demand 2 says that each answer and state is the Rust's
pub record Meets (cpu memory : ℕ) (ns : List Numbered) : Type 0 where
  pub numbered : numbers (calls_of ns) (opening cpu memory) ≡ ns
  pub none : NoneAdded (calls_of ns) (opening cpu memory)
  pub as_rust : compared_replies (calls_of ns) (opening cpu memory) ≡ rust_replies (calls_of ns) (rust.new cpu memory)
  pub rust_numbered : numbers_in (rust_replies (calls_of ns) (rust.new cpu memory)) ≡ told ns

-- 01's marked cases but the uncharge of 4,097, which 11 refuses
abbrev pub frames : List Numbered
frames =
    create 3 1 true answers 0 ∷ create_budget 1 4_000_000 8_192 0 answers 0 ∷ create_budget 1 6_000_001 0 0 answers 12 ∷ create_budget 1 6_000_000 0 0 answers 0
    ∷ create 3 3 true answers 0 ∷ create 3 3 true answers 0 ∷ create 4 3 true answers 12
    ∷ remove 3 0 answers 10 ∷ remove 5 0 answers 0 ∷ remove 6 0 answers 0 ∷ remove 3 0 answers 0
    ∷ uncharge 2 4_096 answers 0 ∷ []

abbrev pub renewals : List Numbered
renewals = charge_cpu 1 9_700_000 0 answers 0 ∷ refill 1 9_999_999 answers 0 ∷ refill 1 25_000_000 answers 0 ∷ []

-- "Root memory 127, carve 0 and 0: 12, no renewal. Memory 128, carve 0 and 1: 12, renewed if due": the carve-out's memory
abbrev pub carve : (memory : ℕ) → List Numbered
carve memory = charge_cpu 1 9_700_000 0 answers 0 ∷ create_budget 1 0 memory 25_000_000 answers 12 ∷ []

-- each call with each number that it has from the Rust. Budget 2 has 1,000 ns and 64 bytes
abbrev pub every : List Numbered
every =
    create_budget 1 1_000 64 0 answers 0 ∷ create_budget 9 0 0 0 answers 7 ∷ create_budget 2 0 0 0 answers 12
    ∷ create_budget 1 10_000_000 0 0 answers 12 ∷ create_budget 1 0 1_000_000 0 answers 12
    ∷ create 2 1 true answers 0 ∷ create 5 9 true answers 7 ∷ create 4 2 true answers 12 ∷ create 1 1 true answers 13 ∷ create 3 1 false answers 14
    ∷ insert 1 2 64 answers 0 ∷ insert 1 9 0 answers 7 ∷ insert 9 2 1 answers 12
    ∷ charge_more 3 1 answers 0 ∷ charge_more 9 1 answers 7 ∷ charge_more 4 1 answers 12
    ∷ uncharge 4 64 answers 0
    ∷ pays_for_anything 2 answers 0 ∷ pays_for_anything 9 answers 0
    ∷ remove 9 0 answers 7 ∷ remove 1 0 answers 9 ∷ remove 2 0 answers 10 ∷ remove 4 0 answers 0 ∷ remove 2 0 answers 0
    ∷ refill 1 10_000_000 answers 0 ∷ refill 3 0 answers 7
    ∷ charge_cpu 1 10_000_000 0 answers 0 ∷ charge_cpu 3 0 0 answers 7 ∷ charge_cpu 1 1 0 answers 12
    ∷ read_account 1 answers 0 ∷ read_account 3 answers 7
    ∷ charge_of 3 answers 0 ∷ charge_of 9 answers 7 ∷ []

-- is none of these added?
abbrev clear : List Numbered → Bool
clear [] = true
clear (n ∷ ns) = not (is_added n.call n.number) && clear ns

clear_none : (cs : List Call) (r : Registry) → clear (numbers cs r) ≡ true → NoneAdded cs r
clear_none [] r h = tt
clear_none (c ∷ cs) r h =
    let a = is_added c (run c r).number in
    (not-true a (first (not a) _ h), clear_none cs (run c r).after (second (not a) _ h))

-- has the Rust a method for each?
abbrev all_in_rust : List Call → Bool
all_in_rust [] = true
all_in_rust (c ∷ cs) = in_rust c && all_in_rust cs

replied : (cs : List Call) (r : Registry) → all_in_rust cs ≡ true → numbers_in (compared_replies cs r) ≡ told (numbers cs r)
replied [] r h = refl
replied (c ∷ cs) r h = rw (first (in_rust c) _ h) (ap (λ (l : List ℕ). (run c r).number ∷ l) (replied cs (run c r).after (second (in_rust c) _ h)))

meets : (memory : ℕ) (ns : List Numbered) → numbers (calls_of ns) (opening 10_000_000 memory) ≡ ns → clear ns ≡ true → all_in_rust (calls_of ns) ≡ true → Meets 10_000_000 memory ns
meets memory ns a h all =
    let n = clear_none (calls_of ns) (opening 10_000_000 memory) (ap clear a ∙ h) in
    let same = demand2 10_000_000 memory (omega arith) (calls_of ns) n in
    record { numbered = a; none = n; as_rust = same; rust_numbered = sym (ap numbers_in same) ∙ replied (calls_of ns) (opening 10_000_000 memory) all ∙ ap told a }

pub frames_meet : Meets 10_000_000 1_000_000 frames
unfolding due renew
frames_meet = meets 1_000_000 frames refl refl refl

pub renewals_meet : Meets 10_000_000 1_000_000 renewals
unfolding due renew
renewals_meet = meets 1_000_000 renewals refl refl refl

pub carve_127_meets : Meets 10_000_000 127 (carve 0)
unfolding due renew
carve_127_meets = meets 127 (carve 0) refl refl refl

pub carve_128_meets : Meets 10_000_000 128 (carve 1)
unfolding due renew
carve_128_meets = meets 128 (carve 1) refl refl refl

pub every_meets : Meets 10_000_000 1_000_000 every
unfolding due renew
every_meets = meets 1_000_000 every refl refl refl

-- Lists with calls that the Rust lacks, accepted and refused: demand 2 goes on through them. Budget 2 is carved and charged, and the Rust's registry stays for each reading.
abbrev pub readings : List Numbered
readings =
    create_budget 1 1_000 64 0 answers 0 ∷ read_totals 2 answers 0 ∷ read_totals 9 answers 7 ∷ charge_more 2 1 answers 0 ∷ read_totals 1 answers 0
    ∷ remove 2 0 answers 0 ∷ read_totals 2 answers 7 ∷ remove 2 0 answers 7 ∷ []

pub record ReadingsMeet : Type 0 where
  pub numbered : numbers (calls_of readings) (opening 10_000_000 1_000_000) ≡ readings
  pub none : NoneAdded (calls_of readings) (opening 10_000_000 1_000_000)
  pub as_rust : compared_replies (calls_of readings) (opening 10_000_000 1_000_000) ≡ rust_replies (calls_of readings) (rust.new 10_000_000 1_000_000)
  pub rust_numbered : numbers_in (rust_replies (calls_of readings) (rust.new 10_000_000 1_000_000)) ≡ 0 ∷ 0 ∷ 0 ∷ 0 ∷ 0 ∷ 0 ∷ 0 ∷ 7 ∷ []

pub readings_meet : ReadingsMeet
unfolding due renew
readings_meet =
    let a : numbers (calls_of readings) (opening 10_000_000 1_000_000) ≡ readings = refl in
    let n = clear_none (calls_of readings) (opening 10_000_000 1_000_000) (ap clear a) in
    let same = demand2 10_000_000 1_000_000 (omega arith) (calls_of readings) n in
    record { numbered = a; none = n; as_rust = same; rust_numbered = sym (ap numbers_in same) }

-- `every` meets each call, and of each call these numbers: 0 and those of 01's questions before it that are not marked +, but 15, which P12 drops.

-- which call it is
abbrev which : Call → ℕ
which (create kind payer backing) = 0
which (insert kind payer bytes) = 1
which (create_budget parent cpu memory time) = 2
which (charge_more i bytes) = 3
which (uncharge i bytes) = 4
which (remove i time) = 5
which (refill i time) = 6
which (charge_cpu i ns time) = 7
which (pays_for_anything i) = 8
which (read_account i) = 9
which (charge_of i) = 10
which (read_totals i) = 11

abbrev pub rust_numbers : Call → List ℕ
rust_numbers (create kind payer backing) = 0 ∷ 7 ∷ 12 ∷ 13 ∷ 14 ∷ []
rust_numbers (insert kind payer bytes) = 0 ∷ 7 ∷ 12 ∷ []
rust_numbers (create_budget parent cpu memory time) = 0 ∷ 7 ∷ 12 ∷ []
rust_numbers (charge_more i bytes) = 0 ∷ 7 ∷ 12 ∷ []
rust_numbers (uncharge i bytes) = 0 ∷ []
rust_numbers (remove i time) = 0 ∷ 7 ∷ 9 ∷ 10 ∷ []
rust_numbers (refill i time) = 0 ∷ 7 ∷ []
rust_numbers (charge_cpu i ns time) = 0 ∷ 7 ∷ 12 ∷ []
rust_numbers (pays_for_anything i) = 0 ∷ []
rust_numbers (read_account i) = 0 ∷ 7 ∷ []
rust_numbers (charge_of i) = 0 ∷ 7 ∷ []
rust_numbers (read_totals i) = []

-- does a list have call c with number n?
abbrev pub has_answer : Call → List Numbered → ℕ → Bool
has_answer c [] n = false
has_answer c (m ∷ ms) n = (eqb (which m.call) (which c) && eqb m.number n) || has_answer c ms n

pub every_call_met : (c : Call) → those (has_answer c every) ≡ rust_numbers c
every_call_met (create kind payer backing) = refl
every_call_met (insert kind payer bytes) = refl
every_call_met (create_budget parent cpu memory time) = refl
every_call_met (charge_more i bytes) = refl
every_call_met (uncharge i bytes) = refl
every_call_met (remove i time) = refl
every_call_met (refill i time) = refl
every_call_met (charge_cpu i ns time) = refl
every_call_met (pays_for_anything i) = refl
every_call_met (read_account i) = refl
every_call_met (charge_of i) = refl
every_call_met (read_totals i) = refl

-- The calls that the Rust lacks, and no others: P1's totals.
pub lacked : (c : Call) → in_rust c ≡ not (eqb (which c) 11)
lacked (create kind payer backing) = refl
lacked (insert kind payer bytes) = refl
lacked (create_budget parent cpu memory time) = refl
lacked (charge_more i bytes) = refl
lacked (uncharge i bytes) = refl
lacked (remove i time) = refl
lacked (refill i time) = refl
lacked (charge_cpu i ns time) = refl
lacked (pays_for_anything i) = refl
lacked (read_account i) = refl
lacked (charge_of i) = refl
lacked (read_totals i) = refl
