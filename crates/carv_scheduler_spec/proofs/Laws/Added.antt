-- Demand 2's "no added refusal", pinned: call by call which refusal numbers count as added, and lists of calls that meet none, so that demand 2 speaks of every call
-- of the board and of each number that is the Rust's. Assumes nothing.
use Rattle.std.specs.Prelude.{◌≡◌, refl, Bool, true, false, not, ◌&&◌, ◌||◌, List, [], ◌∷◌, ◌++◌, ℕ, ◌<◌, eqb}
use Rattle.std.proofs.Common.{sym, ap, ◌∙◌, true≢false, arith, ne_eqb, le-leb}
use Rattle.std.proofs.lemmas.Bool.{lt-leb, not-true}
use Rattle.carv_budget.specs.Account.{due, renew}
use Rattle.carv_budget.proofs.Laws.Account.{first, second}
use Rattle.carv_objects_spec.specs.Refused.{added}
use Rattle.carv_objects_spec.specs.Book as objects
use Rattle.carv_objects_spec.specs.Runs as registry_runs
use Rattle.carv_objects_spec.specs.Demand2 as registry_demand2
use Rattle.carv_objects_spec.proofs.Laws.Added as registry_added
use Rattle.carv_objects_spec.proofs.Laws.Added.{those, marked}
use Rattle.carv_scheduler_spec.specs.declared.Context.{Context}
use Rattle.carv_scheduler_spec.specs.declared.Results.{Results}
use Rattle.carv_scheduler_spec.specs.Scheduler.{Board, BoardReply, opening, fresh_context, results}
use Rattle.carv_scheduler_spec.specs.Rust as rust
use Rattle.carv_scheduler_spec.specs.Book.{Call, on_objects, create_user_thread, start, block_current, wake, is_blocked_on, kill, tick, plan, read_thread, read_current, read_switches, exit_of}
use Rattle.carv_scheduler_spec.specs.Runs.{run, Numbered, numbers, AllFit}
use Rattle.carv_scheduler_spec.specs.Demand2.{in_rust, is_added, compared_replies, rust_replies, NoneAdded}
use Rattle.carv_scheduler_spec.proofs.Laws.Demand2.{demand2}

-- Which numbers are added: `marked` are 1 to 6 and 11.

-- a registry call's are the registry's, which carv_objects_spec's file of this name pins
pub on_objects_added : (c : objects.Call) → those (is_added (on_objects c)) ≡ those (registry_demand2.is_added c)
on_objects_added c = refl

pub create_user_thread_added : (i budget : ℕ) (stack : Bool) → those (is_added (create_user_thread i budget stack)) ≡ marked
create_user_thread_added i budget stack = refl

pub start_added : (i space cspace root : ℕ) (context : Context) → those (is_added (start i space cspace root context)) ≡ marked
start_added i space cspace root context = refl

-- "Is a blocking thread Running and not idle? + 8"
pub block_current_added : (kind number : ℕ) → those (is_added (block_current kind number)) ≡ 1 ∷ 2 ∷ 3 ∷ 4 ∷ 5 ∷ 6 ∷ 8 ∷ 11 ∷ []
block_current_added kind number = refl

pub wake_added : (i : ℕ) (r : Results) → those (is_added (wake i r)) ≡ marked
wake_added i r = refl

pub is_blocked_on_added : (i kind number : ℕ) → those (is_added (is_blocked_on i kind number)) ≡ marked
is_blocked_on_added i kind number = refl

pub kill_added : (i cause : ℕ) → those (is_added (kill i cause)) ≡ marked
kill_added i cause = refl

pub tick_added : (n : ℕ) → those (is_added (tick n)) ≡ marked
tick_added n = refl

pub plan_added : (n : ℕ) → those (is_added (plan n)) ≡ marked
plan_added n = refl

pub read_thread_added : (i : ℕ) → those (is_added (read_thread i)) ≡ marked
read_thread_added i = refl

pub read_current_added : those (is_added read_current) ≡ marked
read_current_added = refl

pub read_switches_added : those (is_added read_switches) ≡ marked
read_switches_added = refl

pub exit_of_added : (i : ℕ) → those (is_added (exit_of i)) ≡ marked
exit_of_added i = refl

-- and no number above 14
above_14 : (n : ℕ) → 14 < n → added n ≡ false
above_14 n h = rw (le-leb 1 n (omega arith), lt-leb n 6 (omega arith), ne_eqb n 11 (λ q. omega arith))

pub no_more_added : (c : Call) (n : ℕ) → 14 < n → is_added c n ≡ false
no_more_added (on_objects c) n h = registry_added.no_more_added c n h
no_more_added (create_user_thread i budget stack) n h = above_14 n h
no_more_added (start i space cspace root context) n h = above_14 n h
no_more_added (block_current kind number) n h = rw (above_14 n h, ne_eqb n 8 (λ q. omega arith))
no_more_added (wake i r) n h = above_14 n h
no_more_added (is_blocked_on i kind number) n h = above_14 n h
no_more_added (kill i cause) n h = above_14 n h
no_more_added (tick m) n h = above_14 n h
no_more_added (plan m) n h = above_14 n h
no_more_added (read_thread i) n h = above_14 n h
no_more_added read_current n h = above_14 n h
no_more_added read_switches n h = above_14 n h
no_more_added (exit_of i) n h = above_14 n h

-- Lists of calls that meet none.

-- a call and the number that it is to answer
infix 70 ◌answers◌
abbrev pub ◌answers◌ : Call → ℕ → Numbered
◌answers◌ c n = record { call = c; number = n }

abbrev pub calls_of : List Numbered → List Call
calls_of [] = []
calls_of (n ∷ ns) = n.call ∷ calls_of ns

-- the numbers alone, and those of replies
abbrev pub told : List Numbered → List ℕ
told [] = []
told (n ∷ ns) = n.number ∷ told ns

abbrev pub numbers_in : List BoardReply → List ℕ
numbers_in [] = []
numbers_in (x ∷ xs) = x.number ∷ numbers_in xs

-- on an opening each call answers its number, and none of these is an added refusal; so demand 2 says that each answer and board is the Rust's
pub record Meets (cpu memory : ℕ) (ns : List Numbered) : Type 0 where
  pub numbered : numbers (calls_of ns) (opening cpu memory) ≡ ns
  pub none : NoneAdded (calls_of ns) (opening cpu memory)
  pub as_rust : compared_replies (calls_of ns) (opening cpu memory) ≡ rust_replies (calls_of ns) (rust.new cpu memory)
  pub rust_numbered : numbers_in (rust_replies (calls_of ns) (rust.new cpu memory)) ≡ told ns

-- a list of registry calls, made on the board
abbrev pub on_board : List registry_runs.Numbered → List Numbered
on_board [] = []
on_board (n ∷ ns) = on_objects n.call answers n.number ∷ on_board ns

-- 01's marked cases of threads; carv_objects_spec's file has the others
abbrev pub alone : List Numbered
alone = plan 0 answers 0 ∷ kill 0 1 answers 0 ∷ plan 0 answers 0 ∷ read_current answers 0 ∷ read_switches answers 0 ∷ read_thread 0 answers 7 ∷ []

abbrev pub short : List Numbered
short =
    create_user_thread 7 1 true answers 0 ∷ start 7 20 30 40 fresh_context answers 0 ∷ kill 0 1 answers 0 ∷ plan 0 answers 0
    ∷ on_objects (objects.charge_cpu 1 9_700_000 0) answers 0 ∷ tick 1 answers 0 ∷ []

-- each call of the board's own with each number that it has from the Rust: thread 7 is made and started, thread 0 sleeps until tick 3 and is woken before
abbrev pub every : List Numbered
every =
    create_user_thread 7 1 true answers 0 ∷ create_user_thread 8 1 false answers 14 ∷ create_user_thread 18_446_744_073_709_551_614 1 true answers 0
    ∷ start 7 20 30 40 fresh_context answers 0 ∷ start 8 0 0 0 fresh_context answers 7 ∷ start 7 0 0 0 fresh_context answers 8
    ∷ block_current 5 3 answers 0 ∷ is_blocked_on 0 5 3 answers 0
    ∷ plan 0 answers 0 ∷ tick 1 answers 0
    ∷ wake 0 (results 1 2 3) answers 0 ∷ wake 8 (results 0 0 0) answers 7 ∷ wake 7 (results 0 0 0) answers 8
    ∷ read_thread 7 answers 0 ∷ read_thread 8 answers 7 ∷ read_current answers 0 ∷ read_switches answers 0
    ∷ kill 7 2 answers 0 ∷ kill 8 1 answers 7 ∷ exit_of 7 answers 0 ∷ []

-- is none of these added?
abbrev clear : List Numbered → Bool
clear [] = true
clear (n ∷ ns) = not (is_added n.call n.number) && clear ns

clear_none : (cs : List Call) (b : Board) → clear (numbers cs b) ≡ true → NoneAdded cs b
clear_none [] b h = tt
clear_none (c ∷ cs) b h =
    let a = is_added c (run c b).number in
    (not-true a (first (not a) _ h), clear_none cs (run c b).after (second (not a) _ h))

-- has the Rust a method for each?
abbrev all_in_rust : List Call → Bool
all_in_rust [] = true
all_in_rust (c ∷ cs) = in_rust c && all_in_rust cs

replied : (cs : List Call) (b : Board) → all_in_rust cs ≡ true → numbers_in (compared_replies cs b) ≡ told (numbers cs b)
replied [] b h = refl
replied (c ∷ cs) b h = rw (first (in_rust c) _ h) (ap (λ (l : List ℕ). (run c b).number ∷ l) (replied cs (run c b).after (second (in_rust c) _ h)))

meets : (memory : ℕ) (ns : List Numbered) → AllFit (calls_of ns) → numbers (calls_of ns) (opening 10_000_000 memory) ≡ ns → clear ns ≡ true
    → all_in_rust (calls_of ns) ≡ true → Meets 10_000_000 memory ns
meets memory ns fits a h all =
    let n = clear_none (calls_of ns) (opening 10_000_000 memory) (ap clear a ∙ h) in
    let same = demand2 10_000_000 memory (omega arith) (calls_of ns) fits n in
    record { numbered = a; none = n; as_rust = same; rust_numbered = sym (ap numbers_in same) ∙ replied (calls_of ns) (opening 10_000_000 memory) all ∙ ap told a }

on_board_fits : (ns : List registry_runs.Numbered) → AllFit (calls_of (on_board ns))
on_board_fits [] = tt
on_board_fits (n ∷ ns) = (tt, on_board_fits ns)

pub frames_meet : Meets 10_000_000 1_000_000 (on_board registry_added.frames)
unfolding due renew
frames_meet = meets 1_000_000 (on_board registry_added.frames) (on_board_fits registry_added.frames) refl refl refl

pub renewals_meet : Meets 10_000_000 1_000_000 (on_board registry_added.renewals)
unfolding due renew
renewals_meet = meets 1_000_000 (on_board registry_added.renewals) (on_board_fits registry_added.renewals) refl refl refl

pub carve_127_meets : Meets 10_000_000 127 (on_board (registry_added.carve 0))
unfolding due renew
carve_127_meets = meets 127 (on_board (registry_added.carve 0)) (on_board_fits (registry_added.carve 0)) refl refl refl

pub carve_128_meets : Meets 10_000_000 128 (on_board (registry_added.carve 1))
unfolding due renew
carve_128_meets = meets 128 (on_board (registry_added.carve 1)) (on_board_fits (registry_added.carve 1)) refl refl refl

pub every_object_meets : Meets 10_000_000 1_000_000 (on_board registry_added.every)
unfolding due renew
every_object_meets = meets 1_000_000 (on_board registry_added.every) (on_board_fits registry_added.every) refl refl refl

pub alone_meets : Meets 10_000_000 1_000_000 alone
alone_meets = meets 1_000_000 alone (tt, (tt, (tt, (tt, (tt, (tt, tt)))))) refl refl refl

pub short_meets : Meets 10_000_000 1_000_000 short
unfolding due renew
short_meets = meets 1_000_000 short (omega arith, (tt, (tt, (tt, (tt, (tt, tt)))))) refl refl refl

pub every_meets : Meets 10_000_000 1_000_000 every
unfolding due renew
every_meets =
    meets 1_000_000 every
    (omega arith, (omega arith, (omega arith, (tt, (tt, (tt, (tt, (tt, (tt, (tt, (tt, (tt, (tt, (tt, (tt, (tt, (tt, (tt, (tt, (tt, tt))))))))))))))))))))
    refl refl refl

-- `every` and the registry's list meet each call, and of each call these numbers: 0 and those of 01's questions before it that are not marked +, but 15.

abbrev lists : List Numbered
lists = every ++ on_board registry_added.every

-- which call it is
abbrev which : Call → ℕ
which (on_objects c) = 0
which (create_user_thread i budget stack) = 1
which (start i space cspace root context) = 2
which (block_current kind number) = 3
which (wake i r) = 4
which (is_blocked_on i kind number) = 5
which (kill i cause) = 6
which (tick n) = 7
which (plan n) = 8
which (read_thread i) = 9
which read_current = 10
which read_switches = 11
which (exit_of i) = 12

abbrev pub rust_numbers : Call → List ℕ
rust_numbers (on_objects c) = 0 ∷ 7 ∷ 9 ∷ 10 ∷ 12 ∷ 13 ∷ 14 ∷ []
rust_numbers (create_user_thread i budget stack) = 0 ∷ 14 ∷ []
rust_numbers (start i space cspace root context) = 0 ∷ 7 ∷ 8 ∷ []
rust_numbers (block_current kind number) = 0 ∷ []
rust_numbers (wake i r) = 0 ∷ 7 ∷ 8 ∷ []
rust_numbers (is_blocked_on i kind number) = 0 ∷ []
rust_numbers (kill i cause) = 0 ∷ 7 ∷ []
rust_numbers (tick n) = 0 ∷ []
rust_numbers (plan n) = 0 ∷ []
rust_numbers (read_thread i) = 0 ∷ 7 ∷ []
rust_numbers read_current = 0 ∷ []
rust_numbers read_switches = 0 ∷ []
rust_numbers (exit_of i) = 0 ∷ []

-- does a list have call c with number n?
abbrev pub has_answer : Call → List Numbered → ℕ → Bool
has_answer c [] n = false
has_answer c (m ∷ ms) n = (eqb (which m.call) (which c) && eqb m.number n) || has_answer c ms n

pub every_call_met : (c : Call) → those (has_answer c lists) ≡ rust_numbers c
every_call_met (on_objects c) = refl
every_call_met (create_user_thread i budget stack) = refl
every_call_met (start i space cspace root context) = refl
every_call_met (block_current kind number) = refl
every_call_met (wake i r) = refl
every_call_met (is_blocked_on i kind number) = refl
every_call_met (kill i cause) = refl
every_call_met (tick n) = refl
every_call_met (plan n) = refl
every_call_met (read_thread i) = refl
every_call_met read_current = refl
every_call_met read_switches = refl
every_call_met (exit_of i) = refl

-- The calls that the Rust lacks are of the registry, whose file of this name pins them; and demand 2 goes on through them.
pub registry_lacked : (c : objects.Call) → in_rust (on_objects c) ≡ registry_demand2.in_rust c
registry_lacked c = refl

pub own_in_rust : (c : Call) → eqb (which c) 0 ≡ false → in_rust c ≡ true
own_in_rust (on_objects c) h = absurd (true≢false h)
own_in_rust (create_user_thread i budget stack) h = refl
own_in_rust (start i space cspace root context) h = refl
own_in_rust (block_current kind number) h = refl
own_in_rust (wake i r) h = refl
own_in_rust (is_blocked_on i kind number) h = refl
own_in_rust (kill i cause) h = refl
own_in_rust (tick n) h = refl
own_in_rust (plan n) h = refl
own_in_rust (read_thread i) h = refl
own_in_rust read_current h = refl
own_in_rust read_switches h = refl
own_in_rust (exit_of i) h = refl

pub record ReadingsMeet : Type 0 where
  pub numbered : numbers (calls_of (on_board registry_added.readings)) (opening 10_000_000 1_000_000) ≡ on_board registry_added.readings
  pub as_rust : compared_replies (calls_of (on_board registry_added.readings)) (opening 10_000_000 1_000_000)
      ≡ rust_replies (calls_of (on_board registry_added.readings)) (rust.new 10_000_000 1_000_000)

pub readings_meet : ReadingsMeet
unfolding due renew
readings_meet =
    let cs : List Call = calls_of (on_board registry_added.readings) in
    let a : numbers (calls_of (on_board registry_added.readings)) (opening 10_000_000 1_000_000) ≡ on_board registry_added.readings = refl in
    record {
      numbered = a;
      as_rust = demand2 10_000_000 1_000_000 (omega arith) cs (on_board_fits registry_added.readings) (clear_none cs (opening 10_000_000 1_000_000) (ap clear a));
    }
