-- The three demands, over areas of bytes and the exported C functions: the file to open first. `Demand1`, `Demand2` and `Demand3` are the statements; the files of
-- these names in laws/ prove them. `Ensures` (C.antt) is what the C function of each call in src/lib.rt ensures; a list of calls is run on an area from an accepted opening, each on the area that the last
-- one left. Assumes nothing.
use Rattle.std.specs.Prelude.{◌≡◌, Bool, true, false, cond, ◌&&◌, List, [], ◌∷◌, ◌++◌, map, ℕ, ◌^◌, ◌<◌, eqb, leb, length, get_or, Option, Some, None, Result}
use Rattle.carv_budget.specs.Account.{period}
use Rattle.carv_budget.specs.Panics.{AllPass}
use Rattle.carv_objects_spec.specs.Registry.{is_budget}
use Rattle.carv_objects_spec.specs.Panics as panics
use Rattle.carv_objects_spec.specs.Book as objects
use Rattle.carv_objects_spec.specs.Book.{Differences, is_live, budget_of}
use Rattle.carv_objects_spec.specs.BookTotals.{totals_of}
use Rattle.carv_objects_spec.specs.Reply.{accept, of_totals}
use Rattle.carv_objects.specs.declared.refusal.Refusal.{Refusal}
use Rattle.carv_objects.specs.Answer.{number}
use Rattle.carv_scheduler.specs.Answer.{value}
use Rattle.carv_scheduler_spec.specs.Scheduler.{Board, BoardReply, Value, opening, of_registry}
use Rattle.carv_scheduler.specs.Area.{decode, sound_area, Is}
use Rattle.carv_register_image.specs.Image.{register_image}
use Rattle.carv_scheduler.specs.Image.{Filled}
use Rattle.carv.specs.C.{itself, reported, Opens, has_image, Made, Ensures, lent}
use Rattle.carv_scheduler_spec.specs.Book as book
use Rattle.carv_scheduler_spec.specs.Book.{Book, on_objects, plan}
use Rattle.carv_scheduler_spec.specs.Runs.{run, Numbered, write_all, Fits}
use Rattle.carv_scheduler_spec.specs.Rust as rust
use Rattle.carv_scheduler_spec.specs.Panics.{NoPanics}
use Rattle.carv_scheduler_spec.specs.Demand1.{renewal_left}
use Rattle.carv_scheduler_spec.specs.Demand2.{rust_run, compared, is_added}
use Rattle.carv_scheduler_spec.specs.Demand3.{line_of, figures_of, Planned}

-- a list of calls run on the area a, each on what the last one left; and the last area
abbrev pub Ran : List Made → List ℕ → Type 0
Ran [] a = Unit {0}
Ran (e ∷ es) a = Ensures a e × Ran es e.left

abbrev pub last : List Made → List ℕ → List ℕ
last [] a = a
last (e ∷ es) a = last es e.left

-- The call e was answered as z: its number, its value in the answer words, and the area that it left is the sound one that says z's board.
pub record GivenAs (e : Made) (z : BoardReply) : Type 0 where
  pub answer : Result (Option Value) Refusal
  pub returned : e.returned ≡ number answer
  pub number : e.returned ≡ z.number
  pub value : value itself answer ≡ z.value
  pub written : e.words' ≡ reported itself answer e.words
  pub area : Is e.left z.after

-- refused with 1, and nothing changed
pub record NothingChanged (a : List ℕ) (e : Made) : Type 0 where
  pub number : e.returned ≡ 1
  pub area : e.left ≡ a
  pub words : e.words' ≡ e.words
  pub image : e.image' ≡ e.image

-- Demand 1: every call that passes document 01's questions leaves exactly the state that its rules give; every other returns the number of the first question missed and
-- changes nothing, save a renewal.

-- what is lent as an area or an image is bytes
abbrev pub Bytes : List ℕ → Type 0
Bytes a = (i : ℕ) → get_or a i 0 < 256

-- A call that returned another number than 0 has left every answer word and every byte of the image and of the area; but a CPU charge or carve-out refused with 12 after a
-- renewal (`renewal_left`) has left exactly the bytes that `carv_refill` of that budget at that time leaves.
pub record NothingWritten (a : List ℕ) (e : Made) : Type 0 where
  pub words : e.words' ≡ e.words
  pub image : e.image' ≡ e.image
  pub area : renewal_left e.call e.returned (decode a) ≡ None → e.left ≡ a
  pub renewed : (i time : ℕ) → renewal_left e.call e.returned (decode a) ≡ Some (i, time)
      → (r : Made) → r.call ≡ on_objects (objects.refill i time) → lent r ≡ true → Ensures a r → Bytes r.left → e.left ≡ r.left

-- of each call on any bytes a
pub record OfCall (a : List ℕ) (e : Made) : Type 0 where
  -- question 1: lengths, then the state
  pub lengths : lent e ≡ false → NothingChanged a e
  pub damaged : lent e ≡ true → sound_area a ≡ false → NothingChanged a e
  -- the other questions, and the step: number, value and board are those of document 01's call
  pub served : lent e ≡ true → sound_area a ≡ true → GivenAs e (run e.call (decode a))
  pub image : lent e ≡ true → e.image' ≡ cond (has_image e.call && eqb e.returned 0) register_image e.image
  -- that board is written in one way, so each byte left is fixed
  pub exact : lent e ≡ true → sound_area a ≡ true → Bytes e.left → (b : List ℕ) → Bytes b → Is b (run e.call (decode a)).after → b ≡ e.left
  pub refused : (e.returned ≡ 0 → ⊥) → Bytes a → Bytes e.left → NothingWritten a e

-- of `carv_open`, on any bytes a: 1 for a length, 2 for the share, else the opened board over whatever the bytes were
pub record OfOpening (cpu memory : ℕ) (a out : List ℕ) (r : ℕ) (a' out' : List ℕ) : Type 0 where
  pub number : r ≡ cond (eqb (length out) 20 && eqb (length a) 68_144) (cond (leb cpu period) 0 2) 1
  pub words : out' ≡ out
  pub refused : (r ≡ 0 → ⊥) → a' ≡ a
  pub opened : r ≡ 0 → Is a' (opening cpu memory)
  pub exact : r ≡ 0 → Bytes a' → (b : List ℕ) → Bytes b → Is b (opening cpu memory) → b ≡ a'

-- of `carv_image`, on any bytes m: 1 for a length, else the register image
pub record OfImage (m : List ℕ) (r : ℕ) (m' : List ℕ) : Type 0 where
  pub number : r ≡ cond (eqb (length m) 512) 0 1
  pub image : m' ≡ cond (eqb r 0) register_image m

-- of `carv_is_sound`, on any bytes a: where it says no every call is refused with 1, and where it says yes none that is lent what it needs is
pub record OfQuestion1 (a : List ℕ) (r : Bool) : Type 0 where
  pub no : r ≡ false → (e : Made) → Ensures a e → e.returned ≡ 1
  pub yes : r ≡ true → (e : Made) → Ensures a e → lent e ≡ true → e.returned ≡ 1 → ⊥

pub record Demand1 : Type 0 where
  pub calls : (a : List ℕ) (e : Made) → Ensures a e → OfCall a e
  pub opens : (cpu memory : ℕ) (a out : List ℕ) (r : ℕ) (a' out' : List ℕ) → Opens cpu memory a out r a' out' → OfOpening cpu memory a out r a' out'
  pub image : (m : List ℕ) (r : ℕ) (m' : List ℕ) → Filled m r m' → OfImage m r m'
  pub is_sound : (a : List ℕ) (r : Bool) → r ≡ sound_area a → OfQuestion1 a r

-- Demand 2: the calls are answered as the Rust's methods, run beside them from the Rust's `new`; a removal as P2's reference, the Rust's `remove` with `refill` put before
-- `release_child` (Rust.antt of carv_objects_spec).

-- The call e was answered as the Rust replies, z, in all that is compared: `compared` (Demand2.antt of carv_scheduler_spec) leaves out answers that the Rust lacks, P1's totals.
-- The board that the call left is compared always.
pub record GivenAsRust (e : Made) (z : BoardReply) : Type 0 where
  pub reply : BoardReply
  pub given : GivenAs e reply
  pub same : compared e.call reply ≡ z

abbrev pub AsRust : List Made → Board → Type 0
AsRust [] b = Unit {0}
AsRust (e ∷ es) b = GivenAsRust e (rust_run e.call b) × AsRust es (rust_run e.call b).after

-- no refusal that document 01 marks as added
abbrev pub NoneAdded : List Made → Type 0
NoneAdded [] = Unit {0}
NoneAdded (e ∷ es) = (is_added e.call e.returned ≡ false) × NoneAdded es

-- a new thread's id is a 64-bit number, as each argument of a C function is
abbrev pub AllWords : List Made → Type 0
AllWords [] = Unit {0}
AllWords (e ∷ es) = Fits e.call × AllWords es

-- The answers are the Rust's, and the Rust gives them: on the way none of its `expect`s fails and no sum leaves 64 bits (`Panics.antt`).
pub record AsTheRust (es : List Made) (a : List ℕ) (cpu memory : ℕ) : Type 0 where
  pub opened : Is a (rust.new cpu memory)
  pub answers : AsRust es (rust.new cpu memory)
  pub no_panics : memory < 2 ^ 64 → AllWords es → AllPass (panics.new 1 cpu memory) × NoPanics (map (λ (e : Made). e.call) es) 2 (rust.new cpu memory)

abbrev pub Demand2 : Type 0
Demand2 = (cpu memory : ℕ) (a₀ a out out' : List ℕ) → Opens cpu memory a₀ out 0 a out' → (es : List Made) → Ran es a → NoneAdded es → AsTheRust es a cpu memory

-- Demand 3. The book is fed the arguments and, of the answers, only the numbers.
abbrev pub told : List Made → List Numbered
told es = map (λ (e : Made). record { call = e.call; number = e.returned }) es

abbrev pub booked : List Made → (cpu memory : ℕ) → Book
booked es cpu memory = write_all (told es) (book.opening cpu memory)

-- what holds of a list of calls es on an area a, opened with this CPU share and memory
pub record ByTheBook (es : List Made) (a : List ℕ) (cpu memory : ℕ) : Type 0 where
  -- the budgets live by the book are those of the area, and the line of each is the book's four figures
  pub live : (i : ℕ) → is_live (booked es cpu memory).objects i ≡ is_budget (decode (last es a)).registry i
  pub lines : (i : ℕ) → is_budget (decode (last es a)).registry i ≡ true → line_of (decode (last es a)) i ≡ figures_of (booked es cpu memory) i
  -- and these figures are true differences
  pub differences : (i : ℕ) → is_budget (decode (last es a)).registry i ≡ true → Differences (budget_of (booked es cpu memory).objects i)
  -- this list and another, from an opening of its own, leave a budget equal lines exactly when the figures agree
  pub equal : (es' : List Made) (a₀ a' out out' : List ℕ) (cpu' memory' : ℕ) → Opens cpu' memory' a₀ out 0 a' out' → Ran es' a' → AllWords es' → (i : ℕ)
      → is_budget (decode (last es a)).registry i ≡ true → is_budget (decode (last es' a')).registry i ≡ true
      → (line_of (decode (last es a)) i ≡ line_of (decode (last es' a')) i → figures_of (booked es cpu memory) i ≡ figures_of (booked es' cpu' memory') i)
      × (figures_of (booked es cpu memory) i ≡ figures_of (booked es' cpu' memory') i → line_of (decode (last es a)) i ≡ line_of (decode (last es' a')) i)
  -- P1: wherever the list has a reading of totals that is accepted, it answers the totals of the book's figures, and leaves the board
  pub totals : (front rest : List Made) (e : Made) (i : ℕ) → es ≡ front ++ (e ∷ rest) → e.call ≡ on_objects (objects.read_totals i) → e.returned ≡ 0
      → GivenAs e (accept (Some (of_registry (of_totals (totals_of (booked front cpu memory).objects i)))) (decode (last front a)))
  -- wherever the list has a planning that is accepted: `Planned` (Demand3.antt) says which thread runs and what is answered, by the book before it
  pub plannings : (front rest : List Made) (e : Made) (n : ℕ) → es ≡ front ++ (e ∷ rest) → e.call ≡ plan n → e.returned ≡ 0
      → (z : BoardReply) × (GivenAs e z × Planned n (booked front cpu memory) z)

abbrev pub Demand3 : Type 0
Demand3 = (cpu memory : ℕ) (a₀ a out out' : List ℕ) → Opens cpu memory a₀ out 0 a out' → (es : List Made) → Ran es a → AllWords es → ByTheBook es a cpu memory
