-- P3, "No period overspent", over areas of bytes and the exported C functions: `NoPeriodOverspent` is the statement, `NoPeriodOverspentByClock` the same in document 02's own words, and
-- `ChargesNoted` says that what the ledger has as charged is what 01's book takes, that nothing is struck out of it, and that a charge bears its call's clock value; laws/Overspending.antt
-- proves them. Lists of calls, and what a call ensures, are those of Demands.antt. Assumes nothing.
use Rattle.std.specs.Prelude.{◌≡◌, true, List, [], ◌∷◌, ◌++◌, ℕ}
use Rattle.carv_objects_spec.specs.Registry.{is_budget}
use Rattle.carv_objects_spec.specs.Ledger.{Ledger, NoneOverspent}
use Rattle.carv_objects_spec.specs.Noted.{Adds, charged_to, Accounted}
use Rattle.carv_scheduler_spec.specs.Ledger.{ledger_from, clock, ClockNeverFalls, MovingClockNeverFalls, EverLive}
use Rattle.carv_scheduler.specs.Area.{decode}
use Rattle.carv.specs.C.{Opens, Made}
use Rattle.carv.specs.Demands.{Ran, last, AllWords, told, booked}

-- The ledger is fed as the book is: the arguments and, of the answers, only the numbers. `spent` (Ledger.antt of carv_objects_spec) sums of it what was charged in a period to
-- a budget and to all below it, and `EverLive` (Ledger.antt of carv_scheduler_spec) says what P3 says of one.
abbrev pub noted : List Made → (cpu memory : ℕ) → Ledger
noted es cpu memory = ledger_from (told es) cpu memory

-- what holds of a list of calls es on an area a, opened with this CPU share and memory
pub record WithinAllowances (es : List Made) (a : List ℕ) (cpu memory : ℕ) : Type 0 where
  -- of every budget of the ledger, the root and each that was ever carved, in every period
  pub carved : NoneOverspent (noted es cpu memory)
  -- of every budget that was ever live: live in the area after the front of the list, or after all of it, with the allowance that it has there, removed since or not
  pub live : (front rest : List Made) → es ≡ front ++ rest → (i : ℕ) → is_budget (decode (last front a)).registry i ≡ true → EverLive (decode (last front a)).registry (noted es cpu memory) i

-- P3: for every list of calls from an accepted opening, those lent areas of wrong lengths included, in which the clock values of calls that are accepted or refused with 12 never
-- fall. Calls refused otherwise move nothing, so they may carry any time.
abbrev pub NoPeriodOverspent : Type 0
NoPeriodOverspent = (cpu memory : ℕ) (a₀ a out out' : List ℕ) → Opens cpu memory a₀ out 0 a out' → (es : List Made) → Ran es a → AllWords es
    → MovingClockNeverFalls (told es) → WithinAllowances es a cpu memory

-- "Take clock values that never fall over the whole history": those of all calls, refused ones included.
abbrev pub NoPeriodOverspentByClock : Type 0
NoPeriodOverspentByClock = (cpu memory : ℕ) (a₀ a out out' : List ℕ) → Opens cpu memory a₀ out 0 a out' → (es : List Made) → Ran es a → AllWords es
    → ClockNeverFalls (told es) → WithinAllowances es a cpu memory

-- What is charged. Of the next call e behind a list of calls es:
pub record NextNoted (es : List Made) (e : Made) (cpu memory : ℕ) : Type 0 where
  -- it strikes nothing out of the ledger, and what it notes as charged is of its own clock value
  pub adds : Adds (clock e.call) (noted es cpu memory) (noted (es ++ (e ∷ [])) cpu memory)
  -- of each budget i that is live before it and behind it, the book takes what the call notes as charged to i, and what it carves out of i, and nothing else
  pub taken : (i : ℕ) → Accounted (booked es cpu memory).objects (booked (es ++ (e ∷ [])) cpu memory).objects (charged_to (noted es cpu memory).charges i)
      (charged_to (noted (es ++ (e ∷ [])) cpu memory).charges i) i

-- Behind every list, whatever times its calls carry. By demand 3 the book's figures are the board's lines.
abbrev pub ChargesNoted : Type 0
ChargesNoted = (cpu memory : ℕ) (a₀ a out out' : List ℕ) → Opens cpu memory a₀ out 0 a out' → (es : List Made) → Ran es a → AllWords es → (e : Made) → NextNoted es e cpu memory
