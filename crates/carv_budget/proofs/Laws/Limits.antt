-- Document 01's numbers of an account, written out: the period, the share, the answers' numbers, and a case on either side of each question. Assumes nothing.
use Rattle.std.specs.Prelude.{◌≡◌, refl, true, false, List, [], ◌∷◌, ℕ, Ok}
use Rattle.carv_budget.specs.declared.Account.{Account}
use Rattle.carv_budget.specs.declared.BudgetError.TheVariants.{Unsound, CpuBudgetExceedsPeriod, MemoryUnderflow, CpuLimitReached, MemoryLimitReached, CpuLimitExceeded, MemoryLimitExceeded, ReservationUnderflow}
use Rattle.carv_budget.specs.Account.{number, number_of, period, sound, due, renew, spent, carved, returnable, open_account, refill, charge_cpu, charge_memory, release_memory, carve_out, release_child}

-- an account with these limits and figures, start 0
abbrev pub account : (allowance limit left cpu_reserved used memory_reserved : ℕ) → Account
account allowance limit left cpu_reserved used memory_reserved = record {
  cpu_allowance = allowance;
  memory_limit = limit;
  period_start = 0;
  cpu_left = left;
  cpu_reserved = cpu_reserved;
  memory_used = used;
  memory_reserved = memory_reserved;
}

-- 100 bytes, of which 30 are used and 20 reserved; 1,000 ns, of which 300 are reserved and 600 left
abbrev pub some_account : Account
some_account = account 1_000 100 600 300 30 20

-- three that are not sound: a byte, a nanosecond, and a share too many
abbrev pub byte_above : Account
byte_above = account 1_000 100 600 300 81 20

abbrev pub ns_above : Account
ns_above = account 1_000 100 701 300 30 20

abbrev pub share_above : Account
share_above = account 10_000_001 100 0 0 0 0

-- the number of each call on one account; where it is not sound, 1
abbrev pub numbers : Account → List ℕ
numbers a =
    number_of (refill a 0).answer ∷ number_of (charge_cpu a 0 0).answer ∷ number_of (charge_memory a 0).answer ∷ number_of (release_memory a 0).answer
    ∷ number_of (carve_out a 0 0 0).answer ∷ number_of (release_child a (account 0 0 0 0 0 0)).answer ∷ number_of (release_child (account 0 0 0 0 0 0) a).answer ∷ []

pub record Limits : Type 0 where
  -- 01's number of each answer
  pub answers : number Unsound ∷ number CpuBudgetExceedsPeriod ∷ number MemoryUnderflow ∷ number CpuLimitReached
      ∷ number MemoryLimitReached ∷ number CpuLimitExceeded ∷ number MemoryLimitExceeded ∷ number ReservationUnderflow ∷ []
      ≡ 1 ∷ 2 ∷ 11 ∷ 12 ∷ 12 ∷ 12 ∷ 12 ∷ 15 ∷ []
  pub accepted : (x : Unit {0}) → number_of (Ok x) ≡ 0
  -- done, a renewal that was due, and one that was not
  pub answers_accepted : number_of (Ok (tt {0})) ∷ number_of (Ok true) ∷ number_of (Ok false) ∷ [] ≡ 0 ∷ 0 ∷ 0 ∷ []
  -- "period (always 10,000,000 ns)"
  pub period_is : period ≡ 10_000_000
  -- "2. Opening: is the CPU share at most 10,000,000?"
  pub opening : (number_of (open_account 10_000_000 0 0) ≡ 0) × (number_of (open_account 10_000_001 0 0) ≡ 2)
  -- "do used + reserved ≤ limit and CPU left + CPU reserved ≤ allowance ≤ period hold (1)": at the limits they do
  pub sound_at : sound (account 10_000_000 100 9_999_700 300 80 20) ≡ true
  pub sound_above : (sound byte_above ≡ false) × (sound ns_above ≡ false) × (sound share_above ≡ false)
  -- every call asks it
  pub asked : (numbers some_account ≡ 0 ∷ 0 ∷ 0 ∷ 0 ∷ 0 ∷ 0 ∷ 15 ∷ []) × (numbers byte_above ≡ 1 ∷ 1 ∷ 1 ∷ 1 ∷ 1 ∷ 1 ∷ 1 ∷ [])
      × (numbers ns_above ≡ 1 ∷ 1 ∷ 1 ∷ 1 ∷ 1 ∷ 1 ∷ 1 ∷ []) × (numbers share_above ≡ 1 ∷ 1 ∷ 1 ∷ 1 ∷ 1 ∷ 1 ∷ 1 ∷ [])
  -- "nothing if t < start or t − start < period": at the period's end, and before it
  pub renewal : ((refill some_account 10_000_000).answer ≡ Ok true) × ((refill some_account 9_999_999).answer ≡ Ok false)
      × ((refill some_account 10_000_000).account ≡ record {
        cpu_allowance = 1_000;
        memory_limit = 100;
        period_start = 10_000_000;
        cpu_left = 700;
        cpu_reserved = 300;
        memory_used = 30;
        memory_reserved = 20;
      })
  -- "is refused if it exceeds CPU left": 12
  pub cpu : (number_of (charge_cpu some_account 600 0).answer ≡ 0) × (number_of (charge_cpu some_account 601 0).answer ≡ 12)
      × ((charge_cpu some_account 600 0).account ≡ account 1_000 100 0 300 30 20)
  -- "Free memory is limit − reserved − used. A memory charge is refused if larger": 12
  pub memory : (number_of (charge_memory some_account 50).answer ≡ 0) × (number_of (charge_memory some_account 51).answer ≡ 12)
      × ((charge_memory some_account 50).account ≡ account 1_000 100 600 300 80 20)
  -- "11 for a release above memory used"
  pub release : (number_of (release_memory some_account 30).answer ≡ 0) × (number_of (release_memory some_account 31).answer ≡ 11)
      × ((release_memory some_account 30).account ≡ account 1_000 100 600 300 0 20)
  -- "A carve-out .. compares CPU with CPU left, then memory with free memory": 12
  pub carving : (number_of (carve_out some_account 600 50 0).answer ≡ 0) × (number_of (carve_out some_account 601 0 0).answer ≡ 12)
      × (number_of (carve_out some_account 0 51 0).answer ≡ 12)
      × ((carve_out some_account 600 50 0).account ≡ account 1_000 100 0 900 30 70)
      × ((carve_out some_account 600 50 0).answer ≡ Ok (account 600 50 600 0 0 0))
  -- "15 for a child with use or reservations, or with limits above the parent's reservations"
  pub child : (number_of (release_child some_account (account 300 20 0 0 0 0)).answer ≡ 0)
      × (number_of (release_child some_account (account 300 20 0 0 1 0)).answer ≡ 15)
      × (number_of (release_child some_account (account 300 20 0 0 0 1)).answer ≡ 15)
      × (number_of (release_child some_account (account 300 20 0 1 0 0)).answer ≡ 15)
      × (number_of (release_child some_account (account 301 20 0 0 0 0)).answer ≡ 15)
      × (number_of (release_child some_account (account 300 21 0 0 0 0)).answer ≡ 15)
      × ((release_child some_account (account 300 20 0 0 0 0)).account ≡ account 1_000 100 600 0 30 0)

pub limits_hold : Limits
unfolding sound due renew spent carved returnable
limits_hold = record {
  answers = refl;
  accepted = λ _. refl;
  answers_accepted = refl;
  period_is = refl;
  opening = (refl, refl);
  sound_at = refl;
  sound_above = (refl, refl, refl);
  asked = (refl, refl, refl, refl);
  renewal = (refl, refl, refl);
  cpu = (refl, refl, refl);
  memory = (refl, refl, refl);
  release = (refl, refl, refl);
  carving = (refl, refl, refl, refl, refl);
  child = (refl, refl, refl, refl, refl, refl, refl);
}
