-- The answer words of each value, written out: which word tells what, in the order of docs/LAYOUT.md. Assumes nothing.
use Rattle.std.specs.Prelude.{◌≡◌, refl, Bool, true, false, [], ◌∷◌, ℕ, Some, None}
use Rattle.std.proofs.lemmas.Bool.{false≢true}
use Rattle.carv_budget.specs.declared.Account.{Account}
use Rattle.carv_objects_spec.specs.declared.Totals.{Totals}
use Rattle.carv_objects_spec.specs.Reply as objects
use Rattle.carv_scheduler_spec.specs.declared.Wait.TheVariants as waits
use Rattle.carv_scheduler_spec.specs.declared.State.TheVariants.{Blocked}
use Rattle.carv_scheduler_spec.specs.declared.Thread.{Thread}
use Rattle.carv_scheduler_spec.specs.declared.Cause.TheVariants.{Destroyed, Faulted}
use Rattle.carv_scheduler_spec.specs.Scheduler.{of_registry, no_switch, switch, ended, is_blocked, record_of, word, exit_cause, in_spaces, results}
use Rattle.carv_scheduler_spec.specs.Book.{Call, on_objects, create_user_thread, start, block_current, wake, is_blocked_on, kill, tick, plan, read_thread, read_current, read_switches, exit_of}
use Rattle.carv.specs.C.{value_words, told_words, has_image}

abbrev figures : Account
figures = record { cpu_allowance = 1; memory_limit = 2; period_start = 3; cpu_left = 4; cpu_reserved = 5; memory_used = 6; memory_reserved = 7 }

abbrev sums : Totals
sums = record { memory_used = 1; memory_free = 2; cpu_left = 3 }

abbrev thread : Thread
thread = record {
  state = Blocked (waits.Sleep 11);
  budget = Some 12;
  spaces = Some (in_spaces 13 14 15);
  context = record { rip = 21; rsp = 22; rflags = 23; rdi = 24; rsi = 25; cs = 26; ss = 27 };
  results = results 31 32 33;
  ticks = 41;
}

pub record AnswerWords : Type 0 where
  -- no value, no word
  pub nothing : told_words None ≡ []
  -- an id; 1 for yes, 0 for no
  pub ids : value_words (of_registry (objects.id 9)) ≡ 9 ∷ []
  pub yes : (value_words (of_registry (objects.renewed true)) ≡ 1 ∷ []) × (value_words (of_registry (objects.pays true)) ≡ 1 ∷ []) × (value_words (is_blocked true) ≡ 1 ∷ [])
  pub no : (value_words (of_registry (objects.renewed false)) ≡ 0 ∷ []) × (value_words (of_registry (objects.pays false)) ≡ 0 ∷ []) × (value_words (is_blocked false) ≡ 0 ∷ [])
  -- allowance, limit, start, then the line: left, reserved, used, reserved
  pub accounts : value_words (of_registry (objects.of_account figures)) ≡ 1 ∷ 2 ∷ 3 ∷ 4 ∷ 5 ∷ 6 ∷ 7 ∷ []
  -- the payer, then the bytes
  pub charges : value_words (of_registry (objects.charge 1 2)) ≡ 1 ∷ 2 ∷ []
  -- memory used, memory free, CPU left
  pub totals : value_words (of_registry (objects.of_totals sums)) ≡ 1 ∷ 2 ∷ 3 ∷ []
  -- 0 is no switch; a switch is 1, the old id, the new id, and 1 and the root, or 0 for the kernel's
  pub switches : (value_words no_switch ≡ 0 ∷ []) × (value_words (switch 8 9 None) ≡ 1 ∷ 8 ∷ 9 ∷ 0 ∷ []) × (value_words (switch 8 9 (Some 7)) ≡ 1 ∷ 8 ∷ 9 ∷ 1 ∷ 7 ∷ [])
  -- the kind of the wait that was ended, then its number
  pub waits_ended : (value_words (ended None) ≡ 0 ∷ 0 ∷ []) × (value_words (ended (Some (waits.Recv 9))) ≡ 2 ∷ 9 ∷ [])
  pub causes : (value_words (exit_cause None) ≡ 0 ∷ []) × (value_words (exit_cause (Some Destroyed)) ≡ 1 ∷ []) × (value_words (exit_cause (Some Faulted)) ≡ 2 ∷ [])
  pub numbers : value_words (word 9) ≡ 9 ∷ []
  -- state, wait, budget, spaces, the seven words of UserContext, the three results, the ticks
  pub threads : value_words (record_of thread) ≡ 4 ∷ 5 ∷ 11 ∷ 1 ∷ 12 ∷ 1 ∷ 13 ∷ 14 ∷ 15 ∷ 21 ∷ 22 ∷ 23 ∷ 24 ∷ 25 ∷ 26 ∷ 27 ∷ 31 ∷ 32 ∷ 33 ∷ 41 ∷ []

pub answer_words_hold : AnswerWords
answer_words_hold = record {
  nothing = refl;
  ids = refl;
  yes = (refl, refl, refl);
  no = (refl, refl, refl);
  accounts = refl;
  charges = refl;
  totals = refl;
  switches = (refl, refl, refl);
  waits_ended = (refl, refl);
  causes = (refl, refl, refl);
  numbers = refl;
  threads = refl;
}

-- only `carv_create_user_thread` is lent a register image, as src/lib.rt has it
pub only_creation_has_image : (c : Call) → has_image c ≡ true → (i : ℕ) × (budget : ℕ) × (stack : Bool) × (c ≡ create_user_thread i budget stack)
only_creation_has_image (on_objects c) h = absurd (false≢true h)
only_creation_has_image (create_user_thread i budget stack) h = (i, budget, stack, refl)
only_creation_has_image (start i space cspace root context) h = absurd (false≢true h)
only_creation_has_image (block_current kind number) h = absurd (false≢true h)
only_creation_has_image (wake i r) h = absurd (false≢true h)
only_creation_has_image (is_blocked_on i kind number) h = absurd (false≢true h)
only_creation_has_image (kill i cause) h = absurd (false≢true h)
only_creation_has_image (tick n) h = absurd (false≢true h)
only_creation_has_image (plan n) h = absurd (false≢true h)
only_creation_has_image (read_thread i) h = absurd (false≢true h)
only_creation_has_image read_current h = absurd (false≢true h)
only_creation_has_image read_switches h = absurd (false≢true h)
only_creation_has_image (exit_of i) h = absurd (false≢true h)
