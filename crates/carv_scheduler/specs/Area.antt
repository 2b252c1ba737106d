-- The board in its lent area of 68,144 bytes, as 64-bit words, the least byte first: the registry's area, the current thread and the switch count, the threads, the
-- ready queue, the exit log. What the bytes say, and question 1 of them. docs/LAYOUT.md has the same as a table. Assumes nothing.
use Rattle.std.specs.Prelude.{◌≡◌, ℕ, ◌+◌, ◌*◌, Bool, true, false, ◌&&◌, List, [], ◌∷◌, length, drop, ◌==◌, nat_eq, nat_le, slice_index, Option, option_map, Result, Ok, Err}
use Rattle.carv_area.specs.Table.{Row}
use Rattle.carv_area.specs.Lists.{tab}
use Rattle.carv_area.specs.Words.{words}
use Rattle.carv_area.specs.Parts.{part}
use Rattle.carv_area.specs.Keys.{keys}
use Rattle.carv_area.specs.Zero.{all_zero}
use Rattle.carv_budget.specs.Account.{period}
use Rattle.carv_objects.specs.Area as objects
use Rattle.carv_scheduler_spec.specs.declared.Wait.{Wait}
use Rattle.carv_scheduler_spec.specs.declared.State.{State}
use Rattle.carv_scheduler_spec.specs.declared.Spaces.{Spaces}
use Rattle.carv_scheduler_spec.specs.declared.Context.{Context}
use Rattle.carv_scheduler_spec.specs.declared.Results.{Results}
use Rattle.carv_scheduler_spec.specs.declared.Thread.{Thread}
use Rattle.carv_scheduler_spec.specs.declared.Exit.{Exit}
use Rattle.carv_scheduler_spec.specs.declared.Cause.{Cause}
use Rattle.carv_objects.specs.declared.refusal.Refusal.{Refusal}
use Rattle.carv_objects.specs.declared.refusal.Refusal.TheVariants.{Unsound, Share}
use Rattle.carv_objects.specs.Answer.{number}
use Rattle.carv_scheduler.specs.Answer.{value}
use Rattle.carv_scheduler_spec.specs.Scheduler.{Board, BoardReply, Value, opening, wait, cause_of}
use Rattle.carv_scheduler_spec.specs.Sound.{sound, each}
use Rattle.carv_scheduler_spec.specs.Codes.{thread_words, cause_word, state_from, budget_from, spaces_from, state_listed, budget_listed, spaces_listed, exit_listed}

-- The parts.

unfoldable pub registry_part : List ℕ → List ℕ
registry_part a = part 0 45_072 a

unfoldable pub head : List ℕ → List ℕ
head a = part 45_072 16 a

unfoldable pub threads_part : List ℕ → List ℕ
threads_part a = part 45_088 21_512 a

unfoldable pub queue_part : List ℕ → List ℕ
queue_part a = part 66_600 1_024 a

unfoldable pub exits_part : List ℕ → List ℕ
exits_part a = part 67_624 520 a

-- The words of a thread record: its id and 20 more. carv_scheduler_spec/specs/Codes.antt has these 20, and the words of a state, a budget, a space and a cause.

abbrev pub wait_at : List ℕ → ℕ → Wait
wait_at l o = wait (slice_index l o) (slice_index l (o + 1))

abbrev pub state_at : List ℕ → ℕ → State
state_at l o = state_from (slice_index l o) (slice_index l (o + 1)) (slice_index l (o + 2))

abbrev pub budget_at : List ℕ → ℕ → Option ℕ
budget_at l o = budget_from (slice_index l o) (slice_index l (o + 1))

abbrev pub spaces_at : List ℕ → ℕ → Option Spaces
spaces_at l o = spaces_from (slice_index l o) (slice_index l (o + 1)) (slice_index l (o + 2)) (slice_index l (o + 3))

abbrev pub root_at : List ℕ → ℕ → Option ℕ
root_at l o = option_map (λ (s : Spaces). s.root) (spaces_at l o)

abbrev pub context_at : List ℕ → ℕ → Context
context_at l o = record {
  rip = slice_index l o;
  rsp = slice_index l (o + 1);
  rflags = slice_index l (o + 2);
  rdi = slice_index l (o + 3);
  rsi = slice_index l (o + 4);
  cs = slice_index l (o + 5);
  ss = slice_index l (o + 6);
}

abbrev pub results_at : List ℕ → ℕ → Results
results_at l o = record { first = slice_index l o; second = slice_index l (o + 1); third = slice_index l (o + 2) }

abbrev pub thread_at : List ℕ → ℕ → Row Thread
thread_at l i = record {
  id = slice_index l (i * 21 + 1);
  it = record {
    state = state_at l (i * 21 + 2);
    budget = budget_at l (i * 21 + 5);
    spaces = spaces_at l (i * 21 + 7);
    context = context_at l (i * 21 + 11);
    results = results_at l (i * 21 + 18);
    ticks = slice_index l (i * 21 + 21);
  };
}

abbrev pub thread_fields : Row Thread → List ℕ
thread_fields r = r.id ∷ thread_words r.it

abbrev pub exit_at : List ℕ → ℕ → Exit Cause
exit_at l i = record { thread = slice_index l (i * 2 + 1); cause = cause_of (slice_index l (i * 2 + 2)) }

abbrev pub exit_fields : Exit Cause → List ℕ
exit_fields e = e.thread ∷ cause_word e.cause ∷ []

-- "Every code is a listed one": those of the thread and of the exit at place i, and of all of them.

abbrev pub state_listed_at : List ℕ → ℕ → Bool
state_listed_at l o = state_listed (slice_index l o) (slice_index l (o + 1)) (slice_index l (o + 2))

abbrev pub budget_listed_at : List ℕ → ℕ → Bool
budget_listed_at l o = budget_listed (slice_index l o) (slice_index l (o + 1))

abbrev pub spaces_listed_at : List ℕ → ℕ → Bool
spaces_listed_at l o = spaces_listed (slice_index l o) (slice_index l (o + 1)) (slice_index l (o + 2)) (slice_index l (o + 3))

abbrev pub thread_listed : List ℕ → ℕ → Bool
thread_listed l i = state_listed_at l (i * 21 + 2) && (budget_listed_at l (i * 21 + 5) && spaces_listed_at l (i * 21 + 7))

abbrev pub cause_listed_at : List ℕ → ℕ → Bool
cause_listed_at l i = exit_listed (slice_index l (i * 2 + 2))

unfoldable pub threads_listed : List ℕ → Bool
threads_listed l = each (thread_listed l) (tab (slice_index l 0) (λ i. i))

unfoldable pub exits_listed : List ℕ → Bool
exits_listed l = each (cause_listed_at l) (tab (slice_index l 0) (λ i. i))

-- The tables of the parts' words, each with its number of rows in front.

unfoldable pub threads_in : List ℕ → List (Row Thread)
threads_in l = tab (slice_index l 0) (thread_at l)

unfoldable pub exits_in : List ℕ → List (Exit Cause)
exits_in l = tab (slice_index l 0) (exit_at l)

-- the board that the bytes a say
abbrev pub decode : List ℕ → Board
decode a = record {
  registry = objects.decode (registry_part a);
  threads = threads_in (words (threads_part a));
  queue = keys 1 (words (queue_part a));
  current = slice_index (words (head a)) 0;
  switches = slice_index (words (head a)) 1;
  exits = exits_in (words (exits_part a));
}

-- the words of a table behind its rows, each w wide
abbrev pub behind : (w : ℕ) → List ℕ → List ℕ
behind w l = drop (slice_index l 0 * w + 1) l

-- question 1: "are lent areas of their length and is the state sound?" Places past the last thread, queue entry or exit are zero, so that a board is written in
-- one way only
unfoldable pub sound_area : List ℕ → Bool
sound_area a =
    (length a == 68_144)
    && (objects.sound_area (registry_part a)
    && (threads_listed (words (threads_part a)) && (exits_listed (words (exits_part a))
    && (sound (decode a)
    && (all_zero (behind 21 (words (threads_part a)))
    && (nat_le (slice_index (words (queue_part a)) 0) 127 && (all_zero (behind 1 (words (queue_part a)))
    && all_zero (behind 2 (words (exits_part a))))))))))

-- the bytes a are those of the sound board s
pub record Is (a : List ℕ) (s : Board) : Type 0 where
  pub sound : sound_area a ≡ true
  pub same : decode a ≡ s

-- What a call answers, r, whose value is what `tells` says, and what it leaves, a', of a sound area a.
pub record Serves {T : Type 0} (call : Board → BoardReply) (tells : T → Option Value) (a : List ℕ) (r : Result T Refusal) (a' : List ℕ) : Type 0 where
  pub number : number r ≡ (call (decode a)).number
  pub value : value tells r ≡ (call (decode a)).value
  pub area : Is a' (call (decode a)).after

-- The same of any area: one that is not sound is refused with 1 and left as it came.
pub record Answered {T : Type 0} (call : Board → BoardReply) (tells : T → Option Value) (a : List ℕ) (r : Result T Refusal) (a' : List ℕ) : Type 0 where
  pub refused : sound_area a ≡ false → (r ≡ Err Unsound) × (a' ≡ a)
  pub served : sound_area a ≡ true → Serves call tells a r a'

-- An opening: questions 1, of the length alone, and 2, "is the CPU share at most 10,000,000?"
pub record Opened (cpu memory : ℕ) (a : List ℕ) (r : Result (Unit {0}) Refusal) (a' : List ℕ) : Type 0 where
  pub size : nat_eq (length a) 68_144 ≡ false → (r ≡ Err Unsound) × (a' ≡ a)
  pub share : nat_eq (length a) 68_144 ≡ true → nat_le cpu period ≡ false → (r ≡ Err Share) × (a' ≡ a)
  pub opened : nat_eq (length a) 68_144 ≡ true → nat_le cpu period ≡ true → (r ≡ Ok tt) × Is a' (opening cpu memory)
