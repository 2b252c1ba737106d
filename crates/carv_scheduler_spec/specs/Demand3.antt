-- Demand 3 as it is said of the definitions: for every list of calls on one board from an accepted opening, each live budget's line is the book's four figures; two lists leave a
-- budget equal lines exactly when these agree; each accepted planning runs the thread ready longest among those with time left. P1's totals are those of the book's figures.
-- Assumes nothing.
use Rattle.std.specs.Prelude.{◌≡◌, Bool, true, false, List, ◌∷◌, ◌++◌, ℕ, ◌*◌, ◌≤◌, Some}
use Rattle.carv_budget.specs.Account.{period}
use Rattle.carv_objects_spec.specs.Registry.{is_budget, account_of}
use Rattle.carv_objects_spec.specs.Book.{Figures, Differences, figures, is_live, budget_of}
use Rattle.carv_objects_spec.specs.Runs.{line}
use Rattle.carv_objects_spec.specs.Totals.{totals}
use Rattle.carv_objects_spec.specs.BookTotals.{totals_of}
use Rattle.carv_scheduler_spec.specs.Scheduler.{Board, BoardReply, idle, tick_ns, running, is, thread, root_of, opening, no_switch, switch}
use Rattle.carv_scheduler_spec.specs.Sound.{member}
use Rattle.carv_scheduler_spec.specs.Book as book
use Rattle.carv_scheduler_spec.specs.Book.{Book, Call, plan, put_back}
use Rattle.carv_scheduler_spec.specs.Runs.{run, after, book_after, AllFit}

-- the board after a list of calls on an opening
abbrev pub board_after : List Call → (cpu memory : ℕ) → Board
board_after cs cpu memory = after cs (opening cpu memory)

-- a budget's line on a board, and its figures in a book
abbrev pub line_of : Board → ℕ → Figures
line_of b i = line (account_of b.registry i)

abbrev pub figures_of : Book → ℕ → Figures
figures_of k i = figures (budget_of k.objects i)

-- By the book, has thread i time left at a planning's time? "No budget, or a live one whose fourth figure is above 0", once that budget is renewed.
abbrev pub time_left : (time : ℕ) → Book → ℕ → Bool
time_left time k i = book.has_time (book.thread k.threads i).budget (book.renew_for time (book.thread k.threads i).budget k.objects)

-- Thread i is the one ready longest among those of a queue with time left: it has time left, and none in front of it has.
pub record ReadyLongest (left : ℕ → Bool) (queue : List ℕ) (i : ℕ) : Type 0 where
  pub front : List ℕ
  pub behind : List ℕ
  pub place : queue ≡ front ++ (i ∷ behind)
  pub has_time : left i ≡ true
  pub passed_over : (j : ℕ) → member j front ≡ true → left j ≡ false

-- none of a queue has time left
abbrev pub NoneLeft : (left : ℕ → Bool) (queue : List ℕ) → Type 0
NoneLeft left queue = (j : ℕ) → member j queue ≡ true → left j ≡ false

-- What an accepted planning of tick n does, where k is the book just before it and a its answer and the board that it leaves. The queue is the book's, with a running
-- current thread other than idle put back at its end.
pub record Planned (n : ℕ) (k : Book) (a : BoardReply) : Type 0 where
  -- the book's choice, which renews as it goes, runs
  pub chosen : a.after.current ≡ (book.choose (n * tick_ns) k.threads (put_back k) k.objects).next
  pub runs : is running (thread a.after.threads a.after.current) ≡ true
  -- the thread ready longest among those with time left; idle exactly when there is none
  pub longest : (a.after.current ≡ idle → ⊥) → ReadyLongest (time_left (n * tick_ns) k) (put_back k) a.after.current
  pub none_left : a.after.current ≡ idle → NoneLeft (time_left (n * tick_ns) k) (put_back k)
  pub idle_runs : NoneLeft (time_left (n * tick_ns) k) (put_back k) → a.after.current ≡ idle
  -- "no switch" exactly when the one run was current already, else a switch from the old id to the new, with the new one's root
  pub stays : a.after.current ≡ k.current → a.value ≡ Some no_switch
  pub stayed : a.value ≡ Some no_switch → a.after.current ≡ k.current
  pub switches : (a.after.current ≡ k.current → ⊥)
      → a.value ≡ Some (switch k.current a.after.current (root_of (thread a.after.threads a.after.current)))

pub record Demand3 (cs : List Call) (cpu memory : ℕ) : Type 0 where
  -- the budgets live by the book are the board's, and the line of each is the book's figures
  pub live : (i : ℕ) → is_live (book_after cs cpu memory).objects i ≡ is_budget (board_after cs cpu memory).registry i
  pub lines : (i : ℕ) → is_budget (board_after cs cpu memory).registry i ≡ true
      → line_of (board_after cs cpu memory) i ≡ figures_of (book_after cs cpu memory) i
  -- and these figures are true differences
  pub differences : (i : ℕ) → is_budget (board_after cs cpu memory).registry i ≡ true → Differences (budget_of (book_after cs cpu memory).objects i)
  -- this list and another, on an opening of its own, leave a budget equal lines exactly when the figures agree
  pub equal : (cs' : List Call) (cpu' memory' : ℕ) → cpu' ≤ period → AllFit cs' → (i : ℕ)
      → is_budget (board_after cs cpu memory).registry i ≡ true → is_budget (board_after cs' cpu' memory').registry i ≡ true
      → (line_of (board_after cs cpu memory) i ≡ line_of (board_after cs' cpu' memory') i
      → figures_of (book_after cs cpu memory) i ≡ figures_of (book_after cs' cpu' memory') i)
      × (figures_of (book_after cs cpu memory) i ≡ figures_of (book_after cs' cpu' memory') i
      → line_of (board_after cs cpu memory) i ≡ line_of (board_after cs' cpu' memory') i)
  -- P1: a budget's totals are those of the book's figures
  pub totals : (i : ℕ) → totals (board_after cs cpu memory).registry i ≡ totals_of (book_after cs cpu memory).objects i
  -- wherever the list has a planning that is accepted
  pub plannings : (front rest : List Call) (n : ℕ) → cs ≡ front ++ (plan n ∷ rest) → (run (plan n) (board_after front cpu memory)).number ≡ 0
      → Planned n (book_after front cpu memory) (run (plan n) (board_after front cpu memory))
