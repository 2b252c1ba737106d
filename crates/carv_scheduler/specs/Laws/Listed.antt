-- Listed codes: the words of a table are those of the records that they say, and the words of records are listed. Assumes nothing.
use Rattle.std.specs.Prelude.{◌≡◌, ℕ, zero, suc, ◌+◌, ◌*◌, ◌<◌, Bool, true, ◌==◌, List, length, slice_index, slice_index_or, get_or, refl}
use Rattle.std.proofs.Common.{ap, ◌∙◌, add_assoc, arith}
use Rattle.std.specs.List.{list_all, range_with_len}
use Rattle.carv_area.specs.Lists.{tab}
use Rattle.carv_area.specs.Rows.{Holds}
use Rattle.carv_area.specs.Laws.Rows.{holds_word}
use Rattle.carv_area.specs.Table.{Row}
use Rattle.carv_budget.proofs.Laws.Account.{first, second}
use Rattle.carv_scheduler_spec.specs.declared.Thread.{Thread}
use Rattle.carv_scheduler_spec.specs.declared.Exit.{Exit}
use Rattle.carv_scheduler_spec.specs.declared.Cause.{Cause}
use Rattle.carv_scheduler_spec.specs.Codes.{cause_word, state_listed, budget_listed, spaces_listed, exit_listed}
use Rattle.carv_scheduler_spec.proofs.Laws.Codes.{SameState, SameBudget, SameSpaces, state_same, budget_same, spaces_same, state_is_listed, budget_is_listed, spaces_are_listed, cause_is_listed}
use Rattle.carv_scheduler_spec.specs.Sound.{each}
use Rattle.carv_scheduler_spec.specs.Scheduler.{inactive, ready, running, is}
use Rattle.carv_scheduler_spec.proofs.Laws.Codes.{inactive_from, ready_from, running_from}
use Rattle.carv_scheduler.specs.Area.{thread_at, thread_fields, exit_fields, state_listed_at, budget_listed_at, spaces_listed_at, thread_listed, cause_listed_at, threads_listed, exits_listed}
use Rattle.carv_scheduler.specs.Laws.Rows.{no_row, no_exit, wide, wide_exit}

-- lists made of a function
module _ {A : Type 0} where
  pub each_out : (p : A → Bool) (n : ℕ) (f : ℕ → A) → each p (tab n f) ≡ true → (k : ℕ) → k < n → p (f k) ≡ true
  unfolding tab
  each_out p zero f h k l = absurd (omega arith)
  each_out p (suc n) f h zero l = first (p (f zero)) (each p (tab n (λ i. f (suc i)))) h
  each_out p (suc n) f h (suc k) l = each_out p n (λ i. f (suc i)) (second (p (f zero)) (each p (tab n (λ i. f (suc i)))) h) k (omega arith)

  pub each_in : (p : A → Bool) (n : ℕ) (f : ℕ → A) → ((k : ℕ) → k < n → p (f k) ≡ true) → each p (tab n f) ≡ true
  unfolding tab
  each_in p zero f h = refl
  each_in p (suc n) f h = rw (h zero (omega arith), each_in p n (λ i. f (suc i)) (λ k l. h (suc k) (omega arith)))

-- and those that `all` over a range asks
pub each_range : (p : ℕ → Bool) (f : ℕ → ℕ) (a n : ℕ) → ((k : ℕ) → f k ≡ a + k) → list_all p (range_with_len a n) ≡ each p (tab n f)
unfolding tab
each_range p f a zero h = refl
each_range p f a (suc n) h = let e : f zero ≡ a = omega (arith, h zero) in
    rw (e, each_range p (λ i. f (suc i)) (a + 1) n (λ k. omega (arith, h (suc k)))) refl

-- what is asked of the state of the thread at place i, by its word
module _ (l : List ℕ) (i : ℕ) where
  pub inactive_at : is inactive (thread_at l i).it ≡ (slice_index l (i * 21 + 2) == 1)
  inactive_at = inactive_from (slice_index l (i * 21 + 2)) (slice_index l (i * 21 + 2 + 1)) (slice_index l (i * 21 + 2 + 2))

  pub ready_at : is ready (thread_at l i).it ≡ (slice_index l (i * 21 + 2) == 2)
  ready_at = ready_from (slice_index l (i * 21 + 2)) (slice_index l (i * 21 + 2 + 1)) (slice_index l (i * 21 + 2 + 2))

  pub running_at : is running (thread_at l i).it ≡ (slice_index l (i * 21 + 2) == 3)
  running_at = running_from (slice_index l (i * 21 + 2)) (slice_index l (i * 21 + 2 + 1)) (slice_index l (i * 21 + 2 + 2))

-- what a table's listed words are
module _ (l : List ℕ) (h : threads_listed l ≡ true) (i : ℕ) (a : i < slice_index l 0) where
  listed : thread_listed l i ≡ true
  unfolding threads_listed
  listed = each_out (thread_listed l) (slice_index l 0) (λ i. i) h i a

  pub state_words : SameState (slice_index l (i * 21 + 2)) (slice_index l (i * 21 + 2 + 1)) (slice_index l (i * 21 + 2 + 2))
  state_words = state_same _ _ _ (first (state_listed_at l (i * 21 + 2)) _ listed)

  pub budget_words : SameBudget (slice_index l (i * 21 + 5)) (slice_index l (i * 21 + 5 + 1))
  budget_words = budget_same _ _ (first (budget_listed_at l (i * 21 + 5)) _ (second (state_listed_at l (i * 21 + 2)) _ listed))

  pub spaces_words : SameSpaces (slice_index l (i * 21 + 7)) (slice_index l (i * 21 + 7 + 1)) (slice_index l (i * 21 + 7 + 2)) (slice_index l (i * 21 + 7 + 3))
  spaces_words = spaces_same _ _ _ _ (second (budget_listed_at l (i * 21 + 5)) _ (second (state_listed_at l (i * 21 + 2)) _ listed))

pub cause_words : (l : List ℕ) → exits_listed l ≡ true → (i : ℕ) → i < slice_index l 0 → exit_listed (slice_index l (i * 2 + 2)) ≡ true
unfolding exits_listed
cause_words l h i a = each_out (cause_listed_at l) (slice_index l 0) (λ i. i) h i a

-- the words of rows are listed
module _ (l : List ℕ) (rows : List (Row Thread)) (h : Holds thread_fields 21 l rows) where
  pub threads_are_listed : threads_listed l ≡ true
  unfolding threads_listed
  threads_are_listed = each_in (thread_listed l) (slice_index l 0) (λ i. i) one
    where
      one : (i : ℕ) → i < slice_index l 0 → thread_listed l i ≡ true
      one i b =
          let c : slice_index_or l 0 0 ≡ length rows = h.count in
          let a : i < length rows = omega arith in
          let t : Thread = (slice_index_or rows i no_row).it in
          let w : (j : ℕ) → j < 21 → slice_index l (i * 21 + suc j) ≡ get_or (thread_fields (slice_index_or rows i no_row)) j 0 = λ j d. holds_word thread_fields 21 wide l rows h i j no_row a d in
          let v : (x y j : ℕ) → x + y ≡ suc j → j < 21 → slice_index l (i * 21 + x + y) ≡ get_or (thread_fields (slice_index_or rows i no_row)) j 0 =
          λ x y j e d. ap (λ (o : ℕ). slice_index l o) (add_assoc (i * 21) x y ∙ ap (λ (o : ℕ). i * 21 + o) e) ∙ w j d in
          let s : state_listed_at l (i * 21 + 2) ≡ true =
          (λ u. state_listed (w 1 (omega arith) u) (v 2 1 2 refl (omega arith) u) (v 2 2 3 refl (omega arith) u)) ∙ state_is_listed t.state in
          let p : budget_listed_at l (i * 21 + 5) ≡ true =
          (λ u. budget_listed (w 4 (omega arith) u) (v 5 1 5 refl (omega arith) u)) ∙ budget_is_listed t.budget in
          let q : spaces_listed_at l (i * 21 + 7) ≡ true =
          (λ u. spaces_listed (w 6 (omega arith) u) (v 7 1 7 refl (omega arith) u) (v 7 2 8 refl (omega arith) u) (v 7 3 9 refl (omega arith) u)) ∙ spaces_are_listed t.spaces in
          rw (s, p, q)

module _ (l : List ℕ) (log : List (Exit Cause)) (h : Holds exit_fields 2 l log) where
  pub exits_are_listed : exits_listed l ≡ true
  unfolding exits_listed
  exits_are_listed = each_in (cause_listed_at l) (slice_index l 0) (λ i. i) one
    where
      one : (i : ℕ) → i < slice_index l 0 → cause_listed_at l i ≡ true
      one i b =
          let c : slice_index_or l 0 0 ≡ length log = h.count in
          let w : slice_index l (i * 2 + 2) ≡ cause_word (slice_index_or log i no_exit).cause = holds_word exit_fields 2 wide_exit l log h i 1 no_exit (omega arith) (omega arith) in
          ap exit_listed w ∙ cause_is_listed (slice_index_or log i no_exit).cause
