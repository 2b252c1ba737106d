-- The rows of the thread table: what a change of one leaves. Assumes nothing.
use Rattle.std.specs.Prelude.{◌≡◌, ℕ, suc, ◌+◌, ◌*◌, ◌<◌, List, [], ◌∷◌, length, get_or, slice_index, slice_index_or, slice_set, refl, None}
use Rattle.std.proofs.Common.{arith, add_assoc, ap, ◌∙◌}
use Rattle.std.proofs.Math.Numerals.{towards_numerals}
use Rattle.std.proofs.lemmas.List.Edits.{sets}
use Rattle.carv_area.specs.Table.{Row}
use Rattle.carv_area.specs.Rows.{Holds}
use Rattle.carv_area.specs.Laws.Rows.{holds_word}
use Rattle.carv_area.specs.Laws.Stored.{rows_are}
use Rattle.carv_scheduler_spec.specs.declared.State.{State}
use Rattle.carv_scheduler_spec.specs.declared.State.TheVariants.{Inactive, Ready}
use Rattle.carv_scheduler_spec.specs.declared.Results.{Results}
use Rattle.carv_scheduler_spec.specs.declared.Thread.{Thread}
use Rattle.carv_scheduler_spec.specs.declared.Cause.TheVariants.{Destroyed}
use Rattle.carv_scheduler_spec.specs.declared.Exit.{Exit}
use Rattle.carv_scheduler_spec.specs.declared.Cause.{Cause}
use Rattle.carv_scheduler_spec.specs.Scheduler.{fresh, cause_of}
use Rattle.carv_scheduler_spec.specs.Codes.{state_word, kind_word, number_word, thread_words, state_from, budget_from, spaces_from}
use Rattle.carv_scheduler_spec.proofs.Laws.Codes.{state_back, budget_back, spaces_back, cause_back}
use Rattle.carv_scheduler.specs.Area.{thread_fields, thread_at, threads_in, exit_fields, exit_at, exits_in, state_at, budget_at, spaces_at}

abbrev pub row : ℕ → Thread → Row Thread
row i t = record { id = i; it = t }

pub wide : (r : Row Thread) → length (thread_fields r) ≡ 21
wide r = refl

-- the words l with a part of a record, or a whole record, at place i

unfoldable pub set_state : List ℕ → ℕ → State → List ℕ
set_state l i x = sets l (i * 21 + 2) (state_word x ∷ kind_word x ∷ number_word x ∷ [])

unfoldable pub set_results : List ℕ → ℕ → Results → List ℕ
set_results l i r = sets l (i * 21 + 18) (r.first ∷ r.second ∷ r.third ∷ [])

unfoldable pub set_ticks : List ℕ → (i n : ℕ) → List ℕ
set_ticks l i n = slice_set l (i * 21 + 21) n

unfoldable pub set_thread : List ℕ → ℕ → Row Thread → List ℕ
set_thread l i r = sets l (i * 21 + 1) (thread_fields r)

-- the same with the record at place i awake
abbrev pub set_woken : List ℕ → ℕ → Results → List ℕ
set_woken l i r = set_results (set_state l i Ready) i r

-- `write_thread`
pub thread_set : (l l₁ l₂ : List ℕ) (i id : ℕ) (t : Thread) → l₁ ≡ slice_set l (i * 21 + 1) id → l₂ ≡ sets l₁ (i * 21 + 2) (thread_words t) → l₂ ≡ set_thread l i (row id t)
unfolding set_thread
thread_set l l₁ l₂ i id t e₁ e₂ = rw (e₂, e₁) (simp towards_numerals)

-- the default of a place past the end
abbrev pub no_row : Row Thread
no_row = row 0 (fresh Inactive None)

abbrev pub no_exit : Exit Cause
no_exit = record { thread = 0; cause = Destroyed }

pub wide_exit : (e : Exit Cause) → length (exit_fields e) ≡ 2
wide_exit e = refl

-- the words of a table of threads say its rows
module _ (l : List ℕ) (rows : List (Row Thread)) (h : Holds thread_fields 21 l rows) where
  pub thread_at_is : (i : ℕ) → i < length rows → thread_at l i ≡ slice_index_or rows i no_row
  thread_at_is i a =
      let w : (j : ℕ) → j < 21 → slice_index l (i * 21 + suc j) ≡ get_or (thread_fields (slice_index_or rows i no_row)) j 0 = λ j b. holds_word thread_fields 21 wide l rows h i j no_row a b in
      let v : (x y j : ℕ) → x + y ≡ suc j → j < 21 → slice_index l (i * 21 + x + y) ≡ get_or (thread_fields (slice_index_or rows i no_row)) j 0 =
      λ x y j e b. ap (λ (o : ℕ). slice_index l o) (add_assoc (i * 21) x y ∙ ap (λ (o : ℕ). i * 21 + o) e) ∙ w j b in
      let t : Thread = (slice_index_or rows i no_row).it in
      let s : state_at l (i * 21 + 2) ≡ t.state =
      (λ u. state_from (w 1 (omega arith) u) (v 2 1 2 refl (omega arith) u) (v 2 2 3 refl (omega arith) u)) ∙ state_back t.state in
      let p : budget_at l (i * 21 + 5) ≡ t.budget = (λ u. budget_from (w 4 (omega arith) u) (v 5 1 5 refl (omega arith) u)) ∙ budget_back t.budget in
      let q : spaces_at l (i * 21 + 7) ≡ t.spaces =
      (λ u. spaces_from (w 6 (omega arith) u) (v 7 1 7 refl (omega arith) u) (v 7 2 8 refl (omega arith) u) (v 7 3 9 refl (omega arith) u)) ∙ spaces_back t.spaces in
      λ t. record {
        id = w 0 (omega arith) t;
        it = record {
          state = s t;
          budget = p t;
          spaces = q t;
          context = record {
            rip = w 10 (omega arith) t;
            rsp = v 11 1 11 refl (omega arith) t;
            rflags = v 11 2 12 refl (omega arith) t;
            rdi = v 11 3 13 refl (omega arith) t;
            rsi = v 11 4 14 refl (omega arith) t;
            cs = v 11 5 15 refl (omega arith) t;
            ss = v 11 6 16 refl (omega arith) t;
          };
          results = record { first = w 17 (omega arith) t; second = v 18 1 18 refl (omega arith) t; third = v 18 2 19 refl (omega arith) t };
          ticks = w 20 (omega arith) t;
        };
      }

  pub threads_in_are : threads_in l ≡ rows
  unfolding threads_in
  threads_in_are = rows_are thread_fields 21 thread_at no_row l rows h thread_at_is

-- the words of a log say its exits
module _ (l : List ℕ) (log : List (Exit Cause)) (h : Holds exit_fields 2 l log) where
  pub exit_at_is : (i : ℕ) → i < length log → exit_at l i ≡ slice_index_or log i no_exit
  exit_at_is i a =
      let w : (j : ℕ) → j < 2 → slice_index l (i * 2 + suc j) ≡ get_or (exit_fields (slice_index_or log i no_exit)) j 0 = λ j b. holds_word exit_fields 2 wide_exit l log h i j no_exit a b in
      let c : cause_of (slice_index l (i * 2 + 2)) ≡ (slice_index_or log i no_exit).cause = ap cause_of (w 1 (omega arith)) ∙ cause_back (slice_index_or log i no_exit).cause in
      λ t. record { thread = w 0 (omega arith) t; cause = c t }

  pub exits_in_are : exits_in l ≡ log
  unfolding exits_in
  exits_in_are = rows_are exit_fields 2 exit_at no_exit l log h exit_at_is
