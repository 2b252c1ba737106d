-- The exit log: what its functions read and leave. Assumes nothing.
use Rattle.std.specs.Prelude.{◌≡◌, ℕ, ◌+◌, ◌*◌, ◌<◌, ◌≤◌, true, cond, List, [], ◌∷◌, ◌++◌, length, drop, ◌==◌, ◌≢◌, slice_index, slice_index_or, refl, Option, option_map, find, Ok}
use Rattle.std.proofs.Common.{sym, ap, ◌∙◌, subst, arith, length-drop, eq-eqb, ne_eqb}
use Rattle.std.proofs.lemmas.Bool.{eqb-false}
use Rattle.carv_area.specs.Laws.Table.{test}
use Rattle.carv_area.specs.Laws.Lists.{length_tab, get_or_tab}
use Rattle.carv_area.specs.Words.{words}
use Rattle.carv_area.specs.Parts.{part, put_part}
use Rattle.carv_area.specs.Laws.Parts.{length_part}
use Rattle.carv_area.specs.Moves.{cut_row}
use Rattle.carv_area.specs.Rows.{remove_at}
use Rattle.carv_area.specs.Stored.{Stored}
use Rattle.carv_area.specs.Laws.Stored.{stored_remove}
use Rattle.carv_scheduler_spec.specs.declared.Cause.{Cause}
use Rattle.carv_scheduler_spec.specs.declared.Exit.{Exit}
use Rattle.carv_scheduler.specs.Answer.{cause_of}
use Rattle.carv_scheduler_spec.specs.Scheduler.{Board, logged, exit_in, exit_of}
use Rattle.carv_scheduler.specs.Area.{exits_part, exit_fields, exit_at, exits_in, decode, sound_area, Serves}
use Rattle.carv_scheduler.specs.Laws.Rows.{no_exit, wide_exit}
use Rattle.carv_scheduler.specs.Laws.Formed.{WellFormed, LaidOut, Leaves, leaves_as, unchanged, exits_written}
use Rattle.carv_scheduler.specs.Laws.Calls.{read_serves}

abbrev pub exit : (thread : ℕ) → Cause → Exit Cause
exit thread cause = record { thread = thread; cause = cause }

abbrev pub with_exits : List (Exit Cause) → Board → Board
with_exits l b = record { registry = b.registry; threads = b.threads; queue = b.queue; current = b.current; switches = b.switches; exits = l }

-- room for one more: of 32 exits the oldest goes
abbrev pub spared : List (Exit Cause) → List (Exit Cause)
spared l = cond (length l == 32) (drop 1 l) l

pub length_exits : (a : List ℕ) → length a ≡ 68_144 → length (part 67_624 520 a) ≡ 520
length_exits a z = length_part 67_624 520 a (omega arith)

-- What is read of an area that is laid out.
module _ (a : List ℕ) (k : LaidOut a) where
  counted : slice_index_or (words (exits_part a)) 0 0 ≡ length (decode a).exits
  unfolding exits_in
  counted = sym (length_tab (slice_index (words (exits_part a)) 0) (exit_at (words (exits_part a))))

  pub exits_count : (n : ℕ) → n ≡ slice_index (words (exits_part a)) 0 → n ≡ length (decode a).exits
  exits_count n e = e ∙ counted

  pub exits_room : (slice_index (words (exits_part a)) 0 * 2 + 1) * 8 ≤ length (exits_part a)
  unfolding exits_part
  exits_room = omega (arith, k.logged, length_exits a k.size)

  pub exits_few : length (decode a).exits ≤ 32
  exits_few = omega (arith, counted, k.logged)

  module _ (i : ℕ) (h : i < length (decode a).exits) where
    pub exit_counted : i < slice_index (words (exits_part a)) 0
    exit_counted = omega (arith, counted)

    pub exit_room : (i * 2 + 2) * 8 + 8 ≤ length (exits_part a)
    unfolding exits_part
    exit_room = omega (arith, exit_counted, k.logged, length_exits a k.size)

    pub exit_is : (x : Exit Cause) → x ≡ exit_at (words (exits_part a)) i → x ≡ slice_index_or (decode a).exits i no_exit
    unfolding exits_in
    exit_is x e = e ∙ sym (get_or_tab (slice_index (words (exits_part a)) 0) (exit_at (words (exits_part a))) i no_exit exit_counted)

-- the oldest is the first
oldest : (l : List (Exit Cause)) → remove_at l 0 ≡ drop 1 l
unfolding remove_at
oldest l = refl

-- What is left where the log was written, p.
module _ (a : List ℕ) (k : WellFormed a) (p : List ℕ) (z : length p ≡ 520) where
  pub oldest_dropped : 0 < length (decode a).exits → words p ≡ cut_row 2 0 (slice_index (words (exits_part a)) 0) (words (exits_part a))
      → Leaves (put_part 67_624 520 a p) (with_exits (drop 1 (decode a).exits) (decode a))
  oldest_dropped h q = exits_written a k p (drop 1 (decode a).exits) z
      (subst (Stored exit_fields 2 p) (oldest (decode a).exits) (stored_remove exit_fields 2 wide_exit (exits_part a) p (decode a).exits k.exits no_exit 0 h q))

-- `log_exit`: room, then one more.
module _ (l : List (Exit Cause)) where
  pub spared_few : length l ≤ 32 → length (spared l) < 32
  spared_few h = test (length l == 32)
      (λ e. rw (e, length-drop 1 l) (omega arith))
      (λ e. rw e (below (length l) h (eqb-false (length l) 32 e)))
    where
      below : (n : ℕ) → n ≤ 32 → (n ≢ 32) → n < 32
      below n h d = omega arith

pub full_some : (a : List ℕ) (n : ℕ) (c : n ≡ length (decode a).exits) → n ≡ 32 → 0 < length (decode a).exits
full_some a n c e = omega arith

module _ (a : List ℕ) (k : WellFormed a) (n : ℕ) (c : n ≡ length (decode a).exits) where
  pub room_made : n ≡ 32 → (a' : List ℕ) → Leaves a' (with_exits (drop 1 (decode a).exits) (decode a)) → Leaves a' (with_exits (spared (decode a).exits) (decode a))
  room_made e a' h = rw (eq-eqb (length (decode a).exits) 32 (sym c ∙ e)) h

  pub room_there : (n ≢ 32) → Leaves a (with_exits (spared (decode a).exits) (decode a))
  room_there e = rw (ne_eqb (length (decode a).exits) 32 (λ q. e (c ∙ q))) (unchanged a k)

pub logged_room : (a a₁ : List ℕ) → LaidOut a → decode a₁ ≡ with_exits (spared (decode a).exits) (decode a) → length (decode a₁).exits < 32
logged_room a a₁ k e = subst (λ (b : Board). length b.exits < 32) (sym e) (spared_few (decode a).exits (exits_few a k))

module _ (a a₁ : List ℕ) (k : WellFormed a) (h : Leaves a₁ (with_exits (spared (decode a).exits) (decode a))) where
  pub logged_left : (e : Exit Cause) (a₂ : List ℕ) → Leaves a₂ (with_exits ((decode a₁).exits ++ (e ∷ [])) (decode a₁)) → Leaves a₂ (with_exits (logged e (decode a).exits) (decode a))
  logged_left e a₂ m = leaves_as a₂ _ _ (ap (λ (b : Board). with_exits (b.exits ++ (e ∷ [])) b) h.is) m

-- the answer of `exit_of`
module _ (a : List ℕ) (s : sound_area a ≡ true) (x : ℕ) where
  pub cause_served : (c : Option Cause) → c ≡ exit_in x (decode a).exits → Serves (exit_of x) cause_of a (Ok c) a
  cause_served c e = read_serves (exit_of x) a s (exit_of x (decode a)) refl refl (Ok c) refl (ap cause_of e)

-- a search for the first exit of the thread
pub exit_sought : {C : Type 0} (x : ℕ) (l : List (Exit C)) → option_map (λ (e : Exit C). e.cause) (find (λ (e : Exit C). e.thread == x) l) ≡ exit_in x l
exit_sought x [] = refl
exit_sought x (e ∷ l) = test (e.thread == x)
    (λ p. rw p refl)
    (λ p. rw p (exit_sought x l))
