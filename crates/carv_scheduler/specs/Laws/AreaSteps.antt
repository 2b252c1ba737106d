-- What the functions on one part of the board's area leave. Assumes nothing.
use Rattle.std.specs.Prelude.{◌≡◌, ℕ, ◌+◌, ◌*◌, ◌/◌, ◌^◌, ◌<◌, ◌≤◌, List, length, get_or, slice_index, slice_index_or, slice_set, refl, Option, None}
use Rattle.std.proofs.Common.{arith, sym, ◌∙◌, subst, length-set}
use Rattle.std.proofs.Math.Path.{ap}
use Rattle.std.proofs.Math.Seq.{get_or-set_same, get_or-set_other}
use Rattle.std.proofs.Math.ListN.{length-map}
use Rattle.carv_area.specs.Table.{Row, at, put}
use Rattle.carv_area.specs.Laws.Table.{rising_put}
use Rattle.carv_area.specs.Laws.Lists.{length_tab, get_or_tab}
use Rattle.carv_area.specs.Words.{words}
use Rattle.carv_area.specs.Laws.Words.{length_words}
use Rattle.carv_area.specs.Parts.{part, put_part}
use Rattle.carv_area.specs.Laws.Parts.{length_part}
use Rattle.carv_area.specs.Moves.{cut_row, open_row}
use Rattle.carv_area.specs.Rows.{remove_at, insert_at}
use Rattle.carv_area.specs.Keys.{keys, find_in}
use Rattle.carv_area.specs.Laws.Keys.{length_keys}
use Rattle.carv_area.specs.Stored.{Keyed}
use Rattle.carv_area.specs.Laws.Stored.{keyed_of, stored_set, stored_remove, stored_insert}
use Rattle.carv_area.specs.Search.{rank_in}
use Rattle.carv_area.specs.Laws.Search.{ranked}
use Rattle.carv_area.specs.Laws.Lookup.{ids, located, rising_ids, put_insert}
use Rattle.carv_area.specs.Lookup.{Located}
use Rattle.carv_objects.specs.Laws.AreaSteps.{keys_read, rising_set, rising_remove}
use Rattle.carv_scheduler_spec.specs.declared.State.{State}
use Rattle.carv_scheduler_spec.specs.declared.Thread.{Thread}
use Rattle.carv_scheduler_spec.specs.Scheduler.{Board, root_of}
use Rattle.carv_scheduler.specs.Area.{head, threads_part, queue_part, thread_fields, state_at, budget_at, root_at, thread_at, threads_in, decode}
use Rattle.carv_scheduler.specs.Laws.Rows.{row, no_row, wide, set_thread}
use Rattle.carv_scheduler.specs.Laws.Formed.{WellFormed, LaidOut, Leaves, head_written, threads_written}

abbrev pub with_head : (current switches : ℕ) → Board → Board
with_head current switches b = record { registry = b.registry; threads = b.threads; queue = b.queue; current = current; switches = switches; exits = b.exits }

abbrev pub with_threads : List (Row Thread) → Board → Board
with_threads m b = record { registry = b.registry; threads = m; queue = b.queue; current = b.current; switches = b.switches; exits = b.exits }

abbrev pub with_queue : List ℕ → Board → Board
with_queue q b = record { registry = b.registry; threads = b.threads; queue = q; current = b.current; switches = b.switches; exits = b.exits }

-- the lengths of the parts
module _ (a : List ℕ) (z : length a ≡ 68_144) where
  pub length_registry : length (part 0 45_072 a) ≡ 45_072
  length_registry = length_part 0 45_072 a (omega arith)

  pub length_head : length (part 45_072 16 a) ≡ 16
  length_head = length_part 45_072 16 a (omega arith)

  pub length_threads : length (part 45_088 21_512 a) ≡ 21_512
  length_threads = length_part 45_088 21_512 a (omega arith)

  pub length_queue : length (part 66_600 1_024 a) ≡ 1_024
  length_queue = length_part 66_600 1_024 a (omega arith)

-- the place among rising ids of an id that no thread has
pub record Placed (m : List (Row Thread)) (x i : ℕ) : Type 0 where
  pub within : at m x ≡ None → i ≤ length m
  pub is : at m x ≡ None → (t : Thread) → put x t m ≡ insert_at m i (row x t)

-- no thread has the id, which is a 64-bit number, and there is a place
pub record New (m : List (Row Thread)) (x : ℕ) : Type 0 where
  pub fresh : at m x ≡ None
  pub few : length m < 128
  pub fits : x < 2 ^ 64

-- What is read of an area that is laid out.
module _ (a : List ℕ) (k : LaidOut a) where
  counted : slice_index_or (words (threads_part a)) 0 0 ≡ length (decode a).threads
  unfolding threads_in
  counted = sym (length_tab (slice_index (words (threads_part a)) 0) (thread_at (words (threads_part a))))

  keyed : keys 21 (words (threads_part a)) ≡ ids (decode a).threads
  unfolding threads_in
  keyed = keys_read 21 (words (threads_part a)) (thread_at (words (threads_part a))) (λ i. refl)

  pub thread_placed : (t : List ℕ) → t ≡ threads_part a → (x i : ℕ) → i ≡ rank_in (keys 21 (words t)) x → Placed (decode a).threads x i
  thread_placed t et x i e₀ =
      let q : i ≡ rank_in (ids (decode a).threads) x = rw et at e₀ ∙ ap (λ (ks : List ℕ). rank_in ks x) keyed in
      record {
        within = λ n. omega (arith, (ranked (ids (decode a).threads) x).within, length-map (decode a).threads (λ r. r.id));
        is = λ n t. rw q (put_insert (decode a).threads x t n);
      }

  -- there is room for one more
  pub threads_space : length (decode a).threads < 128 → length (threads_part a) ≡ 21_512 → (slice_index (words (threads_part a)) 0 * 21 + 21 + 1) * 8 ≤ length (threads_part a)
  threads_space h z = omega (arith, counted)

  pub place_counted : (i : ℕ) → i ≤ length (decode a).threads → i ≤ slice_index (words (threads_part a)) 0
  place_counted i h = omega (arith, counted)

  pub threads_count : (n : ℕ) → n ≡ slice_index (words (threads_part a)) 0 → n ≡ length (decode a).threads
  threads_count n e = e ∙ counted

  pub threads_room : (slice_index (words (threads_part a)) 0 * 21 + 1) * 8 ≤ length (threads_part a)
  unfolding threads_part
  threads_room = omega (arith, k.few, length_threads a k.size)

  pub threads_keyed : Keyed 21 (threads_part a)
  threads_keyed = keyed_of 21 (threads_part a) (omega arith) threads_room (rw keyed (rising_ids (decode a).threads 0 (2 ^ 64) k.rising))

  pub thread_found : (t : List ℕ) → t ≡ threads_part a → (x : ℕ) (p : Option ℕ) → p ≡ find_in (keys 21 (words t)) x → Located no_row (decode a).threads x p
  thread_found t et x p e = subst (Located no_row (decode a).threads x) (sym (rw et at e ∙ ap (λ (ks : List ℕ). find_in ks x) keyed)) (located no_row (decode a).threads x)

  pub thread_counted : (i : ℕ) → i < length (decode a).threads → i < slice_index (words (threads_part a)) 0
  thread_counted i h = omega (arith, counted)

  module _ (i : ℕ) (h : i < length (decode a).threads) where
    thread_is_at : thread_at (words (threads_part a)) i ≡ slice_index_or (decode a).threads i no_row
    unfolding threads_in
    thread_is_at = sym (get_or_tab (slice_index (words (threads_part a)) 0) (thread_at (words (threads_part a))) i no_row (thread_counted i h))

    pub thread_room : (i * 21 + 21) * 8 + 8 ≤ length (threads_part a)
    unfolding threads_part
    thread_room = omega (arith, thread_counted i h, k.few, length_threads a k.size)

    pub thread_is : (x : Thread) → x ≡ (thread_at (words (threads_part a)) i).it → x ≡ (get_or (decode a).threads i no_row).it
    thread_is x e = e ∙ ap (λ (r : Row Thread). r.it) thread_is_at

    pub thread_state_is : (x : State) → x ≡ state_at (words (threads_part a)) (i * 21 + 2) → x ≡ (get_or (decode a).threads i no_row).it.state
    thread_state_is x e = e ∙ ap (λ (r : Row Thread). r.it.state) thread_is_at

    pub thread_budget_is : (x : Option ℕ) → x ≡ budget_at (words (threads_part a)) (i * 21 + 5) → x ≡ (get_or (decode a).threads i no_row).it.budget
    thread_budget_is x e = e ∙ ap (λ (r : Row Thread). r.it.budget) thread_is_at

    pub thread_root_is : (x : Option ℕ) → x ≡ root_at (words (threads_part a)) (i * 21 + 7) → x ≡ root_of (get_or (decode a).threads i no_row).it
    thread_root_is x e = e ∙ ap (λ (r : Row Thread). root_of r.it) thread_is_at

    pub thread_id_is : (x : ℕ) → x ≡ slice_index (words (threads_part a)) (i * 21 + 1) → x ≡ (get_or (decode a).threads i no_row).id
    thread_id_is x e = e ∙ ap (λ (r : Row Thread). r.id) thread_is_at

-- What is left where one part was written, p.
module _ (a : List ℕ) (k : WellFormed a) (p : List ℕ) where
  pub head_set : (x n : ℕ) (l : List ℕ) → length p ≡ 16 → l ≡ slice_set (words (head a)) 0 x → words p ≡ slice_set l 1 n → Leaves (put_part 45_072 16 a p) (with_head x n (decode a))
  unfolding head
  head_set x n l z e q =
      let w : length (words (part 45_072 16 a)) ≡ 2 = length_words (part 45_072 16 a) ∙ ap (λ (m : ℕ). m / 8) (length_head a k.size) in
      let m : length l ≡ 2 = rw (e, length-set) w in
      head_written a k p x n z
      (ap (λ (u : List ℕ). slice_index u 0) q ∙ get_or-set_other l 1 0 n 0 (λ c. omega arith) ∙ ap (λ (u : List ℕ). slice_index u 0) e ∙ get_or-set_same (words (part 45_072 16 a)) 0 x 0 (omega arith))
      (ap (λ (u : List ℕ). slice_index u 1) q ∙ get_or-set_same l 1 n 0 (omega arith))

  module _ (z : length p ≡ 21_512) where
    pub thread_set : (i x : ℕ) (t : Thread) → i < length (decode a).threads → (get_or (decode a).threads i no_row).id ≡ x → words p ≡ set_thread (words (threads_part a)) i (row x t)
        → Leaves (put_part 45_088 21_512 a p) (with_threads (slice_set (decode a).threads i (row x t)) (decode a))
    unfolding set_thread
    thread_set i x t h same q =
        threads_written a k p (slice_set (decode a).threads i (row x t)) z (stored_set thread_fields 21 wide (threads_part a) p (decode a).threads k.threads i (row x t) h q)
        (rising_set (decode a).threads 0 (2 ^ 64) i no_row (row x t) k.rising (sym same))

    pub thread_inserted : (i x : ℕ) (t : Thread) → Placed (decode a).threads x i → New (decode a).threads x → length (threads_part a) ≡ 21_512
        → words p ≡ set_thread (open_row 21 i (slice_index (words (threads_part a)) 0) (words (threads_part a))) i (row x t)
        → Leaves (put_part 45_088 21_512 a p) (with_threads (put x t (decode a).threads) (decode a))
    unfolding set_thread
    thread_inserted i x t w n y q =
        threads_written a k p (put x t (decode a).threads) z
        (rw (w.is n.fresh t) (stored_insert thread_fields 21 wide (threads_part a) p (decode a).threads k.threads i (row x t) (w.within n.fresh) (let c = k.threads.holds.count in omega (arith, n.few)) q))
        (rising_put (decode a).threads 0 (2 ^ 64) x t (omega arith) n.fits k.rising)

    pub thread_removed : (i : ℕ) → i < length (decode a).threads → words p ≡ cut_row 21 i (slice_index (words (threads_part a)) 0) (words (threads_part a))
        → Leaves (put_part 45_088 21_512 a p) (with_threads (remove_at (decode a).threads i) (decode a))
    thread_removed i h q =
        threads_written a k p (remove_at (decode a).threads i) z (stored_remove thread_fields 21 wide (threads_part a) p (decode a).threads k.threads no_row i h q)
        (rising_remove (decode a).threads 0 (2 ^ 64) i k.rising)

-- The queue.
module _ (a : List ℕ) (k : LaidOut a) where
  pub queue_count : (n : ℕ) → n ≡ slice_index (words (queue_part a)) 0 → n ≡ length (decode a).queue
  queue_count n e = e ∙ sym (length_keys 1 (words (queue_part a)))

  pub queue_room : (i : ℕ) → i < length (decode a).queue → (i + 1) * 8 + 8 ≤ length (queue_part a)
  unfolding queue_part
  queue_room i h = omega (arith, length_keys 1 (words (part 66_600 1_024 a)), k.count, length_queue a k.size)
