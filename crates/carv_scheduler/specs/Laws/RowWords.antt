-- Words of a thread record, read and written where they stand. Assumes nothing.
use Rattle.std.specs.Prelude.{◌≡◌, ℕ, zero, suc, ◌+◌, ◌*◌, ◌%◌, ◌^◌, ◌<◌, ◌≤◌, List, [], ◌∷◌, length, get_or, slice_index, slice_index_or, slice_set}
use Rattle.std.proofs.Common.{arith, sym, ◌∙◌, length-set, set-set}
use Rattle.std.proofs.Math.Path.{refl, ap}
use Rattle.std.proofs.lemmas.List.Edits.{sets}
use Rattle.std.proofs.Math.Seq.{length-sets}
use Rattle.std.proofs.lemmas.List.{set_comm, set-get_or}
use Rattle.carv_area.specs.Table.{Row, alter}
use Rattle.carv_area.specs.Words.{words}
use Rattle.carv_area.specs.Parts.{put_part}
use Rattle.carv_area.specs.Rows.{Holds}
use Rattle.carv_area.specs.Laws.Rows.{holds_word, holds_set, holds_inj}
use Rattle.carv_area.specs.Lookup.{Here}
use Rattle.carv_scheduler_spec.specs.declared.State.{State}
use Rattle.carv_scheduler_spec.specs.declared.State.TheVariants.{Ready}
use Rattle.carv_scheduler_spec.specs.declared.Results.{Results}
use Rattle.carv_scheduler_spec.specs.declared.Thread.{Thread}
use Rattle.carv_scheduler_spec.specs.Scheduler.{become, woken, ticked}
use Rattle.carv_scheduler_spec.specs.Codes.{state_word, kind_word, number_word}
use Rattle.carv_scheduler.specs.Area.{threads_part, thread_fields, decode}
use Rattle.carv_scheduler.specs.Laws.Rows.{row, no_row, wide, set_state, set_results, set_ticks, set_woken, set_thread}
use Rattle.carv_scheduler.specs.Laws.Formed.{WellFormed, Leaves}
use Rattle.carv_scheduler.specs.Laws.AreaSteps.{with_threads, thread_set}

-- the row r with another state
abbrev pub with_state : State → Row Thread → Row Thread
with_state s r = row r.id (become s r.it)

-- the thread x, by its place
pub state_of : (m : List (Row Thread)) (x i : ℕ) → Here no_row m x i → (s : State) → slice_set m i (with_state s (slice_index_or m i no_row)) ≡ alter x (become s) m
state_of m x i h s = rw h.same (sym (h.changed (become s)))

-- a run of stores, and one more before it or in it, or a run in it

sets_past : (l : List ℕ) (o j v : ℕ) (vs : List ℕ) → j < o → slice_set (sets l o vs) j v ≡ sets (slice_set l j v) o vs
sets_past l o j v [] h = refl
sets_past l o j v (x ∷ vs) h = sets_past (slice_set l o x) (suc o) j v vs (omega arith) ∙ ap (λ (m : List ℕ). sets m (suc o) vs) (set_comm l o j x v (λ e. omega arith))

sets_set : (l : List ℕ) (o : ℕ) (vs : List ℕ) (c v k : ℕ) → c < length vs → k ≡ o + c → slice_set (sets l o vs) k v ≡ sets l o (slice_set vs c v)
sets_set l o [] c v k h e = absurd (omega arith)
sets_set l o (x ∷ vs) zero v k h e =
    let q : k ≡ o = omega arith in
    rw q (sets_past (slice_set l o x) (suc o) o v vs (omega arith) ∙ ap (λ (m : List ℕ). sets m (suc o) vs) (set-set l o x v))
sets_set l o (x ∷ vs) (suc c) v k h e = sets_set (slice_set l o x) (suc o) vs c v k (omega arith) (omega arith)

sets_sets : (l : List ℕ) (o : ℕ) (vs : List ℕ) (c : ℕ) (us : List ℕ) (k : ℕ) → c + length us ≤ length vs → k ≡ o + c → sets (sets l o vs) k us ≡ sets l o (sets vs c us)
sets_sets l o vs c [] k h e = refl
sets_sets l o vs c (u ∷ us) k h e =
    ap (λ (m : List ℕ). sets m (suc k) us) (sets_set l o vs c u k (omega arith) e)
    ∙ sets_sets l o (slice_set vs c u) (suc c) us (suc k) (let z = length-set vs c u in omega arith) (omega arith)

-- the words of a record, vs, in which some are written

some_set : (l : List ℕ) (i : ℕ) (vs : List ℕ) → length vs ≡ 21 → (c : ℕ) (us : List ℕ) → c + length us ≤ 21 → (k : ℕ) → k ≡ i * 21 + 1 + c
    → sets (sets l (i * 21 + 1) vs) k us ≡ sets l (i * 21 + 1) (sets vs c us)
some_set l i vs z c us h k e = sets_sets l (i * 21 + 1) vs c us k (omega arith) e

-- the words of a table of threads
module _ (l : List ℕ) (rows : List (Row Thread)) (h : Holds thread_fields 21 l rows) (i : ℕ) (a : i < length rows) where
  -- a record that is stored where it stands
  row_same : sets l (i * 21 + 1) (thread_fields (slice_index_or rows i no_row)) ≡ l
  row_same =
      let k : Holds thread_fields 21 (sets l (i * 21 + 1) (thread_fields (slice_index_or rows i no_row))) rows =
      rw (set-get_or rows i no_row) at (holds_set thread_fields 21 wide l rows h i (slice_index_or rows i no_row) a) in
      holds_inj thread_fields 21 wide _ l rows k h (length-sets l (i * 21 + 1) (thread_fields (slice_index_or rows i no_row)))

  state_set : (s : State) → set_state l i s ≡ set_thread l i (with_state s (slice_index_or rows i no_row))
  unfolding set_state set_thread
  state_set s =
      ap (λ (m : List ℕ). set_state m i s) (sym row_same)
      ∙ some_set l i (thread_fields (slice_index_or rows i no_row)) refl 1 (state_word s ∷ kind_word s ∷ number_word s ∷ []) (omega arith) (i * 21 + 2) (omega arith)

  woken_set : (r : Results) → set_woken l i r ≡ set_thread l i (row (get_or rows i no_row).id (woken r (get_or rows i no_row).it))
  unfolding set_results set_thread
  woken_set r =
      ap (λ (m : List ℕ). set_results m i r) (state_set Ready)
      ∙ some_set l i (thread_fields (with_state Ready (slice_index_or rows i no_row))) refl 17 (r.first ∷ r.second ∷ r.third ∷ []) (omega arith) (i * 21 + 18) (omega arith)

  ticks_set : (n : ℕ) → n ≡ (slice_index l (i * 21 + 21) + 1) % 2 ^ 64 → set_ticks l i n ≡ set_thread l i (row (get_or rows i no_row).id (ticked (get_or rows i no_row).it))
  unfolding set_ticks set_thread
  ticks_set n e =
      let w : get_or l (i * 21 + 21) 0 ≡ (get_or rows i no_row).it.ticks = holds_word thread_fields 21 wide l rows h i 20 no_row a (omega arith) in
      rw (e, w) (ap (λ (m : List ℕ). set_ticks m i (((get_or rows i no_row).it.ticks + 1) % 2 ^ 64)) (sym row_same)
      ∙ some_set l i (thread_fields (slice_index_or rows i no_row)) refl 20 (((get_or rows i no_row).it.ticks + 1) % 2 ^ 64 ∷ []) (omega arith) (i * 21 + 21) (omega arith))

-- What is left of a well-formed area where one part was written, p.
module _ (a : List ℕ) (k : WellFormed a) (i : ℕ) (h : i < length (decode a).threads) where
  module _ (p : List ℕ) (z : length p ≡ 21_512) where
    pub thread_state : (s : State) → words p ≡ set_state (words (threads_part a)) i s
        → Leaves (put_part 45_088 21_512 a p) (with_threads (slice_set (decode a).threads i (with_state s (slice_index_or (decode a).threads i no_row))) (decode a))
    thread_state s q = thread_set a k p z i _ _ h refl (q ∙ state_set (words (threads_part a)) (decode a).threads k.threads.holds i h s)

    pub thread_woken : (r : Results) → words p ≡ set_woken (words (threads_part a)) i r
        → Leaves (put_part 45_088 21_512 a p) (with_threads (slice_set (decode a).threads i (row (get_or (decode a).threads i no_row).id (woken r (get_or (decode a).threads i no_row).it))) (decode a))
    thread_woken r q = thread_set a k p z i _ _ h refl (q ∙ woken_set (words (threads_part a)) (decode a).threads k.threads.holds i h r)

    pub thread_ticked : (n : ℕ) → n ≡ (slice_index (words (threads_part a)) (i * 21 + 21) + 1) % 2 ^ 64 → words p ≡ set_ticks (words (threads_part a)) i n
        → Leaves (put_part 45_088 21_512 a p) (with_threads (slice_set (decode a).threads i (row (get_or (decode a).threads i no_row).id (ticked (get_or (decode a).threads i no_row).it))) (decode a))
    thread_ticked n e q = thread_set a k p z i _ _ h refl (q ∙ ticks_set (words (threads_part a)) (decode a).threads k.threads.holds i h n e)
