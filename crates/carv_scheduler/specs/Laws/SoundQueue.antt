-- Question 1's walk over the queue: its begin, one turn, and its end. Assumes nothing.
use Rattle.std.specs.Prelude.{◌≡◌, ℕ, zero, suc, ◌+◌, ◌*◌, ◌<◌, ◌≤◌, Bool, true, false, not, ◌&&◌, ◌||◌, ◌≢◌, List, length, ◌==◌, nat_eq, slice_index, slice_index_or, slice_set, replicate, refl, None}
use Rattle.std.proofs.Common.{sym, ◌∙◌, subst, ⊎_elim, add-one, arith, get_or-set_same, get_or-set_other, eqb-true, eq-eqb, ne_eqb}
use Rattle.std.proofs.Math.Path.{ap}
use Rattle.std.proofs.lemmas.Bool.{false≢true}
use Rattle.std.proofs.Math.Bool.{or-true, or-false}
use Rattle.std.proofs.lemmas.List.{get_or-replicate}
use Rattle.carv_area.specs.Table.{at}
use Rattle.carv_area.specs.Lists.{tab}
use Rattle.carv_area.specs.Laws.Lists.{apart, same_or_not}
use Rattle.carv_area.specs.Keys.{keys}
use Rattle.carv_budget.proofs.Laws.Account.{first, second}
use Rattle.carv_scheduler_spec.specs.Scheduler.{idle, ready, is, thread, has}
use Rattle.carv_scheduler_spec.specs.Sound.{member, distinct}
use Rattle.carv_scheduler_spec.proofs.Laws.Reading.{member_join, distinct_join, distinct_first, distinct_rest}
use Rattle.carv_scheduler.specs.Area.{threads_in}
use Rattle.carv_scheduler.specs.Laws.SoundWalk.{id_at, key_at, Rise, Fits, Fit, queued, SoundQueue, Walk}
use Rattle.carv_scheduler.specs.Laws.Listed.{each_out, each_in, ready_at}
use Rattle.carv_scheduler.specs.Laws.SoundRows.{tab_snoc, one_more, key_is, Stands, stands_has, stands_thread, missing_has}

-- ---- ids of a list made of a function

member_tab : (n : ℕ) (f : ℕ → ℕ) (k : ℕ) → k < n → member (f k) (tab n f) ≡ true
unfolding tab
member_tab zero f k l = absurd (omega arith)
member_tab (suc n) f zero l = rw (eq-eqb (f zero) (f zero) refl)
member_tab (suc n) f (suc k) l = rw (member_tab n (λ i. f (suc i)) k (omega arith)) (or-true (f zero == f (suc k)))

-- of distinct ids none stands before
distinct_tab : (n : ℕ) (f : ℕ → ℕ) → distinct (tab n f) ≡ true → (j : ℕ) → j < n → member (f j) (tab j f) ≡ false
unfolding tab
distinct_tab zero f d j l = absurd (omega arith)
distinct_tab (suc n) f d zero l = refl
distinct_tab (suc n) f d (suc j) l =
    let g : ℕ → ℕ = λ i. f (suc i) in
    let m : member (f zero) (tab n g) ≡ false = distinct_first (f zero) (tab n g) d in
    let z : nat_eq (f zero) (f (suc j)) ≡ false = ne_eqb (f zero) (f (suc j)) (λ e. false≢true (sym m ∙ rw e (member_tab n g j (omega arith)))) in
    rw z (distinct_tab n g (distinct_rest (f zero) (tab n g) d) j (omega arith))

-- ---- begin

pub walk_none : (w v : List ℕ) → slice_index w 0 ≤ 128 → Walk w v 0 (replicate 128 false)
unfolding tab
walk_none w v few = record {
  queued = λ k l. absurd (omega arith);
  distinct = refl;
  marks = λ k l. get_or-replicate 128 k false false (omega arith);
}

-- ---- one turn. x is the id at place j

-- a sound queue's id passes its test
asked : {w v : List ℕ} (j x : ℕ) → x ≡ slice_index v (j + 1) → j < slice_index v 0 → SoundQueue w v → queued w x ≡ true
unfolding keys
asked {w} {v} j x e l S = rw (e, key_is v j) (each_out (queued w) (slice_index v 0) (key_at v) S.queued j l)

module _ {w v : List ℕ} {j x : ℕ} (e : x ≡ slice_index v (j + 1)) (l : j < slice_index v 0) where
  pub off_idle : x ≡ idle → SoundQueue w v → ⊥
  off_idle q S = false≢true (rw (eq-eqb x idle q) at (asked j x e l S))

  rest : SoundQueue w v → (has (threads_in w) x && is ready (thread (threads_in w) x)) ≡ true
  rest S = second (not (x == idle)) (has (threads_in w) x && is ready (thread (threads_in w) x)) (asked j x e l S)

  pub off_missing : at (threads_in w) x ≡ None → SoundQueue w v → ⊥
  off_missing q S = missing_has w x q (first (has (threads_in w) x) (is ready (thread (threads_in w) x)) (rest S))

  module _ {i : ℕ} (s : Stands w x i) where
    pub off_state : (slice_index w (i * 21 + 2) ≢ 2) → SoundQueue w v → ⊥
    off_state ne S =
        let r : is ready (thread (threads_in w) x) ≡ true = second (has (threads_in w) x) (is ready (thread (threads_in w) x)) (rest S) in
        ne (eqb-true (slice_index w (i * 21 + 2)) 2 (sym (ap (is ready) (stands_thread s) ∙ ready_at w i) ∙ r))

    module _ {ms : List Bool} (W : Walk w v j ms) where
      -- the id is the one at place i
      same_id : key_at v j ≡ id_at w i
      same_id = sym (key_is v j) ∙ sym e ∙ sym s.id

      pub off_marked : slice_index_or ms i false ≡ true → SoundQueue w v → ⊥
      unfolding keys
      off_marked h S =
          let m : member (key_at v j) (tab j (key_at v)) ≡ false = distinct_tab (slice_index v 0) (key_at v) S.distinct j l in
          let m' : member (id_at w i) (tab j (key_at v)) ≡ false = rw same_id at m in
          false≢true (sym m' ∙ sym (W.marks i s.inside) ∙ h)

      module _ (o : Rise w (slice_index w 0)) (busy : x ≡ idle → ⊥) (state : slice_index w (i * 21 + 2) ≡ 2) (free : slice_index_or ms i false ≡ false) (inside : i < length ms) where
        passes : queued w (key_at v j) ≡ true
        passes = rw (← key_is v j, ← e, ne_eqb x idle busy, stands_has s, stands_thread s, ready_at w i) (eq-eqb (slice_index w (i * 21 + 2)) 2 state)

        new : member (key_at v j) (tab j (key_at v)) ≡ false
        new = rw same_id (sym (W.marks i s.inside) ∙ free)

        -- one id more in the queue
        joined : (k : ℕ) → member (id_at w k) (tab (j + 1) (key_at v)) ≡ (member (id_at w k) (tab j (key_at v)) || id_at w i == id_at w k)
        joined k = rw (add-one j, tab_snoc j (key_at v), ← same_id) (member_join (id_at w k) (tab j (key_at v)) (key_at v j))

        other : (k : ℕ) → k < slice_index w 0 → k ≢ i → (id_at w i == id_at w k) ≡ false
        other k h ne = ne_eqb (id_at w i) (id_at w k) (λ q. ⊎_elim
            (λ (a : k < i). omega (arith, o k i a s.inside))
            (λ (a : i < k). omega (arith, o i k a h))
            (apart k i ne))

        pub walk_on : Walk w v (j + 1) (slice_set ms i true)
        walk_on = record {
          queued = one_more (λ (k : ℕ). queued w (key_at v k) ≡ true) j W.queued passes;
          distinct = rw (add-one, tab_snoc) (distinct_join (tab j (key_at v)) (key_at v j) W.distinct new);
          marks = λ k h. ⊎_elim
              (λ (q : k ≡ i). rw (q, joined i, eq-eqb (id_at w i) (id_at w i) refl, or-true (member (id_at w i) (tab j (key_at v))))
              (get_or-set_same ms i true false inside))
              (λ (q : k ≢ i). rw (joined k, other k h q, or-false (member (id_at w k) (tab j (key_at v))))
              (get_or-set_other ms i k true false q ∙ W.marks k h))
              (same_or_not k i);
        }

-- ---- end

module _ {w v : List ℕ} {ms : List Bool} (W : Walk w v (slice_index v 0) ms) where
  pub walk_sound : SoundQueue w v
  unfolding keys
  walk_sound = record { distinct = W.distinct; queued = each_in (queued w) (slice_index v 0) (key_at v) W.queued }

  marks_are : (k : ℕ) → k < slice_index w 0 → slice_index_or ms k false ≡ member (id_at w k) (keys 1 v)
  unfolding keys
  marks_are k l = W.marks k l

-- the threads by their marks, and by the queue
module _ {w v : List ℕ} {ms : List Bool} (W : Walk w v (slice_index v 0) ms) (c n : ℕ) (e : n ≡ slice_index w 0) where
  pub fit_out : Fit w c n ms → (k : ℕ) → k < slice_index w 0 → Fits w c k (member (id_at w k) (keys 1 v))
  fit_out F k l = subst (Fits w c k) (marks_are W k l) (F k (omega arith))

  pub fit_in : ((k : ℕ) → k < slice_index w 0 → Fits w c k (member (id_at w k) (keys 1 v))) → Fit w c n ms
  fit_in F k l = subst (Fits w c k) (sym (marks_are W k (omega arith))) (F k (omega arith))
