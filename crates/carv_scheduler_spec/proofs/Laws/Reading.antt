-- What is read of the threads after their table is written, and of the queue after an id joins or leaves it. Assumes nothing.
use Rattle.std.specs.Prelude.{◌≡◌, refl, Bool, true, false, cond, not, ◌&&◌, ◌||◌, List, [], ◌∷◌, ℕ, suc, ◌<◌, eqb, Option, Some, None}
use Rattle.std.proofs.Common.{sym, ◌∙◌, ap, true≢false, arith, eqb-true, eq-eqb, ne_eqb}
use Rattle.std.proofs.lemmas.Bool.{false≢true, eqb-false, not-true}
use Rattle.carv_area.specs.Laws.Table
use Rattle.carv_area.specs.Table.{Row, at, alter, erase, put, pick, Rising}
use Rattle.carv_area.specs.Laws.Table.{test}
use Rattle.carv_budget.proofs.Laws.Account.{first, second}
use Rattle.carv_scheduler_spec.specs.declared.Thread.{Thread}
use Rattle.carv_scheduler_spec.specs.declared.State.TheVariants.{Inactive}
use Rattle.carv_scheduler_spec.specs.Scheduler.{fresh, or_fresh, found, thread, has, join, without}
use Rattle.carv_scheduler_spec.specs.Sound.{member, distinct}

-- Tests.

pub or_false : (b : Bool) → (b || false) ≡ b
or_false true = refl
or_false false = refl

pub and_false : (b : Bool) → (b && false) ≡ false
and_false true = refl
and_false false = refl

pub or_true : (b : Bool) {c : Bool} → c ≡ true → (b || c) ≡ true
or_true true h = refl
or_true false h = h

pub neither : (b c : Bool) → (b || c) ≡ false → (b ≡ false) × (c ≡ false)
neither true c h = absurd (true≢false h)
neither false c h = (refl, h)

pub eqb_turned : (i j : ℕ) → eqb i j ≡ false → eqb j i ≡ false
eqb_turned i j h = ne_eqb j i (λ q. eqb-false i j h (sym q))

-- Threads.

module _ (m : List (Row Thread)) where
  -- a thread that is there has its record, and one that is not reads as a fresh one
  pub there : (i : ℕ) → has m i ≡ true → at m i ≡ Some (thread m i)
  there i h = go (at m i) refl
    where
      go : (o : Option Thread) → at m i ≡ o → at m i ≡ Some (thread m i)
      go None q = absurd (false≢true (sym (ap found q) ∙ h))
      go (Some t) q = q ∙ sym (ap (λ (o : Option Thread). Some (or_fresh o)) q)

  pub absent : (i : ℕ) → has m i ≡ false → thread m i ≡ fresh Inactive None
  absent i h = go (at m i) refl
    where
      go : (o : Option Thread) → at m i ≡ o → thread m i ≡ fresh Inactive None
      go None q = ap or_fresh q
      go (Some t) q = absurd (true≢false (sym (ap found q) ∙ h))

  -- after thread i goes by f
  module _ (i : ℕ) (f : Thread → Thread) (h : has m i ≡ true) where
    pub thread_alter : (j : ℕ) → thread (alter i f m) j ≡ cond (eqb i j) (f (thread m i)) (thread m j)
    thread_alter j = test (eqb i j)
        (λ a. rw (← eqb-true i j a, eq-eqb i i refl) (ap or_fresh (Table.at_alter m i f (thread m i) (there i h))))
        (λ a. rw a (ap or_fresh (Table.at_alter_other m i j f (eqb-false i j a))))

    pub has_alter : (j : ℕ) → has (alter i f m) j ≡ has m j
    has_alter j = test (eqb i j)
        (λ a. rw (← eqb-true i j a) (ap found (Table.at_alter m i f (thread m i) (there i h)) ∙ sym h))
        (λ a. ap found (Table.at_alter_other m i j f (eqb-false i j a)))

  -- after thread i is gone
  module _ (i l n : ℕ) (u : Rising l n m) where
    pub thread_erase : (j : ℕ) → thread (erase i m) j ≡ cond (eqb i j) (fresh Inactive None) (thread m j)
    thread_erase j = test (eqb i j)
        (λ a. rw (← eqb-true i j a, eq-eqb i i refl) (ap or_fresh (Table.at_erase m l n i u)))
        (λ a. rw a (ap or_fresh (Table.at_erase_other m i j (eqb-false i j a))))

    pub has_erase : (j : ℕ) → has (erase i m) j ≡ (not (eqb i j) && has m j)
    has_erase j = test (eqb i j)
        (λ a. rw (← eqb-true i j a, eq-eqb i i refl) (ap found (Table.at_erase m l n i u)))
        (λ a. rw a (ap found (Table.at_erase_other m i j (eqb-false i j a))))

  -- after t is put under i
  module _ (i : ℕ) (t : Thread) where
    pub thread_put : (j : ℕ) → thread (put i t m) j ≡ cond (eqb i j) t (thread m j)
    thread_put j = test (eqb i j)
        (λ a. rw (← eqb-true i j a, eq-eqb i i refl) (ap or_fresh (Table.at_put m i t)))
        (λ a. rw a (ap or_fresh (Table.at_put_other m i j t (eqb-false i j a))))

    pub has_put : (j : ℕ) → has (put i t m) j ≡ (eqb i j || has m j)
    has_put j = test (eqb i j)
        (λ a. rw (← eqb-true i j a, eq-eqb i i refl) (ap found (Table.at_put m i t)))
        (λ a. rw a (ap found (Table.at_put_other m i j t (eqb-false i j a))))

-- The queue.

pub member_join : (j : ℕ) (q : List ℕ) (i : ℕ) → member j (join q i) ≡ (member j q || eqb i j)
member_join j [] i = or_false (eqb i j)
member_join j (k ∷ q) i = test (eqb k j) (λ a. rw a) (λ a. rw a (member_join j q i))

pub member_without : (j : ℕ) (q : List ℕ) (i : ℕ) → member j (without i q) ≡ (not (eqb i j) && member j q)
member_without j [] i = sym (and_false (not (eqb i j)))
member_without j (k ∷ q) i = test (eqb k i)
    (λ a. let z = eqb-true k i a in rw (a, z) (test (eqb i j) (λ b. rw (member_without j q i, b)) (λ b. rw (b, member_without j q i, b))))
    (λ a. rw a (test (eqb k j)
    (λ b. rw b (rw (ne_eqb i j (λ z. eqb-false k i a (eqb-true k j b ∙ sym z)))))
    (λ b. rw b (member_without j q i))))

-- a queue's first is not in the rest, and the rest is distinct
pub distinct_first : (i : ℕ) (q : List ℕ) → distinct (i ∷ q) ≡ true → member i q ≡ false
distinct_first i q d = not-true (member i q) (first (not (member i q)) (distinct q) d)

pub distinct_rest : (i : ℕ) (q : List ℕ) → distinct (i ∷ q) ≡ true → distinct q ≡ true
distinct_rest i q d = second (not (member i q)) (distinct q) d

pub distinct_join : (q : List ℕ) (i : ℕ) → distinct q ≡ true → member i q ≡ false → distinct (join q i) ≡ true
distinct_join [] i d h = refl
distinct_join (k ∷ q) i d h =
    let (a, h') = neither (eqb k i) (member i q) h in
    rw (member_join k q i, distinct_first k q d, eqb_turned k i a, distinct_join q i (distinct_rest k q d) h')

pub distinct_without : (q : List ℕ) (i : ℕ) → distinct q ≡ true → distinct (without i q) ≡ true
distinct_without [] i d = refl
distinct_without (k ∷ q) i d = test (eqb k i)
    (λ a. rw a (distinct_without q i (distinct_rest k q d)))
    (λ a. rw (a, member_without k q i, distinct_first k q d, eqb_turned k i a, distinct_without q i (distinct_rest k q d)))

-- an id that is not in the queue leaves it as it is
pub without_absent : (i : ℕ) (q : List ℕ) → member i q ≡ false → without i q ≡ q
without_absent i [] h = refl
without_absent i (k ∷ q) h =
    let (a, h') = neither (eqb k i) (member i q) h in
    rw a (ap (λ (l : List ℕ). k ∷ l) (without_absent i q h'))

-- Rows that pass a test: their ids are distinct.

module _ {A : Type 0} (p : A → Bool) where
  pub pick_below : (m : List (Row A)) (l n i : ℕ) → Rising l n m → i < l → member i (pick p m) ≡ false
  pick_below [] l n i u h = refl
  pick_below (r ∷ m) l n i u h =
      let low = u.0 in
      let rest = pick_below m (suc r.id) n i u.1 (omega arith) in
      test (p r.it) (λ a. rw (a, ne_eqb r.id i (λ q. omega arith)) rest) (λ a. rw a rest)

  pub pick_distinct : (m : List (Row A)) (l n : ℕ) → Rising l n m → distinct (pick p m) ≡ true
  pick_distinct [] l n u = refl
  pick_distinct (r ∷ m) l n u =
      let rest = pick_distinct m (suc r.id) n u.1 in
      test (p r.it) (λ a. rw (a, pick_below m (suc r.id) n r.id u.1 (omega arith)) rest) (λ a. rw a rest)
