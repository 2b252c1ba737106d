-- The laws of `Table`: what `at`, the order of the ids and the total are after `alter`, `erase`, `put` and a row behind the others; alterations after one another; and a split on a
-- test. Assumes nothing.
use Rattle.std.specs.Prelude.{◌≡◌, Bool, true, false, cond, eqb, ltb, length, Option, Some, None}
use Rattle.std.proofs.Math.Path.{refl}
use Rattle.std.proofs.Common.{sym, ◌∙◌, ap, suc-add}
use mathlib.Core.List.{List, [], ◌∷◌, ◌++◌}
use Prim.Native.Nat.{ℕ, zero, suc, ◌+◌, ◌≤◌, ◌<◌}
use native.Mathlib.Omega.{arith}
use Rattle.std.proofs.Math.Nat.{add-suc}
use borrow.Author.Tests.{eqb-true, eqb-false, eq-eqb, ne_eqb, ltb-true, ltb-false}
use Rattle.carv_area.specs.Table.{Row, at, alter, erase, total, Rising, put, pick}

-- a split on a test: each arm has the test's value as an equation
pub test {ℓ} : {C : Type ℓ} (b : Bool) → (b ≡ true → C) → (b ≡ false → C) → C
test true t f = t refl
test false t f = f refl

module _ {A : Type 0} where
  pub at_alter : (m : List (Row A)) (i : ℕ) (f : A → A) (a : A) → at m i ≡ Some a → at (alter i f m) i ≡ Some (f a)
  at_alter [] i f a h = cc
  at_alter (r ∷ m) i f a h =
      test (eqb r.id i)
      (λ e. let h' : Some r.it ≡ Some a = rw e at h in rw (e, eq-eqb i i refl) cc)
      (λ e. rw (e, e) (at_alter m i f a (rw e at h)))

  pub at_alter_other : (m : List (Row A)) (i j : ℕ) (f : A → A) → (i ≡ j → ⊥) → at (alter i f m) j ≡ at m j
  at_alter_other [] i j f h = refl
  at_alter_other (r ∷ m) i j f h =
      test (eqb r.id i)
      (λ e. rw (e, ne_eqb i j h, ne_eqb r.id j (λ q. h (sym (eqb-true r.id i e) ∙ q))))
      (λ e. rw e (ap (λ (o : Option A). cond (eqb r.id j) (Some r.it) o) (at_alter_other m i j f h)))

  -- what an alteration leaves is read as before, under any id
  pub at_alter_same {ℓ} : {B : Type ℓ} (h : Option A → B) (i : ℕ) (f : A → A) → ((a : A) → h (Some (f a)) ≡ h (Some a)) → (m : List (Row A)) (j : ℕ) → h (at (alter i f m) j) ≡ h (at m j)
  at_alter_same h i f k [] j = refl
  at_alter_same h i f k (r ∷ m) j = test (eqb r.id i)
      (λ e. rw (e, eqb-true r.id i e) (test (eqb i j) (λ d. rw d (k r.it)) (λ d. rw d)))
      (λ e. rw e (test (eqb r.id j) (λ d. rw d) (λ d. rw d (at_alter_same h i f k m j))))

  -- what stands under i decides what an alteration does
  pub alter_known : (m : List (Row A)) (i : ℕ) (f g : A → A) (a : A) → at m i ≡ Some a → f a ≡ g a → alter i f m ≡ alter i g m
  alter_known [] i f g a h q = refl
  alter_known (r ∷ m) i f g a h q = test (eqb r.id i)
      (λ e. let h' : Some r.it ≡ Some a = rw e at h in let x : r.it ≡ a = cc in rw (e, x, q))
      (λ e. rw e (ap (◌∷◌ r) (alter_known m i f g a (rw e at h) q)))

  pub alter_alter : (m : List (Row A)) (i : ℕ) (f g : A → A) → alter i g (alter i f m) ≡ alter i (λ a. g (f a)) m
  alter_alter [] i f g = refl
  alter_alter (r ∷ m) i f g = test (eqb r.id i)
      (λ e. rw (e, eq-eqb i i refl))
      (λ e. rw (e, e) (ap (◌∷◌ r) (alter_alter m i f g)))

  pub alter_id : (m : List (Row A)) (i : ℕ) → alter i (λ a. a) m ≡ m
  alter_id [] i = refl
  alter_id (r ∷ m) i = test (eqb r.id i)
      (λ e. rw (e, ← eqb-true r.id i e))
      (λ e. rw e (ap (◌∷◌ r) (alter_id m i)))

  -- alterations that commute under one id commute
  pub alter_swap : (m : List (Row A)) (i j : ℕ) (f g : A → A) → ((a : A) → f (g a) ≡ g (f a)) → alter i f (alter j g m) ≡ alter j g (alter i f m)
  alter_swap [] i j f g h = refl
  alter_swap (r ∷ m) i j f g h = test (eqb r.id i)
      (λ e. let q = eqb-true r.id i e in test (eqb r.id j)
      (λ d. let w = eqb-true r.id j d in rw (e, d, ← q, ← w, eq-eqb r.id r.id refl) (rw h))
      (λ d. rw (e, d, e, rw q at d)))
      (λ e. test (eqb r.id j)
      (λ d. let w = eqb-true r.id j d in rw (e, d, rw w at e))
      (λ d. rw (e, d, e) (ap (◌∷◌ r) (alter_swap m i j f g h))))

  -- an alteration and the removal of another id commute
  pub erase_alter : (m : List (Row A)) (i p : ℕ) (f : A → A) → (i ≡ p → ⊥) → erase i (alter p f m) ≡ alter p f (erase i m)
  erase_alter [] i p f h = refl
  erase_alter (r ∷ m) i p f h = test (eqb r.id i)
      (λ e. rw (ne_eqb r.id p (λ q. h (sym (eqb-true r.id i e) ∙ q)), e))
      (λ e. test (eqb r.id p)
      (λ d. rw (e, d, ne_eqb p i (λ q. h (sym q))))
      (λ d. rw (e, d, e) (ap (◌∷◌ r) (erase_alter m i p f h))))

  pub at_snoc : (m : List (Row A)) (i j : ℕ) (a : A) → at m i ≡ None → at (m ++ (record { id = i; it = a } ∷ [])) i ≡ Some a
  at_snoc [] i j a h = rw (eq-eqb i i refl)
  at_snoc (r ∷ m) i j a h =
      test (eqb r.id i)
      (λ e. let h' : Some r.it ≡ None = rw e at h in cc)
      (λ e. rw e (at_snoc m i j a (rw e at h)))

  pub at_snoc_other : (m : List (Row A)) (i j : ℕ) (a : A) → (i ≡ j → ⊥) → at (m ++ (record { id = i; it = a } ∷ [])) j ≡ at m j
  at_snoc_other [] i j a h = rw (ne_eqb i j h)
  at_snoc_other (r ∷ m) i j a h = ap (λ (o : Option A). cond (eqb r.id j) (Some r.it) o) (at_snoc_other m i j a h)

  pub at_erase_other : (m : List (Row A)) (i j : ℕ) → (i ≡ j → ⊥) → at (erase i m) j ≡ at m j
  at_erase_other [] i j h = refl
  at_erase_other (r ∷ m) i j h =
      test (eqb r.id i)
      (λ e. rw (e, ne_eqb r.id j (λ q. h (sym (eqb-true r.id i e) ∙ q))))
      (λ e. rw e (ap (λ (o : Option A). cond (eqb r.id j) (Some r.it) o) (at_erase_other m i j h)))

  pub at_below : (m : List (Row A)) (l n i : ℕ) → Rising l n m → i < l → at m i ≡ None
  at_below [] l n i u h = refl
  at_below (r ∷ m) l n i u h =
      rw (ne_eqb r.id i (λ q. let z = u.0 in omega arith))
      (at_below m (suc r.id) n i u.1 (let z = u.0 in omega arith))

  pub rising_le : (m : List (Row A)) (l n : ℕ) → Rising l n m → l ≤ n
  rising_le [] l n u = u
  rising_le (r ∷ m) l n u = let z = rising_le m (suc r.id) n u.1 in omega arith

  pub at_above : (m : List (Row A)) (l n i : ℕ) → Rising l n m → n ≤ i → at m i ≡ None
  at_above [] l n i u h = refl
  at_above (r ∷ m) l n i u h =
      rw (ne_eqb r.id i (λ q. let z = rising_le m (suc r.id) n u.1 in omega arith))
      (at_above m (suc r.id) n i u.1 h)

  pub at_erase : (m : List (Row A)) (l n i : ℕ) → Rising l n m → at (erase i m) i ≡ None
  at_erase [] l n i u = refl
  at_erase (r ∷ m) l n i u =
      test (eqb r.id i)
      (λ e. rw e (at_below m (suc r.id) n i u.1 (omega (arith, eqb-true r.id i e))))
      (λ e. rw (e, e) (at_erase m (suc r.id) n i u.1))

  pub rising_weaken : (m : List (Row A)) (k l n : ℕ) → k ≤ l → Rising l n m → Rising k n m
  rising_weaken [] k l n h u = omega arith
  rising_weaken (r ∷ m) k l n h u = (omega arith, u.1)

  pub rising_alter : (m : List (Row A)) (l n i : ℕ) (f : A → A) → Rising l n m → Rising l n (alter i f m)
  rising_alter [] l n i f u = u
  rising_alter (r ∷ m) l n i f u =
      test (eqb r.id i)
      (λ e. rw e (let q = eqb-true r.id i e in rw q at u))
      (λ e. rw e (u.0, rising_alter m (suc r.id) n i f u.1))

  pub rising_erase : (m : List (Row A)) (l n i : ℕ) → Rising l n m → Rising l n (erase i m)
  rising_erase [] l n i u = u
  rising_erase (r ∷ m) l n i u =
      test (eqb r.id i)
      (λ e. rw e (rising_weaken m l (suc r.id) n (omega arith) u.1))
      (λ e. rw e (u.0, rising_erase m (suc r.id) n i u.1))

  pub rising_snoc : (m : List (Row A)) (l n : ℕ) (a : A) → Rising l n m → Rising l (suc n) (m ++ (record { id = n; it = a } ∷ []))
  rising_snoc [] l n a u = (u, omega arith)
  rising_snoc (r ∷ m) l n a u = (u.0, rising_snoc m (suc r.id) n a u.1)

  pub total_alter : (w : ℕ → A → ℕ) (m : List (Row A)) (i : ℕ) (f : A → A) (a : A) → at m i ≡ Some a
      → total w (alter i f m) + w i a ≡ total w m + w i (f a)
  total_alter w [] i f a h = let z : ◌≡◌ {A = ℕ} 0 1 = cc in omega arith
  total_alter w (r ∷ m) i f a h =
      test (eqb r.id i)
      (λ e. let q = eqb-true r.id i e in let h' : Some r.it ≡ Some a = rw e at h in
      let x : r.it ≡ a = cc in rw (e, q, x) (omega arith))
      (λ e. rw e (let ih = total_alter w m i f a (rw e at h) in omega arith))

  -- what does not weigh is not seen in the total
  pub total_same : (w : ℕ → A → ℕ) (m : List (Row A)) (i : ℕ) (f : A → A) → ((a : A) → w i (f a) ≡ w i a) → total w (alter i f m) ≡ total w m
  total_same w [] i f h = refl
  total_same w (r ∷ m) i f h =
      test (eqb r.id i)
      (λ e. let q = eqb-true r.id i e in rw (e, q) (omega (arith, h r.it)))
      (λ e. rw e (omega (arith, total_same w m i f h)))

  pub total_erase : (w : ℕ → A → ℕ) (m : List (Row A)) (i : ℕ) (a : A) → at m i ≡ Some a
      → total w (erase i m) + w i a ≡ total w m
  total_erase w [] i a h = let z : ◌≡◌ {A = ℕ} 0 1 = cc in omega arith
  total_erase w (r ∷ m) i a h =
      test (eqb r.id i)
      (λ e. let q = eqb-true r.id i e in let h' : Some r.it ≡ Some a = rw e at h in
      let x : r.it ≡ a = cc in rw (e, q, x) (omega arith))
      (λ e. rw e (let ih = total_erase w m i a (rw e at h) in omega arith))

  pub total_snoc : (w : ℕ → A → ℕ) (m : List (Row A)) (i : ℕ) (a : A) → total w (m ++ (record { id = i; it = a } ∷ [])) ≡ total w m + w i a
  total_snoc w [] i a = omega arith
  total_snoc w (r ∷ m) i a = omega (arith, total_snoc w m i a)

  pub length_alter : (m : List (Row A)) (i : ℕ) (f : A → A) → length (alter i f m) ≡ length m
  length_alter [] i f = refl
  length_alter (r ∷ m) i f = test (eqb r.id i) (λ e. rw e) (λ e. rw e (ap suc (length_alter m i f)))

  pub length_erase : (m : List (Row A)) (i : ℕ) → length (erase i m) ≤ length m
  length_erase [] i = omega arith
  length_erase (r ∷ m) i = test (eqb r.id i) (λ e. rw e (omega arith)) (λ e. rw e (omega (arith, length_erase m i)))

  -- a claim on each row
  abbrev pub All : (ℕ → A → Type 0) → List (Row A) → Type 0
  All P [] = Unit {0}
  All P (r ∷ m) = P r.id r.it × All P m

  pub all_at : (P : ℕ → A → Type 0) (m : List (Row A)) (l n : ℕ) → Rising l n m
      → ((i : ℕ) (a : A) → at m i ≡ Some a → P i a) → All P m
  all_at P [] l n u h = tt
  all_at P (r ∷ m) l n u h = (
    h r.id r.it (rw (eq-eqb r.id r.id refl)),
    all_at P m (suc r.id) n u.1 (λ i a g. test (eqb r.id i)
        (λ e. let q = eqb-true r.id i e in
        let z = at_below m (suc r.id) n i u.1 (omega arith) in
        let b : ◌≡◌ {A = ℕ} 0 1 = cc in absurd (omega arith))
        (λ e. h i a (rw e g))),
  )

  pub at_all : (P : ℕ → A → Type 0) (m : List (Row A)) → All P m → (i : ℕ) (a : A) → at m i ≡ Some a → P i a
  at_all P [] h i a g = let b : ◌≡◌ {A = ℕ} 0 1 = cc in absurd (omega arith)
  at_all P (r ∷ m) h i a g = test (eqb r.id i)
      (λ e. let q = eqb-true r.id i e in let g' : Some r.it ≡ Some a = rw e at g in
      let x : r.it ≡ a = cc in rw (← q, ← x) h.0)
      (λ e. at_all P m h.1 i a (rw e at g))

  pub total_zero : (w : ℕ → A → ℕ) (m : List (Row A)) → All (λ i a. w i a ≡ 0) m → total w m ≡ 0
  total_zero w [] h = refl
  total_zero w (r ∷ m) h = omega (arith, h.0, total_zero w m h.1)

  -- no weight is above the total
  pub total_at : (w : ℕ → A → ℕ) (m : List (Row A)) (i : ℕ) (a : A) → at m i ≡ Some a → w i a ≤ total w m
  total_at w m i a h = omega (arith, total_erase w m i a h)

  pub at_put : (m : List (Row A)) (i : ℕ) (a : A) → at (put i a m) i ≡ Some a
  at_put [] i a = rw (eq-eqb i i refl)
  at_put (r ∷ m) i a = test (eqb r.id i)
      (λ e. rw (e, eq-eqb i i refl))
      (λ e. rw e (test (ltb i r.id) (λ f. rw (f, eq-eqb i i refl)) (λ f. rw (f, e) (at_put m i a))))

  pub at_put_other : (m : List (Row A)) (i j : ℕ) (a : A) → (i ≡ j → ⊥) → at (put i a m) j ≡ at m j
  at_put_other [] i j a h = rw (ne_eqb i j h)
  at_put_other (r ∷ m) i j a h = test (eqb r.id i)
      (λ e. rw (e, ne_eqb i j h, ne_eqb r.id j (λ q. h (sym (eqb-true r.id i e) ∙ q))))
      (λ e. rw e (test (ltb i r.id) (λ f. rw (f, ne_eqb i j h))
      (λ f. rw f (ap (λ (o : Option A). cond (eqb r.id j) (Some r.it) o) (at_put_other m i j a h)))))

  pub rising_put : (m : List (Row A)) (l n i : ℕ) (a : A) → l ≤ i → i < n → Rising l n m → Rising l n (put i a m)
  rising_put [] l n i a h k u = (h, k)
  rising_put (r ∷ m) l n i a h k u = test (eqb r.id i)
      (λ e. rw e (let q = eqb-true r.id i e in rw q at u))
      (λ e. rw e (test (ltb i r.id)
      (λ f. rw f (h, (ltb-true i r.id f, u.1)))
      (λ f. rw f (
        u.0,
        rising_put m (suc r.id) n i a
            (let d = eqb-false r.id i e in let g = ltb-false i r.id f in above r.id i g d) k u.1,
      ))))
    where
      above : (x y : ℕ) → x ≤ y → (x ≡ y → ⊥) → x < y
      above x y h d = omega arith

  pub length_put : (m : List (Row A)) (i : ℕ) (a : A) → length (put i a m) ≤ suc (length m)
  length_put [] i a = omega arith
  length_put (r ∷ m) i a = test (eqb r.id i)
      (λ e. rw e (omega arith))
      (λ e. rw e (test (ltb i r.id) (λ f. rw f (omega arith)) (λ f. rw f (omega (arith, length_put m i a)))))

  abbrev pub passes : (A → Bool) → Option A → Bool
  passes p None = false
  passes p (Some a) = p a

-- the numbers of `n` from `l` on that pass a test
pub scan : (ℕ → Bool) → ℕ → ℕ → List ℕ
scan t l zero = []
scan t l (suc n) = cond (t l) (l ∷ scan t (suc l) n) (scan t (suc l) n)

pub scan_same : (t u : ℕ → Bool) (l n : ℕ) → ((i : ℕ) → l ≤ i → t i ≡ u i) → scan t l n ≡ scan u l n
unfolding scan
scan_same t u l zero h = refl
scan_same t u l (suc n) h = rw (h l (omega arith), scan_same t u (suc l) n (λ i k. h i (omega arith)))

module _ {A : Type 0} where
  pub pick_scan : (p : A → Bool) (n : ℕ) (m : List (Row A)) (l : ℕ) → Rising l (l + n) m → pick p m ≡ scan (λ i. passes p (at m i)) l n
  unfolding scan
  pick_scan p zero [] l u = refl
  pick_scan p zero (r ∷ m) l u = absurd (omega (arith, rising_le m (suc r.id) (l + zero) u.1))
  pick_scan p (suc n) [] l u = pick_scan p n [] (suc l) (omega arith)
  pick_scan p (suc n) (r ∷ m) l u = test (eqb r.id l)
      (λ e. let q = eqb-true r.id l e in
      let ih = pick_scan p n m (suc l) (rw (suc-add l n, ← add-suc l n) (rw q at u.1)) in
      let x = ih ∙ scan_same (λ i. passes p (at m i)) (λ i. passes p (at (r ∷ m) i)) (suc l) n
      (λ i h. rw (ne_eqb r.id i (λ z. omega arith))) in
      rw e cc)
      (λ e. let d = eqb-false r.id l e in
      let ih = pick_scan p n (r ∷ m) (suc l) (above r.id l u.0 d, rw (suc-add l n, ← add-suc l n) u.1) in
      rw (e, at_below m (suc r.id) (l + suc n) l u.1 (omega arith)) ih)
    where
      above : (x y : ℕ) → y ≤ x → (x ≡ y → ⊥) → suc y ≤ x
      above x y h d = omega arith
