-- The laws of `Lookup`: the place that `find_in` gives, ids that rise by place, and where a new row goes. Assumes nothing.
use Prim.Native.Nat.{ℕ, zero, suc, ◌≤◌, ◌<◌}
use Rattle.std.proofs.Common.{le_of_suc-le-suc, not-suc-le-zero, sym, ap, ◌∙◌, subst}
use native.Mathlib.Omega.{arith}
use Rattle.std.specs.Prelude.{◌≡◌, Bool, cond, length, get_or, eqb, ltb, Option, Some, None}
use Rattle.std.proofs.Math.Path.{refl}
use Rattle.std.proofs.Math.Bool.{true, false}
use mathlib.Core.List.{List, [], ◌∷◌, ◌++◌, map}
use Rattle.std.proofs.Math.ListN.{length-map}
use borrow.Author.Tests.{eqb-true, eqb-false, ltb-true, ltb-false, ne_eqb, lt-ltb, le-ltb}
use Rattle.carv_area.specs.Table as Table
use Rattle.carv_area.specs.Laws.Table.{test, rising_le}
use Rattle.carv_area.specs.Table.{Row, at}
use Rattle.carv_area.specs.Words.{words}
use Rattle.carv_area.specs.Rows.{remove_at, insert_at}
use Rattle.carv_area.specs.Keys.{keys, find_in, after, Rising}
use Rattle.carv_area.specs.Search.{rank_in}
use Rattle.carv_area.specs.Laws.Search.{ranked}
use Rattle.carv_area.specs.Stored.{Stored, Keyed}
use Rattle.carv_area.specs.Laws.Stored.{keyed, keys_are}
use Rattle.carv_area.specs.Lookup.{Here, Gone, Located}

module _ {A : Type 0} where
  -- the ids of the rows
  abbrev pub ids : List (Row A) → List ℕ
  ids rows = map (λ r. r.id) rows

  -- a row in front: b says whether it has the id x
  step : (d r : Row A) (m : List (Row A)) (x : ℕ) (b : Bool) → eqb r.id x ≡ b → (p : Option ℕ) → Located d m x p
      → Located d (r ∷ m) x (cond b (Some zero) (after p))
  unfolding remove_at
  step d r m x true e p l = record {
    within = omega arith;
    same = eqb-true r.id x e;
    is = rw e;
    changed = λ f. rw e;
    erased = rw e;
  }
  step d r m x false e (Some i) l = record {
    within = let w = l.within in omega arith;
    same = l.same;
    is = rw e l.is;
    changed = λ f. rw e (ap (λ (q : List (Row A)). r ∷ q) (l.changed f));
    erased = rw e (ap (λ (q : List (Row A)). r ∷ q) l.erased);
  }
  step d r m x false e None l = record {
    is = rw e l.is;
    changed = λ f. rw e (ap (λ (q : List (Row A)). r ∷ q) (l.changed f));
    erased = rw e (ap (λ (q : List (Row A)). r ∷ q) l.erased);
  }

  -- the place that `find_in` gives
  pub located : (d : Row A) (rows : List (Row A)) (x : ℕ) → Located d rows x (find_in (ids rows) x)
  unfolding find_in
  located d [] x = record { is = refl; changed = λ f. refl; erased = refl }
  located d (r ∷ m) x = step d r m x (eqb r.id x) refl (find_in (ids m) x) (located d m x)

  -- ---- ids that rise

  -- each id lies between the bounds
  pub rising_bounds : (rows : List (Row A)) (l n i : ℕ) → Table.Rising l n rows → i < length rows → (l ≤ get_or (ids rows) i 0) × (get_or (ids rows) i 0 < n)
  rising_bounds [] l n i u h = absurd (not-suc-le-zero h)
  rising_bounds (r ∷ m) l n zero u h = (u.0, rising_le m (suc r.id) n u.1)
  rising_bounds (r ∷ m) l n (suc i) u h = let b = rising_bounds m (suc r.id) n i u.1 (le_of_suc-le-suc h) in let z = u.0 in (omega arith, b.1)

  -- ids that rise from one to the next rise by place
  pub rising_ids : (rows : List (Row A)) (l n : ℕ) → Table.Rising l n rows → Rising (ids rows)
  rising_ids [] l n u i j a b = absurd (not-suc-le-zero b)
  rising_ids (r ∷ m) l n u zero zero a b = absurd (omega arith)
  rising_ids (r ∷ m) l n u (suc i) zero a b = absurd (omega arith)
  rising_ids (r ∷ m) l n u zero (suc j) a b = (rising_bounds m (suc r.id) n j u.1 (omega (arith, length-map m (λ q. q.id)))).0
  rising_ids (r ∷ m) l n u (suc i) (suc j) a b = rising_ids m (suc r.id) n u.1 i j (le_of_suc-le-suc a) (le_of_suc-le-suc b)

  -- and back
  pub ids_rising : (rows : List (Row A)) (l n : ℕ) → l ≤ n → Rising (ids rows)
      → ((i : ℕ) → i < length rows → (l ≤ get_or (ids rows) i 0) × (get_or (ids rows) i 0 < n)) → Table.Rising l n rows
  ids_rising [] l n h r b = h
  ids_rising (q ∷ m) l n h r b = (
    (b 0 (omega arith)).0,
    ids_rising m (suc q.id) n (b 0 (omega arith)).1 (λ i j x y. r (suc i) (suc j) (omega arith) (omega arith))
        (λ i x. (r 0 (suc i) (omega arith) (omega (arith, length-map m (λ z. z.id))), (b (suc i) (omega arith)).1)),
  )

  -- an id that is not below the bound goes behind the others
  pub put_last : (rows : List (Row A)) (l n i : ℕ) (a : A) → Table.Rising l n rows → n ≤ i → Table.put i a rows ≡ rows ++ (record { id = i; it = a } ∷ [])
  put_last [] l n i a u h = refl
  put_last (r ∷ m) l n i a u h =
      let z = rising_le m (suc r.id) n u.1 in
      rw (ne_eqb r.id i (λ q. omega arith), le-ltb i r.id (omega arith)) (ap (λ (q : List (Row A)). r ∷ q) (put_last m (suc r.id) n i a u.1 h))

  -- an id that is not there goes behind the ids below it
  pub put_insert : (rows : List (Row A)) (x : ℕ) (a : A) → at rows x ≡ None → Table.put x a rows ≡ insert_at rows (rank_in (ids rows) x) (record { id = x; it = a })
  unfolding insert_at rank_in
  put_insert [] x a h = refl
  put_insert (r ∷ m) x a h =
      test (eqb r.id x)
      (λ e. let q : Some r.it ≡ None = rw e at h in cc)
      (λ e. rw e (test (ltb x r.id)
      (λ f. rw (f, le-ltb r.id x (omega (arith, ltb-true x r.id f))))
      (λ f. rw (f, lt-ltb r.id x (above r.id x (ltb-false x r.id f) (eqb-false r.id x e))) (ap (λ (q : List (Row A)). r ∷ q) (put_insert m x a (rw e at h))))))
    where
      above : (y z : ℕ) → y ≤ z → (y ≡ z → ⊥) → y < z
      above y z h d = omega arith

-- ---- rows in a list of bytes

-- the bytes t hold the rows, each with its id in its first word
module _ {A : Type 0} (fields : Row A → List ℕ) (w : ℕ) (wide : (r : Row A) → length (fields r) ≡ w) (first : (r : Row A) → get_or (fields r) 0 0 ≡ r.id)
    (d : Row A) (wide_enough : 1 ≤ w) (t : List ℕ) (rows : List (Row A)) (h : Stored fields w t rows) where
  -- what `find` asks
  pub rows_keyed : (l n : ℕ) → Table.Rising l n rows → Keyed w t
  rows_keyed l n u = keyed fields w wide (λ r. r.id) first d wide_enough t rows h (rising_ids rows l n u)

  -- what it answers
  pub rows_located : (x : ℕ) (p : Option ℕ) → p ≡ find_in (keys w (words t)) x → Located d rows x p
  rows_located x p e =
      let k : keys w (words t) ≡ ids rows = keys_are fields w wide (λ r. r.id) first d wide_enough (words t) rows h.holds in
      subst (Located d rows x) (sym (e ∙ ap (λ (ks : List ℕ). find_in ks x) k)) (located d rows x)

  -- a place
  pub rows_here : (x : ℕ) (p : Option ℕ) → p ≡ find_in (keys w (words t)) x → (i : ℕ) → p ≡ Some i → Here d rows x i
  rows_here x p e i q = subst (Located d rows x) q (rows_located x p e)

  -- or none
  pub rows_gone : (x : ℕ) (p : Option ℕ) → p ≡ find_in (keys w (words t)) x → p ≡ None → Gone rows x
  rows_gone x p e q = subst (Located d rows x) q (rows_located x p e)

  -- where a row with a new id goes
  pub rows_placed : (x i : ℕ) → i ≡ rank_in (keys w (words t)) x → at rows x ≡ None
      → (i ≤ length rows) × ((a : A) → Table.put x a rows ≡ insert_at rows i (record { id = x; it = a }))
  rows_placed x i e n =
      let k : keys w (words t) ≡ ids rows = keys_are fields w wide (λ r. r.id) first d wide_enough (words t) rows h.holds in
      let q : i ≡ rank_in (ids rows) x = e ∙ ap (λ (ks : List ℕ). rank_in ks x) k in (
        omega (arith, (ranked (ids rows) x).within, length-map rows (λ r. r.id)),
        λ a. rw q (put_insert rows x a n),
      )
