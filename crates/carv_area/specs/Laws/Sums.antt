-- Sums over the rows of a table. Assumes nothing.
use Rattle.std.specs.Prelude.{◌≡◌, refl, Bool, true, false, cond, List, [], ◌∷◌, ◌++◌, ℕ, zero, suc, ◌+◌, ◌≤◌, eqb, take, Option, Some, None}
use Rattle.std.proofs.Common.{sym, ◌∙◌, ap, arith, eqb-true, eq-eqb}
use Rattle.std.proofs.lemmas.Bool.{eqb-false}
use Rattle.carv_area.specs.Table.{Row, at, erase, total, Rising}
use Rattle.carv_area.specs.Laws.Table
use Rattle.carv_area.specs.Laws.Table.{All, test}

module _ {A : Type 0} where
  pub total_eq : (w v : ℕ → A → ℕ) (m : List (Row A)) → All (λ i a. w i a ≡ v i a) m → total w m ≡ total v m
  total_eq w v [] h = refl
  total_eq w v (x ∷ m) h = omega (arith, h.0, total_eq w v m h.1)

  pub total_sum : (w v : ℕ → A → ℕ) (m : List (Row A)) → total (λ i a. w i a + v i a) m ≡ total w m + total v m
  total_sum w v [] = refl
  total_sum w v (x ∷ m) = omega (arith, total_sum w v m)

  pub total_le : (w v : ℕ → A → ℕ) (m : List (Row A)) → All (λ i a. w i a ≤ v i a) m → total w m ≤ total v m
  total_le w v [] h = omega arith
  total_le w v (x ∷ m) h = omega (arith, h.0, total_le w v m h.1)

  pub total_append : (w : ℕ → A → ℕ) (m n : List (Row A)) → total w (m ++ n) ≡ total w m + total w n
  total_append w [] n = omega arith
  total_append w (x ∷ m) n = omega (arith, total_append w m n)

  -- the first rows weigh at most what all do
  pub total_take : (w : ℕ → A → ℕ) (k : ℕ) (m : List (Row A)) → total w (take k m) ≤ total w m
  total_take w zero m = omega arith
  total_take w (suc k) [] = omega arith
  total_take w (suc k) (x ∷ m) = omega (arith, total_take w k m)

  total_where : (b : Bool) (w : ℕ → A → ℕ) (m : List (Row A)) → cond b (total w m) 0 ≡ total (λ i a. cond b (w i a) 0) m
  total_where true w m = refl
  total_where false w m = sym (zeros m)
    where
      zeros : (m : List (Row A)) → total (λ i a. 0) m ≡ 0
      zeros [] = refl
      zeros (x ∷ m) = omega (arith, zeros m)

  -- the sum of one row
  pub total_one : (u : ℕ → A → ℕ) (m : List (Row A)) (l n p : ℕ) (y : A) → Rising l n m → at m p ≡ Some y → total (λ j d. cond (eqb p j) (u j d) 0) m ≡ u p y
  total_one u m l n p y up h =
      let w : ℕ → A → ℕ = λ j d. cond (eqb p j) (u j d) 0 in
      let rest : total w (erase p m) ≡ 0 = Table.total_zero w (erase p m) (Table.all_at (λ j d. w j d ≡ 0) (erase p m) l n (Table.rising_erase m l n p up)
      λ j d k. test (eqb p j)
      (λ a. let q = eqb-true p j a in let gone = Table.at_erase m l n p up in let z : ◌≡◌ {A = ℕ} 0 1 = cc in absurd (omega arith))
      (λ a. rw a)) in
      let here : w p y ≡ u p y = rw (eq-eqb p p refl) in
      omega (arith, Table.total_erase w m p y h)

  -- two sums in either order
  pub total_swap : (t : ℕ → Bool) (w : ℕ → ℕ → A → ℕ) (m n : List (Row A))
      → total (λ j d. cond (t j) (total (w j) m) 0) n ≡ total (λ c e. total (λ j d. cond (t j) (w j c e) 0) n) m
  total_swap t w m [] = total_where false (λ c e. 0) m
  total_swap t w m (x ∷ n) =
      ap (λ (k : ℕ). k + total (λ j d. cond (t j) (total (w j) m) 0) n) (total_where (t x.id) (w x.id) m)
      ∙ ap (λ (k : ℕ). total (λ c e. cond (t x.id) (w x.id c e) 0) m + k) (total_swap t w m n)
      ∙ sym (total_sum (λ c e. cond (t x.id) (w x.id c e) 0) (λ c e. total (λ j d. cond (t j) (w j c e) 0) n) m)

  -- what stands under an id weighs this much; nothing weighs nothing
  abbrev pub weight_of : (w : ℕ → A → ℕ) (i : ℕ) → Option A → ℕ
  weight_of w i None = 0
  weight_of w i (Some a) = w i a

-- two tables in which what stands under each id weighs the same have the same sum
pub total_same_at : {A B : Type 0} (w : ℕ → A → ℕ) (v : ℕ → B → ℕ) (m : List (Row A)) (n : List (Row B)) (l p l' p' : ℕ) → Rising l p m → Rising l' p' n
    → ((i : ℕ) → weight_of w i (at m i) ≡ weight_of v i (at n i)) → total w m ≡ total v n
total_same_at w v [] n l p l' p' up up' each =
    sym (Table.total_zero v n (Table.all_at (λ i b. v i b ≡ 0) n l' p' up' λ i b h. sym (ap (weight_of v i) h) ∙ sym (each i)))
total_same_at {A} {B} w v (x ∷ m) n l p l' p' up up' each = go (λ k. total_same_at w v m k (suc x.id) p l' p' up.1) (at n x.id) refl
  where
    rest_none : at m x.id ≡ None
    rest_none = Table.at_below m (suc x.id) p x.id up.1 (omega arith)

    here : weight_of w x.id (at (x ∷ m) x.id) ≡ w x.id x.it
    here = rw (eq-eqb x.id x.id refl)

    go : ((k : List (Row B)) → Rising l' p' k → ((i : ℕ) → weight_of w i (at m i) ≡ weight_of v i (at k i)) → total w m ≡ total v k)
        → (o : Option B) → at n x.id ≡ o → total w (x ∷ m) ≡ total v n
    go on None q =
        let zero_here : w x.id x.it ≡ 0 = sym here ∙ each x.id ∙ ap (weight_of v x.id) q in
        omega (
          arith,
          on n up' λ i. test (eqb x.id i)
              (λ a. let e = eqb-true x.id i a in rw (← e) (ap (weight_of w x.id) rest_none ∙ sym (ap (weight_of v x.id) q)))
              (λ a. rw a at (each i)),
        )
    go on (Some b) q =
        let same_here : w x.id x.it ≡ v x.id b = sym here ∙ each x.id ∙ ap (weight_of v x.id) q in
        omega (
          arith,
          Table.total_erase v n x.id b q,
          on (erase x.id n) (Table.rising_erase n l' p' x.id up') λ i. test (eqb x.id i)
              (λ a. let e = eqb-true x.id i a in rw (← e) (ap (weight_of w x.id) rest_none ∙ sym (ap (weight_of v x.id) (Table.at_erase n l' p' x.id up'))))
              (λ a. (rw a at (each i)) ∙ sym (ap (weight_of v i) (Table.at_erase_other n x.id i (eqb-false x.id i a)))),
        )
