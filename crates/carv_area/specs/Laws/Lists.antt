-- The laws of lists: a split on an order of two numbers, a list made of a function, and a run of stores. Assumes nothing.
use Prim.Native.Nat.{ℕ, zero, suc, ◌≤◌, ◌<◌}
use Rattle.std.proofs.Common.{le_of_suc-le-suc, not-suc-le-zero, eq-or-lt_of_le, arith, sym, inl, inr, ⊎_elim}
use Rattle.std.specs.Prelude.{◌≡◌, ◌≢◌, ◌⊎◌, List, [], ◌∷◌, length, get_or, replicate}
use Rattle.std.proofs.Math.Path.{refl, ap}
use Rattle.std.proofs.lemmas.List.{length-replicate, get_or-replicate}
use Rattle.std.proofs.Math.ListN.{get_or-eq_default}
use Rattle.carv_area.specs.Lists.{tab}

-- of two numbers the first is below the second or not
pub lt_or_ge : (j k : ℕ) → (j < k) ⊎ (k ≤ j)
lt_or_ge zero zero = inr (omega arith)
lt_or_ge zero (suc k) = inl (omega arith)
lt_or_ge (suc j) zero = inr (omega arith)
lt_or_ge (suc j) (suc k) = ⊎_elim (λ h. inl (omega arith)) (λ h. inr (omega arith)) (lt_or_ge j k)

-- two numbers that differ are in one order or the other
pub apart : (j k : ℕ) → j ≢ k → (j < k) ⊎ (k < j)
apart j k ne = ⊎_elim (λ h. inl h) (λ h. ⊎_elim (λ e. absurd (ne (sym e))) (λ l. inr l) (eq-or-lt_of_le h)) (lt_or_ge j k)

-- two numbers are the same or not
pub same_or_not : (j k : ℕ) → (j ≡ k) ⊎ (j ≢ k)
same_or_not j k =
    ⊎_elim (λ h. inr (λ e. omega arith)) (λ h. ⊎_elim (λ e. inl (sym e)) (λ l. inr (λ e. omega arith)) (eq-or-lt_of_le h)) (lt_or_ge j k)

-- in a list of zeros, 0 is read at every place
pub zero_at : (n i : ℕ) → ◌≡◌ {A = ℕ} (get_or (replicate n 0) i 0) 0
zero_at n i = ⊎_elim
    (λ (h : i < n). get_or-replicate {A = ℕ} n i 0 0 h)
    (λ (h : n ≤ i). get_or-eq_default {A = ℕ} (replicate n 0) 0 {n = i} (rw length-replicate h))
    (lt_or_ge i n)

module _ {ℓ} {A : Type ℓ} where
  -- the length of a list made of a function
  pub length_tab : (n : ℕ) (f : ℕ → A) → length (tab n f) ≡ n
  unfolding tab
  length_tab zero f = refl
  length_tab (suc n) f = ap suc (length_tab n (λ i. f (suc i)))

  -- its elements
  pub get_or_tab : (n : ℕ) (f : ℕ → A) (i : ℕ) (d : A) → i < n → get_or (tab n f) i d ≡ f i
  unfolding tab
  get_or_tab zero f i d h = absurd (not-suc-le-zero h)
  get_or_tab (suc n) f zero d h = refl
  get_or_tab (suc n) f (suc i) d h = get_or_tab n (λ j. f (suc j)) i d (le_of_suc-le-suc h)

  -- inside a list the default does not count
  pub get_d_any : (l : List A) (i : ℕ) (d e : A) → i < length l → get_or l i d ≡ get_or l i e
  get_d_any [] i d e h = absurd (not-suc-le-zero h)
  get_d_any (x ∷ l) zero d e h = refl
  get_d_any (x ∷ l) (suc i) d e h = get_d_any l i d e (le_of_suc-le-suc h)
