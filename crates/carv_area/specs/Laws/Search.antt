-- The laws of `Search`: how many of the rising keys are below a number, by halving, from a window of places. Keys that rise are at least as far apart as their places.
-- Assumes nothing.
use Rattle.std.specs.Prelude.{ℕ, zero, suc, ◌+◌, ◌*◌, ◌-◌, min, ◌≤◌, ◌<◌, ◌≡◌, ◌⊎◌, List, [], ◌∷◌, length, get_or, eqb, ltb, None}
use Rattle.std.proofs.Common.{not-suc-le-zero, eq-or-lt_of_le, suc-mul, mul-le-mul_left, mul-le-mul_right, add-zero, arith, sym, ap, ◌∙◌, inl, inr, eqb-true, ltb-true, ltb-false, lt-ltb, le-ltb}
use Rattle.std.proofs.Math.Logic.{⊎_elim}
use Rattle.std.specs.Bool.{then_some}
use Rattle.std.proofs.lemmas.Bool.{eqb-false}
use Rattle.carv_area.specs.Laws.Table.{test}
use Rattle.carv_area.specs.Laws.Lists.{lt_or_ge}
use Rattle.carv_area.specs.Keys.{Rising, find_in}
use Rattle.carv_area.specs.Laws.Keys.{find_none, find_there}
use Rattle.carv_area.specs.Search.{rank_in, Bracket}

-- the first i keys are below x, and the next is not
pub record Ranked (ks : List ℕ) (x i : ℕ) : Type 0 where
  pub within : i ≤ length ks
  pub below : (j : ℕ) → j < i → get_or ks j 0 < x
  pub next : i < length ks → x ≤ get_or ks i 0

-- so they are i
pub rank_is : (ks : List ℕ) (x i : ℕ) → Ranked ks x i → i ≡ rank_in ks x
unfolding rank_in
rank_is [] x i r = let h = r.within in omega arith
rank_is (k ∷ ks) x zero r = rw (le-ltb k x (r.next (omega arith)))
rank_is (k ∷ ks) x (suc i) r =
    rw (lt-ltb k x (r.below zero (omega arith)))
    (ap suc (rank_is ks x i (record {
      within = let h = r.within in omega arith;
      below = λ j h. r.below (suc j) (omega arith);
      next = λ h. r.next (omega arith);
    })))

-- and back
pub ranked : (ks : List ℕ) (x : ℕ) → Ranked ks x (rank_in ks x)
unfolding rank_in
ranked [] x = record { within = omega arith; below = λ j h. absurd (not-suc-le-zero h); next = λ h. absurd (not-suc-le-zero h) }
ranked (k ∷ ks) x =
    let r = ranked ks x in
    test (ltb k x)
    (λ e. rw e record { within = let w = r.within in omega arith; below = λ j. low (ltb-true k x e) r.below j; next = λ h. r.next (omega arith) })
    (λ e. rw e record { within = omega arith; below = λ j h. absurd (not-suc-le-zero h); next = λ h. ltb-false k x e })
  where
    low : k < x → ((j : ℕ) → j < rank_in ks x → get_or ks j 0 < x) → (j : ℕ) → j < suc (rank_in ks x) → get_or (k ∷ ks) j 0 < x
    low a b zero h = a
    low a b (suc j) h = b j (omega arith)

-- there is no key: none is below x
pub rank_none : (ks : List ℕ) (x : ℕ) → length ks ≤ 0 → 0 ≡ rank_in ks x
rank_none ks x h = rank_is ks x 0 (record { within = omega arith; below = λ j a. absurd (not-suc-le-zero a); next = λ a. absurd (omega arith) })

-- the key behind those below x is not x: then no key is
pub absent : (ks : List ℕ) (x i : ℕ) → Rising ks → i ≡ rank_in ks x → (i < length ks → get_or ks i 0 ≡ x → ⊥) → find_in ks x ≡ None
absent ks x i r e ne =
    let k : Ranked ks x i = rw e (ranked ks x) in
    find_none ks x
    (λ j l q. ⊎_elim
    (λ (a : j < i). omega (arith, k.below j a))
    (λ (a : i ≤ j). ⊎_elim (λ (b : i ≡ j). ne (omega arith) (ap (λ (y : ℕ). get_or ks y 0) b ∙ q)) (λ (b : i < j). omega (arith, k.next (omega arith), r i j b l)) (eq-or-lt_of_le a))
    (lt_or_ge j i))

-- the key behind those below x says whether x is a key
pub found : (ks : List ℕ) (x i : ℕ) → Rising ks → i ≡ rank_in ks x → i < length ks → then_some (eqb (get_or ks i 0) x) i ≡ find_in ks x
found ks x i r e h =
    test (eqb (get_or ks i 0) x)
    (λ q. rw q (sym (find_there ks x i r h (eqb-true (get_or ks i 0) x q))))
    (λ q. rw q (sym (absent ks x i r e (λ a b. eqb-false (get_or ks i 0) x q b))))

module _ {ks : List ℕ} {x lo len : ℕ} (r : Rising ks) (b : Bracket ks x lo len) (half : ℕ) (one : 1 ≤ half) (fit : half + half ≤ len) where
  -- no key before place m is above key m
  up_to : (m : ℕ) → m < length ks → (k : ℕ) → k ≤ m → get_or ks k 0 ≤ get_or ks m 0
  up_to m h k l = ⊎_elim (λ e. rw e (omega arith)) (λ a. omega (arith, r k m a h)) (eq-or-lt_of_le l)

  -- the key before the middle is below x
  pub go_right : get_or ks ((lo + half) - 1) 0 < x → Bracket ks x (lo + half) (len - half)
  go_right h = record {
    some = omega arith;
    fits = omega (arith, b.fits);
    below = λ k l. omega (arith, up_to ((lo + half) - 1) (omega (arith, b.fits)) k (omega arith));
    above = λ k l n. b.above k (omega arith) n;
  }

  -- and not below it
  pub go_left : x ≤ get_or ks ((lo + half) - 1) 0 → Bracket ks x lo (len - half)
  go_left h = record {
    some = omega arith;
    fits = omega (arith, b.fits);
    below = b.below;
    above = λ k l n. omega (arith, r ((lo + half) - 1) k (omega arith) n);
  }

-- one place is left
module _ {ks : List ℕ} {x lo len : ℕ} (b : Bracket ks x lo len) (m : len ≤ 1) where
  -- its key is below x
  pub rank_after : get_or ks lo 0 < x → lo + 1 ≡ rank_in ks x
  rank_after h =
      let f = b.fits in
      let s = b.some in
      rank_is ks x (lo + 1) (record {
        within = omega arith;
        below = λ j l. ⊎_elim (λ (a : j < lo). b.below j a) (λ (a : lo ≤ j). let e : j ≡ lo = omega arith in rw e h) (lt_or_ge j lo);
        next = λ l. omega (arith, b.above (lo + 1) (omega arith) l);
      })

  -- and not below it
  pub rank_here : x ≤ get_or ks lo 0 → lo ≡ rank_in ks x
  rank_here h = rank_is ks x lo (record { within = omega (arith, b.fits); below = b.below; next = λ l. h })

-- ---- where to begin

-- two keys, d places apart
rising_gap : (ks : List ℕ) → Rising ks → (i d : ℕ) → i + d < length ks → get_or ks i 0 + d ≤ get_or ks (i + d) 0
rising_gap ks r i zero h = rw (add-zero, add-zero) (omega arith)
rising_gap ks r i (suc d) h =
    let a = rising_gap ks r i d (omega arith) in
    let b : get_or ks (i + d) 0 < get_or ks (i + suc d) 0 = r (i + d) (i + suc d) (omega arith) h in
    omega arith

-- two keys at places i and j
gap : (ks : List ℕ) → Rising ks → (i j : ℕ) → i ≤ j → j < length ks → get_or ks i 0 + (j - i) ≤ get_or ks j 0
gap ks r i j l h =
    let e : i + (j - i) ≡ j = omega arith in
    let g = rising_gap ks r i (j - i) (omega arith) in
    omega (arith, ap (λ (x : ℕ). get_or ks x 0) e)

-- f and z are the first and the last of the n keys
module _ (ks : List ℕ) (x n f z : ℕ) (r : Rising ks) (en : length ks ≡ n) (some : 1 ≤ n) (ef : f ≡ get_or ks 0 0) (ez : z ≡ get_or ks (n - 1) 0) where
  -- no key is below x
  pub rank_first : x ≤ f → 0 ≡ rank_in ks x
  rank_first h = rank_is ks x 0 (record { within = omega arith; below = λ j a. absurd (not-suc-le-zero a); next = λ a. omega arith })

  -- all keys are
  pub rank_last : z < x → n ≡ rank_in ks x
  rank_last h =
      rank_is ks x n (record {
        within = omega arith;
        below = λ j a. omega (arith, gap ks r j (n - 1) (omega arith) (omega arith));
        next = λ a. absurd (omega arith);
      })

  -- x lies between them: its place is neither more than z - x before the last, nor more than x - f behind the first
  module _ (a : f ≤ x) (b : x ≤ z) (lo hi : ℕ) (from : lo ≡ (n - 1) - (z - x)) (most : hi ≤ n) (tight : n ≤ hi ⊎ (x - f) + 1 ≤ hi) where
    -- the window has a place
    pub window_some : lo + 1 ≤ hi
    window_some =
        let g = gap ks r 0 (n - 1) (omega arith) (omega arith) in
        ⊎_elim (λ (t : n ≤ hi). omega arith) (λ (t : (x - f) + 1 ≤ hi). omega arith) tight

    -- and the other places are not x's
    pub window : Bracket ks x lo (hi - lo)
    window =
        let s = window_some in
        record {
          some = omega arith;
          fits = omega arith;
          below = λ k h. omega (arith, gap ks r k (n - 1) (omega arith) (omega arith));
          above = λ k h l.
              let g = gap ks r 0 k (omega arith) l in
              ⊎_elim (λ (t : n ≤ hi). absurd (omega arith)) (λ (t : (x - f) + 1 ≤ hi). omega arith) tight;
        }

  -- the least such window: its last place is x - f behind the first, or the last of all
  module _ (a : f < x) (b : x ≤ z) (lo hi : ℕ) (from : lo ≡ (n - 1) - (z - x)) (to : hi ≡ min (x - f) (n - 1)) where
    tight : n ≤ hi + 1 ⊎ (x - f) + 1 ≤ hi + 1
    tight = ⊎_elim (λ (t : x - f < n). inr (omega arith)) (λ (t : n ≤ x - f). inl (omega arith)) (lt_or_ge (x - f) n)

    pub least_window_some : lo ≤ hi
    least_window_some = omega (arith, window_some (omega arith) b lo (hi + 1) from (omega arith) tight)

    pub least_window : Bracket ks x lo ((hi + 1) - lo)
    least_window = window (omega arith) b lo (hi + 1) from (omega arith) tight

-- ---- rows

-- rows that have words are not more than their words
pub rows_few : (n w : ℕ) → 1 ≤ w → n ≤ n * w
rows_few n w h = let m : n * 1 ≤ n * w = mul-le-mul_left n h in omega arith

-- row m of n rows, each w words wide, is within them
pub row_within : (m n w : ℕ) → m < n → m * w + w ≤ n * w
row_within m n w h = let g : suc m * w ≤ n * w = mul-le-mul_right w h in omega (arith, suc-mul m w)
