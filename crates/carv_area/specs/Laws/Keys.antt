-- The laws of `Keys`: each key of a table, and where a key is found. Assumes nothing.
use Rattle.std.specs.Prelude.{ℕ, zero, suc, ◌+◌, ◌*◌, ◌<◌, ◌≡◌, refl, List, [], ◌∷◌, length, get_or, Some, None}
use Rattle.std.proofs.Common.{le_of_suc-le-suc, not-suc-le-zero, arith, eq-eqb, ne_eqb}
use Rattle.carv_area.specs.Laws.Lists.{length_tab, get_or_tab}
use Rattle.carv_area.specs.Keys.{keys, Rising, find_in}

-- the number of the keys
pub length_keys : (w : ℕ) (l : List ℕ) → length (keys w l) ≡ get_or l 0 0
unfolding keys
length_keys w l = length_tab (get_or l 0 0) (λ i. get_or l (i * w + 1) 0)

-- each key
pub get_or_keys : (w : ℕ) (l : List ℕ) (i : ℕ) → i < length (keys w l) → get_or (keys w l) i 0 ≡ get_or l (i * w + 1) 0
unfolding keys
get_or_keys w l i h = get_or_tab (get_or l 0 0) (λ i. get_or l (i * w + 1) 0) i 0 (omega (arith, length_keys w l))

-- no key is x
pub find_none : (ks : List ℕ) (x : ℕ) → ((i : ℕ) → i < length ks → get_or ks i 0 ≡ x → ⊥) → find_in ks x ≡ None
unfolding find_in
find_none [] x h = refl
find_none (k ∷ ks) x h = rw (ne_eqb k x (h zero (omega arith)), find_none ks x (λ i a. h (suc i) (omega arith)))

-- key i is x, and none before it
pub find_at : (ks : List ℕ) (x i : ℕ) → i < length ks → get_or ks i 0 ≡ x → ((j : ℕ) → j < i → get_or ks j 0 ≡ x → ⊥) → find_in ks x ≡ Some i
unfolding find_in
find_at [] x i a b h = absurd (not-suc-le-zero a)
find_at (k ∷ ks) x zero a b h = rw (eq-eqb k x b)
find_at (k ∷ ks) x (suc i) a b h =
    rw (ne_eqb k x (h zero (omega arith)), find_at ks x i (le_of_suc-le-suc a) b (λ j m. h (suc j) (omega arith)))

-- of keys that rise, key i is x
pub find_there : (ks : List ℕ) (x i : ℕ) → Rising ks → i < length ks → get_or ks i 0 ≡ x → find_in ks x ≡ Some i
find_there ks x i r h e = find_at ks x i h e (λ j a q. omega (arith, r j i a h))
