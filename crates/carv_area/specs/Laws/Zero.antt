-- The laws of `Zero`: such a list is zeros, and words that are joined. Assumes nothing.
use Rattle.std.specs.Prelude.{ℕ, zero, suc, map, ◌≡◌, refl, true, false, ◌&&◌, List, [], ◌∷◌, length, eqb}
use Rattle.std.proofs.Common.{arith, sym, eqb-true, eq-eqb, ne_eqb}
use Rattle.std.proofs.Math.Bool.{and_assoc, and-true}
use Rattle.std.specs.Int.Bits.{bit_or, or_add_and, or_zero_l}
use Rattle.std.proofs.lemmas.Nat.{and_le_l, and_le_r}
use Rattle.std.proofs.lemmas.Bool.{eqb-false}
use Rattle.std.specs.List.{fold}
use Rattle.std.specs.Int.{w64, from_le_bytes}
use Rattle.carv_area.specs.Laws.Table.{test}
use Rattle.carv_area.specs.Moves.{zeros}
use Rattle.carv_area.specs.Zero.{all_zero}

-- a list whose elements are all 0 is zeros
pub all_zero_lem : (l : List ℕ) → all_zero l ≡ true → l ≡ zeros (length l)
unfolding all_zero
all_zero_lem [] h = refl
all_zero_lem (x ∷ l) h =
    test (eqb x 0)
    (λ e. let t = all_zero_lem l (rw e at h) in let z = eqb-true x 0 e in cc)
    (λ e. let f : false ≡ true = rw e at h in cc)

-- zeros are such a list
pub zeros_zero : (n : ℕ) → all_zero (zeros n) ≡ true
unfolding all_zero
zeros_zero zero = refl
zeros_zero (suc n) = zeros_zero n

-- two numbers are 0 just if their bits, joined, are
or_zero : (x y : ℕ) → eqb (bit_or x y) 0 ≡ eqb x 0 && eqb y 0
or_zero x y =
    test (eqb (bit_or x y) 0)
    (λ e. let z = eqb-true (bit_or x y) 0 e in
    rw (e, eq-eqb x 0 (omega (arith, or_add_and x y, and_le_l x y, and_le_r x y)), eq-eqb y 0 (omega (arith, or_add_and x y, and_le_l x y, and_le_r x y))))
    (λ e. rw e (test (eqb x 0)
    (λ f. rw f (sym (ne_eqb y 0 (λ g. eqb-false (bit_or x y) 0 e (rw (eqb-true x 0 f, g) (or_zero_l 0))))))
    (λ f. rw f)))

-- the words of the chunks ws, joined with x
abbrev pub joined : ℕ → List ℕ → ℕ
joined x w = bit_or x (from_le_bytes w64 w)

-- they are 0 just if x and each word is
pub zero_fold : (x : ℕ) (ws : List (List ℕ)) → eqb (fold joined x ws) 0 ≡ eqb x 0 && all_zero (map (from_le_bytes w64) ws)
unfolding all_zero
zero_fold x [] = sym (and-true (eqb x 0))
zero_fold x (w ∷ ws) = rw (zero_fold (joined x w) ws, or_zero) (and_assoc (eqb x 0) (eqb (from_le_bytes w64 w) 0) (all_zero (map (from_le_bytes w64) ws)))
