-- How many keys are below a number, and the places that are left to look at. Assumes nothing.
use Rattle.std.specs.Prelude.{ℕ, suc, ◌+◌, ◌≤◌, ◌<◌, cond, List, [], ◌∷◌, length, get_or, ltb}

-- how many keys stand before the first that is not below x
unfoldable pub rank_in : List ℕ → ℕ → ℕ
rank_in [] x = 0
rank_in (k ∷ ks) x = cond (ltb k x) (suc (rank_in ks x)) 0

-- the keys before lo are below x, and those from lo + len on are above it
pub record Bracket (ks : List ℕ) (x lo len : ℕ) : Type 0 where
  pub some : 1 ≤ len
  pub fits : lo + len ≤ length ks
  pub below : (k : ℕ) → k < lo → get_or ks k 0 < x
  pub above : (k : ℕ) → lo + len ≤ k → k < length ks → x < get_or ks k 0
