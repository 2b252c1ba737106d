-- The place of an id among the first rows, by halving: what is known of the rows on either side, and what was found. Assumes nothing.
use Rattle.std.specs.Prelude.{◌≡◌, List, ℕ, ◌+◌, ◌≤◌, ◌<◌, Option, Some}
use Rattle.std.proofs.Common.{subst}
use Rattle.carv_objects.specs.Laws.SoundWalk.{id_at, Place}

-- the ids before lo are below p, and those from lo + len on above it
pub record Near (w : List ℕ) (i p lo len : ℕ) : Type 0 where
  pub inside : lo + len ≤ i
  pub some : 0 < i → 0 < len
  pub below : (k : ℕ) → k < lo → id_at w k < p
  pub above : (k : ℕ) → lo + len ≤ k → k < i → p < id_at w k

-- the place that was found
pub place_here : (w : List ℕ) (i p : ℕ) (f : Option ℕ) → Place w i p f → (r : ℕ) → f ≡ Some r → (r < i) × (id_at w r ≡ p)
place_here w i p f h r e = subst (Place w i p) e h
