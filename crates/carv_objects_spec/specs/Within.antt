-- P1's "below": "Whether an account belongs below another is found by going from payer to payer up to the root." Within a budget is the budget itself and all below it.
-- Assumes nothing.
use Rattle.std.specs.Prelude.{Bool, ◌||◌, ℕ, zero, suc, eqb}
use Rattle.carv_objects_spec.specs.Registry.{Registry, payer_of}

-- Going from i to its payer, from there to the next one, and so on, this many times: is b met on the way? The root pays for itself, so the way ends there.
abbrev pub meets : (times : ℕ) → Registry → (b i : ℕ) → Bool
meets zero r b i = eqb i b
meets (suc n) r b i = eqb i b || meets n r b (payer_of r i)

-- Is i the budget b, or below it? Payers have lower ids, so going on i times leads up to the root.
abbrev pub within : Registry → (b i : ℕ) → Bool
within r b i = meets i r b i

-- The same as a sentence: i is within b where i is b, or where i's payer is within b. laws/Within.antt has that the test tells this of every object of a sound registry.
pub data Within (r : Registry) (b : ℕ) : ℕ → Type 0 where
  itself : Within r b b
  by_payer : (i : ℕ) → Within r b (payer_of r i) → Within r b i
