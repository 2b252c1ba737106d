-- Records replayed one after the other from a state on, and how many of them differ. Assumes nothing.
use Rattle.std.specs.Prelude.{◌≡◌, Bool, cond, List, ℕ, zero, suc, ◌+◌}
use Rattle.std.specs.Fork.{slice_chunk}

-- one record more: d differences and the state a', after a number and a state of which `before` holds. `agrees a b a'`: b tells whether the record's call, made in the state
-- a, answers as recorded, and a' is left
pub record Step {S : Type 0} (before : ℕ → S → Type 0) (agrees : S → Bool → S → Type 0) (d : ℕ) (a' : S) : Type 0 where
  pub count : ℕ
  pub state : S
  pub right : Bool
  pub earlier : before count state
  pub after : agrees state right a'
  pub counted : d ≡ count + cond right 0 1

-- of n records, of which `agrees` tells by their numbers, replayed from the state a on, d differ, and a' is left
unfoldable pub Replayed : {S : Type 0} (agrees : ℕ → S → Bool → S → Type 0) (a : S) (n d : ℕ) (a' : S) → Type 0
Replayed agrees a zero d a' = (d ≡ 0) × (a' ≡ a)
Replayed agrees a (suc n) d a' = Step (Replayed agrees a n) (agrees n) d a'

-- of the first n records of l, each told of by its own bytes, replayed from the state a on, d differ, and a' is left
abbrev pub Replays : {S : Type 0} (replays : List ℕ → S → Bool → S → Type 0) (size : ℕ) (a a' : S) (l : List ℕ) (n d : ℕ) → Type 0
Replays replays size a a' l n d = Replayed (λ k. replays (slice_chunk l size k)) a n d a'
