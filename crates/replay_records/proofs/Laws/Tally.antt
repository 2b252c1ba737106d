-- The laws of `Tally`: one that leaves room for the blocks to come still does with one block more, and then has fewer to come. Assumes nothing.
use Rattle.std.specs.Prelude.{◌≡◌, refl, Bool, true, false, not, cond, ℕ, ◌+◌, ◌-◌, ◌/◌, ◌%◌, ◌≤◌, ◌<◌, eqb}
use Rattle.std.proofs.Common.{div-le_self, arith, eq-eqb, ne_eqb}
use mir.Val.{bool_byte}
use Rattle.replay_records.specs.declared.Tally.{Tally}
use Rattle.replay_records.specs.Tally.{block_bytes, cut, added, Room}

-- records of a block
pub records_few : (n size : ℕ) → n ≤ 65_536 → n / size ≤ 65_536
records_few n size h = omega (arith, h, div-le_self n size)

one_most : (b : Bool) → cond b 0 1 ≤ 1
one_most true = omega arith
one_most false = omega arith

-- the test of a record that is cut short, counted
pub cut_is : (n size : ℕ) → bool_byte (not (eqb (n % size) 0)) ≡ cut n size
unfolding cut
cut_is n size = cases (eqb (n % size) 0)
  where
    cases : (b : Bool) → bool_byte (not b) ≡ cond b 0 1
    cases true = refl
    cases false = refl

pub cut_most : (n size : ℕ) → cut n size ≤ 1
unfolding cut
cut_most n size = one_most (eqb (n % size) 0)

-- the tally as it is added to, where the block is full and where it isn't
pub added_full : (t : Tally) (n size d k : ℕ) → k ≡ cut n size → n ≡ block_bytes size
    → record { calls = t.calls + n / size; differences = t.differences + d + k; blocks = t.blocks - 1 } ≡ added t n size d
unfolding added
added_full t n size d k e p = rw (e, eq-eqb _ _ p)

pub added_last : (t : Tally) (n size d k : ℕ) → k ≡ cut n size → (n ≡ block_bytes size → ⊥)
    → record { calls = t.calls + n / size; differences = t.differences + d + k; blocks = 0 } ≡ added t n size d
unfolding added
added_last t n size d k e p = rw (e, ne_eqb _ _ p)

-- `Room` with another block, and the blocks that are left
left_most : (b : Bool) (m : ℕ) → 0 < m → cond b (m - 1) 0 + 1 ≤ m
left_most true m h = omega (arith, h)
left_most false m h = omega (arith, h)

pub added_fewer : (t : Tally) (n size d : ℕ) → 0 < t.blocks → (added t n size d).blocks < t.blocks
unfolding added
added_fewer t n size d h = omega (arith, left_most (eqb n (block_bytes size)) t.blocks h)

pub added_room : (t : Tally) (n size d : ℕ) → Room t → 0 < t.blocks → n ≤ 65_536 → d ≤ n / size → Room (added t n size d)
unfolding added cut
added_room t n size d r h k m =
    let few = records_few n size k in
    let left = left_most (eqb n (block_bytes size)) t.blocks h in
    (omega (arith, r.0, few, left), omega (arith, r.1, few, left, m, one_most (eqb (n % size) 0)))
