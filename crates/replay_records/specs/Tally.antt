-- What the blocks of the input give, in records of `size` bytes. Assumes nothing.
use Rattle.std.specs.Prelude.{◌≡◌, cond, List, Option, ℕ, ◌+◌, ◌*◌, ◌-◌, ◌/◌, ◌%◌, ◌<◌, ◌≤◌, IsFalse, eqb, length}
use Rattle.std.specs.Io.KnownBytes.{Consumes, IsAtEnd}
use Rattle.replay_records.specs.declared.Tally.{Tally}
use Rattle.replay_records.specs.declared.Run.{Run}

-- the bytes of a full block: whole records in a buffer of 65,536 bytes
unfoldable pub block_bytes : (size : ℕ) → ℕ
block_bytes size = 65_536 / size * size

-- 1 where n bytes end inside a record
unfoldable pub cut : (n size : ℕ) → ℕ
cut n size = cond (eqb (n % size) 0) 0 1

-- before the first block
abbrev pub started : Tally
started = record { calls = 0; differences = 0; blocks = 1_000_000_000_000 }

-- with one more block, of n bytes, in which d records differ: a record that is cut short is a difference and no call; behind a block that isn't full there is none
unfoldable pub added : Tally → (n size d : ℕ) → Tally
added t n size d = record {
  calls = t.calls + n / size;
  differences = t.differences + d + cut n size;
  blocks = cond (eqb n (block_bytes size)) (t.blocks - 1) 0;
}

-- what is counted leaves room for the blocks that may come
abbrev pub Room : Tally → Type 0
Room t = (t.calls + 65_536 * t.blocks ≤ 65_536_000_000_000_000) × (t.differences + 65_537 * t.blocks ≤ 65_537_000_000_000_000)

-- t' is t with one more block: the first n of some bytes, of whose whole records d differ. `differ l m d`: of the first m records of l, d differ
pub record Counted (size : ℕ) (differ : List ℕ → (m d : ℕ) → Type 0) (t t' : Tally) : Type 0 where
  pub bytes : List ℕ
  pub n : ℕ
  pub d : ℕ
  pub within : n ≤ length bytes
  pub different : differ bytes (n / size) d
  pub counted : t' ≡ added t n size d

-- the same of bytes that an input gave, which had the known bytes `old` left before and has `new` left after; a block that isn't full is the input's last, or a read failed
pub record Taken (size : ℕ) (differ : List ℕ → (m d : ℕ) → Type 0) (t : Tally) (r : Run) (old new : Option (List ℕ)) : Type 0 where
  pub bytes : List ℕ
  pub d : ℕ
  pub taken : Consumes old new bytes
  pub different : differ bytes (length bytes / size) d
  pub counted : r.tally ≡ added t (length bytes) size d
  pub fits : length bytes ≤ block_bytes size
  pub ended : length bytes < block_bytes size → IsFalse r.failed → IsAtEnd new

-- the tally t tells of these bytes how many whole records they have, and how many of these differ; a record that is cut short is a difference more
pub record Told (size : ℕ) (differ : List ℕ → (m d : ℕ) → Type 0) (bytes : List ℕ) (t : Tally) : Type 0 where
  pub d : ℕ
  pub different : differ bytes (length bytes / size) d
  pub calls : t.calls ≡ length bytes / size
  pub differences : t.differences ≡ d + cut (length bytes) size

-- the records of all blocks that may come, which no run uses up
unfoldable pub most_calls : (size : ℕ) → ℕ
most_calls size = 1_000_000_000_000 * (65_536 / size)
