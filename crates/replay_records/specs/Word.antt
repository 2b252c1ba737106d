-- The words of a record: 64-bit numbers, the least byte first. Assumes nothing.
use Rattle.std.specs.Prelude.{List, ℕ, get_or}
use Rattle.carv_area.specs.Words.{words}

-- word number k of the bytes l, as `carv_area::get` reads it
abbrev pub word : List ℕ → ℕ → ℕ
word l k = get_or (words l) k 0
