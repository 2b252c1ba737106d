-- Words that move down, that move up and that are cleared; a row taken out of a table, room made for one, and a row put behind the others. Assumes nothing.
use Rattle.std.specs.Prelude.{ℕ, ◌+◌, ◌*◌, ◌-◌, List, length, get_or, set, drop, replicate}
use Rattle.std.proofs.Math.Seq.{paste, sets}

-- n zeros
abbrev pub zeros : ℕ → List ℕ
zeros n = replicate n 0

-- l, with the m words from place o + c moved down to place o
abbrev pub move_down : ℕ → ℕ → ℕ → List ℕ → List ℕ
move_down o c m l = paste l o (drop (o + c) l) m

-- l, with the m words from place o moved up to place o + c
abbrev pub move_up : ℕ → ℕ → ℕ → List ℕ → List ℕ
move_up o c m l = paste l (o + c) (drop o l) m

-- l, with zeros in the n words from place o
abbrev pub wipe : ℕ → ℕ → List ℕ → List ℕ
wipe o n l = paste l o (zeros n) n

-- the table l of n rows, each w words wide, without row i: the rows behind it move down, the last row's words are cleared, and the count falls
unfoldable pub cut_row : ℕ → ℕ → ℕ → List ℕ → List ℕ
cut_row w i n l = set (wipe ((i * w + 1) + (n - (i + 1)) * w) w (move_down (i * w + 1) w ((n - (i + 1)) * w) l)) 0 (n - 1)

-- the table l of n rows, each w words wide, with room for a row at place i: the rows from there on move up, and the count rises.
-- The words of the new row are those that stood there
unfoldable pub open_row : ℕ → ℕ → ℕ → List ℕ → List ℕ
open_row w i n l = set (move_up (i * w + 1) w ((n - i) * w) l) 0 (n + 1)

-- the table l, whose rows are as wide as this row, with this row behind the others: the count rises
unfoldable pub add_row : List ℕ → List ℕ → List ℕ
add_row row l = set (sets l (get_or l 0 0 * length row + 1) row) 0 (get_or l 0 0 + 1)
