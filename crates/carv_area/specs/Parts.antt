-- The n elements of a list from place f on, and the list with others in their place: what a call that is lent `&mut a[f..f + n]` sees and leaves. Assumes nothing.
use Rattle.std.specs.Prelude.{ℕ, List, ◌++◌, take, drop}

-- the n elements from place f on
abbrev pub part : ℕ → ℕ → List ℕ → List ℕ
part f n l = take n (drop f l)

-- l, with p in their place
abbrev pub put_part : ℕ → ℕ → List ℕ → List ℕ → List ℕ
put_part f n l p = take f l ++ (p ++ drop n (drop f l))
