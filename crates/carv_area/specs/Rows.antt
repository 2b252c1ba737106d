-- A table in a list of words: the number of rows, the words of each row, and zeros to the end. Assumes nothing.
use Rattle.std.specs.Prelude.{ℕ, suc, ◌+◌, ◌*◌, ◌≡◌, List, [], ◌∷◌, ◌++◌, length, get_or, take, drop}
use Rattle.carv_area.specs.Moves.{zeros}

module _ {A : Type 0} (fields : A → List ℕ) where
  -- the words of the rows, one row after the other
  unfoldable pub flat : List A → List ℕ
  flat [] = []
  flat (x ∷ xs) = fields x ++ flat xs

  -- l is a table with the rows xs: their number, their words, and zeros to the end. `size` and `count` follow; `omega` finds them here
  pub record Holds (width : ℕ) (l : List ℕ) (xs : List A) : Type 0 where
    pub spare : ℕ
    pub is : l ≡ length xs ∷ (flat xs ++ zeros spare)
    pub size : length l ≡ 1 + (length xs * width + spare)
    pub count : get_or l 0 0 ≡ length xs

-- xs without its element at place i
unfoldable pub remove_at {ℓ} : {A : Type ℓ} → List A → ℕ → List A
remove_at xs i = take i xs ++ drop (suc i) xs

-- xs with e at place i, in front of what stood there
unfoldable pub insert_at {ℓ} : {A : Type ℓ} → List A → ℕ → A → List A
insert_at xs i e = take i xs ++ (e ∷ drop i xs)
