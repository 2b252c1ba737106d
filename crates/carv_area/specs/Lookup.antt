-- Rows by their id and by their place: what a place that `find_in` gives says of `at`, `alter` and `erase`. Assumes nothing.
use Rattle.std.specs.Prelude.{ℕ, ◌<◌, ◌≡◌, List, length, get_or, set, Option, Some, None}
use Rattle.carv_area.specs.Table.{Row, at, alter, erase}
use Rattle.carv_area.specs.Rows.{remove_at}

module _ {A : Type 0} where
  -- the row with id x stands at place i. d is any row
  pub record Here (d : Row A) (rows : List (Row A)) (x i : ℕ) : Type 0 where
    pub within : i < length rows
    pub same : (get_or rows i d).id ≡ x
    pub is : at rows x ≡ Some (get_or rows i d).it
    pub changed : (f : A → A) → alter x f rows ≡ set rows i (record { id = x; it = f (get_or rows i d).it })
    pub erased : erase x rows ≡ remove_at rows i

  -- no row has the id x
  pub record Gone (rows : List (Row A)) (x : ℕ) : Type 0 where
    pub is : at rows x ≡ None
    pub changed : (f : A → A) → alter x f rows ≡ rows
    pub erased : erase x rows ≡ rows

  -- what is found says where the row with id x stands
  abbrev pub Located : Row A → List (Row A) → ℕ → Option ℕ → Type 0
  Located d rows x (Some i) = Here d rows x i
  Located d rows x None = Gone rows x
