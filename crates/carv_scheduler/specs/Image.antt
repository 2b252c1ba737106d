-- The call of its own that fills document 01's register image. Assumes nothing.
use Rattle.std.specs.Prelude.{◌≡◌, ℕ, true, false, List, length, nat_eq}
use Rattle.carv_register_image.specs.Image.{image_size, register_image}

-- "a call of its own serves thread 0 and idle": question 1 of the lent image's length alone, then it is filled.
pub record Filled (a : List ℕ) (r : ℕ) (a' : List ℕ) : Type 0 where
  pub size : nat_eq (length a) image_size ≡ false → (r ≡ 1) × (a' ≡ a)
  pub filled : nat_eq (length a) image_size ≡ true → (r ≡ 0) × (a' ≡ register_image)
