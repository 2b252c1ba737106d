-- The register image and its steps on lent bytes, written out: the definitions compute these bytes. Assumes nothing.
use Rattle.std.specs.Prelude.{◌≡◌, refl, List, [], ◌∷◌, ◌++◌, ℕ, replicate}
use Rattle.carv_register_image.specs.Image.{register_image, eight_written, after_step}

-- n lent bytes, none of which is the image's
abbrev lent : (n : ℕ) → List ℕ
lent n = replicate n 0xee

abbrev zeros : (n : ℕ) → List ℕ
zeros n = replicate n 0

-- the image's first eight bytes, and the eight from byte 24 on
abbrev first : List ℕ
first = 0x7f ∷ 0x03 ∷ 0 ∷ 0 ∷ 0 ∷ 0 ∷ 0 ∷ 0 ∷ []

abbrev fourth : List ℕ
fourth = 0x80 ∷ 0x1f ∷ 0 ∷ 0 ∷ 0xbf ∷ 0xff ∷ 0 ∷ 0 ∷ []

pub record Cases : Type 0 where
  pub image : register_image ≡ first ++ (zeros 16 ++ (fourth ++ zeros 480))
  -- "after step k of 64": nothing made, the first, both sides of the fourth, the last but one, the last
  pub after_0 : after_step 0 (lent 512) ≡ lent 512
  pub after_1 : after_step 1 (lent 512) ≡ first ++ lent 504
  pub after_3 : after_step 3 (lent 512) ≡ first ++ (zeros 16 ++ lent 488)
  pub after_4 : after_step 4 (lent 512) ≡ first ++ (zeros 16 ++ (fourth ++ lent 480))
  pub after_63 : after_step 63 (lent 512) ≡ first ++ (zeros 16 ++ (fourth ++ (zeros 472 ++ lent 8)))
  pub after_64 : after_step 64 (lent 512) ≡ first ++ (zeros 16 ++ (fourth ++ zeros 480))
  -- "eight bytes in each step", of bytes in which no other step was made
  pub step_1 : eight_written 1 (lent 512) ≡ first ++ lent 504
  pub step_2 : eight_written 2 (lent 512) ≡ lent 8 ++ (zeros 8 ++ lent 496)
  pub step_4 : eight_written 4 (lent 512) ≡ lent 24 ++ (fourth ++ lent 480)
  pub step_64 : eight_written 64 (lent 512) ≡ lent 504 ++ zeros 8

pub cases_hold : Cases
unfolding register_image after_step eight_written
cases_hold = record {
  image = refl;
  after_0 = refl;
  after_1 = refl;
  after_3 = refl;
  after_4 = refl;
  after_63 = refl;
  after_64 = refl;
  step_1 = refl;
  step_2 = refl;
  step_4 = refl;
  step_64 = refl;
}
