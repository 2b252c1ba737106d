-- Document 01's register image, what a thread's floating-point registers start from, and document 02's P5, the steps that write it. Assumes nothing.
use Rattle.std.specs.Prelude.{◌≡◌, List, ◌++◌, ℕ, ◌*◌, ◌-◌, set, replicate, take, drop}
use Rattle.carv_area.specs.Parts.{part, put_part}

abbrev pub image_size : ℕ
image_size = 512

-- "512 bytes, all 0 but byte 0 = 0x7f, 1 = 0x03, 24 = 0x80, 25 = 0x1f, 28 = 0xbf, 29 = 0xff"
unfoldable pub register_image : List ℕ
register_image = set (set (set (set (set (set (replicate image_size 0) 0 0x7f) 1 0x03) 24 0x80) 25 0x1f) 28 0xbf) 29 0xff

-- "eight bytes in each step": 512 bytes m, with the image's eight bytes of step k, from 1, in their place. Every other byte stays
unfoldable pub eight_written : (k : ℕ) (m : List ℕ) → List ℕ
eight_written k m = put_part ((k - 1) * 8) 8 m (part ((k - 1) * 8) 8 register_image)

-- "after step k of 64 its first 8k bytes are final and the others as lent"
unfoldable pub after_step : (k : ℕ) (lent : List ℕ) → List ℕ
after_step k lent = take (k * 8) register_image ++ drop (k * 8) lent

-- "its first 8k bytes are final"
unfoldable pub Final : (k : ℕ) (m : List ℕ) → Type 0
Final k m = take (k * 8) m ≡ take (k * 8) register_image
