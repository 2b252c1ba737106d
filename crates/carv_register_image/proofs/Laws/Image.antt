-- The register image and the steps that write it: its words, what is after each step, what one step writes, and that the last leaves the image. Assumes nothing.
use Rattle.std.specs.Prelude.{◌≡◌, refl, Bool, true, false, ◌&&◌, ◌≢◌, ℕ, zero, suc, ◌+◌, ◌*◌, ◌-◌, ◌≤◌, ◌<◌, ltb, length, get_or, set, replicate}
use Rattle.std.proofs.Math.Path.{sym, ap}
use Rattle.std.proofs.Common.{◌∙◌, length-drop, length-take-le, take_all, drop-cons, get_or-set_other, ltb-true}
use Rattle.std.proofs.lemmas.Bool.{false≢true}
use mathlib.Core.List.{List, [], ◌∷◌, ◌++◌, append_assoc, append-nil}
use native.Mathlib.Omega.{arith}
use Rattle.std.proofs.Math.ListN.{take, drop}
use Rattle.std.proofs.lemmas.List.{set_split}
use Rattle.std.proofs.Math.Seq.{take_at, drop_at, take-add, drop-drop}
use Rattle.carv_area.specs.Lists.{tab}
use Rattle.carv_area.specs.Laws.Lists.{zero_at}
use Rattle.carv_area.specs.Words.{value, word, words, Writes}
use Rattle.carv_area.specs.Laws.Words.{length_words, words_inj, words_part, words_put}
use Rattle.carv_area.specs.Parts.{part, put_part}
use Rattle.carv_area.specs.Laws.Parts.{length_part, length_put, part_same, part_bytes, put_bytes}
use Rattle.carv_register_image.specs.Image.{register_image, eight_written, after_step, Final}

-- ---- the image

-- its length
pub length_image : length register_image ≡ 512
unfolding register_image
length_image = refl

-- its words: all 0 but two
pub image_words : words register_image ≡ set (set (replicate 64 0) 0 0x037f) 3 0x0000_ffbf_0000_1f80
unfolding register_image words word value tab
image_words = refl

pub other_word : (i : ℕ) → i ≢ 0 → i ≢ 3 → 0 ≡ get_or (words register_image) i 0
other_word i a b =
    sym (ap (λ (l : List ℕ). get_or l i 0) image_words
    ∙ get_or-set_other (set (replicate 64 0) 0 0x037f) 3 i 0x0000_ffbf_0000_1f80 0 b ∙ get_or-set_other (replicate 64 0) 0 i 0x037f 0 a
    ∙ zero_at 64 i)

-- its bytes are bytes
image_bytes : (j : ℕ) → get_or register_image j 0 < 256
unfolding register_image
image_bytes = byte_at register_image refl
  where
    are_bytes : List ℕ → Bool
    are_bytes [] = true
    are_bytes (x ∷ l) = ltb x 256 && are_bytes l

    both : (a b : Bool) → (a && b) ≡ true → (a ≡ true) × (b ≡ true)
    both true b e = (refl, e)
    both false b e = absurd (false≢true e)

    byte_at : (l : List ℕ) → are_bytes l ≡ true → (j : ℕ) → get_or l j 0 < 256
    byte_at [] e j = omega arith
    byte_at (x ∷ l) e zero = ltb-true x 256 (both (ltb x 256) (are_bytes l) e).0
    byte_at (x ∷ l) e (suc j) = byte_at l (both (ltb x 256) (are_bytes l) e).1 j

-- ---- after the steps

-- before the first, the lent bytes
pub after_none : (lent : List ℕ) → after_step 0 lent ≡ lent
unfolding after_step
after_none lent = refl

module _ (k : ℕ) (h : k ≤ 64) (lent : List ℕ) where
  front : length (take (k * 8) register_image) ≡ k * 8
  front = length-take-le (k * 8) register_image (omega (arith, length_image))

  -- "its first 8k bytes are final"
  pub are_final : take (k * 8) (after_step k lent) ≡ take (k * 8) register_image
  unfolding after_step
  are_final = take_at (take (k * 8) register_image) (drop (k * 8) lent) (k * 8) front

  -- "and the others as lent"
  pub as_lent : drop (k * 8) (after_step k lent) ≡ drop (k * 8) lent
  unfolding after_step
  as_lent = drop_at (take (k * 8) register_image) (drop (k * 8) lent) (k * 8) front

-- what the steps before step k left: their bytes are final, and one step more leaves what it is to leave of the lent bytes
module _ (k : ℕ) (a : 1 ≤ k) (b : k ≤ 64) (lent m : List ℕ) (e : m ≡ after_step (k - 1) lent) where
  pub so_far : Final (k - 1) m
  unfolding Final
  so_far = rw e (are_final (k - 1) (omega arith) lent)

  pub one_more : after_step k m ≡ after_step k lent
  unfolding after_step
  one_more =
      let n : k * 8 ≡ (k - 1) * 8 + 8 = omega arith in
      let d : drop ((k - 1) * 8) m ≡ drop ((k - 1) * 8) lent = ap (drop ((k - 1) * 8)) e ∙ as_lent (k - 1) (omega arith) lent in
      ap (λ (l : List ℕ). take (k * 8) register_image ++ l) (rw (n, ← (drop-drop 8 ((k - 1) * 8) m), ← (drop-drop 8 ((k - 1) * 8) lent)) (ap (drop 8) d))

-- after the last, the image
pub after_all : (lent : List ℕ) → length lent ≡ 512 → after_step 64 lent ≡ register_image
unfolding after_step
after_all lent z =
    ap (λ (l : List ℕ). l ++ drop 512 lent) (take_all 512 register_image (omega (arith, length_image)))
    ∙ ap (λ (l : List ℕ). register_image ++ l) (nothing_left (drop 512 lent) (length-drop 512 lent ∙ omega arith)) ∙ append-nil register_image
  where
    nothing_left : (l : List ℕ) → length l ≡ 0 → l ≡ []
    nothing_left [] e = refl
    nothing_left (x ∷ l) e = absurd (omega arith)

-- ---- one step

module _ (k : ℕ) (a : 1 ≤ k) (b : k ≤ 64) where
  -- its eight bytes end at byte 8k
  ends : (k - 1) * 8 + 8 ≡ k * 8
  ends = omega arith

  -- the image's eight bytes
  abbrev own : List ℕ
  own = part ((k - 1) * 8) 8 register_image

  length_own : length own ≡ 8
  length_own = length_part ((k - 1) * 8) 8 register_image (omega (arith, length_image))

  -- where the bytes before them are final, writing them is step k
  pub step_is : (m : List ℕ) → Final (k - 1) m → eight_written k m ≡ after_step k m
  unfolding eight_written after_step Final
  step_is m e =
      rw (e, drop-drop 8 ((k - 1) * 8) m, ← ends, take-add ((k - 1) * 8) 8 register_image)
      (sym (append_assoc (take ((k - 1) * 8) register_image) own (drop ((k - 1) * 8 + 8) m)))

  module _ (m : List ℕ) (z : length m ≡ 512) where
    before : length (take ((k - 1) * 8) m) ≡ (k - 1) * 8
    before = length-take-le ((k - 1) * 8) m (omega arith)

    -- of what is written, the bytes before the eight stay, the eight are the image's, the bytes behind them stay
    pub before_stays : take ((k - 1) * 8) (eight_written k m) ≡ take ((k - 1) * 8) m
    unfolding eight_written
    before_stays = take_at (take ((k - 1) * 8) m) (own ++ drop 8 (drop ((k - 1) * 8) m)) ((k - 1) * 8) before

    pub eight_final : part ((k - 1) * 8) 8 (eight_written k m) ≡ part ((k - 1) * 8) 8 register_image
    unfolding eight_written
    eight_final = part_same ((k - 1) * 8) 8 m own (omega arith) length_own

    pub behind_stays : drop (k * 8) (eight_written k m) ≡ drop (k * 8) m
    unfolding eight_written
    behind_stays =
        rw (← ends, ← (drop-drop 8 ((k - 1) * 8) m), ← (drop-drop 8 ((k - 1) * 8) (put_part ((k - 1) * 8) 8 m own)))
        (ap (drop 8) (drop_at (take ((k - 1) * 8) m) (own ++ drop 8 (drop ((k - 1) * 8) m)) ((k - 1) * 8) before)
        ∙ drop_at own (drop 8 (drop ((k - 1) * 8) m)) 8 length_own)

    -- its words: the image's word in its place
    word_written : words (put_part ((k - 1) * 8) 8 m own) ≡ set (words m) (k - 1) (get_or (words register_image) (k - 1) 0)
    word_written =
        let i : k - 1 < length (words register_image) = omega (arith, length_words register_image, length_image) in
        let j : k - 1 < length (words m) = omega (arith, length_words m) in
        words_put m (k - 1) 1 (omega arith) own length_own
        ∙ rw (words_part register_image (k - 1) 1 (omega (arith, length_image)), drop-cons (words register_image) (k - 1) 0 i, drop-cons (words m) (k - 1) 0 j)
        (sym (set_split (words m) (k - 1) (get_or (words register_image) (k - 1) 0) j))

    -- `write_eight`: a store of the image's word at word number i
    pub written : (m' : List ℕ) → length m' ≡ 512 → ((j : ℕ) → get_or m j 0 < 256) → ((j : ℕ) → get_or m' j 0 < 256)
        → (i v : ℕ) → i ≡ k - 1 → v ≡ get_or (words register_image) (k - 1) 0 → Writes m m' (set (words m) i v) → m' ≡ eight_written k m
    unfolding eight_written
    written m' z' x x' i v n e w =
        words_inj m' (put_part ((k - 1) * 8) 8 m own) x'
        (put_bytes ((k - 1) * 8) 8 m own (omega arith) x (part_bytes ((k - 1) * 8) 8 register_image (omega (arith, length_image)) image_bytes))
        (omega arith) (z' ∙ sym (length_put ((k - 1) * 8) 8 m own (omega arith) length_own ∙ z))
        (w.words ∙ rw (n, e) (sym word_written))
