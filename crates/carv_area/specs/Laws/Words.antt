-- The laws of `Words`: the words after a store of a word, and the bytes behind the last whole word; these and the words are every byte (`bytes_fixed`). Assumes nothing.
use Rattle.std.specs.Prelude.{ℕ, zero, suc, map, ◌+◌, ◌*◌, ◌-◌, ◌/◌, ◌%◌, ◌^◌, ◌≤◌, ◌<◌, ◌≡◌, refl, List, [], ◌∷◌, ◌++◌, set, take, drop, replicate}
use Rattle.std.proofs.Common.{zero-add, le_of_suc-le-suc, not-suc-le-zero, get_or-take, drop-drop, add-zero, add-suc, suc-add, pow-suc, eq-or-lt_of_le, ◌∙◌, subst, ⊎_elim, length-set, length-append, length-drop, take-append-drop, get_or-set_other, ext_get_or, length-take-le, take_at, drop_at, get_or-drop}
use native.Mathlib.Omega.{arith}
use Rattle.std.proofs.Math.Path.{sym, ap}
use Rattle.std.proofs.Math.ListN.{length, get_or, get_or-append, get_or-eq_default}
use Rattle.std.proofs.Math.Seq.{get_or-append-add}
use Rattle.carv_area.specs.Laws.Lists.{lt_or_ge, zero_at, length_tab, get_or_tab}
use Rattle.std.specs.Simd.{first_chunks}
use Rattle.std.specs.Int.{w64, to_le_bytes, from_le_bytes}
use Rattle.std.proofs.lemmas.Nat.{from_le_bytes-to_le_bytes_8}
use Rattle.std.proofs.lemmas.Slice.{put_mid-paste}
use Rattle.std.proofs.lemmas.List.{length-map, get_or-map, set_split, length-replicate, get_or-replicate}
use Rattle.std.proofs.lemmas.List.Edits.{sets, length-paste, drop-paste, paste_all}
use Rattle.std.proofs.Math.Seq.{paste, sets-eq}
use Rattle.std.proofs.Math.Numerals.{towards_numerals}
use Rattle.carv_area.specs.Lists.{tab}
use Rattle.carv_area.specs.Words.{value, word, words, rest, Writes}
use Rattle.carv_area.specs.Parts.{put_part}
use Rattle.carv_area.specs.Moves.{zeros, wipe}

-- `value` looks at its n bytes only
value_shift : (n : ℕ) (l m : List ℕ) (o p : ℕ) → ((i : ℕ) → i < n → get_or l (o + i) 0 ≡ get_or m (p + i) 0) → value n l o ≡ value n m p
unfolding value
value_shift zero l m o p h = refl
value_shift (suc n) l m o p h =
    let here : get_or l o 0 ≡ get_or m p 0 = simp add-zero at (h zero (omega arith)) in
    let rest = value_shift n l m (suc o) (suc p) (λ i a. rw (suc-add, suc-add, ← add-suc, ← add-suc) (h (suc i) (omega arith))) in
    omega arith

-- the same, at one place
value_ext : (n : ℕ) (l m : List ℕ) (o : ℕ) → ((i : ℕ) → o ≤ i → i < o + n → get_or l i 0 ≡ get_or m i 0) → value n l o ≡ value n m o
value_ext n l m o h = value_shift n l m o o (λ i a. h (o + i) (omega arith) (omega arith))

-- bytes below 256 are determined by their value
value_inj : (n : ℕ) (l m : List ℕ) (o : ℕ) → ((i : ℕ) → get_or l i 0 < 256) → ((i : ℕ) → get_or m i 0 < 256) → value n l o ≡ value n m o
    → (i : ℕ) → o ≤ i → i < o + n → get_or l i 0 ≡ get_or m i 0
unfolding value
value_inj zero l m o bl bm e i a b = absurd (omega arith)
value_inj (suc n) l m o bl bm e i a b =
    ⊎_elim
    (λ (p : o ≡ i). subst (λ (j : ℕ). get_or l j 0 ≡ get_or m j 0) p (omega (arith, bl o, bm o)))
    (λ (p : o < i). value_inj n l m (suc o) bl bm (omega (arith, bl o, bm o)) i p (omega arith))
    (eq-or-lt_of_le a)

-- bytes below 256 are determined by their word
pub word_inj : (l m : List ℕ) (k : ℕ) → ((i : ℕ) → get_or l i 0 < 256) → ((i : ℕ) → get_or m i 0 < 256) → word l k ≡ word m k
    → (i : ℕ) → k * 8 ≤ i → i < k * 8 + 8 → get_or l i 0 ≡ get_or m i 0
unfolding word
word_inj l m k = value_inj 8 l m (k * 8)

-- ---- the list of words

-- their number
pub length_words : (l : List ℕ) → length (words l) ≡ length l / 8
unfolding words
length_words l = length_tab (length l / 8) (word l)

-- each of them
pub get_d_words : (l : List ℕ) (k : ℕ) → k < length (words l) → get_or (words l) k 0 ≡ word l k
unfolding words
get_d_words l k h = get_or_tab (length l / 8) (word l) k 0 (omega (arith, length_words l))

-- ---- the bytes behind the last whole word

-- their number
pub length_rest : (l : List ℕ) → length (rest l) ≡ length l % 8
unfolding rest
length_rest l = length-drop (length l / 8 * 8) l ∙ omega arith

-- each of them
get_or_rest : (l : List ℕ) (i : ℕ) → get_or (rest l) i 0 ≡ get_or l (length l / 8 * 8 + i) 0
unfolding rest
get_or_rest l i = get_or-drop (length l / 8 * 8) l i 0

-- a store at one of them is not seen in the words
pub words_miss : (l : List ℕ) (i x : ℕ) → length l / 8 * 8 ≤ i → words (set l i x) ≡ words l
unfolding word
words_miss l i x h =
    let n = length_words (set l i x) ∙ ap (λ (m : ℕ). m / 8) (length-set l i x) in
    ext_get_or 0 (words (set l i x)) (words l) (n ∙ sym (length_words l))
    (λ k b.
    let a : k < length l / 8 = omega arith in
    get_d_words (set l i x) k b
    ∙ value_ext 8 (set l i x) l (k * 8) (λ j c d. get_or-set_other l i j x 0 (λ e. omega arith))
    ∙ sym (get_d_words l k (omega (arith, length_words l))))

module _ (l m : List ℕ) (bl : (i : ℕ) → get_or l i 0 < 256) (bm : (i : ℕ) → get_or m i 0 < 256) (w : words l ≡ words m) where
  -- the bytes of whole words
  in_words : (i : ℕ) → i < length l / 8 * 8 → i < length m / 8 * 8 → get_or l i 0 ≡ get_or m i 0
  in_words i a b =
      let v : word l (i / 8) ≡ word m (i / 8) =
      sym (get_d_words l (i / 8) (omega (arith, length_words l))) ∙ ap (λ (x : List ℕ). get_or x (i / 8) 0) w ∙ get_d_words m (i / 8) (omega (arith, length_words m)) in
      word_inj l m (i / 8) bl bm v i (omega arith) (omega arith)

  -- equal words, and equal bytes behind the last whole word: the bytes are equal
  pub bytes_fixed : rest l ≡ rest m → l ≡ m
  bytes_fixed r =
      let e : length l / 8 ≡ length m / 8 = sym (length_words l) ∙ ap length w ∙ length_words m in
      let f : length l % 8 ≡ length m % 8 = sym (length_rest l) ∙ ap length r ∙ length_rest m in
      ext_get_or 0 l m (omega arith)
      (λ i b. ⊎_elim
      (λ (a : i < length l / 8 * 8). in_words i a (omega arith))
      (λ (a : length l / 8 * 8 ≤ i). behind_words r e i a)
      (lt_or_ge i (length l / 8 * 8)))
    where
      behind_words : rest l ≡ rest m → length l / 8 ≡ length m / 8 → (i : ℕ) → length l / 8 * 8 ≤ i → get_or l i 0 ≡ get_or m i 0
      behind_words r e i a =
          let p : length l / 8 * 8 + (i - length l / 8 * 8) ≡ i = omega arith in
          let q : length m / 8 * 8 + (i - length l / 8 * 8) ≡ i = omega arith in
          ap (λ (x : ℕ). get_or l x 0) (sym p) ∙ sym (get_or_rest l (i - length l / 8 * 8)) ∙ ap (λ (x : List ℕ). get_or x (i - length l / 8 * 8) 0) r
          ∙ get_or_rest m (i - length l / 8 * 8) ∙ ap (λ (x : ℕ). get_or m x 0) q

-- what a store of words leaves is one list of bytes
pub writes_one : (l m n ws : List ℕ) → ((i : ℕ) → get_or m i 0 < 256) → ((i : ℕ) → get_or n i 0 < 256) → Writes l m ws → Writes l n ws → m ≡ n
writes_one l m n ws bm bn x y = bytes_fixed m n bm bn (x.words ∙ sym y.words) (x.rest ∙ sym y.rest)

-- bytes whose number is a multiple of 8 are determined by their words
pub words_inj : (l m : List ℕ) → ((i : ℕ) → get_or l i 0 < 256) → ((i : ℕ) → get_or m i 0 < 256)
    → length l % 8 ≡ 0 → length l ≡ length m → words l ≡ words m → l ≡ m
words_inj l m bl bm d e w = bytes_fixed l m bl bm w (none l d ∙ sym (none m (sym (ap (λ (x : ℕ). x % 8) e) ∙ d)))
  where
    none : (k : List ℕ) → length k % 8 ≡ 0 → rest k ≡ []
    none k z = ext_get_or 0 (rest k) [] (length_rest k ∙ z) (λ i a. absurd (omega (arith, length_rest k)))

-- bytes below 256 make a number of so many bytes
value_below : (n : ℕ) (l : List ℕ) (o : ℕ) → ((i : ℕ) → get_or l i 0 < 256) → value n l o < 256 ^ n
unfolding value
value_below zero l o b = omega arith
value_below (suc n) l o b = rw pow-suc (omega (arith, b o, value_below n l (suc o) b))

-- and words of 64 bits
pub word_below : (l : List ℕ) (k : ℕ) → ((i : ℕ) → get_or l i 0 < 256) → get_or (words l) k 0 < 2 ^ 64
unfolding word
word_below l k b =
    ⊎_elim
    (λ (h : k < length (words l)). rw (get_d_words l k h) (value_below 8 l (k * 8) b))
    (λ (h : length (words l) ≤ k). rw (get_or-eq_default (words l) 0 h) (omega arith))
    (lt_or_ge k (length (words l)))

-- ---- parts: a cut between two words of the bytes is a cut of the list of words

module _ (n : ℕ) (p q : List ℕ) (e : length p ≡ n * 8) where
  -- a word of the first list
  in_front : (k : ℕ) → k < n → k < length (words p) → word (p ++ q) k ≡ get_or (words p ++ words q) k 0
  unfolding word
  in_front k b c =
      value_ext 8 (p ++ q) p (k * 8) (λ i x y. get_or-append p q 0 i (omega arith))
      ∙ sym (get_d_words p k c) ∙ sym (get_or-append (words p) (words q) 0 k c)

  -- a word of the second
  behind : (k : ℕ) → n ≤ k → k - n < length (words q) → word (p ++ q) k ≡ get_or (words p ++ words q) k 0
  unfolding word
  behind k b c =
      let f : length (words p) + (k - n) ≡ k = omega (arith, length_words p) in
      value_shift 8 (p ++ q) q (k * 8) ((k - n) * 8)
      (λ i x.
      let g : k * 8 + i ≡ length p + ((k - n) * 8 + i) = omega arith in
      ap (λ (j : ℕ). get_or (p ++ q) j 0) g ∙ get_or-append-add p q ((k - n) * 8 + i) 0)
      ∙ sym (get_d_words q (k - n) c)
      ∙ sym (get_or-append-add (words p) (words q) (k - n) 0) ∙ ap (λ (j : ℕ). get_or (words p ++ words q) j 0) f

  -- the words of two lists of bytes, one behind the other
  pub words_append : words (p ++ q) ≡ words p ++ words q
  words_append =
      let lp = length_words p in
      let lq = length_words q in
      let lpq = length_words (p ++ q) in
      let la : length (p ++ q) ≡ length p + length q = length-append p q in
      let lw : length (words p ++ words q) ≡ length (words p) + length (words q) = length-append (words p) (words q) in
      ext_get_or 0 (words (p ++ q)) (words p ++ words q) (omega arith)
      (λ k a. get_d_words (p ++ q) k a ∙ ⊎_elim (λ (b : k < n). in_front k b (omega arith)) (λ (b : n ≤ k). behind k b (omega arith)) (lt_or_ge k n))

module _ (l : List ℕ) (f : ℕ) (h : f * 8 ≤ length l) where
  -- the words, cut
  cut : words l ≡ words (take (f * 8) l) ++ words (drop (f * 8) l)
  cut = ap words (sym (take-append-drop (f * 8) l)) ∙ words_append f (take (f * 8) l) (drop (f * 8) l) (length-take-le (f * 8) l h)

  -- how many stand before the cut
  front : length (words (take (f * 8) l)) ≡ f
  front = omega (arith, length_words (take (f * 8) l), length-take-le (f * 8) l h)

  -- the words of the bytes before the cut
  pub words_take : words (take (f * 8) l) ≡ take f (words l)
  words_take = sym (rw cut (take_at (words (take (f * 8) l)) (words (drop (f * 8) l)) f front))

  -- and behind it
  pub words_drop : words (drop (f * 8) l) ≡ drop f (words l)
  words_drop = sym (rw cut (drop_at (words (take (f * 8) l)) (words (drop (f * 8) l)) f front))

module _ (l : List ℕ) (f n : ℕ) (h : (f + n) * 8 ≤ length l) where
  -- what a call that is lent the n words from word f on sees
  pub words_part : words (take (n * 8) (drop (f * 8) l)) ≡ take n (drop f (words l))
  words_part = words_take (drop (f * 8) l) n (rw length-drop (omega arith)) ∙ ap (take n) (words_drop l f (omega arith))

  -- and what it leaves
  pub words_put : (p : List ℕ) → length p ≡ n * 8
      → words (take (f * 8) l ++ (p ++ drop (n * 8) (drop (f * 8) l))) ≡ take f (words l) ++ (words p ++ drop n (drop f (words l)))
  words_put p e =
      words_append f (take (f * 8) l) (p ++ drop (n * 8) (drop (f * 8) l)) (length-take-le (f * 8) l (omega arith))
      ∙ rw (words_append n p (drop (n * 8) (drop (f * 8) l)) e, words_take l f (omega arith), words_drop (drop (f * 8) l) n (rw length-drop (omega arith)), words_drop l f (omega arith))

-- ---- a word that is read and one that is stored

-- chunk k of eight bytes
chunk : (n : ℕ) (l : List ℕ) (k : ℕ) → k < n → get_or (first_chunks 8 n l) k [] ≡ take 8 (drop (k * 8) l)
chunk zero l k h = absurd (not-suc-le-zero h)
chunk (suc n) l zero h = refl
chunk (suc n) l (suc k) h =
    let e : suc k * 8 ≡ 8 + k * 8 = omega arith in
    chunk n (drop 8 l) k (le_of_suc-le-suc h) ∙ rw (e, ← (drop-drop (k * 8) 8 l)) refl

-- a word, by the library's name of it
word_bytes : (l : List ℕ) (k : ℕ) → word l k ≡ from_le_bytes w64 (take 8 (drop (k * 8) l))
unfolding word value
word_bytes l k =
    value_shift 8 l (take 8 (drop (k * 8) l)) (k * 8) 0 (λ i a. rw zero-add (sym (get_or-take 8 (drop (k * 8) l) i 0 a ∙ get_or-drop (k * 8) l i 0))) ∙ omega arith

-- their number
length_chunks : (n : ℕ) (l : List ℕ) → length (first_chunks 8 n l) ≡ n
length_chunks zero l = refl
length_chunks (suc n) l = ap suc (length_chunks n (drop 8 l))

-- all words: the chunks' values
pub words_chunks : (l : List ℕ) → words l ≡ map (from_le_bytes w64) (first_chunks 8 (length l / 8) l)
words_chunks l =
    let chunks = first_chunks 8 (length l / 8) l in
    let size = length_chunks (length l / 8) l in
    ext_get_or 0 (words l) (map (from_le_bytes w64) chunks) (length_words l ∙ sym (length-map chunks (from_le_bytes w64) ∙ size))
    (λ k a. sym (get_or-map (from_le_bytes w64) chunks k [] 0 (omega (arith, length_words l, size))
    ∙ rw (chunk (length l / 8) l k (omega (arith, length_words l))) (sym (word_bytes l k)) ∙ sym (get_d_words l k a)))

-- a read of a word
pub get_of : (l : List ℕ) (k v : ℕ) → k * 8 + 8 ≤ length l → v ≡ from_le_bytes w64 (get_or (first_chunks 8 (length l / 8) l) k []) → v ≡ get_or (words l) k 0
get_of l k v h e =
    e ∙ rw (chunk (length l / 8) l k (omega arith)) (sym (word_bytes l k)) ∙ sym (get_d_words l k (omega (arith, length_words l)))

-- ---- bytes between two words, written over

module _ (l s : List ℕ) (o m : ℕ) (h : (o + m) * 8 ≤ length l) (k : m * 8 ≤ length s) where
  -- the words
  pasted : words (paste l (o * 8) s (m * 8)) ≡ paste (words l) o (words s) m
  pasted =
      let f : length (take (o * 8) l) ≡ o * 8 = length-take-le (o * 8) l (omega arith) in
      let g : length (take (m * 8) s) ≡ m * 8 = length-take-le (m * 8) s k in
      let e : o * 8 + m * 8 ≡ (o + m) * 8 = omega arith in
      words_append (o + m) (take (o * 8) l ++ take (m * 8) s) (drop (o * 8 + m * 8) l) (rw length-append (omega arith))
      ∙ rw (words_append o (take (o * 8) l) (take (m * 8) s) f, words_take l o (omega arith), words_take s m k, e, words_drop l (o + m) h) refl

  -- the bytes behind them
  behind_pasted : (n : ℕ) → o * 8 + m * 8 ≤ n → drop n (paste l (o * 8) s (m * 8)) ≡ drop n l
  behind_pasted n a =
      let i : ℕ = o * 8 + m * 8 in
      let e : n ≡ i + (n - i) = omega arith in
      rw e (sym (drop-drop (n - i) i (paste l (o * 8) s (m * 8))) ∙ ap (drop (n - i)) (drop-paste l (o * 8) s (m * 8) (omega arith) k) ∙ drop-drop (n - i) i l)

  -- what is left
  pub written : Writes l (paste l (o * 8) s (m * 8)) (paste (words l) o (words s) m)
  unfolding rest
  written = record {
    words = pasted;
    rest =
        ap (λ (n : ℕ). drop (n / 8 * 8) (paste l (o * 8) s (m * 8))) (length-paste l (o * 8) s (m * 8) (omega arith) k)
        ∙ behind_pasted (length l / 8 * 8) (omega arith);
  }

-- words that move
pub move_of : (l l' : List ℕ) (to from m n : ℕ) → (to + m) * 8 ≤ length l → (from + m) * 8 ≤ length l → n ≡ m * 8
    → l' ≡ paste l (to * 8) (drop (from * 8) l) n → Writes l l' (paste (words l) to (drop from (words l)) m)
move_of l l' to from m n h k e q =
    rw (q, e, ← (words_drop l from (omega arith))) (written l (drop (from * 8) l) to m h (rw length-drop (omega arith)))

-- words that are cleared
no_value : (n : ℕ) (l : List ℕ) (o : ℕ) → ((i : ℕ) → get_or l i 0 ≡ 0) → value n l o ≡ 0
unfolding value
no_value zero l o h = refl
no_value (suc n) l o h = omega (arith, h o, no_value n l (suc o) h)

words_zero : (n : ℕ) → words (replicate (n * 8) 0) ≡ zeros n
unfolding word
words_zero n =
    let e : length (words (replicate (n * 8) 0)) ≡ n = length_words (replicate (n * 8) 0) ∙ rw length-replicate (omega arith) in
    ext_get_or 0 (words (replicate (n * 8) 0)) (zeros n) (e ∙ sym (length-replicate n 0))
    (λ i a. get_d_words (replicate (n * 8) 0) i a
    ∙ no_value 8 (replicate (n * 8) 0) (i * 8) (zero_at (n * 8))
    ∙ sym (get_or-replicate n i 0 0 (omega arith)))

pub wipe_of : (l p : List ℕ) (o n k m : ℕ) → (o + n) * 8 ≤ length l → k ≡ n * 8 → m ≡ n * 8 → p ≡ replicate m 0
    → Writes l (put_part (o * 8) k l p) (wipe o n (words l))
wipe_of l p o n k m h e f q =
    rw (put_mid-paste (o * 8) k l p (replicate m 0) m q (f ∙ sym e) (sym (length-replicate m 0)), f, ← (words_zero n))
    (written l (replicate (n * 8) 0) o n h (rw length-replicate (omega arith)))

-- a word that is stored
words_of : (v : ℕ) → v < 2 ^ 64 → words (to_le_bytes w64 v) ≡ v ∷ []
unfolding words tab
words_of v f = ap (λ (x : ℕ). x ∷ []) (word_bytes (to_le_bytes w64 v) 0 ∙ from_le_bytes-to_le_bytes_8 v f)

-- the eight bytes p, one after the other
unfoldable pub stores : List ℕ → ℕ → List ℕ → List ℕ
stores l o p =
    set (set (set (set (set (set (set (set l o (get_or p 0 0)) (o + 1) (get_or p 1 0)) (o + 2) (get_or p 2 0)) (o + 3) (get_or p 3 0))
    (o + 4) (get_or p 4 0)) (o + 5) (get_or p 5 0)) (o + 6) (get_or p 6 0)) (o + 7) (get_or p 7 0)

stores_are : (l : List ℕ) (o v : ℕ) → stores l o (to_le_bytes w64 v) ≡ sets l o (to_le_bytes w64 v)
unfolding stores
stores_are l o v = simp towards_numerals

pub put_of : (l p : List ℕ) (k v : ℕ) → k * 8 + 8 ≤ length l → v < 2 ^ 64 → p ≡ to_le_bytes w64 v → Writes l (stores l (k * 8) p) (set (words l) k v)
put_of l p k v h f q =
    let i : k < length (words l) = omega (arith, length_words l) in
    let w : set (words l) k v ≡ paste (words l) k (v ∷ []) 1 =
    set_split (words l) k v i ∙ ap (λ (j : ℕ). take k (words l) ++ v ∷ drop j (words l)) {x = suc k} {y = k + 1} (omega arith)
    ∙ sym (paste_all (words l) k (v ∷ []) 1 refl) in
    let s = rw (words_of v f) at (written l (to_le_bytes w64 v) k 1 (omega arith) (omega arith)) in
    rw (q, stores_are, sets-eq (to_le_bytes w64 v) l (k * 8) h, w) s
