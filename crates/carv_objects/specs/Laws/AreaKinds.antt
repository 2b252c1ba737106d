-- "Every code is a listed one", of an area: a kind's word that is no listed code makes it unsound, and a sound area has each object's kind as its code; how an area is laid out goes by no kind. Assumes nothing.
use Rattle.std.specs.Prelude.{◌≡◌, refl, true, false, List, ◌∷◌, ℕ, zero, suc, ◌+◌, ◌*◌, ◌≤◌, ◌<◌, length, get_or, set, drop}
use Rattle.std.proofs.Common.{sym, ap, ◌∙◌, arith}
use Rattle.std.proofs.lemmas.List.{get_or-set_other, drop-set-lt}
use Rattle.std.proofs.lemmas.Bool.{false≢true}
use Rattle.carv_area.specs.Table.{Row, Rising}
use Rattle.carv_area.specs.Lists.{tab}
use Rattle.carv_area.specs.Parts.{part, put_part}
use Rattle.carv_area.specs.Laws.Parts.{length_put, part_same, part_before}
use Rattle.carv_area.specs.Laws.Table.{test}
use Rattle.carv_area.specs.Words.{words}
use Rattle.carv_area.specs.Rows.{flat}
use Rattle.carv_area.specs.Laws.Rows.{holds_word}
use Rattle.carv_objects_spec.specs.declared.kind.Kind.TheVariants.{Frame}
use Rattle.carv_objects_spec.specs.Kinds.{code, listed}
use Rattle.carv_objects_spec.specs.Registry.{plain}
use Rattle.carv_objects_spec.proofs.Laws.Unsound.{with_second}
use Rattle.carv_objects.specs.Area.{head, table, fields, kind_word, row_at, rows_in, decode, LaidOut, kinds_listed, sound_area}
use Rattle.carv_objects.specs.Laws.Rows.{no_row, wide}
use Rattle.carv_objects.specs.Laws.AreaLaws.{sound_formed, sound_listed}

pub unlisted_fails : (a : List ℕ) (i : ℕ) → i < get_or (words (table a)) 0 0 → listed (kind_word (words (table a)) i) ≡ false → sound_area a ≡ false
unlisted_fails a i b h = test (sound_area a) (λ s. absurd (false≢true (sym h ∙ sound_listed a s i b))) (λ s. s)

pub stored_code : (a : List ℕ) → sound_area a ≡ true → (i : ℕ) → i < length (decode a).rows → kind_word (words (table a)) i ≡ code (get_or (decode a).rows i no_row).it.kind
stored_code a s i b =
    let (size, S, A) = sound_formed a s in
    holds_word fields 11 wide (words (table a)) (decode a).rows A.holds i 1 no_row b (omega arith)

-- An area that is laid out stays so whatever word is put for a kind.

-- ids go up as those of other rows do that have the same ids
pub rising_alike : {A B : Type 0} (n low high : ℕ) (f : ℕ → Row A) (g : ℕ → Row B) → ((j : ℕ) → (g j).id ≡ (f j).id) → Rising low high (tab n f) → Rising low high (tab n g)
unfolding tab
rising_alike zero low high f g e u = u
rising_alike (suc n) low high f g e u = rw (e zero) (u.0, rising_alike n (suc (f zero).id) high (λ j. f (suc j)) (λ j. g (suc j)) (λ j. e (suc j)) u.1)

-- the number of rows, each w words, and the words behind them, where word k of a row is written
module _ (w : ℕ) (l : List ℕ) (k n : ℕ) (some : 1 ≤ k) (inside : k < get_or l 0 0 * w + 1) where
  pub count_kept : get_or (set l k n) 0 0 ≡ get_or l 0 0
  count_kept = get_or-set_other l k 0 n 0 (λ e. omega arith)

  pub zeros_kept : drop (get_or (set l k n) 0 0 * w + 1) (set l k n) ≡ drop (get_or l 0 0 * w + 1) l
  zeros_kept = rw count_kept (drop-set-lt (get_or l 0 0 * w + 1) l k n inside)

-- p is its table with the word n for the kind of the object at place i
pub any_kind : (a p : List ℕ) → LaidOut a → length p ≡ 45_064 → (i n : ℕ) → i < get_or (words (table a)) 0 0 → words p ≡ set (words (table a)) (i * 11 + 2) n
    → LaidOut (put_part 8 45_064 a p)
unfolding head table rows_in
any_kind a p k z i n b q =
    let s = k.size in
    let fits : 8 + 45_064 ≤ length a = omega arith in
    let gap : 0 + 8 ≤ 8 = omega arith in
    let l = words (part 8 45_064 a) in
    let t : words (part 8 45_064 (put_part 8 45_064 a p)) ≡ set l (i * 11 + 2) n = ap words (part_same 8 45_064 a p fits z) ∙ q in
    let h : part 0 8 (put_part 8 45_064 a p) ≡ part 0 8 a = part_before 8 45_064 a p fits z 0 8 gap in
    let some : 1 ≤ i * 11 + 2 = omega arith in
    let inside : i * 11 + 2 < get_or l 0 0 * 11 + 1 = omega arith in
    let c = count_kept 11 l (i * 11 + 2) n some inside in
    let id : (j : ℕ) → (row_at (set l (i * 11 + 2) n) j).id ≡ (row_at l j).id = λ j. get_or-set_other l (i * 11 + 2) (j * 11 + 1) n 0 (λ e. omega arith) in
    record {
      size = length_put 8 45_064 a p fits z ∙ k.size;
      few = rw (t, c) k.few;
      zeros = rw (t, zeros_kept 11 l (i * 11 + 2) n some inside) k.zeros;
      rising = rw (t, h, c) (rising_alike (get_or l 0 0) 1 _ (row_at l) (row_at (set l (i * 11 + 2) n)) id k.rising);
    }

-- The words of carv_objects_spec's sound registry of four objects, the Frame, its second, with this word for its kind: 0, the first and the last code, and one more.

abbrev pub with_kind : ℕ → List ℕ
with_kind n = set (4 ∷ flat fields (with_second (plain Frame 1 4_096)).rows) 13 n

pub record KindWords : Type 0 where
  pub none : kinds_listed (with_kind 0) ≡ false
  pub first : kinds_listed (with_kind 1) ≡ true
  pub last : kinds_listed (with_kind 9) ≡ true
  pub above : kinds_listed (with_kind 10) ≡ false

pub kind_words_hold : KindWords
unfolding kinds_listed tab flat
kind_words_hold = record { none = refl; first = refl; last = refl; above = refl }
