-- A sound area is determined by its registry: two with the same registry have the same bytes. Assumes nothing.
use Rattle.std.specs.Prelude.{◌≡◌, true, List, ◌++◌, ℕ, ◌<◌, get_or}
use Rattle.std.proofs.Math.Path.{sym}
use Rattle.std.proofs.Common.{ap, ◌∙◌, ext_get_or}
use native.Mathlib.Omega.{arith}
use Rattle.std.proofs.Math.ListN.{length}
use Rattle.carv_area.specs.Table.{Row}
use Rattle.carv_area.specs.Words.{words}
use Rattle.carv_area.specs.Laws.Words.{length_words, words_inj}
use Rattle.carv_area.specs.Parts.{part}
use Rattle.carv_area.specs.Laws.Parts.{length_part, cut, last, part_bytes}
use Rattle.carv_area.specs.Rows.{Holds}
use Rattle.carv_area.specs.Laws.Rows.{holds_inj}
use Rattle.carv_objects_spec.specs.declared.Entry.{Entry}
use Rattle.carv_objects_spec.specs.Registry.{Registry}
use Rattle.carv_objects.specs.Area.{head, table, fields, decode, sound_area}
use Rattle.carv_objects.specs.Laws.AreaLaws.{wide, table_size, sound_formed}

-- bytes of the area's length are its two parts
parts : (a : List ℕ) → length a ≡ 45_072 → a ≡ head a ++ table a
unfolding head table
parts a e = cut 0 8 a ∙ ap (λ (r : List ℕ). part 0 8 a ++ r) (last 8 45_064 a e)

module _ (a b : List ℕ) (x : (i : ℕ) → get_or a i 0 < 256) (y : (i : ℕ) → get_or b i 0 < 256) (m : length a ≡ 45_072) (n : length b ≡ 45_072) where
  same_head : get_or (words (head a)) 0 0 ≡ get_or (words (head b)) 0 0 → head a ≡ head b
  unfolding head
  same_head e =
      let p : length (part 0 8 a) ≡ 8 = length_part 0 8 a (omega arith) in
      let q : length (part 0 8 b) ≡ 8 = length_part 0 8 b (omega arith) in
      let u = length_words (part 0 8 a) in
      let v = length_words (part 0 8 b) in
      words_inj (part 0 8 a) (part 0 8 b) (part_bytes 0 8 a (omega arith) x) (part_bytes 0 8 b (omega arith) y) (omega arith) (omega arith)
      (ext_get_or 0 (words (part 0 8 a)) (words (part 0 8 b)) (omega arith)
      (λ i h. let z : i ≡ 0 = omega arith in rw z e))

  same_table : (xs : List (Row Entry)) → Holds fields 11 (words (table a)) xs → Holds fields 11 (words (table b)) xs → table a ≡ table b
  unfolding table
  same_table xs h k =
      let p : length (part 8 45_064 a) ≡ 45_064 = length_part 8 45_064 a (omega arith) in
      let q : length (part 8 45_064 b) ≡ 45_064 = length_part 8 45_064 b (omega arith) in
      words_inj (part 8 45_064 a) (part 8 45_064 b) (part_bytes 8 45_064 a (omega arith) x) (part_bytes 8 45_064 b (omega arith) y) (omega arith) (omega arith)
      (holds_inj fields 11 wide (words (part 8 45_064 a)) (words (part 8 45_064 b)) xs h k (table_size a m ∙ sym (table_size b n)))

pub exact : (a b : List ℕ) → sound_area a ≡ true → sound_area b ≡ true → decode a ≡ decode b
    → ((i : ℕ) → get_or a i 0 < 256) → ((i : ℕ) → get_or b i 0 < 256) → a ≡ b
exact a b s t e x y =
    let (m, S, A) = sound_formed a s in
    let (n, T, B) = sound_formed b t in
    let h = same_head a b x y m n (ap (λ (r : Registry). r.next) e) in
    let r : (decode b).rows ≡ (decode a).rows = sym (ap (λ (r : Registry). r.rows) e) in
    let B' : Holds fields 11 (words (table b)) (decode a).rows = rw r at B.holds in
    let k = same_table a b x y m n (decode a).rows A.holds B' in
    parts a m ∙ ap (λ (r : List ℕ). r ++ table a) h ∙ ap (λ (r : List ℕ). head b ++ r) k ∙ sym (parts b n)
