-- A sound area is determined by its board: two with the same board have the same bytes. Assumes nothing.
use Rattle.std.specs.Prelude.{◌≡◌, ℕ, zero, suc, ◌+◌, ◌%◌, ◌<◌, ◌≤◌, true, List, ◌++◌, length, slice_index, Option, Result}
use Rattle.std.proofs.Math.Path.{refl, sym}
use Rattle.std.proofs.Common.{ap, ◌∙◌, subst, arith, ext_get_or}
use Rattle.carv_area.specs.Words.{words}
use Rattle.carv_area.specs.Laws.Words.{length_words, words_inj}
use Rattle.carv_area.specs.Parts.{part}
use Rattle.carv_area.specs.Laws.Parts.{length_part, cut, last, part_bytes}
use Rattle.carv_area.specs.Laws.Rows.{holds_inj}
use Rattle.carv_area.specs.Stored.{Stored, one}
use Rattle.carv_area.specs.Laws.Stored.{wide_one}
use Rattle.carv_objects.specs.Laws.AreaExact as objects
use Rattle.carv_objects.specs.declared.refusal.Refusal.{Refusal}
use Rattle.carv_scheduler_spec.specs.Scheduler.{Board, BoardReply, Value}
use Rattle.carv_scheduler.specs.Area.{registry_part, head, threads_part, queue_part, exits_part, thread_fields, exit_fields, decode, sound_area, Serves}
use Rattle.carv_scheduler.specs.Laws.Rows.{wide, wide_exit}
use Rattle.carv_scheduler.specs.Laws.Formed.{Formed}
use Rattle.carv_scheduler.specs.Laws.AreaLaws.{area_formed}

-- bytes of the area's length are its five parts
parts : (a : List ℕ) → length a ≡ 68_144 → a ≡ registry_part a ++ (head a ++ (threads_part a ++ (queue_part a ++ exits_part a)))
unfolding registry_part head threads_part queue_part exits_part
parts a e =
    cut 0 45_072 a ∙ ap (λ (r : List ℕ). part 0 45_072 a ++ r)
    (cut 45_072 16 a ∙ ap (λ (r : List ℕ). part 45_072 16 a ++ r)
    (cut 45_088 21_512 a ∙ ap (λ (r : List ℕ). part 45_088 21_512 a ++ r)
    (cut 66_600 1_024 a ∙ ap (λ (r : List ℕ). part 66_600 1_024 a ++ r)
    (last 67_624 520 a e))))

-- two words
two : (l m : List ℕ) → length l ≡ 2 → length m ≡ 2 → slice_index l 0 ≡ slice_index m 0 → slice_index l 1 ≡ slice_index m 1 → l ≡ m
two l m p q e f = ext_get_or 0 l m (p ∙ sym q) (λ i h. word i (omega arith))
  where
    word : (i : ℕ) → i < 2 → slice_index l i ≡ slice_index m i
    word zero h = e
    word (suc zero) h = f
    word (suc (suc i)) h = absurd (omega arith)

module _ (a b : List ℕ) (x : (i : ℕ) → slice_index a i < 256) (y : (i : ℕ) → slice_index b i < 256) where
  -- a part of whole words, in both
  module _ (f n : ℕ) (d : n % 8 ≡ 0) (k : f + n ≤ length a) (l : f + n ≤ length b) where
    -- the same words
    same_part : words (part f n a) ≡ words (part f n b) → part f n a ≡ part f n b
    same_part e =
        let p : length (part f n a) ≡ n = length_part f n a k in
        let q : length (part f n b) ≡ n = length_part f n b l in
        words_inj (part f n a) (part f n b) (part_bytes f n a k x) (part_bytes f n b l y) (rw p d) (p ∙ sym q) e

    -- the same rows, of any kind
    same_table : {A : Type 0} (fields : A → List ℕ) (w : ℕ) → ((r : A) → length (fields r) ≡ w)
        → (xs : List A) → Stored fields w (part f n a) xs → Stored fields w (part f n b) xs → part f n a ≡ part f n b
    same_table fields w wide xs g h =
        let p : length (part f n a) ≡ n = length_part f n a k in
        let q : length (part f n b) ≡ n = length_part f n b l in
        same_part (holds_inj fields w wide (words (part f n a)) (words (part f n b)) xs g.holds h.holds (omega (arith, g.size, h.size)))

  -- areas of the same board
  formed_exact : (s : Board) → Formed a s → Formed b s → a ≡ b
  unfolding registry_part head threads_part queue_part exits_part
  formed_exact s j k =
      let m = j.size in
      let n = k.size in
      let r : registry_part a ≡ registry_part b =
      objects.exact (part 0 45_072 a) (part 0 45_072 b) j.registry.sound k.registry.sound (j.registry.same ∙ sym k.registry.same)
      (part_bytes 0 45_072 a (omega arith) x) (part_bytes 0 45_072 b (omega arith) y) in
      let h : head a ≡ head b =
      same_part 45_072 16 refl (omega arith) (omega arith) (two (words (part 45_072 16 a)) (words (part 45_072 16 b))
      (omega (arith, length_words (part 45_072 16 a), length_part 45_072 16 a (omega arith)))
      (omega (arith, length_words (part 45_072 16 b), length_part 45_072 16 b (omega arith)))
      (j.current ∙ sym k.current) (j.switches ∙ sym k.switches)) in
      let t : threads_part a ≡ threads_part b =
      same_table 45_088 21_512 refl (omega arith) (omega arith) thread_fields 21 wide s.threads j.threads k.threads in
      let q : queue_part a ≡ queue_part b =
      same_table 66_600 1_024 refl (omega arith) (omega arith) one 1 wide_one s.queue j.queue k.queue in
      let e : exits_part a ≡ exits_part b =
      same_table 67_624 520 refl (omega arith) (omega arith) exit_fields 2 wide_exit s.exits j.exits k.exits in
      parts a m ∙ (λ i. r i ++ (h i ++ (t i ++ (q i ++ e i)))) ∙ sym (parts b n)

pub exact : (a b : List ℕ) → sound_area a ≡ true → sound_area b ≡ true → decode a ≡ decode b
    → ((i : ℕ) → slice_index a i < 256) → ((i : ℕ) → slice_index b i < 256) → a ≡ b
exact a b s t e x y = formed_exact a b x y (decode b) (subst (Formed a) e (area_formed a s)) (area_formed b t)

-- the contract fixes every byte that a call leaves
pub serves_exact : {T : Type 0} {tells : T → Option Value} (call : Board → BoardReply) (a : List ℕ) (r r' : Result T Refusal) (a' a'' : List ℕ)
    → Serves call tells a r a' → Serves call tells a r' a''
    → ((i : ℕ) → slice_index a' i < 256) → ((i : ℕ) → slice_index a'' i < 256) → a' ≡ a''
serves_exact call a r r' a' a'' s t x y = exact a' a'' s.area.sound t.area.sound (s.area.same ∙ sym t.area.same) x y
