-- A sound area of the board is well formed and says a sound board, and an area that is well formed and says one is sound. Assumes nothing.
use Rattle.std.specs.Prelude.{◌≡◌, ℕ, zero, suc, ◌+◌, ◌*◌, ◌<◌, ◌≤◌, true, List, [], ◌∷◌, length, ◌==◌, nat_le, slice_index, slice_index_or}
use Rattle.std.proofs.Math.Path.{refl}
use Rattle.std.proofs.Common.{sym, ap, ◌∙◌, subst, add_assoc, arith, drop_at, eqb-true, eq-eqb, leb-true, le-leb}
use Rattle.std.proofs.lemmas.List.Edits.{sets}
use Rattle.carv_area.specs.Lists.{tab}
use Rattle.carv_area.specs.Laws.Lists.{length_tab, get_or_tab}
use Rattle.carv_area.specs.Words.{words}
use Rattle.carv_area.specs.Laws.Words.{length_words}
use Rattle.carv_area.specs.Moves.{zeros}
use Rattle.carv_area.specs.Parts.{part}
use Rattle.carv_area.specs.Laws.Parts.{length_part}
use Rattle.carv_area.specs.Zero.{all_zero}
use Rattle.carv_area.specs.Laws.Zero.{zeros_zero}
use Rattle.carv_area.specs.Rows.{Holds, flat}
use Rattle.carv_area.specs.Laws.Rows.{length_flat, holds_of}
use Rattle.carv_area.specs.Keys.{keys}
use Rattle.carv_area.specs.Stored.{one}
use Rattle.carv_area.specs.Laws.Stored.{stored, wide_one}
use Rattle.carv_budget.proofs.Laws.Account.{first, second}
use Rattle.carv_objects.specs.Area as objects
use Rattle.carv_scheduler_spec.specs.Scheduler.{Board}
use Rattle.carv_scheduler_spec.specs.Sound.{sound}
use Rattle.carv_scheduler_spec.proofs.Laws.Codes.{cause_same}
use Rattle.carv_scheduler_spec.proofs.Laws.SoundFacts.{Sound}
use Rattle.carv_scheduler_spec.proofs.Laws.SoundLaws.{sound_told, sound_shown}
use Rattle.carv_scheduler.specs.Area.{registry_part, threads_part, queue_part, exits_part, thread_fields, thread_at, exit_fields, exit_at, threads_in, exits_in, threads_listed, exits_listed, decode, behind, sound_area, Is}
use Rattle.carv_scheduler.specs.Laws.Rows.{no_row, wide, no_exit, wide_exit}
use Rattle.carv_scheduler.specs.Laws.Listed.{state_words, budget_words, spaces_words, cause_words, threads_are_listed, exits_are_listed}
use Rattle.carv_scheduler.specs.Laws.Formed.{WellFormed, LaidOut, Leaves}

-- The words of the thread and of the exit at place i, their codes as they stand, listed or not: what the record says of the rest.

abbrev pub thread_row_words : List ℕ → ℕ → List ℕ
thread_row_words l i =
    let r = thread_at l i in
    r.id ∷ slice_index l (i * 21 + 2) ∷ slice_index l (i * 21 + 2 + 1) ∷ slice_index l (i * 21 + 2 + 2) ∷ slice_index l (i * 21 + 5) ∷ slice_index l (i * 21 + 5 + 1)
    ∷ slice_index l (i * 21 + 7) ∷ slice_index l (i * 21 + 7 + 1) ∷ slice_index l (i * 21 + 7 + 2) ∷ slice_index l (i * 21 + 7 + 3)
    ∷ r.it.context.rip ∷ r.it.context.rsp ∷ r.it.context.rflags ∷ r.it.context.rdi ∷ r.it.context.rsi ∷ r.it.context.cs ∷ r.it.context.ss
    ∷ r.it.results.first ∷ r.it.results.second ∷ r.it.results.third ∷ r.it.ticks ∷ []

abbrev pub exit_row_words : List ℕ → ℕ → List ℕ
exit_row_words l i = (exit_at l i).thread ∷ slice_index l (i * 2 + 2) ∷ []

-- word c of each
thread_field : (l : List ℕ) (i c : ℕ) → c < 21 → slice_index (thread_row_words l i) c ≡ slice_index l (i * 21 + suc c)
thread_field l i zero h = refl
thread_field l i (suc zero) h = refl
thread_field l i (suc (suc zero)) h = ap (λ (o : ℕ). slice_index l o) (add_assoc (i * 21) 2 1)
thread_field l i (suc (suc (suc zero))) h = ap (λ (o : ℕ). slice_index l o) (add_assoc (i * 21) 2 2)
thread_field l i (suc (suc (suc (suc zero)))) h = refl
thread_field l i (suc (suc (suc (suc (suc zero))))) h = ap (λ (o : ℕ). slice_index l o) (add_assoc (i * 21) 5 1)
thread_field l i (suc (suc (suc (suc (suc (suc zero)))))) h = refl
thread_field l i (suc (suc (suc (suc (suc (suc (suc zero))))))) h = ap (λ (o : ℕ). slice_index l o) (add_assoc (i * 21) 7 1)
thread_field l i (suc (suc (suc (suc (suc (suc (suc (suc zero)))))))) h = ap (λ (o : ℕ). slice_index l o) (add_assoc (i * 21) 7 2)
thread_field l i (suc (suc (suc (suc (suc (suc (suc (suc (suc zero))))))))) h = ap (λ (o : ℕ). slice_index l o) (add_assoc (i * 21) 7 3)
thread_field l i (suc (suc (suc (suc (suc (suc (suc (suc (suc (suc zero)))))))))) h = refl
thread_field l i (suc (suc (suc (suc (suc (suc (suc (suc (suc (suc (suc zero))))))))))) h = ap (λ (o : ℕ). slice_index l o) (add_assoc (i * 21) 11 1)
thread_field l i (suc (suc (suc (suc (suc (suc (suc (suc (suc (suc (suc (suc zero)))))))))))) h = ap (λ (o : ℕ). slice_index l o) (add_assoc (i * 21) 11 2)
thread_field l i (suc (suc (suc (suc (suc (suc (suc (suc (suc (suc (suc (suc (suc zero))))))))))))) h = ap (λ (o : ℕ). slice_index l o) (add_assoc (i * 21) 11 3)
thread_field l i (suc (suc (suc (suc (suc (suc (suc (suc (suc (suc (suc (suc (suc (suc zero)))))))))))))) h = ap (λ (o : ℕ). slice_index l o) (add_assoc (i * 21) 11 4)
thread_field l i (suc (suc (suc (suc (suc (suc (suc (suc (suc (suc (suc (suc (suc (suc (suc zero))))))))))))))) h = ap (λ (o : ℕ). slice_index l o) (add_assoc (i * 21) 11 5)
thread_field l i (suc (suc (suc (suc (suc (suc (suc (suc (suc (suc (suc (suc (suc (suc (suc (suc zero)))))))))))))))) h = ap (λ (o : ℕ). slice_index l o) (add_assoc (i * 21) 11 6)
thread_field l i (suc (suc (suc (suc (suc (suc (suc (suc (suc (suc (suc (suc (suc (suc (suc (suc (suc zero))))))))))))))))) h = refl
thread_field l i (suc (suc (suc (suc (suc (suc (suc (suc (suc (suc (suc (suc (suc (suc (suc (suc (suc (suc zero)))))))))))))))))) h = ap (λ (o : ℕ). slice_index l o) (add_assoc (i * 21) 18 1)
thread_field l i (suc (suc (suc (suc (suc (suc (suc (suc (suc (suc (suc (suc (suc (suc (suc (suc (suc (suc (suc zero))))))))))))))))))) h = ap (λ (o : ℕ). slice_index l o) (add_assoc (i * 21) 18 2)
thread_field l i (suc (suc (suc (suc (suc (suc (suc (suc (suc (suc (suc (suc (suc (suc (suc (suc (suc (suc (suc (suc zero)))))))))))))))))))) h = refl
thread_field l i (suc (suc (suc (suc (suc (suc (suc (suc (suc (suc (suc (suc (suc (suc (suc (suc (suc (suc (suc (suc (suc c))))))))))))))))))))) h = absurd (omega arith)

exit_field : (l : List ℕ) (i c : ℕ) → c < 2 → slice_index (exit_row_words l i) c ≡ slice_index l (i * 2 + suc c)
exit_field l i zero h = refl
exit_field l i (suc zero) h = refl
exit_field l i (suc (suc c)) h = absurd (omega arith)

-- they are those of the records, where the codes are listed, and so is word c
module _ (l : List ℕ) (z : threads_listed l ≡ true) (i : ℕ) (a : i < slice_index l 0) where
  thread_row_listed : thread_fields (thread_at l i) ≡ thread_row_words l i
  thread_row_listed =
      let s = state_words l z i a in
      let b = budget_words l z i a in
      let p = spaces_words l z i a in
      λ t. sets (thread_row_words l i) 1 (s.state t ∷ s.kind t ∷ s.number t ∷ b.is t ∷ b.id t ∷ p.is t ∷ p.space t ∷ p.cspace t ∷ p.root t ∷ [])

  listed_thread_field : (c : ℕ) → c < 21 → slice_index (thread_fields (thread_at l i)) c ≡ slice_index l (i * 21 + suc c)
  listed_thread_field c h = ap (λ (ws : List ℕ). slice_index ws c) thread_row_listed ∙ thread_field l i c h

listed_exit_field : (l : List ℕ) → exits_listed l ≡ true → (i c : ℕ) → i < slice_index l 0 → c < 2 → slice_index (exit_fields (exit_at l i)) c ≡ slice_index l (i * 2 + suc c)
listed_exit_field l z i c a h =
    ap (λ (n : ℕ). slice_index ((exit_at l i).thread ∷ n ∷ []) c) (cause_same _ (cause_words l z i a)) ∙ exit_field l i c h

-- tables of rows of any kind
module _ {A : Type 0} (fields : A → List ℕ) (w : ℕ) (wide : (a : A) → length (fields a) ≡ w) (some : 1 ≤ w) where
  -- words whose rows are followed by zeros are a table
  rows_hold : (row : List ℕ → ℕ → A) (d : A) (l : List ℕ) → ((i c : ℕ) → i < slice_index l 0 → c < w → slice_index (fields (row l i)) c ≡ slice_index l (i * w + suc c))
      → slice_index l 0 * w + 1 ≤ length l → all_zero (behind w l) ≡ true → Holds fields w l (tab (slice_index l 0) (row l))
  rows_hold row d l field h z =
      let n : length (tab (slice_index l 0) (row l)) ≡ slice_index_or l 0 0 = length_tab (slice_index l 0) (row l) in
      holds_of fields w wide d l (tab (slice_index l 0) (row l)) some (sym n) (rw n h) (rw n z)
      (λ i j a b. sym (ap (λ (r : A). slice_index (fields r) j) (get_or_tab (slice_index l 0) (row l) i d (rw n at a)) ∙ field i j (rw n at a) b))

  -- a table's rows are followed by zeros
  pub hold_zeros : (l : List ℕ) (xs : List A) → Holds fields w l xs → all_zero (behind w l) ≡ true
  hold_zeros l xs h =
      let e : slice_index_or l 0 0 * w + 1 ≡ suc (length xs * w) = rw h.count (omega arith) in
      rw e (rw h.is (rw (drop_at (flat fields xs) (zeros h.spare) (length xs * w) (length_flat fields w wide xs)) (zeros_zero h.spare)))

-- the numbers of a queue
queue_hold : (l : List ℕ) → slice_index l 0 * 1 + 1 ≤ length l → all_zero (behind 1 l) ≡ true → Holds one 1 l (keys 1 l)
unfolding keys
queue_hold l h z = rows_hold one 1 wide_one (omega arith) (λ m i. slice_index m (i * 1 + 1)) 0 l field h z
  where
    field : (i c : ℕ) → i < slice_index l 0 → c < 1 → slice_index (one (slice_index l (i * 1 + 1))) c ≡ slice_index l (i * 1 + suc c)
    field i zero a b = refl
    field i (suc c) a b = absurd (omega arith)

-- the words of the parts
module _ (a : List ℕ) (z : length a ≡ 68_144) where
  threads_size : length (words (threads_part a)) ≡ 2_689
  unfolding threads_part
  threads_size = omega (arith, length_words (part 45_088 21_512 a), length_part 45_088 21_512 a (omega arith))

  queue_size : length (words (queue_part a)) ≡ 128
  unfolding queue_part
  queue_size = omega (arith, length_words (part 66_600 1_024 a), length_part 66_600 1_024 a (omega arith))

  exits_size : length (words (exits_part a)) ≡ 65
  unfolding exits_part
  exits_size = omega (arith, length_words (part 67_624 520 a), length_part 67_624 520 a (omega arith))

-- what question 1 asks, apart
pub record Asked (a : List ℕ) : Type 0 where
  pub size : length a ≡ 68_144
  pub registry : objects.sound_area (registry_part a) ≡ true
  pub threads_listed : threads_listed (words (threads_part a)) ≡ true
  pub exits_listed : exits_listed (words (exits_part a)) ≡ true
  pub sound : sound (decode a) ≡ true
  pub threads : all_zero (behind 21 (words (threads_part a))) ≡ true
  pub count : slice_index_or (words (queue_part a)) 0 0 ≤ 127
  pub queue : all_zero (behind 1 (words (queue_part a))) ≡ true
  pub exits : all_zero (behind 2 (words (exits_part a))) ≡ true

pub asked_told : (a : List ℕ) → sound_area a ≡ true → Asked a
unfolding sound_area
asked_told a h =
    let h₁ = second (length a == 68_144) _ h in
    let h₂ = second (objects.sound_area (registry_part a)) _ h₁ in
    let c₁ = second (threads_listed (words (threads_part a))) _ h₂ in
    let c₂ = second (exits_listed (words (exits_part a))) _ c₁ in
    let h₃ = second (sound (decode a)) _ c₂ in
    let h₄ = second (all_zero (behind 21 (words (threads_part a)))) _ h₃ in
    let h₅ = second (nat_le (slice_index (words (queue_part a)) 0) 127) _ h₄ in
    record {
      size = eqb-true (length a) 68_144 (first (length a == 68_144) _ h);
      registry = first (objects.sound_area (registry_part a)) _ h₁;
      threads_listed = first (threads_listed (words (threads_part a))) _ h₂;
      exits_listed = first (exits_listed (words (exits_part a))) _ c₁;
      sound = first (sound (decode a)) _ c₂;
      threads = first (all_zero (behind 21 (words (threads_part a)))) _ h₃;
      count = leb-true (slice_index (words (queue_part a)) 0) 127 (first (nat_le (slice_index (words (queue_part a)) 0) 127) _ h₄);
      queue = first (all_zero (behind 1 (words (queue_part a)))) _ h₅;
      exits = second (all_zero (behind 1 (words (queue_part a)))) _ h₅;
    }

pub asked_shown : (a : List ℕ) → Asked a → sound_area a ≡ true
unfolding sound_area
asked_shown a k =
    rw (eq-eqb (length a) 68_144 k.size, k.registry, k.threads_listed, k.exits_listed, k.sound, k.threads, le-leb (slice_index (words (queue_part a)) 0) 127 k.count, k.queue, k.exits)

-- an area that is laid out is well formed where its codes are listed
pub laid_formed : (a : List ℕ) → LaidOut a → threads_listed (words (threads_part a)) ≡ true → exits_listed (words (exits_part a)) ≡ true → WellFormed a
unfolding threads_in exits_in
laid_formed a k t e =
    let few = k.few in
    let count = k.count in
    let logged = k.logged in
    record {
      size = k.size;
      registry = record { sound = k.registry; same = refl };
      current = refl;
      switches = refl;
      threads = stored thread_fields 21 (threads_part a) (decode a).threads
          (rows_hold thread_fields 21 wide (omega arith) thread_at no_row (words (threads_part a)) (λ i c b h. listed_thread_field (words (threads_part a)) t i b c h) (omega (arith, threads_size a k.size)) k.threads);
      rising = k.rising;
      queue = stored one 1 (queue_part a) (decode a).queue (queue_hold (words (queue_part a)) (omega (arith, queue_size a k.size)) k.queue);
      exits = stored exit_fields 2 (exits_part a) (decode a).exits
          (rows_hold exit_fields 2 wide_exit (omega arith) exit_at no_exit (words (exits_part a)) (listed_exit_field (words (exits_part a)) e) (omega (arith, exits_size a k.size)) k.exits);
    }

-- and back
pub formed_laid : (a : List ℕ) → WellFormed a → LaidOut a
formed_laid a k = record {
  size = k.size;
  registry = k.registry.sound;
  few = omega (arith, k.threads.holds.count, k.threads.holds.size, threads_size a k.size);
  threads = hold_zeros thread_fields 21 wide (omega arith) (words (threads_part a)) (decode a).threads k.threads.holds;
  rising = k.rising;
  count = omega (arith, k.queue.holds.count, k.queue.holds.size, queue_size a k.size);
  queue = hold_zeros one 1 wide_one (omega arith) (words (queue_part a)) (decode a).queue k.queue.holds;
  logged = omega (arith, k.exits.holds.count, k.exits.holds.size, exits_size a k.size);
  exits = hold_zeros exit_fields 2 wide_exit (omega arith) (words (exits_part a)) (decode a).exits k.exits.holds;
}

-- a sound area says a sound board, and is well formed
module _ (a : List ℕ) (s : sound_area a ≡ true) where
  pub area_sound : Sound (decode a)
  area_sound = sound_told (decode a) (asked_told a s).sound

  area_laid : LaidOut a
  unfolding threads_in exits_in
  area_laid =
      let k = asked_told a s in
      let o = area_sound in
      record {
        size = k.size;
        registry = k.registry;
        few = rw length_tab at o.few;
        threads = k.threads;
        rising = o.rising;
        count = k.count;
        queue = k.queue;
        logged = rw length_tab at o.few_exits;
        exits = k.exits;
      }

  pub area_formed : WellFormed a
  area_formed = laid_formed a area_laid (asked_told a s).threads_listed (asked_told a s).exits_listed

-- and back: what is left of a sound board is a sound area
pub is_area : (a : List ℕ) (s : Board) → Leaves a s → Sound s → Is a s
is_area a s l h =
    let k = formed_laid a l.formed in
    record {
      sound = asked_shown a (record {
        size = k.size;
        registry = k.registry;
        threads_listed = threads_are_listed (words (threads_part a)) (decode a).threads l.formed.threads.holds;
        exits_listed = exits_are_listed (words (exits_part a)) (decode a).exits l.formed.exits.holds;
        sound = sound_shown (decode a) (subst Sound (sym l.is) h);
        threads = k.threads;
        count = k.count;
        queue = k.queue;
        exits = k.exits;
      });
      same = l.is;
    }
