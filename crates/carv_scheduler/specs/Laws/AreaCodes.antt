-- "Every code is a listed one", of a board's area: words of a thread or of an exit that are no listed codes make it unsound, and a sound area has the codes of each thread's
-- state, budget and space and of each exit's cause; how an area is laid out goes by no code of a thread or an exit. Assumes nothing.
use Rattle.std.specs.Prelude.{◌≡◌, refl, true, false, List, ◌∷◌, ℕ, ◌+◌, ◌*◌, ◌^◌, ◌≤◌, ◌<◌, suc, length, slice_index, slice_index_or, set, Some}
use Rattle.std.proofs.Common.{sym, ap, ◌∙◌, arith}
use Rattle.std.proofs.lemmas.List.{get_or-set_other}
use Rattle.std.proofs.lemmas.Bool.{false≢true}
use Rattle.carv_area.specs.Lists.{tab}
use Rattle.carv_area.specs.Laws.Table.{test}
use Rattle.carv_area.specs.Words.{words}
use Rattle.carv_area.specs.Parts.{part, put_part}
use Rattle.carv_area.specs.Laws.Parts.{length_put, part_same, part_before, part_after}
use Rattle.carv_area.specs.Rows.{flat}
use Rattle.carv_area.specs.Laws.Rows.{holds_word}
use Rattle.carv_scheduler_spec.specs.declared.State.TheVariants.{Inactive}
use Rattle.carv_scheduler_spec.specs.declared.Thread.{Thread}
use Rattle.carv_scheduler_spec.specs.Scheduler.{in_spaces}
use Rattle.carv_scheduler_spec.specs.Codes.{is_word, state_word, kind_word, number_word, id_word, space_word, cspace_word, root_word, cause_word}
use Rattle.carv_scheduler_spec.proofs.Laws.Unsound.{record_with, the_threads, the_exits, with_8}
use Rattle.carv_scheduler.specs.Area.{registry_part, threads_part, queue_part, exits_part, thread_fields, thread_at, threads_in, exit_fields, thread_listed, cause_listed_at, threads_listed, exits_listed, decode, sound_area}
use Rattle.carv_objects.specs.Laws.AreaKinds.{rising_alike, count_kept, zeros_kept}
use Rattle.carv_scheduler.specs.Laws.Rows.{no_row, wide, no_exit, wide_exit}
use Rattle.carv_scheduler.specs.Laws.Formed.{LaidOut}
use Rattle.carv_scheduler.specs.Laws.Listed.{each_out, cause_words}
use Rattle.carv_scheduler.specs.Laws.AreaLaws.{asked_told, area_formed}

pub unlisted_thread_fails : (a : List ℕ) (i : ℕ) → i < slice_index (words (threads_part a)) 0 → thread_listed (words (threads_part a)) i ≡ false → sound_area a ≡ false
unfolding threads_listed
unlisted_thread_fails a i b h =
    let l = words (threads_part a) in
    test (sound_area a) (λ s. absurd (false≢true (sym h ∙ each_out (thread_listed l) (slice_index l 0) (λ k. k) (asked_told a s).threads_listed i b))) (λ s. s)

pub unlisted_cause_fails : (a : List ℕ) (i : ℕ) → i < slice_index (words (exits_part a)) 0 → cause_listed_at (words (exits_part a)) i ≡ false → sound_area a ≡ false
unlisted_cause_fails a i b h =
    test (sound_area a) (λ s. absurd (false≢true (sym h ∙ cause_words (words (exits_part a)) (asked_told a s).exits_listed i b))) (λ s. s)

-- An area that is laid out stays so whatever word is put for a code of a thread or an exit, and for any word of a thread's row that is no id.

-- p is its threads with the word n for word c of the thread at place i
pub any_thread_code : (a p : List ℕ) → LaidOut a → length p ≡ 21_512 → (i c n : ℕ) → i < slice_index (words (threads_part a)) 0 → 1 ≤ c → c < 21
    → words p ≡ set (words (threads_part a)) (i * 21 + 1 + c) n → LaidOut (put_part 45_088 21_512 a p)
unfolding registry_part threads_part queue_part exits_part threads_in
any_thread_code a p k z i c n b c₁ c₂ q =
    let s = k.size in
    let fits : 45_088 + 21_512 ≤ length a = omega arith in
    let l = words (part 45_088 21_512 a) in
    let o = i * 21 + 1 + c in
    let t : words (part 45_088 21_512 (put_part 45_088 21_512 a p)) ≡ set l o n = ap words (part_same 45_088 21_512 a p fits z) ∙ q in
    let some : 1 ≤ o = omega arith in
    let inside : o < slice_index_or l 0 0 * 21 + 1 = omega arith in
    let e = count_kept 21 l o n some inside in
    let id : (j : ℕ) → (thread_at (set l o n) j).id ≡ (thread_at l j).id = λ j. get_or-set_other l o (j * 21 + 1) n 0 (λ e. omega arith) in
    record {
      size = length_put 45_088 21_512 a p fits z ∙ k.size;
      registry = rw (part_before 45_088 21_512 a p fits z 0 45_072 (omega arith)) k.registry;
      few = rw (t, e) k.few;
      threads = rw (t, zeros_kept 21 l o n some inside) k.threads;
      rising = rw (t, e) (rising_alike (slice_index l 0) 0 (2 ^ 64) (thread_at l) (thread_at (set l o n)) id k.rising);
      count = rw (part_after 45_088 21_512 a p fits z 66_600 1_024 (omega arith)) k.count;
      queue = rw (part_after 45_088 21_512 a p fits z 66_600 1_024 (omega arith)) k.queue;
      logged = rw (part_after 45_088 21_512 a p fits z 67_624 520 (omega arith)) k.logged;
      exits = rw (part_after 45_088 21_512 a p fits z 67_624 520 (omega arith)) k.exits;
    }

-- p is its exits with the word n for the cause of the exit at place i
pub any_cause : (a p : List ℕ) → LaidOut a → length p ≡ 520 → (i n : ℕ) → i < slice_index (words (exits_part a)) 0
    → words p ≡ set (words (exits_part a)) (i * 2 + 2) n → LaidOut (put_part 67_624 520 a p)
unfolding registry_part threads_part queue_part exits_part
any_cause a p k z i n b q =
    let s = k.size in
    let fits : 67_624 + 520 ≤ length a = omega arith in
    let l = words (part 67_624 520 a) in
    let t : words (part 67_624 520 (put_part 67_624 520 a p)) ≡ set l (i * 2 + 2) n = ap words (part_same 67_624 520 a p fits z) ∙ q in
    let some : 1 ≤ i * 2 + 2 = omega arith in
    let inside : i * 2 + 2 < slice_index_or l 0 0 * 2 + 1 = omega arith in
    record {
      size = length_put 67_624 520 a p fits z ∙ k.size;
      registry = rw (part_before 67_624 520 a p fits z 0 45_072 (omega arith)) k.registry;
      few = rw (part_before 67_624 520 a p fits z 45_088 21_512 (omega arith)) k.few;
      threads = rw (part_before 67_624 520 a p fits z 45_088 21_512 (omega arith)) k.threads;
      rising = rw (part_before 67_624 520 a p fits z 45_088 21_512 (omega arith)) k.rising;
      count = rw (part_before 67_624 520 a p fits z 66_600 1_024 (omega arith)) k.count;
      queue = rw (part_before 67_624 520 a p fits z 66_600 1_024 (omega arith)) k.queue;
      logged = rw (t, count_kept 2 l (i * 2 + 2) n some inside) k.logged;
      exits = rw (t, zeros_kept 2 l (i * 2 + 2) n some inside) k.exits;
    }

-- the words l have, for the thread at place i, the codes of the state, budget and space of t
pub record StoredCodes (l : List ℕ) (i : ℕ) (t : Thread) : Type 0 where
  pub state : slice_index l (i * 21 + 2) ≡ state_word t.state
  pub kind : slice_index l (i * 21 + 3) ≡ kind_word t.state
  pub number : slice_index l (i * 21 + 4) ≡ number_word t.state
  pub is_budget : slice_index l (i * 21 + 5) ≡ is_word t.budget
  pub budget : slice_index l (i * 21 + 6) ≡ id_word t.budget
  pub is_space : slice_index l (i * 21 + 7) ≡ is_word t.spaces
  pub space : slice_index l (i * 21 + 8) ≡ space_word t.spaces
  pub cspace : slice_index l (i * 21 + 9) ≡ cspace_word t.spaces
  pub root : slice_index l (i * 21 + 10) ≡ root_word t.spaces

pub stored_state : (a : List ℕ) → sound_area a ≡ true → (i : ℕ) → i < length (decode a).threads → StoredCodes (words (threads_part a)) i (slice_index_or (decode a).threads i no_row).it
stored_state a s i b =
    let h = (area_formed a s).threads.holds in
    let w : (j : ℕ) → j < 21 → slice_index (words (threads_part a)) (i * 21 + suc j) ≡ slice_index (thread_fields (slice_index_or (decode a).threads i no_row)) j =
    λ j l. holds_word thread_fields 21 wide (words (threads_part a)) (decode a).threads h i j no_row b l in
    record {
      state = w 1 (omega arith);
      kind = w 2 (omega arith);
      number = w 3 (omega arith);
      is_budget = w 4 (omega arith);
      budget = w 5 (omega arith);
      is_space = w 6 (omega arith);
      space = w 7 (omega arith);
      cspace = w 8 (omega arith);
      root = w 9 (omega arith);
    }

pub stored_cause : (a : List ℕ) → sound_area a ≡ true → (i : ℕ) → i < length (decode a).exits → slice_index (words (exits_part a)) (i * 2 + 2) ≡ cause_word (slice_index_or (decode a).exits i no_exit).cause
stored_cause a s i b = holds_word exit_fields 2 wide_exit (words (exits_part a)) (decode a).exits (area_formed a s).exits.holds i 1 no_exit b (omega arith)

-- The words of carv_scheduler_spec's sound board of five threads and two exits, with n for word o. Its threads 0, 5 and 8 are the rows that begin at words 1, 22 and 64; thread 0 is
-- Ready and has no budget, thread 5 sleeps, thread 8 is Inactive and has one. With `in_space`, thread 8 has a space.

abbrev pub with_word : (o n : ℕ) → List ℕ
with_word o n = set (5 ∷ flat thread_fields the_threads) o n

abbrev pub in_space : (o n : ℕ) → List ℕ
in_space o n = set (5 ∷ flat thread_fields (with_8 (record_with Inactive (Some 1) (Some (in_spaces 20 30 40)))).threads) o n

abbrev pub with_cause : (o n : ℕ) → List ℕ
with_cause o n = set (2 ∷ flat exit_fields the_exits) o n

abbrev pub Listed : List ℕ → Type 0
Listed l = threads_listed l ≡ true

abbrev pub Unlisted : List ℕ → Type 0
Unlisted l = threads_listed l ≡ false

pub record CodeWords : Type 0 where
  -- the state of thread 8: 0, the first and the last code, and one more
  pub states : Unlisted (with_word 65 0) × Listed (with_word 65 1) × Listed (with_word 65 5) × Unlisted (with_word 65 6)
  -- the kind of thread 5's wait
  pub waits : Unlisted (with_word 24 0) × Listed (with_word 24 1) × Listed (with_word 24 5) × Unlisted (with_word 24 6)
  -- a Ready thread has no wait, nor a wait's number
  pub no_waits : Unlisted (with_word 3 5) × Unlisted (with_word 4 3)
  -- whether there is a budget; where there is none, no id
  pub budgets : Unlisted (with_word 68 0) × Listed (with_word 68 1) × Unlisted (with_word 68 2)
  pub no_budgets : Listed (with_word 6 0) × Unlisted (with_word 6 1)
  -- whether there is a space; where there is none, no space, cspace or root
  pub spaces : Unlisted (in_space 70 0) × Listed (in_space 70 1) × Unlisted (in_space 70 2)
  pub no_spaces : Listed (with_word 70 0) × Unlisted (with_word 71 20) × Unlisted (with_word 72 30) × Unlisted (with_word 73 40)
  -- the causes, of the first exit and of the second
  pub causes : (exits_listed (with_cause 2 0) ≡ false) × (exits_listed (with_cause 2 1) ≡ true) × (exits_listed (with_cause 2 2) ≡ true) × (exits_listed (with_cause 2 3) ≡ false)
  pub each_cause : (exits_listed (with_cause 4 1) ≡ true) × (exits_listed (with_cause 4 0) ≡ false)

pub code_words_hold : CodeWords
unfolding threads_listed exits_listed tab flat
code_words_hold = record {
  states = (refl, refl, refl, refl);
  waits = (refl, refl, refl, refl);
  no_waits = (refl, refl);
  budgets = (refl, refl, refl);
  no_budgets = (refl, refl);
  spaces = (refl, refl, refl);
  no_spaces = (refl, refl, refl, refl);
  causes = (refl, refl, refl, refl);
  each_cause = (refl, refl);
}
