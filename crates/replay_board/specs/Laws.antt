-- The laws of `Record` and `Replay`: answer words that are as recorded, and that records by their own bytes are those of the bytes that they stand in. Assumes nothing.
use Rattle.std.specs.Prelude.{Bool, true, false, ◌⊎◌, ◌≡◌, ℕ, ◌+◌, ◌*◌, ◌≤◌, ◌<◌, length, replicate}
use Rattle.std.proofs.lemmas.Bool.{false≢true}
use mathlib.Core.List.{List}
use Rattle.std.proofs.Common.{subst, ap, ◌∙◌, arith, lit<, add-zero}
use Rattle.std.specs.Bool.{MatchBool}
use Rattle.std.specs.List.{AllWithin, HoldsAt, range_with_len}
use Rattle.std.proofs.lemmas.List.FromFn.{length-range_with_len, get_or-range_with_len}
use Rattle.std.proofs.Math.Path.{refl, sym}
use Rattle.std.proofs.Math.ListN.{get_or}
use Rattle.std.proofs.Math.Seq.{ext_get_or}
use borrow.Author.Tests.{lt-ltb, le-ltb}
use Rattle.carv_area.specs.Lists.{tab}
use Rattle.carv_area.specs.Laws.Lists.{length_tab, get_or_tab}
use Rattle.std.specs.Fork.{slice_chunk}
use Rattle.replay_records.specs.Word.{word}
use Rattle.replay_records.specs.Replayed as each
use Rattle.replay_records.proofs.Laws.Replayed.{told_by}
use Rattle.replay_records.proofs.Laws.Word.{word_of}
use Rattle.replay_board.specs.declared.record.Call.{Call}
use Rattle.replay_board.specs.Record.{call, unwritten, recorded_word, recorded, Tells}
use Rattle.replay_board.specs.Replay.{Made, Agrees, Replays, replays_record, made, not_listed}

module _ (l : List ℕ) (k : ℕ) where
  -- a word that is written, and one that stays
  pub written : (i n v : ℕ) → n ≡ word l (k + 13) → i < n → v ≡ word l (k + 14 + i) → v ≡ recorded_word l k i
  unfolding recorded_word
  written i n v e h p = rw (← e, lt-ltb i n h) p

  pub stays : (i n : ℕ) → n ≡ word l (k + 13) → n ≤ i → unwritten ≡ recorded_word l k i
  unfolding recorded_word
  stays i n e h = rw (← e, le-ltb i n h)

  -- the words of out before place i are as recorded
  abbrev pub AsRecorded : List ℕ → ℕ → Type 0
  AsRecorded out i = (j : ℕ) → j < i → get_or out j 0 ≡ recorded_word l k j

  -- the number r and the words out are as recorded, or the number or a word is not
  module _ (out : List ℕ) (r v : ℕ) (p : v ≡ word l (k + 12)) where
    pub as_recorded : r ≡ v → length out ≡ 20 → AsRecorded out 20 → Tells true ((r ≡ word l (k + 12)) × (out ≡ recorded l k))
    unfolding recorded
    as_recorded e s h = (
      λ _. (
        e ∙ p,
        ext_get_or 0 out (tab 20 (recorded_word l k)) (s ∙ sym (length_tab 20 (recorded_word l k)))
            (λ i b. h i (omega (arith, s)) ∙ sym (get_or_tab 20 (recorded_word l k) i 0 (omega (arith, s)))),
      ),
      λ _. refl,
    )

    pub other_number : (r ≡ v → ⊥) → Tells false ((r ≡ word l (k + 12)) × (out ≡ recorded l k))
    other_number n = (λ q. absurd (false≢true q), λ q. absurd (n (q.0 ∙ sym p)))

  pub other_word : (out : List ℕ) (r i v : ℕ) → i < 20 → v ≡ recorded_word l k i → (get_or out i 0 ≡ v → ⊥) → Tells false ((r ≡ word l (k + 12)) × (out ≡ recorded l k))
  unfolding recorded
  other_word out r i v b p n =
      (λ q. absurd (false≢true q), λ q. absurd (n (ap (λ (x : List ℕ). get_or x i 0) q.1 ∙ get_or_tab 20 (recorded_word l k) i 0 b ∙ sym p)))

  -- the number is as recorded, and the words are asked one by one
  pub words_tell : (out : List ℕ) (r v : ℕ) → v ≡ word l (k + 12) → r ≡ v → length out ≡ 20 → (b : Bool)
      → MatchBool b (AllWithin (λ i. get_or out i 0 ≡ recorded_word l k i) (range_with_len 0 20) 0 (length (range_with_len 0 20)))
      ((i : ℕ) × (i < length (range_with_len 0 20)) × HoldsAt (λ i. get_or out i 0 ≡ recorded_word l k i → ⊥) (range_with_len 0 20) i)
      → Tells b ((r ≡ word l (k + 12)) × (out ≡ recorded l k))
  words_tell out r v p e s true h = as_recorded out r v p e s (λ i b.
      let q : get_or (range_with_len 0 20) i 0 ≡ i = omega (arith, get_or-range_with_len 0 20 i 0 b) in
      subst (λ (j : ℕ). get_or out j 0 ≡ recorded_word l k j) q (h i 0 (omega arith) (omega (arith, b, length-range_with_len 0 20))))
  words_tell out r v p e s false h =
      let b : h.0 < 20 = omega (arith, h.1, length-range_with_len 0 20) in
      let q : get_or (range_with_len 0 20) h.0 0 ≡ h.0 = omega (arith, get_or-range_with_len 0 20 h.0 0 b) in
      other_word out r h.0 (recorded_word l k h.0) b refl (subst (λ (j : ℕ). get_or out j 0 ≡ recorded_word l k j → ⊥) q (h.2 0))

-- a record's call that is not made, and one that is
module _ (l : List ℕ) (k : ℕ) (a : List ℕ) (c : Call) (e : c ≡ call l k) where
  pub none_made : (c.op < 1) ⊎ (25 < c.op) → Agrees l k a false a
  none_made h = not_listed (rw (← e) h) refl refl

  pub one_made : (r : ℕ) (a' out : List ℕ) → Made c a (replicate 20 unwritten) r a' out → (b : Bool) → Tells b ((r ≡ word l (k + 12)) × (out ≡ recorded l k)) → Agrees l k a b a'
  one_made r a' out h b t = made r out (rw (← e) h) t

-- a record of l by its own bytes and by where it stands in l
module _ (l : List ℕ) (k : ℕ) (h : (k * 34 + 34) * 8 ≤ length l) where
  at : (j : ℕ) → j < 34 → word (slice_chunk l 272 k) j ≡ word l (k * 34 + j)
  at j = word_of 34 l k j h

  call_in : call (slice_chunk l 272 k) 0 ≡ call l (k * 34)
  unfolding call
  call_in =
      rw (
        at 0 (lit< tt),
        at 1 (lit< tt),
        at 2 (lit< tt),
        at 3 (lit< tt),
        at 4 (lit< tt),
        at 5 (lit< tt),
        at 6 (lit< tt),
        at 7 (lit< tt),
        at 8 (lit< tt),
        at 9 (lit< tt),
        at 10 (lit< tt),
        at 11 (lit< tt),
        add-zero,
      ) refl

  word_in : (i : ℕ) → i < 20 → recorded_word (slice_chunk l 272 k) 0 i ≡ recorded_word l (k * 34) i
  unfolding recorded_word
  word_in i b =
      let place : k * 34 + (14 + i) ≡ k * 34 + 14 + i = omega arith in
      rw (at 13 (lit< tt), at (14 + i) (omega (arith, b)), place) refl

  recorded_in : recorded (slice_chunk l 272 k) 0 ≡ recorded l (k * 34)
  unfolding recorded
  recorded_in =
      let long : (f : ℕ → ℕ) → length (tab 20 f) ≡ 20 = length_tab 20 in
      let mine : ℕ → ℕ = recorded_word (slice_chunk l 272 k) 0 in
      let there : ℕ → ℕ = recorded_word l (k * 34) in
      ext_get_or 0 (tab 20 mine) (tab 20 there) (long mine ∙ sym (long there))
      (λ i b. let c : i < 20 = omega (arith, b, long mine) in get_or_tab 20 mine i 0 c ∙ word_in i c ∙ sym (get_or_tab 20 there i 0 c))

  agrees_in : (a : List ℕ) (b : Bool) (a' : List ℕ) → Agrees (slice_chunk l 272 k) 0 a b a' → Agrees l (k * 34) a b a'
  agrees_in a b a' (made r out m t) = made r out (rw (← call_in) m) (rw (← (at 12 (lit< tt)), ← recorded_in) t)
  agrees_in a b a' (not_listed o e s) = not_listed (rw (← call_in) o) e s

-- what the replay of records by their own bytes, which the code promises of a board with an area, says of them in the bytes that they stand in
pub replays_in : {S : Type 0} (area : S → List ℕ) (l : List ℕ) (n d : ℕ) (s s' : S) → n * 272 ≤ length l
    → each.Replays (λ bytes before right after. replays_record bytes (area before) right (area after)) 272 s s' l n d → Replays (area s) (area s') l n d
replays_in {S} area l n d s s' h =
    told_by area (λ k before right after. replays_record (slice_chunk l 272 k) (area before) right (area after)) (λ k. Agrees l (k * 34)) s n d s'
    (λ k b x r x' g. let room : (k * 34 + 34) * 8 ≤ length l = omega (arith, h, b) in agrees_in l k room (area x) r (area x') g)
