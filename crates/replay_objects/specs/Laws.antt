-- The laws of `Replay`: that the test of equality tells equality, that yes and no are told alike, and that records by their own bytes are those of the bytes that they stand in. Assumes nothing.
use Rattle.std.specs.Prelude.{Bool, true, ◌&&◌, List, length, ◌≡◌, refl, ℕ, ◌+◌, ◌*◌, ◌≤◌, ◌<◌, eqb, Result, Ok, Err}
use Rattle.std.proofs.Common.{arith, eqb-true, eq-eqb, lit<, add-zero}
use Rattle.std.proofs.Math.Bool.{and_assoc}
use Rattle.std.specs.Fork.{slice_chunk}
use Rattle.carv_budget.proofs.Laws.Account.{both, first, second}
use Rattle.carv_objects.specs.declared.refusal.Refusal.{Refusal}
use Rattle.carv_objects.specs.Answer.{renewed_of, pays_of}
use Rattle.replay_records.specs.Word.{word}
use Rattle.replay_records.specs.Replayed as each
use Rattle.replay_records.proofs.Laws.Replayed.{told_by}
use Rattle.replay_records.proofs.Laws.Word.{word_of}
use Rattle.replay_objects.specs.declared.record.Reply.{Reply}
use Rattle.replay_objects.specs.declared.replay.Registry.{Registry}
use Rattle.replay_objects.specs.Record.{call, reply}
use Rattle.replay_objects.specs.Replay.{same, replied, Agrees, Replays, replays_record}

-- replies whose words are equal
abbrev whole : Reply → Reply
whole a = record { number = a.number; first = a.first; second = a.second; third = a.third; fourth = a.fourth; fifth = a.fifth; sixth = a.sixth; seventh = a.seventh }

all_equal : (a b : Reply) → a.number ≡ b.number → a.first ≡ b.first → a.second ≡ b.second → a.third ≡ b.third → a.fourth ≡ b.fourth
    → a.fifth ≡ b.fifth → a.sixth ≡ b.sixth → a.seventh ≡ b.seventh → a ≡ b
all_equal a b e0 e1 e2 e3 e4 e5 e6 e7 = let e : whole a ≡ whole b = cc in e

-- the test is true where they are equal, and only there
ruleset parts = (eqb-true, first, second)

pub same_told : (a b : Reply) → same a b ≡ true → a ≡ b
unfolding same
same_told a b p =
    all_equal a b (search parts depth 9) (search parts depth 9) (search parts depth 9) (search parts depth 9) (search parts depth 9) (search parts depth 9)
    (search parts depth 9) (search parts depth 9)

pub same_shown : (a b : Reply) → a ≡ b → same a b ≡ true
unfolding same
same_shown a b e = rw e (search (both, eq-eqb) depth 9)

-- the derived test asks the same words, grouped from the other end
pub same_derived : (a b : Reply) → (eqb a.number b.number && (eqb a.first b.first && (eqb a.second b.second && (eqb a.third b.third
    && (eqb a.fourth b.fourth && (eqb a.fifth b.fifth && (eqb a.sixth b.sixth && eqb a.seventh b.seventh))))))) ≡ same a b
unfolding same
same_derived a b = simp (← and_assoc) refl

-- whether a renewal was due and whether an object pays are told by the same words
pub yes_or_no : (r : Result Bool Refusal) → replied renewed_of r ≡ replied pays_of r
yes_or_no (Ok b) = refl
yes_or_no (Err e) = refl

-- a record of l by its own bytes and by where it stands in l
module _ (l : List ℕ) (k : ℕ) (h : (k * 16 + 16) * 8 ≤ length l) where
  at : (j : ℕ) → j < 16 → word (slice_chunk l 128 k) j ≡ word l (k * 16 + j)
  at j = word_of 16 l k j h

  call_in : call (slice_chunk l 128 k) 0 ≡ call l (k * 16)
  unfolding call
  call_in = rw (at 0 (lit< tt), at 1 (lit< tt), at 2 (lit< tt), at 3 (lit< tt), at 4 (lit< tt), add-zero) refl

  reply_in : reply (slice_chunk l 128 k) 0 ≡ reply l (k * 16)
  unfolding reply
  reply_in =
      rw (at 5 (lit< tt), at 6 (lit< tt), at 7 (lit< tt), at 8 (lit< tt), at 9 (lit< tt), at 10 (lit< tt), at 11 (lit< tt), at 12 (lit< tt)) refl

-- what the replay of records by their own bytes, which the code promises, says of them in the bytes that they stand in
pub replays_in : (l : List ℕ) (n d : ℕ) (s s' : Registry) → n * 128 ≤ length l → each.Replays replays_record 128 s s' l n d → Replays s.area s'.area l n d
replays_in l n d s s' h =
    told_by (λ (r : Registry). r.area) (λ k. replays_record (slice_chunk l 128 k)) (λ k. Agrees (call l (k * 16)) (reply l (k * 16))) s n d s'
    (λ k b r x r' g. let room : (k * 16 + 16) * 8 ≤ length l = omega (arith, h, b) in rw (← (call_in l k room), ← (reply_in l k room)) g)
