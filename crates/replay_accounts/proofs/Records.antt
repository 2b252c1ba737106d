-- Records by their own bytes, as the code promises of their replay, are those of the bytes that they stand in. Assumes nothing.
use Rattle.std.specs.Prelude.{◌≡◌, Bool, refl, List, length, ℕ, zero, suc, ◌+◌, ◌*◌, ◌<◌, ◌≤◌}
use Rattle.std.proofs.Common.{◌∙◌, arith, lit<, add-zero}
use Rattle.std.specs.Fork.{slice_chunk}
use Rattle.replay_records.specs.Word.{word}
use Rattle.replay_records.specs.Replayed.{Replayed, Replays}
use Rattle.replay_records.proofs.Laws.Word.{word_of}
use Rattle.replay_accounts.specs.Record.{account, call, reply}
use Rattle.replay_accounts.specs.Replay.{agrees, differing, Differ}

module _ (l : List ℕ) (k : ℕ) (h : (k * 34 + 34) * 8 ≤ length l) where
  at : (j : ℕ) → j < 34 → word (slice_chunk l 272 k) j ≡ word l (k * 34 + j)
  at j = word_of 34 l k j h

  account_in : (o : ℕ) → o + 7 ≤ 34 → account (slice_chunk l 272 k) o ≡ account l (k * 34 + o)
  unfolding account
  account_in o b =
      let place : (i : ℕ) → k * 34 + (o + i) ≡ k * 34 + o + i = λ i. omega arith in
      rw (
        at o (omega (arith, b)),
        at (o + 1) (omega (arith, b)),
        at (o + 2) (omega (arith, b)),
        at (o + 3) (omega (arith, b)),
        at (o + 4) (omega (arith, b)),
        at (o + 5) (omega (arith, b)),
        at (o + 6) (omega (arith, b)),
        place 1,
        place 2,
        place 3,
        place 4,
        place 5,
        place 6,
      ) refl

  call_in : call (slice_chunk l 272 k) 0 ≡ call l (k * 34)
  unfolding call
  call_in =
      rw (at 0 (lit< tt), account_in 1 (omega arith), account_in 8 (omega arith), at 15 (lit< tt), at 16 (lit< tt), at 17 (lit< tt), add-zero) refl

  reply_in : reply (slice_chunk l 272 k) 0 ≡ reply l (k * 34)
  unfolding reply
  reply_in = rw (at 18 (lit< tt), at 19 (lit< tt), account_in 20 (omega arith), account_in 27 (omega arith)) refl

-- records that are replayed one after the other, of which each agrees as `agrees` says, differ as many as `differing` says
counts : {S : Type 0} (l : List ℕ) (each : ℕ → S → Bool → S → Type 0) (s : S) (n d : ℕ) (s' : S)
    → ((k : ℕ) → k < n → (r : S) (b : Bool) (r' : S) → each k r b r' → b ≡ agrees (call l (k * 34)) (reply l (k * 34))) → Replayed each s n d s' → Differ l n d
unfolding Replayed differing
counts l each s zero d s' t h = h.0
counts l each s (suc n) d s' t h =
    let before : h.count ≡ differing n l = counts l each s n h.count h.state (λ k b. t k (omega (arith, b))) h.earlier in
    let right : h.right ≡ agrees (call l (n * 34)) (reply l (n * 34)) = t n (omega arith) h.state h.right s' h.after in
    h.counted ∙ rw (before, right) refl

pub differ_in : {S : Type 0} (l : List ℕ) (n d : ℕ) (s s' : S) → n * 272 ≤ length l
    → Replays (λ bytes before right after. right ≡ agrees (call bytes 0) (reply bytes 0)) 272 s s' l n d → Differ l n d
differ_in l n d s s' h =
    counts l (λ k before right after. right ≡ agrees (call (slice_chunk l 272 k) 0) (reply (slice_chunk l 272 k) 0)) s n d s'
    (λ k b r x r' g. let room : (k * 34 + 34) * 8 ≤ length l = omega (arith, h, b) in rw (← (call_in l k room), ← (reply_in l k room)) g)
