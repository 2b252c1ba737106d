-- What the loop over blocks keeps: one block more. Assumes nothing.
use Rattle.std.specs.Prelude.{◌≡◌, ◌⊎◌, Bool, false, cond, eqb, List, [], ◌++◌, length, Option, ℕ, zero, suc, ◌+◌, ◌*◌, ◌-◌, ◌/◌, ◌%◌, ◌<◌, ◌≤◌, IsFalse, refl}
use Rattle.std.proofs.Common.{sym, ap, ◌∙◌, ⊎_elim, inl, inr, arith, length-append, eq-eqb, ne_eqb, sub-one}
use Rattle.std.proofs.Math.Nat.{mul-add-div_right, mul-add-mod_self_right, mul-mod_left, mul-div_cancel, zero-div, zero-mod}
use Rattle.carv_area.specs.Laws.Lists.{lt_or_ge}
use Rattle.std.proofs.lemmas.Nat.{div-add-mod'}
use Rattle.std.proofs.KnownBytes.{Consumes-trans, Consumes-nil}
use Rattle.std.specs.Fork.{slice_chunk}
use Rattle.std.specs.Io.KnownBytes.{Consumes, IsAtEnd}
use Rattle.replay_records.specs.declared.Tally.{Tally}
use Rattle.replay_records.specs.declared.Run.{Run}
use Rattle.replay_records.specs.Replayed.{Replayed, Replays}
use Rattle.replay_records.specs.Tally.{block_bytes, cut, started, added, Taken, Told, most_calls}
use Rattle.replay_records.proofs.Laws.Replayed.{told_by, behind, in_front, from_behind}

-- the bytes that the input gave so far, of which the tally tells. While more blocks may come they are whole blocks; when none may come, they are all, or a read failed, or no
-- block is left
pub record SoFar (size : ℕ) (differ : List ℕ → (m d : ℕ) → Type 0) (r : Run) (old new : Option (List ℕ)) : Type 0 where
  pub bytes : List ℕ
  pub taken : Consumes old new bytes
  pub told : Told size differ bytes r.tally
  pub whole : 0 < r.tally.blocks → length bytes % size ≡ 0
  pub left : 0 < r.tally.blocks → r.tally.calls + r.tally.blocks * (65_536 / size) ≡ most_calls size
  pub ended : r.tally.blocks ≡ 0 → IsFalse r.failed → IsAtEnd new ⊎ (r.tally.calls ≡ most_calls size)

-- one more of b blocks of p records each
one_of : (b p : ℕ) → 0 < b → (b - 1) * p + p ≡ b * p
one_of zero p h = absurd (omega (arith, h))
one_of (suc b) p h = rw sub-one (omega arith)

used_up : (c b p m : ℕ) → c + b * p ≡ m → b ≡ 0 → c ≡ m
used_up c zero p m e z = omega (arith, e)
used_up c (suc b) p m e z = absurd (omega (arith, z))

-- the tally with a block more, of n bytes: it is full, or the last
module _ (t : Tally) (n size d : ℕ) (some : 0 < size) (more : 0 < t.blocks) (due : t.calls + t.blocks * (65_536 / size) ≡ most_calls size) where
  of_full : n ≡ block_bytes size → (added t n size d).calls + (added t n size d).blocks * (65_536 / size) ≡ most_calls size
  unfolding added block_bytes
  of_full e =
      let records : n / size ≡ 65_536 / size = ap (λ k. k / size) e ∙ mul-div_cancel (65_536 / size) some in
      let blocks : cond (eqb n (65_536 / size * size)) (t.blocks - 1) 0 ≡ t.blocks - 1 = rw (eq-eqb _ _ e) refl in
      rw blocks (omega (arith, records, due, one_of t.blocks (65_536 / size) more))

  of_last : (n ≡ block_bytes size → ⊥) → (added t n size d).blocks ≡ 0
  unfolding added
  of_last e = rw (ne_eqb _ _ e) refl

none_cut : (n size : ℕ) → n % size ≡ 0 → cut n size ≡ 0
unfolding cut
none_cut n size e = rw e refl

same_cut : (n m size : ℕ) → n % size ≡ m % size → cut n size ≡ cut m size
unfolding cut
same_cut n m size e = rw e refl

whole_block : (n size : ℕ) → n ≡ block_bytes size → n % size ≡ 0
unfolding block_bytes
whole_block n size e = ap (λ k. k % size) e ∙ mul-mod_left (65_536 / size) size

equal_or_less : (n m : ℕ) → n ≤ m → (n ≡ m) ⊎ (n < m)
equal_or_less n m h = ⊎_elim (λ (l : n < m). inr l) (λ (g : m ≤ n). inl (omega (arith, h, g))) (lt_or_ge n m)

module _ {S : Type 0} (replays : List ℕ → S → Bool → S → Type 0) (size : ℕ) where
  -- records behind whole ones
  joined : (a a₁ a₂ : S) (l m : List ℕ) (d₁ d₂ : ℕ) → 0 < size → length l % size ≡ 0 → Replays replays size a a₁ l (length l / size) d₁
      → Replays replays size a₁ a₂ m (length m / size) d₂ → Replays replays size a a₂ (l ++ m) (length l / size + length m / size) (d₁ + d₂)
  joined a a₁ a₂ l m d₁ d₂ some e h g =
      let whole : length l ≡ length l / size * size = omega (arith, e, div-add-mod' (length l) size) in
      let told : ℕ → S → Bool → S → Type 0 = λ k. replays (slice_chunk (l ++ m) size k) in
      behind told a a₁ (length l / size) d₁
      (told_by (λ (s : S). s) (λ k. replays (slice_chunk l size k)) told a (length l / size) d₁ a₁ (λ k b s r s' x. rw (in_front size l m k b) x) h)
      (length m / size) d₂ a₂
      (told_by (λ (s : S). s) (λ k. replays (slice_chunk m size k)) (λ k. told (length l / size + k)) a₁ (length m / size) d₂ a₂ (λ k b s r s' x. rw (from_behind size l m k whole) x) g)

  pub block_more : (a a₁ a₂ : S) (r r' : Run) (old mid new : Option (List ℕ)) → 0 < size → SoFar size (Replays replays size a a₁) r old mid → 0 < r.tally.blocks
      → Taken size (Replays replays size a₁ a₂) r.tally r' mid new → SoFar size (Replays replays size a a₂) r' old new
  unfolding added
  block_more a a₁ a₂ r r' old mid new some s more b =
      let l = s.bytes in
      let m = b.bytes in
      let t = r.tally in
      let due : t.calls + t.blocks * (65_536 / size) ≡ most_calls size = s.left more in
      let e : length l % size ≡ 0 = s.whole more in
      let long : length (l ++ m) ≡ length l / size * size + length m = length-append l m ∙ ap (λ n. n + length m) (omega (arith, e, div-add-mod' (length l) size)) in
      let many : length (l ++ m) / size ≡ length l / size + length m / size = ap (λ n. n / size) long ∙ mul-add-div_right some (length l / size) (length m) in
      let rest : length (l ++ m) % size ≡ length m % size = ap (λ n. n % size) long ∙ mul-add-mod_self_right (length l / size) size (length m) in
      let none : cut (length l) size ≡ 0 = none_cut (length l) size e in
      let cuts : cut (length (l ++ m)) size ≡ cut (length m) size = same_cut (length (l ++ m)) (length m) size rest in
      let calls : r'.tally.calls ≡ t.calls + length m / size = ap (λ (x : Tally). x.calls) b.counted in
      let different : r'.tally.differences ≡ t.differences + b.d + cut (length m) size = ap (λ (x : Tally). x.differences) b.counted in
      let gone : length m < block_bytes size → r'.tally.blocks ≡ 0 =
      λ f. ap (λ (x : Tally). x.blocks) b.counted ∙ of_last t (length m) size b.d some more due (λ e. absurd (omega (arith, e, f))) in
      let full : length m ≡ block_bytes size → r'.tally.calls + r'.tally.blocks * (65_536 / size) ≡ most_calls size = λ f. rw b.counted (of_full t (length m) size b.d some more due f) in
      let full_or_last : (length m ≡ block_bytes size) ⊎ (length m < block_bytes size) = equal_or_less _ _ b.fits in
      record {
        bytes = l ++ m;
        taken = Consumes-trans _ _ _ _ _ s.taken b.taken;
        told = record {
          d = s.told.d + b.d;
          different = rw many (joined a a₁ a₂ l m s.told.d b.d some e s.told.different b.different);
          calls = omega (arith, calls, many, s.told.calls);
          differences = omega (arith, different, none, cuts, s.told.differences);
        };
        whole = λ h. rest ∙ ⊎_elim (λ (f : length m ≡ block_bytes size). whole_block (length m) size f)
            (λ (f : length m < block_bytes size). absurd (omega (arith, h, gone f))) full_or_last;
        left = λ h. ⊎_elim (λ (f : length m ≡ block_bytes size). full f)
            (λ (f : length m < block_bytes size). absurd (omega (arith, h, gone f))) full_or_last;
        ended = λ z u. ⊎_elim
            (λ (f : length m ≡ block_bytes size). inr (used_up _ _ _ _ (full f) z))
            (λ (f : length m < block_bytes size). inl (b.ended f u)) full_or_last;
      }

  -- before the first block
  pub none_yet : (a : S) (known : Option (List ℕ)) → SoFar size (Replays replays size a a) (record { tally = started; failed = false }) known known
  unfolding Replayed most_calls
  none_yet a known =
      let none : cut 0 size ≡ 0 = none_cut 0 size (zero-mod size) in
      record {
        bytes = [];
        taken = Consumes-nil known;
        told = record { d = 0; different = rw (zero-div size) (refl, refl); calls = sym (zero-div size); differences = omega (arith, none) };
        whole = λ h. zero-mod size;
        left = λ h. omega arith;
        ended = λ z. absurd (omega (arith, z));
      }

-- What the tally tells: of bytes that end with a record, how many records there are and how many of them differ; with no difference, that each record agrees and none is cut short.
module _ (size : ℕ) (differ : List ℕ → (m d : ℕ) → Type 0) (bytes : List ℕ) (t : Tally) (h : Told size differ bytes t) where
  pub told_whole : cut (length bytes) size ≡ 0 → differ bytes t.calls t.differences
  told_whole c = let e : t.differences ≡ h.d = omega (arith, h.differences, c) in rw (h.calls, e) h.different

  pub told_none : t.differences ≡ 0 → differ bytes t.calls 0 × (cut (length bytes) size ≡ 0)
  told_none z =
      let c : cut (length bytes) size ≡ 0 = omega (arith, h.differences, z) in
      (rw (← z) (told_whole c), c)
