-- The laws of `Replayed`: one record more, as a loop over records has it, and records behind others. Assumes nothing.
use Rattle.std.specs.Prelude.{◌≡◌, Bool, true, false, not, cond, List, ◌++◌, length, take, drop, get_or, ℕ, zero, suc, ◌+◌, ◌*◌, ◌/◌, ◌<◌, ◌≤◌}
use Rattle.std.proofs.Common.{sym, ap, ◌∙◌, arith, le_trans, drop-drop, length-drop, div-mul-le_self}
use Rattle.std.proofs.Math.Numerals.{add-one}
use Rattle.std.proofs.Math.Nat.{mul-le-mul_right}
use Rattle.std.proofs.Math.Seq.{drop-append-add}
use Rattle.std.proofs.lemmas.Bool.{not-true, not-false}
use Rattle.std.proofs.lemmas.List.{drop-append-le, take-append-le}
use native.Mathlib.Numerals.{unary_clauses}
use Rattle.std.specs.Simd.{first_chunks}
use Rattle.std.specs.Fork.{slice_chunk}
use Rattle.replay_records.specs.Replayed.{Replayed}

module _ {S : Type 0} where
  module _ (agrees : ℕ → S → Bool → S → Type 0) (a : S) where
    pub one_more : (n d : ℕ) (a₁ a₂ : S) (b : Bool) → Replayed agrees a n d a₁ → agrees n a₁ b a₂ → (d₂ : ℕ) → d₂ ≡ d + cond b 0 1 → Replayed agrees a (n + 1) d₂ a₂
    unfolding Replayed
    one_more n d a₁ a₂ b h g d₂ e = rw add-one (record { count = d; state = a₁; right = b; earlier = h; after = g; counted = e })

    pub all_done : (i n d : ℕ) (a' : S) → i ≡ n → Replayed agrees a i d a' → Replayed agrees a n d a'
    all_done i n d a' e h = rw (sym e) h

  -- told of by what says as much of the first n records, and sees of each state what `part` gives
  pub told_by : {T : Type 0} (part : S → T) (f : ℕ → S → Bool → S → Type 0) (g : ℕ → T → Bool → T → Type 0) (a : S) (n d : ℕ) (a' : S)
      → ((k : ℕ) → k < n → (s : S) (b : Bool) (s' : S) → f k s b s' → g k (part s) b (part s')) → Replayed f a n d a' → Replayed g (part a) n d (part a')
  unfolding Replayed
  told_by part f g a zero d a' t h = (h.0, ap part h.1)
  told_by part f g a (suc n) d a' t h =
      record {
        count = h.count;
        state = part h.state;
        right = h.right;
        earlier = told_by part f g a n h.count h.state (λ k l. t k (omega (arith, l))) h.earlier;
        after = t n (omega arith) h.state h.right a' h.after;
        counted = h.counted;
      }

  -- n records behind the first m
  pub behind : (f : ℕ → S → Bool → S → Type 0) (a a₁ : S) (m d₁ : ℕ) → Replayed f a m d₁ a₁
      → (n d₂ : ℕ) (a₂ : S) → Replayed (λ k. f (m + k)) a₁ n d₂ a₂ → Replayed f a (m + n) (d₁ + d₂) a₂
  unfolding Replayed
  behind f a a₁ m d₁ h zero d₂ a₂ g = rw (g.0, g.1) (simp unary_clauses h)
  behind f a a₁ m d₁ h (suc n) d₂ a₂ g =
      simp unary_clauses
      (record { count = d₁ + g.count; state = g.state; right = g.right; earlier = behind f a a₁ m d₁ h n g.count g.state g.earlier; after = g.after; counted = omega (arith, g.counted) })

-- a record as the library cuts it, and as a loop over what it cuts reads it
cut_out : (size k : ℕ) (l : List ℕ) (i : ℕ) (d : List ℕ) → i < k → get_or (first_chunks size k l) i d ≡ slice_chunk l size i
cut_out size zero l i d h = absurd (omega (arith, h))
cut_out size (suc k) l zero d h = let n : 0 ≡ 0 * size = omega arith in ap (λ o. take size (drop o l)) n
cut_out size (suc k) l (suc i) d h =
    let n : size + i * size ≡ suc i * size = omega arith in
    cut_out size k (drop size l) i d (omega (arith, h)) ∙ ap (take size) (drop-drop (i * size) size l) ∙ ap (λ o. take size (drop o l)) n

pub read_out : (size k : ℕ) (l : List ℕ) (records : List (List ℕ)) → records ≡ first_chunks size k l → (i : ℕ) (x : List ℕ) → i < length records → length records ≡ k
    → x ≡ get_or records i x → x ≡ slice_chunk l size i
read_out size k l records e i x h n r = r ∙ ap (λ y. get_or y i x) e ∙ cut_out size k l i x (omega (arith, h, n))

-- where a record of l stands in bytes that l begins
module _ (size : ℕ) (l m : List ℕ) where
  pub in_front : (k : ℕ) → k < length l / size → slice_chunk (l ++ m) size k ≡ slice_chunk l size k
  in_front k h =
      let room : (k + 1) * size ≤ length l = le_trans (mul-le-mul_right size (omega (arith, h))) (div-mul-le_self (length l) size) in
      ap (take size) (drop-append-le (k * size) l m (omega (arith, room)))
      ∙ take-append-le size (drop (k * size) l) m (rw (length-drop (k * size) l) (omega (arith, room)))

  pub from_behind : (k : ℕ) → length l ≡ length l / size * size → slice_chunk (l ++ m) size (length l / size + k) ≡ slice_chunk m size k
  from_behind k whole =
      let n : (length l / size + k) * size ≡ length l + k * size = omega (arith, whole) in
      rw n (ap (take size) (drop-append-add l m (k * size)))

-- what a record adds to the count
pub one_wrong : (b : Bool) → not b ≡ true → ◌≡◌ {A = ℕ} (cond b 0 1) 1
one_wrong b p = rw (not-true b p)

pub one_right : (b : Bool) → not b ≡ false → ◌≡◌ {A = ℕ} (cond b 0 1) 0
one_right b p = rw (not-false b p)
