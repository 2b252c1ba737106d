-- "Within" on a sound registry: an object is within b where it is b, or where its payer is (`within_step`), so that the test of Within.antt tells its sentence (`tells`).
-- Assumes nothing.
use Rattle.std.specs.Prelude.{◌≡◌, refl, Bool, true, false, ◌||◌, ℕ, zero, suc, ◌+◌, ◌-◌, ◌≤◌, eqb, ltb, Some}
use Rattle.std.proofs.Common.{sym, ◌∙◌, ap, arith, eqb-true, eq-eqb, ltb-true, ltb-false}
use Rattle.std.proofs.lemmas.Bool.{false≢true, eqb-false}
use Rattle.std.proofs.Math.Numerals.{unary_clauses}
use Rattle.carv_area.specs.Laws.Table
use Rattle.carv_area.specs.Table.{at}
use Rattle.carv_area.specs.Laws.Table.{test}
use Rattle.carv_objects_spec.specs.declared.Entry.{Entry}
use Rattle.carv_objects_spec.specs.Registry.{Registry, or_missing, found, entry, has, payer_of}
use Rattle.carv_objects_spec.proofs.Laws.SoundFacts.{Sound}
use Rattle.carv_objects_spec.proofs.Laws.Steps.{BudgetEntry, budget_entry}
use Rattle.carv_objects_spec.proofs.Laws.Kept.{live_object}
use Rattle.carv_objects_spec.specs.Within.{meets, within, Within, itself, by_payer}

-- ids are 1 or more
pub from_one : (r : Registry) → Sound r → (i : ℕ) (e : Entry) → at r.rows i ≡ Some e → 1 ≤ i
from_one r s i e h = test (ltb i 1)
    (λ a. let z = Table.at_below r.rows 1 r.next i s.rising (ltb-true i 1 a) in
    let b : ◌≡◌ {A = ℕ} 0 1 = cc in absurd (omega arith))
    (λ a. ltb-false i 1 a)

pub entry_at : (r : Registry) (i : ℕ) (e : Entry) → at r.rows i ≡ Some e → entry r i ≡ e
entry_at r i e h = ap or_missing h

-- the payer's entry
pub payer_at : (r : Registry) → Sound r → (i : ℕ) (e : Entry) → at r.rows i ≡ Some e → (y : Entry) × BudgetEntry r e.payer y
payer_at r s i e h = budget_entry r e.payer (s.each i e h).paid

or_same : (b : Bool) → (b || b) ≡ b
or_same true = refl
or_same false = refl

pub or_true : (b : Bool) {c : Bool} → c ≡ true → (b || c) ≡ true
or_true true h = refl
or_true false h = h

pub or_left : {b : Bool} (c : Bool) → b ≡ true → (b || c) ≡ true
or_left c h = rw h

-- no payer has a higher id
payer_low : (r : Registry) → Sound r → (i : ℕ) (e : Entry) → at r.rows i ≡ Some e → e.payer ≤ i
payer_low r s i e h = test (eqb i 1)
    (λ a. omega (arith, ((s.each i e h).root (eqb-true i 1 a)).1, eqb-true i 1 a))
    (λ a. omega (arith, (s.each i e h).lower (eqb-false i 1 a)))

module _ (r : Registry) (s : Sound r) (b : ℕ) where
  -- the way goes on at the entry's payer
  go_on : (n i : ℕ) (e : Entry) → at r.rows i ≡ Some e → meets (suc n) r b i ≡ (eqb i b || meets n r b e.payer)
  go_on n i e h = ap (λ (x : Entry). eqb i b || meets n r b x.payer) (entry_at r i e h)

  -- from the root, the way leads nowhere else
  at_root : (n : ℕ) → meets n r b 1 ≡ eqb 1 b
  at_root zero = refl
  at_root (suc n) =
      let (e, B) = budget_entry r 1 s.root in
      go_on n 1 e B.here ∙ ap (λ (p : ℕ). eqb 1 b || meets n r b p) ((s.each 1 e B.here).root refl).1 ∙ ap (λ (c : Bool). eqb 1 b || c) (at_root n) ∙ or_same (eqb 1 b)

  -- once it has led to the root, another step finds nothing new
  once_more : (n i : ℕ) (e : Entry) → at r.rows i ≡ Some e → i ≤ suc n → meets n r b i ≡ meets (suc n) r b i
  once_more zero i e h k =
      let one : i ≡ 1 = omega (arith, from_one r s i e h) in
      rw one (at_root zero ∙ sym (at_root 1))
  once_more (suc n) i e h k = test (eqb i 1)
      (λ a. rw (eqb-true i 1 a) (at_root (suc n) ∙ sym (at_root (suc (suc n)))))
      (λ a. let (y, B) = payer_at r s i e h in
      let low = (s.each i e h).lower (eqb-false i 1 a) in
      go_on n i e h ∙ ap (λ (c : Bool). eqb i b || c) (once_more n e.payer y B.here (omega arith)) ∙ sym (go_on (suc n) i e h))

  enough : (k n i : ℕ) (e : Entry) → at r.rows i ≡ Some e → i ≤ suc n → meets n r b i ≡ meets (n + k) r b i
  enough zero n i e h l = simp unary_clauses
  enough (suc k) n i e h l = simp unary_clauses (enough k n i e h l ∙ once_more (n + k) i e h (omega arith))

  -- an object is within b where it is b, or where its payer is
  pub within_step : (i : ℕ) (e : Entry) → at r.rows i ≡ Some e → within r b i ≡ (eqb i b || within r b e.payer)
  within_step i e h =
      let (y, B) = payer_at r s i e h in
      let low : e.payer ≤ i = payer_low r s i e h in
      let k : e.payer + (i - e.payer) ≡ i = omega arith in
      once_more i i e h (omega arith) ∙ go_on i i e h
      ∙ ap (λ (c : Bool). eqb i b || c) (sym (enough (i - e.payer) e.payer e.payer y B.here (omega arith) ∙ ap (λ (n : ℕ). meets n r b e.payer) k))

  pub within_root : within r b 1 ≡ eqb 1 b
  within_root = at_root 1

-- The way up. All of it by induction on ids, which fall.

module _ (r : Registry) (s : Sound r) where
  -- each is within itself
  pub within_self : (i : ℕ) → within r i i ≡ true
  within_self zero = refl
  within_self (suc i) = rw (eq-eqb (suc i) (suc i) refl)

  -- all are within the root
  pub within_the_root : (n i : ℕ) (e : Entry) → i ≤ n → at r.rows i ≡ Some e → within r 1 i ≡ true
  within_the_root zero i e l h = absurd (omega (arith, from_one r s i e h))
  within_the_root (suc n) i e l h = test (eqb i 1)
      (λ a. rw (eqb-true i 1 a) (within_self 1))
      (λ a. let (y, B) = payer_at r s i e h in
      let low = (s.each i e h).lower (eqb-false i 1 a) in
      within_step r s 1 i e h ∙ or_true (eqb i 1) (within_the_root n e.payer y (omega arith) B.here))

  -- what is within b has no lower id
  pub within_le : (n b i : ℕ) (e : Entry) → i ≤ n → at r.rows i ≡ Some e → within r b i ≡ true → b ≤ i
  within_le zero b i e l h k = absurd (omega (arith, from_one r s i e h))
  within_le (suc n) b i e l h k = test (eqb i b)
      (λ a. omega (arith, eqb-true i b a))
      (λ a. let up : within r b e.payer ≡ true = rw a at (sym (within_step r s b i e h) ∙ k) in
      let (y, B) = payer_at r s i e h in
      test (eqb i 1)
      (λ c. absurd (false≢true (sym a ∙ rw (eqb-true i 1 c) (sym (within_root r s b) ∙ (rw (eqb-true i 1 c) at k)))))
      (λ c. let low = (s.each i e h).lower (eqb-false i 1 c) in
      let z = within_le n b e.payer y (omega arith) B.here up in omega arith))

-- The test tells the sentence.

or_cases : {P : Type 0} (a b : Bool) → (a || b) ≡ true → (a ≡ true → P) → (b ≡ true → P) → P
or_cases true b h f g = f refl
or_cases false b h f g = g h

met : (n : ℕ) (r : Registry) (b i : ℕ) → meets n r b i ≡ true → Within r b i
met zero r b i h = let e : i ≡ b = eqb-true i b h in rw e itself
met (suc n) r b i h = or_cases (eqb i b) (meets n r b (payer_of r i)) h
    (λ a. let e : i ≡ b = eqb-true i b a in rw e itself)
    (λ a. by_payer i (met n r b (payer_of r i) a))

told : (r : Registry) → Sound r → (b i : ℕ) → Within r b i → has r i ≡ true → within r b i ≡ true
told r s b _ itself h = within_self r s b
told r s b _ (by_payer i w) h =
    let (e, y, O) = live_object r i s h in
    let payer : payer_of r i ≡ e.payer = ap (λ (x : Entry). x.payer) O.read in
    let there : has r (payer_of r i) ≡ true = rw payer (ap found O.payer.here) in
    within_step r s b i e O.here ∙ or_true (eqb i b) (rw payer at (told r s b (payer_of r i) w there))

-- P1: "going from payer to payer up to the root"
pub tells : (r : Registry) → Sound r → (b i : ℕ) → has r i ≡ true → (within r b i ≡ true → Within r b i) × (Within r b i → within r b i ≡ true)
tells r s b i h = (met i r b i, λ w. told r s b i w h)

-- So all objects are within the root, and what is within b has no lower id.
pub sentence_root : (r : Registry) → Sound r → (i : ℕ) → has r i ≡ true → Within r 1 i
sentence_root r s i h = let (e, y, O) = live_object r i s h in (tells r s 1 i h).0 (within_the_root r s i i e (omega arith) O.here)

pub sentence_le : (r : Registry) → Sound r → (b i : ℕ) → has r i ≡ true → Within r b i → b ≤ i
sentence_le r s b i h w = let (e, y, O) = live_object r i s h in within_le r s i b i e (omega arith) O.here ((tells r s b i h).1 w)
