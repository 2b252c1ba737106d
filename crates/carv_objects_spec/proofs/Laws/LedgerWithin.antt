-- P3's "below" and P1's: of a live budget, the ledger and the registry say the same. Assumes nothing.
use Rattle.std.specs.Prelude.{◌≡◌, refl, Bool, true, false, ◌||◌, List, [], ◌∷◌, ℕ, zero, suc, ◌≤◌, ◌<◌, eqb, Option, Some, None}
use Rattle.std.proofs.Common.{sym, ◌∙◌, ap, arith, eqb-true, ne_eqb}
use Rattle.std.proofs.lemmas.Bool.{eqb-false}
use Rattle.carv_area.specs.Laws.Table
use Rattle.carv_area.specs.Table.{Row, at}
use Rattle.carv_area.specs.Laws.Table.{All, test}
use Rattle.carv_objects_spec.specs.declared.Entry.{Entry}
use Rattle.carv_objects_spec.specs.Registry.{Registry}
use Rattle.carv_objects_spec.proofs.Laws.SoundFacts.{Sound}
use Rattle.carv_objects_spec.proofs.Laws.Steps.{BudgetEntry}
use Rattle.carv_objects_spec.specs.Ledger.{Carved, under}
use Rattle.carv_objects_spec.proofs.Laws.Listed.{Listed, Falling, row_of}
use Rattle.carv_objects_spec.specs.Within.{within}
use Rattle.carv_objects_spec.proofs.Laws.Within.{within_step, within_root, payer_at, from_one}

under_none : (m : List (Row Carved)) (b i : ℕ) → at m i ≡ None → under m b i ≡ false
under_none [] b i h = refl
under_none (x ∷ m) b i h = test (eqb x.id i)
    (λ a. let z : Some x.it ≡ None = rw a at h in let o : ◌≡◌ {A = ℕ} 0 1 = cc in absurd (omega arith))
    (λ a. rw a (under_none m b i (rw a at h)))

or_false : (c : Bool) → (c || false) ≡ c
or_false true = refl
or_false false = refl

-- behind the row of an id there is no other of it
none_behind : (x : Row Carved) (m : List (Row Carved)) → All (λ j c. j < x.id) m → at m x.id ≡ None
none_behind x m a = go (at m x.id) refl
  where
    go : (o : Option Carved) → at m x.id ≡ o → at m x.id ≡ None
    go None q = q
    go (Some c) q = let z = Table.at_all (λ j c. j < x.id) m a x.id c q in absurd (omega arith)

under_root : (m : List (Row Carved)) (b : ℕ) (c : Carved) → Falling m → at m 1 ≡ Some c → c.parent ≡ 1 → under m b 1 ≡ eqb 1 b
under_root [] b c f h p = let o : ◌≡◌ {A = ℕ} 0 1 = cc in absurd (omega arith)
under_root (x ∷ m) b c f h p = test (eqb x.id 1)
    (λ a. let z : Some x.it ≡ Some c = rw a at h in
    let w : x.it ≡ c = cc in
    let gone : at m 1 ≡ None = rw (eqb-true x.id 1 a) at (none_behind x m f.0) in
    rw (a, w, p, under_none m b 1 gone) (or_false (eqb 1 b)))
    (λ a. rw a (under_root m b c f.1 (rw a at h) p))

under_up : (m : List (Row Carved)) (b i : ℕ) (c : Carved) → Falling m → at m i ≡ Some c → c.parent < i → under m b i ≡ (eqb i b || under m b c.parent)
under_up [] b i c f h low = let o : ◌≡◌ {A = ℕ} 0 1 = cc in absurd (omega arith)
under_up (x ∷ m) b i c f h low = test (eqb x.id i)
    (λ a. let z : Some x.it ≡ Some c = rw a at h in
    let w : x.it ≡ c = cc in
    let q = eqb-true x.id i a in
    rw (a, w, ne_eqb x.id c.parent (λ e. omega arith)))
    (λ a. let h' : at m i ≡ Some c = rw a at h in
    let high = Table.at_all (λ j c. j < x.id) m f.0 i c h' in
    rw (a, ne_eqb x.id c.parent (λ e. omega arith)) (under_up m b i c f.1 h' low))

pub under_is_within : (r : Registry) → Sound r → (m : List (Row Carved)) → Falling m → Listed r m → (b n i : ℕ) (e : Entry) → i ≤ n → BudgetEntry r i e → under m b i ≡ within r b i
under_is_within r s m f L b zero i e l B = absurd (omega (arith, from_one r s i e B.here))
under_is_within r s m f L b (suc n) i e l B = test (eqb i 1)
    (λ a. let one = eqb-true i 1 a in
    rw one (under_root m b (row_of e) f (rw one at (L i e B.here B.kind)) ((s.each i e B.here).root one).1 ∙ sym (within_root r s b)))
    (λ a. let low = (s.each i e B.here).lower (eqb-false i 1 a) in
    let (y, Y) = payer_at r s i e B.here in
    under_up m b i (row_of e) f (L i e B.here B.kind) low
    ∙ ap (λ (z : Bool). eqb i b || z) (under_is_within r s m f L b n e.payer y (omega arith) Y)
    ∙ sym (within_step r s b i e B.here))
