-- "Clock values that never fall": `NeverFall 0` says that of any two of them the later one is not below the earlier one, no more and no less. Assumes nothing.
use Rattle.std.specs.Prelude.{◌≡◌, refl, List, [], ◌∷◌, ◌++◌, ℕ, ◌≤◌, Option, Some, None}
use Rattle.std.proofs.Common.{ap, subst, arith}
use Rattle.carv_objects_spec.specs.Ledger.{NeverFall}

none_below : (T : ℕ) (mid rest : List (Option ℕ)) (u : ℕ) → NeverFall T (mid ++ (Some u ∷ rest)) → T ≤ u
none_below T [] rest u f = f.0
none_below T (None ∷ mid) rest u f = none_below T mid rest u f
none_below T (Some x ∷ mid) rest u f = omega (arith, f.0, none_below x mid rest u f.1)

falls_not : (T : ℕ) (front mid rest : List (Option ℕ)) (t u : ℕ) → NeverFall T (front ++ (Some t ∷ (mid ++ (Some u ∷ rest)))) → t ≤ u
falls_not T [] mid rest t u f = none_below t mid rest u f.1
falls_not T (None ∷ front) mid rest t u f = falls_not T front mid rest t u f
falls_not T (Some x ∷ front) mid rest t u f = falls_not x front mid rest t u f.1

pub never_falls_told : (ts : List (Option ℕ)) → NeverFall 0 ts → (front mid rest : List (Option ℕ)) (t u : ℕ) → ts ≡ front ++ (Some t ∷ (mid ++ (Some u ∷ rest))) → t ≤ u
never_falls_told ts f front mid rest t u q = falls_not 0 front mid rest t u (subst (NeverFall 0) q f)

-- from a last value that none is below
never_falls_from : (T : ℕ) (ts : List (Option ℕ)) → ((mid rest : List (Option ℕ)) (u : ℕ) → ts ≡ mid ++ (Some u ∷ rest) → T ≤ u)
    → ((front mid rest : List (Option ℕ)) (t u : ℕ) → ts ≡ front ++ (Some t ∷ (mid ++ (Some u ∷ rest))) → t ≤ u) → NeverFall T ts
never_falls_from T [] a b = tt
never_falls_from T (None ∷ ts) a b =
    never_falls_from T ts (λ mid rest u q. a (None ∷ mid) rest u (ap (◌∷◌ None) q)) (λ front mid rest t u q. b (None ∷ front) mid rest t u (ap (◌∷◌ None) q))
never_falls_from T (Some x ∷ ts) a b = (
  a [] ts x refl,
  never_falls_from x ts (λ mid rest u q. b [] mid rest x u (ap (◌∷◌ (Some x)) q)) (λ front mid rest t u q. b (Some x ∷ front) mid rest t u (ap (◌∷◌ (Some x)) q)),
)

pub never_falls_shown : (ts : List (Option ℕ)) → ((front mid rest : List (Option ℕ)) (t u : ℕ) → ts ≡ front ++ (Some t ∷ (mid ++ (Some u ∷ rest))) → t ≤ u) → NeverFall 0 ts
never_falls_shown ts b = never_falls_from 0 ts (λ mid rest u q. omega arith) b
