-- The walk along the ready queue, as the code goes: by places; and that it is `choose`. Assumes nothing.
use Rattle.std.specs.Prelude.{◌≡◌, ℕ, zero, suc, ◌+◌, ◌<◌, ◌≤◌, Bool, true, false, cond, List, [], ◌∷◌, length, drop, slice_index, Option, Some, None}
use Rattle.std.proofs.Common.{add-suc, suc-add, add-zero, zero-add, ◌∙◌, drop-cons}
use native.Mathlib.Omega.{arith}
use Rattle.std.proofs.Math.Numerals.{add-one}
use Rattle.std.proofs.Math.Path.{refl, sym, ap}
use Rattle.std.proofs.Math.Seq.{drop-length}
use Rattle.carv_area.specs.Table.{Row}
use Rattle.carv_area.specs.Rows.{remove_at}
use Rattle.carv_area.specs.Keys.{after}
use Rattle.carv_objects_spec.specs.Registry.{Registry}
use Rattle.carv_scheduler_spec.specs.declared.Thread.{Thread}
use Rattle.carv_scheduler_spec.specs.Scheduler.{Choice, idle, thread, renew_for, pass_over, choose}
use Rattle.carv_scheduler_spec.proofs.Laws.Switching.{eligible}

-- where the walk ends in the queue, and the registry then
pub record Walked : Type 0 where
  pub place : Option ℕ
  pub registry : Registry

abbrev pub later : Walked → Walked
later w = record { place = after w.place; registry = w.registry }

-- i places on
unfoldable pub shift : ℕ → Walked → Walked
shift zero w = w
shift (suc i) w = shift i (later w)

shift_nothing : (i : ℕ) (r : Registry) → shift i (record { place = None; registry = r }) ≡ record { place = None; registry = r }
unfolding shift
shift_nothing zero r = refl
shift_nothing (suc i) r = shift_nothing i r

shift_at : (i k : ℕ) (r : Registry) → shift i (record { place = Some k; registry = r }) ≡ record { place = Some (i + k); registry = r }
unfolding shift
shift_at zero k r = ap (λ (n : ℕ). record { place = Some n; registry = r }) (sym (zero-add k))
shift_at (suc i) k r = shift_at i (suc k) r ∙ ap (λ (n : ℕ). record { place = Some n; registry = r }) (add-suc i k ∙ sym (suc-add i k))

-- the choice of the place p of the queue q
abbrev pub choice_at : List ℕ → Option ℕ → Registry → Choice
choice_at q (Some k) r = record { next = slice_index q k; rest = remove_at q k; registry = r }
choice_at q None r = record { next = idle; rest = q; registry = r }

passed : (i : ℕ) (q : List ℕ) (p : Option ℕ) (r : Registry) → choice_at (i ∷ q) (after p) r ≡ pass_over i (choice_at q p r)
unfolding remove_at
passed i q (Some k) r = refl
passed i q None r = refl

after_within : (n : ℕ) (p : Option ℕ) → ((k : ℕ) → p ≡ Some k → k < n) → (i : ℕ) → after p ≡ Some i → i < suc n
after_within n (Some k) h i e = let d : suc k ≡ i = cc in omega (arith, h k refl)
after_within n None h i e = let z : ◌≡◌ {A = ℕ} 0 1 = cc in absurd (omega arith)

module _ (time : ℕ) (m : List (Row Thread)) where
  -- the registry after the test of thread i
  abbrev pub tested : ℕ → Registry → Registry
  tested i r = renew_for time (thread m i).budget r

  -- the tests of the threads q, in turn, until one has time left
  unfoldable pub walk : List ℕ → Registry → Walked
  walk [] r = record { place = None; registry = r }
  walk (i ∷ q) r = cond (eligible time m i r) (record { place = Some zero; registry = tested i r }) (later (walk q (tested i r)))

  pub walk_within : (q : List ℕ) (r : Registry) (i : ℕ) → (walk q r).place ≡ Some i → i < length q
  unfolding walk
  walk_within [] r i e = let z : ◌≡◌ {A = ℕ} 0 1 = cc in absurd (omega arith)
  walk_within (x ∷ q) r i e = split (eligible time m x r) (walk_within q (tested x r)) e
    where
      split : (b : Bool) → ((k : ℕ) → (walk q (tested x r)).place ≡ Some k → k < length q)
          → (cond b (record { place = Some zero; registry = tested x r }) (later (walk q (tested x r)))).place ≡ Some i → i < suc (length q)
      split true h e = let d : zero ≡ i = cc in omega arith
      split false h e = after_within (length q) (walk q (tested x r)).place h i e

  -- the walk by places is `choose`
  pub choose_walk : (q : List ℕ) (r : Registry) → choose time m q r ≡ choice_at q (walk q r).place (walk q r).registry
  unfolding walk remove_at
  choose_walk [] r = refl
  choose_walk (i ∷ q) r = split (eligible time m i r) (choose_walk q (tested i r))
    where
      split : (b : Bool) → choose time m q (tested i r) ≡ choice_at q (walk q (tested i r)).place (walk q (tested i r)).registry
          → cond b (record { next = i; rest = q; registry = tested i r }) (pass_over i (choose time m q (tested i r)))
          ≡ choice_at (i ∷ q) (cond b (record { place = Some zero; registry = tested i r }) (later (walk q (tested i r)))).place (cond b (record { place = Some zero; registry = tested i r }) (later (walk q (tested i r)))).registry
      split true e = refl
      split false e = ap (pass_over i) e ∙ sym (passed i q (walk q (tested i r)).place (walk q (tested i r)).registry)

  -- The loop: what is left to do from place i with the registry r gives the whole answer, of the queue q with the registry r₀.
  pub record Walking (q : List ℕ) (r₀ r : Registry) (i : ℕ) : Type 0 where
    pub rest : walk q r₀ ≡ shift i (walk (drop i q) r)
    pub within : i ≤ length q

  pub walking_starts : (q : List ℕ) (r : Registry) → Walking q r r 0
  unfolding shift
  walking_starts q r = record { rest = refl; within = omega arith }

  module _ (q : List ℕ) (r₀ r : Registry) (i : ℕ) (w : Walking q r₀ r i) where
    module _ (x : ℕ) (h : i < length q) (e : x ≡ slice_index q i) where
      opened : walk q r₀ ≡ shift i (cond (eligible time m x r) (record { place = Some zero; registry = tested x r }) (later (walk (drop (suc i) q) (tested x r))))
      unfolding walk
      opened =
          let d : drop i q ≡ x ∷ drop (suc i) q = rw e (drop-cons q i 0 h) in
          w.rest ∙ ap (λ (l : List ℕ). shift i (walk l r)) d

      pub walking_on : eligible time m x r ≡ false → Walking q r₀ (tested x r) (i + 1)
      unfolding shift
      walking_on f = record { rest = rw add-one (rw f at opened); within = omega arith }

      pub walking_found : eligible time m x r ≡ true → walk q r₀ ≡ record { place = Some i; registry = tested x r }
      walking_found f = (rw f at opened) ∙ shift_at i zero (tested x r) ∙ ap (λ (n : ℕ). record { place = Some n; registry = tested x r }) (add-zero i)

    pub walking_ends : length q ≤ i → walk q r₀ ≡ record { place = None; registry = r }
    unfolding walk
    walking_ends h =
        let e : i ≡ length q = omega (arith, w.within) in
        let d : drop i q ≡ [] = rw e (drop-length q) in
        w.rest ∙ ap (λ (l : List ℕ). shift i (walk l r)) d ∙ shift_nothing i r
