-- Threads by their place and by their id: what stands at a place, and what a place that was looked for says. Assumes nothing.
use Rattle.std.specs.Prelude.{◌≡◌, ℕ, zero, suc, ◌<◌, ◌≤◌, true, false, List, [], ◌∷◌, length, nat_eq, slice_index_or, Option, Some, None}
use Rattle.std.proofs.Common.{not-suc-le-zero, le_of_suc-le-suc, arith, ap, subst}
use Rattle.std.proofs.Math.Path.{refl}
use borrow.Author.Tests.{eq-eqb, ne_eqb}
use Rattle.carv_area.specs.Table.{Row, Rising}
use Rattle.carv_area.specs.Rows.{remove_at}
use Rattle.carv_area.specs.Lookup.{Here, Gone, Located}
use Rattle.carv_scheduler_spec.specs.declared.Thread.{Thread}
use Rattle.carv_scheduler_spec.specs.declared.State.TheVariants.{Inactive}
use Rattle.carv_scheduler_spec.specs.Scheduler.{fresh, or_fresh, found, thread, has}
use Rattle.carv_scheduler.specs.Laws.Rows.{no_row}

-- the row at place i of rising ids is the one with its id
module _ {A : Type 0} (d : Row A) where
  above : (m : List (Row A)) (l n i : ℕ) → Rising l n m → i < length m → l ≤ (slice_index_or m i d).id
  above [] l n i u h = absurd (not-suc-le-zero h)
  above (r ∷ m) l n zero u h = u.0
  above (r ∷ m) l n (suc i) u h = omega (arith, u.0, above m (suc r.id) n i u.1 (le_of_suc-le-suc h))

  pub here_at : (m : List (Row A)) (l n i : ℕ) → Rising l n m → i < length m → Here d m (slice_index_or m i d).id i
  unfolding remove_at
  here_at [] l n i u h = absurd (not-suc-le-zero h)
  here_at (r ∷ m) l n zero u h =
      let e : nat_eq r.id r.id ≡ true = eq-eqb r.id r.id refl in
      record { within = h; same = refl; is = rw e; changed = λ f. rw e; erased = rw e }
  here_at (r ∷ m) l n (suc i) u h =
      let k = here_at m (suc r.id) n i u.1 (le_of_suc-le-suc h) in
      let e : nat_eq r.id (slice_index_or m i d).id ≡ false = ne_eqb r.id (slice_index_or m i d).id (λ q. omega (arith, above m (suc r.id) n i u.1 (le_of_suc-le-suc h))) in
      record {
        within = h;
        same = refl;
        is = rw e k.is;
        changed = λ f. rw e (ap (λ (q : List (Row A)). r ∷ q) (k.changed f));
        erased = rw e (ap (λ (q : List (Row A)). r ∷ q) k.erased);
      }

-- what was found
module _ (m : List (Row Thread)) (x : ℕ) (p : Option ℕ) (l : Located no_row m x p) where
  pub found_here : (i : ℕ) → p ≡ Some i → Here no_row m x i
  found_here i e = subst (Located no_row m x) e l

  pub found_gone : p ≡ None → Gone m x
  found_gone e = subst (Located no_row m x) e l

-- the thread x stands at place i
module _ (m : List (Row Thread)) (x i : ℕ) (h : Here no_row m x i) where
  pub here_has : has m x ≡ true
  here_has = ap found h.is

  pub here_thread : thread m x ≡ (slice_index_or m i no_row).it
  here_thread = ap or_fresh h.is

-- it is not there
module _ (m : List (Row Thread)) (x : ℕ) (g : Gone m x) where
  pub gone_has : has m x ≡ false
  gone_has = ap found g.is

  pub gone_thread : thread m x ≡ fresh Inactive None
  gone_thread = ap or_fresh g.is
