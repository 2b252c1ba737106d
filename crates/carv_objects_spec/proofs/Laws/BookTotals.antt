-- Demand 3 of P1's reading: after every list of calls the totals are those of the book's figures. Assumes nothing.
use Rattle.std.specs.Prelude.{◌≡◌, refl, Bool, true, false, cond, ◌&&◌, ◌||◌, List, ℕ, zero, suc, ◌≤◌, eqb, Option, Some, None}
use Rattle.std.proofs.Common.{sym, ◌∙◌, ap, arith}
use Rattle.carv_area.specs.Table.{at}
use Rattle.carv_area.specs.Laws.Sums.{weight_of, total_same_at}
use Rattle.carv_budget.specs.declared.Account.{Account}
use Rattle.carv_budget.specs.Account.{period}
use Rattle.carv_objects_spec.specs.Kinds.{is_budget_kind}
use Rattle.carv_objects_spec.specs.declared.Entry.{Entry}
use Rattle.carv_objects_spec.specs.Registry.{Registry, opening, or_missing, payer_of}
use Rattle.carv_objects_spec.specs.Within.{meets, within}
use Rattle.carv_objects_spec.specs.Totals.{over, totals, used, free, left}
use Rattle.carv_objects_spec.specs.Book as book
use Rattle.carv_objects_spec.specs.Book.{Book, Object, Budget, Call, object_of, pays_for_anything, read_account, charge_of, read_totals, write}
use Rattle.carv_objects_spec.specs.Demand1.{renewal_left}
use Rattle.carv_objects_spec.specs.BookTotals.{climbs, summed, totals_of}
use Rattle.carv_objects_spec.specs.Runs.{after, book_after}
use Rattle.carv_objects_spec.proofs.Laws.SoundFacts.{Sound}
use Rattle.carv_objects_spec.proofs.Laws.History.{Agrees, ObjectMatch, BudgetMatch, FollowsRegistry, after_stands, opening_stands}

module _ (r : Registry) (k : Book) (F : FollowsRegistry r k) where
  -- payers are the book's
  payer_same : (i : ℕ) → payer_of r i ≡ (object_of k i).payer
  payer_same i = go (at r.rows i) (at k.objects i) refl refl (F.object i)
    where
      go : (o : Option Entry) (p : Option Object) → at r.rows i ≡ o → at k.objects i ≡ p → ObjectMatch o p → payer_of r i ≡ (object_of k i).payer
      go None None x y m = ap (λ (e : Option Entry). (or_missing e).payer) x ∙ sym (ap (λ (e : Option Object). (book.or_no_object e).payer) y)
      go None (Some b) x y m = absurd m
      go (Some e) None x y m = absurd m
      go (Some e) (Some b) x y m = ap (λ (e : Option Entry). (or_missing e).payer) x ∙ m.payer ∙ sym (ap (λ (e : Option Object). (book.or_no_object e).payer) y)

  -- so the way up is the book's
  way_same : (n b i : ℕ) → meets n r b i ≡ climbs n k b i
  way_same zero b i = refl
  way_same (suc n) b i =
      ap (λ (c : Bool). eqb i b || c) (way_same n b (payer_of r i))
      ∙ ap (λ (p : ℕ). eqb i b || climbs n k b p) (payer_same i)

  -- a figure that agrees for each live budget agrees in the sums
  sum_same : (f : Account → ℕ) (g : Budget → ℕ) → ((a : Account) (b : Budget) → Agrees a b → f a ≡ g b) → (b : ℕ) → Sound r → over f r b ≡ summed g k b
  sum_same f g same b s =
      total_same_at (λ i e. cond (is_budget_kind e.kind && within r b i) (f e.account) 0) (λ i x. cond (climbs i k b i) (g x) 0) r.rows k.budgets 1 r.next 1 k.next
      s.rising F.budgets_rising λ i. go i (at r.rows i) (at k.budgets i) (F.budget i)
    where
      go : (i : ℕ) (o : Option Entry) (p : Option Budget) → BudgetMatch o p
          → weight_of (λ i e. cond (is_budget_kind e.kind && within r b i) (f e.account) 0) i o ≡ weight_of (λ i x. cond (climbs i k b i) (g x) 0) i p
      go i None None m = refl
      go i None (Some x) m = absurd m
      go i (Some e) None m = rw m
      go i (Some e) (Some x) m = rw (m.kind, same e.account x m.account) (ap (λ (c : Bool). cond c (g x) 0) (way_same i b i))

  pub totals_same : (b : ℕ) → Sound r → totals r b ≡ totals_of k b
  totals_same b s =
      ap (λ (u : ℕ). record { memory_used = u; memory_free = over free r b; cpu_left = over left r b })
      (sum_same used book.memory_used (λ a x g. omega (arith, g.used)) b s)
      ∙ ap (λ (u : ℕ). record { memory_used = summed book.memory_used k b; memory_free = u; cpu_left = over left r b })
      (sum_same free book.free (λ a x g. omega (arith, g.limit, g.used, g.memory_reserved)) b s)
      ∙ ap (λ (u : ℕ). record { memory_used = summed book.memory_used k b; memory_free = summed book.free k b; cpu_left = u })
      (sum_same left book.cpu_left (λ a x g. omega (arith, g.left)) b s)

-- P1 and demand 3, for lists of the registry's calls
pub totals_by_book : (cpu memory : ℕ) → cpu ≤ period → (cs : List Call) (i : ℕ) → totals (after cs (opening cpu memory)) i ≡ totals_of (book_after cs cpu memory) i
totals_by_book cpu memory h cs i =
    let S = after_stands cs (opening cpu memory) (book.opening cpu memory) (opening_stands cpu memory h) in
    totals_same (after cs (opening cpu memory)) (book_after cs cpu memory) S.follows i S.sound

-- A reading moves nothing in the book, whatever it answers, and leaves no renewal.
module _ (i n : ℕ) (k : Book) where
  same : (a b : Bool) → ◌≡◌ {A = Book} (cond a k (cond b k k)) k
  same true b = refl
  same false true = refl
  same false false = refl

  pub readings_write_nothing : (write (pays_for_anything i) n k ≡ k) × (write (read_account i) n k ≡ k) × (write (charge_of i) n k ≡ k) × (write (read_totals i) n k ≡ k)
  readings_write_nothing = let w = same (eqb n 0) (eqb n 12) in (w, w, w, w)

pub readings_renew_nothing : (i n : ℕ) (r : Registry)
    → (renewal_left (pays_for_anything i) n r ≡ None) × (renewal_left (read_account i) n r ≡ None) × (renewal_left (charge_of i) n r ≡ None) × (renewal_left (read_totals i) n r ≡ None)
readings_renew_nothing i n r = (refl, refl, refl, refl)
