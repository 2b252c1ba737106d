-- P7 by the book, of any book: two accepted charges write what one of their sum writes, in any order; a charge and its uncharge leave every figure. Assumes nothing.
use Rattle.std.specs.Prelude.{◌≡◌, refl, List, ℕ, ◌+◌, ◌-◌}
use Rattle.std.proofs.Common.{sym, ◌∙◌, ap, arith}
use Rattle.carv_area.specs.Table.{Row, alter}
use Rattle.carv_area.specs.Laws.Table.{at_alter_same, alter_alter, alter_id, alter_swap}
use Rattle.carv_objects_spec.specs.Book.{Book, Object, Budget, Figures, figures, or_no_object, or_no_budget, object_of, budget_of, with_memory, charge, credit, on_budget, on_charge, charge_more, uncharge, accepted}

-- both calls write this: the charge of object i goes by g, and its payer's budget p by f
abbrev noted : Book → (i p : ℕ) → (Budget → Budget) → (ℕ → ℕ) → Book
noted k i p f g = on_charge i g (on_budget p f k)

abbrev recharged : (ℕ → ℕ) → Object → Object
recharged g o = record { payer = o.payer; charge = g o.charge }

payer_stays : (k : Book) (i p : ℕ) (f : Budget → Budget) (g : ℕ → ℕ) (j : ℕ) → (object_of (noted k i p f g) j).payer ≡ (object_of k j).payer
payer_stays k i p f g j = at_alter_same (λ o. (or_no_object o).payer) i (recharged g) (λ o. refl) k.objects j

abbrev with_tables : Book → List (Row Object) → List (Row Budget) → Book
with_tables k objects budgets = record { next = k.next; objects = objects; budgets = budgets }

noted_twice : (k : Book) (i p : ℕ) (f f' : Budget → Budget) (g g' : ℕ → ℕ) → noted (noted k i p f g) i p f' g' ≡ noted k i p (λ b. f' (f b)) (λ c. g' (g c))
noted_twice k i p f f' g g' =
    ap (λ (m : List (Row Object)). with_tables k m (alter p f' (alter p f k.budgets))) (alter_alter k.objects i (recharged g) (recharged g'))
    ∙ ap (with_tables k (alter i (recharged (λ c. g' (g c))) k.objects)) (alter_alter k.budgets p f f')

noted_as : (k : Book) (i p : ℕ) (f f' : Budget → Budget) (g g' : ℕ → ℕ) → ((b : Budget) → f b ≡ f' b) → ((c : ℕ) → g c ≡ g' c) → noted k i p f g ≡ noted k i p f' g'
noted_as k i p f f' g g' h l = λ t. noted k i p (λ b. h b t) (λ c. l c t)

-- a and b accepted write what a + b accepted writes
pub book_added : (k : Book) (i a b : ℕ) → accepted (charge_more i b) (accepted (charge_more i a) k) ≡ accepted (charge_more i (a + b)) k
book_added k i a b =
    let p = (object_of k i).payer in
    ap (λ (q : ℕ). noted (accepted (charge_more i a) k) i q (charge b) (λ c. c + b)) (payer_stays k i p (charge a) (λ c. c + a) i)
    ∙ noted_twice k i p (charge a) (charge b) (λ c. c + a) (λ c. c + b)
    ∙ noted_as k i p (λ x. charge b (charge a x)) (charge (a + b)) (λ c. c + a + b) (λ c. c + (a + b))
    (λ x. ap (λ (n : ℕ). with_memory x n x.credited x.carved_memory x.returned_memory) (omega arith)) (λ c. omega arith)

-- in any order, whatever the payers
pub book_swapped : (k : Book) (i j a b : ℕ) → accepted (charge_more j b) (accepted (charge_more i a) k) ≡ accepted (charge_more i a) (accepted (charge_more j b) k)
book_swapped k i j a b =
    let p = (object_of k i).payer in
    let q = (object_of k j).payer in
    ap (λ (x : ℕ). noted (accepted (charge_more i a) k) j x (charge b) (λ c. c + b)) (payer_stays k i p (charge a) (λ c. c + a) j)
    ∙ ap (λ (m : List (Row Object)). with_tables k m (alter q (charge b) (alter p (charge a) k.budgets)))
    (alter_swap k.objects j i (recharged (λ c. c + b)) (recharged (λ c. c + a)) (λ o. ap (λ (c : ℕ). recharged (λ _. c) o) (omega arith)))
    ∙ ap (with_tables k (alter i (recharged (λ c. c + a)) (alter j (recharged (λ c. c + b)) k.objects)))
    (alter_swap k.budgets q p (charge b) (charge a) (λ x. ap (λ (n : ℕ). with_memory x n x.credited x.carved_memory x.returned_memory) (omega arith)))
    ∙ ap (λ (x : ℕ). noted (accepted (charge_more j b) k) i x (charge a) (λ c. c + a)) (sym (payer_stays k j q (charge b) (λ c. c + b) i))

-- a budget's figures with other memory used
abbrev of_used : Budget → ℕ → Figures
of_used x n = record { memory_used = n; memory_reserved = (figures x).memory_reserved; cpu_reserved = (figures x).cpu_reserved; cpu_left = (figures x).cpu_left }

both_noted : (k : Book) (i a : ℕ) → accepted (uncharge i a) (accepted (charge_more i a) k) ≡ noted k i (object_of k i).payer (λ x. credit a (charge a x)) (λ c. c)
both_noted k i a =
    let p = (object_of k i).payer in
    ap (λ (q : ℕ). noted (accepted (charge_more i a) k) i q (credit a) (λ c. c - a)) (payer_stays k i p (charge a) (λ c. c + a) i)
    ∙ noted_twice k i p (charge a) (credit a) (λ c. c + a) (λ c. c - a)
    ∙ noted_as k i p (λ x. credit a (charge a x)) (λ x. credit a (charge a x)) (λ c. c + a - a) (λ c. c) (λ x. refl) (λ c. omega arith)

-- a charge and its uncharge leave the next id, the objects, and every budget's figures
pub book_restored : (k : Book) (i a : ℕ) → ((accepted (uncharge i a) (accepted (charge_more i a) k)).next ≡ k.next)
    × ((accepted (uncharge i a) (accepted (charge_more i a) k)).objects ≡ k.objects)
    × ((j : ℕ) → figures (budget_of (accepted (uncharge i a) (accepted (charge_more i a) k)) j) ≡ figures (budget_of k j))
book_restored k i a = (
  refl,
  ap (λ (z : Book). z.objects) (both_noted k i a) ∙ alter_id k.objects i,
  λ j. ap (λ (z : Book). figures (budget_of z j)) (both_noted k i a)
      ∙ at_alter_same (λ o. figures (or_no_budget o)) (object_of k i).payer (λ x. credit a (charge a x)) (λ x. ap (of_used x) (omega arith)) k.budgets j,
)
