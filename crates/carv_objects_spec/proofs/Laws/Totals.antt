-- P1's promises on every sound registry: used plus free over a budget and all below it are its memory limit, CPU left over them is at most its allowance, and the
-- root's totals are those over all live budgets. Assumes nothing.
use Rattle.std.specs.Prelude.{◌≡◌, refl, Bool, true, false, cond, not, ◌&&◌, ℕ, ◌+◌, ◌≤◌, eqb, Some}
use Rattle.std.proofs.Common.{sym, ◌∙◌, ap, arith, eqb-true, eq-eqb, ne_eqb}
use Rattle.std.proofs.lemmas.Bool.{eqb-false}
use Rattle.carv_area.specs.Laws.Table
use Rattle.carv_area.specs.Table.{at, total}
use Rattle.carv_area.specs.Laws.Table.{All, test}
use Rattle.carv_area.specs.Laws.Sums.{total_eq, total_sum, total_le, total_one, total_swap}
use Rattle.carv_budget.specs.declared.Account.{Account}
use Rattle.carv_budget.specs.Account as account
use Rattle.carv_objects_spec.specs.Kinds.{is_budget_kind}
use Rattle.carv_objects_spec.specs.declared.Entry.{Entry}
use Rattle.carv_objects_spec.specs.Registry.{Registry, is_budget, account_of}
use Rattle.carv_objects_spec.specs.Sound.{is_child}
use Rattle.carv_objects_spec.proofs.Laws.SoundFacts.{Sound}
use Rattle.carv_objects_spec.proofs.Laws.Steps.{BudgetEntry}
use Rattle.carv_objects_spec.proofs.Laws.Kept.{live_budget}
use Rattle.carv_objects_spec.specs.Within.{within}
use Rattle.carv_objects_spec.proofs.Laws.Within.{or_left, within_step, within_root, within_le, within_the_root, payer_at}
use Rattle.carv_objects_spec.specs.Totals.{over, over_all, used, free, left}

-- Tests.

turn : (x y z : Bool) (v : ℕ) → cond x (cond (y && z) v 0) 0 ≡ cond y (cond (x && z) v 0) 0
turn true true z v = refl
turn true false z v = refl
turn false true z v = refl
turn false false z v = refl

only : (x y z : Bool) (v : ℕ) → x ≡ false → y ≡ true → z ≡ true → cond x v 0 + cond y v 0 ≡ cond z v 0
only x y z v f g h = rw (f, g, h) (omega arith)

rest : (x y z : Bool) (v : ℕ) → x ≡ z → y ≡ false → cond x v 0 + cond y v 0 ≡ cond z v 0
rest x y z v f g = rw (f, g) (omega arith)

pub and_true : (x : Bool) {y : Bool} → y ≡ true → (x && y) ≡ x
and_true true h = h
and_true false h = refl

pub and_false : (x : Bool) {y : Bool} → y ≡ false → (x && y) ≡ false
and_false true h = h
and_false false h = refl

module _ (r : Registry) (s : Sound r) where
  -- a claim on each live entry
  each_row : (P : ℕ → Entry → Type 0) → ((i : ℕ) (e : Entry) → at r.rows i ≡ Some e → P i e) → All P r.rows
  each_row P h = Table.all_at P r.rows 1 r.next s.rising h

  -- the sum of a figure over the entries within b
  abbrev pub inside : (b : ℕ) → (Entry → ℕ) → ℕ
  inside b v = total (λ c e. cond (within r b c) (v e) 0) r.rows

  -- the sum of a figure over the children of j
  abbrev of_children : (Entry → ℕ) → (j : ℕ) → ℕ
  of_children v j = total (λ c e. cond (is_child j c e) (v e) 0) r.rows

  module _ (b : ℕ) (y : Entry) (B : BudgetEntry r b y) (v : Entry → ℕ) where
    -- the children of those within b, by their payers
    children_by_payer : total (λ j d. cond (within r b j) (of_children v j) 0) r.rows ≡ total (λ c e. cond (within r b e.payer && not (eqb c e.payer)) (v e) 0) r.rows
    children_by_payer =
        total_swap (within r b) (λ j c e. cond (is_child j c e) (v e) 0) r.rows r.rows
        ∙ total_eq (λ c e. total (λ j d. cond (within r b j) (cond (is_child j c e) (v e) 0) 0) r.rows) (λ c e. cond (within r b e.payer && not (eqb c e.payer)) (v e) 0) r.rows
        (each_row (λ c e. total (λ j d. cond (within r b j) (cond (is_child j c e) (v e) 0) 0) r.rows ≡ cond (within r b e.payer && not (eqb c e.payer)) (v e) 0)
        λ c e h. let (p, P) = payer_at r s c e h in
        total_eq (λ j d. cond (within r b j) (cond (is_child j c e) (v e) 0) 0) (λ j d. cond (eqb e.payer j) (cond (within r b j && not (eqb c j)) (v e) 0) 0) r.rows
        (each_row (λ j d. cond (within r b j) (cond (is_child j c e) (v e) 0) 0 ≡ cond (eqb e.payer j) (cond (within r b j && not (eqb c j)) (v e) 0) 0)
        λ j d k. turn (within r b j) (eqb e.payer j) (not (eqb c j)) (v e))
        ∙ total_one (λ j d. cond (within r b j && not (eqb c j)) (v e) 0) r.rows 1 r.next e.payer p s.rising P.here)

    -- of those within b all are children of such, but b itself
    one_by_one : (c : ℕ) (e : Entry) → at r.rows c ≡ Some e
        → cond (within r b e.payer && not (eqb c e.payer)) (v e) 0 + cond (eqb b c) (v e) 0 ≡ cond (within r b c) (v e) 0
    one_by_one c e h =
        let p = e.payer in
        let step = within_step r s b c e h in
        test (eqb c b)
        (λ a. let q = eqb-true c b a in
        let high : (within r b p && not (eqb c p)) ≡ false = test (eqb c 1)
        (λ o. and_false (within r b p) (rw (eq-eqb c p (eqb-true c 1 o ∙ sym ((s.each c e h).root (eqb-true c 1 o)).1))))
        (λ o. let low = (s.each c e h).lower (eqb-false c 1 o) in
        let (x, X) = payer_at r s c e h in
        let out : within r b p ≡ false = test (within r b p) (λ k. absurd (omega (arith, within_le r s p b p x (omega arith) X.here k))) (λ k. k) in
        rw out) in
        only (within r b p && not (eqb c p)) (eqb b c) (within r b c) (v e) high (eq-eqb b c (sym q)) (step ∙ or_left (within r b p) a))
        (λ a. let d = eqb-false c b a in
        let same : within r b c ≡ within r b p = rw a at step in
        let high : (within r b p && not (eqb c p)) ≡ within r b c = test (eqb c 1)
        (λ o. let one = eqb-true c 1 o in
        let root : p ≡ c = ((s.each c e h).root one).1 ∙ sym one in
        let out : within r b c ≡ false = rw one (within_root r s b ∙ rw one at a) in
        rw (← same, out))
        (λ o. let low = (s.each c e h).lower (eqb-false c 1 o) in
        and_true (within r b p) (rw (ne_eqb c p (λ z. omega arith))) ∙ sym same) in
        rest (within r b p && not (eqb c p)) (eqb b c) (within r b c) (v e) high (ne_eqb b c (λ z. d (sym z))))

    children_inside : total (λ j d. cond (within r b j) (of_children v j) 0) r.rows + v y ≡ inside b v
    children_inside =
        omega (
          arith,
          children_by_payer,
          total_one (λ c e. v e) r.rows 1 r.next b y s.rising B.here,
          total_sum (λ c e. cond (within r b e.payer && not (eqb c e.payer)) (v e) 0) (λ c e. cond (eqb b c) (v e) 0) r.rows,
          total_eq (λ c e. cond (within r b e.payer && not (eqb c e.payer)) (v e) 0 + cond (eqb b c) (v e) 0) (λ c e. cond (within r b c) (v e) 0) r.rows
              (each_row (λ c e. cond (within r b e.payer && not (eqb c e.payer)) (v e) 0 + cond (eqb b c) (v e) 0 ≡ cond (within r b c) (v e) 0) one_by_one),
        )

  -- an entry that is no budget has an account of zeros
  pub over_inside : (f : Account → ℕ) → f account.blank ≡ 0 → (b : ℕ) → over f r b ≡ inside b (λ e. f e.account)
  over_inside f zero b = total_eq (λ i e. cond (is_budget_kind e.kind && within r b i) (f e.account) 0) (λ i e. cond (within r b i) (f e.account) 0) r.rows
      (each_row (λ i e. cond (is_budget_kind e.kind && within r b i) (f e.account) 0 ≡ cond (within r b i) (f e.account) 0)
      λ i e h. test (is_budget_kind e.kind)
      (λ a. rw a)
      (λ a. let z : f e.account ≡ 0 = ap f ((s.each i e h).plain a) ∙ zero in rw (a, z) (sym (none_of (within r b i)))))
    where
      none_of : (c : Bool) → ◌≡◌ {A = ℕ} (cond c 0 0) 0
      none_of true = refl
      none_of false = refl

  module _ (b : ℕ) (live : is_budget r b ≡ true) where
    -- P1: "For each budget, used plus free over it and all below must equal its memory limit"
    pub memory_total : over used r b + over free r b ≡ (account_of r b).memory_limit
    memory_total =
        let (y, B) = live_budget r b live in
        let limit : Entry → ℕ = λ e. e.account.memory_limit in
        let all = total_eq (λ j d. cond (within r b j) d.account.memory_used 0 + cond (within r b j) (free d.account) 0 + cond (within r b j) (of_children limit j) 0)
        (λ j d. cond (within r b j) d.account.memory_limit 0) r.rows
        (each_row (λ j d. cond (within r b j) d.account.memory_used 0 + cond (within r b j) (free d.account) 0 + cond (within r b j) (of_children limit j) 0
        ≡ cond (within r b j) d.account.memory_limit 0)
        λ j d h. let F = s.each j d h in test (within r b j) (λ a. rw a (omega (arith, F.memory, F.memory_reserved))) (λ a. rw a)) in
        let sums = total_sum (λ j d. cond (within r b j) d.account.memory_used 0 + cond (within r b j) (free d.account) 0) (λ j d. cond (within r b j) (of_children limit j) 0) r.rows in
        let parts = total_sum (λ j d. cond (within r b j) d.account.memory_used 0) (λ j d. cond (within r b j) (free d.account) 0) r.rows in
        let read : (account_of r b).memory_limit ≡ y.account.memory_limit = ap (λ (e : Entry). e.account.memory_limit) B.read in
        omega (arith, over_inside used refl b, over_inside free refl b, children_inside b y B limit)

    -- CPU left over a budget and all below it is at most its allowance
    pub cpu_total : over left r b ≤ (account_of r b).cpu_allowance
    cpu_total =
        let (y, B) = live_budget r b live in
        let allowance : Entry → ℕ = λ e. e.account.cpu_allowance in
        let all = total_le (λ j d. cond (within r b j) d.account.cpu_left 0 + cond (within r b j) (of_children allowance j) 0)
        (λ j d. cond (within r b j) d.account.cpu_allowance 0) r.rows
        (each_row (λ j d. cond (within r b j) d.account.cpu_left 0 + cond (within r b j) (of_children allowance j) 0 ≤ cond (within r b j) d.account.cpu_allowance 0)
        λ j d h. let F = s.each j d h in test (within r b j) (λ a. rw a (omega (arith, F.cpu, F.cpu_reserved))) (λ a. rw a (omega arith))) in
        let sums = total_sum (λ j d. cond (within r b j) d.account.cpu_left 0) (λ j d. cond (within r b j) (of_children allowance j) 0) r.rows in
        let read : (account_of r b).cpu_allowance ≡ y.account.cpu_allowance = ap (λ (e : Entry). e.account.cpu_allowance) B.read in
        omega (arith, over_inside left refl b, children_inside b y B allowance)

  -- P1: "Root totals are the totals over all live budgets"
  pub root_total : (f : Account → ℕ) → over f r 1 ≡ over_all f r
  root_total f = total_eq (λ i e. cond (is_budget_kind e.kind && within r 1 i) (f e.account) 0) (λ i e. cond (is_budget_kind e.kind) (f e.account) 0) r.rows
      (each_row (λ i e. cond (is_budget_kind e.kind && within r 1 i) (f e.account) 0 ≡ cond (is_budget_kind e.kind) (f e.account) 0)
      λ i e h. ap (λ (c : Bool). cond c (f e.account) 0) (and_true (is_budget_kind e.kind) (within_the_root r s i i e (omega arith) h)))
