-- P3's invariant on a registry and its ledger, and the steps that keep it: the clock moves on, an entry changes, is added or goes, CPU time is charged. Assumes nothing.
use Rattle.std.specs.Prelude.{◌≡◌, refl, Bool, true, false, cond, not, List, [], ◌∷◌, ℕ, zero, suc, ◌+◌, ◌-◌, ◌*◌, ◌/◌, ◌%◌, ◌≤◌, ◌<◌, eqb, leb, Option, Some, None}
use Rattle.std.proofs.Common.{sym, ◌∙◌, ap, subst, arith, zero-add, eqb-true, eq-eqb, ne_eqb, leb-true, leb-false, le-leb}
use Rattle.std.proofs.lemmas.Bool.{false≢true, eqb-false, not-true}
use Rattle.carv_area.specs.Laws.Table
use Rattle.carv_area.specs.Table.{Row, at, alter, erase, total, Rising}
use Rattle.carv_area.specs.Laws.Table.{All, test}
use Rattle.carv_area.specs.Laws.Sums.{total_le}
use Rattle.carv_budget.specs.declared.Account.{Account}
use Rattle.carv_budget.specs.Account as account
use Rattle.carv_budget.specs.Account.{period, renew, due, with_cpu}
use Rattle.carv_budget.proofs.Laws.Account as account_laws
use Rattle.carv_objects_spec.specs.declared.kind.Kind.TheVariants.{Budget}
use Rattle.carv_objects_spec.specs.declared.Entry.{Entry}
use Rattle.carv_objects_spec.specs.Registry.{Registry, or_missing, on_account, budget, drop, add}
use Rattle.carv_objects_spec.specs.Sound.{kind_at, is_child, cpu_by}
use Rattle.carv_objects_spec.proofs.Laws.SoundFacts.{Sound}
use Rattle.carv_objects_spec.proofs.Laws.Steps.{BudgetEntry, budget_entry, below_next, kind_alter}
use Rattle.carv_objects_spec.proofs.Laws.Within.{or_true}
use Rattle.carv_objects_spec.specs.Ledger.{Carved, Charge, Ledger, under, spent_among, spent, note_budget, note_charge}

-- the clock after a call: its value, or the last one
abbrev pub after_clock : (last : ℕ) → Option ℕ → ℕ
after_clock last None = last
after_clock last (Some time) = time

-- Accounts. In period p an account holds, of its allowance, what is not yet charged to it: all of it where it is not renewed in p, else CPU left and CPU reserved.

abbrev pub held : (p : ℕ) → Account → ℕ
held p a = cond (eqb a.period_start (p * period)) (a.cpu_left + a.cpu_reserved) a.cpu_allowance

pub held_now : (p : ℕ) (a : Account) → a.period_start ≡ p * period → held p a ≡ a.cpu_left + a.cpu_reserved
held_now p a h = rw (eq-eqb a.period_start (p * period) h)

pub held_whole : (p : ℕ) (a : Account) → (a.period_start ≡ p * period → ⊥) → held p a ≡ a.cpu_allowance
held_whole p a h = rw (ne_eqb a.period_start (p * period) h)

-- starts are multiples of the period, at or before the clock
pub record Start (clock : ℕ) (a : Account) : Type 0 where
  pub whole : a.period_start % period ≡ 0
  pub before : a.period_start ≤ clock

-- a renewal starts the account in the clock's period, and what it holds in that period stays
pub record Renewed (a b : Account) (t : ℕ) : Type 0 where
  pub start : b.period_start ≡ t / period * period
  pub held : held (t / period) b ≡ held (t / period) a

restart : (t s : ℕ) → s % period ≡ 0 → s ≤ t → t - (t - s) % period ≡ t / period * period
restart t s w h = omega arith

same_period : (t s : ℕ) → s % period ≡ 0 → s ≤ t → t - s < period → s ≡ t / period * period
same_period t s w h k = omega arith

other_period : (t s : ℕ) → s ≤ t → period ≤ t - s → s ≡ t / period * period → ⊥
other_period t s h k q = omega arith

pub renewed : (a : Account) (t : ℕ) → account.sound a ≡ true → Start t a → Renewed a (renew a t) t
unfolding due
renewed a t h S =
    let s = account_laws.sound_told h in
    let w = S.whole in
    let b = S.before in
    test (due a t)
    (λ d. let k = leb-true period (t - a.period_start) (account_laws.second (leb a.period_start t) (leb period (t - a.period_start)) d) in
    let now = with_cpu a (t - (t - a.period_start) % period) (a.cpu_allowance - a.cpu_reserved) a.cpu_reserved in
    let start = restart t a.period_start w b in
    rw (← account_laws.renew_due a t d) (record {
      start = start;
      held = omega (arith, held_now (t / period) now start, held_whole (t / period) a (other_period t a.period_start b k), s.cpu);
    }))
    (λ d. let k : t - a.period_start < period = leb-false period (t - a.period_start)
    (rw (le-leb a.period_start t b) at d) in
    rw (← account_laws.renew_not_due a t d) (record { start = same_period t a.period_start w b k; held = refl }))

-- the clock moves on
pub start_later : (T t : ℕ) (a : Account) → T ≤ t → Start T a → Start t a
start_later T t a h S = record { whole = S.whole; before = omega (arith, S.before) }

pub renewed_start : (a : Account) (t : ℕ) → account.sound a ≡ true → Start t a → Start t (renew a t)
renewed_start a t h S = let q = (renewed a t h S).start in record { whole = omega arith; before = omega arith }

-- Budgets and those below them.

-- a budget of the ledger: its id is taken, its parent's is not above its own, and where it is live it has that payer and that allowance
pub record InLedger (r : Registry) (b : ℕ) (x : Carved) : Type 0 where
  pub taken : b < r.next
  pub lower : x.parent ≤ b
  pub payer : (e : Entry) → at r.rows b ≡ Some e → e.kind ≡ Budget → x.parent ≡ e.payer
  pub allowance : (e : Entry) → at r.rows b ≡ Some e → e.kind ≡ Budget → x.allowance ≡ e.account.cpu_allowance

-- those above a budget have ids not above its own
under_le : (r : Registry) (m : List (Row Carved)) → All (InLedger r) m → (b i : ℕ) → under m b i ≡ true → b ≤ i
under_le r [] a b i h = absurd (false≢true h)
under_le r (x ∷ m) a b i h = test (eqb x.id i)
    (λ q. test (eqb i b)
    (λ c. omega (arith, eqb-true i b c))
    (λ c. omega (arith, under_le r m a.1 b x.it.parent (rw (q, c) at h), a.0.lower, eqb-true x.id i q)))
    (λ q. under_le r m a.1 b i (rw q at h))

under_step : (x : Row Carved) (m : List (Row Carved)) (b i p : ℕ) → eqb x.id i ≡ true → x.it.parent ≡ p → under m b p ≡ true → under (x ∷ m) b i ≡ true
under_step x m b i p q parent h = rw (q, parent) (or_true (eqb i b) h)

-- a live child of b, at i or above it
record ChildAbove (r : Registry) (m : List (Row Carved)) (b i : ℕ) : Type 0 where
  child : ℕ
  entry : Entry
  here : at r.rows child ≡ Some entry
  payer : entry.payer ≡ b
  apart : child ≡ b → ⊥
  above : under m child i ≡ true

-- those above a live budget are live: each has a live child on the way
climb : (r : Registry) → Sound r → (m : List (Row Carved)) → All (InLedger r) m → (b i : ℕ) (e : Entry) → at r.rows i ≡ Some e → e.kind ≡ Budget
    → (i ≡ b → ⊥) → under m b i ≡ true → ChildAbove r m b i
climb r s [] a b i e here kind apart h = absurd (false≢true h)
climb r s (x ∷ m) a b i e here kind apart h = test (eqb x.id i)
    (λ q. let parent : x.it.parent ≡ e.payer = a.0.payer e (rw (eqb-true x.id i q) here) kind in
    let up : under m b e.payer ≡ true = rw (q, ne_eqb i b apart, parent) at h in
    test (eqb e.payer b)
    (λ w. record { child = i; entry = e; here = here; payer = eqb-true e.payer b w; apart = apart; above = rw (q, eq-eqb i i refl) })
    (λ w. let (y, Y) = budget_entry r e.payer (s.each i e here).paid in
    let C = climb r s m a.1 b e.payer y Y.here Y.kind (eqb-false e.payer b w) up in
    record {
      child = C.child;
      entry = C.entry;
      here = C.here;
      payer = C.payer;
      apart = C.apart;
      above = under_step x m C.child i e.payer q parent C.above;
    }))
    (λ q. let C = climb r s m a.1 b i e here kind apart (rw q at h) in
    record { child = C.child; entry = C.entry; here = C.here; payer = C.payer; apart = C.apart; above = rw q C.above })

-- Charges.

-- each charge is of a budget whose id is taken, at or before the clock
abbrev pub Past : (next clock : ℕ) → List Charge → Type 0
Past next clock [] = Unit {0}
Past next clock (x ∷ xs) = (x.budget < next) × ((x.time ≤ clock) × Past next clock xs)

past_later : (n T n' t : ℕ) (xs : List Charge) → n ≤ n' → T ≤ t → Past n T xs → Past n' t xs
past_later n T n' t [] h k P = tt
past_later n T n' t (x ∷ xs) h k P = (omega (arith, P.0), (omega (arith, P.1.0), past_later n T n' t xs h k P.1.1))

-- nothing is charged in a period to come
among_later : (m : List (Row Carved)) (n T : ℕ) (xs : List Charge) (p b : ℕ) → Past n T xs → T / period < p → spent_among m xs p b ≡ 0
among_later m n T [] p b P h = refl
among_later m n T (x ∷ xs) p b P h =
    let k = P.1.0 in
    rw (ne_eqb (x.time / period) p (λ q. omega arith)) (omega (arith, among_later m n T xs p b P.1.1 h))

-- nothing is charged to the next id
among_next : (r : Registry) (m : List (Row Carved)) → All (InLedger r) m → (T : ℕ) (xs : List Charge) (p : ℕ) → Past r.next T xs → spent_among m xs p r.next ≡ 0
among_next r m a T [] p P = refl
among_next r m a T (x ∷ xs) p P =
    let off : under m r.next x.budget ≡ false = test (under m r.next x.budget)
    (λ q. absurd (omega (arith, under_le r m a r.next x.budget q, P.0))) (λ q. q) in
    rw (off, account_laws.not_second (eqb (x.time / period) p) false refl) (omega (arith, among_next r m a T xs p P.1.1))

-- a new budget changes no sum
among_new : (m : List (Row Carved)) (n T : ℕ) (x : Carved) (xs : List Charge) (p b : ℕ) → Past n T xs → spent_among (record { id = n; it = x } ∷ m) xs p b ≡ spent_among m xs p b
among_new m n T x [] p b P = refl
among_new m n T x (y ∷ xs) p b P =
    let k = P.0 in
    rw (ne_eqb n y.budget (λ q. omega arith), among_new m n T x xs p b P.1.1)

-- Totals.

module _ {A : Type 0} where
  all_of : (P : ℕ → A → Type 0) (m : List (Row A)) → ((i : ℕ) (a : A) → P i a) → All P m
  all_of P [] h = tt
  all_of P (x ∷ m) h = (h x.id x.it, all_of P m h)

  all_map : (P Q : ℕ → A → Type 0) (m : List (Row A)) → ((i : ℕ) (a : A) → P i a → Q i a) → All P m → All Q m
  all_map P Q [] h a = tt
  all_map P Q (x ∷ m) h a = (h x.id x.it a.0, all_map P Q m h a.1)

  all_both : (P Q R : ℕ → A → Type 0) (m : List (Row A)) → ((i : ℕ) (a : A) → P i a → Q i a → R i a) → All P m → All Q m → All R m
  all_both P Q R [] h a b = tt
  all_both P Q R (x ∷ m) h a b = (h x.id x.it a.0 b.0, all_both P Q R m h a.1 b.1)

  -- one row weighs n more
  total_more : (w v : ℕ → A → ℕ) (m : List (Row A)) (c : ℕ) (d : A) (n : ℕ) → at m c ≡ Some d → ((i : ℕ) (a : A) → w i a ≤ v i a) → w c d + n ≤ v c d
      → total w m + n ≤ total v m
  total_more w v [] c d n here h k = let z : ◌≡◌ {A = ℕ} 0 1 = cc in absurd (omega arith)
  total_more w v (x ∷ m) c d n here h k = test (eqb x.id c)
      (λ e. let q = eqb-true x.id c e in let g : Some x.it ≡ Some d = rw e at here in let z : x.it ≡ d = cc in
      rw (q, z) (omega (arith, total_le w v m (all_of (λ i a. w i a ≤ v i a) m h))))
      (λ e. omega (arith, h x.id x.it, total_more w v m c d n (rw e at here) h k))

-- The invariant.

-- what was charged, by s, to the children of i
abbrev pub by_child : (ℕ → ℕ) → (i j : ℕ) → Entry → ℕ
by_child s i j e = cond (is_child i j e) (s j) 0

abbrev pub to_children : (ℕ → ℕ) → List (Row Entry) → (i : ℕ) → ℕ
to_children s rows i = total (by_child s i) rows

-- What was charged in period p to i and all below it, and what i still holds in it, are together at most its allowance and what was charged to its live children.
abbrev pub Line : (s : ℕ → ℕ) (p : ℕ) → List (Row Entry) → (i : ℕ) → Account → Type 0
Line s p rows i a = s i + held p a ≤ a.cpu_allowance + to_children s rows i

-- so nothing live is overspent: from the latest id down, as children have higher ids
pub bounded : (r : Registry) → Sound r → (s : ℕ → ℕ) (p : ℕ) → ((i : ℕ) (e : Entry) → at r.rows i ≡ Some e → Line s p r.rows i e.account)
    → (n i : ℕ) (e : Entry) → r.next ≤ i + n → at r.rows i ≡ Some e → s i ≤ e.account.cpu_allowance
bounded r o s p lines zero i e h here = absurd (omega (arith, below_next r o i e here))
bounded r o s p lines (suc n) i e h here =
    let F = o.each i e here in
    let a = e.account in
    let children : to_children s r.rows i ≤ a.cpu_reserved =
    rw F.cpu_reserved (total_le (by_child s i) (cpu_by i) r.rows (Table.all_at (λ j d. by_child s i j d ≤ cpu_by i j d) r.rows 1 r.next o.rising
    λ j d at_j. test (is_child i j d)
    (λ c. rw c (let x = eqb-true d.payer i (account_laws.first (eqb d.payer i) (not (eqb j i)) c) in
    let y = eqb-false j i (not-true (eqb j i) (account_laws.second (eqb d.payer i) (not (eqb j i)) c)) in
    let D = o.each j d at_j in
    let low : i < j = test (eqb j 1)
    (λ one. absurd (y (eqb-true j 1 one ∙ sym (D.root (eqb-true j 1 one)).1 ∙ x)))
    (λ one. omega (arith, D.lower (eqb-false j 1 one))) in
    bounded r o s p lines n j d (omega arith) at_j))
    (λ c. rw c (omega arith)))) in
    let line = lines i e here in
    test (eqb a.period_start (p * period))
    (λ q. omega (arith, held_now p a (eqb-true a.period_start (p * period) q)))
    (λ q. omega (arith, held_whole p a (eqb-false a.period_start (p * period) q), F.cpu))

-- no budget of the ledger is overspent, in any period
abbrev pub Settled : Ledger → Type 0
Settled l = All (λ b x. (p : ℕ) → spent l p b ≤ x.allowance) l.budgets

pub record Balanced (r : Registry) (l : Ledger) (clock : ℕ) : Type 0 where
  pub budgets : All (InLedger r) l.budgets
  pub past : Past r.next clock l.charges
  pub starts : (i : ℕ) (e : Entry) → at r.rows i ≡ Some e → Start clock e.account
  pub lines : (i : ℕ) (e : Entry) → at r.rows i ≡ Some e → Line (spent l (clock / period)) (clock / period) r.rows i e.account
  pub settled : Settled l

-- the clock moves on: within the period nothing changes, and in a later one nothing is charged yet and nothing renewed
pub clock_step : (r : Registry) (l : Ledger) (T t : ℕ) → T ≤ t → Balanced r l T → Balanced r l t
clock_step r l T t h W = record {
  budgets = W.budgets;
  past = past_later r.next T r.next t l.charges (omega arith) h W.past;
  starts = λ i e here. start_later T t e.account h (W.starts i e here);
  lines = λ i e here. test (eqb (T / period) (t / period))
      (λ q. rw (← eqb-true (T / period) (t / period) q) (W.lines i e here))
      (λ q. let d = eqb-false (T / period) (t / period) q in
      let S = W.starts i e here in
      let later : T / period < t / period = above (T / period) (t / period) (omega arith) d in
      omega (
        arith,
        among_later l.budgets r.next T l.charges (t / period) i W.past later,
        held_whole (t / period) e.account (λ z. omega (arith, S.before)),
      ));
  settled = W.settled;
}
  where
    above : (x y : ℕ) → x ≤ y → (x ≡ y → ⊥) → x < y
    above x y h d = omega arith

-- Five steps that keep it: an entry changes, an entry is added, the ledger gains it, an entry goes, and CPU time is charged.

-- a change of an entry that keeps its kind, payer and allowance
pub record KeepsShare (g : Entry → Entry) : Type 0 where
  pub kind : (e : Entry) → (g e).kind ≡ e.kind
  pub payer : (e : Entry) → (g e).payer ≡ e.payer
  pub allowance : (e : Entry) → (g e).account.cpu_allowance ≡ e.account.cpu_allowance

-- a ledger's budgets after such a change, and where entries are added above or go
ledger_kept : (r r' : Registry) (m : List (Row Carved)) → r.next ≤ r'.next
    → ((b : ℕ) (d : Entry) → b < r.next → at r'.rows b ≡ Some d
    → (e : Entry) × (at r.rows b ≡ Some e) × (d.kind ≡ e.kind) × (d.payer ≡ e.payer) × (d.account.cpu_allowance ≡ e.account.cpu_allowance))
    → All (InLedger r) m → All (InLedger r') m
ledger_kept r r' m h was = all_map (InLedger r) (InLedger r') m (λ b x I. record {
  taken = omega (arith, I.taken);
  lower = I.lower;
  payer = λ d here kind. (let (e, there, k, p, a) = was b d I.taken here in I.payer e there (sym k ∙ kind) ∙ sym p);
  allowance = λ d here kind. (let (e, there, k, p, a) = was b d I.taken here in I.allowance e there (sym k ∙ kind) ∙ sym a);
})

abbrev pub altered : ℕ → (Entry → Entry) → Registry → Registry
altered i g r = record { next = r.next; rows = alter i g r.rows }

module _ (r : Registry) (i : ℕ) (y : Entry) (g : Entry → Entry) (here : at r.rows i ≡ Some y) (k : KeepsShare g) where
  -- what stands there now is the changed entry, or what stood there
  pub alter_at : (P : ℕ → Entry → Type 0) → P i (g y) → ((j : ℕ) (d : Entry) → (i ≡ j → ⊥) → at r.rows j ≡ Some d → P j d)
      → (j : ℕ) (d : Entry) → at (altered i g r).rows j ≡ Some d → P j d
  alter_at P one other j d h = test (eqb i j)
      (λ a. let q = eqb-true i j a in
      let z : g y ≡ d = cc (Table.at_alter r.rows i g y here) in
      rw (← q, ← z) one)
      (λ a. other j d (eqb-false i j a) (sym (Table.at_alter_other r.rows i j g (eqb-false i j a)) ∙ h))

  pub alter_children : (s : ℕ → ℕ) (j : ℕ) → to_children s (altered i g r).rows j ≡ to_children s r.rows j
  alter_children s j = Table.total_same (by_child s j) r.rows i g (λ e. rw (k.payer e))

  alter_ledger : (m : List (Row Carved)) → All (InLedger r) m → All (InLedger (altered i g r)) m
  alter_ledger m = ledger_kept r (altered i g r) m (omega arith) (λ b d low h. alter_at
      (λ b d. (e : Entry) × (at r.rows b ≡ Some e) × (d.kind ≡ e.kind) × (d.payer ≡ e.payer) × (d.account.cpu_allowance ≡ e.account.cpu_allowance))
      (y, here, k.kind y, k.payer y, k.allowance y) (λ j d apart h. (d, h, refl, refl, refl)) b d h)

  -- an entry changes, and holds no more than before
  pub alter_step : (l : Ledger) (T : ℕ) → Start T (g y).account → held (T / period) (g y).account ≤ held (T / period) y.account → Balanced r l T → Balanced (altered i g r) l T
  alter_step l T start less W = record {
    budgets = alter_ledger l.budgets W.budgets;
    past = W.past;
    starts = alter_at (λ j d. Start T d.account) start (λ j d apart h. W.starts j d h);
    lines = alter_at (λ j d. Line (spent l (T / period)) (T / period) (altered i g r).rows j d.account)
        (omega (arith, W.lines i y here, alter_children (spent l (T / period)) i, k.allowance y))
        (λ j d apart h. omega (arith, W.lines j d h, alter_children (spent l (T / period)) j));
    settled = W.settled;
  }

-- what stands there now is the added entry, or what stood there
pub add_at : (r : Registry) (x : Entry) → Rising 1 r.next r.rows → (P : ℕ → Entry → Type 0) → P r.next x → ((j : ℕ) (d : Entry) → at r.rows j ≡ Some d → P j d)
    → (j : ℕ) (d : Entry) → at (add x r).rows j ≡ Some d → P j d
add_at r x up P one other j d h = test (eqb r.next j)
    (λ a. let q = eqb-true r.next j a in
    let z : x ≡ d = cc (Table.at_snoc r.rows r.next 0 x (Table.at_above r.rows 1 r.next r.next up (omega arith))) in
    rw (← q, ← z) one)
    (λ a. other j d (sym (Table.at_snoc_other r.rows r.next j x (eqb-false r.next j a)) ∙ h))

-- an entry is added, with no more than its allowance
pub add_step : (r : Registry) (x : Entry) (l : Ledger) (T : ℕ) → Rising 1 r.next r.rows → Start T x.account → held (T / period) x.account ≤ x.account.cpu_allowance
    → Balanced r l T → Balanced (add x r) l T
add_step r x l T up start less W =
    let s = spent l (T / period) in
    let children : (j : ℕ) → to_children s r.rows j ≤ to_children s (add x r).rows j = λ j. omega (arith, Table.total_snoc (by_child s j) r.rows r.next x) in
    record {
      budgets = ledger_kept r (add x r) l.budgets (omega arith)
          (λ b d low h. (d, sym (Table.at_snoc_other r.rows r.next b x (λ q. omega arith)) ∙ h, refl, refl, refl)) W.budgets;
      past = past_later r.next T (suc r.next) T l.charges (omega arith) (omega arith) W.past;
      starts = add_at r x up (λ j d. Start T d.account) start W.starts;
      lines = add_at r x up (λ j d. Line s (T / period) (add x r).rows j d.account)
          (omega (arith, among_next r l.budgets W.budgets T l.charges (T / period) W.past))
          (λ j d h. omega (arith, W.lines j d h, children j));
      settled = W.settled;
    }

-- the ledger gains the budget that was just added, x
pub note_step : (r : Registry) (x : Entry) (l : Ledger) (T : ℕ) → Rising 1 r.next r.rows → x.payer < r.next → Balanced r l T → Balanced (add x r) l T
    → Balanced (add x r) (note_budget r.next x.payer x.account.cpu_allowance l) T
note_step r x l T up low W A =
    let l' = note_budget r.next x.payer x.account.cpu_allowance l in
    let same : (q b : ℕ) → spent l' q b ≡ spent l q b = λ q b.
    among_new l.budgets r.next T (record { parent = x.payer; allowance = x.account.cpu_allowance }) l.charges q b W.past in
    let new : at (add x r).rows r.next ≡ Some x = Table.at_snoc r.rows r.next 0 x (Table.at_above r.rows 1 r.next r.next up (omega arith)) in
    record {
      budgets = (
        record {
          taken = omega arith;
          lower = omega arith;
          payer = λ e here kind. (let z : x ≡ e = cc in ap (λ (d : Entry). d.payer) z);
          allowance = λ e here kind. (let z : x ≡ e = cc in ap (λ (d : Entry). d.account.cpu_allowance) z);
        },
        A.budgets,
      );
      past = A.past;
      starts = A.starts;
      lines = λ i e here. subst (λ (s : ℕ → ℕ). Line s (T / period) (add x r).rows i e.account) (sym (λ j b. same (T / period) b j)) (A.lines i e here);
      settled = (
        λ q. omega (arith, same q r.next, among_next r l.budgets W.budgets T l.charges q W.past),
        all_map (λ b c. (q : ℕ) → spent l q b ≤ c.allowance) (λ b c. (q : ℕ) → spent l' q b ≤ c.allowance) l.budgets
            (λ b c h q. omega (arith, same q b, h q)) A.settled,
      );
    }

-- what stands there now stood there
pub erase_at : (r : Registry) (i : ℕ) → Rising 1 r.next r.rows → (j : ℕ) (d : Entry) → at (drop i r).rows j ≡ Some d → at r.rows j ≡ Some d
erase_at r i up j d h = test (eqb i j)
    (λ a. let gone = Table.at_erase r.rows 1 r.next i up in
    let q = eqb-true i j a in
    let z : ◌≡◌ {A = ℕ} 0 1 = cc in absurd (omega arith))
    (λ a. sym (Table.at_erase_other r.rows i j (eqb-false i j a)) ∙ h)

-- an entry goes, whose payer gives up what was charged to it
pub erase_step : (r : Registry) (i : ℕ) (e : Entry) (l : Ledger) (T : ℕ) → Rising 1 r.next r.rows → at r.rows i ≡ Some e
    → ((y : Entry) → at r.rows e.payer ≡ Some y
    → spent l (T / period) e.payer + held (T / period) y.account + spent l (T / period) i ≤ y.account.cpu_allowance + to_children (spent l (T / period)) r.rows e.payer)
    → Balanced r l T → Balanced (drop i r) l T
erase_step r i e l T up here spare W =
    let s = spent l (T / period) in
    let old = erase_at r i up in
    record {
      budgets = ledger_kept r (drop i r) l.budgets (omega arith) (λ b d low h. (d, old b d h, refl, refl, refl)) W.budgets;
      past = W.past;
      starts = λ j d h. W.starts j d (old j d h);
      lines = λ j d h.
          let t = Table.total_erase (by_child s j) r.rows i e here in
          test (is_child j i e)
          (λ c. let q = eqb-true e.payer j (account_laws.first (eqb e.payer j) (not (eqb i j)) c) in
          let t' : total (by_child s j) (erase i r.rows) + s i ≡ total (by_child s j) r.rows = rw c at t in
          let there : at r.rows e.payer ≡ Some d = rw q (old j d h) in
          let k : s j + held (T / period) d.account + s i ≤ d.account.cpu_allowance + to_children s r.rows j = rw q at (spare d there) in
          omega arith)
          (λ c. let t' : total (by_child s j) (erase i r.rows) + 0 ≡ total (by_child s j) r.rows = rw c at t in
          omega (arith, W.lines j d (old j d h)));
      settled = W.settled;
    }

-- CPU time charged

-- ns are charged to budget i, which is renewed at the clock's time
module _ (r : Registry) (o : Sound r) (l : Ledger) (i ns t : ℕ) (e : Entry) (B : BudgetEntry r i e) (f : Account → Account) (k : KeepsShare (on_account f))
    (start : Start t (f e.account)) (less : ns + held (t / period) (f e.account) ≤ held (t / period) e.account)
    (o' : Sound (budget i f r)) (W : Balanced r l t) where
  abbrev l' : Ledger
  l' = note_charge i ns t l

  abbrev before : ℕ → ℕ
  before = spent l (t / period)

  abbrev now : ℕ → ℕ
  now = spent l' (t / period)

  -- what is spent-among for b, now
  now_is : (b : ℕ) → now b ≡ cond (under l.budgets b i) ns 0 + before b
  now_is b = rw (eq-eqb (t / period) (t / period) refl)

  now_above : (b : ℕ) → under l.budgets b i ≡ true → now b ≡ ns + before b
  now_above b h = now_is b ∙ ap (λ (c : Bool). cond c ns 0 + before b) h

  now_aside : (b : ℕ) → under l.budgets b i ≡ false → now b ≡ before b
  now_aside b h = now_is b ∙ ap (λ (c : Bool). cond c ns 0 + before b) h ∙ zero-add (before b)

  now_most : (b : ℕ) → now b ≤ ns + before b
  now_most b = test (under l.budgets b i) (λ h. omega (arith, now_above b h)) (λ h. omega (arith, now_aside b h))

  now_more : (j c : ℕ) (d : Entry) → by_child before j c d ≤ by_child now j c d
  now_more j c d = test (is_child j c d) (λ h. rw h (omega (arith, now_is c))) (λ h. rw h (omega arith))

  children_more : (j : ℕ) → to_children before r.rows j ≤ to_children now r.rows j
  children_more j = total_le (by_child before j) (by_child now j) r.rows (all_of (λ c d. by_child before j c d ≤ by_child now j c d) r.rows (now_more j))

  -- of a budget above i, one child is above i or i itself
  children_above : (j : ℕ) → (i ≡ j → ⊥) → under l.budgets j i ≡ true → to_children before r.rows j + ns ≤ to_children now r.rows j
  children_above j apart h =
      let C = climb r o l.budgets W.budgets j i e B.here B.kind apart h in
      let child : is_child j C.child C.entry ≡ true = rw (eq-eqb C.entry.payer j C.payer, ne_eqb C.child j C.apart) in
      total_more (by_child before j) (by_child now j) r.rows C.child C.entry ns C.here (now_more j)
      (rw child (omega (arith, now_above C.child C.above)))

  charge_lines : (j : ℕ) (d : Entry) → at (budget i f r).rows j ≡ Some d → Line now (t / period) (budget i f r).rows j d.account
  charge_lines = alter_at r i e (on_account f) B.here k (λ j d. Line now (t / period) (budget i f r).rows j d.account)
      (omega (arith, W.lines i e B.here, alter_children r i e (on_account f) B.here k now i, children_more i, now_most i, k.allowance e))
      (λ j d apart h. test (under l.budgets j i)
      (λ a. omega (arith, W.lines j d h, alter_children r i e (on_account f) B.here k now j, children_above j apart a, now_above j a))
      (λ a. omega (arith, W.lines j d h, alter_children r i e (on_account f) B.here k now j, children_more j, now_aside j a)))

  -- a budget above i, or i itself, is live
  above_live : (b : ℕ) → under l.budgets b i ≡ true → kind_at r.rows b ≡ Budget
  above_live b h = test (eqb i b)
      (λ a. rw (← eqb-true i b a) (ap (λ (x : Option Entry). (or_missing x).kind) B.here ∙ B.kind))
      (λ a. let C = climb r o l.budgets W.budgets b i e B.here B.kind (eqb-false i b a) h in
      let p = (o.each C.child C.entry C.here).paid in rw C.payer at p)

  charge_settled : Settled l'
  charge_settled = all_both (InLedger (budget i f r)) (λ b x. (q : ℕ) → spent l q b ≤ x.allowance) (λ b x. (q : ℕ) → spent l' q b ≤ x.allowance) l.budgets
      (λ b x I h q. test (eqb (t / period) q)
      (λ a. rw (← eqb-true (t / period) q a) (test (under l.budgets b i)
      (λ u. let (d, D) = budget_entry (budget i f r) b (kind_alter r.rows i b (on_account f) (λ x. refl) ∙ above_live b u) in
      omega (arith, I.allowance d D.here D.kind, bounded (budget i f r) o' now (t / period) charge_lines r.next b d (omega arith) D.here))
      (λ u. omega (arith, now_aside b u, h (t / period)))))
      (λ a. rw a (omega (arith, h q))))
      (alter_ledger r i e (on_account f) B.here k l.budgets W.budgets) W.settled

  pub charge_step : Balanced (budget i f r) l' t
  charge_step = record {
    budgets = alter_ledger r i e (on_account f) B.here k l.budgets W.budgets;
    past = (below_next r o i e B.here, (omega arith, W.past));
    starts = alter_at r i e (on_account f) B.here k (λ j d. Start t d.account) start (λ j d apart h. W.starts j d h);
    lines = charge_lines;
    settled = charge_settled;
  }
