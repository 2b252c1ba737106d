-- Kinds and their codes: a listed code is that of one kind, which is read back from it, by document 01's table and by the Rust's `from_raw`. Assumes nothing.
use Rattle.std.specs.Prelude.{◌≡◌, refl, Bool, true, false, cond, ◌||◌, [], ◌∷◌, ℕ, ◌+◌, ◌-◌, ◌≤◌, ◌<◌, eqb, leb, get_or, Some, None}
use Rattle.std.proofs.Common.{sym, ap, ◌∙◌, suc-le-suc, arith, eqb-true, leb-true}
use Rattle.std.proofs.lemmas.Bool.{false≢true, eqb-false, lt-leb, ne_eqb}
use Rattle.carv_area.specs.Laws.Table.{test}
use Rattle.carv_budget.proofs.Laws.Account.{not_first, not_second}
use Rattle.carv_objects_spec.specs.declared.kind.Kind.{Kind}
use Rattle.carv_objects_spec.specs.declared.kind.Kind.TheVariants.{Thread, AddressSpace, Frame, Endpoint, Notification, Budget, Reply, Irq, IrqControl}
use Rattle.carv_objects_spec.specs.Kinds.{code, listed, kind_of, bytes_of, creatable, needs_backing, is_budget_kind}
use Rattle.carv_objects_spec.specs.Rust as rust

-- Which kind is a budget's.

pub kind_told : (k : Kind) → is_budget_kind k ≡ true → k ≡ Budget
kind_told Thread h = absurd (false≢true h)
kind_told AddressSpace h = absurd (false≢true h)
kind_told Frame h = absurd (false≢true h)
kind_told Endpoint h = absurd (false≢true h)
kind_told Notification h = absurd (false≢true h)
kind_told Budget h = refl
kind_told Reply h = absurd (false≢true h)
kind_told Irq h = absurd (false≢true h)
kind_told IrqControl h = absurd (false≢true h)

pub kind_shown : (k : Kind) → k ≡ Budget → is_budget_kind k ≡ true
kind_shown k h = ap is_budget_kind h

pub kind_apart : (k : Kind) → is_budget_kind k ≡ false → k ≡ Budget → ⊥
kind_apart k h q = false≢true (sym h ∙ kind_shown k q)

-- A kind's code is a listed one, and names it.

pub code_listed : (k : Kind) → listed (code k) ≡ true
code_listed Thread = refl
code_listed AddressSpace = refl
code_listed Frame = refl
code_listed Endpoint = refl
code_listed Notification = refl
code_listed Budget = refl
code_listed Reply = refl
code_listed Irq = refl
code_listed IrqControl = refl

pub kind_of_code : (k : Kind) → kind_of (code k) ≡ k
kind_of_code Thread = refl
kind_of_code AddressSpace = refl
kind_of_code Frame = refl
kind_of_code Endpoint = refl
kind_of_code Notification = refl
kind_of_code Budget = refl
kind_of_code Reply = refl
kind_of_code Irq = refl
kind_of_code IrqControl = refl

-- so that no two kinds have one code
pub code_apart : (j k : Kind) → code j ≡ code k → j ≡ k
code_apart j k h = sym (kind_of_code j) ∙ ap kind_of h ∙ kind_of_code k

-- what a code is found to be
pub named_kind : (n : ℕ) (k : Kind) → code k ≡ n → kind_of n ≡ k
named_kind n k h = ap kind_of (sym h) ∙ kind_of_code k

pub named_listed : (n : ℕ) (k : Kind) → code k ≡ n → listed n ≡ true
named_listed n k h = ap listed (sym h) ∙ code_listed k

-- a code that is none of the nine is not listed
below : (n k : ℕ) → n ≤ k + 1 → (n ≡ k + 1 → ⊥) → n ≤ k
below n k p h = omega arith

pub unlisted : (n : ℕ) → (n ≡ 1 → ⊥) → (n ≡ 2 → ⊥) → (n ≡ 3 → ⊥) → (n ≡ 4 → ⊥) → (n ≡ 5 → ⊥) → (n ≡ 6 → ⊥) → (n ≡ 7 → ⊥) → (n ≡ 8 → ⊥) → (n ≡ 9 → ⊥) → listed n ≡ false
unlisted n h1 h2 h3 h4 h5 h6 h7 h8 h9 = test (leb n 9) (λ a. not_first (leb 1 n) (leb n 9) (lt-leb 1 n (zero (leb-true n 9 a)))) (λ a. not_second (leb 1 n) (leb n 9) a)
  where
    zero : n ≤ 9 → n < 1
    zero p =
        let q : n ≤ 0 = below n 0 (below n 1 (below n 2 (below n 3 (below n 4 (below n 5 (below n 6 (below n 7 (below n 8 p h9) h8) h7) h6) h5) h4) h3) h2) h1 in
        suc-le-suc q

-- what holds of the nine codes holds of each that is listed
pub of_listed : (P : ℕ → Type 0) → P 1 → P 2 → P 3 → P 4 → P 5 → P 6 → P 7 → P 8 → P 9 → (n : ℕ) → listed n ≡ true → P n
of_listed P p1 p2 p3 p4 p5 p6 p7 p8 p9 n h =
    pick 1 p1 λ h1. pick 2 p2 λ h2. pick 3 p3 λ h3. pick 4 p4 λ h4. pick 5 p5 λ h5. pick 6 p6 λ h6. pick 7 p7 λ h7. pick 8 p8 λ h8. pick 9 p9 λ h9.
    absurd (false≢true (sym (unlisted n h1 h2 h3 h4 h5 h6 h7 h8 h9) ∙ h))
  where
    pick : (c : ℕ) → P c → ((n ≡ c → ⊥) → P n) → P n
    pick c p k = test (eqb n c) (λ a. rw (eqb-true n c a) p) (λ a. k (eqb-false n c a))

-- a listed code is that of its kind, and `from_raw` finds the same kind
pub code_kind_of : (n : ℕ) → listed n ≡ true → code (kind_of n) ≡ n
code_kind_of n h = of_listed (λ n. code (kind_of n) ≡ n) refl refl refl refl refl refl refl refl refl n h

pub from_raw_is : (n : ℕ) → listed n ≡ true → rust.from_raw n ≡ Some (kind_of n)
from_raw_is n h = of_listed (λ n. rust.from_raw n ≡ Some (kind_of n)) refl refl refl refl refl refl refl refl refl n h

-- a code that isn't listed is none of theirs
away : (n : ℕ) → listed n ≡ false → (c : ℕ) → listed c ≡ true → eqb n c ≡ false
away n h c l = ne_eqb n c (λ q. false≢true (sym h ∙ ap listed q ∙ l))

pub from_raw_none : (n : ℕ) → listed n ≡ false → rust.from_raw n ≡ None
from_raw_none n h =
    rw (away n h 1 refl, away n h 2 refl, away n h 3 refl, away n h 4 refl, away n h 5 refl, away n h 6 refl, away n h 7 refl, away n h 8 refl, away n h 9 refl)

-- a code that isn't listed reads as the last kind
pub kind_of_unlisted : (n : ℕ) → listed n ≡ false → kind_of n ≡ IrqControl
kind_of_unlisted n h = rw (away n h 1 refl, away n h 2 refl, away n h 3 refl, away n h 4 refl, away n h 5 refl, away n h 6 refl, away n h 7 refl, away n h 8 refl)

-- What document 01 says of the kinds by number, beside the definitions, which go by kind.

-- "the kind must be 2, 3, 4, 5 or 7": no other code's, listed or not
pub creatable_code : (n : ℕ) → creatable (kind_of n) ≡ (eqb n 2 || (eqb n 3 || (eqb n 4 || (eqb n 5 || eqb n 7))))
creatable_code n = test (listed n)
    (of_listed (λ n. creatable (kind_of n) ≡ (eqb n 2 || (eqb n 3 || (eqb n 4 || (eqb n 5 || eqb n 7))))) refl refl refl refl refl refl refl refl refl n)
    (λ h. rw (kind_of_unlisted n h, away n h 2 refl, away n h 3 refl, away n h 4 refl, away n h 5 refl, away n h 7 refl))

-- "for 2 and 3, the backing must be there": for no other code, listed or not
pub needs_backing_code : (n : ℕ) → needs_backing (kind_of n) ≡ (eqb n 2 || eqb n 3)
needs_backing_code n = test (listed n)
    (of_listed (λ n. needs_backing (kind_of n) ≡ (eqb n 2 || eqb n 3)) refl refl refl refl refl refl refl refl refl n)
    (λ h. rw (kind_of_unlisted n h, away n h 2 refl, away n h 3 refl))

-- "1 Thread 33,792; 2 AddressSpace 16,384; 3 Frame 4,096; 4 Endpoint 128; 5 Notification 64; 6 Budget 128; 7 Reply 64; 8 Irq 64; 9 IrqControl 64": the bytes from code 1 on
pub bytes_of_code : (n : ℕ) → listed n ≡ true → bytes_of (kind_of n) ≡ get_or (33_792 ∷ 16_384 ∷ 4_096 ∷ 128 ∷ 64 ∷ 128 ∷ 64 ∷ 64 ∷ 64 ∷ []) (n - 1) 0
bytes_of_code = of_listed (λ n. bytes_of (kind_of n) ≡ get_or (33_792 ∷ 16_384 ∷ 4_096 ∷ 128 ∷ 64 ∷ 128 ∷ 64 ∷ 64 ∷ 64 ∷ []) (n - 1) 0)
    refl refl refl refl refl refl refl refl refl

-- a budget's code is 6, listed or not
pub budget_code : (n : ℕ) → is_budget_kind (kind_of n) ≡ eqb n 6
budget_code n = test (eqb n 6) (λ a. rw (eqb-true n 6 a)) (λ a. rw a (none (eqb n 1) (eqb n 2) (eqb n 3) (eqb n 4) (eqb n 5) (eqb n 7) (eqb n 8)))
  where
    none : (a b c d e f g : Bool)
        → is_budget_kind (cond a Thread (cond b AddressSpace (cond c Frame (cond d Endpoint (cond e Notification (cond f Reply (cond g Irq IrqControl))))))) ≡ false
    none true b c d e f g = refl
    none false true c d e f g = refl
    none false false true d e f g = refl
    none false false false true e f g = refl
    none false false false false true f g = refl
    none false false false false false true g = refl
    none false false false false false false true = refl
    none false false false false false false false = refl
