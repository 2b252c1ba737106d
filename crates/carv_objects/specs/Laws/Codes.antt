-- What a code is found to be: of a stored word, and of the code that `create` and `insert` are given, in the words of carv_objects_spec, which asks the code itself.
-- Assumes nothing.
use Rattle.std.specs.Prelude.{◌≡◌, Bool, true, false, not, ◌||◌, ℕ, get_or, Option, Some, None}
use Rattle.std.proofs.Common.{sym, ap, ◌∙◌, subst, eqb-true}
use Rattle.std.proofs.lemmas.Bool.{false≢true}
use Rattle.carv_area.specs.Lookup.{Here}
use Rattle.carv_budget.specs.declared.Account.{Account}
use Rattle.carv_budget.specs.Account as account
use Rattle.carv_objects_spec.specs.declared.kind.Kind.{Kind}
use Rattle.carv_objects_spec.specs.declared.kind.Kind.TheVariants.{Budget}
use Rattle.carv_objects_spec.specs.Kinds.{Named, code, listed, kind_of, bytes_of, creatable, needs_backing, is_budget_kind}
use Rattle.carv_objects_spec.specs.Registry.{Registry, budget, add, plain}
use Rattle.carv_objects_spec.proofs.Laws.Kinds.{kind_told, kind_apart, named_kind, named_listed, budget_code}
use Rattle.carv_objects.specs.Laws.Rows.{no_row}
use Rattle.carv_objects.specs.Laws.Calls.{stored_of}

-- the word n, read as x, is that of the kind k, which is asked whether it is a budget's
module _ {x n : ℕ} {k : Kind} {b : Bool} (read : x ≡ n) (is : k ≡ kind_of x) (asked : b ≡ is_budget_kind k) where
  pub word_budget : b ≡ true → kind_of n ≡ Budget
  word_budget h = ap kind_of (sym read) ∙ sym is ∙ kind_told k (sym asked ∙ h)

  pub word_other : b ≡ false → kind_of n ≡ Budget → ⊥
  word_other h q = kind_apart k (sym asked ∙ h) (is ∙ ap kind_of read ∙ q)

pub named_some : (n : ℕ) (p : Option Kind) → Named n p → (k : Kind) → p ≡ Some k → code k ≡ n
named_some n p h k e = subst (Named n) e h

pub named_none : (n : ℕ) (p : Option Kind) → Named n p → p ≡ None → listed n ≡ false
named_none n p h e = subst (Named n) e h

-- n is the code of the kind k
module _ (n : ℕ) (k : Kind) (e : code k ≡ n) where
  pub listed_named : listed n ≡ true
  listed_named = named_listed n k e

  pub budget_named : is_budget_kind k ≡ true → n ≡ 6
  budget_named h = eqb-true n 6 (sym (budget_code n) ∙ ap is_budget_kind (named_kind n k e) ∙ h)

  pub other_named : is_budget_kind k ≡ false → n ≡ 6 → ⊥
  other_named h q = false≢true (sym h ∙ ap is_budget_kind (sym (named_kind n k e)) ∙ ap (λ (m : ℕ). is_budget_kind (kind_of m)) q)

  pub bytes_named : (b : ℕ) → b ≡ bytes_of k → b ≡ bytes_of (kind_of n)
  bytes_named b q = q ∙ ap bytes_of (sym (named_kind n k e))

  pub creatable_named : (b : Bool) → creatable k ≡ b → creatable (kind_of n) ≡ b
  creatable_named b q = ap creatable (named_kind n k e) ∙ q

  pub backing_named : (backing b : Bool) → (not (needs_backing k) || backing) ≡ b → (not (needs_backing (kind_of n)) || backing) ≡ b
  backing_named backing b q = ap (λ (j : Kind). not (needs_backing j) || backing) (named_kind n k e) ∙ q

-- the new object, of the kind of its code
pub stored_named : (r : Registry) (payer i m n : ℕ) (k : Kind) → code k ≡ n → (h : Here no_row r.rows payer i) (y z : Account) → y ≡ (get_or r.rows i no_row).it.account
    → z ≡ account.charge y m → (l : ℕ) → m ≡ l → add (plain k payer m) (budget payer (λ _. z) r) ≡ add (plain (kind_of n) payer l) (budget payer (λ a. account.charge a l) r)
stored_named r payer i m n k e h y z ey ez l q =
    stored_of r payer i m l k h y z ey ez q ∙ ap (λ (j : Kind). add (plain j payer l) (budget payer (λ a. account.charge a l) r)) (sym (named_kind n k e))
