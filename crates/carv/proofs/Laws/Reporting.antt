-- From an entry point of the board to its C function. Assumes nothing.
use Rattle.std.specs.Prelude.{◌≡◌, refl, true, false, List, [], ℕ, eqb, length, Option, Some, None, Result, Ok, Err}
use Rattle.std.proofs.Common.{ap, sym, ◌∙◌}
use Rattle.std.proofs.lemmas.List.Edits.{sets}
use Rattle.carv_objects_spec.specs.declared.Totals.{Totals}
use Rattle.carv_objects_spec.specs.Reply.{of_totals}
use Rattle.carv_objects.specs.declared.refusal.Refusal.{Refusal}
use Rattle.carv_objects.specs.Answer.{number}
use Rattle.carv_scheduler_spec.specs.Scheduler.{Board, BoardReply, Value, of_registry}
use Rattle.carv_scheduler.specs.Answer.{value, nothing}
use Rattle.carv_scheduler.specs.Area.{Answered, Opened}
use Rattle.carv_scheduler.specs.Creating.{Created}
use Rattle.carv.specs.C.{totals_words, told_words, written, reported, itself, Reports, Called, Opens, CreatesInC}

-- an answer by the values that it tells
pub told : {T : Type 0} → (T → Option Value) → Result T Refusal → Result (Option Value) Refusal
told tells (Ok x) = Ok (tells x)
told tells (Err n) = Err n

module _ {T : Type 0} (tells : T → Option Value) where
  pub told_number : (x : Result T Refusal) → number (told tells x) ≡ number x
  unfolding told
  told_number (Ok x) = refl
  told_number (Err n) = refl

  told_value : (x : Result T Refusal) → value itself (told tells x) ≡ value tells x
  unfolding told
  told_value (Ok x) = refl
  told_value (Err n) = refl

  pub told_reported : (x : Result T Refusal) (out : List ℕ) → reported itself (told tells x) out ≡ reported tells x out
  unfolding told
  told_reported (Ok x) out = refl
  told_reported (Err n) out = refl

  told_refused : (x : Result T Refusal) (n : Refusal) → x ≡ Err n → told tells x ≡ Err n
  unfolding told
  told_refused x n e = rw e

  pub told_answered : (call : Board → BoardReply) (a : List ℕ) (x : Result T Refusal) (a' : List ℕ) → Answered call tells a x a' → Answered call itself a (told tells x) a'
  told_answered call a x a' h = record {
    refused = λ s. (let (q, u) = h.refused s in (told_refused x _ q, u));
    served = λ s. (let v = h.served s in record { number = told_number x ∙ v.number; value = told_value x ∙ v.value; area = v.area });
  }

  -- the words that are written are those of the value that is told
  pub written_told : (words : T → List ℕ) → ((x : T) → told_words (tells x) ≡ words x) → (x : Result T Refusal) (out : List ℕ) → written words x out ≡ reported tells x out
  written_told words e (Ok x) out = ap (sets out 0) (sym (e x))
  written_told words e (Err n) out = refl

-- an answer that a call gave is reported, told by its value
reports : {T : Type 0} {tells : T → Option Value} {words : T → List ℕ} → ((x : T) → told_words (tells x) ≡ words x) → (call : Board → BoardReply) {a out : List ℕ} {r : ℕ} {a' out' : List ℕ}
    → (x : Result T Refusal) × Answered call tells a x a' × (r ≡ number x) × (out' ≡ written words x out) → Reports itself (Answered call itself a) out r a' out'
reports {tells = tells} {words = words} w call {a = a} {out = out} {a' = a'} h = record {
  answer = told tells h.0;
  said = told_answered tells call a h.0 a' h.1;
  number = h.2 ∙ sym (told_number tells h.0);
  values = h.3 ∙ written_told tells words w h.0 out ∙ sym (told_reported tells h.0 out);
}

-- and one without a value
reports_nothing : {says : Result (Unit {0}) Refusal → List ℕ → Type 0} {out : List ℕ} {r : ℕ} {a' out' : List ℕ}
    → (x : Result (Unit {0}) Refusal) × says x a' × (r ≡ number x) × (out' ≡ written (λ u. []) x out) → Reports nothing says out r a' out'
reports_nothing {out = out} h = record { answer = h.0; said = h.1; number = h.2; values = h.3 ∙ written_told nothing (λ u. []) (λ u. refl) h.0 out }

-- What `answered` ensures: of a call, of an opening, of a call that is lent a register image.

pub called : {T : Type 0} {tells : T → Option Value} {words : T → List ℕ} → ((x : T) → told_words (tells x) ≡ words x) → {call : Board → BoardReply} {a out : List ℕ} {r : ℕ} {a' out' : List ℕ}
    → (eqb (length out) 20 ≡ false → (r ≡ 1) × (a' ≡ a) × (out' ≡ out))
    → (eqb (length out) 20 ≡ true → (x : Result T Refusal) × Answered call tells a x a' × (r ≡ number x) × (out' ≡ written words x out)) → Called call a out r a' out'
called w {call = call} other made = record { size = other; reports = λ q. reports w call (made q) }

pub opened : {cpu memory : ℕ} {a out : List ℕ} {r : ℕ} {a' out' : List ℕ}
    → (eqb (length out) 20 ≡ false → (r ≡ 1) × (a' ≡ a) × (out' ≡ out))
    → (eqb (length out) 20 ≡ true → (x : Result (Unit {0}) Refusal) × Opened cpu memory a x a' × (r ≡ number x) × (out' ≡ written (λ u. []) x out)) → Opens cpu memory a out r a' out'
opened other made = record { size = other; reports = λ q. reports_nothing (made q) }

pub created : {call : Board → BoardReply} {a m out : List ℕ} {r : ℕ} {a' m' out' : List ℕ}
    → (eqb (length out) 20 ≡ false → (r ≡ 1) × (a' ≡ a) × (m' ≡ m) × (out' ≡ out))
    → (eqb (length out) 20 ≡ true → (x : Result (Unit {0}) Refusal) × Created call a m x a' m' × (r ≡ number x) × (out' ≡ written (λ u. []) x out)) → CreatesInC call a m out r a' m' out'
created other made = record { size = other; reports = λ q. reports_nothing (made q) }

-- P1: an answer whose value is a budget's totals is reported in the first three answer words
pub totals_written : (x : Result (Option Value) Refusal) (t : Totals) (out : List ℕ) → value itself x ≡ Some (of_registry (of_totals t)) → reported itself x out ≡ sets out 0 (totals_words t)
totals_written (Ok v) t out h = ap (λ (w : Option Value). sets out 0 (told_words w)) h
totals_written (Err n) t out h = absurd (cc h)

-- an answer without a value writes no answer word
pub no_value_written : (x : Result (Option Value) Refusal) (out : List ℕ) → value itself x ≡ None → reported itself x out ≡ out
no_value_written (Ok v) out h = ap (λ (w : Option Value). sets out 0 (told_words w)) h
no_value_written (Err n) out h = refl
