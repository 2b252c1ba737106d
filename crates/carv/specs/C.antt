-- What a C function tells: the number of the answer is returned, and its values stand in the first of the 20 answer words. Assumes nothing.
use Rattle.std.specs.Prelude.{◌≡◌, Bool, true, false, cond, ◌&&◌, List, [], ◌∷◌, ℕ, eqb, length, Option, Some, None, Result, Ok, Err}
use Rattle.std.proofs.lemmas.List.Edits.{sets}
use Rattle.carv_budget.specs.declared.Account.{Account}
use Rattle.carv_budget.specs.Account.{figures}
use Rattle.carv_objects_spec.specs.declared.Totals.{Totals}
use Rattle.carv_objects_spec.specs.Reply as objects
use Rattle.carv_objects.specs.declared.refusal.Refusal.{Refusal}
use Rattle.carv_objects.specs.Answer.{number}
use Rattle.carv_scheduler_spec.specs.declared.Wait.{Wait}
use Rattle.carv_scheduler_spec.specs.declared.Thread.{Thread}
use Rattle.carv_scheduler_spec.specs.Scheduler.{Board, BoardReply, Value, of_registry, no_switch, switch, ended, is_blocked, record_of, word, exit_cause, kind_of, number_of}
use Rattle.carv_scheduler_spec.specs.declared.Cause.{Cause}
use Rattle.carv_scheduler_spec.specs.Codes.{thread_words, cause_word}
use Rattle.carv_scheduler_spec.specs.Book.{Call, on_objects, create_user_thread, start, block_current, wake, is_blocked_on, kill, tick, plan, read_thread, read_current, read_switches, exit_of}
use Rattle.carv_scheduler_spec.specs.Runs.{run}
use Rattle.carv_scheduler.specs.Answer.{nothing}
use Rattle.carv_scheduler.specs.Area.{Answered, Opened}
use Rattle.carv_scheduler.specs.Creating.{Created}

-- the words of an account, as they are stored
abbrev pub account_words : Account → List ℕ
account_words a = figures a

-- the words of a budget's totals: memory used, memory free, CPU left
abbrev pub totals_words : Totals → List ℕ
totals_words t = t.memory_used ∷ t.memory_free ∷ t.cpu_left ∷ []

-- the words of a thread record, as they are stored
abbrev pub record_words : Thread → List ℕ
record_words t = thread_words t

-- yes or no
abbrev pub bit : Bool → ℕ
bit true = 1
bit false = 0

-- the words of a value of the registry: an id; 1 or 0 for yes or no; the seven figures; a payer and a charge; the three totals
abbrev pub registry_words : objects.Value → List ℕ
registry_words (objects.id i) = i ∷ []
registry_words (objects.renewed b) = bit b ∷ []
registry_words (objects.pays b) = bit b ∷ []
registry_words (objects.of_account a) = account_words a
registry_words (objects.charge p n) = p ∷ n ∷ []
registry_words (objects.of_totals t) = totals_words t

-- a page-table root is 1 and the root, or 0 for the kernel's
abbrev pub root_words : Option ℕ → List ℕ
root_words (Some root) = 1 ∷ root ∷ []
root_words None = 0 ∷ []

-- a wait that was ended is its kind and number, or 0 and 0
abbrev pub ended_words : Option Wait → List ℕ
ended_words (Some w) = kind_of w ∷ number_of w ∷ []
ended_words None = 0 ∷ 0 ∷ []

-- a cause, or 0
abbrev pub cause_words : Option Cause → List ℕ
cause_words (Some c) = cause_word c ∷ []
cause_words None = 0 ∷ []

-- and of the board's: a switch is 1, the old id, the new id, and the root
abbrev pub value_words : Value → List ℕ
value_words (of_registry v) = registry_words v
value_words no_switch = 0 ∷ []
value_words (switch old new root) = 1 ∷ old ∷ new ∷ root_words root
value_words (ended w) = ended_words w
value_words (is_blocked b) = bit b ∷ []
value_words (record_of t) = record_words t
value_words (word n) = n ∷ []
value_words (exit_cause c) = cause_words c

-- no value, no word
abbrev pub told_words : Option Value → List ℕ
told_words (Some v) = value_words v
told_words None = []

-- the answer words out with the words of an accepted answer. A refusal writes nothing
abbrev pub written : {T : Type 0} → (T → List ℕ) → Result T Refusal → List ℕ → List ℕ
written words (Ok x) out = sets out 0 (words x)
written words (Err n) out = out

-- the same by the values that the answer tells
abbrev pub reported : {T : Type 0} → (T → Option Value) → Result T Refusal → List ℕ → List ℕ
reported tells (Ok x) out = sets out 0 (told_words (tells x))
reported tells (Err n) out = out

-- a value tells itself
abbrev pub itself : Option Value → Option Value
itself v = v

-- an answer of which `says` holds, in the returned number r and in the answer words out'
pub record Reports {T : Type 0} (tells : T → Option Value) (says : Result T Refusal → List ℕ → Type 0) (out : List ℕ) (r : ℕ) (a' out' : List ℕ) : Type 0 where
  pub answer : Result T Refusal
  pub said : says answer a'
  pub number : r ≡ number answer
  pub values : out' ≡ reported tells answer out

-- What a C function returns, r, and leaves, a' and out', of the area a and the answer words out: other than 20 answer words are refused with 1, and nothing changes
pub record Returns {T : Type 0} (tells : T → Option Value) (says : Result T Refusal → List ℕ → Type 0) (a out : List ℕ) (r : ℕ) (a' out' : List ℕ) : Type 0 where
  pub size : eqb (length out) 20 ≡ false → (r ≡ 1) × (a' ≡ a) × (out' ≡ out)
  pub reports : eqb (length out) 20 ≡ true → Reports tells says out r a' out'

-- of a call, whose answer is told by its value, and of an opening
abbrev pub Called : (Board → BoardReply) → (a out : List ℕ) (r : ℕ) (a' out' : List ℕ) → Type 0
Called call a = Returns itself (Answered call itself a) a

abbrev pub Opens : (cpu memory : ℕ) (a out : List ℕ) (r : ℕ) (a' out' : List ℕ) → Type 0
Opens cpu memory a = Returns nothing (Opened cpu memory a) a

-- The calls.

-- what the C function of a call ensures
abbrev pub Exported : Call → (a out : List ℕ) (r : ℕ) (a' out' : List ℕ) → Type 0
Exported c = Called (run c)

-- `carv_create_user_thread`, which is lent a register image m as well: other than 20 answer words are refused with 1, and nothing changes
pub record CreatesInC (call : Board → BoardReply) (a m out : List ℕ) (r : ℕ) (a' m' out' : List ℕ) : Type 0 where
  pub size : eqb (length out) 20 ≡ false → (r ≡ 1) × (a' ≡ a) × (m' ≡ m) × (out' ≡ out)
  pub reports : eqb (length out) 20 ≡ true → Reports nothing (λ x b. Created call a m x b m') out r a' out'

abbrev pub ExportedWithImage : Call → (a m out : List ℕ) (r : ℕ) (a' m' out' : List ℕ) → Type 0
ExportedWithImage c = CreatesInC (run c)

-- The exported functions of the calls.

-- only `carv_create_user_thread` is lent a register image
abbrev pub has_image : Call → Bool
has_image (on_objects c) = false
has_image (create_user_thread i budget stack) = true
has_image (start i space cspace root context) = false
has_image (block_current kind number) = false
has_image (wake i r) = false
has_image (is_blocked_on i kind number) = false
has_image (kill i cause) = false
has_image (tick n) = false
has_image (plan n) = false
has_image (read_thread i) = false
has_image read_current = false
has_image read_switches = false
has_image (exit_of i) = false

-- One call of a list: the answer words and the image that it was lent and as it left them, the number that it returned, the area that it left.
pub record Made : Type 0 where
  pub call : Call
  pub words : List ℕ
  pub image : List ℕ
  pub returned : ℕ
  pub left : List ℕ
  pub words' : List ℕ
  pub image' : List ℕ

-- what the C function of the call ensures, on the area a: the `ensures` of src/lib.rt name these two
pub data Ensures (a : List ℕ) (e : Made) : Type 0 where
  with_image : has_image e.call ≡ true → ExportedWithImage e.call a e.image e.words e.returned e.left e.image' e.words' → Ensures a e
  plain : has_image e.call ≡ false → Exported e.call a e.words e.returned e.left e.words' → e.image' ≡ e.image → Ensures a e

-- are the answer words 20, and is the image, where there is one, of 512 bytes?
abbrev pub lent : Made → Bool
lent e = eqb (length e.words) 20 && cond (has_image e.call) (eqb (length e.image) 512) true
