-- Document 01's codes: the words that a state with its wait, a budget, a space and a cause are stored as, what such words say, and the test that they are the words of one:
-- "every code is a listed one". carv_scheduler/specs/Area.antt lays records out in these. Assumes nothing.
use Rattle.std.specs.Prelude.{◌≡◌, Bool, false, cond, ◌&&◌, List, [], ◌∷◌, ℕ, eqb, leb, Option, Some, None}
use Rattle.carv_scheduler_spec.specs.declared.Wait.{Wait}
use Rattle.carv_scheduler_spec.specs.declared.State.{State}
use Rattle.carv_scheduler_spec.specs.declared.State.TheVariants.{Inactive, Ready, Running, Blocked, Dead}
use Rattle.carv_scheduler_spec.specs.declared.Spaces.{Spaces}
use Rattle.carv_scheduler_spec.specs.declared.Thread.{Thread}
use Rattle.carv_scheduler_spec.specs.declared.Cause.{Cause}
use Rattle.carv_scheduler_spec.specs.declared.Cause.TheVariants.{Destroyed, Faulted}
use Rattle.carv_scheduler_spec.specs.Scheduler.{wait_listed, cause_listed, wait, kind_of, number_of, wait_in, in_spaces}

-- Words.

-- is it there?
abbrev pub is_word : {A : Type 0} → Option A → ℕ
is_word None = 0
is_word (Some a) = 1

-- a word of what is there; of what is not there, 0
abbrev pub or_0 : {A : Type 0} → (A → ℕ) → Option A → ℕ
or_0 word None = 0
or_0 word (Some a) = word a

-- "state (Inactive, Ready, Running, Blocked, Dead)", from 1 on
abbrev pub state_word : State → ℕ
state_word Inactive = 1
state_word Ready = 2
state_word Running = 3
state_word (Blocked w) = 4
state_word Dead = 5

-- a blocked thread's wait
abbrev pub kind_word : State → ℕ
kind_word x = or_0 kind_of (wait_in x)

abbrev pub number_word : State → ℕ
number_word x = or_0 number_of (wait_in x)

abbrev pub id_word : Option ℕ → ℕ
id_word p = or_0 (λ i. i) p

abbrev pub space_word : Option Spaces → ℕ
space_word s = or_0 (λ (x : Spaces). x.space) s

abbrev pub cspace_word : Option Spaces → ℕ
cspace_word s = or_0 (λ (x : Spaces). x.cspace) s

abbrev pub root_word : Option Spaces → ℕ
root_word s = or_0 (λ (x : Spaces). x.root) s

-- the words of a thread record, behind its id
abbrev pub thread_words : Thread → List ℕ
thread_words t =
    state_word t.state ∷ kind_word t.state ∷ number_word t.state ∷ is_word t.budget ∷ id_word t.budget
    ∷ is_word t.spaces ∷ space_word t.spaces ∷ cspace_word t.spaces ∷ root_word t.spaces
    ∷ t.context.rip ∷ t.context.rsp ∷ t.context.rflags ∷ t.context.rdi ∷ t.context.rsi ∷ t.context.cs ∷ t.context.ss
    ∷ t.results.first ∷ t.results.second ∷ t.results.third ∷ t.ticks ∷ []

-- "Causes of an end: 1 Destroyed, 2 Faulted"
abbrev pub cause_word : Cause → ℕ
cause_word Destroyed = 1
cause_word Faulted = 2

-- What words say. A cause's is Scheduler's `cause_of`.

abbrev pub state_from : (state kind number : ℕ) → State
state_from state kind number =
    cond (eqb state 1) Inactive
    (cond (eqb state 2) Ready
    (cond (eqb state 3) Running
    (cond (eqb state 4) (Blocked (wait kind number)) Dead)))

abbrev pub budget_from : (is id : ℕ) → Option ℕ
budget_from is id = cond (eqb is 0) None (Some id)

abbrev pub spaces_from : (is space cspace root : ℕ) → Option Spaces
spaces_from is space cspace root = cond (eqb is 0) None (Some (in_spaces space cspace root))

-- What a code names: the wait of this kind and number, or a cause; none where the code isn't listed.

abbrev pub NamedWait : (kind number : ℕ) → Option Wait → Type 0
NamedWait kind number (Some w) = (kind_of w ≡ kind) × (number_of w ≡ number)
NamedWait kind number None = wait_listed kind ≡ false

abbrev pub NamedCause : (n : ℕ) → Option Cause → Type 0
NamedCause n (Some c) = cause_word c ≡ n
NamedCause n None = cause_listed n ≡ false

-- "Every code is a listed one": the state, a blocked thread's wait, whether there is a budget and a space, and the cause of a logged exit. What is not there is 0.

abbrev pub state_listed : (state kind number : ℕ) → Bool
state_listed state kind number = (leb 1 state && leb state 5) && cond (eqb state 4) (wait_listed kind) (eqb kind 0 && eqb number 0)

abbrev pub budget_listed : (is id : ℕ) → Bool
budget_listed is id = cond (eqb is 0) (eqb id 0) (eqb is 1)

abbrev pub spaces_listed : (is space cspace root : ℕ) → Bool
spaces_listed is space cspace root = cond (eqb is 0) (eqb space 0 && (eqb cspace 0 && eqb root 0)) (eqb is 1)

abbrev pub exit_listed : (cause : ℕ) → Bool
exit_listed cause = cause_listed cause
