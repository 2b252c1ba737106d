-- Lists of calls on accounts alone: what each answers and leaves, by document 01 and by the Rust, and which lists demand 2 is about. Assumes nothing.
use Rattle.std.specs.Prelude.{◌≡◌, Bool, true, false, List, [], ◌∷◌, ◌++◌, map, ℕ, eqb, get_or, set, Result, Ok, Err, Option, Some, None}
use Rattle.carv_budget.specs.declared.Account.{Account}
use Rattle.carv_budget.specs.declared.BudgetError.{BudgetError}
use Rattle.carv_budget.specs.declared.BudgetError.TheVariants.{CpuLimitReached}
use Rattle.carv_budget.specs.declared.Outcome.{Outcome}
use Rattle.carv_budget.specs.Account as account
use Rattle.carv_budget.specs.Account.{sound}
use Rattle.carv_budget.specs.Rust as rust
use Rattle.carv_budget.specs.Rust.{ok, err}
use Rattle.carv_budget.specs.Replies.{error}

-- A caller keeps the accounts that calls give it in places 0, 1, 2, .., as they come, and holds none at first: only an opening gives the first. A place is
-- empty once its account was returned, and is not used again. Calls name accounts by place.
pub data Operation : Type 0 where
  open_account : (cpu memory time : ℕ) → Operation
  refill : (i time : ℕ) → Operation
  charge_cpu : (i ns time : ℕ) → Operation
  charge_memory : (i bytes : ℕ) → Operation
  release_memory : (i bytes : ℕ) → Operation
  carve_out : (i cpu memory time : ℕ) → Operation
  release_child : (i child : ℕ) → Operation

abbrev pub Places : Type 0 → Type 0
Places A = List (Option A)

abbrev pub at : {A : Type 0} → Places A → ℕ → Option A
at t i = get_or t i None

abbrev pub put : {A : Type 0} → ℕ → A → Places A → Places A
put i a t = set t i (Some a)

abbrev pub take : {A : Type 0} → ℕ → Places A → Places A
take i t = set t i None

abbrev pub add : {A : Type 0} → A → Places A → Places A
add a t = t ++ (Some a ∷ [])

-- What an operation answers: a renewal whether it was due, and each its refusal.
pub data Answer : Type 0 where
  done : Answer
  renewed : Answer
  not_due : Answer
  refused : BudgetError → Answer

abbrev pub number : Answer → ℕ
number done = 0
number renewed = 0
number not_due = 0
number (refused e) = account.number e

abbrev pub renewal : Bool → Answer
renewal true = renewed
renewal false = not_due

abbrev pub plain : Unit {0} → Answer
plain _ = done

-- an answer, given what an accepted call says
abbrev pub said : {T : Type 0} → (T → Answer) → Result T BudgetError → Answer
said f (Ok x) = f x
said f (Err e) = refused e

-- the answer, and what the caller then holds. With no account at a place that the operation names nothing can be called: no answer, no change
pub record Reply (A : Type 0) : Type 0 where
  pub answer : Option Answer
  pub after : Places A

abbrev pub answered : {A : Type 0} → Answer → Places A → Reply A
answered r t = record { answer = Some r; after = t }

abbrev pub uncalled : {A : Type 0} → Places A → Reply A
uncalled t = record { answer = None; after = t }

-- By document 01: accounts, whose children they are not seen.

abbrev pub opened : Result Account BudgetError → Places Account → Reply Account
opened (Ok a) t = answered done (add a t)
opened (Err e) t = answered (refused e) t

abbrev pub changed : {T : Type 0} → (T → Answer) → (i : ℕ) → (Account → Outcome T) → Option Account → Places Account → Reply Account
changed say i f None t = uncalled t
changed say i f (Some a) t = answered (said say (f a).answer) (put i (f a).account t)

-- a child is given only by an accepted carve-out
abbrev pub carved : (i : ℕ) (parent : Account) → Result Account BudgetError → Places Account → Reply Account
carved i parent (Ok child) t = answered done (add child (put i parent t))
carved i parent (Err e) t = answered (refused e) (put i parent t)

abbrev pub carved_from : (i cpu memory time : ℕ) → Option Account → Places Account → Reply Account
carved_from i cpu memory time None t = uncalled t
carved_from i cpu memory time (Some a) t =
    let r : Outcome Account = account.carve_out a cpu memory time in
    carved i r.account r.answer t

-- an accepted return takes the child; a refused one leaves it to the caller
abbrev pub returned : (i child : ℕ) (parent : Account) → Result (Unit {0}) BudgetError → Places Account → Reply Account
returned i child parent (Ok _) t = answered done (put i parent (take child t))
returned i child parent (Err e) t = answered (refused e) (put i parent t)

abbrev pub returned_to : (i child : ℕ) → (a c : Option Account) → Places Account → Reply Account
returned_to i child None c t = uncalled t
returned_to i child (Some a) None t = uncalled t
returned_to i child (Some a) (Some c) t =
    let r : Outcome (Unit {0}) = account.release_child a c in
    returned i child r.account r.answer t

abbrev pub run : Operation → Places Account → Reply Account
run (open_account cpu memory time) t = opened (account.open_account cpu memory time) t
run (refill i time) t = changed renewal i (λ a. account.refill a time) (at t i) t
run (charge_cpu i ns time) t = changed plain i (λ a. account.charge_cpu a ns time) (at t i) t
run (charge_memory i bytes) t = changed plain i (λ a. account.charge_memory a bytes) (at t i) t
run (release_memory i bytes) t = changed plain i (λ a. account.release_memory a bytes) (at t i) t
run (carve_out i cpu memory time) t = carved_from i cpu memory time (at t i) t
run (release_child i child) t = returned_to i child (at t i) (at t child) t

-- By the Rust: a `Budget` has its figures and `parent_id`; its `id` is its place, which no other budget has had.

pub record Budget : Type 0 where
  pub figures : Account
  pub parent_id : Option ℕ

abbrev pub budget : Option ℕ → Account → Budget
budget parent_id figures = record { figures = figures; parent_id = parent_id }

-- `child.parent_id == Some(self.id)`
abbrev pub own : (id : ℕ) → (parent_id : Option ℕ) → Bool
own id None = false
own id (Some p) = eqb p id

-- What a method's result is as an answer. Apart from `renewal`, `plain` and `said`, which are document 01's.

abbrev pub rust_renewed : Bool → Answer
rust_renewed true = renewed
rust_renewed false = not_due

-- `charge_cpu` answers whether the time was left
abbrev pub rust_charged : Bool → Answer
rust_charged true = done
rust_charged false = refused CpuLimitReached

abbrev pub rust_done : rust.Result (Unit {0}) → Answer
rust_done (ok _) = done
rust_done (err e) = refused (error e)

abbrev pub rust_opened : rust.Result Account → Places Budget → Reply Budget
rust_opened (ok a) t = answered done (add (budget None a) t)
rust_opened (err e) t = answered (refused (error e)) t

abbrev pub rust_changed : {R : Type 0} → (R → Answer) → (i : ℕ) → (Account → rust.Call R) → Option Budget → Places Budget → Reply Budget
rust_changed says i f None t = uncalled t
rust_changed says i f (Some b) t = answered (says (f b.figures).result) (put i (budget b.parent_id (f b.figures).self) t)

abbrev pub rust_carved : (i : ℕ) (self : Budget) → rust.Result Account → Places Budget → Reply Budget
rust_carved i self (ok child) t = answered done (add (budget (Some i) child) (put i self t))
rust_carved i self (err e) t = answered (refused (error e)) (put i self t)

abbrev pub rust_carved_from : (i cpu memory time : ℕ) → Option Budget → Places Budget → Reply Budget
rust_carved_from i cpu memory time None t = uncalled t
rust_carved_from i cpu memory time (Some b) t =
    let r : rust.Call (rust.Result Account) = rust.carve_out b.figures cpu memory time in
    rust_carved i (budget b.parent_id r.self) r.result t

-- "Taking the child by value means each carved-out child can be released at most once"; on an error it comes back
abbrev pub rust_returned : (i child : ℕ) (self : Budget) → rust.Result (Unit {0}) → Places Budget → Reply Budget
rust_returned i child self (ok _) t = answered done (put i self (take child t))
rust_returned i child self (err e) t = answered (refused (error e)) (put i self t)

abbrev pub rust_returned_to : (i child : ℕ) → (b c : Option Budget) → Places Budget → Reply Budget
rust_returned_to i child None c t = uncalled t
rust_returned_to i child (Some b) None t = uncalled t
rust_returned_to i child (Some b) (Some c) t =
    let r : rust.Call (rust.Result (Unit {0})) = rust.release_child (own i c.parent_id) b.figures c.figures in
    rust_returned i child (budget b.parent_id r.self) r.result t

abbrev pub rust_run : Operation → Places Budget → Reply Budget
rust_run (open_account cpu memory time) t = rust_opened (rust.new cpu rust.cpu_period_ns memory time) t
rust_run (refill i time) t = rust_changed rust_renewed i (λ a. rust.refill a time) (at t i) t
rust_run (charge_cpu i ns time) t = rust_changed rust_charged i (λ a. rust.charge_cpu a ns time) (at t i) t
rust_run (charge_memory i bytes) t = rust_changed rust_done i (λ a. rust.charge_memory a bytes) (at t i) t
rust_run (release_memory i bytes) t = rust_changed rust_done i (λ a. rust.release_memory a bytes) (at t i) t
rust_run (carve_out i cpu memory time) t = rust_carved_from i cpu memory time (at t i) t
rust_run (release_child i child) t = rust_returned_to i child (at t i) (at t child) t

-- Lists: the reply to each operation, each on what the last one left.

abbrev pub replies : List Operation → Places Account → List (Reply Account)
replies [] t = []
replies (o ∷ os) t = run o t ∷ replies os (run o t).after

abbrev pub rust_replies : List Operation → Places Budget → List (Reply Budget)
rust_replies [] t = []
rust_replies (o ∷ os) t = rust_run o t ∷ rust_replies os (rust_run o t).after

-- what the caller holds after the list
abbrev pub after : List Operation → Places Account → Places Account
after [] t = t
after (o ∷ os) t = after os (run o t).after

-- the Rust's budgets as accounts: identities go
abbrev pub seen : Option Budget → Option Account
seen None = None
seen (Some b) = Some b.figures

abbrev pub all_seen : Places Budget → Places Account
all_seen t = map seen t

abbrev pub reply_seen : Reply Budget → Reply Account
reply_seen r = record { answer = r.answer; after = all_seen r.after }

-- A child is returned to the account that it was carved out of. Another's child the Rust refuses, and document 01's account accepts it where its limits fit:
-- "whose child it is, it can't see".

abbrev pub is_own : (i : ℕ) → Option Budget → Bool
is_own i None = true
is_own i (Some c) = own i c.parent_id

abbrev pub returns_own : Operation → Places Budget → Bool
returns_own (open_account cpu memory time) t = true
returns_own (refill i time) t = true
returns_own (charge_cpu i ns time) t = true
returns_own (charge_memory i bytes) t = true
returns_own (release_memory i bytes) t = true
returns_own (carve_out i cpu memory time) t = true
returns_own (release_child i child) t = is_own i (at t child)

abbrev pub AllReturnOwn : List Operation → Places Budget → Type 0
AllReturnOwn [] t = Unit {0}
AllReturnOwn (o ∷ os) t = (returns_own o t ≡ true) × AllReturnOwn os (rust_run o t).after

-- an answer that 01 marks as added: 1. "There 2 and 11 are the Rust's own errors"
abbrev pub is_added : Option Answer → Bool
is_added None = false
is_added (Some r) = eqb (number r) 1

abbrev pub NoneAdded : List Operation → Places Account → Type 0
NoneAdded [] t = Unit {0}
NoneAdded (o ∷ os) t = (is_added (run o t).answer ≡ false) × NoneAdded os (run o t).after

-- every account held passes question 1
abbrev pub AllSound : Places Account → Type 0
AllSound [] = Unit {0}
AllSound (None ∷ t) = AllSound t
AllSound (Some a ∷ t) = (sound a ≡ true) × AllSound t
