-- Demand 2 for accounts alone: for every list of operations, each child returned to its own parent, every answer and every account are the Rust's after each
-- operation, and no refusal is added. The lent forms answer and leave the same. Assumes nothing.
use Rattle.std.specs.Prelude.{◌≡◌, refl, Bool, true, false, List, [], ◌∷◌, map, ℕ, zero, suc, set, Result, Ok, Err, Option, Some, None}
use Rattle.std.proofs.Common.{ap, ◌∙◌, sym, eq-eqb}
use Rattle.std.proofs.lemmas.List.{map-append}
use Rattle.std.proofs.Math.ListN.{get_or-map}
use Rattle.carv_budget.specs.declared.Account.{Account}
use Rattle.carv_budget.specs.declared.BudgetError.{BudgetError}
use Rattle.carv_budget.specs.declared.BudgetError.TheVariants.{CpuBudgetExceedsPeriod, MemoryUnderflow, CpuLimitReached, MemoryLimitReached, CpuLimitExceeded, MemoryLimitExceeded, ReservationUnderflow}
use Rattle.carv_budget.specs.declared.Outcome.{Outcome}
use Rattle.carv_budget.specs.Account as account
use Rattle.carv_budget.specs.Account.{period, sound, outcome, Lent}
use Rattle.carv_budget.specs.Rust as rust
use Rattle.carv_budget.specs.Rust.{zero_period, cpu_budget_exceeds_period, cpu_limit_exceeded, memory_limit_exceeded, memory_limit_reached, memory_underflow, reservation_underflow, ok, err}
use Rattle.carv_budget.specs.Replies.{error, answer, charged, refill_of, charge_of, outcome_of}
use Rattle.carv_budget.specs.Runs.{Operation, open_account, refill, charge_cpu, charge_memory, release_memory, carve_out, release_child, Places, at, put, take, add, Answer, done, renewed, not_due, refused, number, plain, renewal, said, Reply, answered, Budget, budget, opened, changed, carved, carved_from, returned, returned_to, run, rust_renewed, rust_charged, rust_done, rust_opened, rust_changed, rust_carved, rust_carved_from, rust_returned, rust_returned_to, rust_run, replies, rust_replies, after, seen, all_seen, reply_seen, is_own, returns_own, AllReturnOwn, is_added, NoneAdded, AllSound}
use Rattle.carv_budget.proofs.Laws.Refines as refines
use Rattle.carv_budget.proofs.Laws.RunsSound.{SoundAt, at_sound, run_kept, kept}

-- Places with and without identities.

at_seen : (t : Places Budget) (i : ℕ) → at (all_seen t) i ≡ seen (at t i)
at_seen t i = get_or-map seen t i None

set_seen : (t : Places Budget) (i : ℕ) (x : Option Budget) → set (all_seen t) i (seen x) ≡ all_seen (set t i x)
set_seen [] i x = refl
set_seen (y ∷ t) zero x = refl
set_seen (y ∷ t) (suc i) x = ap (λ (l : Places Account). seen y ∷ l) (set_seen t i x)

add_seen : (t : Places Budget) (b : Budget) → add b.figures (all_seen t) ≡ all_seen (add b t)
add_seen t b = sym (map-append seen t (Some b ∷ []))

-- Soundness, place by place.

seen_sound : (t : Places Budget) (i : ℕ) → AllSound (all_seen t) → SoundAt (seen (at t i))
seen_sound t i s = rw (at_seen t i) at (at_sound (all_seen t) i s)

-- from none held
pub all_sound : (os : List Operation) → AllSound (after os [])
all_sound os = kept os [] tt

-- One operation: the Rust's, on sound accounts, a child going to its own parent.

opened_rust : (r : rust.Result Account) (t : Places Budget) → opened (answer r) (all_seen t) ≡ reply_seen (rust_opened r t)
opened_rust (ok a) t = rw (add_seen t (budget None a))
opened_rust (err e) t = refl

renewed_rust : (b : Bool) → renewal b ≡ rust_renewed b
renewed_rust true = refl
renewed_rust false = refl

charged_rust : (b : Bool) → said plain (charged b) ≡ rust_charged b
charged_rust true = refl
charged_rust false = refl

done_rust : (r : rust.Result (Unit {0})) → said plain (answer r) ≡ rust_done r
done_rust (ok u) = refl
done_rust (err e) = refl

changed_rust : {T R : Type 0} (say : T → Answer) (says : R → Answer) (i : ℕ) (f : Account → Outcome T) (g : Account → rust.Call R) (of : rust.Call R → Outcome T)
    → ((r : rust.Call R) → (said say (of r).answer ≡ says r.result) × ((of r).account ≡ r.self)) → ((a : Account) → sound a ≡ true → f a ≡ of (g a))
    → (x : Option Budget) (t : Places Budget) → SoundAt (seen x) → changed say i f (seen x) (all_seen t) ≡ reply_seen (rust_changed says i g x t)
changed_rust say says i f g of w h None t p = refl
changed_rust {T = T} {R = R} say says i f g of w h (Some b) t p =
    let r : rust.Call R = g b.figures in
    ap (λ (o : Outcome T). answered (said say o.answer) (put i o.account (all_seen t))) (h b.figures p)
    ∙ ap (λ (x : Answer). answered x (put i (of r).account (all_seen t))) (w r).0
    ∙ ap (λ (a : Account). answered (says r.result) (put i a (all_seen t))) (w r).1
    ∙ ap (λ (l : Places Account). answered (says r.result) l) (set_seen t i (Some (budget b.parent_id r.self)))

refill_changed : (r : rust.Call Bool) → (said renewal (refill_of r).answer ≡ rust_renewed r.result) × ((refill_of r).account ≡ r.self)
refill_changed r = (renewed_rust r.result, refl)

charge_changed : (r : rust.Call Bool) → (said plain (charge_of r).answer ≡ rust_charged r.result) × ((charge_of r).account ≡ r.self)
charge_changed r = (charged_rust r.result, refl)

memory_changed : (r : rust.Call (rust.Result (Unit {0}))) → (said plain (outcome_of r).answer ≡ rust_done r.result) × ((outcome_of r).account ≡ r.self)
memory_changed r = (done_rust r.result, refl)

carved_rust : (i : ℕ) (self : Budget) (r : rust.Result Account) (t : Places Budget)
    → carved i self.figures (answer r) (all_seen t) ≡ reply_seen (rust_carved i self r t)
carved_rust i self (ok child) t = rw (← add_seen (put i self t) (budget (Some i) child), ← set_seen t i (Some self))
carved_rust i self (err e) t = rw (← set_seen t i (Some self))

carved_from_rust : (i cpu memory time : ℕ) (x : Option Budget) (t : Places Budget) → SoundAt (seen x)
    → carved_from i cpu memory time (seen x) (all_seen t) ≡ reply_seen (rust_carved_from i cpu memory time x t)
carved_from_rust i cpu memory time None t p = refl
carved_from_rust i cpu memory time (Some b) t p =
    let r : rust.Call (rust.Result Account) = rust.carve_out b.figures cpu memory time in
    ap (λ (c : Outcome Account). carved i c.account c.answer (all_seen t)) (refines.carve_out_rust b.figures cpu memory time p)
    ∙ carved_rust i (budget b.parent_id r.self) r.result t

returned_rust : (i child : ℕ) (self : Budget) (r : rust.Result (Unit {0})) (t : Places Budget)
    → returned i child self.figures (answer r) (all_seen t) ≡ reply_seen (rust_returned i child self r t)
returned_rust i child self (ok u) t = rw (set_seen t child None, ← set_seen (take child t) i (Some self))
returned_rust i child self (err e) t = rw (← set_seen t i (Some self))

returned_to_rust : (i child : ℕ) (x y : Option Budget) (t : Places Budget) → SoundAt (seen x) → SoundAt (seen y) → is_own i y ≡ true
    → returned_to i child (seen x) (seen y) (all_seen t) ≡ reply_seen (rust_returned_to i child x y t)
returned_to_rust i child None y t p q o = refl
returned_to_rust i child (Some b) None t p q o = refl
returned_to_rust i child (Some b) (Some c) t p q o =
    let r : rust.Call (rust.Result (Unit {0})) = rust.release_child true b.figures c.figures in
    rw o
    (ap (λ (z : Outcome (Unit {0})). returned i child z.account z.answer (all_seen t)) (refines.release_child_rust b.figures c.figures p q)
    ∙ returned_rust i child (budget b.parent_id r.self) r.result t)

pub run_rust : (o : Operation) (t : Places Budget) → AllSound (all_seen t) → returns_own o t ≡ true → run o (all_seen t) ≡ reply_seen (rust_run o t)
run_rust (open_account cpu memory time) t s w =
    ap (λ (r : Result Account BudgetError). opened r (all_seen t)) (refines.open_account_rust cpu memory time) ∙ opened_rust (rust.new cpu period memory time) t
run_rust (refill i time) t s w = rw (at_seen t i) (changed_rust renewal rust_renewed i _ _ refill_of refill_changed (λ a. refines.refill_rust a time) (at t i) t (seen_sound t i s))
run_rust (charge_cpu i ns time) t s w = rw (at_seen t i) (changed_rust plain rust_charged i _ _ charge_of charge_changed (λ a. refines.charge_cpu_rust a ns time) (at t i) t (seen_sound t i s))
run_rust (charge_memory i bytes) t s w = rw (at_seen t i) (changed_rust plain rust_done i _ _ outcome_of memory_changed (λ a. refines.charge_memory_rust a bytes) (at t i) t (seen_sound t i s))
run_rust (release_memory i bytes) t s w = rw (at_seen t i) (changed_rust plain rust_done i _ _ outcome_of memory_changed (λ a. refines.release_memory_rust a bytes) (at t i) t (seen_sound t i s))
run_rust (carve_out i cpu memory time) t s w = rw (at_seen t i) (carved_from_rust i cpu memory time (at t i) t (seen_sound t i s))
run_rust (release_child i child) t s w =
    rw (at_seen t i, at_seen t child)
    (returned_to_rust i child (at t i) (at t child) t (seen_sound t i s) (seen_sound t child s) w)

pub replies_rust : (os : List Operation) (t : Places Budget) → AllSound (all_seen t) → AllReturnOwn os t → replies os (all_seen t) ≡ map reply_seen (rust_replies os t)
replies_rust [] t s w = refl
replies_rust (o ∷ os) t s w =
    let e : run o (all_seen t) ≡ reply_seen (rust_run o t) = run_rust o t s w.0 in
    let k : AllSound (all_seen (rust_run o t).after) = rw e at (run_kept o (all_seen t) s) in
    ap (λ (r : Reply Account). r ∷ replies os r.after) e
    ∙ ap (λ (l : List (Reply Account)). reply_seen (rust_run o t) ∷ l) (replies_rust os (rust_run o t).after k w.1)

-- Demand 2 for accounts alone.
pub demand2 : (os : List Operation) → AllReturnOwn os [] → replies os [] ≡ map reply_seen (rust_replies os [])
demand2 os w = replies_rust os [] tt w

-- An answer's number is that of the result that it tells: the code's.

said_number : {T : Type 0} (say : T → Answer) → ((x : T) → number (say x) ≡ 0) → (r : Result T BudgetError) → number (said say r) ≡ account.number_of r
said_number say h (Ok x) = h x
said_number say h (Err e) = refl

renewal_number : (b : Bool) → number (renewal b) ≡ 0
renewal_number true = refl
renewal_number false = refl

pub renewal_told : (r : Result Bool BudgetError) → number (said renewal r) ≡ account.number_of r
renewal_told r = said_number renewal renewal_number r

pub plain_told : (r : Result (Unit {0}) BudgetError) → number (said plain r) ≡ account.number_of r
plain_told r = said_number plain (λ u. refl) r

-- So no refusal is added along the way, whoever's child is returned: the Rust's answers have other numbers than 1.

abbrev NotAdded : Answer → Type 0
NotAdded r = is_added (Some r) ≡ false

error_not_added : (e : rust.BudgetError) → NotAdded (refused (error e))
error_not_added zero_period = refl
error_not_added cpu_budget_exceeds_period = refl
error_not_added cpu_limit_exceeded = refl
error_not_added memory_limit_exceeded = refl
error_not_added memory_limit_reached = refl
error_not_added memory_underflow = refl
error_not_added reservation_underflow = refl

opened_not_added : (r : rust.Result Account) (t : Places Account) → is_added (opened (answer r) t).answer ≡ false
opened_not_added (ok a) t = refl
opened_not_added (err e) t = error_not_added e

renewal_not_added : (b : Bool) → NotAdded (renewal b)
renewal_not_added true = refl
renewal_not_added false = refl

charged_not_added : (b : Bool) → NotAdded (said plain (charged b))
charged_not_added true = refl
charged_not_added false = refl

answer_not_added : (r : rust.Result (Unit {0})) → NotAdded (said plain (answer r))
answer_not_added (ok a) = refl
answer_not_added (err e) = error_not_added e

changed_not_added : {T : Type 0} (say : T → Answer) (i : ℕ) (f : Account → Outcome T) → ((a : Account) → sound a ≡ true → NotAdded (said say (f a).answer))
    → (x : Option Account) (t : Places Account) → SoundAt x → is_added (changed say i f x t).answer ≡ false
changed_not_added say i f h None t p = refl
changed_not_added say i f h (Some a) t p = h a p

carve_not_added : (i : ℕ) (parent : Account) (r : rust.Result Account) (t : Places Account) → is_added (carved i parent (answer r) t).answer ≡ false
carve_not_added i parent (ok c) t = refl
carve_not_added i parent (err e) t = error_not_added e

return_not_added : (i child : ℕ) (parent : Account) (r : rust.Result (Unit {0})) (t : Places Account) → is_added (returned i child parent (answer r) t).answer ≡ false
return_not_added i child parent (ok u) t = refl
return_not_added i child parent (err e) t = error_not_added e

carved_not_added : (i cpu memory time : ℕ) (x : Option Account) (t : Places Account) → SoundAt x → is_added (carved_from i cpu memory time x t).answer ≡ false
carved_not_added i cpu memory time None t p = refl
carved_not_added i cpu memory time (Some a) t p =
    rw (refines.carve_out_rust a cpu memory time p) (carve_not_added i _ (rust.carve_out a cpu memory time).result t)

returned_not_added : (i child : ℕ) (x y : Option Account) (t : Places Account) → SoundAt x → SoundAt y → is_added (returned_to i child x y t).answer ≡ false
returned_not_added i child None y t p q = refl
returned_not_added i child (Some a) None t p q = refl
returned_not_added i child (Some a) (Some c) t p q =
    rw (refines.release_child_rust a c p q) (return_not_added i child _ (rust.release_child true a c).result t)

run_not_added : (o : Operation) (t : Places Account) → AllSound t → is_added (run o t).answer ≡ false
run_not_added (open_account cpu memory time) t s = rw (refines.open_account_rust cpu memory time) (opened_not_added (rust.new cpu period memory time) t)
run_not_added (refill i time) t s =
    changed_not_added renewal i (λ a. account.refill a time) (λ a p. rw (refines.refill_rust a time p) (renewal_not_added (rust.refill a time).result)) (at t i) t (at_sound t i s)
run_not_added (charge_cpu i ns time) t s =
    changed_not_added plain i (λ a. account.charge_cpu a ns time) (λ a p. rw (refines.charge_cpu_rust a ns time p) (charged_not_added (rust.charge_cpu a ns time).result)) (at t i) t (at_sound t i s)
run_not_added (charge_memory i bytes) t s =
    changed_not_added plain i (λ a. account.charge_memory a bytes) (λ a p. rw (refines.charge_memory_rust a bytes p) (answer_not_added (rust.charge_memory a bytes).result)) (at t i) t (at_sound t i s)
run_not_added (release_memory i bytes) t s =
    changed_not_added plain i (λ a. account.release_memory a bytes) (λ a p. rw (refines.release_memory_rust a bytes p) (answer_not_added (rust.release_memory a bytes).result)) (at t i) t (at_sound t i s)
run_not_added (carve_out i cpu memory time) t s = carved_not_added i cpu memory time (at t i) t (at_sound t i s)
run_not_added (release_child i child) t s = returned_not_added i child (at t i) (at t child) t (at_sound t i s) (at_sound t child s)

not_added : (os : List Operation) (t : Places Account) → AllSound t → NoneAdded os t
not_added [] t s = tt
not_added (o ∷ os) t s = (run_not_added o t s, not_added os (run o t).after (run_kept o t s))

pub none_added : (os : List Operation) → NoneAdded os []
none_added os = not_added os [] tt

-- The lent forms, by their contracts: on a sound account they are the Rust's methods, which take `&mut self`.

lent_is : {T : Type 0} (r : Outcome T) (exit : Account) (said : Result T BudgetError) → Lent r exit said → outcome said exit ≡ r
lent_is r exit said h = rw (h.0, h.1)

pub refill_lent_rust : (entry exit : Account) (time : ℕ) (said : Result Bool BudgetError) → sound entry ≡ true → Lent (account.refill entry time) exit said
    → outcome said exit ≡ refill_of (rust.refill entry time)
refill_lent_rust entry exit time said p h = lent_is _ exit said h ∙ refines.refill_rust entry time p

pub charge_cpu_lent_rust : (entry exit : Account) (ns time : ℕ) (said : Result (Unit {0}) BudgetError) → sound entry ≡ true
    → Lent (account.charge_cpu entry ns time) exit said → outcome said exit ≡ charge_of (rust.charge_cpu entry ns time)
charge_cpu_lent_rust entry exit ns time said p h = lent_is _ exit said h ∙ refines.charge_cpu_rust entry ns time p

-- A caller may lend the account at a place instead: the reply is the operation's, so the lists above are also those with lent accounts.

pub refill_lent_run : (i time : ℕ) (t : Places Account) (entry exit : Account) (r : Result Bool BudgetError) → at t i ≡ Some entry
    → Lent (account.refill entry time) exit r → answered (said renewal r) (put i exit t) ≡ run (refill i time) t
refill_lent_run i time t entry exit r e h = rw (e, h.0, h.1)

pub charge_cpu_lent_run : (i ns time : ℕ) (t : Places Account) (entry exit : Account) (r : Result (Unit {0}) BudgetError) → at t i ≡ Some entry
    → Lent (account.charge_cpu entry ns time) exit r → answered (said plain r) (put i exit t) ≡ run (charge_cpu i ns time) t
charge_cpu_lent_run i ns time t entry exit r e h = rw (e, h.0, h.1)

-- Which lists these are. Of the operations other than the return of a child nothing is asked; a child may go to the account that it was carved out of, and from an
-- empty place nothing goes anywhere.

module _ (t : Places Budget) where
  pub open_account_own : (cpu memory time : ℕ) → returns_own (open_account cpu memory time) t ≡ true
  open_account_own cpu memory time = refl

  pub refill_own : (i time : ℕ) → returns_own (refill i time) t ≡ true
  refill_own i time = refl

  pub charge_cpu_own : (i ns time : ℕ) → returns_own (charge_cpu i ns time) t ≡ true
  charge_cpu_own i ns time = refl

  pub charge_memory_own : (i bytes : ℕ) → returns_own (charge_memory i bytes) t ≡ true
  charge_memory_own i bytes = refl

  pub release_memory_own : (i bytes : ℕ) → returns_own (release_memory i bytes) t ≡ true
  release_memory_own i bytes = refl

  pub carve_out_own : (i cpu memory time : ℕ) → returns_own (carve_out i cpu memory time) t ≡ true
  carve_out_own i cpu memory time = refl

  pub release_child_own : (i child : ℕ) (a : Account) → at t child ≡ Some (budget (Some i) a) → returns_own (release_child i child) t ≡ true
  release_child_own i child a h = rw h (eq-eqb i i refl)

  pub release_none_own : (i child : ℕ) → at t child ≡ None → returns_own (release_child i child) t ≡ true
  release_none_own i child h = rw h

-- A list of all seven operations, which meets every answer that the Rust has, and so the numbers 0, 2, 11, 12 and 15; at the end place 1 is empty.

abbrev pub every : List Operation
every =
    open_account 10_000_001 1_000_000 0 ∷ open_account 10_000_000 1_000_000 0
    ∷ charge_memory 0 4_096 ∷ charge_memory 0 1_000_000 ∷ release_memory 0 4_097 ∷ release_memory 0 96
    ∷ carve_out 0 4_000_000 8_192 0 ∷ carve_out 0 6_000_001 0 0 ∷ carve_out 0 0 1_000_000 0
    ∷ charge_cpu 0 6_000_000 0 ∷ charge_cpu 0 1 0 ∷ refill 0 9_999_999 ∷ refill 0 25_000_000
    ∷ charge_memory 1 1 ∷ release_child 0 1 ∷ release_memory 1 1 ∷ release_child 0 1 ∷ refill 1 25_000_000 ∷ []

abbrev pub every_answer : List (Option Answer)
every_answer =
    Some (refused CpuBudgetExceedsPeriod) ∷ Some done
    ∷ Some done ∷ Some (refused MemoryLimitReached) ∷ Some (refused MemoryUnderflow) ∷ Some done
    ∷ Some done ∷ Some (refused CpuLimitExceeded) ∷ Some (refused MemoryLimitExceeded)
    ∷ Some done ∷ Some (refused CpuLimitReached) ∷ Some not_due ∷ Some renewed
    ∷ Some done ∷ Some (refused ReservationUnderflow) ∷ Some done ∷ Some done ∷ None ∷ []

abbrev number_of : Option Answer → Option ℕ
number_of None = None
number_of (Some r) = Some (number r)

pub every_own : AllReturnOwn every []
unfolding rust.refill rust.charge_cpu_refilled rust.charge_memory rust.release_memory rust.carve_out_refilled rust.release_child
every_own =
    (refl, (refl, (refl, (refl, (refl, (refl, (refl, (refl, (refl, (refl, (refl, (refl, (refl, (refl, (refl, (refl, (refl, (refl, tt))))))))))))))))))

pub every_answers : map (λ r. r.answer) (replies every []) ≡ every_answer
unfolding sound account.due account.renew account.spent account.carved account.returnable
every_answers = refl

pub every_rust_answers : map (λ r. r.answer) (rust_replies every []) ≡ every_answer
unfolding rust.refill rust.charge_cpu_refilled rust.charge_memory rust.release_memory rust.carve_out_refilled rust.release_child
every_rust_answers = refl

pub every_number : map number_of every_answer
    ≡ Some 2 ∷ Some 0 ∷ Some 0 ∷ Some 12 ∷ Some 11 ∷ Some 0 ∷ Some 0 ∷ Some 12 ∷ Some 12 ∷ Some 0 ∷ Some 12 ∷ Some 0 ∷ Some 0
    ∷ Some 0 ∷ Some 15 ∷ Some 0 ∷ Some 0 ∷ None ∷ []
every_number = refl

-- A child carved and returned to its parent is such a list; its place is then empty, and nothing can be returned from it again.

abbrev carve_and_return : List Operation
carve_and_return = open_account 10_000_000 1_000_000 0 ∷ carve_out 0 4_000_000 8_192 0 ∷ release_child 0 1 ∷ release_child 0 1 ∷ []

pub carve_and_return_own : AllReturnOwn carve_and_return []
unfolding rust.carve_out_refilled rust.refill rust.release_child
carve_and_return_own = (refl, (refl, (refl, (refl, tt))))

pub carve_and_return_answers : map (λ r. r.answer) (replies carve_and_return []) ≡ Some done ∷ Some done ∷ Some done ∷ None ∷ []
unfolding sound account.due account.renew account.carved account.returnable
carve_and_return_answers = refl

-- A child of account 0 is returned to account 1: here the two differ, so that this has to be asked of the lists.

abbrev foreign : List Operation
foreign = open_account 10_000_000 1_000_000 0 ∷ open_account 10_000_000 1_000_000 0 ∷ carve_out 0 0 0 0 ∷ release_child 1 2 ∷ []

pub foreign_answers : map (λ r. r.answer) (replies foreign []) ≡ Some done ∷ Some done ∷ Some done ∷ Some done ∷ []
unfolding sound account.due account.renew account.carved account.returnable
foreign_answers = refl

pub foreign_rust_answers : map (λ r. r.answer) (rust_replies foreign []) ≡ Some done ∷ Some done ∷ Some done ∷ Some (refused ReservationUnderflow) ∷ []
unfolding rust.carve_out_refilled rust.refill rust.release_child
foreign_rust_answers = refl
