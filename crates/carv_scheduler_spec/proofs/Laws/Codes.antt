-- The codes of specs/Codes.antt: the words of a record are listed and say it, listed words are those of what they say, and, written out, what is listed and what is not.
-- Assumes nothing.
use Rattle.std.specs.Prelude.{◌≡◌, refl, Bool, true, false, cond, ◌&&◌, ℕ, zero, suc, ◌<◌, ◌≤◌, eqb, leb, Option, Some, None, is_none}
use Rattle.std.proofs.Common.{sym, ap, ◌∙◌, subst, arith, eqb-true, leb-true}
use Rattle.std.proofs.lemmas.Bool.{false≢true, eqb-false, ne_eqb}
use Rattle.carv_area.specs.Laws.Table.{test}
use Rattle.carv_budget.proofs.Laws.Account.{first, second}
use Rattle.carv_scheduler_spec.specs.declared.Wait.{Wait}
use Rattle.carv_scheduler_spec.specs.declared.Wait.TheVariants.{Send, Recv, Reply, Notification, Sleep}
use Rattle.carv_scheduler_spec.specs.declared.State.{State}
use Rattle.carv_scheduler_spec.specs.declared.State.TheVariants.{Inactive, Ready, Running, Blocked, Dead}
use Rattle.carv_scheduler_spec.specs.declared.Spaces.{Spaces}
use Rattle.carv_scheduler_spec.specs.declared.Cause.{Cause}
use Rattle.carv_scheduler_spec.specs.declared.Cause.TheVariants.{Destroyed, Faulted}
use Rattle.carv_scheduler_spec.specs.Scheduler.{inactive, ready, running, dead, wait_listed, cause_listed, wait, kind_of, number_of, due, cause_of}
use Rattle.carv_scheduler_spec.specs.Codes.{is_word, state_word, kind_word, number_word, id_word, space_word, cspace_word, root_word, cause_word, state_from, budget_from, spaces_from, state_listed, budget_listed, spaces_listed, exit_listed, NamedWait, NamedCause}

-- The words of a record are listed, and say it.

pub kind_is_listed : (w : Wait) → wait_listed (kind_of w) ≡ true
kind_is_listed (Send n) = refl
kind_is_listed (Recv n) = refl
kind_is_listed (Reply n) = refl
kind_is_listed (Notification n) = refl
kind_is_listed (Sleep n) = refl

pub wait_back : (w : Wait) → wait (kind_of w) (number_of w) ≡ w
wait_back (Send n) = refl
wait_back (Recv n) = refl
wait_back (Reply n) = refl
wait_back (Notification n) = refl
wait_back (Sleep n) = refl

pub state_is_listed : (x : State) → state_listed (state_word x) (kind_word x) (number_word x) ≡ true
state_is_listed Inactive = refl
state_is_listed Ready = refl
state_is_listed Running = refl
state_is_listed (Blocked w) = kind_is_listed w
state_is_listed Dead = refl

pub state_back : (x : State) → state_from (state_word x) (kind_word x) (number_word x) ≡ x
state_back Inactive = refl
state_back Ready = refl
state_back Running = refl
state_back (Blocked w) = rw (wait_back w)
state_back Dead = refl

pub budget_is_listed : (p : Option ℕ) → budget_listed (is_word p) (id_word p) ≡ true
budget_is_listed None = refl
budget_is_listed (Some i) = refl

pub budget_back : (p : Option ℕ) → budget_from (is_word p) (id_word p) ≡ p
budget_back None = refl
budget_back (Some i) = refl

pub spaces_are_listed : (s : Option Spaces) → spaces_listed (is_word s) (space_word s) (cspace_word s) (root_word s) ≡ true
spaces_are_listed None = refl
spaces_are_listed (Some s) = refl

pub spaces_back : (s : Option Spaces) → spaces_from (is_word s) (space_word s) (cspace_word s) (root_word s) ≡ s
spaces_back None = refl
spaces_back (Some s) = refl

pub cause_is_listed : (c : Cause) → exit_listed (cause_word c) ≡ true
cause_is_listed Destroyed = refl
cause_is_listed Faulted = refl

pub cause_code_is_listed : (c : Cause) → cause_listed (cause_word c) ≡ true
cause_code_is_listed Destroyed = refl
cause_code_is_listed Faulted = refl

pub cause_back : (c : Cause) → cause_of (cause_word c) ≡ c
cause_back Destroyed = refl
cause_back Faulted = refl

-- what holds of the five codes of a wait's kind, or of a state, holds of each that is listed
five : (P : ℕ → Type 0) → P 1 → P 2 → P 3 → P 4 → P 5 → (k : ℕ) → (leb 1 k && leb k 5) ≡ true → P k
five P p1 p2 p3 p4 p5 zero h = absurd (false≢true h)
five P p1 p2 p3 p4 p5 (suc zero) h = p1
five P p1 p2 p3 p4 p5 (suc (suc zero)) h = p2
five P p1 p2 p3 p4 p5 (suc (suc (suc zero))) h = p3
five P p1 p2 p3 p4 p5 (suc (suc (suc (suc zero)))) h = p4
five P p1 p2 p3 p4 p5 (suc (suc (suc (suc (suc zero))))) h = p5
five P p1 p2 p3 p4 p5 (suc (suc (suc (suc (suc (suc k)))))) h = absurd (sixth (suc (suc (suc (suc (suc (suc k)))))) (omega arith) h)
  where
    sixth : (k : ℕ) → 5 < k → (leb 1 k && leb k 5) ≡ true → ⊥
    sixth k low h = let high = leb-true k 5 (second (leb 1 k) (leb k 5) h) in omega arith

-- a wait has the kind that it was made of, if that is listed, and its number
pub kind_same : (kind number : ℕ) → wait_listed kind ≡ true → kind_of (wait kind number) ≡ kind
kind_same k n = five (λ k. kind_of (wait k n) ≡ k) refl refl refl refl refl k

pub number_same : (kind number : ℕ) → number_of (wait kind number) ≡ number
number_same k n = test (eqb k 1) (λ a. rw a) (λ a. test (eqb k 2) (λ c. rw (a, c)) (λ c. test (eqb k 3) (λ d. rw (a, c, d)) (λ d.
    test (eqb k 4) (λ e. rw (a, c, d, e)) (λ e. test (eqb k 5) (λ f. rw (a, c, d, e, f)) (λ f. rw (a, c, d, e, f))))))

-- a wait is due if its kind is 5 and its tick has come, and at no other kind, listed or not
pub due_code : (n kind number : ℕ) → due n (Some (wait kind number)) ≡ (eqb kind 5 && leb number n)
due_code n k number = test (eqb k 5) (λ f. rw (eqb-true k 5 f)) (λ f. rw f (none (eqb k 1) (eqb k 2) (eqb k 3) (eqb k 4)))
  where
    none : (a b c d : Bool) → due n (Some (cond a (Send number) (cond b (Recv number) (cond c (Reply number) (cond d (Notification number) (Send number)))))) ≡ false
    none true b c d = refl
    none false true c d = refl
    none false false true d = refl
    none false false false true = refl
    none false false false false = refl

-- so that no tick wakes a wait of a kind that isn't listed
pub unlisted_not_due : (n kind number : ℕ) → wait_listed kind ≡ false → due n (Some (wait kind number)) ≡ false
unlisted_not_due n k number h = due_code n k number ∙ ap (λ (b : Bool). b && leb number n) (ne_eqb k 5 (λ q. false≢true (sym h ∙ ap wait_listed q)))

-- What a code names: a listed one names a wait, or a cause, another none.

module _ (k n : ℕ) (o : Option Wait) (d : NamedWait k n o) where
  pub wait_unlisted : o ≡ None → wait_listed k ≡ false
  wait_unlisted e = subst (NamedWait k n) e d

  module _ (w : Wait) (e : o ≡ Some w) where
    names : NamedWait k n (Some w)
    names = subst (NamedWait k n) e d

    pub wait_known : wait_listed k ≡ true
    wait_known = ap wait_listed (sym names.0) ∙ kind_is_listed w

    pub wait_named : w ≡ wait k n
    wait_named = sym (wait_back w) ∙ ap (λ (x : ℕ). wait x (number_of w)) names.0 ∙ ap (wait k) names.1

module _ (n : ℕ) (o : Option Cause) (d : NamedCause n o) where
  pub cause_unlisted : o ≡ None → cause_listed n ≡ false
  cause_unlisted e = subst (NamedCause n) e d

  module _ (c : Cause) (e : o ≡ Some c) where
    pub cause_known : cause_listed n ≡ true
    cause_known = ap cause_listed (sym (subst (NamedCause n) e d)) ∙ cause_code_is_listed c

    pub cause_named : c ≡ cause_of n
    cause_named = sym (cause_back c) ∙ ap cause_of (subst (NamedCause n) e d)

-- What a test of a state asks of the words that say it, whether they are listed or not; a Dead state's are.

module _ (s k n : ℕ) where
  pub inactive_from : inactive (state_from s k n) ≡ eqb s 1
  inactive_from = test (eqb s 1) (λ a. rw a) (λ a. test (eqb s 2) (λ c. rw (a, c)) (λ c. test (eqb s 3) (λ d. rw (a, c, d)) (λ d. test (eqb s 4) (λ e. rw (a, c, d, e)) (λ e. rw (a, c, d, e)))))

  pub ready_from : ready (state_from s k n) ≡ eqb s 2
  ready_from = test (eqb s 1) (λ a. rw (a, eqb-true s 1 a)) (λ a. test (eqb s 2) (λ c. rw (a, c)) (λ c. test (eqb s 3) (λ d. rw (a, c, d)) (λ d. test (eqb s 4) (λ e. rw (a, c, d, e)) (λ e. rw (a, c, d, e)))))

  pub running_from : running (state_from s k n) ≡ eqb s 3
  running_from = test (eqb s 1) (λ a. rw (a, eqb-true s 1 a)) (λ a. test (eqb s 2) (λ c. rw (a, c, eqb-true s 2 c)) (λ c. test (eqb s 3) (λ d. rw (a, c, d)) (λ d. test (eqb s 4) (λ e. rw (a, c, d, e)) (λ e. rw (a, c, d, e)))))

  pub dead_from : (leb 1 s && leb s 5) ≡ true → dead (state_from s k n) ≡ eqb s 5
  dead_from = five (λ s. dead (state_from s k n) ≡ eqb s 5) refl refl refl refl refl s

pub none_from : (f i : ℕ) → is_none (budget_from f i) ≡ eqb f 0
none_from f i = test (eqb f 0) (λ a. rw a) (λ a. rw a)

-- Listed words are those of what they say.

-- the words of a state
pub record SameState (s k n : ℕ) : Type 0 where
  pub state : state_word (state_from s k n) ≡ s
  pub kind : kind_word (state_from s k n) ≡ k
  pub number : number_word (state_from s k n) ≡ n

pub state_same : (s k n : ℕ) → state_listed s k n ≡ true → SameState s k n
state_same s k n h = five same (no_wait 1 refl refl refl) (no_wait 2 refl refl refl) (no_wait 3 refl refl refl)
    (λ w. record { state = refl; kind = kind_same k n w; number = number_same k n }) (no_wait 5 refl refl refl)
    s (first (leb 1 s && leb s 5) _ h) (second (leb 1 s && leb s 5) _ h)
  where
    same : ℕ → Type 0
    same s = cond (eqb s 4) (wait_listed k) (eqb k 0 && eqb n 0) ≡ true → SameState s k n

    no_wait : (s : ℕ) → state_word (state_from s k n) ≡ s → kind_word (state_from s k n) ≡ 0 → number_word (state_from s k n) ≡ 0
        → (eqb k 0 && eqb n 0) ≡ true → SameState s k n
    no_wait s x y z h = record {
      state = x;
      kind = y ∙ sym (eqb-true k 0 (first (eqb k 0) (eqb n 0) h));
      number = z ∙ sym (eqb-true n 0 (second (eqb k 0) (eqb n 0) h));
    }

-- the words of a budget
pub record SameBudget (f i : ℕ) : Type 0 where
  pub is : is_word (budget_from f i) ≡ f
  pub id : id_word (budget_from f i) ≡ i

pub budget_same : (f i : ℕ) → budget_listed f i ≡ true → SameBudget f i
budget_same f i h = test (eqb f 0)
    (λ a. let q = eqb-true f 0 a in rw q (record { is = refl; id = sym (eqb-true i 0 (rw q at h)) }))
    (λ a. let q = eqb-true f 1 (rw a at h) in rw q (record { is = refl; id = refl }))

-- the words of a space
pub record SameSpaces (f x y z : ℕ) : Type 0 where
  pub is : is_word (spaces_from f x y z) ≡ f
  pub space : space_word (spaces_from f x y z) ≡ x
  pub cspace : cspace_word (spaces_from f x y z) ≡ y
  pub root : root_word (spaces_from f x y z) ≡ z

pub spaces_same : (f x y z : ℕ) → spaces_listed f x y z ≡ true → SameSpaces f x y z
spaces_same f x y z h = test (eqb f 0)
    (λ a. let q = eqb-true f 0 a in
    let k : (eqb x 0 && (eqb y 0 && eqb z 0)) ≡ true = rw q at h in
    let l = second (eqb x 0) (eqb y 0 && eqb z 0) k in
    rw q (record {
      is = refl;
      space = sym (eqb-true x 0 (first (eqb x 0) (eqb y 0 && eqb z 0) k));
      cspace = sym (eqb-true y 0 (first (eqb y 0) (eqb z 0) l));
      root = sym (eqb-true z 0 (second (eqb y 0) (eqb z 0) l));
    }))
    (λ a. let q = eqb-true f 1 (rw a at h) in rw q (record { is = refl; space = refl; cspace = refl; root = refl }))

-- the word of a cause
pub cause_same : (cause : ℕ) → exit_listed cause ≡ true → cause_word (cause_of cause) ≡ cause
cause_same c h = test (eqb c 1) (λ a. rw a (sym (eqb-true c 1 a)))
    (λ a. rw a (two c (leb-true 1 c (first (leb 1 c) (leb c 2) h)) (leb-true c 2 (second (leb 1 c) (leb c 2) h)) (eqb-false c 1 a)))
  where
    two : (k : ℕ) → 1 ≤ k → k ≤ 2 → (k ≡ 1 → ⊥) → 2 ≡ k
    two k low high d = omega arith

-- Written out, in the order of docs/LAYOUT.md's words.

pub record Listed : Type 0 where
  -- "state (Inactive, Ready, Running, Blocked, Dead)": 1 to 5
  pub states : (state_word Inactive ≡ 1) × (state_word Ready ≡ 2) × (state_word Running ≡ 3) × (state_word (Blocked (Sleep 3)) ≡ 4) × (state_word Dead ≡ 5)
  pub state_codes : (state_listed 0 0 0 ≡ false) × (state_listed 1 0 0 ≡ true) × (state_listed 2 0 0 ≡ true) × (state_listed 3 0 0 ≡ true)
      × (state_listed 5 0 0 ≡ true) × (state_listed 6 0 0 ≡ false)
  -- "Waits: 1 Send, 2 Recv, 3 Reply, 4 Notification, 5 Sleep, each with a 64-bit number": the wait of a Blocked thread
  pub waits : (wait 1 3 ≡ Send 3) × (wait 2 3 ≡ Recv 3) × (wait 3 3 ≡ Reply 3) × (wait 4 3 ≡ Notification 3) × (wait 5 3 ≡ Sleep 3)
  -- another reads as a send, which no tick wakes
  pub unlisted_waits : (wait 0 3 ≡ Send 3) × (wait 6 3 ≡ Send 3)
  pub wait_codes : (state_listed 4 0 3 ≡ false) × (state_listed 4 1 3 ≡ true) × (state_listed 4 5 3 ≡ true) × (state_listed 4 6 3 ≡ false)
  -- a Ready thread has no wait, nor a wait's number
  pub no_waits : (state_listed 2 5 0 ≡ false) × (state_listed 2 0 3 ≡ false)
  -- whether there is a budget; where there is none, no id
  pub budgets : (budget_listed 1 1 ≡ true) × (budget_listed 2 1 ≡ false) × (budget_listed 0 0 ≡ true) × (budget_listed 0 1 ≡ false)
  -- whether there is a space; where there is none, no space, cspace or root
  pub spaces : (spaces_listed 1 20 30 40 ≡ true) × (spaces_listed 2 20 30 40 ≡ false)
  pub no_spaces : (spaces_listed 0 0 0 0 ≡ true) × (spaces_listed 0 20 0 0 ≡ false) × (spaces_listed 0 0 30 0 ≡ false) × (spaces_listed 0 0 0 40 ≡ false)
  -- "Causes of an end: 1 Destroyed, 2 Faulted": the causes of logged exits
  pub causes : (cause_of 1 ≡ Destroyed) × (cause_of 2 ≡ Faulted)
  pub cause_codes : (exit_listed 0 ≡ false) × (exit_listed 1 ≡ true) × (exit_listed 2 ≡ true) × (exit_listed 3 ≡ false)

pub listed_hold : Listed
listed_hold = record {
  states = (refl, refl, refl, refl, refl);
  state_codes = (refl, refl, refl, refl, refl, refl);
  waits = (refl, refl, refl, refl, refl);
  unlisted_waits = (refl, refl);
  wait_codes = (refl, refl, refl, refl);
  no_waits = (refl, refl);
  budgets = (refl, refl, refl, refl);
  spaces = (refl, refl);
  no_spaces = (refl, refl, refl, refl);
  causes = (refl, refl);
  cause_codes = (refl, refl, refl, refl);
}
