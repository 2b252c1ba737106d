-- Demand 3's lines sentence by sentence, for lists of the registry's calls: each theorem is one clause, with the fields written out, and is drawn from the claims of
-- History.antt. A `line` or `figures` that said less would be refused here. The board's Sentences.antt stands on this file. Assumes nothing.
use Rattle.std.specs.Prelude.{◌≡◌, refl, true, List, ◌∷◌, ℕ, ◌+◌, ◌-◌, ◌≤◌, Option, Some, None}
use Rattle.std.proofs.Common.{sym, ap, subst, ◌∙◌}
use Rattle.std.proofs.lemmas.Bool.{false≢true}
use Rattle.carv_area.specs.Table.{at}
use Rattle.carv_budget.specs.declared.Account.{Account}
use Rattle.carv_objects_spec.specs.declared.kind.Kind.{Kind}
use Rattle.carv_objects_spec.specs.declared.kind.Kind.TheVariants as kinds
use Rattle.carv_objects_spec.specs.declared.kind.Kind.{Kind}
use Rattle.carv_objects_spec.specs.Kinds.{is_budget_kind}
use Rattle.carv_objects_spec.proofs.Laws.Kinds.{kind_told, kind_shown}
use Rattle.carv_objects_spec.specs.declared.Entry.{Entry}
use Rattle.carv_objects_spec.specs.Registry.{Registry, or_missing, is_budget, account_of, opening}
use Rattle.carv_objects_spec.specs.Book as book
use Rattle.carv_objects_spec.specs.Book.{Book, Budget, Figures, Differences, Call, figures, is_live, budget_of}
use Rattle.carv_objects_spec.specs.Runs.{run, after, numbers, write_all, book_after, line}
use Rattle.carv_objects_spec.proofs.Laws.History.{budget_agrees, agrees_differences, after_stands, opening_stands, lines_are_figures, live_are_budgets, equal_lines}

-- The line and the figures.

-- an account's line is a budget's figures, each a true difference
pub record Line (a : Account) (b : Budget) : Type 0 where
  pub memory_used : a.memory_used ≡ b.charged - b.credited
  pub memory_reserved : a.memory_reserved ≡ b.carved_memory - b.returned_memory
  pub cpu_reserved : a.cpu_reserved ≡ b.carved_cpu - b.returned_cpu
  pub cpu_left : a.cpu_left ≡ b.cpu_allowance - b.noted_cpu - b.taken_cpu
  pub credited_charged : b.credited ≤ b.charged
  pub memory_returned_carved : b.returned_memory ≤ b.carved_memory
  pub cpu_returned_carved : b.returned_cpu ≤ b.carved_cpu
  pub cpu_gone_allowed : b.noted_cpu + b.taken_cpu ≤ b.cpu_allowance

-- two accounts have equal lines
pub record SameLine (a a' : Account) : Type 0 where
  pub memory_used : a.memory_used ≡ a'.memory_used
  pub memory_reserved : a.memory_reserved ≡ a'.memory_reserved
  pub cpu_reserved : a.cpu_reserved ≡ a'.cpu_reserved
  pub cpu_left : a.cpu_left ≡ a'.cpu_left

-- the figures of two budgets agree
pub record SameFigures (b b' : Budget) : Type 0 where
  pub memory_used : b.charged - b.credited ≡ b'.charged - b'.credited
  pub memory_reserved : b.carved_memory - b.returned_memory ≡ b'.carved_memory - b'.returned_memory
  pub cpu_reserved : b.carved_cpu - b.returned_cpu ≡ b'.carved_cpu - b'.returned_cpu
  pub cpu_left : b.cpu_allowance - b.noted_cpu - b.taken_cpu ≡ b'.cpu_allowance - b'.noted_cpu - b'.taken_cpu

pub line_told : {a : Account} {b : Budget} → line a ≡ figures b → Differences b → Line a b
line_told e d = record {
  memory_used = ap (λ (f : Figures). f.memory_used) e;
  memory_reserved = ap (λ (f : Figures). f.memory_reserved) e;
  cpu_reserved = ap (λ (f : Figures). f.cpu_reserved) e;
  cpu_left = ap (λ (f : Figures). f.cpu_left) e;
  credited_charged = d.credited_charged;
  memory_returned_carved = d.memory_returned_carved;
  cpu_returned_carved = d.cpu_returned_carved;
  cpu_gone_allowed = d.cpu_gone_allowed;
}

module _ {a a' : Account} where
  pub same_line_told : line a ≡ line a' → SameLine a a'
  same_line_told e = record {
    memory_used = ap (λ (f : Figures). f.memory_used) e;
    memory_reserved = ap (λ (f : Figures). f.memory_reserved) e;
    cpu_reserved = ap (λ (f : Figures). f.cpu_reserved) e;
    cpu_left = ap (λ (f : Figures). f.cpu_left) e;
  }

  pub same_line_shown : SameLine a a' → line a ≡ line a'
  same_line_shown s = λ j. record { memory_used = s.memory_used j; memory_reserved = s.memory_reserved j; cpu_reserved = s.cpu_reserved j; cpu_left = s.cpu_left j }

module _ {b b' : Budget} where
  pub same_figures_told : figures b ≡ figures b' → SameFigures b b'
  same_figures_told e = record {
    memory_used = ap (λ (f : Figures). f.memory_used) e;
    memory_reserved = ap (λ (f : Figures). f.memory_reserved) e;
    cpu_reserved = ap (λ (f : Figures). f.cpu_reserved) e;
    cpu_left = ap (λ (f : Figures). f.cpu_left) e;
  }

  pub same_figures_shown : SameFigures b b' → figures b ≡ figures b'
  same_figures_shown s = λ j. record { memory_used = s.memory_used j; memory_reserved = s.memory_reserved j; cpu_reserved = s.cpu_reserved j; cpu_left = s.cpu_left j }

-- Budget i: its account a in a registry, and b in a book.
pub record Live (r : Registry) (k : Book) (i : ℕ) (a : Account) (b : Budget) : Type 0 where
  pub payer : ℕ
  pub charge : ℕ
  pub in_registry : at r.rows i ≡ Some (record { kind = kinds.Budget; payer = payer; charge = charge; account = a })
  pub in_book : at k.budgets i ≡ Some b

module _ (r : Registry) (k : Book) (i : ℕ) where
  pub is_live_budget : {a : Account} {b : Budget} → Live r k i a b → is_budget r i ≡ true
  is_live_budget L = ap (λ (o : Option Entry). is_budget_kind (or_missing o).kind) L.in_registry

  -- claims on what is read of a budget are claims on what stands there
  pub read_told : (P : Account → Budget → Type 0) {a : Account} {b : Budget} → Live r k i a b → P (account_of r i) (budget_of k i) → P a b
  read_told P {a} {b} L p =
      subst (λ (x : Budget). P a x) (ap book.or_no_budget L.in_book)
      (subst (λ (x : Account). P x (budget_of k i)) (ap (λ (o : Option Entry). (or_missing o).account) L.in_registry) p)

  module _ (same : is_live k i ≡ is_budget r i) where
    -- the entry of a budget, its kind written out
    six_is : (e : Entry) → at r.rows i ≡ Some e → e.kind ≡ kinds.Budget
        → at r.rows i ≡ Some (record { kind = kinds.Budget; payer = e.payer; charge = e.charge; account = e.account })
    six_is e here six = here ∙ ap {B = Option Entry} (λ (x : Kind). Some (record { kind = x; payer = e.payer; charge = e.charge; account = e.account })) six

    -- a budget of the registry is one of the book, and one of the book is one of the registry
    pub live_in_book : (e : Entry) → at r.rows i ≡ Some e → e.kind ≡ kinds.Budget → (b : Budget) × Live r k i e.account b
    live_in_book e here six = go (at k.budgets i) refl
      where
        live : is_live k i ≡ true
        live = same ∙ ap (λ (o : Option Entry). is_budget_kind (or_missing o).kind) here ∙ kind_shown e.kind six

        go : (o : Option Budget) → at k.budgets i ≡ o → (b : Budget) × Live r k i e.account b
        go None q = absurd (false≢true (sym (ap book.is_some q) ∙ live))
        go (Some b) q = (b, record { payer = e.payer; charge = e.charge; in_registry = six_is e here six; in_book = q })

    pub live_in_registry : (b : Budget) → at k.budgets i ≡ Some b → (a : Account) × Live r k i a b
    live_in_registry b here = go (at r.rows i) refl
      where
        live : is_budget r i ≡ true
        live = sym same ∙ ap book.is_some here

        go : (o : Option Entry) → at r.rows i ≡ o → (a : Account) × Live r k i a b
        go None q = absurd (false≢true (sym (ap (λ (o : Option Entry). is_budget_kind (or_missing o).kind) q) ∙ live))
        go (Some e) q =
            let six = kind_told e.kind (sym (ap (λ (o : Option Entry). is_budget_kind (or_missing o).kind) q) ∙ live) in
            (e.account, record { payer = e.payer; charge = e.charge; in_registry = six_is e q six; in_book = here })

-- Lists: each call is made on the registry that the one before left, and the book is written from the call and its refusal number.

pub first_made : (c : Call) (cs : List Call) (r : Registry) → after (c ∷ cs) r ≡ after cs (run c r).after
first_made c cs r = refl

pub first_written : (c : Call) (cs : List Call) (r : Registry) (k : Book)
    → write_all (numbers (c ∷ cs) r) k ≡ write_all (numbers cs (run c r).after) (book.write c (run c r).number k)
first_written c cs r k = refl

pub book_opened : (cs : List Call) (cpu memory : ℕ) → book_after cs cpu memory ≡ write_all (numbers cs (opening cpu memory)) (book.opening cpu memory)
book_opened cs cpu memory = refl

-- "Each live budget's line is the book's four figures", and the live budgets are the same.
module _ (cs : List Call) (cpu memory : ℕ) (h : cpu ≤ 10_000_000) (i : ℕ) where
  pub budget_in_book : (e : Entry) → at (after cs (opening cpu memory)).rows i ≡ Some e → e.kind ≡ kinds.Budget
      → (b : Budget) × Live (after cs (opening cpu memory)) (book_after cs cpu memory) i e.account b
  budget_in_book = live_in_book (after cs (opening cpu memory)) (book_after cs cpu memory) i (live_are_budgets cpu memory h cs i)

  pub budget_in_registry : (b : Budget) → at (book_after cs cpu memory).budgets i ≡ Some b
      → (a : Account) × Live (after cs (opening cpu memory)) (book_after cs cpu memory) i a b
  budget_in_registry = live_in_registry (after cs (opening cpu memory)) (book_after cs cpu memory) i (live_are_budgets cpu memory h cs i)

  pub line_is : {a : Account} {b : Budget} → Live (after cs (opening cpu memory)) (book_after cs cpu memory) i a b → Line a b
  line_is L =
      let r = after cs (opening cpu memory) in
      let k = book_after cs cpu memory in
      let live = is_live_budget r k i L in
      let S = after_stands cs (opening cpu memory) (book.opening cpu memory) (opening_stands cpu memory h) in
      let D = agrees_differences (account_of r i) (budget_of k i) (budget_agrees r k S.follows i live) in
      read_told r k i Line L (line_told (lines_are_figures cpu memory h cs i live) D)

-- "Two lists leave a budget equal lines exactly when these figures agree."
module _ (cs : List Call) (cpu memory : ℕ) (h : cpu ≤ 10_000_000) (cs' : List Call) (cpu' memory' : ℕ) (h' : cpu' ≤ 10_000_000) (i : ℕ) {a a' : Account} {b b' : Budget}
    (L : Live (after cs (opening cpu memory)) (book_after cs cpu memory) i a b) (L' : Live (after cs' (opening cpu' memory')) (book_after cs' cpu' memory') i a' b') where
  pub equal_told : (SameLine a a' → SameFigures b b') × (SameFigures b b' → SameLine a a')
  equal_told =
      let r = after cs (opening cpu memory) in
      let k = book_after cs cpu memory in
      let r' = after cs' (opening cpu' memory') in
      let k' = book_after cs' cpu' memory' in
      let E = equal_lines cpu memory h cs cpu' memory' h' cs' i (is_live_budget r k i L) (is_live_budget r' k' i L') in
      read_told r k i (λ x y. (SameLine x a' → SameFigures y b') × (SameFigures y b' → SameLine x a')) L
      (read_told r' k' i (λ x y. (SameLine (account_of r i) x → SameFigures (budget_of k i) y) × (SameFigures (budget_of k i) y → SameLine (account_of r i) x)) L'
      (λ s. same_figures_told (E.0 (same_line_shown s)), λ s. same_line_told (E.1 (same_figures_shown s))))
