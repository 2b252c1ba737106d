-- Demand 3 is proved: a list of calls is followed on the definitions, by those of its calls that were lent areas of their length. Assumes nothing.
use Rattle.std.specs.Prelude.{◌≡◌, refl, true, false, cond, List, [], ◌∷◌, ◌++◌, ℕ, ◌≤◌, eqb, Some}
use Rattle.std.proofs.Common.{sym, ap, ◌∙◌, subst, arith}
use Rattle.std.proofs.lemmas.Bool.{false≢true}
use Rattle.carv_area.specs.Laws.Table.{test}
use Rattle.carv_budget.specs.Account.{period}
use Rattle.carv_objects_spec.specs.declared.Totals.{Totals}
use Rattle.carv_objects_spec.specs.Reply.{accept, of_totals}
use Rattle.carv_objects_spec.specs.Registry.{RegistryReply, is_budget}
use Rattle.carv_objects_spec.specs.Totals.{totals}
use Rattle.carv_objects_spec.specs.Book as objects
use Rattle.carv_objects_spec.specs.BookTotals.{totals_of}
use Rattle.carv_objects_spec.proofs.Laws.Questions.{read_totals_missing, read_totals_done}
use Rattle.carv_objects_spec.specs.Book.{Differences, is_live, budget_of}
use Rattle.carv_objects.specs.Answer.{number}
use Rattle.carv_scheduler_spec.specs.Scheduler.{Board, BoardReply, opening, of_registry, on_registry}
use Rattle.carv_scheduler.specs.Area.{decode, sound_area, Is}
use Rattle.carv.specs.C.{Opens, Made, Ensures, lent}
use Rattle.carv_scheduler_spec.specs.Book as book
use Rattle.carv_scheduler_spec.specs.Book.{Book, Call, on_objects, create_user_thread, start, block_current, wake, is_blocked_on, kill, tick, plan, read_thread, read_current, read_switches, exit_of, write}
use Rattle.carv_scheduler_spec.specs.Runs.{run, after, numbers, write_all, book_after, AllFit}
use Rattle.carv_scheduler_spec.proofs.Laws.Demand3 as definitions_3
use Rattle.carv_scheduler_spec.specs.Demand3.{board_after, line_of, figures_of, Planned}
use Rattle.carv.specs.Demands.{Ran, last, GivenAs, told, booked, AllWords, Demand3}
use Rattle.carv.proofs.Laws.Demand1.{pieces, opened_is}

-- refusal 1 moves nothing in the book
pub one_written : (c : Call) (k : Book) → write c 1 k ≡ k
one_written (on_objects c) k = refl
one_written (create_user_thread i budget stack) k = refl
one_written (start i space cspace root context) k = refl
one_written (block_current kind number) k = refl
one_written (wake i r) k = refl
one_written (is_blocked_on i kind number) k = refl
one_written (kill i cause) k = refl
one_written (tick n) k = refl
one_written (plan n) k = refl
one_written (read_thread i) k = refl
one_written read_current k = refl
one_written read_switches k = refl
one_written (exit_of i) k = refl

-- The calls that were lent areas of their length.

abbrev pub lent_calls : List Made → List Call
lent_calls [] = []
lent_calls (e ∷ es) = cond (lent e) (e.call ∷ lent_calls es) (lent_calls es)

pub record LentAlone (es : List Made) (a : List ℕ) (k : Book) : Type 0 where
  pub sound : sound_area (last es a) ≡ true
  pub board : decode (last es a) ≡ after (lent_calls es) (decode a)
  pub book : write_all (told es) k ≡ write_all (numbers (lent_calls es) (decode a)) k

follows : (es : List Made) (a : List ℕ) → sound_area a ≡ true → Ran es a → (k : Book) → LentAlone es a k
follows [] a s h k = record { sound = s; board = refl; book = refl }
follows (e ∷ es) a s h k = test (lent e)
    (λ y. let g = (pieces a e h.0).served y s in
    let f = follows es e.left g.area.sound h.1 (write e.call e.returned k) in
    record {
      sound = f.sound;
      board = f.board ∙ rw y (ap (after (lent_calls es)) g.area.same);
      book = f.book ∙ rw y (ap (λ (b : Board). write_all (numbers (lent_calls es) b) (write e.call e.returned k)) g.area.same
          ∙ ap (λ (n : ℕ). write_all (numbers (lent_calls es) (run e.call (decode a)).after) (write e.call n k)) g.number);
    })
    (λ y. let u = (pieces a e h.0).lengths y in
    let f = follows es e.left (rw u.area s) h.1 (write e.call e.returned k) in
    let w : write e.call e.returned k ≡ k = rw u.number (one_written e.call k) in
    record {
      sound = f.sound;
      board = f.board ∙ rw y (ap (λ (l : List ℕ). after (lent_calls es) (decode l)) u.area);
      book = f.book ∙ rw y (ap (λ (l : List ℕ). write_all (numbers (lent_calls es) (decode l)) (write e.call e.returned k)) u.area
          ∙ ap (λ (x : Book). write_all (numbers (lent_calls es) (decode a)) x) w);
    })

pub served_fit : (es : List Made) → AllWords es → AllFit (lent_calls es)
served_fit [] f = tt
served_fit (e ∷ es) f = test (lent e) (λ y. rw y (f.0, served_fit es f.1)) (λ y. rw y (served_fit es f.1))

fit_join : (xs ys : List Call) → AllFit xs → AllFit ys → AllFit (xs ++ ys)
fit_join [] ys f g = g
fit_join (x ∷ xs) ys f g = (f.0, fit_join xs ys f.1 g)

-- one run from an opening
module _ (cpu memory : ℕ) (a₀ a out out' : List ℕ) (o : Opens cpu memory a₀ out 0 a out') where
  pub start_is : Is a (opening cpu memory)
  start_is = (opened_is cpu memory a₀ a out out' o).1

  pub share : cpu ≤ period
  share = (opened_is cpu memory a₀ a out out' o).0

  module _ (es : List Made) (h : Ran es a) where
    pub board_is : decode (last es a) ≡ board_after (lent_calls es) cpu memory
    board_is = (follows es a start_is.sound h (book.opening cpu memory)).board ∙ ap (after (lent_calls es)) start_is.same

    pub book_is : booked es cpu memory ≡ book_after (lent_calls es) cpu memory
    book_is = (follows es a start_is.sound h (book.opening cpu memory)).book
        ∙ ap (λ (b : Board). write_all (numbers (lent_calls es) b) (book.opening cpu memory)) start_is.same

    line_is : AllWords es → (i : ℕ) → is_budget (decode (last es a)).registry i ≡ true → line_of (decode (last es a)) i ≡ figures_of (booked es cpu memory) i
    line_is f i l =
        ap (λ (b : Board). line_of b i) board_is
        ∙ (definitions_3.demand3 (lent_calls es) cpu memory share (served_fit es f)).lines i (ap (λ (b : Board). is_budget b.registry i) (sym board_is) ∙ l)
        ∙ ap (λ (k : Book). figures_of k i) (sym book_is)

    differences_are : AllWords es → (i : ℕ) → is_budget (decode (last es a)).registry i ≡ true → Differences (budget_of (booked es cpu memory).objects i)
    differences_are f i l = subst (λ (k : Book). Differences (budget_of k.objects i)) (sym book_is)
        ((definitions_3.demand3 (lent_calls es) cpu memory share (served_fit es f)).differences i (ap (λ (b : Board). is_budget b.registry i) (sym board_is) ∙ l))

    live_is : AllWords es → (i : ℕ) → is_live (booked es cpu memory).objects i ≡ is_budget (decode (last es a)).registry i
    live_is f i =
        ap (λ (k : Book). is_live k.objects i) book_is
        ∙ (definitions_3.demand3 (lent_calls es) cpu memory share (served_fit es f)).live i
        ∙ ap (λ (b : Board). is_budget b.registry i) (sym board_is)

  -- a planning at the end of a run
  planning_is : (front : List Made) → Ran front a → AllWords front → (e : Made) → Ensures (last front a) e → (n : ℕ) → e.call ≡ plan n → e.returned ≡ 0
      → (z : BoardReply) × (GivenAs e z × Planned n (booked front cpu memory) z)
  planning_is front h f e m n q r =
      let d = pieces (last front a) e m in
      let y : lent e ≡ true = test (lent e) (λ y. y) (λ y. absurd (zero_one (sym r ∙ (d.lengths y).number))) in
      let g = d.served y (follows front a start_is.sound h (book.opening cpu memory)).sound in
      let z : run e.call (decode (last front a)) ≡ run (plan n) (board_after (lent_calls front) cpu memory) =
      ap (λ (c : Call). run c (decode (last front a))) q ∙ ap (run (plan n)) (board_is front h) in
      let g' : GivenAs e (run (plan n) (board_after (lent_calls front) cpu memory)) = subst (GivenAs e) z g in
      let D = definitions_3.demand3 (lent_calls front ++ (plan n ∷ [])) cpu memory share (fit_join (lent_calls front) (plan n ∷ []) (served_fit front f) (tt, tt)) in (
        run (plan n) (board_after (lent_calls front) cpu memory),
        (g', subst (λ (k : Book). Planned n k (run (plan n) (board_after (lent_calls front) cpu memory))) (sym (book_is front h)) (D.plannings (lent_calls front) [] n refl (sym g'.number ∙ r))),
      )
    where
      zero_one : ◌≡◌ {A = ℕ} 0 1 → ⊥
      zero_one q = omega arith

  -- a reading of totals at the end of a run
  totals_are : (front : List Made) → Ran front a → AllWords front → (e : Made) → Ensures (last front a) e → (i : ℕ) → e.call ≡ on_objects (objects.read_totals i) → e.returned ≡ 0
      → GivenAs e (accept (Some (of_registry (of_totals (totals_of (booked front cpu memory).objects i)))) (decode (last front a)))
  totals_are front h f e m i q r =
      let d = pieces (last front a) e m in
      let y : lent e ≡ true = test (lent e) (λ y. y) (λ y. absurd (not_accepted (sym r ∙ (d.lengths y).number) refl)) in
      let b : Board = decode (last front a) in
      let g : GivenAs e (run (on_objects (objects.read_totals i)) b) =
      subst (λ (c : Call). GivenAs e (run c b)) q (d.served y (follows front a start_is.sound h (book.opening cpu memory)).sound) in
      let live : is_budget b.registry i ≡ true = test (is_budget b.registry i) (λ l. l)
      (λ l. absurd (not_accepted (sym r ∙ g.number ∙ ap (λ (z : RegistryReply). z.number) (read_totals_missing i b.registry l)) refl)) in
      let same : totals b.registry i ≡ totals_of (booked front cpu memory).objects i =
      ap (λ (x : Board). totals x.registry i) (board_is front h)
      ∙ (definitions_3.demand3 (lent_calls front) cpu memory share (served_fit front f)).totals i
      ∙ ap (λ (k : Book). totals_of k.objects i) (sym (book_is front h)) in
      subst (GivenAs e)
      (ap (λ (z : RegistryReply). on_registry z b) (read_totals_done i b.registry live) ∙ ap (λ (t : Totals). accept (Some (of_registry (of_totals t))) b) same) g
    where
      not_accepted : {n : ℕ} → 0 ≡ n → (eqb n 0 ≡ false → ⊥)
      not_accepted q h = false≢true (sym h ∙ ap (λ (n : ℕ). eqb n 0) (sym q))

ran_front : (front rest : List Made) (e : Made) (a : List ℕ) → Ran (front ++ (e ∷ rest)) a → Ran front a × Ensures (last front a) e
ran_front [] rest e a h = (tt, h.0)
ran_front (x ∷ front) rest e a h = let (u, v) = ran_front front rest e x.left h.1 in ((h.0, u), v)

words_front : (front rest : List Made) → AllWords (front ++ rest) → AllWords front
words_front [] rest f = tt
words_front (x ∷ front) rest f = (f.0, words_front front rest f.1)

-- Demand 3, whole.
pub demand3 : Demand3
demand3 cpu memory a₀ a out out' o es h f = record {
  live = live_is cpu memory a₀ a out out' o es h f;
  lines = line_is cpu memory a₀ a out out' o es h f;
  differences = differences_are cpu memory a₀ a out out' o es h f;
  equal = λ es' b₀ a' w w' cpu' memory' o' h' f' i l l'.
      let e = line_is cpu memory a₀ a out out' o es h f i l in
      let e' = line_is cpu' memory' b₀ a' w w' o' es' h' f' i l' in
      (λ q. sym e ∙ q ∙ e', λ q. e ∙ q ∙ sym e');
  totals = λ front rest e i q c r.
      let (u, v) = ran_front front rest e a (rw q at h) in
      totals_are cpu memory a₀ a out out' o front u (words_front front (e ∷ rest) (rw q at f)) e v i c r;
  plannings = λ front rest e n q c r.
      let (u, v) = ran_front front rest e a (rw q at h) in
      planning_is cpu memory a₀ a out out' o front u (words_front front (e ∷ rest) (rw q at f)) e v n c r;
}
