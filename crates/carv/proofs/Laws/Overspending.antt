-- P3 is proved over exported calls: the ledger of a list is that of its calls that were lent areas of their length, and the clock of these doesn't fall either. Assumes nothing.
use Rattle.std.specs.Prelude.{◌≡◌, refl, true, List, [], ◌∷◌, ◌++◌, map, ℕ, ◌≤◌, Option, Some, None}
use Rattle.std.proofs.Common.{sym, ap, ◌∙◌, subst}
use Rattle.carv_area.specs.Laws.Table.{test}
use Rattle.carv_objects_spec.specs.Registry.{is_budget}
use Rattle.carv_objects_spec.specs.Noted.{Adds, charged_to, Accounted}
use Rattle.carv_objects_spec.specs.Ledger as objects_ledger
use Rattle.carv_objects_spec.specs.Ledger.{Ledger, NoneOverspent, NeverFall}
use Rattle.carv_scheduler_spec.specs.Scheduler.{Board, opening}
use Rattle.carv_scheduler_spec.specs.Book as book
use Rattle.carv_scheduler_spec.specs.Book.{Book, Call, write}
use Rattle.carv_scheduler_spec.specs.Runs.{run, Numbered, numbers, write_all, AllFit}
use Rattle.carv_scheduler_spec.specs.Ledger.{note, note_all, ledger_after, clock, moving_clock, MovingClockNeverFalls, EverLive}
use Rattle.carv_scheduler_spec.proofs.Laws.Overspending as definitions
use Rattle.carv_scheduler_spec.proofs.Laws.Noted.{next_noted, note_adds}
use Rattle.carv_scheduler.specs.Area.{decode, sound_area}
use Rattle.carv.specs.C.{Opens, Made, lent}
use Rattle.carv.specs.Demands.{Ran, last, AllWords, told, booked}
use Rattle.carv.specs.Overspending.{noted, WithinAllowances, NoPeriodOverspent, NoPeriodOverspentByClock, ChargesNoted}
use Rattle.carv.proofs.Laws.Demand1.{pieces}
use Rattle.carv.proofs.Laws.Demand3.{one_written, lent_calls, served_fit, start_is, share, board_is, book_is}

-- the ledger that is fed the calls and the numbers returned is that of the calls served: refusal 1 writes nothing
served_noted : (es : List Made) (a : List ℕ) → sound_area a ≡ true → Ran es a → (k : Book) (l : Ledger) → note_all (told es) k l ≡ note_all (numbers (lent_calls es) (decode a)) k l
served_noted [] a s h k l = refl
served_noted (e ∷ es) a s h k l = test (lent e)
    (λ y. let g = (pieces a e h.0).served y s in
    rw (y, g.number) (served_noted es e.left g.area.sound h.1 (write e.call (run e.call (decode a)).number k) (note e.call (run e.call (decode a)).number k l)
    ∙ ap (λ (b : Board). note_all (numbers (lent_calls es) b) (write e.call (run e.call (decode a)).number k) (note e.call (run e.call (decode a)).number k l)) g.area.same))
    (λ y. let u = (pieces a e h.0).lengths y in
    rw (y, u.number, one_written e.call k, definitions.accepted_only e.call 1 k l refl) (served_noted es e.left (rw u.area s) h.1 k l
    ∙ ap (λ (x : List ℕ). note_all (numbers (lent_calls es) (decode x)) k l) u.area))

-- the clock of the calls served
go_on : (T : ℕ) (o : Option ℕ) (ts ts' : List (Option ℕ)) → ((t : ℕ) → NeverFall t ts → NeverFall t ts') → NeverFall T (o ∷ ts) → NeverFall T (o ∷ ts')
go_on T None ts ts' f h = f T h
go_on T (Some t) ts ts' f h = (h.0, f t h.1)

served_rise : (es : List Made) (a : List ℕ) → sound_area a ≡ true → Ran es a → (T : ℕ) → NeverFall T (map moving_clock (told es))
    → NeverFall T (map moving_clock (numbers (lent_calls es) (decode a)))
served_rise [] a s h T f = tt
served_rise (e ∷ es) a s h T f = test (lent e)
    (λ y. let g = (pieces a e h.0).served y s in
    let n : Numbered = record { call = e.call; number = (run e.call (decode a)).number } in
    let f' : NeverFall T (moving_clock n ∷ map moving_clock (told es)) =
    subst (λ (m : ℕ). NeverFall T (moving_clock (record { call = e.call; number = m }) ∷ map moving_clock (told es))) g.number f in
    rw y (go_on T (moving_clock n) (map moving_clock (told es)) (map moving_clock (numbers (lent_calls es) (run e.call (decode a)).after))
    (λ t r. subst (λ (b : Board). NeverFall t (map moving_clock (numbers (lent_calls es) b))) g.area.same (served_rise es e.left g.area.sound h.1 t r)) f'))
    (λ y. let u = (pieces a e h.0).lengths y in
    let f' : NeverFall T (map moving_clock (told es)) =
    subst (λ (m : ℕ). NeverFall T (moving_clock (record { call = e.call; number = m }) ∷ map moving_clock (told es))) u.number f in
    rw y (subst (λ (x : List ℕ). NeverFall T (map moving_clock (numbers (lent_calls es) (decode x)))) u.area (served_rise es e.left (rw u.area s) h.1 T f')))

-- a list in two parts
lent_parts : (front rest : List Made) → lent_calls (front ++ rest) ≡ lent_calls front ++ lent_calls rest
lent_parts [] rest = refl
lent_parts (e ∷ front) rest = test (lent e) (λ y. rw (y, lent_parts front rest)) (λ y. rw y (lent_parts front rest))

ran_part : (front rest : List Made) (a : List ℕ) → Ran (front ++ rest) a → Ran front a
ran_part [] rest a h = tt
ran_part (e ∷ front) rest a h = (h.0, ran_part front rest e.left h.1)

-- P3, whole.

module _ (cpu memory : ℕ) (a₀ a out out' : List ℕ) (o : Opens cpu memory a₀ out 0 a out') (es : List Made) (h : Ran es a) (f : AllWords es) where
  abbrev cs : List Call
  cs = lent_calls es

  ledger_is : noted es cpu memory ≡ ledger_after cs cpu memory
  ledger_is =
      served_noted es a (start_is cpu memory a₀ a out out' o).sound h (book.opening cpu memory) (objects_ledger.opening cpu)
      ∙ ap (λ (b : Board). note_all (numbers cs b) (book.opening cpu memory) (objects_ledger.opening cpu)) (start_is cpu memory a₀ a out out' o).same

  cs_rise : MovingClockNeverFalls (told es) → MovingClockNeverFalls (numbers cs (opening cpu memory))
  cs_rise rise =
      subst (λ (b : Board). MovingClockNeverFalls (numbers cs b)) (start_is cpu memory a₀ a out out' o).same
      (served_rise es a (start_is cpu memory a₀ a out out' o).sound h 0 rise)

  low : cpu ≤ 10_000_000
  low = share cpu memory a₀ a out out' o

  live_is : MovingClockNeverFalls (told es) → (front rest : List Made) → es ≡ front ++ rest → (i : ℕ) → is_budget (decode (last front a)).registry i ≡ true
      → EverLive (decode (last front a)).registry (noted es cpu memory) i
  live_is rise front rest q i live =
      let front_is = board_is cpu memory a₀ a out out' o front (ran_part front rest a (rw q at h)) in
      let parts : cs ≡ lent_calls front ++ lent_calls rest = ap lent_calls q ∙ lent_parts front rest in
      let ledger : noted es cpu memory ≡ ledger_after (lent_calls front ++ lent_calls rest) cpu memory = ledger_is ∙ ap (λ (c : List Call). ledger_after c cpu memory) parts in
      let E = definitions.no_period_overspent cpu memory low (lent_calls front) (lent_calls rest) (subst AllFit parts (served_fit es f))
      (subst (λ (c : List Call). MovingClockNeverFalls (numbers c (opening cpu memory))) parts (cs_rise rise)) i (ap (λ (b : Board). is_budget b.registry i) (sym front_is) ∙ live) in
      subst (λ (l : Ledger). EverLive (decode (last front a)).registry l i) (sym ledger)
      (subst (λ (b : Board). EverLive b.registry (ledger_after (lent_calls front ++ lent_calls rest) cpu memory) i) (sym front_is) E)

  within_allowances : MovingClockNeverFalls (told es) → WithinAllowances es a cpu memory
  within_allowances rise = record {
    carved = subst NoneOverspent (sym ledger_is) (definitions.none_overspent cpu memory low cs (served_fit es f) (cs_rise rise));
    live = live_is rise;
  }

  -- what any call behind the list writes and notes
  next_is : (e : Made) (i : ℕ) → Accounted (booked es cpu memory).objects (write e.call e.returned (booked es cpu memory)).objects (charged_to (noted es cpu memory).charges i)
      (charged_to (note e.call e.returned (booked es cpu memory) (noted es cpu memory)).charges i) i
  next_is e i =
      subst (λ (l : Ledger). Accounted (booked es cpu memory).objects (write e.call e.returned (booked es cpu memory)).objects (charged_to l.charges i)
      (charged_to (note e.call e.returned (booked es cpu memory) l).charges i) i) (sym ledger_is)
      (subst (λ (k : Book). Accounted k.objects (write e.call e.returned k).objects (charged_to (ledger_after cs cpu memory).charges i)
      (charged_to (note e.call e.returned k (ledger_after cs cpu memory)).charges i) i) (sym (book_is cpu memory a₀ a out out' o es h))
      (next_noted cs e.call e.returned cpu memory low (served_fit es f) i))

-- book and ledger after one call more
book_more : (es : List Made) (e : Made) (k : Book) → write_all (told (es ++ (e ∷ []))) k ≡ write e.call e.returned (write_all (told es) k)
book_more [] e k = refl
book_more (x ∷ es) e k = book_more es e (write x.call x.returned k)

ledger_more : (es : List Made) (e : Made) (k : Book) (l : Ledger)
    → note_all (told (es ++ (e ∷ []))) k l ≡ note e.call e.returned (write_all (told es) k) (note_all (told es) k l)
ledger_more [] e k l = refl
ledger_more (x ∷ es) e k l = ledger_more es e (write x.call x.returned k) (note x.call x.returned k l)

pub charges_noted : ChargesNoted
charges_noted cpu memory a₀ a out out' o es h f e =
    let book_is_more = book_more es e (book.opening cpu memory) in
    let ledger_is_more = ledger_more es e (book.opening cpu memory) (objects_ledger.opening cpu) in
    record {
      adds = subst (Adds (clock e.call) (noted es cpu memory)) (sym ledger_is_more) (note_adds e.call e.returned (booked es cpu memory) (noted es cpu memory));
      taken = λ i.
          subst (λ (k : Book). Accounted (booked es cpu memory).objects k.objects (charged_to (noted es cpu memory).charges i) (charged_to (noted (es ++ (e ∷ [])) cpu memory).charges i) i)
          (sym book_is_more)
          (subst (λ (l : Ledger). Accounted (booked es cpu memory).objects (write e.call e.returned (booked es cpu memory)).objects (charged_to (noted es cpu memory).charges i)
          (charged_to l.charges i) i) (sym ledger_is_more) (next_is cpu memory a₀ a out out' o es h f e i));
    }

pub no_period_overspent : NoPeriodOverspent
no_period_overspent cpu memory a₀ a out out' o es h f rise = within_allowances cpu memory a₀ a out out' o es h f rise

pub no_period_overspent_by_clock : NoPeriodOverspentByClock
no_period_overspent_by_clock cpu memory a₀ a out out' o es h f rise = within_allowances cpu memory a₀ a out out' o es h f (definitions.clock_moves (told es) rise)
