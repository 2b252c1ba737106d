-- Demand 2 is proved: a call that returns no added refusal is answered as the Rust's method, where there is one, and leaves its board. Assumes nothing.
use Rattle.std.specs.Prelude.{◌≡◌, refl, true, false, List, [], ◌∷◌, map, ℕ}
use Rattle.std.proofs.Common.{sym, ap, ◌∙◌, subst, true≢false}
use Rattle.carv_area.specs.Laws.Table.{test}
use Rattle.carv_objects_spec.specs.Book as objects
use Rattle.carv_objects.specs.Answer.{number}
use Rattle.carv_scheduler_spec.specs.Scheduler.{Board, BoardReply, opening}
use Rattle.carv_scheduler_spec.specs.Rust as rust
use Rattle.carv_scheduler_spec.proofs.Laws.Refines as refines
use Rattle.carv_scheduler.specs.Area.{decode, sound_area, Is}
use Rattle.carv_scheduler.specs.Laws.AreaLaws.{area_sound}
use Rattle.carv.specs.C.{Made, Ensures, lent}
use Rattle.carv_scheduler_spec.specs.Book.{Call, on_objects, create_user_thread, start, block_current, wake, is_blocked_on, kill, tick, plan, read_thread, read_current, read_switches, exit_of}
use Rattle.carv_scheduler_spec.specs.Runs.{run, AllFit}
use Rattle.carv_scheduler_spec.proofs.Laws.Demand2 as definitions
use Rattle.carv_scheduler_spec.specs.Demand2 as on_definitions
use Rattle.carv_scheduler_spec.proofs.Laws.Panics.{opening_no_panics}
use Rattle.carv_scheduler_spec.specs.Demand2.{rust_run, compared, is_added}
use Rattle.carv.specs.Demands.{Ran, GivenAs, AsRust, NoneAdded, AllWords, Demand2}
use Rattle.carv.proofs.Laws.Demand1.{pieces, opened_is}

-- refusal 1 is an added one
one_registry : (c : objects.Call) → is_added (on_objects c) 1 ≡ true
one_registry (objects.create kind payer backing) = refl
one_registry (objects.insert kind payer bytes) = refl
one_registry (objects.create_budget parent cpu memory time) = refl
one_registry (objects.charge_more i bytes) = refl
one_registry (objects.uncharge i bytes) = refl
one_registry (objects.remove i time) = refl
one_registry (objects.refill i time) = refl
one_registry (objects.charge_cpu i ns time) = refl
one_registry (objects.pays_for_anything i) = refl
one_registry (objects.read_account i) = refl
one_registry (objects.charge_of i) = refl
one_registry (objects.read_totals i) = refl

one_added : (c : Call) → is_added c 1 ≡ true
one_added (on_objects c) = one_registry c
one_added (create_user_thread i budget stack) = refl
one_added (start i space cspace root context) = refl
one_added (block_current kind number) = refl
one_added (wake i r) = refl
one_added (is_blocked_on i kind number) = refl
one_added (kill i cause) = refl
one_added (tick n) = refl
one_added (plan n) = refl
one_added (read_thread i) = refl
one_added read_current = refl
one_added read_switches = refl
one_added (exit_of i) = refl

-- a call that returned no added refusal was lent what it needs, so it was answered as 01's call
answered : (a : List ℕ) (e : Made) → sound_area a ≡ true → Ensures a e → is_added e.call e.returned ≡ false → GivenAs e (run e.call (decode a))
answered a e s h n =
    let d = pieces a e h in
    let y : lent e ≡ true = test (lent e) (λ y. y) (λ y. absurd (true≢false (sym (one_added e.call) ∙ ap (is_added e.call) (sym (d.lengths y).number) ∙ n))) in
    d.served y s

as_rust : (es : List Made) (a : List ℕ) → sound_area a ≡ true → Ran es a → NoneAdded es → (b : Board) → decode a ≡ b → AsRust es b
as_rust [] a s h n b q = tt
as_rust (e ∷ es) a s h n b q =
    let g = answered a e s h.0 n.0 in
    let z = run e.call (decode a) in
    let r : compared e.call z ≡ rust_run e.call b =
    definitions.run_rust e.call (decode a) (area_sound a s) (ap (is_added e.call) (sym g.number) ∙ n.0) ∙ ap (rust_run e.call) q in
    let on : decode e.left ≡ (rust_run e.call b).after = g.area.same ∙ sym (definitions.compared_after e.call z) ∙ ap (λ (x : BoardReply). x.after) r in
    (record { reply = z; given = g; same = r }, as_rust es e.left g.area.sound h.1 n.1 (rust_run e.call b).after on)

-- the list of calls on the definitions
abbrev calls : List Made → List Call
calls es = map (λ (e : Made). e.call) es

none_added : (es : List Made) (a : List ℕ) → sound_area a ≡ true → Ran es a → NoneAdded es → (b : Board) → decode a ≡ b → on_definitions.NoneAdded (calls es) b
none_added [] a s h n b q = tt
none_added (e ∷ es) a s h n b q =
    let g = answered a e s h.0 n.0 in
    let z : run e.call (decode a) ≡ run e.call b = ap (run e.call) q in (
      ap (λ (x : BoardReply). is_added e.call x.number) (sym z) ∙ ap (is_added e.call) (sym g.number) ∙ n.0,
      none_added es e.left g.area.sound h.1 n.1 (run e.call b).after (g.area.same ∙ ap (λ (x : BoardReply). x.after) z),
    )

all_fit : (es : List Made) → AllWords es → AllFit (calls es)
all_fit [] f = tt
all_fit (e ∷ es) f = (f.0, all_fit es f.1)

-- Demand 2.
pub demand2 : Demand2
demand2 cpu memory a₀ a out out' o es h n =
    let (c, i) = opened_is cpu memory a₀ a out out' o in
    record {
      opened = subst (Is a) (refines.opening_rust cpu memory c) i;
      answers = as_rust es a i.sound h n (rust.new cpu memory) (i.same ∙ refines.opening_rust cpu memory c);
      no_panics = λ w f. opening_no_panics cpu memory c w (calls es) (all_fit es f) (none_added es a i.sound h n (opening cpu memory) i.same);
    }
