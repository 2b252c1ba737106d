-- What an opening leaves: the registry's opening, the other parts cleared, and two threads. Assumes nothing.
use Rattle.std.specs.Prelude.{◌≡◌, ℕ, suc, ◌+◌, ◌-◌, ◌*◌, ◌/◌, ◌<◌, ◌≤◌, List, [], length, take, drop, ◌≢◌, slice_index, refl, Result, Ok, Err, None}
use Rattle.std.proofs.Common.{sym, ap, ◌∙◌, true≢false, append-nil, arith, drop_of_length-le, take_all, ext_get_or, get_or-take, get_or-drop, eqb-true, eq-eqb, le-leb}
use Rattle.std.proofs.lemmas.List.{length-replicate, get_or-replicate}
use Rattle.std.proofs.lemmas.Bool.{eqb-false, lt-leb}
use Rattle.carv_area.specs.Table.{put}
use Rattle.carv_area.specs.Words.{words}
use Rattle.carv_area.specs.Laws.Words.{length_words, words_part}
use Rattle.carv_area.specs.Moves.{zeros, wipe}
use Rattle.carv_area.specs.Parts.{part, put_part}
use Rattle.carv_area.specs.Laws.Parts.{length_part, length_put, part_same, part_before}
use Rattle.carv_area.specs.Rows.{Holds, flat}
use Rattle.carv_area.specs.Laws.Rows.{hold}
use Rattle.carv_area.specs.Stored.{one}
use Rattle.carv_area.specs.Laws.Stored.{stored, wide_one}
use Rattle.carv_budget.specs.Account.{period}
use Rattle.carv_objects.specs.declared.refusal.Refusal.{Refusal}
use Rattle.carv_objects_spec.specs.Registry as registry
use Rattle.carv_objects.specs.Area as registry_area
use Rattle.carv_objects.specs.declared.refusal.Refusal.TheVariants.{Unsound, Share}
use Rattle.carv_scheduler_spec.specs.declared.Thread.{Thread}
use Rattle.carv_scheduler_spec.specs.declared.State.TheVariants.{Ready, Running}
use Rattle.carv_scheduler_spec.specs.Scheduler.{Board, idle, fresh, opening}
use Rattle.carv_scheduler_spec.proofs.Laws.Kept.{opening_sound}
use Rattle.carv_scheduler.specs.Area.{registry_part, head, threads_part, queue_part, exits_part, thread_fields, exit_fields, Opened}
use Rattle.carv_scheduler.specs.Laws.Rows.{wide, wide_exit}
use Rattle.carv_scheduler.specs.Laws.Formed.{Leaves, leaves}
use Rattle.carv_scheduler.specs.Laws.AreaSteps.{with_threads, New}
use Rattle.carv_scheduler.specs.Laws.AreaLaws.{is_area}

-- the n bytes from f on are zero words, and what stands before them is as it was
pub record Wiped (f n : ℕ) (a a' : List ℕ) : Type 0 where
  pub size : length a' ≡ length a
  pub zero : words (part f n a') ≡ zeros (n / 8)
  pub before : (g m : ℕ) → g + m ≤ f → part g m a' ≡ part g m a

cleared : (l : List ℕ) (n : ℕ) → length l ≡ n → wipe 0 n l ≡ zeros n
cleared l n e =
    let z : take n (zeros n) ≡ zeros n = take_all n (zeros n) (omega (arith, length-replicate {A = ℕ} n 0)) in
    let d : drop (0 + n) l ≡ [] = drop_of_length-le l {i = 0 + n} (omega arith) in
    rw (z, d) (append-nil (zeros n))

-- `clear` was lent a part, and left p
pub wiped : (f n : ℕ) (a p : List ℕ) → f + n ≤ length a → length p ≡ n → words p ≡ wipe 0 (n / 8) (words (part f n a)) → Wiped f n a (put_part f n a p)
wiped f n a p h z e = record {
  size = length_put f n a p h z;
  zero = ap words (part_same f n a p h z) ∙ e ∙ cleared (words (part f n a)) (n / 8) (length_words (part f n a) ∙ ap (λ (x : ℕ). x / 8) (length_part f n a h));
  before = λ g m b. part_before f n a p h z g m b;
}

-- the registry's part is that of an opened registry, and every other part is as it was
pub record RegistryOpened (cpu memory : ℕ) (a a' : List ℕ) : Type 0 where
  pub size : length a' ≡ length a
  pub registry : registry_area.Is (part 0 45_072 a') (registry.opening cpu memory)

pub registry_opened : (cpu memory : ℕ) (a p : List ℕ) (r : Result (Unit {0}) Refusal) → length a ≡ 68_144 → length p ≡ 45_072 → cpu ≤ period
    → registry_area.Opened cpu memory (part 0 45_072 a) r p → RegistryOpened cpu memory a (put_part 0 45_072 a p)
registry_opened cpu memory a p r z y c h =
    let fits : 0 + 45_072 ≤ length a = omega arith in
    record {
      size = length_put 0 45_072 a p fits y;
      registry = rw (part_same 0 45_072 a p fits y)
          (h.opened (eq-eqb (length (part 0 45_072 a)) 45_072 (length_part 0 45_072 a fits)) (le-leb cpu period c)).1;
    }

-- zero words hold no row
none_held : {A : Type 0} (fields : A → List ℕ) (w : ℕ) → ((x : A) → length (fields x) ≡ w) → (l : List ℕ) (n : ℕ) → 1 ≤ n → l ≡ zeros n → Holds fields w l []
unfolding flat
none_held fields w wide l n h e = let s : n ≡ suc (n - 1) = omega arith in hold fields w wide l [] (n - 1) (e ∙ ap zeros s)

abbrev pub blank_board : (cpu memory : ℕ) → Board
blank_board cpu memory = record { registry = registry.opening cpu memory; threads = []; queue = []; current = 0; switches = 0; exits = [] }

-- a part of a part
inside : (f n g m : ℕ) (l : List ℕ) → f + n ≤ length l → g + m ≤ n → part g m (part f n l) ≡ part (f + g) m l
inside f n g m l h b =
    let whole : length (part f n l) ≡ n = length_part f n l h in
    let size : length (part g m (part f n l)) ≡ m = length_part g m (part f n l) (omega arith) in
    ext_get_or 0 (part g m (part f n l)) (part (f + g) m l) (size ∙ sym (length_part (f + g) m l (omega arith)))
    (λ i a.
    let e : i < m = omega arith in
    let q : f + (g + i) ≡ (f + g) + i = omega arith in
    get_or-take m (drop g (part f n l)) i 0 e ∙ get_or-drop g (part f n l) i 0 ∙ get_or-take n (drop f l) (g + i) 0 (omega arith) ∙ get_or-drop f l (g + i) 0
    ∙ ap (λ (j : ℕ). slice_index l j) q ∙ sym (get_or-take m (drop (f + g) l) i 0 e ∙ get_or-drop (f + g) l i 0))

zeros_inside : (n g m : ℕ) → g + m ≤ n → take m (drop g (zeros n)) ≡ zeros m
zeros_inside n g m b =
    let size : length (part g m (zeros n)) ≡ m = length_part g m (zeros n) (omega (arith, length-replicate {A = ℕ} n 0)) in
    ext_get_or 0 (part g m (zeros n)) (zeros m) (size ∙ sym (length-replicate {A = ℕ} m 0))
    (λ i a.
    let e : i < m = omega arith in
    get_or-take m (drop g (zeros n)) i 0 e ∙ get_or-drop g (zeros n) i 0 ∙ get_or-replicate {A = ℕ} n (g + i) 0 0 (omega arith) ∙ sym (get_or-replicate {A = ℕ} m i 0 0 e))

-- m words of the n that are zero
wiped_part : (f n : ℕ) (a a' : List ℕ) → Wiped f (n * 8) a a' → f + n * 8 ≤ length a' → (g m : ℕ) → g + m ≤ n → words (part (f + g * 8) (m * 8) a') ≡ zeros m
wiped_part f n a a' w h g m b =
    let size : length (part f (n * 8) a') ≡ n * 8 = length_part f (n * 8) a' h in
    let e : n * 8 / 8 ≡ n = omega arith in
    ap words (sym (inside f (n * 8) (g * 8) (m * 8) a' h (omega arith)))
    ∙ words_part (part f (n * 8) a') g m (omega arith)
    ∙ ap (λ (l : List ℕ). take m (drop g l)) (w.zero ∙ ap zeros e)
    ∙ zeros_inside n g m b

-- the registry, and zeros behind it
pub blank_formed : (cpu memory : ℕ) (a a₁ a₂ : List ℕ) → length a ≡ 68_144 → RegistryOpened cpu memory a a₁ → Wiped 45_072 23_072 a₁ a₂ → Leaves a₂ (blank_board cpu memory)
unfolding registry_part head threads_part queue_part exits_part
blank_formed cpu memory a a₁ a₂ z o w =
    let size : length a₂ ≡ 68_144 = w.size ∙ o.size ∙ z in
    let zero : (g m : ℕ) → g + m ≤ 2_884 → words (part (45_072 + g * 8) (m * 8) a₂) ≡ zeros m = wiped_part 45_072 2_884 a₁ a₂ w (omega arith) in
    let words_head : words (part 45_072 16 a₂) ≡ zeros 2 = zero 0 2 (omega arith) in
    leaves a₂ (blank_board cpu memory) (record {
      size = size;
      registry = rw (w.before 0 45_072 (omega arith)) o.registry;
      current = ap (λ (l : List ℕ). slice_index l 0) words_head;
      switches = ap (λ (l : List ℕ). slice_index l 1) words_head;
      threads = stored thread_fields 21 (part 45_088 21_512 a₂) [] (none_held thread_fields 21 wide (words (part 45_088 21_512 a₂)) 2_689 (omega arith) (zero 2 2_689 (omega arith)));
      rising = omega arith;
      queue = stored one 1 (part 66_600 1_024 a₂) [] (none_held one 1 wide_one (words (part 66_600 1_024 a₂)) 128 (omega arith) (zero 2_691 128 (omega arith)));
      exits = stored exit_fields 2 (part 67_624 520 a₂) [] (none_held exit_fields 2 wide_exit (words (part 67_624 520 a₂)) 65 (omega arith) (zero 2_819 65 (omega arith)));
    })

-- the two threads
pub first_new : (cpu memory : ℕ) (b : Board) → b ≡ blank_board cpu memory → New b.threads 0
first_new cpu memory b e = rw e (record { fresh = refl; few = omega arith; fits = omega arith })

pub idle_new : (cpu memory : ℕ) (b b₁ : Board) (t u : Thread) → b ≡ blank_board cpu memory → b₁ ≡ with_threads (put 0 t b.threads) b → New b₁.threads idle
idle_new cpu memory b b₁ t u e e₁ = rw (e₁, e) (record { fresh = refl; few = omega arith; fits = omega arith })

pub board_opened : (cpu memory : ℕ) (b b₁ b₂ : Board) (t u : Thread) → b ≡ blank_board cpu memory → t ≡ fresh Running None → u ≡ fresh Ready None
    → b₁ ≡ with_threads (put 0 t b.threads) b → b₂ ≡ with_threads (put idle u b₁.threads) b₁ → b₂ ≡ opening cpu memory
board_opened cpu memory b b₁ b₂ t u e et eu e₁ e₂ = rw (e₂, e₁, e, et, eu)

module _ (cpu memory : ℕ) (a : List ℕ) where
  pub opened_size : (length a ≢ 68_144) → Opened cpu memory a (Err Unsound) a
  opened_size n = record {
    size = λ q. (refl, refl);
    share = λ q. absurd (n (eqb-true (length a) 68_144 q));
    opened = λ q. absurd (n (eqb-true (length a) 68_144 q));
  }

  module _ (z : length a ≡ 68_144) where
    pub opened_share : period < cpu → Opened cpu memory a (Err Share) a
    opened_share h = record {
      size = λ q. absurd (eqb-false (length a) 68_144 q z);
      share = λ q s. (refl, refl);
      opened = λ q s. absurd (true≢false (sym s ∙ lt-leb cpu period h));
    }

    pub opened_done : cpu ≤ period → (a' : List ℕ) (s : Board) → Leaves a' s → s ≡ opening cpu memory → Opened cpu memory a (Ok tt) a'
    opened_done h a' s l e = record {
      size = λ q. absurd (eqb-false (length a) 68_144 q z);
      share = λ q n. absurd (true≢false (sym (le-leb cpu period h) ∙ n));
      opened = λ q y. (refl, is_area a' (opening cpu memory) (record { formed = l.formed; is = l.is ∙ e }) (opening_sound cpu memory h));
    }
