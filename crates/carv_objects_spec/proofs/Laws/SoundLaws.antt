-- The test of specs/Sound.antt and the facts of proofs/Laws/SoundFacts.antt say the same. Assumes nothing.
use Rattle.std.specs.Prelude.{◌≡◌, refl, Bool, true, false, cond, ◌&&◌, ◌||◌, List, [], ◌∷◌, ℕ, suc, eqb, ltb, leb, length}
use Rattle.std.proofs.lemmas.Bool.{false≢true, eqb-false}
use Rattle.std.proofs.Common.{eqb-true, eq-eqb, ne_eqb, leb-true, le-leb, ltb-true, lt-ltb}
use Rattle.carv_area.specs.Laws.Table
use Rattle.carv_area.specs.Table.{Row, total, Rising}
use Rattle.carv_area.specs.Laws.Table.{All, test}
use Rattle.carv_budget.specs.declared.Account.{Account}
use Rattle.carv_budget.specs.Account as account
use Rattle.carv_budget.proofs.Laws.Account as account_laws
use Rattle.carv_objects_spec.specs.Kinds.{is_budget_kind}
use Rattle.carv_objects_spec.proofs.Laws.Kinds.{kind_told, kind_shown}
use Rattle.carv_objects_spec.specs.declared.Entry.{Entry}
use Rattle.carv_objects_spec.specs.Registry.{Registry}
use Rattle.carv_objects_spec.specs.Sound.{all, every, rises, kind_at, charge_by, memory_by, cpu_by, is_blank, entry_tests, registry_tests, sound}
use Rattle.carv_objects_spec.proofs.Laws.SoundFacts.{SoundEntry, Sound}

-- every test of a list holds, one by one
abbrev pub Truths : List Bool → Type 0
Truths [] = Unit {0}
Truths (b ∷ bs) = (b ≡ true) × Truths bs

pub all_told : (bs : List Bool) → all bs ≡ true → Truths bs
all_told [] h = tt
all_told (true ∷ bs) h = (refl, all_told bs h)
all_told (false ∷ bs) h = absurd (false≢true h)

pub all_shown : (bs : List Bool) → Truths bs → all bs ≡ true
all_shown [] t = refl
all_shown (b ∷ bs) t = rw (t.0, all_shown bs t.1)

pub either : (b c : Bool) → (b || c) ≡ true → b ≡ false → c ≡ true
either true c h f = cc
either false c h f = h

module _ {A : Type 0} where
  pub every_told : (p : ℕ → A → Bool) (m : List (Row A)) → every p m ≡ true → All (λ i a. p i a ≡ true) m
  every_told p [] h = tt
  every_told p (r ∷ m) h = test (p r.id r.it) (λ a. (a, every_told p m (rw a at h))) (λ a. absurd (false≢true (rw a at h)))

  pub every_shown : (p : ℕ → A → Bool) (m : List (Row A)) → All (λ i a. p i a ≡ true) m → every p m ≡ true
  every_shown p [] h = refl
  every_shown p (r ∷ m) h = rw (h.0, every_shown p m h.1)

  pub rises_told : (m : List (Row A)) (l n : ℕ) → rises l n m ≡ true → Rising l n m
  rises_told [] l n h = leb-true l n h
  rises_told (r ∷ m) l n h = test (leb l r.id)
      (λ a. (leb-true l r.id a, rises_told m (suc r.id) n (rw a at h)))
      (λ a. absurd (false≢true (rw a at h)))

  pub rises_shown : (m : List (Row A)) (l n : ℕ) → Rising l n m → rises l n m ≡ true
  rises_shown [] l n h = le-leb l n h
  rises_shown (r ∷ m) l n h = rw (le-leb l r.id h.0, rises_shown m (suc r.id) n h.1)

-- an account of zeros is the blank one
pub blank_told : (a : Account) → is_blank a ≡ true → a ≡ account.blank
blank_told a h =
    let (c, (m, (s, (l, (x, (u, (y, z))))))) = all_told (
    eqb a.cpu_allowance 0 ∷ eqb a.memory_limit 0 ∷ eqb a.period_start 0 ∷ eqb a.cpu_left 0 ∷ eqb a.cpu_reserved 0
    ∷ eqb a.memory_used 0 ∷ eqb a.memory_reserved 0 ∷ []) h in
    λ i. record {
      cpu_allowance = eqb-true a.cpu_allowance 0 c i;
      memory_limit = eqb-true a.memory_limit 0 m i;
      period_start = eqb-true a.period_start 0 s i;
      cpu_left = eqb-true a.cpu_left 0 l i;
      cpu_reserved = eqb-true a.cpu_reserved 0 x i;
      memory_used = eqb-true a.memory_used 0 u i;
      memory_reserved = eqb-true a.memory_reserved 0 y i;
    }

-- the account of a sound entry passes question 1 alone
pub account_sound : {m : List (Row Entry)} {i : ℕ} {e : Entry} → SoundEntry m i e → account.sound e.account ≡ true
account_sound F = account_laws.sound_shown (record { memory = F.memory; cpu = F.cpu; share = F.share })

entry_told : (m : List (Row Entry)) (i : ℕ) (e : Entry) → all (entry_tests m i e) ≡ true → SoundEntry m i e
entry_told m i e h =
    let a = e.account in
    let (plain, (place, (paid, (used, (memory, (cpu, (alone, z))))))) = all_told (entry_tests m i e) h in
    let s = account_laws.sound_told alone in
    record {
      plain = λ k. blank_told a (either (is_budget_kind e.kind) (is_blank a) plain k);
      root = λ q. (let p = rw (eq-eqb i 1 q) at place in
          let k = account_laws.first (is_budget_kind e.kind) (eqb e.payer 1) p in
          let l = account_laws.second (is_budget_kind e.kind) (eqb e.payer 1) p in
          (kind_told e.kind k, eqb-true e.payer 1 l));
      lower = λ q. ltb-true e.payer i (rw (ne_eqb i 1 q) at place);
      paid = kind_told (kind_at m e.payer) paid;
      used = eqb-true a.memory_used (total (charge_by i) m) used;
      memory_reserved = eqb-true a.memory_reserved (total (memory_by i) m) memory;
      cpu_reserved = eqb-true a.cpu_reserved (total (cpu_by i) m) cpu;
      memory = s.memory;
      cpu = s.cpu;
      share = s.share;
    }

entry_shown : (m : List (Row Entry)) (i : ℕ) (e : Entry) → SoundEntry m i e → all (entry_tests m i e) ≡ true
entry_shown m i e F =
    let a = e.account in
    let plain : (is_budget_kind e.kind || is_blank a) ≡ true = test (is_budget_kind e.kind) (λ k. rw k) (λ k. rw (k, F.plain k)) in
    let place : cond (eqb i 1) (is_budget_kind e.kind && eqb e.payer 1) (ltb e.payer i) ≡ true = test (eqb i 1)
    (λ k. let (x, y) = F.root (eqb-true i 1 k) in rw (k, kind_shown e.kind x, eq-eqb e.payer 1 y))
    (λ k. rw k (lt-ltb e.payer i (F.lower (eqb-false i 1 k)))) in
    let paid = kind_shown (kind_at m e.payer) F.paid in
    let used = eq-eqb a.memory_used (total (charge_by i) m) F.used in
    let memory = eq-eqb a.memory_reserved (total (memory_by i) m) F.memory_reserved in
    let cpu = eq-eqb a.cpu_reserved (total (cpu_by i) m) F.cpu_reserved in
    all_shown (entry_tests m i e) (plain, (place, (paid, (used, (memory, (cpu, (account_sound F, tt)))))))

pub sound_told : (r : Registry) → sound r ≡ true → Sound r
sound_told r h =
    let (few, (rising, (root, (each, z)))) = all_told (registry_tests r) h in
    record {
      few = leb-true (length r.rows) 512 few;
      rising = rises_told r.rows 1 r.next rising;
      root = kind_told (kind_at r.rows 1) root;
      each = λ i e at_i. entry_told r.rows i e
          (Table.at_all (λ i e. all (entry_tests r.rows i e) ≡ true) r.rows
          (every_told (λ i e. all (entry_tests r.rows i e)) r.rows each) i e at_i);
    }

pub sound_shown : (r : Registry) → Sound r → sound r ≡ true
sound_shown r s =
    let each = every_shown (λ i e. all (entry_tests r.rows i e)) r.rows
    (Table.all_at (λ i e. all (entry_tests r.rows i e) ≡ true) r.rows 1 r.next s.rising
    (λ i e h. entry_shown r.rows i e (s.each i e h))) in
    all_shown (registry_tests r) (
      le-leb (length r.rows) 512 s.few,
      (rises_shown r.rows 1 r.next s.rising, (kind_shown (kind_at r.rows 1) s.root, (each, tt))),
    )
