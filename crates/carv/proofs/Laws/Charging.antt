-- P7 over areas of bytes and the exported functions: "The memory team books pages singly and in bulk and wants both to agree." Where a sentence doesn't ask for a sound area it
-- holds of any bytes: on a damaged one each of these calls is refused with 1 and leaves every byte. Assumes nothing.
use Rattle.std.specs.Prelude.{◌≡◌, refl, Bool, true, false, cond, ◌&&◌, List, [], ◌∷◌, map, ℕ, suc, ◌+◌, ◌^◌, ◌≤◌, ◌<◌, eqb, leb, length, get_or, Option, Some, None}
use Rattle.std.proofs.Common.{sym, ap, subst, ◌∙◌, arith, eqb-true, eq-eqb, ne_eqb}
use Rattle.std.proofs.lemmas.Bool.{false≢true, eqb-false}
use Rattle.carv_area.specs.Table.{Row, at}
use Rattle.carv_area.specs.Laws.Table.{test}
use Rattle.carv_area.specs.Laws.Parts.{part_bytes}
use Rattle.carv_budget.specs.Account.{free}
use Rattle.carv_objects_spec.specs.declared.Entry.{Entry}
use Rattle.carv_objects_spec.specs.Reply.{Value}
use Rattle.carv_objects_spec.specs.Registry.{Registry, RegistryReply, or_missing, entry, has, payer_of, account_of}
use Rattle.carv_objects_spec.specs.Book as objects
use Rattle.carv_objects_spec.specs.Runs as registry_runs
use Rattle.carv_objects_spec.specs.Sound.{sound}
use Rattle.carv_objects_spec.specs.Charging as charges
use Rattle.carv_objects_spec.specs.Charging.{passes, left_by, all_pass, left_by_all, sum, Reordered, payers_differ}
use Rattle.carv_objects_spec.proofs.Laws.Asked.{asked}
use Rattle.carv_objects_spec.proofs.Laws.Charging as charging
use Rattle.carv_objects_spec.proofs.Laws.Questions as asks
use Rattle.carv_objects_spec.proofs.Laws.SoundLaws.{sound_shown}
use Rattle.carv_objects.specs.Laws.Rows.{no_row}
use Rattle.carv_objects.specs.Laws.AreaLaws.{sound_laid}
use Rattle.carv_objects.specs.Laws.CallSteps.{limit_fits}
use Rattle.carv_scheduler_spec.specs.Scheduler.{Board, with_registry, lift_value}
use Rattle.carv_scheduler_spec.specs.Book.{Call, on_objects}
use Rattle.carv_scheduler_spec.specs.Runs.{run}
use Rattle.carv_scheduler.specs.Area.{decode, sound_area, registry_part, Is}
use Rattle.carv_scheduler.specs.Laws.AreaLaws.{area_sound, area_formed}
use Rattle.carv_scheduler.specs.Laws.AreaExact.{exact}
use Rattle.carv.specs.C.{Exported, Made, plain}
use Rattle.carv.specs.Demands.{Ran, last, GivenAs, Bytes}
use Rattle.carv.specs.Charging.{Makes, Charges, EachLent, all_accepted, first_refusal}
use Rattle.carv.proofs.Laws.Reporting.{no_value_written}
use Rattle.carv.proofs.Laws.Demand1.{demand1}

-- What is asked of a call here is what its C function gives: its `ensures`, on an area of bytes and with 20 answer words. And of a list of charges, that the calls are these and
-- each is made on what the last one left.

pub call_made : (c : objects.Call) (a out : List ℕ) (n : ℕ) (a' out' : List ℕ) → eqb (length out) 20 ≡ true → Exported (on_objects c) a out n a' out' → Bytes a'
    → Makes c a (record { call = on_objects c; words = out; image = []; returned = n; left = a'; words' = out'; image' = [] })
call_made c a out n a' out' words ensured bytes = record { call = refl; is_lent = rw words; ensures = plain refl ensured refl; bytes = bytes }

pub charges_made : (i : ℕ) (ns a : List ℕ) (es : List Made) → Ran es a → map (λ (e : Made). e.call) es ≡ map (λ (n : ℕ). on_objects (objects.charge_more i n)) ns → EachLent es
    → Charges i ns a es
charges_made i [] a [] ran same each = tt
charges_made i [] a (e ∷ es) ran same each = let z : ◌≡◌ {A = ℕ} 0 1 = cc in absurd (omega arith)
charges_made i (n ∷ ns) a [] ran same each = let z : ◌≡◌ {A = ℕ} 0 1 = cc in absurd (omega arith)
charges_made i (n ∷ ns) a (e ∷ es) ran same each =
    let one : e.call ≡ on_objects (objects.charge_more i n) = cc in
    let rest : map (λ (e : Made). e.call) es ≡ map (λ (n : ℕ). on_objects (objects.charge_more i n)) ns = cc in
    (record { call = one; is_lent = each.0; ensures = ran.0; bytes = each.1 }, charges_made i ns e.left es ran.1 rest each.2)

-- What a call of the registry answers and leaves.

registry_sound : (a : List ℕ) → sound_area a ≡ true → sound (decode a).registry ≡ true
registry_sound a s = sound_shown (decode a).registry (area_sound a s).registry

abbrev reply : objects.Call → List ℕ → RegistryReply
reply c a = registry_runs.run c (decode a).registry

module _ {c : objects.Call} {a : List ℕ} {e : Made} (M : Makes c a e) where
  given : sound_area a ≡ true → GivenAs e (run (on_objects c) (decode a))
  given s = subst (λ (k : Call). GivenAs e (run k (decode a))) M.call ((demand1.calls a e M.ensures).served M.is_lent s)

  answers : sound_area a ≡ true → e.returned ≡ (reply c a).number
  answers s = (given s).number

  leaves : sound_area a ≡ true → Is e.left (with_registry (reply c a).after (decode a))
  leaves s = (given s).area

  -- a damaged area
  refuses : sound_area a ≡ false → e.returned ≡ 1
  refuses s = ((demand1.calls a e M.ensures).damaged M.is_lent s).number

  stays : sound_area a ≡ false → e.left ≡ a
  stays s = ((demand1.calls a e M.ensures).damaged M.is_lent s).area

  refused_no : sound_area a ≡ false → eqb e.returned 0 ≡ false
  refused_no s = ap (λ (m : ℕ). eqb m 0) (refuses s)

  -- where a call is accepted the area is sound
  accepted_sound : e.returned ≡ 0 → sound_area a ≡ true
  accepted_sound q = test (sound_area a) (λ s. s) (λ s. absurd (eqb-false e.returned 0 (refused_no s) q))

-- two calls, the second on what the first left
module _ {c d : objects.Call} {a : List ℕ} {e f : Made} (M : Makes c a e) (N : Makes d e.left f) (s : sound_area a ≡ true) where
  left_sound : sound_area e.left ≡ true
  left_sound = (leaves M s).sound

  left_registry : (decode e.left).registry ≡ (reply c a).after
  left_registry = ap (λ (b : Board). b.registry) (leaves M s).same

  answers_next : f.returned ≡ (registry_runs.run d (reply c a).after).number
  answers_next = answers N left_sound ∙ ap (λ (r : Registry). (registry_runs.run d r).number) left_registry

  leaves_next : Is f.left (with_registry (registry_runs.run d (reply c a).after).after (decode a))
  leaves_next = let l = leaves N left_sound in
      record { sound = l.sound; same = l.same ∙ ap (λ (b : Board). with_registry (registry_runs.run d b.registry).after b) (leaves M s).same }

-- areas that say boards alike in all but the registry, and the registries are equal
same_bytes : (w : Board) (x y : Registry) {a b : List ℕ} → Is a (with_registry x w) → Is b (with_registry y w) → x ≡ y → Bytes a → Bytes b → a ≡ b
same_bytes w x y {a} {b} p q h = exact a b p.sound q.sound (p.same ∙ ap (λ (r : Registry). with_registry r w) h ∙ sym q.same)

itself : {a : List ℕ} → sound_area a ≡ true → Is a (with_registry (decode a).registry (decode a))
itself s = record { sound = s; same = refl }

-- A charge, or an uncharge, writes no answer word, whatever it answers.

module _ (i n : ℕ) (a : List ℕ) (e : Made) where
  abbrev r : Registry
  r = (decode a).registry

  silent : {c : objects.Call} → Makes c a e → (reply c a).value ≡ None → e.words' ≡ e.words
  silent M h = test (sound_area a)
      (λ s. let g = given M s in g.written ∙ no_value_written g.answer e.words (g.value ∙ ap lift_value h))
      (λ s. ((demand1.calls a e M.ensures).damaged M.is_lent s).words)

  pub charge_writes_no_word : Makes (objects.charge_more i n) a e → e.words' ≡ e.words
  charge_writes_no_word M = silent M (asked (λ z. z.value ≡ None) (has r i) refl λ h. asked (λ z. z.value ≡ None) (leb n (free (account_of r (payer_of r i)))) refl λ k. refl)

  pub uncharge_writes_no_word : Makes (objects.uncharge i n) a e → e.words' ≡ e.words
  uncharge_writes_no_word M = silent M (asked (λ z. z.value ≡ None) (has r i) refl λ h. asked (λ z. z.value ≡ None) (leb n (entry r i).charge) refl λ k. refl)

-- One charge, of 0 or on a missing object, on a sound area: 0 and 7, and every byte stays.

module _ (i : ℕ) (a : List ℕ) (e : Made) (bytes : Bytes a) (s : sound_area a ≡ true) where
  unmoved : (n m : ℕ) → Makes (objects.charge_more i n) a e → (reply (objects.charge_more i n) a).number ≡ m → left_by i n (decode a).registry ≡ (decode a).registry
      → (e.returned ≡ m) × (e.left ≡ a)
  unmoved n m E answered stays = (
    answers E s ∙ answered,
    same_bytes (decode a) (left_by i n (decode a).registry) (decode a).registry (leaves E s) (itself s) stays E.bytes bytes,
  )

  -- whatever is free
  pub nothing : Makes (objects.charge_more i 0) a e → has (decode a).registry i ≡ true → (e.returned ≡ 0) × (e.left ≡ a)
  nothing E h = let z = charging.nothing i (decode a).registry h in unmoved 0 0 E (ap (λ (z : RegistryReply). z.number) z) (ap (λ (z : RegistryReply). z.after) z)

  -- whatever the amount
  pub missing : (n : ℕ) → Makes (objects.charge_more i n) a e → has (decode a).registry i ≡ false → (e.returned ≡ 7) × (e.left ≡ a)
  missing n E h = let z = asks.charge_more_missing i n (decode a).registry h in unmoved n 7 E (ap (λ (z : RegistryReply). z.number) z) (ap (λ (z : RegistryReply). z.after) z)

-- Two charges on one object, e of x and then f of y, against one of their sum, g.

module _ (i x y : ℕ) (a : List ℕ) (e g : Made) (E : Makes (objects.charge_more i x) a e) (G : Makes (objects.charge_more i (x + y)) a g) where
  -- where x fails, x + y fails with its number, and both leave every byte
  pub first_fails : Bytes a → (e.returned ≡ 0 → ⊥) → (g.returned ≡ e.returned) × (e.left ≡ a) × (g.left ≡ a)
  first_fails bytes q = test (sound_area a)
      (λ s. let r = (decode a).registry in
      let k : passes i x r ≡ false = ne_eqb _ 0 (λ z. q (answers E s ∙ z)) in
      let alike = charging.first_fails i r x y k in
      let stays_a : left_by i x r ≡ r = charging.refused_stays i x r k in (
        answers G s ∙ ap (λ (z : RegistryReply). z.number) alike ∙ sym (answers E s),
        same_bytes (decode a) (left_by i x r) r (leaves E s) (itself s) stays_a E.bytes bytes,
        same_bytes (decode a) (left_by i (x + y) r) r (leaves G s) (itself s) (ap (λ (z : RegistryReply). z.after) alike ∙ stays_a) G.bytes bytes,
      ))
      (λ s. (refuses G s ∙ sym (refuses E s), stays E s, stays G s))

module _ (i x y : ℕ) (a : List ℕ) (e f g : Made) (E : Makes (objects.charge_more i x) a e) (F : Makes (objects.charge_more i y) e.left f)
    (G : Makes (objects.charge_more i (x + y)) a g) where
  -- "`charge_more` of a and then b is accepted throughout exactly when a + b is"
  pub added : (eqb e.returned 0 && eqb f.returned 0) ≡ eqb g.returned 0
  added = test (sound_area a)
      (λ s. ap (λ (m : ℕ). eqb m 0 && eqb f.returned 0) (answers E s) ∙ ap (λ (m : ℕ). passes i x (decode a).registry && eqb m 0) (answers_next E F s)
      ∙ charging.added i (decode a).registry (registry_sound a s) x y ∙ sym (ap (λ (m : ℕ). eqb m 0) (answers G s)))
      (λ s. ap (λ (z : Bool). z && eqb f.returned 0) (refused_no E s) ∙ sym (refused_no G s))

  -- where x passes, y is answered with the number of x + y
  pub numbered : e.returned ≡ 0 → f.returned ≡ g.returned
  numbered p =
      let s = accepted_sound E p in
      answers_next E F s ∙ charging.numbered i (decode a).registry (registry_sound a s) x y (eq-eqb _ 0 (sym (answers E s) ∙ p)) ∙ sym (answers G s)

  -- ".. and leaves the same state", every byte of it
  pub same : g.returned ≡ 0 → f.left ≡ g.left
  same q =
      let s = accepted_sound G q in
      let pass = eq-eqb _ 0 (sym (answers G s) ∙ q) in
      same_bytes (decode a) (left_by i y (left_by i x (decode a).registry)) (left_by i (x + y) (decode a).registry) (leaves_next E F s) (leaves G s)
      (ap (λ (z : RegistryReply). z.after) (charging.same i (decode a).registry (registry_sound a s) x y pass)) F.bytes G.bytes

  -- "Where a passes and b fails, the state keeps a": y is refused with 12 and leaves every byte that x left; so is x + y, and leaves every byte that was there
  pub kept : Bytes a → e.returned ≡ 0 → (f.returned ≡ 0 → ⊥) → (f.returned ≡ 12) × (f.left ≡ e.left) × (g.returned ≡ 12) × (g.left ≡ a)
  kept bytes p q =
      let s = accepted_sound E p in
      let r = (decode a).registry in
      let (second_kept, whole_kept) = charging.kept i r (registry_sound a s) x y (eq-eqb _ 0 (sym (answers E s) ∙ p)) (ne_eqb _ 0 (λ z. q (answers_next E F s ∙ z))) in (
        answers_next E F s ∙ ap (λ (z : RegistryReply). z.number) second_kept,
        same_bytes (decode a) (left_by i y (left_by i x r)) (left_by i x r) (leaves_next E F s) (leaves E s) (ap (λ (z : RegistryReply). z.after) second_kept) F.bytes E.bytes,
        answers G s ∙ ap (λ (z : RegistryReply). z.number) whole_kept,
        same_bytes (decode a) (left_by i (x + y) r) r (leaves G s) (itself s) (ap (λ (z : RegistryReply). z.after) whole_kept) G.bytes bytes,
      )

-- "An accepted charge followed by its uncharge restores the state": it is accepted too, and every byte is as it was
pub restored : (i x : ℕ) (a : List ℕ) (e f : Made) → Makes (objects.charge_more i x) a e → Makes (objects.uncharge i x) e.left f → Bytes a → e.returned ≡ 0
    → (f.returned ≡ 0) × (f.left ≡ a)
restored i x a e f E F bytes p =
    let s = accepted_sound E p in
    let r = (decode a).registry in
    let back = charging.restored i r (registry_sound a s) x (eq-eqb _ 0 (sym (answers E s) ∙ p)) in (
      answers_next E F s ∙ ap (λ (z : RegistryReply). z.number) back,
      same_bytes (decode a) (registry_runs.run (objects.uncharge i x) (left_by i x r)).after r (leaves_next E F s) (itself s) (ap (λ (z : RegistryReply). z.after) back) F.bytes bytes,
    )

-- Two charges on two objects: e on i and then f on j, against f' on j and then e' on i.

module _ (i j x y : ℕ) (a : List ℕ) (e f f' e' : Made) (E : Makes (objects.charge_more i x) a e) (F : Makes (objects.charge_more j y) e.left f)
    (F' : Makes (objects.charge_more j y) a f') (E' : Makes (objects.charge_more i x) f'.left e') where
  -- "Two charges on objects of different payers give the same answers and state in either order", accepted or refused, the objects there or not: numbers and bytes; no answer word
  -- is written (`charge_writes_no_word`)
  pub either_order : (sound_area a ≡ true → payers_differ (decode a).registry i j ≡ true) → (e.returned ≡ e'.returned) × (f.returned ≡ f'.returned) × (f.left ≡ e'.left)
  either_order d = test (sound_area a)
      (λ s. let r = (decode a).registry in
      let (first_same, second_same, state) = charging.either_order i j r (d s) x y in (
        answers E s ∙ ap (λ (z : ℕ × Option Value). z.0) first_same ∙ sym (answers_next F' E' s),
        answers_next E F s ∙ ap (λ (z : ℕ × Option Value). z.0) second_same ∙ sym (answers F' s),
        same_bytes (decode a) (left_by j y (left_by i x r)) (left_by i x (left_by j y r)) (leaves_next E F s) (leaves_next F' E' s) state F.bytes E'.bytes,
      ))
      (λ s. let t : sound_area e.left ≡ false = ap sound_area (stays E s) ∙ s in
      let t' : sound_area f'.left ≡ false = ap sound_area (stays F' s) ∙ s in (
        refuses E s ∙ sym (refuses E' t'),
        refuses F t ∙ sym (refuses F' s),
        stays F t ∙ stays E s ∙ sym (stays E' t' ∙ stays F' s),
      ))

  -- a missing id, i, answers 7 in both orders, and the other what it answers alone
  pub missing_either_order : sound_area a ≡ true → has (decode a).registry i ≡ false
      → (e.returned ≡ 7) × (e'.returned ≡ 7) × (f.returned ≡ f'.returned) × (f.left ≡ e'.left)
  missing_either_order s h =
      let seven = answers E s ∙ ap (λ (z : RegistryReply). z.number) (asks.charge_more_missing i x (decode a).registry h) in
      let (first_same, second_same, state) = either_order (λ _. charging.differing i j (decode a).registry (λ k. absurd (false≢true (sym h ∙ k)))) in
      (seven, sym first_same ∙ seven, second_same, state)

  -- whatever the payers: accepted one after the other, they are in the other order too, and leave the same bytes
  pub both_either_order : e.returned ≡ 0 → f.returned ≡ 0 → (f'.returned ≡ 0) × (e'.returned ≡ 0) × (f.left ≡ e'.left)
  both_either_order p q =
      let s = accepted_sound E p in
      let r = (decode a).registry in
      let (j_first, i_next, state) = charging.both_either_order i j x y r (registry_sound a s) (eq-eqb _ 0 (sym (answers E s) ∙ p)) (eq-eqb _ 0 (sym (answers_next E F s) ∙ q)) in (
        answers F' s ∙ eqb-true _ 0 j_first,
        answers_next F' E' s ∙ eqb-true _ 0 i_next,
        same_bytes (decode a) (left_by j y (left_by i x r)) (left_by i x (left_by j y r)) (leaves_next E F s) (leaves_next F' E' s) state F.bytes E'.bytes,
      )

-- Lists of charges on one object.

list_is : (i : ℕ) (ns : List ℕ) (a : List ℕ) (es : List Made) → Charges i ns a es → sound_area a ≡ true
    → (all_accepted es ≡ all_pass i ns (decode a).registry) × Is (last es a) (with_registry (left_by_all i ns (decode a).registry) (decode a))
list_is i [] a [] C s = (refl, itself s)
list_is i [] a (e ∷ es) C s = absurd C
list_is i (n ∷ ns) a [] C s = absurd C
list_is i (n ∷ ns) a (e ∷ es) C s =
    let l = leaves C.0 s in
    let (all, left) = list_is i ns e.left es C.1 l.sound in (
      ap (λ (m : ℕ). eqb m 0 && all_accepted es) (answers C.0 s)
          ∙ ap (λ (z : Bool). passes i n (decode a).registry && z) (all ∙ ap (λ (b : Board). all_pass i ns b.registry) l.same),
      record { sound = left.sound; same = left.same ∙ ap (λ (b : Board). with_registry (left_by_all i ns b.registry) b) l.same },
    )

refusal_is : (i : ℕ) (ns : List ℕ) (a : List ℕ) (es : List Made) → Charges i ns a es → sound_area a ≡ true → first_refusal es ≡ charges.first_refusal i ns (decode a).registry
refusal_is i [] a [] C s = refl
refusal_is i [] a (e ∷ es) C s = absurd C
refusal_is i (n ∷ ns) a [] C s = absurd C
refusal_is i (n ∷ ns) a (e ∷ es) C s =
    let l = leaves C.0 s in
    ap (λ (m : ℕ). cond (eqb m 0) (first_refusal es) m) (answers C.0 s)
    ∙ ap (λ (m : ℕ). cond (passes i n (decode a).registry) m (reply (objects.charge_more i n) a).number)
    (refusal_is i ns e.left es C.1 l.sound ∙ ap (λ (b : Board). charges.first_refusal i ns b.registry) l.same)

last_bytes : (i n : ℕ) (ns : List ℕ) (a : List ℕ) (es : List Made) → Charges i (n ∷ ns) a es → Bytes (last es a)
last_bytes i n ns a [] C = absurd C
last_bytes i n [] a (e ∷ []) C = C.0.bytes
last_bytes i n [] a (e ∷ f ∷ fs) C = absurd C.1
last_bytes i n (m ∷ ms) a (e ∷ es) C = last_bytes i m ms e.left es C.1

bytes_after : (i : ℕ) (ns : List ℕ) (a : List ℕ) (es : List Made) → Bytes a → Charges i ns a es → Bytes (last es a)
bytes_after i [] a [] bytes C = bytes
bytes_after i [] a (e ∷ es) bytes C = absurd C
bytes_after i (n ∷ ns) a es bytes C = last_bytes i n ns a es C

-- a damaged area refuses the first
none_accepted : (i n : ℕ) (ns : List ℕ) (a : List ℕ) (es : List Made) → Charges i (n ∷ ns) a es → sound_area a ≡ false → all_accepted es ≡ false
none_accepted i n ns a [] C s = absurd C
none_accepted i n ns a (e ∷ es) C s = ap (λ (z : Bool). z && all_accepted es) (refused_no C.0 s)

first_refused : (i n : ℕ) (ns : List ℕ) (a : List ℕ) (es : List Made) → Charges i (n ∷ ns) a es → sound_area a ≡ false → first_refusal es ≡ 1
first_refused i n ns a [] C s = absurd C
first_refused i n ns a (e ∷ es) C s = ap (λ (m : ℕ). cond (eqb m 0) (first_refusal es) m) (refuses C.0 s)

-- a limit is a word of the area
limit_below : (a : List ℕ) → Bytes a → sound_area a ≡ true → (p : ℕ) → (account_of (decode a).registry p).memory_limit < 2 ^ 64
unfolding registry_part
limit_below a bytes s p = go (at (decode a).registry.rows p) refl
  where
    place : (m : List (Row Entry)) (e : Entry) → at m p ≡ Some e → (j : ℕ) × (j < length m) × ((get_or m j no_row).it ≡ e)
    place [] e h = let z : ◌≡◌ {A = ℕ} 0 1 = cc in absurd (omega arith)
    place (r ∷ m) e h = test (eqb r.id p)
        (λ d. let q : Some r.it ≡ Some e = rw d at h in (0, omega arith, cc))
        (λ d. let (j, k, q) = place m e (rw d at h) in (suc j, omega arith, q))

    go : (o : Option Entry) → at (decode a).registry.rows p ≡ o → (or_missing o).account.memory_limit < 2 ^ 64
    go None h = omega arith
    go (Some e) h =
        let k = area_formed a s in
        let (j, within, q) = place (decode a).registry.rows e h in
        subst (λ (x : Entry). x.account.memory_limit < 2 ^ 64) q
        (limit_fits (registry_part a) (sound_laid (registry_part a) k.registry.sound) (part_bytes 0 45_072 a (omega (arith, k.size)) bytes) j within)

-- a list of charges es, against one of their sum
module _ (i n : ℕ) (ns : List ℕ) (a : List ℕ) (es : List Made) (C : Charges i (n ∷ ns) a es) where
  module _ (g : Made) (G : Makes (objects.charge_more i (sum (n ∷ ns))) a g) where
    pub list_added : all_accepted es ≡ eqb g.returned 0
    list_added = test (sound_area a)
        (λ s. (list_is i (n ∷ ns) a es C s).0 ∙ charging.all_added i n ns (decode a).registry (registry_sound a s) ∙ sym (ap (λ (m : ℕ). eqb m 0) (answers G s)))
        (λ s. none_accepted i n ns a es C s ∙ sym (refused_no G s))

    -- the first refusal has the number of the sum's
    pub list_numbered : first_refusal es ≡ g.returned
    list_numbered = test (sound_area a)
        (λ s. refusal_is i (n ∷ ns) a es C s ∙ charging.all_numbered i n ns (decode a).registry (registry_sound a s) ∙ sym (answers G s))
        (λ s. first_refused i n ns a es C s ∙ sym (refuses G s))

    pub list_same : g.returned ≡ 0 → last es a ≡ g.left
    list_same q =
        let s = accepted_sound G q in
        let r = (decode a).registry in
        let (all, left) = list_is i (n ∷ ns) a es C s in
        same_bytes (decode a) (left_by_all i (n ∷ ns) r) (left_by i (sum (n ∷ ns)) r) left (leaves G s)
        (charging.all_same i n ns r (registry_sound a s) (sym all ∙ list_added ∙ eq-eqb g.returned 0 q)) (last_bytes i n ns a es C) G.bytes

  -- amounts with a sum of 2^64 or more, which is no argument, are not accepted throughout either
  pub list_too_large : Bytes a → 2 ^ 64 ≤ sum (n ∷ ns) → all_accepted es ≡ false
  list_too_large bytes h = test (sound_area a)
      (λ s. let r = (decode a).registry in
      (list_is i (n ∷ ns) a es C s).0 ∙ charging.all_added i n ns r (registry_sound a s)
      ∙ test (passes i (sum (n ∷ ns)) r)
      (λ k. absurd (omega (arith, charging.covered i (sum (n ∷ ns)) r k, limit_below a bytes s (payer_of r i))))
      (λ k. k))
      (none_accepted i n ns a es C)

-- no order of the charges matters: accepted throughout in one, they are in the other, and leave the same bytes
module _ (i : ℕ) (ns ms : List ℕ) (h : Reordered ns ms) (a : List ℕ) (es fs : List Made) (C : Charges i ns a es) (D : Charges i ms a fs) (bytes : Bytes a) where
  in_order : sound_area a ≡ true → (all_accepted es ≡ all_accepted fs) × (all_accepted es ≡ true → last es a ≡ last fs a)
  in_order s =
      let r = (decode a).registry in
      let (all, left) = list_is i ns a es C s in
      let (all', left') = list_is i ms a fs D s in
      let (alike, state) = charging.no_order i ns ms r (registry_sound a s) h in (
        all ∙ alike ∙ sym all',
        λ k. same_bytes (decode a) (left_by_all i ns r) (left_by_all i ms r) left left' (state (sym all ∙ k)) (bytes_after i ns a es bytes C) (bytes_after i ms a fs bytes D),
      )

  damaged : sound_area a ≡ false → (all_accepted es ≡ all_accepted fs) × (all_accepted es ≡ true → last es a ≡ last fs a)
  damaged s = go ns ms es fs C D h
    where
      go : (ns ms : List ℕ) (es fs : List Made) → Charges i ns a es → Charges i ms a fs → Reordered ns ms
          → (all_accepted es ≡ all_accepted fs) × (all_accepted es ≡ true → last es a ≡ last fs a)
      go [] [] [] [] C D h = (refl, λ _. refl)
      go (n ∷ ns) (m ∷ ms) es fs C D h =
          (none_accepted i n ns a es C s ∙ sym (none_accepted i m ms a fs D s), λ k. absurd (false≢true (sym (none_accepted i n ns a es C s) ∙ k)))
      go [] (m ∷ ms) es fs C D h = absurd (charging.not_empty m ms (λ n. sym (h n)))
      go (n ∷ ns) [] es fs C D h = absurd (charging.not_empty n ns h)
      go [] [] (e ∷ es) fs C D h = absurd C
      go [] [] [] (f ∷ fs) C D h = absurd D

  pub order_accepted : all_accepted es ≡ all_accepted fs
  order_accepted = test (sound_area a) (λ s. (in_order s).0) (λ s. (damaged s).0)

  pub order_same : all_accepted es ≡ true → last es a ≡ last fs a
  order_same = test (sound_area a) (λ s. (in_order s).1) (λ s. (damaged s).1)
