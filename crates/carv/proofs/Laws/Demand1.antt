-- Demand 1 is proved: the C functions' contracts piece by piece, then that a refusal writes nothing and that each byte left is fixed. Assumes nothing.
use Rattle.std.specs.Prelude.{◌≡◌, refl, Bool, true, false, cond, ◌&&◌, List, ℕ, ◌≤◌, eqb, leb, length, Option, Some, None, Result, Ok, Err}
use Rattle.std.proofs.Common.{sym, ap, ◌∙◌, subst, true≢false, arith, ne_eqb, leb-true}
use Rattle.carv_area.specs.Laws.Table.{test}
use Rattle.carv_budget.specs.Account.{period}
use Rattle.carv_budget.proofs.Laws.Account.{first, second}
use Rattle.carv_objects.specs.declared.refusal.Refusal.{Refusal}
use Rattle.carv_objects.specs.declared.refusal.Refusal.TheVariants.{Unsound, Share}
use Rattle.carv_objects.specs.Refusal.{refusal_number}
use Rattle.carv_objects.specs.Answer.{number}
use Rattle.carv_scheduler_spec.specs.Scheduler.{Board, Value, opening}
use Rattle.carv_scheduler.specs.Answer.{nothing}
use Rattle.carv.proofs.Laws.Reporting.{told, told_answered, told_number, told_reported}
use Rattle.carv_scheduler.specs.Area.{decode, sound_area, Is, Answered}
use Rattle.carv.specs.C.{itself, reported, Exported, ExportedWithImage, Opens, has_image, Made, Ensures, with_image, plain, lent}
use Rattle.carv_scheduler_spec.specs.Book.{Call}
use Rattle.carv_scheduler_spec.specs.Runs.{run}
use Rattle.carv.specs.Demands.{GivenAs, NothingChanged, Bytes, NothingWritten, OfCall, OfOpening, OfImage, OfQuestion1, Demand1}
use Rattle.carv_register_image.specs.Image.{register_image}
use Rattle.carv_scheduler.specs.Image.{Filled}
use Rattle.carv_scheduler.specs.Laws.AreaExact.{exact}
use Rattle.carv_scheduler_spec.specs.Demand1.{renewal_left, with_renewal}
use Rattle.carv_scheduler_spec.proofs.Laws.Demand1.{leaves, one_renews_not}

-- What the contracts give of a call, question by question.
pub record Pieces (a : List ℕ) (e : Made) : Type 0 where
  pub lengths : lent e ≡ false → NothingChanged a e
  pub damaged : lent e ≡ true → sound_area a ≡ false → NothingChanged a e
  pub served : lent e ≡ true → sound_area a ≡ true → GivenAs e (run e.call (decode a))
  pub image : lent e ≡ true → e.image' ≡ cond (has_image e.call && eqb e.returned 0) register_image e.image

-- an answer x of which `Answered` holds
module _ (a : List ℕ) (e : Made) (x : Result (Option Value) Refusal) (h : Answered (run e.call) itself a x e.left) (n : e.returned ≡ number x) (w : e.words' ≡ reported itself x e.words) where
  answered_given : sound_area a ≡ true → GivenAs e (run e.call (decode a))
  answered_given s =
      let v = h.served s in
      record { answer = x; returned = n; number = n ∙ v.number; value = v.value; written = w; area = v.area }

  answered_not : sound_area a ≡ false → (e.returned ≡ 1) × (e.left ≡ a) × (e.words' ≡ e.words)
  answered_not s =
      let (q, u) = h.refused s in
      (n ∙ ap number q, u, w ∙ ap (λ (y : Result (Option Value) Refusal). reported itself y e.words) q)

-- demand 1 of a call with an image, and of one without
with_image_1 : (a : List ℕ) (e : Made) → has_image e.call ≡ true → ExportedWithImage e.call a e.image e.words e.returned e.left e.image' e.words' → Pieces a e
with_image_1 a e c h =
    let is_lent : lent e ≡ (eqb (length e.words) 20 && eqb (length e.image) 512) = rw c in
    record {
      lengths = λ n. test (eqb (length e.words) 20)
          (λ y. let z : eqb (length e.image) 512 ≡ false = rw (is_lent, y) at n in
          let r = h.reports y in
          let (q, u, v) = r.said.size z in
          record { number = r.number ∙ ap number q; area = u; words = r.values ∙ ap (λ (x : Result (Unit {0}) Refusal). reported nothing x e.words) q; image = v })
          (λ y. let (q, u, v, w) = h.size y in record { number = q; area = u; words = w; image = v });
      damaged = λ y s.
          let (y₁, y₂) = parts (rw is_lent at y) in
          let r = h.reports y₁ in
          let (q, u, w) = answered_not a e (told nothing r.answer) (told_answered nothing (run e.call) a r.answer e.left (r.said.served y₂)) (r.number ∙ sym (told_number nothing r.answer)) (r.values ∙ sym (told_reported nothing r.answer e.words)) s in
          let z : eqb (number r.answer) 0 ≡ false = rw (← r.number, q) in
          record { number = q; area = u; words = w; image = r.said.image y₂ ∙ rw z };
      served = λ y s.
          let (y₁, y₂) = parts (rw is_lent at y) in
          let r = h.reports y₁ in
          answered_given a e (told nothing r.answer) (told_answered nothing (run e.call) a r.answer e.left (r.said.served y₂)) (r.number ∙ sym (told_number nothing r.answer)) (r.values ∙ sym (told_reported nothing r.answer e.words)) s;
      image = λ y.
          let (y₁, y₂) = parts (rw is_lent at y) in
          let r = h.reports y₁ in rw (c, r.number) (r.said.image y₂);
    }
  where
    parts : (eqb (length e.words) 20 && eqb (length e.image) 512) ≡ true → (eqb (length e.words) 20 ≡ true) × (eqb (length e.image) 512 ≡ true)
    parts y = (first (eqb (length e.words) 20) (eqb (length e.image) 512) y, second (eqb (length e.words) 20) (eqb (length e.image) 512) y)

plain_1 : (a : List ℕ) (e : Made) → has_image e.call ≡ false → Exported e.call a e.words e.returned e.left e.words' → e.image' ≡ e.image → Pieces a e
plain_1 a e c h m = record {
  lengths = λ n. (let (q, u, w) = h.size (not_lent n) in record { number = q; area = u; words = w; image = m });
  damaged = λ y s.
      let r = h.reports (is_lent y) in
      let (q, u, w) = answered_not a e r.answer r.said r.number r.values s in
      record { number = q; area = u; words = w; image = m };
  served = λ y s. (let r = h.reports (is_lent y) in answered_given a e r.answer r.said r.number r.values s);
  image = λ y. m ∙ rw c;
}
  where
    is_lent : lent e ≡ true → eqb (length e.words) 20 ≡ true
    is_lent y = first (eqb (length e.words) 20) (cond (has_image e.call) (eqb (length e.image) 512) true) y

    not_lent : lent e ≡ false → eqb (length e.words) 20 ≡ false
    not_lent n = test (eqb (length e.words) 20) (λ y. absurd (true≢false (rw (y, c) at n))) (λ y. y)

pub pieces : (a : List ℕ) (e : Made) → Ensures a e → Pieces a e
pieces a e (with_image c h) = with_image_1 a e c h
pieces a e (plain c h m) = plain_1 a e c h m

-- A refusal's answer writes no word.

silent : (x : Result (Option Value) Refusal) (out : List ℕ) → (number x ≡ 0 → ⊥) → reported itself x out ≡ out
silent (Ok v) out h = absurd (h refl)
silent (Err n) out h = refl

-- Each byte that a call leaves is fixed, and a refused one leaves them all.

same_bytes : (a b : List ℕ) (s : Board) → Bytes a → Bytes b → Is a s → Is b s → b ≡ a
same_bytes a b s x y p q = exact b a q.sound p.sound (q.same ∙ sym p.same) y x

-- refused by question 1
nothing_written : (a : List ℕ) (e : Made) → NothingChanged a e → NothingWritten a e
nothing_written a e u = record {
  words = u.words;
  image = u.image;
  area = λ q. u.area;
  renewed = λ i time q r c y h b. absurd (none_some (sym (one_renews_not e.call (decode a)) ∙ ap (λ (n : ℕ). renewal_left e.call n (decode a)) (sym u.number) ∙ q));
}
  where
    none_some : {i time : ℕ} → ◌≡◌ {A = Option (ℕ × ℕ)} None (Some (i, time)) → ⊥
    none_some q = let z : ◌≡◌ {A = ℕ} 0 1 = cc in omega arith

-- refused by another
module _ (a : List ℕ) (e : Made) (p : Pieces a e) (y : lent e ≡ true) (s : sound_area a ≡ true) (h : e.returned ≡ 0 → ⊥) (x : Bytes a) (x' : Bytes e.left) where
  abbrev given : GivenAs e (run e.call (decode a))
  given = p.served y s

  left_is : Is e.left (with_renewal (renewal_left e.call e.returned (decode a)) (decode a))
  left_is = subst (Is e.left)
      ((leaves e.call (decode a)).left (λ q. h (given.number ∙ q)) ∙ ap (λ (n : ℕ). with_renewal (renewal_left e.call n (decode a)) (decode a)) (sym given.number))
      given.area

  unfilled : (b : Bool) → cond (b && false) register_image e.image ≡ e.image
  unfilled true = refl
  unfilled false = refl

  refused_written : NothingWritten a e
  refused_written = record {
    words = given.written ∙ silent given.answer e.words (λ q. h (given.returned ∙ q));
    image = p.image y ∙ rw (ne_eqb e.returned 0 h) (unfilled (has_image e.call));
    area = λ q. same_bytes a e.left (decode a) x x' (record { sound = s; same = refl }) (subst (λ (o : Option (ℕ × ℕ)). Is e.left (with_renewal o (decode a))) q left_is);
    renewed = λ i time q r c z g b.
        let v = (pieces a r g).served z s in
        let w : Is r.left (with_renewal (Some (i, time)) (decode a)) = subst (λ (k : Call). Is r.left (run k (decode a)).after) c v.area in
        same_bytes r.left e.left (with_renewal (Some (i, time)) (decode a)) b x' w
        (subst (λ (o : Option (ℕ × ℕ)). Is e.left (with_renewal o (decode a))) q left_is);
  }

of_call : (a : List ℕ) (e : Made) → Pieces a e → OfCall a e
of_call a e p = record {
  lengths = p.lengths;
  damaged = p.damaged;
  served = p.served;
  image = p.image;
  exact = λ y s x b x' q. same_bytes e.left b (run e.call (decode a)).after x x' (p.served y s).area q;
  refused = λ h x x'. test (lent e)
      (λ y. test (sound_area a) (λ s. refused_written a e p y s h x x') (λ s. nothing_written a e (p.damaged y s)))
      (λ y. nothing_written a e (p.lengths y));
}

-- An accepted opening.

pub opened_is : (cpu memory : ℕ) (a₀ a out out' : List ℕ) → Opens cpu memory a₀ out 0 a out' → (cpu ≤ period) × Is a (opening cpu memory)
opened_is cpu memory a₀ a out out' o = test (eqb (length out) 20)
    (λ y. let r = o.reports y in
    test (eqb (length a₀) 68_144)
    (λ z. test (leb cpu period)
    (λ c. (leb-true cpu period c, (r.said.opened z c).1))
    (λ c. absurd (none_of r.answer Share (omega arith) r.number (r.said.share z c).0)))
    (λ z. absurd (none_of r.answer Unsound (omega arith) r.number (r.said.size z).0)))
    (λ y. absurd (zero_one (o.size y).0))
  where
    zero_one : ◌≡◌ {A = ℕ} 0 1 → ⊥
    zero_one q = omega arith

    none_of : (x : Result (Unit {0}) Refusal) (n : Refusal) → 1 ≤ refusal_number n → 0 ≡ number x → x ≡ Err n → ⊥
    none_of x n h q e = let z : 0 ≡ refusal_number n = q ∙ ap number e in omega arith

-- `carv_open`, by its three cases
of_opening : (cpu memory : ℕ) (a out : List ℕ) (r : ℕ) (a' out' : List ℕ) → Opens cpu memory a out r a' out' → OfOpening cpu memory a out r a' out'
of_opening cpu memory a out r a' out' o = test (eqb (length out) 20)
    (λ y. let R = o.reports y in
    test (eqb (length a) 68_144)
    (λ z. test (leb cpu period)
    (λ c. let (q, i) = R.said.opened z c in
    let n : r ≡ 0 = R.number ∙ ap number q in
    record {
      number = n ∙ rw (y, z, c);
      words = R.values ∙ ap (λ (x : Result (Unit {0}) Refusal). reported nothing x out) q;
      refused = λ h. absurd (h n);
      opened = λ _. i;
      exact = λ _ x b x' k. same_bytes a' b (opening cpu memory) x x' i k;
    })
    (λ c. let (q, u) = R.said.share z c in refused_as (R.number ∙ ap number q ∙ rw (y, z, c)) (R.number ∙ ap number q) (omega arith) u (R.values ∙ ap (λ (x : Result (Unit {0}) Refusal). reported nothing x out) q)))
    (λ z. let (q, u) = R.said.size z in refused_as (R.number ∙ ap number q ∙ rw (y, z)) (R.number ∙ ap number q) (omega arith) u (R.values ∙ ap (λ (x : Result (Unit {0}) Refusal). reported nothing x out) q)))
    (λ y. let (n, u, w) = o.size y in refused_as (n ∙ rw y) n (omega arith) u w)
  where
    refused_as : {n : ℕ} → r ≡ cond (eqb (length out) 20 && eqb (length a) 68_144) (cond (leb cpu period) 0 2) 1 → r ≡ n → 1 ≤ n → a' ≡ a → out' ≡ out → OfOpening cpu memory a out r a' out'
    refused_as m q h u w = record {
      number = m;
      words = w;
      refused = λ _. u;
      opened = λ z. absurd (omega (arith, q, z, h));
      exact = λ z. absurd (omega (arith, q, z, h));
    }

-- `carv_image`, and `carv_is_sound`
of_image : (m : List ℕ) (r : ℕ) (m' : List ℕ) → Filled m r m' → OfImage m r m'
of_image m r m' f = test (eqb (length m) 512)
    (λ y. let (n, u) = f.filled y in record { number = n ∙ rw y; image = u ∙ rw n })
    (λ y. let (n, u) = f.size y in record { number = n ∙ rw y; image = u ∙ rw n })

of_question_1 : (a : List ℕ) (r : Bool) → r ≡ sound_area a → OfQuestion1 a r
of_question_1 a r q = record {
  no = λ n e h. test (lent e) (λ y. ((pieces a e h).damaged y (sym q ∙ n)).number) (λ y. ((pieces a e h).lengths y).number);
  yes = λ n e h y z. (leaves e.call (decode a)).not_one (sym ((pieces a e h).served y (sym q ∙ n)).number ∙ z);
}

-- Demand 1.
pub demand1 : Demand1
demand1 = record {
  calls = λ a e h. of_call a e (pieces a e h);
  opens = of_opening;
  image = of_image;
  is_sound = of_question_1;
}
