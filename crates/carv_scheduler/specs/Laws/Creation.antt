-- From the inner creation to its entry point, by whether the image is of its length and the thread was created. Assumes nothing.
use Rattle.std.specs.Prelude.{◌≡◌, ℕ, false, List, length, ◌≢◌, ◌==◌, refl, Result, Ok, Err}
use Rattle.std.proofs.Common.{sym, ◌∙◌, subst, eqb-true}
use Rattle.std.proofs.lemmas.Bool.{eqb-false}
use Rattle.carv_objects.specs.declared.refusal.Refusal.{Refusal}
use Rattle.carv_objects.specs.declared.refusal.Refusal.TheVariants.{Unsound, Share, Tick, Code, Id, Full, Missing, State, Root, Pays, Charge, Limit, Kind, Backing}
use Rattle.carv_objects.specs.Refusal.{refusal_number}
use Rattle.carv_scheduler_spec.specs.Scheduler.{Board, BoardReply}
use Rattle.carv_scheduler.specs.Area.{Answered}
use Rattle.carv_register_image.specs.Image.{register_image}
use Rattle.carv_scheduler.specs.Answer.{nothing}
use Rattle.carv_scheduler.specs.Creating.{Created}

-- a refusal is not accepted
not_accepted : (e : Refusal) → (refusal_number e == 0) ≡ false
not_accepted Unsound = refl
not_accepted Share = refl
not_accepted Tick = refl
not_accepted Code = refl
not_accepted Id = refl
not_accepted Full = refl
not_accepted Missing = refl
not_accepted State = refl
not_accepted Root = refl
not_accepted Pays = refl
not_accepted Charge = refl
not_accepted Limit = refl
not_accepted Kind = refl
not_accepted Backing = refl

module _ (call : Board → BoardReply) (a m : List ℕ) where
  pub created_size : (length m ≢ 512) → Created call a m (Err Unsound) a m
  created_size n = record { size = λ q. (refl, refl, refl); served = λ q. absurd (n (eqb-true (length m) 512 q)); image = λ q. absurd (n (eqb-true (length m) 512 q)) }

  module _ (e : length m ≡ 512) where
    -- accepted, and the image filled
    pub created_filled : (q : Result (Unit {0}) Refusal) (u : Unit {0}) → q ≡ Ok u → (a' : List ℕ) → Answered call nothing a q a' → (m' : List ℕ) → m' ≡ register_image → Created call a m (Ok tt) a' m'
    created_filled q u k a' h m' f = record {
      size = λ z. absurd (eqb-false (length m) 512 z e);
      served = λ z. subst (λ (r : Result (Unit {0}) Refusal). Answered call nothing a r a') k h;
      image = λ z. f;
    }

    -- refused, which a `?` hands on, and the image as it came
    pub created_refused : (n : Refusal) (q : Result (Unit {0}) Refusal) → q ≡ Err n → (a' : List ℕ) → Answered call nothing a q a' → (r : Result (Unit {0}) Refusal) → r ≡ Err n → Created call a m r a' m
    created_refused n q k a' h r g = record {
      size = λ z. absurd (eqb-false (length m) 512 z e);
      served = λ z. subst (λ (x : Result (Unit {0}) Refusal). Answered call nothing a x a') (k ∙ sym g) h;
      image = λ z. rw (g, not_accepted n);
    }
