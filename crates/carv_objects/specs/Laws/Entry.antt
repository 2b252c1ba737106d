-- From a call on a sound area to its entry point, which asks question 1 in front. Assumes nothing.
use Rattle.std.specs.Prelude.{◌≡◌, refl, Bool, true, false, cond, List, ℕ, Option, Result, Ok, Err}
use Rattle.std.proofs.Common.{sym, ◌∙◌, ap, true≢false}
use Rattle.carv_area.specs.Laws.Table.{test}
use Rattle.carv_objects.specs.declared.refusal.Refusal.{Refusal}
use Rattle.carv_objects.specs.declared.refusal.Refusal.TheVariants.{Unsound}
use Rattle.carv_objects_spec.specs.Reply.{Value}
use Rattle.carv_objects_spec.specs.Registry.{Registry, RegistryReply}
use Rattle.carv_objects.specs.Area.{sound_area, Serves, Answered}

-- what `ask_sound` answers where question 1 is answered b
abbrev pub asked_sound : Bool → Result (Unit {0}) Refusal
asked_sound b = cond b (Ok tt) (Err Unsound)

-- the answer q of `ask_sound`
module _ (a : List ℕ) (q : Result (Unit {0}) Refusal) (is : q ≡ asked_sound (sound_area a)) where
  pub entry_sound : (u : Unit {0}) → q ≡ Ok u → sound_area a ≡ true
  entry_sound u e = test (sound_area a) (λ y. y) (λ n. let z : Ok u ≡ asked_sound false = sym e ∙ is ∙ ap asked_sound n in absurd (cc z))

  entry_unsound : (n : Refusal) → q ≡ Err n → (sound_area a ≡ false) × (n ≡ Unsound)
  entry_unsound n e = test (sound_area a)
      (λ y. let z : Err n ≡ asked_sound true = sym e ∙ is ∙ ap asked_sound y in absurd (cc z))
      (λ y. let z : Err n ≡ asked_sound false = sym e ∙ is ∙ ap asked_sound y in (y, cc z))

  module _ {T : Type 0} {tells : T → Option Value} (call : Registry → RegistryReply) where
    pub entry_refused : (n : Refusal) → q ≡ Err n → (r : Result T Refusal) → r ≡ Err n → Answered call tells a r a
    entry_refused n e r k =
        let (f, z) = entry_unsound n e in
        record { refused = λ _. (k ∙ ap Err z, refl); served = λ y. absurd (true≢false (sym y ∙ f)) }

    pub entry_served : (u : Unit {0}) → q ≡ Ok u → (r : Result T Refusal) (a' : List ℕ) → Serves call tells a r a' → Answered call tells a r a'
    entry_served u e r a' h = record { refused = λ f. absurd (true≢false (sym (entry_sound u e) ∙ f)); served = λ _. h }
