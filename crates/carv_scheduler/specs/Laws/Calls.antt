-- How a call's reply is met by what its code leaves: refused with the area as it came, or answered with the new state. Assumes nothing.
use Rattle.std.specs.Prelude.{◌≡◌, ℕ, true, List, Option, Result, Err}
use Rattle.std.proofs.Common.{sym, ap, ◌∙◌, subst}
use Rattle.carv_objects_spec.specs.Reply.{refuse}
use Rattle.carv_objects.specs.declared.refusal.Refusal.{Refusal}
use Rattle.carv_objects.specs.Refusal.{refusal_number}
use Rattle.carv_objects.specs.Answer.{number}
use Rattle.carv_scheduler.specs.Answer.{value}
use Rattle.carv_scheduler_spec.specs.Scheduler.{Board, BoardReply, Value}
use Rattle.carv_scheduler_spec.proofs.Laws.SoundFacts.{Sound}
use Rattle.carv_scheduler.specs.Area.{decode, sound_area, Serves}
use Rattle.carv_scheduler.specs.Laws.Formed.{Leaves, leaves_as}
use Rattle.carv_scheduler.specs.Laws.AreaLaws.{is_area}

module _ {T : Type 0} {tells : T → Option Value} (call : Board → BoardReply) (a : List ℕ) (s : sound_area a ≡ true) where
  -- refused, and left as it came
  pub refused : (n : Refusal) → call (decode a) ≡ refuse (refusal_number n) (decode a) → Serves call tells a (Err n) a
  refused n e = record {
    number = sym (ap (λ (z : BoardReply). z.number) e);
    value = sym (ap (λ (z : BoardReply). z.value) e);
    area = record { sound = s; same = sym (ap (λ (z : BoardReply). z.after) e) };
  }

  -- the same of an answer r that a `?` handed on
  pub refused_by : (n : Refusal) → call (decode a) ≡ refuse (refusal_number n) (decode a) → (r : Result T Refusal) → r ≡ Err n → Serves call tells a r a
  refused_by n e r k = subst (λ (v : Result T Refusal). Serves call tells a v a) (sym k) (refused n e)

  -- answered, with the reply z; `kept` is that the call keeps soundness
  pub answered : (z : BoardReply) → call (decode a) ≡ z → (r : Result T Refusal) → number r ≡ z.number → value tells r ≡ z.value → (a' : List ℕ) → Leaves a' z.after
      → Sound (call (decode a)).after → Serves call tells a r a'
  answered z e r n v a' l kept = record {
    number = n ∙ sym (ap (λ (w : BoardReply). w.number) e);
    value = v ∙ sym (ap (λ (w : BoardReply). w.value) e);
    area = is_area a' (call (decode a)).after (leaves_as a' _ _ (sym (ap (λ (w : BoardReply). w.after) e)) l) kept;
  }

  -- a reading answers with the area as it came
  pub read_serves : (z : BoardReply) → call (decode a) ≡ z → z.after ≡ decode a → (r : Result T Refusal) → number r ≡ z.number → value tells r ≡ z.value → Serves call tells a r a
  read_serves z e q r n v = record {
    number = n ∙ sym (ap (λ (w : BoardReply). w.number) e);
    value = v ∙ sym (ap (λ (w : BoardReply). w.value) e);
    area = record { sound = s; same = sym (ap (λ (w : BoardReply). w.after) e ∙ q) };
  }
