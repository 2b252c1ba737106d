-- A call of the registry on the board's area: what it answers and leaves, from what it promises of the registry's part. Assumes nothing.
use Rattle.std.specs.Prelude.{◌≡◌, ℕ, ◌≤◌, true, List, length, Option, Result, Ok, Err, refl}
use Rattle.std.proofs.Math.Path.{ap, subst}
use Rattle.std.proofs.Common.{arith, ◌∙◌}
use Rattle.carv_area.specs.Parts.{part, put_part}
use Rattle.carv_objects.specs.declared.refusal.Refusal.{Refusal}
use Rattle.carv_objects.specs.Answer as told
use Rattle.carv_objects_spec.specs.Reply as objects
use Rattle.carv_objects_spec.specs.Registry.{Registry}
use Rattle.carv_objects_spec.specs.Registry as registry
use Rattle.carv_objects_spec.proofs.Laws.SoundFacts as registry_facts
use Rattle.carv_objects.specs.Area as registry_area
use Rattle.carv_objects.specs.Laws.Calls as registry_calls
use Rattle.carv_scheduler_spec.specs.Scheduler.{with_registry, by_registry, lift_value}
use Rattle.carv_scheduler.specs.Answer.{value, in_board}
use Rattle.carv_scheduler_spec.proofs.Laws.Steps.{registry_kept}
use Rattle.carv_scheduler.specs.Area.{registry_part, decode, sound_area, Serves}
use Rattle.carv_scheduler.specs.Laws.Formed.{registry_written}
use Rattle.carv_scheduler.specs.Laws.AreaLaws.{area_sound, area_formed, asked_told, is_area}

pub part_fits : (a : List ℕ) → sound_area a ≡ true → 45_072 ≤ length a
part_fits a s = omega (arith, (asked_told a s).size)

-- what a call of the registry tells, on the board
in_board_value : {T : Type 0} (tells : T → Option objects.Value) (r : Result T Refusal) → value (in_board tells) r ≡ lift_value (told.value tells r)
in_board_value tells (Ok x) = refl
in_board_value tells (Err e) = refl

-- the registry's part is sound
pub part_sound : (a : List ℕ) → sound_area a ≡ true → registry_area.sound_area (part 0 45_072 a) ≡ true
unfolding registry_part
part_sound a s = (asked_told a s).registry

module _ {T : Type 0} {tells : T → Option objects.Value} (call : Registry → registry.RegistryReply) (a : List ℕ) (s : sound_area a ≡ true) where
  -- a call that was lent the part and left p
  pub part_served : (p : List ℕ) (r : Result T Refusal) → length p ≡ 45_072 → registry_area.Serves call tells (part 0 45_072 a) r p
      → Serves (by_registry call) (in_board tells) a r (put_part 0 45_072 a p)
  unfolding registry_part
  part_served p r z h =
      let n : Registry = (call (registry_area.decode (part 0 45_072 a))).after in
      let k : registry_facts.Sound n = subst registry_facts.Sound h.area.same (registry_calls.area_sound p h.area.sound) in
      record {
        number = h.number;
        value = in_board_value tells r ∙ ap lift_value h.value;
        area = is_area (put_part 0 45_072 a p) (with_registry n (decode a)) (registry_written a (area_formed a s) p n z h.area) (registry_kept n (decode a) k (area_sound a s));
      }

  -- a reading
  pub part_read : (r : Result T Refusal) → registry_area.Serves call tells (part 0 45_072 a) r (part 0 45_072 a) → Serves (by_registry call) (in_board tells) a r a
  unfolding registry_part
  part_read r h = record {
    number = h.number;
    value = in_board_value tells r ∙ ap lift_value h.value;
    area = record { sound = s; same = ap (λ (x : Registry). with_registry x (decode a)) h.area.same };
  }
