-- `create_user_thread` with its register image: "An accepted creation fills the lent area". Assumes nothing.
use Rattle.std.specs.Prelude.{◌≡◌, ℕ, true, false, cond, List, length, ◌==◌, nat_eq, Result, Err}
use Rattle.carv_objects.specs.declared.refusal.Refusal.{Refusal}
use Rattle.carv_objects.specs.declared.refusal.Refusal.TheVariants.{Unsound}
use Rattle.carv_scheduler_spec.specs.Scheduler.{Board, BoardReply}
use Rattle.carv_scheduler.specs.Area.{Answered}
use Rattle.carv_register_image.specs.Image.{image_size, register_image}
use Rattle.carv_objects.specs.Answer.{number}
use Rattle.carv_scheduler.specs.Answer.{nothing}

-- What the call answers, r, and leaves, a' and m', of the area a and the image m: another length of the image is refused with 1, and nothing changes; else the area goes
-- by the call, and the image is filled if that was accepted
pub record Created (call : Board → BoardReply) (a m : List ℕ) (r : Result (Unit {0}) Refusal) (a' m' : List ℕ) : Type 0 where
  pub size : nat_eq (length m) image_size ≡ false → (r ≡ Err Unsound) × (a' ≡ a) × (m' ≡ m)
  pub served : nat_eq (length m) image_size ≡ true → Answered call nothing a r a'
  pub image : nat_eq (length m) image_size ≡ true → m' ≡ cond (number r == 0) register_image m
