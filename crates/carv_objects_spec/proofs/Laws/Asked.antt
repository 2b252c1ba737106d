-- A call is gone through question by question. Assumes nothing.
use Rattle.std.specs.Prelude.{◌≡◌, refl, Bool, true, false, cond}
use Rattle.carv_objects_spec.specs.Reply.{Reply}

-- where a question is missed the reply is the refusal, else the rest
pub asked : {A S : Type 0} (P : Reply A S → Type 0) (b : Bool) {k missed : Reply A S} → P missed → (b ≡ true → P k) → P (cond b k missed)
asked P true n y = y refl
asked P false n y = n
