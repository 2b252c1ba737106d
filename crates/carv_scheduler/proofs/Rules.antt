-- What the proofs of the functions share. Assumes nothing.
use Rattle.std.specs.Prelude.{◌≡◌, Option, Some, None, Result, Ok, Err}
use Rattle.std.proofs.Common.{ap, ◌∙◌}
use Rattle.std.specs.Result.{result_ok}
use borrow.Author.Rules.{rules}
use Rattle.carv_scheduler.specs.Laws.Entry.{entry_sound, entry_refused, entry_served}
use Rattle.carv_scheduler.specs.Laws.OnRegistry.{part_fits, part_sound}

-- what `ok_or` and then `?` found, p: there was something, or nothing
pub met : {A E : Type 0} {p : Option A} {q : Result A E} → p ≡ result_ok q → {x : A} → q ≡ Ok x → p ≡ Some x
met e k = e ∙ ap result_ok k

pub missed : {A E : Type 0} {p : Option A} {q : Result A E} → p ≡ result_ok q → {n : E} → q ≡ Err n → p ≡ None
missed e k = e ∙ ap result_ok k

-- for an entry point, which asks question 1 and then calls
pub ruleset entry = (entry_sound, entry_refused, entry_served, rules)

-- for a call of the registry, which is lent its part of the area
pub ruleset lent = (part_fits, part_sound, rules)
