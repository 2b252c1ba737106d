-- What the proofs of the functions share: what the answer of a call tells of the test that it computes. Assumes nothing.
use mathlib.Core.Bool.{Bool, true, false, not}
use mathlib.Core.Path.{◌≡◌, sym, ◌∙◌}
use Rattle.std.specs.Prelude.{Option, Some, Result, Ok}
use Rattle.std.proofs.Common.{ap}
use Rattle.std.specs.Result.{result_ok}
use borrow.Author.Tests.{not-true, not-false, le-leb, lt-leb, eq-eqb, ne_eqb}
use borrow.Author.Rules.{rules}
use Rattle.carv_objects.specs.Laws.Entry.{entry_sound, entry_refused, entry_served}
use Rattle.carv_budget.proofs.Laws.Account.{both, not_first, not_second}

-- what `ok_or` and then `?` found, p: there was something, or nothing
pub met : {A E : Type 0} {p : Option A} {q : Result A E} → p ≡ result_ok q → {x : A} → q ≡ Ok x → p ≡ Some x
met e k = e ∙ ap result_ok k

pub turned : (a b : Bool) → a ≡ b → b ≡ a
turned a b p = sym p

-- `!f(..)` was true, or false
pub said_not : (r b : Bool) → r ≡ b → not r ≡ true → b ≡ false
said_not r b p q = sym p ∙ not-true r q

pub said_so : (r b : Bool) → r ≡ b → not r ≡ false → b ≡ true
said_so r b p q = sym p ∙ not-false r q

-- for a function that answers a test
pub ruleset tests = (both, not_first, not_second, turned, said_not, said_so, le-leb, lt-leb, eq-eqb, ne_eqb, rules)

-- for an entry point, which asks question 1 and then calls
pub ruleset entry = (entry_sound, entry_refused, entry_served, rules)
