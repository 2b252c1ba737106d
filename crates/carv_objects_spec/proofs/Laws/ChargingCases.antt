-- P7 on three budgets, each carved from the one before, written out: the definitions compute these answers. Assumes nothing.
use Rattle.std.specs.Prelude.{◌≡◌, refl, Bool, true, false, not, ◌&&◌, List, [], ◌∷◌, ℕ, ◌^◌, ◌-◌, eqb, Some}
use Rattle.std.proofs.Common.{arith}
use Rattle.carv_area.specs.Table.{Row}
use Rattle.carv_budget.specs.Account as account
use Rattle.carv_objects_spec.specs.declared.kind.Kind.{Kind}
use Rattle.carv_objects_spec.specs.declared.kind.Kind.TheVariants.{Frame, Endpoint, Budget}
use Rattle.carv_objects_spec.specs.declared.Entry.{Entry}
use Rattle.carv_objects_spec.specs.Reply as reply
use Rattle.carv_objects_spec.specs.Registry.{Registry, entry, account_of, opening, charge_more, uncharge, charge_of}
use Rattle.carv_objects_spec.specs.Sound.{all, sound}
use Rattle.carv_objects_spec.specs.Charging.{passes, left_by, all_pass, left_by_all, first_refusal, sum, times, Reordered, answer, payers_differ}

abbrev budget : (i payer bytes limit used reserved : ℕ) → Row Entry
budget i payer bytes limit used reserved = record {
  id = i;
  it = record { kind = Budget; payer = payer; charge = bytes; account = account.with_memory (account.fresh 0 limit 0) used reserved };
}

abbrev plain : (i : ℕ) (kind : Kind) (payer bytes : ℕ) → Row Entry
plain i kind payer bytes = record { id = i; it = record { kind = kind; payer = payer; charge = bytes; account = account.blank } }

-- The root, 1, with 100,000 bytes, 90,776 of them free; a Frame of it, 2; budget 3 carved from 1, with 5,000 bytes, 476 free; a Frame of 3, 4; budget 5 carved from 3, with 300
-- bytes, 172 free; an Endpoint of 5, 6.
abbrev tree : Registry
tree = record {
  next = 7;
  rows = budget 1 1 0 100_000 4_224 5_000 ∷ plain 2 Frame 1 4_096 ∷ budget 3 1 128 5_000 4_224 300 ∷ plain 4 Frame 3 4_096 ∷ budget 5 3 128 300 128 0 ∷ plain 6 Endpoint 5 128 ∷ [];
}

-- a root with all the memory that a word can say
abbrev wide : Registry
wide = opening 0 (2 ^ 64 - 1)

-- the charge of object i and what its payer p has used
abbrev stands : Registry → (i p charge used : ℕ) → Bool
stands r i p charge used = eqb (entry r i).charge charge && eqb (account_of r p).memory_used used

abbrev answers : List ℕ → List ℕ → Bool
answers [] [] = true
answers [] (m ∷ ms) = false
answers (n ∷ ns) [] = false
answers (n ∷ ns) (m ∷ ms) = eqb n m && answers ns ms

pub record Cases : Type 0 where
  pub sound : all (sound tree ∷ sound wide ∷ []) ≡ true
  -- the last free byte of 3, on the Frame that it pays for; one more; and split
  pub last_byte : all (passes 4 476 tree ∷ not (passes 4 477 tree) ∷ passes 4 277 (left_by 4 199 tree) ∷ not (passes 4 278 (left_by 4 199 tree)) ∷ []) ≡ true
  pub split_stands : all (stands (left_by 4 476 tree) 4 3 4_572 4_700 ∷ stands (left_by 4 277 (left_by 4 199 tree)) 4 3 4_572 4_700 ∷ []) ≡ true
  -- 199 passes and 278 fails: 199 is kept, and the number is 12
  pub first_kept : (eqb (charge_more 4 278 (left_by 4 199 tree)).number 12 && stands (left_by 4 278 (left_by 4 199 tree)) 4 3 4_295 4_423) ≡ true
  -- nothing free: 0 is accepted, 1 is not
  pub nothing_free : all (passes 4 0 (left_by 4 476 tree) ∷ not (passes 4 1 (left_by 4 476 tree)) ∷ stands (left_by 4 0 (left_by 4 476 tree)) 4 3 4_572 4_700 ∷ []) ≡ true
  -- the root's own entry, which pays for itself: charged, and undone
  pub own_entry : all (passes 1 90_776 tree ∷ not (passes 1 90_777 tree) ∷ stands (left_by 1 90_776 tree) 1 1 90_776 95_000
      ∷ eqb (uncharge 1 90_776 (left_by 1 90_776 tree)).number 0 ∷ stands (uncharge 1 90_776 (left_by 1 90_776 tree)).after 1 1 0 4_224 ∷ []) ≡ true
  -- an object that is missing: 7, singly and in bulk
  pub missing : answers ((charge_more 9 0 tree).number ∷ (charge_more 9 1 tree).number ∷ (charge_more 0 1 tree).number ∷ (charge_more 9 1 (left_by 9 1 tree)).number ∷ []) (7 ∷ 7 ∷ 7 ∷ 7 ∷ []) ≡ true
  -- sums up to 2^64 − 1 are covered, and none above
  pub largest : all (passes 1 (2 ^ 64 - 1) wide ∷ all_pass 1 ((2 ^ 63) ∷ (2 ^ 63 - 1) ∷ []) wide ∷ not (all_pass 1 ((2 ^ 63) ∷ (2 ^ 63) ∷ []) wide) ∷ not (passes 1 (2 ^ 64) wide) ∷ []) ≡ true
  -- lists: to the last byte, in another order, one byte more
  pub lists : all (all_pass 4 (101 ∷ 200 ∷ 175 ∷ []) tree ∷ all_pass 4 (175 ∷ 0 ∷ 101 ∷ 200 ∷ []) tree ∷ not (all_pass 4 (101 ∷ 200 ∷ 176 ∷ []) tree) ∷ not (all_pass 4 (477 ∷ 0 ∷ []) tree)
      ∷ not (all_pass 4 (0 ∷ 477 ∷ 0 ∷ []) tree) ∷ all_pass 9 [] tree ∷ not (all_pass 9 (0 ∷ []) tree) ∷ []) ≡ true
  -- what they leave: a charge that fails does not end the list
  pub left_by_lists : all (stands (left_by_all 4 (101 ∷ 200 ∷ 175 ∷ []) tree) 4 3 4_572 4_700 ∷ stands (left_by_all 4 (400 ∷ 100 ∷ 50 ∷ []) tree) 4 3 4_546 4_674
      ∷ stands (left_by_all 4 [] tree) 4 3 4_096 4_224 ∷ []) ≡ true
  -- the first refusal: of 400, 100, 50 and of their sum; none; of a missing object
  pub refusals : answers (first_refusal 4 (400 ∷ 100 ∷ 50 ∷ []) tree ∷ (charge_more 4 550 tree).number ∷ first_refusal 4 (101 ∷ 200 ∷ 175 ∷ []) tree ∷ first_refusal 9 (0 ∷ 1 ∷ []) tree ∷ [])
      (12 ∷ 12 ∷ 0 ∷ 7 ∷ []) ≡ true
  pub sums : answers (sum (101 ∷ 200 ∷ 175 ∷ []) ∷ sum ((2 ^ 63) ∷ (2 ^ 63) ∷ []) ∷ sum [] ∷ []) (476 ∷ (2 ^ 64) ∷ 0 ∷ []) ≡ true
  pub counts : answers (times 1 (1 ∷ 2 ∷ 1 ∷ []) ∷ times 2 (1 ∷ 2 ∷ 1 ∷ []) ∷ times 3 (1 ∷ 2 ∷ 1 ∷ []) ∷ times 3 [] ∷ times 0 (0 ∷ 1 ∷ 0 ∷ []) ∷ []) (2 ∷ 1 ∷ 0 ∷ 0 ∷ 2 ∷ []) ≡ true
  -- as many amounts, of the same sum, but other ones
  pub not_reordered : Reordered (1 ∷ 3 ∷ []) (2 ∷ 2 ∷ []) → ⊥
  -- not accepted throughout, the order is seen in what is left: 400 and 100, of 476
  pub refused_in_order : all (stands (left_by_all 4 (400 ∷ 100 ∷ []) tree) 4 3 4_496 4_624 ∷ stands (left_by_all 4 (100 ∷ 400 ∷ []) tree) 4 3 4_196 4_324 ∷ []) ≡ true
  -- different payers: an object and its payer's own entry, a payer and one carved from it, missing ids; one payer: an object and a budget carved from its payer, an object and itself
  pub payers : all (payers_differ tree 4 3 ∷ payers_differ tree 3 4 ∷ payers_differ tree 6 4 ∷ payers_differ tree 2 6 ∷ payers_differ tree 9 4 ∷ payers_differ tree 4 9 ∷ payers_differ tree 9 8
      ∷ payers_differ tree 9 9 ∷ payers_differ tree 1 4 ∷ payers_differ tree 6 1 ∷ not (payers_differ tree 4 5) ∷ not (payers_differ tree 2 3) ∷ not (payers_differ tree 1 2) ∷ not (payers_differ tree 4 4) ∷ []) ≡ true
  -- different payers, each to the last byte: both are accepted in both orders; and one byte more is refused in both
  pub either_order : answers ((charge_more 6 172 (left_by 4 476 tree)).number ∷ (charge_more 4 476 (left_by 6 172 tree)).number ∷ (charge_more 6 173 (left_by 4 476 tree)).number
      ∷ (charge_more 4 477 (left_by 6 172 tree)).number ∷ (charge_more 3 90_776 (left_by 4 476 tree)).number ∷ (charge_more 4 476 (left_by 3 90_776 tree)).number ∷ [])
      (0 ∷ 0 ∷ 12 ∷ 12 ∷ 0 ∷ 0 ∷ []) ≡ true
  -- a missing id answers 7 in both orders, beside an object and beside another missing id
  pub missing_either_order : answers ((charge_more 9 1 tree).number ∷ (charge_more 4 476 (left_by 9 1 tree)).number ∷ (charge_more 9 1 (left_by 4 476 tree)).number ∷ (charge_more 9 1 (left_by 8 1 tree)).number ∷ [])
      (7 ∷ 0 ∷ 7 ∷ 7 ∷ []) ≡ true
  -- an answer is the number and the value: of a charge that is read, its payer and bytes
  pub answered : answer (charge_of 4 tree) ≡ (0, Some (reply.charge 3 4_096))
  -- one payer, and it covers one of the two: the first is accepted, whichever that is
  pub one_payer : answers ((charge_more 4 476 tree).number ∷ (charge_more 5 476 (left_by 4 476 tree)).number ∷ (charge_more 5 476 tree).number ∷ (charge_more 4 476 (left_by 5 476 tree)).number ∷ [])
      (0 ∷ 12 ∷ 0 ∷ 12 ∷ []) ≡ true

pub cases_hold : Cases
unfolding account.sound
cases_hold = record {
  sound = refl;
  last_byte = refl;
  split_stands = refl;
  first_kept = refl;
  nothing_free = refl;
  own_entry = refl;
  missing = refl;
  largest = refl;
  lists = refl;
  left_by_lists = refl;
  refusals = refl;
  sums = refl;
  counts = refl;
  not_reordered = λ h. let z : ◌≡◌ {A = ℕ} 1 0 = h 1 in omega arith;
  refused_in_order = refl;
  payers = refl;
  either_order = refl;
  missing_either_order = refl;
  answered = refl;
  one_payer = refl;
}
