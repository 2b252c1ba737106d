-- The calls question by question: what each replies where the first question that is missed is this one, and where none is. Assumes nothing.
use Rattle.std.specs.Prelude.{◌≡◌, refl, Bool, true, false, cond, not, ◌&&◌, ◌||◌, ℕ, ◌+◌, ◌-◌, leb, Some, None}
use Rattle.std.proofs.Common.{eq-eqb, ne_eqb}
use Rattle.carv_budget.specs.Account as account
use Rattle.carv_budget.proofs.Laws.Account.{first, second}
use Rattle.carv_objects_spec.specs.Kinds.{listed, kind_of, bytes_of, creatable, needs_backing}
use Rattle.carv_objects_spec.proofs.Laws.Kinds.{budget_code}
use Rattle.carv_objects_spec.specs.Reply.{refuse, accept, id, renewed, pays, of_account, charge, of_totals}
use Rattle.carv_objects_spec.specs.Registry.{Registry, RegistryReply, entry, has, is_budget, pays_for, account_of, payer_of, budget, object, drop, add, plain, carved, has_place, has_next, create, insert, create_budget, charge_more, uncharge, remove, refill, charge_cpu, pays_for_anything, read_account, charge_of}
use Rattle.carv_objects_spec.specs.Totals.{over, read_totals}

-- question 6 is asked of the place and of the id
no_room : (x y : Bool) (k z : RegistryReply) → (x && y) ≡ false → cond x (cond y k z) z ≡ z
no_room true y k z c = rw c
no_room false y k z c = refl

module _ (kind payer bytes : ℕ) (r : Registry) where
  pub insert_unlisted : listed kind ≡ false → insert kind payer bytes r ≡ refuse 4 r
  insert_unlisted a = rw a

  module _ (a : listed kind ≡ true) where
    pub insert_kind : kind ≡ 6 → insert kind payer bytes r ≡ refuse 4 r
    insert_kind b = rw (a, budget_code kind, eq-eqb kind 6 b)

    module _ (b : kind ≡ 6 → ⊥) where
      pub insert_full : (has_place r && has_next r) ≡ false → insert kind payer bytes r ≡ refuse 6 r
      insert_full c = rw (a, budget_code kind, ne_eqb kind 6 b) (no_room (has_place r) (has_next r) _ (refuse 6 r) c)

      module _ (c : (has_place r && has_next r) ≡ true) where
        pub insert_payer : is_budget r payer ≡ false → insert kind payer bytes r ≡ refuse 7 r
        insert_payer d = rw (a, budget_code kind, ne_eqb kind 6 b, first (has_place r) (has_next r) c, second (has_place r) (has_next r) c, d)

        module _ (d : is_budget r payer ≡ true) where
          pub insert_cover : leb bytes (account.free (account_of r payer)) ≡ false → insert kind payer bytes r ≡ refuse 12 r
          insert_cover e = rw (a, budget_code kind, ne_eqb kind 6 b, first (has_place r) (has_next r) c, second (has_place r) (has_next r) c, d, e)

          pub insert_done : leb bytes (account.free (account_of r payer)) ≡ true
              → insert kind payer bytes r ≡ accept (Some (id r.next)) (add (plain (kind_of kind) payer bytes) (budget payer (λ a. account.charge a bytes) r))
          insert_done e = rw (a, budget_code kind, ne_eqb kind 6 b, first (has_place r) (has_next r) c, second (has_place r) (has_next r) c, d, e)

module _ (kind payer : ℕ) (backing : Bool) (r : Registry) where
  pub create_unlisted : listed kind ≡ false → create kind payer backing r ≡ refuse 4 r
  create_unlisted a = rw a

  module _ (a : listed kind ≡ true) where
    pub create_full : (has_place r && has_next r) ≡ false → create kind payer backing r ≡ refuse 6 r
    create_full c = rw a (no_room (has_place r) (has_next r) _ (refuse 6 r) c)

    module _ (c : (has_place r && has_next r) ≡ true) where
      pub create_payer : is_budget r payer ≡ false → create kind payer backing r ≡ refuse 7 r
      create_payer d = rw (a, first (has_place r) (has_next r) c, second (has_place r) (has_next r) c, d)

      module _ (d : is_budget r payer ≡ true) where
        pub create_cover : leb (bytes_of (kind_of kind)) (account.free (account_of r payer)) ≡ false → create kind payer backing r ≡ refuse 12 r
        create_cover e = rw (a, first (has_place r) (has_next r) c, second (has_place r) (has_next r) c, d, e)

        module _ (e : leb (bytes_of (kind_of kind)) (account.free (account_of r payer)) ≡ true) where
          pub create_method : creatable (kind_of kind) ≡ false → create kind payer backing r ≡ refuse 13 r
          create_method f = rw (a, first (has_place r) (has_next r) c, second (has_place r) (has_next r) c, d, e, f)

          module _ (f : creatable (kind_of kind) ≡ true) where
            pub create_backing : (not (needs_backing (kind_of kind)) || backing) ≡ false → create kind payer backing r ≡ refuse 14 r
            create_backing g = rw (a, first (has_place r) (has_next r) c, second (has_place r) (has_next r) c, d, e, f, g)

            pub create_done : (not (needs_backing (kind_of kind)) || backing) ≡ true
                → create kind payer backing r ≡ accept (Some (id r.next)) (add (plain (kind_of kind) payer (bytes_of (kind_of kind))) (budget payer (λ a. account.charge a (bytes_of (kind_of kind))) r))
            create_done g = rw (a, first (has_place r) (has_next r) c, second (has_place r) (has_next r) c, d, e, f, g)

module _ (parent cpu memory time : ℕ) (r : Registry) where
  pub create_budget_full : (has_place r && has_next r) ≡ false → create_budget parent cpu memory time r ≡ refuse 6 r
  create_budget_full c = no_room (has_place r) (has_next r) _ (refuse 6 r) c

  module _ (c : (has_place r && has_next r) ≡ true) where
    pub create_budget_payer : is_budget r parent ≡ false → create_budget parent cpu memory time r ≡ refuse 7 r
    create_budget_payer d = rw (first (has_place r) (has_next r) c, second (has_place r) (has_next r) c, d)

    module _ (d : is_budget r parent ≡ true) where
      pub create_budget_cover : leb 128 (account.free (account_of r parent)) ≡ false → create_budget parent cpu memory time r ≡ refuse 12 r
      create_budget_cover e = rw (first (has_place r) (has_next r) c, second (has_place r) (has_next r) c, d, e)

      module _ (e : leb 128 (account.free (account_of r parent)) ≡ true) where
        -- one question of the carve-out is missed: the renewal stays
        pub create_budget_carve : (leb cpu (account.renew (account_of r parent) time).cpu_left && leb memory (account.free (account.charge (account_of r parent) 128))) ≡ false
            → create_budget parent cpu memory time r ≡ refuse 12 (budget parent (λ a. account.renew a time) r)
        create_budget_carve f = rw (first (has_place r) (has_next r) c, second (has_place r) (has_next r) c, d, e)
            (no_room (leb cpu (account.renew (account_of r parent) time).cpu_left) (leb memory (account.free (account.charge (account_of r parent) 128))) _ (refuse 12 (budget parent (λ a. account.renew a time) r)) f)

        pub create_budget_done : leb cpu (account.renew (account_of r parent) time).cpu_left ≡ true → leb memory (account.free (account.charge (account_of r parent) 128)) ≡ true
            → create_budget parent cpu memory time r ≡ accept (Some (id r.next)) (add (carved parent cpu memory (account.renew (account_of r parent) time)) (budget parent (λ a. account.reserve (account.charge (account.renew a time) 128) cpu memory) r))
        create_budget_done f g = rw (first (has_place r) (has_next r) c, second (has_place r) (has_next r) c, d, e, f, g)

module _ (i bytes : ℕ) (r : Registry) where
  pub charge_more_missing : has r i ≡ false → charge_more i bytes r ≡ refuse 7 r
  charge_more_missing a = rw a

  pub uncharge_missing : has r i ≡ false → uncharge i bytes r ≡ refuse 7 r
  uncharge_missing a = rw a

  module _ (a : has r i ≡ true) where
    pub charge_more_cover : leb bytes (account.free (account_of r (payer_of r i))) ≡ false → charge_more i bytes r ≡ refuse 12 r
    charge_more_cover b = rw (a, b)

    pub charge_more_done : leb bytes (account.free (account_of r (payer_of r i))) ≡ true
        → charge_more i bytes r ≡ accept None (object i (λ c. c + bytes) (budget (payer_of r i) (λ a. account.charge a bytes) r))
    charge_more_done b = rw (a, b)

    pub uncharge_above : leb bytes (entry r i).charge ≡ false → uncharge i bytes r ≡ refuse 11 r
    uncharge_above b = rw (a, b)

    pub uncharge_done : leb bytes (entry r i).charge ≡ true
        → uncharge i bytes r ≡ accept None (object i (λ c. c - bytes) (budget (payer_of r i) (λ a. account.credit a bytes) r))
    uncharge_done b = rw (a, b)

module _ (i time : ℕ) (r : Registry) where
  pub remove_missing : has r i ≡ false → remove i time r ≡ refuse 7 r
  remove_missing a = rw a

  module _ (a : has r i ≡ true) where
    pub remove_root : i ≡ 1 → remove i time r ≡ refuse 9 r
    remove_root b = rw (a, eq-eqb i 1 b)

    module _ (b : i ≡ 1 → ⊥) where
      pub remove_paying : is_budget r i ≡ true → pays_for r i ≡ true → remove i time r ≡ refuse 10 r
      remove_paying c d = rw (a, ne_eqb i 1 b, c, d)

      pub remove_budget : is_budget r i ≡ true → pays_for r i ≡ false
          → remove i time r ≡ accept None (budget (payer_of r i) (λ a. account.credit (account.return (account.renew a time) (account_of r i)) (entry r i).charge) (drop i r))
      remove_budget c d = rw (a, ne_eqb i 1 b, c, d)

      pub remove_object : is_budget r i ≡ false
          → remove i time r ≡ accept None (budget (payer_of r i) (λ a. account.credit (account.return a (account_of r i)) (entry r i).charge) (drop i r))
      remove_object c = rw (a, ne_eqb i 1 b, c)

module _ (i time : ℕ) (r : Registry) where
  pub refill_missing : is_budget r i ≡ false → refill i time r ≡ refuse 7 r
  refill_missing a = rw a

  pub refill_done : is_budget r i ≡ true → refill i time r ≡ accept (Some (renewed (account.due (account_of r i) time))) (budget i (λ a. account.renew a time) r)
  refill_done a = rw a

module _ (i ns time : ℕ) (r : Registry) where
  pub charge_cpu_missing : is_budget r i ≡ false → charge_cpu i ns time r ≡ refuse 7 r
  charge_cpu_missing a = rw a

  module _ (a : is_budget r i ≡ true) where
    pub charge_cpu_above : leb ns (account.renew (account_of r i) time).cpu_left ≡ false → charge_cpu i ns time r ≡ refuse 12 (budget i (λ a. account.renew a time) r)
    charge_cpu_above b = rw (a, b)

    pub charge_cpu_done : leb ns (account.renew (account_of r i) time).cpu_left ≡ true → charge_cpu i ns time r ≡ accept None (budget i (λ a. account.spend (account.renew a time) ns) r)
    charge_cpu_done b = rw (a, b)

module _ (i : ℕ) (r : Registry) where
  pub pays_for_anything_done : pays_for_anything i r ≡ accept (Some (pays (pays_for r i))) r
  pays_for_anything_done = refl

  pub read_account_missing : is_budget r i ≡ false → read_account i r ≡ refuse 7 r
  read_account_missing a = rw a

  pub read_account_done : is_budget r i ≡ true → read_account i r ≡ accept (Some (of_account (account_of r i))) r
  read_account_done a = rw a

  pub charge_of_missing : has r i ≡ false → charge_of i r ≡ refuse 7 r
  charge_of_missing a = rw a

  pub charge_of_done : has r i ≡ true → charge_of i r ≡ accept (Some (charge (payer_of r i) (entry r i).charge)) r
  charge_of_done a = rw a

  pub read_totals_missing : is_budget r i ≡ false → read_totals i r ≡ refuse 7 r
  read_totals_missing a = rw a

  pub read_totals_done : is_budget r i ≡ true → read_totals i r ≡ accept (Some (of_totals (record {
    memory_used = over (λ a. a.memory_used) r i;
    memory_free = over (λ a. a.memory_limit - a.memory_reserved - a.memory_used) r i;
    cpu_left = over (λ a. a.cpu_left) r i;
  }))) r
  read_totals_done a = rw a
