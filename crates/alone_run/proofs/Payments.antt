-- A payment and a step that only reads may change places; a seat that owes nothing pays nothing.
use Rattle.std.proofs.Common.{◌≡◌, ◌∙◌, refl, ap, sym, subst, ℕ, zero, suc, ◌+◌, ◌<◌, ◌≤◌, Bool, cond, true, false, ◌⊎◌, inl, inr, List, [], ◌∷◌, ◌++◌, length, Option, Some, None, arith, ltb-false, length-set}
use Rattle.std.proofs.lemmas.Grind.{common_steps}
use Rattle.std.proofs.lemmas.Bool.Decides.{nat_tests}
use Rattle.std.specs.Prelude.{slice_index, slice_set}
use Rattle.blsm_model.specs.Legal.{is_write}
use Rattle.blsm_model.specs.Book.{Book, counted_up}
use Rattle.blsm_model.specs.declared.history.Entry.{Entry}
use Rattle.blsm_model.specs.declared.history.Reply.{Reply}
use Rattle.blsm_model.specs.declared.history.Why.{Why}
use Rattle.blsm_model.specs.declared.op.Op.{Op}
use Rattle.gear_sched.specs.Gears.{first_debt, left_of, plan_for, second_debt}
use Rattle.gear_sched.specs.declared.Plan.{Plan}
use Rattle.gear_sched.specs.declared.Plan.TheVariants.{Snow, Deep, Nothing}
use Rattle.seat_book.proofs.PlaceLemmas.{last_after}
use Rattle.tree_machine.specs.Machine.{Machine, owes}
use Rattle.tree_machine.specs.Moves.{deep_quantum, pass_quantum}
use Rattle.tree_machine.specs.Steps.{Outcome, Well, count_for_write, forgive, is_write_by, last_write, pay, pay_planned, pay_running}
use Rattle.alone_run.specs.Alone.{all_paid, paid}
use Rattle.alone_run.proofs.Moves.{Moves, deep_quantum_moves, pass_quantum_moves}
use Rattle.alone_run.proofs.Readings.{Reading, entry_of, read_as, seen}

-- ---- nothing owed, nothing paid

-- the seat owes nothing
abbrev pub IsEven : ℕ → Machine → Type 0
IsEven seat m = (first_debt m.gears seat ≡ 0) × (second_debt m.gears seat ≡ 0)

forgiven_same : (debts : List ℕ) (seat : ℕ) (b : Bool) → slice_index debts seat ≡ 0 → slice_set debts seat (left_of b (slice_index debts seat)) ≡ debts
forgiven_same debts seat b h1 = grind (arith, common_steps, nat_tests)

even_forgiven : (seat : ℕ) (m : Machine) → IsEven seat m → forgive seat m ≡ m
even_forgiven seat m even = grind (arith, common_steps, nat_tests, forgiven_same)

pub even_pays_none : (seat : ℕ) (m : Machine) (outcome : Outcome) → IsEven seat m → (pay m seat outcome).state ≡ m
even_pays_none seat m outcome even = grind (arith, common_steps, nat_tests, even_forgiven)

pub not_owing : (seat : ℕ) (m : Machine) → IsEven seat m → owes seat m ≡ false
not_owing seat m even = grind (arith, common_steps, nat_tests)

pub even_of : (seat : ℕ) (m : Machine) → first_debt m.gears seat + second_debt m.gears seat ≡ 0 → IsEven seat m
even_of seat m none = (omega (arith, none), omega (arith, none))

pub even_not_owing : (seat : ℕ) (m : Machine) → owes seat m ≡ false → IsEven seat m
even_not_owing seat m is = let none : first_debt m.gears seat + second_debt m.gears seat ≤ 0 = ltb-false 0 (first_debt m.gears seat + second_debt m.gears seat) is in (omega (arith, none), omega (arith, none))

pub even_paid : (fuel seat : ℕ) (m : Machine) → IsEven seat m → paid fuel seat m ≡ m
even_paid zero seat m even = refl
even_paid (suc fuel) seat m even = ap (λ b. cond b (paid fuel seat (pay m seat Well).state) m) (not_owing seat m even)

-- ---- a payment that leaves the tree running is as one that went well

pub pay_as_well : (m : Machine) (seat : ℕ) (outcome : Outcome) → (pay m seat outcome).state.stopped ≡ None → (pay m seat outcome).state ≡ (pay m seat Well).state
pay_as_well m seat outcome = grind (arith, common_steps, nat_tests)

-- ---- what a payment keeps

pub record Pays (old new : Machine) : Type 0 where
  pub entries : new.book.entries ≡ old.book.entries
  pub quanta : length new.book.quanta ≡ length old.book.quanta
  pub seen : seen new ≡ seen old

module _ (seat : ℕ) where
  kept_by : (m n : Machine) → Moves m n → n.lists ≡ m.lists → n.holds ≡ m.holds → Pays m (count_for_write seat n)
  kept_by m n moves lists holds = record {
    entries = ap (λ (b : Book). b.entries) moves.book;
    quanta = length-set n.book.quanta (last_write seat n.book.entries) (slice_index n.book.quanta (last_write seat n.book.entries) + 1) ∙ ap (λ (b : Book). length b.quanta) moves.book;
    seen = ap (λ ls. record { lists = ls; holds = n.holds; work = n.seats.work; stopped = n.stopped }) lists
        ∙ ap (λ hs. record { lists = m.lists; holds = hs; work = n.seats.work; stopped = n.stopped }) holds
        ∙ ap (λ ws. record { lists = m.lists; holds = m.holds; work = ws; stopped = n.stopped }) moves.work
        ∙ ap (λ o. record { lists = m.lists; holds = m.holds; work = m.seats.work; stopped = o }) moves.stopped;
  }

  pass_lists : (n : Machine) → ((pass_quantum seat n).lists ≡ n.lists) × ((pass_quantum seat n).holds ≡ n.holds)
  pass_lists n = grind (arith, common_steps, nat_tests)

  deep_lists : (n : Machine) → ((deep_quantum seat n).lists ≡ n.lists) × ((deep_quantum seat n).holds ≡ n.holds)
  deep_lists n = grind (arith, common_steps, nat_tests)

  pub pay_pays : (m : Machine) → Pays m (pay m seat Well).state
  pay_pays m = by m.stopped
    where
      planned : (plan : Plan) (n : Machine) → Pays n (pay_planned plan n seat Well).state
      planned Snow n = kept_by n (pass_quantum seat n) (pass_quantum_moves seat n) (pass_lists n).0 (pass_lists n).1
      planned Deep n = kept_by n (deep_quantum seat n) (deep_quantum_moves seat n) (deep_lists n).0 (deep_lists n).1
      planned Nothing n = record { entries = refl; quanta = refl; seen = refl }

      by : (o : Option Why) → Pays m (pay_running o m seat Well).state
      by (Some why) = record { entries = refl; quanta = refl; seen = refl }
      by None =
          let pays = planned (plan_for (first_debt (forgive seat m).gears seat) (second_debt (forgive seat m).gears seat)) (forgive seat m) in
          record { entries = pays.entries; quanta = pays.quanta; seen = pays.seen }

  pub paid_seen : (fuel : ℕ) (m : Machine) → seen (paid fuel seat m) ≡ seen m
  paid_seen zero m = refl
  paid_seen (suc fuel) m = grind (arith, common_steps, nat_tests, paid_seen fuel (pay m seat Well).state)

  pub paid_lengths : (fuel : ℕ) (m : Machine) → length m.book.quanta ≡ length m.book.entries → length (paid fuel seat m).book.quanta ≡ length (paid fuel seat m).book.entries
  paid_lengths zero m same = same
  paid_lengths (suc fuel) m same = let pays = pay_pays m in by (owes seat m) (paid_lengths fuel (pay m seat Well).state (pays.quanta ∙ same ∙ sym (ap (λ (es : List Entry). length es) pays.entries)))
    where
      by : (b : Bool) → length (paid fuel seat (pay m seat Well).state).book.quanta ≡ length (paid fuel seat (pay m seat Well).state).book.entries
          → length (cond b (paid fuel seat (pay m seat Well).state) m).book.quanta ≡ length (cond b (paid fuel seat (pay m seat Well).state) m).book.entries
      by b h1 = grind (arith, common_steps, nat_tests)

  -- ---- it may change places with a step that reads

  none_written : (op : Op) (reply : Reply) → is_write op ≡ false → is_write_by seat (entry_of seat op reply) ≡ false
  none_written op reply is = grind (arith, common_steps, nat_tests)

  set_before : (xs : List ℕ) (q place : ℕ) → place < length xs → slice_set (xs ++ q ∷ []) place (slice_index (xs ++ q ∷ []) place + 1) ≡ slice_set xs place (slice_index xs place + 1) ++ q ∷ []
  set_before [] q place within = absurd (omega (arith, within))
  set_before (x ∷ xs) q zero within = refl
  set_before (x ∷ xs) q (suc place) within = ap (λ ys. x ∷ ys) (set_before xs q place (omega (arith, within)))

  place_before : (es : List Entry) → 0 < length es → last_write seat es < length es
  place_before es some = grind (arith, common_steps, nat_tests)

  count_reads : (r : Reading) (op : Op) (y : Machine) → is_write op ≡ false → last_write seat y.book.entries < length y.book.quanta
      → count_for_write seat (read_as r seat op y) ≡ read_as r seat op (count_for_write seat y)
  count_reads r op y other before =
      ap (λ place. record (read_as r seat op y) { book = counted_up (read_as r seat op y).book place 1 })
      (last_after seat y.book.entries (entry_of seat op (r.reply (seen y))) ∙ ap (λ b. cond b (length y.book.entries) (last_write seat y.book.entries)) (none_written op (r.reply (seen y)) other))
      ∙ ap (λ quanta. record (read_as r seat op y) { book = record (read_as r seat op y).book { quanta = quanta } }) (set_before y.book.quanta (r.quanta (seen y)) (last_write seat y.book.entries) before)

  pass_reads : (r : Reading) (op : Op) (n : Machine) → pass_quantum seat (read_as r seat op n) ≡ read_as r seat op (pass_quantum seat n)
  pass_reads r op n = grind (arith, common_steps, nat_tests)

  deep_reads : (r : Reading) (op : Op) (n : Machine) → deep_quantum seat (read_as r seat op n) ≡ read_as r seat op (deep_quantum seat n)
  deep_reads r op n = grind (arith, common_steps, nat_tests)

  pay_reads : (r : Reading) (op : Op) (m : Machine) → is_write op ≡ false → length m.book.quanta ≡ length m.book.entries → 0 < length m.book.entries
      → (pay (read_as r seat op m) seat Well).state ≡ read_as r seat op (pay m seat Well).state
  pay_reads r op m other lengths some = by m.stopped
    where
      before : (n : Machine) → n.book ≡ m.book → last_write seat n.book.entries < length n.book.quanta
      before n same = subst (λ (b : Book). last_write seat b.entries < length b.quanta) (sym same) (let place = place_before m.book.entries some in omega (arith, place, lengths))

      planned : (plan : Plan) (n : Machine) → n.book ≡ m.book → (pay_planned plan (read_as r seat op n) seat Well).state ≡ read_as r seat op (pay_planned plan n seat Well).state
      planned Snow n same = ap (λ x. count_for_write seat x) (pass_reads r op n) ∙ count_reads r op (pass_quantum seat n) other (before (pass_quantum seat n) ((pass_quantum_moves seat n).book ∙ same))
      planned Deep n same = ap (λ x. count_for_write seat x) (deep_reads r op n) ∙ count_reads r op (deep_quantum seat n) other (before (deep_quantum seat n) ((deep_quantum_moves seat n).book ∙ same))
      planned Nothing n same = refl

      by : (o : Option Why) → (pay_running o (read_as r seat op m) seat Well).state ≡ read_as r seat op (pay_running o m seat Well).state
      by (Some why) = refl
      by None = planned (plan_for (first_debt (forgive seat m).gears seat) (second_debt (forgive seat m).gears seat)) (forgive seat m) refl

  paid_reads : (fuel : ℕ) (r : Reading) (op : Op) (m : Machine) → is_write op ≡ false → length m.book.quanta ≡ length m.book.entries → 0 < length m.book.entries
      → paid fuel seat (read_as r seat op m) ≡ read_as r seat op (paid fuel seat m)
  paid_reads zero r op m other lengths some = refl
  paid_reads (suc fuel) r op m other lengths some =
      let pays = pay_pays m in
      by (owes seat m) (paid_reads fuel r op (pay m seat Well).state other (pays.quanta ∙ lengths ∙ sym (ap (λ (es : List Entry). length es) pays.entries)) (subst (λ (es : List Entry). 0 < length es) (sym pays.entries) some))
    where
      by : (b : Bool) → paid fuel seat (read_as r seat op (pay m seat Well).state) ≡ read_as r seat op (paid fuel seat (pay m seat Well).state)
          → cond b (paid fuel seat (pay (read_as r seat op m) seat Well).state) (read_as r seat op m) ≡ read_as r seat op (cond b (paid fuel seat (pay m seat Well).state) m)
      by true rest = ap (λ n. paid fuel seat n) (pay_reads r op m other lengths some) ∙ rest
      by false rest = refl

  -- all that is owed is paid before it or after it, with the same end
  pub all_paid_reads : (r : Reading) (op : Op) (m : Machine) → is_write op ≡ false → length m.book.quanta ≡ length m.book.entries → IsEven seat m ⊎ (0 < length m.book.entries)
      → all_paid seat (read_as r seat op m) ≡ read_as r seat op (all_paid seat m)
  all_paid_reads r op m other lengths (inl even) =
      even_paid (first_debt m.gears seat + second_debt m.gears seat) seat (read_as r seat op m) even ∙ ap (λ n. read_as r seat op n) (sym (even_paid (first_debt m.gears seat + second_debt m.gears seat) seat m even))
  all_paid_reads r op m other lengths (inr some) = paid_reads (first_debt m.gears seat + second_debt m.gears seat) r op m other lengths some
