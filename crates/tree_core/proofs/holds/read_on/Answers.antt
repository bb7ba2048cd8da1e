use Rattle.std.specs.Prelude.{◌≡◌, ◌≢◌, ⊤, ℕ, List, Some, Ok, Err, drop}
use Rattle.std.specs.declared.result.Result.{Result}
use Rattle.std.proofs.Common.{ap, sym, subst, arith, rules}
use Rattle.blsm_model.specs.Sizes.{Sizes}
use Rattle.blsm_model.specs.declared.row.Row.{Row}
use Rattle.page_file.specs.declared.file.Broken.{Broken}
use Rattle.page_file.specs.declared.file.Broken.TheVariants.{Fault, Damaged}
use Rattle.scan_view.specs.Holds.{hold_of, AreToldBehind, IsDamageBehind}
use Rattle.scan_view.specs.Pins.{HasHeld}
use Rattle.tree_core.specs.Scanned as scanned
use Rattle.tree_core.proofs.KeepLemmas.{few_by}
use Rattle.tree_core.proofs.holds.read_on.Goals as goal

given_no_fault : ◌≢◌ {A = Result ⊤ Broken} (Ok tt) (Err Fault)
given_no_fault same = cc same

damage_no_fault : (e : Broken) (page : ℕ) → e ≡ Damaged page → ◌≢◌ {A = Result ⊤ Broken} (Err e) (Err Fault)
damage_no_fault e page is same = cc (is, same)

not_given : (e : Broken) → ◌≢◌ {A = Result ⊤ Broken} (Err e) (Ok tt)
not_given e same = cc same

pub returns-in-Ok-clause-rows : goal.returns-in-Ok-clause-rows
returns-in-Ok-clause-rows g c = λ rows honest runs has not.
    let pins = c.args.held.now.runs.space.pins in
    let seat = c.args.seat in
    let was = subst (λ (z : Sizes). HasHeld z pins seat (hold_of seat c.args.holds.now) (Some rows) (g.D.Disk.state c.args.disk.now).bytes) (sym c.geometry.ensures) has in
    let gives = c.in-Ok.ensures.rows pins rows honest was given_no_fault in (
      ap (λ (rs : List Row). scanned.Rows rs) gives.1,
      subst (λ (z : Sizes). HasHeld z pins seat (hold_of seat c.next_rows.new.self) (Some (drop c.args.n rows)) (g.D.Disk.state c.next_rows.new.disk).bytes) c.geometry.ensures gives.2,
    )

pub returns-in-Err-Damaged-clause-rows : goal.returns-in-Err-Damaged-clause-rows
returns-in-Err-Damaged-clause-rows g c = λ rows honest runs has not.
    let pins = c.args.held.now.runs.space.pins in
    let seat = c.args.seat in
    let was = subst (λ (z : Sizes). HasHeld z pins seat (hold_of seat c.args.holds.now) (Some rows) (g.D.Disk.state c.args.disk.now).bytes) (sym c.geometry.ensures) has in
    let e = c.in-Err-Damaged.field-0 in
    absurd (not_given e (c.in-Err-Damaged.ensures.rows pins rows honest was (damage_no_fault e c.in-Err-Damaged.page c.in-Err-Damaged.field-0-is)).0)

pub returns-in-Ok-clause-few : goal.returns-in-Ok-clause-few
returns-in-Ok-clause-few g c = λ few.
    few_by c.args.held.now.runs.sizes c.args.seat c.args.holds.now c.next_rows.new.self c.next_rows.ensures.others (omega (arith, few c.args.seat, c.next_rows.ensures.ahead)) few

pub returns-in-Err-Fault-clause-few : goal.returns-in-Err-Fault-clause-few
returns-in-Err-Fault-clause-few g c = λ few.
    few_by c.args.held.now.runs.sizes c.args.seat c.args.holds.now c.next_rows.new.self c.next_rows.ensures.others (omega (arith, few c.args.seat, c.next_rows.ensures.ahead)) few

pub returns-in-Err-Damaged-clause-few : goal.returns-in-Err-Damaged-clause-few
returns-in-Err-Damaged-clause-few g c = λ few.
    few_by c.args.held.now.runs.sizes c.args.seat c.args.holds.now c.next_rows.new.self c.next_rows.ensures.others (omega (arith, few c.args.seat, c.next_rows.ensures.ahead)) few

pub returns-in-Err-Damaged-clause-cause : goal.returns-in-Err-Damaged-clause-cause
returns-in-Err-Damaged-clause-cause g c =
    let e = c.in-Err-Damaged.field-0 in
    let page = c.in-Err-Damaged.page in
    let file = (g.D.Disk.state c.args.disk.now).bytes in (
      search rules,
      search rules,
      c.in-Err-Damaged.ensures.reads.stands (damage_no_fault e page c.in-Err-Damaged.field-0-is),
      λ honest. subst (λ (z : Sizes). IsDamageBehind z c.args.n (hold_of c.args.seat c.args.holds.now) page file) c.geometry.ensures
          (c.in-Err-Damaged.ensures.damaged page (ap Err c.in-Err-Damaged.field-0-is) honest),
      search rules,
    )

pub returns-in-Ok-clause-cause : goal.returns-in-Ok-clause-cause
returns-in-Ok-clause-cause g c =
    let seat = c.args.seat in
    let file = (g.D.Disk.state c.args.disk.now).bytes in (
      search rules,
      c.in-Ok.ensures.reads.stands given_no_fault,
      search rules,
      λ honest. subst (λ (z : Sizes). AreToldBehind z c.args.n (hold_of seat c.args.holds.now) (hold_of seat c.next_rows.new.self) c.next_rows.new.room file) c.geometry.ensures
          (c.in-Ok.ensures.told honest),
    )

pub returns-in-Ok-clause-passes : goal.returns-in-Ok-clause-passes
returns-in-Ok-clause-passes g c = record { ahead = c.next_rows.ensures.ahead; calls = λ rows is. c.in-Ok.ensures.passes }

pub returns-in-Err-Fault-clause-passes : goal.returns-in-Err-Fault-clause-passes
returns-in-Err-Fault-clause-passes g c = record { ahead = c.next_rows.ensures.ahead; calls = λ rows is. absurd (cc) }

pub returns-in-Err-Damaged-clause-passes : goal.returns-in-Err-Damaged-clause-passes
returns-in-Err-Damaged-clause-passes g c = record { ahead = c.next_rows.ensures.ahead; calls = λ rows is. absurd (cc) }
