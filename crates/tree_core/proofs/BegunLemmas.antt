-- A write that failed has committed the swaps that were due, or fewer. They are those of the machine.
use Rattle.std.specs.Prelude.{◌≡◌, ◌⊎◌, ℕ, ◌+◌, ◌<◌, Bool, true, false, ◌==◌, is_some, List, Option, None}
use Rattle.std.proofs.lemmas.Grind.{common_steps}
use Rattle.std.proofs.lemmas.Bool.Decides.{nat_tests}
use Rattle.std.proofs.Common.{◌∙◌, ap, arith}
use Rattle.std.proofs.lemmas.Bool.{eqb-true, eq-eqb}
use Rattle.blsm_model.specs.declared.row.Row.{Row}
use Rattle.blsm_model.specs.declared.row.Value.{Value}
use Rattle.disk_trait.specs.Disk.{DiskState}
use Rattle.blsm_model.specs.declared.key.Key.{Key}
use Rattle.record_delta.specs.Entries.{Entries, entries_weight}
use Rattle.seat_book.specs.State.{BookState}
use Rattle.tree_machine.specs.Machine.{Machine, deep_done, pass_done}
use Rattle.tree_machine.specs.Steps.{one_if, swaps_due}
use Rattle.tree_machine.proofs.FoldLemmas.{both, both_hold}
use Rattle.tree_runs.specs.Runs.{left_for_pass, left_for_deep}
use Rattle.core_moves.specs.declared.held.Held.{Held}
use Rattle.core_moves.specs.Held.{IsPassDone, IsDeepDone}
use Rattle.core_moves.specs.Moves.{SettlesDeep, SettlesPass, begun_in, with_book}
use Rattle.core_lists.proofs.TestLemmas.{tests_agree_with_lists}
use Rattle.tree_core.specs.Ruling as ruling
use Rattle.tree_core.specs.Causes.{HasBegun, is_deep_due, is_pass_due, one_where, swaps_due_in}
use Rattle.tree_core.specs.declared.admission.Taking.TheVariants as taking
use Rattle.tree_core.specs.Core.{IsCore}
use Rattle.tree_core.specs.Standing.{StandsFor}
use Rattle.tree_core.specs.Taking.{IsReadied, Takes}
use Rattle.core_lists.proofs.Terms.{Agrees}

-- whether a swap is due
pub deep_is : (held : Held) → IsDeepDone held → is_deep_due held ≡ true
deep_is held done = both (is_some held.runs.deep) (left_for_deep held.runs.deep == 0) done.0 (eq-eqb (left_for_deep held.runs.deep) 0 done.1)

pub pass_is : (held : Held) → IsPassDone held → is_pass_due held ≡ true
pass_is held done = both (is_some held.runs.pass) (left_for_pass held.runs.pass held.log.a.entries == 0) done.0 (eq-eqb (left_for_pass held.runs.pass held.log.a.entries) 0 done.1)

abbrev version : Held → ℕ
version held = held.runs.catalogue.version

-- the deep merge's swap is one commit, and leaves the pass as it was
pub deep_counts : (old new : Held) → SettlesDeep old new → (version new ≡ version old + one_where (is_deep_due old)) × (is_pass_due new ≡ is_pass_due old)
deep_counts old new settles = grind (arith, common_steps, nat_tests)

pass_counts : (old new : Held) → SettlesPass old new → version new ≡ version old + one_where (is_pass_due old)
pass_counts old new settles = grind (arith, common_steps, nat_tests)

-- a begin commits nothing
begin_counts : (w : ℕ) (held : Held) → version (begun_in w held) ≡ version held
begin_counts w held = grind (arith, common_steps, nat_tests)

pub begun_append : (w : ℕ) (old new : Held) → IsReadied w old new → version new ≡ version old + swaps_due_in old
begun_append w old new r =
    let deep = deep_counts old r.settled r.deep in
    let pass : version r.ready ≡ version r.settled + one_where (is_pass_due old) = pass_counts r.settled r.ready r.pass ∙ ap (λ (b : Bool). version r.settled + one_where b) deep.1 in
    let all : version new ≡ version r.ready = ap (λ (held : Held). version held) r.begun ∙ begin_counts w r.ready in
    omega (arith, all, pass, deep.0)

pub lost_before : (old new : Held) → ((new ≡ old) × IsDeepDone old) ⊎ (SettlesDeep old new × IsPassDone new) → version new < version old + swaps_due_in old
lost_before old new lost = grind (arith, common_steps, nat_tests)

pub begun_by : (begun : Bool) (seat : ℕ) (more : Entries) (old new : Held) (b : BookState) (after : DiskState)
    → Takes (taking.Failed begun) seat more old new after
    → HasBegun (ruling.Fault begun) old (with_book b new)
begun_by true seat more old new b after r = begun_append (entries_weight more) old new r
begun_by false seat more old new b after lost = lost_before old new lost

-- ---- by the machine

same_count : (done due : Bool) → (done ≡ true → due ≡ true) → (due ≡ true → done ≡ true) → one_if done ≡ one_where due
same_count done due h1 h2 = grind (arith, common_steps, nat_tests)

pub due_agree : {Rows : List (Option (List Row)) → Type 0} (opening : List (Key × Value)) (old : Held) (m : Machine) (d : DiskState) → StandsFor Rows opening old m d → IsCore old d → old.book.stopped ≡ None → swaps_due m ≡ swaps_due_in old
due_agree opening old m d stands keeps runs =
    let over = stands.runs runs in
    let agrees : Agrees old m = tests_agree_with_lists old over.tree m d.bytes keeps.pace (record { are_of = over.over.are_of; holds = over.holds }) stands.paced.stands.sound (keeps.holds.live runs).paced.numbers in
    let deep = same_count (deep_done m) (is_deep_due old) (λ done. deep_is old (agrees.deep_is_done.1 done))
    (λ due. let parts = both_hold (is_some old.runs.deep) (left_for_deep old.runs.deep == 0) due in agrees.deep_is_done.0 (parts.0, eqb-true (left_for_deep old.runs.deep) 0 parts.1)) in
    let pass = same_count (pass_done m) (is_pass_due old) (λ done. pass_is old (agrees.pass_is_done.1 done))
    (λ due. let parts = both_hold (is_some old.runs.pass) (left_for_pass old.runs.pass old.log.a.entries == 0) due in
    agrees.pass_is_done.0 (parts.0, eqb-true (left_for_pass old.runs.pass old.log.a.entries) 0 parts.1)) in
    omega (arith, deep, pass)
