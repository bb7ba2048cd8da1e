-- On an honest disk: what a step of the core leaves of its lists, by what its moves left.
use Rattle.std.proofs.Common.{◌≡◌, ◌∙◌, ℕ, false, List, length, None, ap, sym, subst}
use Rattle.std.specs.Prelude.{IsSome, is_some}
use Rattle.std.proofs.lemmas.Bool.{false≢true}
use Rattle.blsm_model.specs.declared.key.Key.{Key}
use Rattle.blsm_model.specs.declared.row.Value.{Value}
use Rattle.blsm_model.specs.declared.history.Entry.{Entry}
use Rattle.blsm_model.specs.Sizes.{Sizes}
use Rattle.disk_trait.specs.Disk.{DiskState}
use Rattle.disk_trait.specs.Moments.{LeavesOnly}
use Rattle.disk_trait.proofs.MomentLemmas.{leaves_only_weaken}
use Rattle.gear_sched.specs.Gears.{GearState}
use Rattle.pacing.specs.Pace.{Pace}
use Rattle.pacing.specs.Fronts.{Fronts}
use Rattle.tree_machine.specs.declared.step.Kind.{Kind}
use Rattle.tree_machine.specs.Machine.{Machine}
use Rattle.tree_machine.specs.Steps.{Outcome, Answer, Stepped}
use Rattle.tree_machine.specs.Plays.{stepped_as}
use Rattle.tree_machine.specs.Outcomes.{IsPossible, is_broken}
use Rattle.seat_book.specs.State.{BookState}
use Rattle.tree_file.specs.Tree.{Tree, HoldsTree}
use Rattle.tree_runs.specs.Holding.{StandOver}
use Rattle.core_moves.specs.declared.held.Held.{Held}
use Rattle.core_moves.specs.Held.{IsOne}
use Rattle.core_pace.specs.Pacing.{HasPace}
use Rattle.core_lists.specs.Standing.{HoldsMachine}
use Rattle.core_lists.specs.Shown.{ShowsHistory, ShowsWhole}
use Rattle.core_lists.specs.Going.{GoesOn}
use Rattle.core_lists.proofs.TestLemmas.{tests_agree_with_lists}
use Rattle.core_lists.proofs.ShowingLemmas.{standing_shows}
use Rattle.core_lists.proofs.GoingLemmas.{standing_is_steady}
use Rattle.tree_core.specs.Standing.{AnyRows, StandsFor}
use Rattle.tree_core.specs.Steps.{IsStep}
use Rattle.core_lists.proofs.Terms.{IsSteady, StandsIn}

-- a store that runs has no stop
pub no_stop : (held : Held) → held.book.stopped ≡ None → IsSome held.book.stopped → ⊥
no_stop held none some = false≢true (sym (ap is_some none) ∙ some)

-- What stands while it runs: its numbers are some pace's, which need not be the machine's.
pub record RunsAt (opening : List (Key × Value)) (held : Held) (m : Machine) (d : DiskState) (tree : Tree) : Type 0 where
  pub fronts : Fronts
  pub over : StandOver held.runs tree d
  pub holds : HoldsMachine held tree m
  pub goes : GoesOn opening m fronts tree
  pub numbers : Pace
  pub has : HasPace held numbers
  pub one : IsOne held
  pub ran : held.book.stopped ≡ None

pub stands_running : (opening : List (Key × Value)) (held : Held) (m : Machine) (d : DiskState) (tree : Tree) → RunsAt opening held m d tree → StandsFor AnyRows opening held m d
stands_running opening held m d tree r = record {
  paced = r.goes.paced;
  sizes = ap (λ (g : GearState). g.sizes) r.holds.gears ∙ r.one.gears;
  gears = r.holds.gears;
  book = r.holds.book;
  charge_is = (tests_agree_with_lists held tree m d.bytes r.numbers (record { are_of = r.over.are_of; holds = r.holds }) r.goes.paced.stands.sound r.has).charge_is;
  runs = λ runs. record { fronts = r.fronts; tree = tree; over = r.over; holds = r.holds; within = r.goes.within; lanes = r.goes.lanes };
  rows = λ runs. tt;
  stopped = λ some. absurd (no_stop held r.ran some);
}

-- and back
pub running_at : (opening : List (Key × Value)) (held : Held) (m : Machine) (d : DiskState) (numbers : Pace) (stands : StandsFor AnyRows opening held m d) (ran : held.book.stopped ≡ None) → HasPace held numbers
    → IsOne held → RunsAt opening held m d (stands.runs ran).tree
running_at opening held m d numbers stands ran has one =
    let r = stands.runs ran in
    record {
      fronts = r.fronts;
      over = r.over;
      holds = r.holds;
      goes = record { paced = stands.paced; within = r.within; lanes = r.lanes };
      numbers = numbers;
      has = has;
      one = one;
      ran = ran;
    }

pub standing_at : (opening : List (Key × Value)) (held : Held) (m : Machine) (d : DiskState) (tree : Tree) → (r : RunsAt opening held m d tree) → StandsIn opening held m r.fronts tree d.bytes
standing_at opening held m d tree r =
    record { at = record { are_of = r.over.are_of; holds = r.holds }; paced = r.goes.paced; numbers = r.numbers; has = r.has; one = r.one; within = r.goes.within; lanes = r.goes.lanes }

pub steady_at : (opening : List (Key × Value)) (held : Held) (m : Machine) (d : DiskState) (tree : Tree) → RunsAt opening held m d tree → IsSteady held tree m d.bytes
steady_at opening held m d tree r =
    (standing_is_steady opening held m r.fronts tree d.bytes (standing_at opening held m d tree r) (ap (λ (b : BookState). b.stopped) r.holds.book ∙ r.ran)).0

-- a file that holds its tree shows the whole history
pub shows_at : (opening : List (Key × Value)) (held : Held) (m : Machine) (d : DiskState) (tree : Tree) (file : List ℕ) → RunsAt opening held m d tree → HoldsTree held.runs.sizes tree file → ShowsWhole opening m file
shows_at opening held m d tree file r holds =
    standing_shows opening m r.fronts tree file r.goes.paced r.goes.within r.holds.lists r.goes.lanes (subst (λ (s : Sizes). HoldsTree s tree file) (sym (ap (λ (g : GearState). g.sizes) r.holds.gears ∙ r.one.gears)) holds)

-- What each image shows of a history, it shows of the same one.
pub leaves_same : (opening : List (Key × Value)) (m : Machine) (before after : DiskState) (entries : List Entry) (P : List ℕ → Type 0) → entries ≡ m.book.entries → ((c : List ℕ) → P c → ShowsWhole opening m c) → LeavesOnly before after P
    → LeavesOnly before after (ShowsHistory m.gears.sizes opening entries (length m.book.entries))
leaves_same opening m before after entries P same shows leaves =
    leaves_only_weaken (λ c has. subst (λ (h : List Entry). ShowsHistory m.gears.sizes opening h (length m.book.entries) c) (sym same) (shows c has).0) leaves

-- A step by what it makes of the machine.
pub step_by : (opening : List (Key × Value)) (seat : ℕ) (kind : Kind) (answer : Answer) (new : Held) (before after : DiskState) (m : Machine) (outcome : Outcome) (s : Stepped)
    → stepped_as m seat kind outcome ≡ s → IsPossible m seat kind outcome before.faults after.faults → is_broken outcome ≡ false
    → StandsFor AnyRows opening new s.state after → answer ≡ s.answer → LeavesOnly before after (ShowsHistory m.gears.sizes opening s.state.book.entries (length m.book.entries))
    → IsStep AnyRows opening seat kind answer new before after m
step_by opening seat kind answer new before after m outcome s same possible whole stands answers images = record {
  outcome = outcome;
  possible = possible;
  whole = whole;
  stands = subst (λ (t : Stepped). StandsFor AnyRows opening new t.state after) (sym same) stands;
  answers = answers ∙ ap (λ (t : Stepped). t.answer) (sym same);
  images = subst (λ (t : Stepped). LeavesOnly before after (ShowsHistory m.gears.sizes opening t.state.book.entries (length m.book.entries))) (sym same) images;
}
