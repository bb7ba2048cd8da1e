-- What lasts from a start on, over each call.
use Rattle.std.specs.Prelude.{◌≡◌, ℕ, ◌+◌, ◌<◌, ◌≤◌, true, false, ◌&&◌, nat_le, nat_lt, List, [], ◌∷◌, ◌++◌, Option, None, IsTrue}
use Rattle.std.proofs.lemmas.Grind.{common_steps}
use Rattle.std.proofs.lemmas.Bool.Decides.{nat_tests}
use Rattle.std.proofs.Common.{◌∙◌, refl, ap, sym, subst, arith}
use Rattle.blsm_model.specs.declared.key.Key.{Key}
use Rattle.blsm_model.specs.declared.row.Row.{Row}
use Rattle.blsm_model.specs.declared.row.Value.{Value}
use Rattle.blsm_model.specs.Facts.{Follows}
use Rattle.blsm_model.specs.Geometry.{high_mark}
use Rattle.blsm_model.specs.Sizes.{Sizes}
use Rattle.blsm_model.specs.Format.{callers, most_rows}
use Rattle.std.proofs.lemmas.Bool.{le-leb, lt-ltb}
use Rattle.disk_trait.specs.Disk.{DiskState, GoesOn}
use Rattle.disk_trait.specs.Effects.{Affects}
use Rattle.scan_view.specs.Hold.{HoldState}
use Rattle.scan_view.specs.Pins.{beside_pins}
use Rattle.disk_trait.specs.Moments.{IsTimed}
use Rattle.disk_trait.proofs.MomentLemmas.{goes_on_start, goes_on_run}
use Rattle.pacing.specs.Pace.{Pace}
use Rattle.blsm_model.specs.Legal.{is_write}
use Rattle.blsm_model.specs.declared.op.Op.{Op}
use Rattle.gear_sched.specs.Gears.{first_debt, second_debt}
use Rattle.seat_book.specs.State.{may_note_in, may_turn_in}
use Rattle.tree_machine.proofs.FoldLemmas.{both}
use Rattle.tree_machine.specs.declared.step.Kind.{Kind}
use Rattle.tree_machine.specs.declared.step.Kind.TheVariants as kind
use Rattle.tree_machine.specs.declared.step.Step.{Step}
use Rattle.tree_machine.specs.Machine.{Machine, is_caller, is_worker, seats}
use Rattle.tree_machine.specs.Plays.{may}
use Rattle.tree_machine.specs.Steps.{Answer}
use Rattle.core_moves.specs.declared.held.Held.{Held}
use Rattle.tree_core.specs.Calls.{BesideHolds, GoesOnAs}
use Rattle.tree_core.specs.Core.{CoreState, IsCore, IsTold, HoldsPace, facts_of_held}
use Rattle.tree_core.specs.Holds.{AreFew, KeepsHolds, StandsWhole}
use Rattle.tree_core.specs.Standing.{AnyRows, StandsFor}
use Rattle.tree_core.specs.Steps.{MovesPace, IsStep, IsPlayed, IsWholeStep, StandsSince, is_even_in, may_in}
use Rattle.tree_core.proofs.KeepLemmas.{is_held, rows_said, rows_stay}
use Rattle.tree_core.proofs.PlayLemmas.{may_agrees, none_is_played, both_are_played, played_by}
use Rattle.tree_core.proofs.QuietLemmas.{with_rows}
use Rattle.tree_core.proofs.SizeLemmas.{made_sizes}
use Rattle.tree_core.specs.Notes.{CountsCommits, rotations}

-- at the start
pub since_now : {D : Type 0} (state : D → DiskState) (core : CoreState D) (pace : Pace) → IsTimed (state core.disk) → IsTold core.held pace → StandsSince state core core
since_now state core pace timed t = record {
  sizes = refl;
  peak = omega (arith, t.peak, t.told.paced.within.peak, ap high_mark t.sizes);
  goes_on = goes_on_start (state core.disk);
  come = λ opening m honest whole. ([], none_is_played state opening core m timed whole);
}

-- some steps more
pub since_played : {D : Type 0} (state : D → DiskState) (start old new : CoreState D) → StandsSince state start old → new.held.runs.sizes ≡ old.held.runs.sizes → new.held.book.counts.peak ≤ high_mark new.held.runs.sizes
    → GoesOn (state old.disk) (state new.disk)
    → ((opening : List (Key × Value)) (m : Machine) → IsTrue (state old.disk).is_honest → StandsWhole state opening old m → (steps : List Step) × IsPlayed state opening steps old new m)
    → StandsSince state start new
since_played state start old new since sizes peak goes played = record {
  sizes = sizes ∙ since.sizes;
  peak = omega (arith, peak, ap high_mark (sizes ∙ since.sizes));
  goes_on = goes_on_run since.goes_on goes;
  come = λ opening m honest whole.
      let one = since.come opening m honest whole in
      let two = played opening _ (subst IsTrue (sym since.goes_on.is_honest) honest) one.1.stands in
      (one.0 ++ two.0, both_are_played state opening one.0 two.0 start old new m one.1 two.1);
}

-- What a call says that is one step of the machine and moves the pace. What lasts from a start on lasts over it.
pub goes_by : {D : Type 0} (state : D → DiskState) (seat : ℕ) (k : Kind) (answer : Answer) (old new : CoreState D) → IsCore old.held (state old.disk) → IsTimed (state new.disk) → may_in old.held seat k ≡ true
    → GoesOn (state old.disk) (state new.disk) → CountsCommits (rotations answer k old.held) old.held new.held → Follows seat (facts_of_held old.held) (facts_of_held new.held)
    → ((pace : Pace) → HoldsPace old.held pace (state old.disk) → MovesPace seat k answer new.held (state new.disk) pace)
    → ((opening : List (Key × Value)) (m : Machine) → IsTrue (state old.disk).is_honest → StandsWhole state opening old m → IsWholeStep state opening seat k answer old new m)
    → GoesOnAs state seat k answer old new
goes_by {D} state seat k answer old new core timed can goes commits follows numbers steps =
    record { may = can; numbers = numbers; commits = commits; steps = steps; follows = follows; lasts = lasts; begins = since_now state new moves.next timed told }
  where
    moves : MovesPace seat k answer new.held (state new.disk) core.pace
    moves = numbers core.pace core.holds

    told : IsTold new.held moves.next
    told = moves.holds.told

    lasts : (start : CoreState D) → StandsSince state start old → StandsSince state start new
    lasts start since =
        let one : Step = record { seat = seat; kind = k } in
        since_played state start old new since (sym told.sizes ∙ made_sizes seat k answer core.pace moves.next moves.made ∙ core.holds.told.sizes) (omega (arith, told.peak, told.told.paced.within.peak, ap high_mark told.sizes)) goes
        (λ opening m honest stands. (one ∷ [], played_by state opening one k answer old new m refl can goes stands (λ may. steps opening m honest stands)))

-- And one that has nothing to do with holds: it writes beside the pages that are pinned.
pub goes_on_by : {D : Type 0} {end most : ℕ} (state : D → DiskState) (seat : ℕ) (k : Kind) (answer : Answer) (old new : CoreState D) → IsCore old.held (state old.disk) → IsTimed (state new.disk) → is_held k ≡ false → may_in old.held seat k ≡ true
    → KeepsHolds old new → CountsCommits (rotations answer k old.held) old.held new.held → Affects (beside_pins old.held.runs.sizes old.held.runs.space.pins) end most (state old.disk) (state new.disk) → Follows seat (facts_of_held old.held) (facts_of_held new.held)
    → ((pace : Pace) → HoldsPace old.held pace (state old.disk) → MovesPace seat k answer new.held (state new.disk) pace)
    → ((opening : List (Key × Value)) (m : Machine) → IsTrue (state old.disk).is_honest → StandsFor AnyRows opening old.held m (state old.disk) → may m seat k ≡ true
    → IsStep AnyRows opening seat k answer new.held (state old.disk) (state new.disk) m)
    → GoesOnAs state seat k answer old new × BesideHolds state seat k answer old new
goes_on_by state seat k answer old new core timed none can keeps commits effect follows numbers steps = (
  goes_by state seat k answer old new core timed can effect.goes_on commits follows numbers (λ opening m honest stands. step opening m honest (λ ran. rows_stay state old new m.holds keeps (effect.bytes honest) (stands.rows ran)) stands),
  record { holds = keeps; step = λ opening m honest stands. step opening m honest (λ ran. refl) stands },
)
  where
    step : {Rows Next : List (Option (List Row)) → Type 0} (opening : List (Key × Value)) (m : Machine) → IsTrue (state old.disk).is_honest → (old.held.book.stopped ≡ None → Next m.holds) → StandsFor Rows opening old.held m (state old.disk)
        → IsStep Next opening seat k answer new.held (state old.disk) (state new.disk) m
    step opening m honest said stands = rows_said opening seat k answer old.held new.held (state old.disk) (state new.disk) m none said stands
        (steps opening m honest (with_rows opening old.held m (state old.disk) (λ none. tt) stands) (may_agrees seat k old.held m stands.book stands.gears ∙ can))

-- And the core, as it is told of, keeps what its type keeps.
pub core_kept : {D : Type 0} (state : D → DiskState) {seat : ℕ} {k : Kind} {answer : Answer} {inside old new : CoreState D} → inside ≡ old → IsCore inside.held (state inside.disk) → GoesOnAs state seat k answer old new → IsCore new.held (state new.disk)
core_kept {D} state is core goes =
    let moves = goes.numbers core.pace (subst (λ (s : CoreState D). HoldsPace s.held core.pace (state s.disk)) is core.holds) in
    record { pace = moves.next; holds = moves.holds }

pub kept_on : {D : Type 0} (state : D → DiskState) {seat : ℕ} {k : Kind} {answer : Answer} {inside old new : CoreState D} → inside ≡ old → IsTimed (state inside.disk) → IsCore inside.held (state inside.disk) × AreFew inside.held.runs.sizes inside.holds
    → new.holds ≡ inside.holds → GoesOnAs state seat k answer old new → IsCore new.held (state new.disk) × AreFew new.held.runs.sizes new.holds
kept_on {D} state {seat} {k} {answer} {inside} {old} {new} is timed kept same goes = (
  core_kept state is kept.0 goes,
  subst (λ (s : Sizes). AreFew s new.holds) (sym sizes) (subst (λ (holds : List (Option HoldState)). AreFew inside.held.runs.sizes holds) (sym same) kept.1),
)
  where
    since : StandsSince state inside inside
    since = since_now state inside kept.0.pace timed kept.0.holds.told

    sizes : new.held.runs.sizes ≡ inside.held.runs.sizes
    sizes = (goes.lasts old (subst (λ (s : CoreState D). StandsSince state s s) is since)).sizes ∙ sym (ap (λ (s : CoreState D). s.held.runs.sizes) is)

-- a caller may leave
pub may_leave : (seat : ℕ) → seat < callers → is_caller seat ≡ true
may_leave seat below = lt-ltb seat callers below

pub may_next : (seat n : ℕ) (held : Held) → may_note_in seat n held.book ≡ true → 0 < n → n ≤ most_rows → may_in held seat (kind.Next n) ≡ true
may_next seat n held note some few = grind (arith, common_steps, nat_tests)

-- a seat that owes nothing while the store runs is even
pub even_in : (seat : ℕ) (held : Held) → (held.book.stopped ≡ None → first_debt held.gears seat + second_debt held.gears seat ≡ 0) → is_even_in seat held ≡ true
even_in seat held nothing = grind (arith, common_steps, nat_tests)

pub may_admit : (seat : ℕ) (op : Op) (held : Held) → is_write op ≡ true → may_note_in seat 0 held.book ≡ true → (held.book.stopped ≡ None → first_debt held.gears seat + second_debt held.gears seat ≡ 0)
    → may_in held seat (kind.Admit op) ≡ true
may_admit seat op held write note nothing = both (is_write op && may_note_in seat 0 held.book) (is_even_in seat held) (both (is_write op) (may_note_in seat 0 held.book) write note) (even_in seat held nothing)

pub may_work : (seat : ℕ) (held : Held) → may_turn_in seat held.book ≡ true → (held.book.stopped ≡ None → first_debt held.gears seat + second_debt held.gears seat ≡ 0) → may_in held seat kind.WorkTurn ≡ true
may_work seat held turns nothing = both (may_turn_in seat held.book) (is_even_in seat held) turns (even_in seat held nothing)

-- a worker's turn may be made
pub may_help : (seat : ℕ) → callers ≤ seat → seat < seats → is_worker seat ≡ true
may_help seat above below = both (nat_le callers seat) (nat_lt seat seats) (le-leb callers seat above) (lt-ltb seat seats below)
