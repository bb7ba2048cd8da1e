-- Lists of steps: each step is the machine's, or is passed over.
use Rattle.std.specs.Prelude.{◌≡◌, ◌↔◌, IsTrue, ℕ, ◌≤◌, Bool, true, false, List, [], ◌∷◌, ◌++◌, length, map}
use Rattle.std.proofs.lemmas.Grind.{common_steps}
use Rattle.std.proofs.lemmas.Bool.Decides.{nat_tests}
use Rattle.std.proofs.Common.{◌∙◌, ⊎_elim, cond, length-append, refl, ap, sym, subst, arith}
use Rattle.std.proofs.lemmas.List.{map-append}
use Rattle.std.proofs.lemmas.List.Sums.{fold-append}
use mathlib.Core.List.{IsPrefix}
use Rattle.blsm_model.specs.Legal.{TailsFit}
use Rattle.blsm_model.specs.declared.op.Op.{Op}
use Rattle.blsm_model.specs.declared.key.Key.{Key}
use Rattle.blsm_model.specs.declared.row.Value.{Value}
use Rattle.blsm_model.specs.declared.history.Entry.{Entry}
use Rattle.blsm_model.specs.Sizes.{Sizes}
use Rattle.disk_trait.specs.Disk.{DiskState, GoesOn}
use Rattle.disk_trait.specs.Moments.{IsTimed, LeavesOnly}
use Rattle.disk_trait.proofs.MomentLemmas.{goes_on_start, leaves_only_run, leaves_only_weaken}
use Rattle.seat_book.specs.State.{book_of}
use Rattle.tree_machine.specs.declared.step.Kind.{Kind}
use Rattle.tree_machine.specs.declared.step.Step.{Step}
use Rattle.tree_machine.specs.Machine.{Machine}
use Rattle.tree_machine.specs.Outcomes.{AreTold, IsPossible, NoneBroken}
use Rattle.tree_machine.specs.Plays.{may, played, played_one, stepped_as}
use Rattle.tree_machine.specs.Steps.{Outcome, Answer, Well}
use Rattle.tree_machine.proofs.FrameLemmas.{step_fixed, step_follows}
use Rattle.core_moves.specs.declared.held.Held.{Held}
use Rattle.core_lists.specs.Shown.{ShowsHistory}
use Rattle.core_lists.proofs.ShowingLemmas.{prefix_self, prefix_then, showing_is_kept}
use Rattle.tree_core.specs.Core.{CoreState}
use Rattle.tree_core.specs.Holds.{StandsWhole}
use Rattle.tree_core.proofs.QuietLemmas.{leaves_now}
use Rattle.tree_core.specs.Steps.{IsWholeStep, IsPlayed, is_fit, may_in}

-- ---- when a step may be made

-- what the machine says of it is what the core has in memory
pub may_agrees : (seat : ℕ) (k : Kind) (held : Held) (m : Machine) → book_of m ≡ held.book → m.gears ≡ held.gears → may m seat k ≡ may_in held seat k
may_agrees seat k held m h1 h2 = grind (arith, common_steps, nat_tests)

-- ---- which tails fit

same_truth : (a b : Bool) → (a ≡ true → b ≡ true) → (b ≡ true → a ≡ true) → a ≡ b
same_truth a b h1 h2 = grind (arith, common_steps, nat_tests)

-- what is tested is what is asked for
pub tails_fit : (op : Op) → is_fit op ≡ true → TailsFit op
tails_fit op h1 = grind (arith, common_steps, nat_tests)

are_fit : (op : Op) → TailsFit op → is_fit op ≡ true
are_fit op h1 = grind (arith, common_steps, nat_tests)

pub fit_as : (op : Op) (fits : Bool) → (IsTrue fits ↔ TailsFit op) → fits ≡ is_fit op
fit_as op fits is = same_truth fits (is_fit op) (λ yes. are_fit op (is.0 yes)) (λ yes. is.1 (tails_fit op yes))

-- ---- lists of steps

-- what the machine does without any
pub none_is_played : {D : Type 0} (state : D → DiskState) (opening : List (Key × Value)) (core : CoreState D) (m : Machine) → IsTimed (state core.disk) → StandsWhole state opening core m
    → IsPlayed state opening [] core core m
none_is_played state opening core m timed whole = record {
  made = [];
  steps_are = refl;
  told = omega arith;
  whole = tt;
  stands = whole;
  grows = prefix_self m.book.entries;
  images = leaves_only_weaken (λ c shows. shows.0) (leaves_now opening core.held m (state core.disk) timed whole);
}

-- a step of one seat notes one entry at most
pub history_grows : (m : Machine) (seat : ℕ) (k : Kind) (outcome : Outcome) → may m seat k ≡ true → IsPrefix m.book.entries (stepped_as m seat k outcome).state.book.entries
history_grows m seat k outcome can = ⊎_elim
    (λ (same : (stepped_as m seat k outcome).state.book.entries ≡ m.book.entries). subst (λ (es : List Entry). IsPrefix m.book.entries es) (sym same) (prefix_self m.book.entries))
    (λ one. subst (λ (es : List Entry). IsPrefix m.book.entries es) (sym one.2) (one.0 ∷ [], refl))
    (step_follows m seat k outcome can).history

one_told : (m : Machine) (step : Step) (outcome : Outcome) (old new : ℕ) → old ≤ new → (may m step.seat step.kind ≡ true → IsPossible m step.seat step.kind outcome old new) → AreTold m old ((step, outcome) ∷ []) new
one_told m step outcome old new grows possible = (new, grows, possible, omega arith)

-- a step that was made
pub made_is_played : {D : Type 0} (state : D → DiskState) (opening : List (Key × Value)) (step : Step) (answer : Answer) (old new : CoreState D) (m : Machine) → may m step.seat step.kind ≡ true
    → (state old.disk).faults ≤ (state new.disk).faults → IsWholeStep state opening step.seat step.kind answer old new m → IsPlayed state opening (step ∷ []) old new m
made_is_played state opening step answer old new m can grows is =
    let outcome = is.outcome in
    let played_is : played_one m (step, outcome) ≡ (stepped_as m step.seat step.kind outcome).state = ap (λ (b : Bool). cond b (stepped_as m step.seat step.kind outcome).state m) can in
    record {
      made = (step, outcome) ∷ [];
      steps_are = refl;
      told = one_told m step outcome (state old.disk).faults (state new.disk).faults grows (λ may. is.possible);
      whole = (is.whole, tt);
      stands = subst (λ (x : Machine). StandsWhole state opening new x) (sym played_is) is.stands;
      grows = subst (λ (x : Machine). IsPrefix m.book.entries x.book.entries) (sym played_is) (history_grows m step.seat step.kind outcome can);
      images = subst (λ (x : Machine). LeavesOnly (state old.disk) (state new.disk) (ShowsHistory m.gears.sizes opening x.book.entries (length m.book.entries))) (sym played_is) is.images;
    }

-- a step of a kind, whose condition holds by what the core has in memory
pub played_by : {D : Type 0} (state : D → DiskState) (opening : List (Key × Value)) (step : Step) (k : Kind) (answer : Answer) (old new : CoreState D) (m : Machine) → step.kind ≡ k
    → may_in old.held step.seat step.kind ≡ true → GoesOn (state old.disk) (state new.disk) → StandsWhole state opening old m
    → (may m step.seat k ≡ true → IsWholeStep state opening step.seat k answer old new m) → IsPlayed state opening (step ∷ []) old new m
played_by state opening step k answer old new m is can goes whole by =
    let may_now : may m step.seat step.kind ≡ true = may_agrees step.seat step.kind old.held m whole.book whole.gears ∙ can in
    let made = by (subst (λ (x : Kind). may m step.seat x ≡ true) is may_now) in
    made_is_played state opening step answer old new m may_now goes.faults (subst (λ (x : Kind). IsWholeStep state opening step.seat x answer old new m) (sym is) made)

-- one that is passed over
pub passed_is_played : {D : Type 0} (state : D → DiskState) (opening : List (Key × Value)) (step : Step) (core : CoreState D) (m : Machine) → IsTimed (state core.disk)
    → may_in core.held step.seat step.kind ≡ false → StandsWhole state opening core m → IsPlayed state opening (step ∷ []) core core m
passed_is_played state opening step core m timed cannot whole =
    let d = state core.disk in
    let not : may m step.seat step.kind ≡ false = may_agrees step.seat step.kind core.held m whole.book whole.gears ∙ cannot in
    let played_is : played_one m (step, Well) ≡ m = ap (λ (b : Bool). cond b (stepped_as m step.seat step.kind Well).state m) not in
    record {
      made = (step, Well) ∷ [];
      steps_are = refl;
      told = one_told m step Well d.faults d.faults (omega arith) (λ may. tt);
      whole = (refl, tt);
      stands = subst (λ (x : Machine). StandsWhole state opening core x) (sym played_is) whole;
      grows = subst (λ (x : Machine). IsPrefix m.book.entries x.book.entries) (sym played_is) (prefix_self m.book.entries);
      images = subst (λ (x : Machine). LeavesOnly d d (ShowsHistory m.gears.sizes opening x.book.entries (length m.book.entries))) (sym played_is) (leaves_only_weaken (λ c shows. shows.0) (leaves_now opening core.held m d timed whole));
    }

-- a disk that wasn't called
pub goes_still : {D : Type 0} (state : D → DiskState) {old new : D} → new ≡ old → GoesOn (state old) (state new)
goes_still {D} state {old} {new} same = subst (λ (d : D). GoesOn (state old) (state d)) (sym same) (goes_on_start (state old))

-- ---- one after another

sooner : (m : Machine) (seat : ℕ) (k : Kind) (outcome : Outcome) (old mid new : ℕ) → old ≤ mid → IsPossible m seat k outcome mid new → IsPossible m seat k outcome old new
sooner m seat k outcome old mid new h1 h2 = grind (arith, common_steps, nat_tests)

pub prefix_length : (a b : List Entry) → IsPrefix a b → length a ≤ length b
prefix_length a b begins = omega (arith, ap (λ (es : List Entry). length es) begins.1, length-append a begins.0)

-- the sizes are those of the opening
played_sizes : (m : Machine) (made : List (Step × Outcome)) → (played m made).gears.sizes ≡ m.gears.sizes
played_sizes m [] = refl
played_sizes m (one ∷ made) = played_sizes (played_one m one) made ∙ by (may m one.0.seat one.0.kind) refl
  where
    by : (b : Bool) → may m one.0.seat one.0.kind ≡ b → (cond b (stepped_as m one.0.seat one.0.kind one.1).state m).gears.sizes ≡ m.gears.sizes
    by true can = ap (λ x. x) (step_fixed m one.0.seat one.0.kind one.1 can).0
    by false can = refl

told_then : (m : Machine) (old mid new : ℕ) (first second : List (Step × Outcome)) → AreTold m old first mid → AreTold (played m first) mid second new → AreTold m old (first ++ second) new
told_then m old mid new [] second before then = lower m old mid new second before then
  where
    lower : (m : Machine) (old mid new : ℕ) (second : List (Step × Outcome)) → old ≤ mid → AreTold m mid second new → AreTold m old second new
    lower m old mid new [] le then = omega (arith, le, then)
    lower m old mid new (made ∷ second) le then = (then.0, omega (arith, le, then.1), λ can. sooner m made.0.seat made.0.kind made.1 old mid then.0 le (then.2 can), then.3)
told_then m old mid new (made ∷ first) second before then = (before.0, before.1, before.2, told_then (played_one m made) before.0 mid new first second before.3 then)

whole_then : (first second : List (Step × Outcome)) → NoneBroken first → NoneBroken second → NoneBroken (first ++ second)
whole_then [] second one two = two
whole_then (made ∷ first) second one two = (one.0, whole_then first second one.1 two)

-- these steps, and then those
pub both_are_played : {D : Type 0} (state : D → DiskState) (opening : List (Key × Value)) (first second : List Step) (old mid new : CoreState D) (m : Machine) (one : IsPlayed state opening first old mid m)
    → IsPlayed state opening second mid new (played m one.made) → IsPlayed state opening (first ++ second) old new m
both_are_played state opening first second old mid new m one two =
    let before = state old.disk in
    let between = state mid.disk in
    let after = state new.disk in
    let all : played m (one.made ++ two.made) ≡ played (played m one.made) two.made = fold-append played_one m one.made two.made in
    let grows : IsPrefix m.book.entries (played (played m one.made) two.made).book.entries = prefix_then m.book.entries (played m one.made).book.entries (played (played m one.made) two.made).book.entries one.grows two.grows in
    let longer = leaves_only_run
    (leaves_only_weaken (λ file shows. showing_is_kept m.gears.sizes opening (played m one.made).book.entries (played (played m one.made) two.made).book.entries (length m.book.entries) (length m.book.entries) file two.grows (omega arith) shows) one.images)
    (leaves_only_weaken (λ file shows. showing_is_kept m.gears.sizes opening (played (played m one.made) two.made).book.entries (played (played m one.made) two.made).book.entries (length (played m one.made).book.entries) (length m.book.entries) file
    (prefix_self (played (played m one.made) two.made).book.entries) (prefix_length m.book.entries (played m one.made).book.entries one.grows) (subst (λ (s : Sizes). ShowsHistory s opening (played (played m one.made) two.made).book.entries (length (played m one.made).book.entries) file) (played_sizes m one.made) shows)) two.images) in
    record {
      made = one.made ++ two.made;
      steps_are = map-append (λ (x : Step × Outcome). x.0) one.made two.made ∙ ap (λ (xs : List Step). xs ++ map (λ (x : Step × Outcome). x.0) two.made) one.steps_are ∙ ap (λ (xs : List Step). first ++ xs) two.steps_are;
      told = told_then m before.faults between.faults after.faults one.made two.made one.told two.told;
      whole = whole_then one.made two.made one.whole two.whole;
      stands = subst (λ (x : Machine). StandsWhole state opening new x) (sym all) two.stands;
      grows = subst (λ (x : Machine). IsPrefix m.book.entries x.book.entries) (sym all) grows;
      images = subst (λ (x : Machine). LeavesOnly before after (ShowsHistory m.gears.sizes opening x.book.entries (length m.book.entries))) (sym all) longer;
    }
