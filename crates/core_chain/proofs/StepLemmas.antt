-- On an honest disk each call is a step of the machine, and so a chain of them is a list of steps.
use Rattle.std.proofs.Common.{◌≡◌, ◌∙◌, ℕ, ◌+◌, ◌≤◌, Bool, true, false, cond, List, [], ◌∷◌, ◌++◌, None, Some, length, length-append, refl, ap, sym, subst, arith}
use Rattle.std.proofs.lemmas.Grind.{common_steps}
use Rattle.std.proofs.lemmas.Bool.Decides.{nat_tests}
use Rattle.std.specs.Prelude.{IsSome, IsTrue, Option, map, suc, take, zero}
use mathlib.Core.List.{IsPrefix}
use Rattle.blsm_model.specs.Sizes.{Sizes}
use Rattle.blsm_model.specs.declared.history.Entry.{Entry}
use Rattle.blsm_model.specs.Legal.{is_write}
use Rattle.blsm_model.specs.declared.history.Reply.TheVariants.{Done}
use Rattle.blsm_model.specs.declared.history.Why.{Why}
use Rattle.blsm_model.specs.declared.key.Key.{Key}
use Rattle.blsm_model.specs.declared.row.Value.{Value}
use Rattle.disk_trait.specs.Disk.{DiskState}
use Rattle.disk_trait.specs.Moments.{IsTimed, LeavesOnly}
use Rattle.disk_trait.proofs.MomentLemmas.{goes_on_run, leaves_only_run, leaves_only_weaken}
use Rattle.seat_book.specs.State.{BookState}
use Rattle.tree_machine.specs.Machine.{Machine}
use Rattle.tree_machine.specs.Outcomes.{AreTold}
use Rattle.tree_machine.specs.Plays.{may, played, played_one, stepped_as}
use Rattle.tree_machine.specs.Steps.{Answer, Outcome, swaps_due}
use Rattle.tree_machine.specs.declared.step.Kind.{Kind}
use Rattle.tree_machine.specs.declared.step.Step.{Step}
use Rattle.tree_machine.proofs.FrameLemmas.{step_fixed}
use Rattle.core_lists.specs.Shown.{ShowsHistory}
use Rattle.core_lists.proofs.ShowingLemmas.{prefix_self, prefix_then, showing_is_kept}
use Rattle.tree_core.specs.Calls.{AreCalls, IsCall}
use Rattle.tree_core.specs.Causes.{pages_first}
use Rattle.tree_core.specs.Core.{CoreState, IsCore}
use Rattle.tree_core.specs.Holds.{StandsWhole}
use Rattle.tree_core.specs.Steps.{IsPlayed, IsWholeStep}
use Rattle.tree_core.proofs.BegunLemmas.{due_agree}
use Rattle.tree_core.proofs.PlayLemmas.{history_grows, may_agrees, none_is_played, prefix_length}
use Rattle.core_chain.specs.Steps.{Acknowledges, AllMay, AreTimed, ChainIsSteps, HasOwnSync, after_steps, calls_at, clock_after, floors_in}
use Rattle.core_chain.specs.Steps.{most_calls_at, noted_after, outcomes_in}
use Rattle.core_chain.specs.Tells.{calls_of}
use Rattle.core_chain.proofs.LinkLemmas.{goes_of, link_keeps, link_rests}
use Rattle.core_chain.proofs.RestLemmas.{link_quiet}
use Rattle.core_chain.proofs.SyncLemmas.{link_acknowledges}
use Rattle.core_chain.proofs.TellLemmas.{chain_reaches, link_reaches}

-- ---- how it calls the disk

-- no more often than its kind may where the machine stands
calls_of_kind : {D : Type 0} (state : D → DiskState) (opening : List (Key × Value)) (seat : ℕ) (k : Kind) (old new : CoreState D) (m : Machine) → IsCall state seat k old new → IsCore old.held (state old.disk) → IsTrue (state old.disk).is_honest
    → StandsWhole state opening old m → (state new.disk).clock ≤ (state old.disk).clock + calls_of m.gears.sizes (swaps_due m) k
calls_of_kind {D} state opening seat k old new m call keeps honest whole =
    subst (λ (s : Sizes). (state new.disk).clock ≤ (state old.disk).clock + calls_of s (swaps_due m) k) (sym whole.sizes) (by old.held.book.stopped refl)
  where
    by : (o : Option Why) → old.held.book.stopped ≡ o → (state new.disk).clock ≤ (state old.disk).clock + calls_of old.held.runs.sizes (swaps_due m) k
    by None runs =
        subst (λ (n : ℕ). (state new.disk).clock ≤ (state old.disk).clock + calls_of old.held.runs.sizes n k) (sym (due_agree opening old.held m (state old.disk) whole keeps runs)) (link_reaches state seat k old new call).calls
    by (Some why) is = let same = ap (λ (d : D). (state d).clock) (link_rests state seat k old new call (subst (λ (o : Option Why). IsSome o) (sym is) refl)) in omega (arith, same)

-- and not at all where it calls none
few_calls : {D : Type 0} (state : D → DiskState) (opening : List (Key × Value)) (seat : ℕ) (k : Kind) (old new : CoreState D) (m : Machine) → IsCall state seat k old new → IsCore old.held (state old.disk) → IsTrue (state old.disk).is_honest
    → StandsWhole state opening old m → (state new.disk).clock ≤ (state old.disk).clock + most_calls_at old.held.log.a.floor m seat k
few_calls {D} state opening seat k old new m call keeps honest whole = by (calls_at old.held.log.a.floor m seat k) refl
  where
    by : (b : Bool) → calls_at old.held.log.a.floor m seat k ≡ b → (state new.disk).clock ≤ (state old.disk).clock + most_calls_at
        old.held.log.a.floor m seat k
    by true is = subst (λ (n : ℕ). (state new.disk).clock ≤ (state old.disk).clock + n) (sym (ap (λ (b : Bool). cond b (calls_of m.gears.sizes (swaps_due m) k) 0) is)) (calls_of_kind state opening seat k old new m call keeps honest whole)
    by false is =
        subst (λ (n : ℕ). (state new.disk).clock ≤ (state old.disk).clock + n) (sym (ap (λ (b : Bool). cond b (calls_of m.gears.sizes (swaps_due m) k) 0) is))
        (let same = ap (λ (d : D). (state d).clock) (link_quiet state opening seat k old new m call keeps honest whole is) in omega (arith, same))

-- ---- the chain

no_steps : (made : List (Step × Outcome)) → map (λ (x : Step × Outcome). x.0) made ≡ [] → made ≡ []
no_steps [] none = refl
no_steps (one ∷ made) none = absurd (cc none)

-- no call
module _ {D : Type 0} (state : D → DiskState) (opening : List (Key × Value)) (start : CoreState D) (m : Machine) (timed : IsTimed (state start.disk)) (whole : StandsWhole state opening start m) where
  pub no_step : ChainIsSteps state opening [] start start m
  no_step = record {
    made = [];
    steps_are = refl;
    clocks_are = refl;
    timed = refl;
    may = tt;
    told = omega arith;
    whole = tt;
    stands = whole;
    grows = prefix_self m.book.entries;
    images = shows;
    moments = λ k t c late left.
        subst (λ (es : List Entry). ShowsHistory m.gears.sizes opening start.held.book.book.entries (length es) c) (sym (same k))
        (subst (λ (es : List Entry). ShowsHistory m.gears.sizes opening es (length m.book.entries) c) (ap (λ (b : BookState). b.book.entries) whole.book)
        (shows.each c (timed.since_earlier (state start.disk).clock t c (early k late) left)));
    acknowledged = λ k noted.
        let longer = ap (λ (es : List Entry). length es) (sym (same (suc k)) ∙ noted.noted ∙ ap (λ (es : List Entry). es ++ noted.entry ∷ []) (same k)) in
        absurd (omega (arith, longer, length-append m.book.entries (noted.entry ∷ [])));
  }
    where
      none : IsPlayed state opening [] start start m
      none = none_is_played state opening start m timed whole

      -- nothing was played, and the clock stands
      shows : LeavesOnly (state start.disk) (state start.disk) (ShowsHistory m.gears.sizes opening m.book.entries (length m.book.entries))
      shows = subst (λ (steps : List (Step × Outcome)). LeavesOnly (state start.disk) (state start.disk) (ShowsHistory m.gears.sizes opening (played m steps).book.entries (length m.book.entries))) (no_steps none.made none.steps_are) none.images

      same : (k : ℕ) → (played m (take k (outcomes_in []))).book.entries ≡ m.book.entries
      same k = grind (arith, common_steps, nat_tests)

      early : {t : ℕ} (k : ℕ) → clock_after (state start.disk).clock k [] ≤ t → (state start.disk).clock ≤ t
      early zero late = late
      early (suc k) late = late

-- one call, and then the others
module _ {D : Type 0} (state : D → DiskState) (opening : List (Key × Value)) (first : Step × CoreState D) (calls : List (Step × CoreState D)) (start end : CoreState D) (m : Machine) (timed : IsTimed (state end.disk))
    (rises : (state start.disk).clock ≤ (state first.1.disk).clock)
    (few : (state first.1.disk).clock ≤ (state start.disk).clock + most_calls_at start.held.log.a.floor m first.0.seat first.0.kind)
    (faults : (state start.disk).faults ≤ (state first.1.disk).faults)
    (book : m.book.entries ≡ start.held.book.book.entries)
    (ends : (e : Entry) → first.1.held.book.book.entries ≡ start.held.book.book.entries ++ e ∷ [] → is_write e.op ≡ true → e.reply ≡ Done
    → HasOwnSync (pages_first e.op) (swaps_due m) (state start.disk).clock (state first.1.disk).clock (state end.disk))
    (answer : Answer) (can : may m first.0.seat first.0.kind ≡ true) (one : IsWholeStep state opening first.0.seat first.0.kind answer start first.1 m)
    (rest : ChainIsSteps state opening calls first.1 end (stepped_as m first.0.seat first.0.kind one.outcome).state) where
  abbrev next : Machine
  next = (stepped_as m first.0.seat first.0.kind one.outcome).state

  abbrev made : List (Step × Outcome × ℕ)
  made = (first.0, one.outcome, (state first.1.disk).clock) ∷ rest.made

  -- the step is made, since it may be
  played_is : played_one m (first.0, one.outcome) ≡ next
  played_is = ap (λ (b : Bool). cond b next m) can

  same_sizes : next.gears.sizes ≡ m.gears.sizes
  same_sizes = (step_fixed m first.0.seat first.0.kind one.outcome can).0

  grows_one : IsPrefix m.book.entries next.book.entries
  grows_one = history_grows m first.0.seat first.0.kind one.outcome can

  -- the rest, from where the step leads
  rest_may : AllMay (played_one m (first.0, one.outcome)) (outcomes_in rest.made)
  rest_may = subst (λ (x : Machine). AllMay x (outcomes_in rest.made)) (sym played_is) rest.may

  rest_told : AreTold (played_one m (first.0, one.outcome)) (state first.1.disk).faults (outcomes_in rest.made) (state end.disk).faults
  rest_told = subst (λ (x : Machine). AreTold x (state first.1.disk).faults (outcomes_in rest.made) (state end.disk).faults) (sym played_is) rest.told

  all_played : played m (outcomes_in made) ≡ played next (outcomes_in rest.made)
  all_played = ap (λ (x : Machine). played x (outcomes_in rest.made)) played_is

  grows_all : IsPrefix m.book.entries (played next (outcomes_in rest.made)).book.entries
  grows_all = prefix_then m.book.entries next.book.entries (played next (outcomes_in rest.made)).book.entries grows_one rest.grows

  -- the history in the end is the core's
  entries_are : (played next (outcomes_in rest.made)).book.entries ≡ end.held.book.book.entries
  entries_are = ap (λ (b : BookState). b.book.entries) rest.stands.book

  images_all : LeavesOnly (state start.disk) (state end.disk) (ShowsHistory m.gears.sizes opening (played next (outcomes_in rest.made)).book.entries (length m.book.entries))
  images_all =
      let last = (played next (outcomes_in rest.made)).book.entries in
      leaves_only_run
      (leaves_only_weaken (λ file shows. showing_is_kept m.gears.sizes opening next.book.entries last (length m.book.entries) (length m.book.entries) file rest.grows (omega arith) shows) one.images)
      (leaves_only_weaken (λ file shows. showing_is_kept m.gears.sizes opening last last (length next.book.entries) (length m.book.entries) file (prefix_self last) (prefix_length m.book.entries next.book.entries grows_one)
      (subst (λ (s : Sizes). ShowsHistory s opening last (length next.book.entries) file) same_sizes shows)) rest.images)

  moments_all : (k t : ℕ) (c : List ℕ) → clock_after (state start.disk).clock k made ≤ t → (state end.disk).images_since t c
      → ShowsHistory m.gears.sizes opening end.held.book.book.entries (length (noted_after m k made)) c
  moments_all zero t c late left =
      subst (λ (es : List Entry). ShowsHistory m.gears.sizes opening es (length m.book.entries) c) entries_are (images_all.each c (timed.since_earlier (state start.disk).clock t c late left))
  moments_all (suc k) t c late left =
      subst (λ (x : Machine). ShowsHistory m.gears.sizes opening end.held.book.book.entries (length (played x (take k (outcomes_in rest.made))).book.entries) c) (sym played_is)
      (subst (λ (s : Sizes). ShowsHistory s opening end.held.book.book.entries (length (played next (take k (outcomes_in rest.made))).book.entries) c) same_sizes (rest.moments k t c late left))

  -- the first step may have noted it, or one of the others
  acknowledged_all : (k : ℕ) → (it : Acknowledges m k made)
      → HasOwnSync (pages_first it.entry.op) (swaps_due (after_steps m k made)) (clock_after (state start.disk).clock k made)
      (clock_after (state start.disk).clock (suc k) made) (state end.disk)
  acknowledged_all zero noted =
      let entries : next.book.entries ≡ first.1.held.book.book.entries = ap (λ (b : BookState). b.book.entries) one.stands.book in
      ends noted.entry (sym entries ∙ ap (λ (x : Machine). x.book.entries) (sym played_is) ∙ noted.noted ∙ ap (λ (es : List Entry). es ++ noted.entry ∷ []) book) noted.write noted.ok
  acknowledged_all (suc k) noted =
      let later : Acknowledges next k rest.made = record {
        entry = noted.entry;
        noted = subst (λ (x : Machine). noted_after x (suc k) rest.made ≡ noted_after x k rest.made ++ noted.entry ∷ []) played_is noted.noted;
        write = noted.write;
        ok = noted.ok;
      } in
      subst (λ (x : Machine). HasOwnSync (pages_first noted.entry.op) (swaps_due (after_steps x k rest.made))
      (clock_after (state first.1.disk).clock k rest.made) (clock_after (state first.1.disk).clock (suc k) rest.made) (state end.disk))
      (sym played_is)
      (rest.acknowledged k later)

  pub one_step : ChainIsSteps state opening (first ∷ calls) start end m
  one_step = record {
    made = made;
    steps_are = ap (λ (xs : List Step). first.0 ∷ xs) rest.steps_are;
    clocks_are = ap (λ (xs : List ℕ). (state first.1.disk).clock ∷ xs) rest.clocks_are;
    timed = (
      rises,
      few,
      subst (λ (x : Machine). AreTimed x (floors_in first.1 calls) (state first.1.disk).clock rest.made (state end.disk).clock)
          (sym played_is) rest.timed,
    );
    may = (can, rest_may);
    told = ((state first.1.disk).faults, faults, λ can. one.possible, rest_told);
    whole = (one.whole, rest.whole);
    stands = subst (λ (x : Machine). StandsWhole state opening end x) (sym all_played) rest.stands;
    grows = subst (λ (x : Machine). IsPrefix m.book.entries x.book.entries) (sym all_played) grows_all;
    images = subst (λ (x : Machine). LeavesOnly (state start.disk) (state end.disk) (ShowsHistory m.gears.sizes opening x.book.entries (length m.book.entries))) (sym all_played) images_all;
    moments = moments_all;
    acknowledged = acknowledged_all;
  }

-- Each call of the chain is a step.
pub chain_is_steps : {D : Type 0} (state : D → DiskState) (opening : List (Key × Value)) (calls : List (Step × CoreState D)) (start end : CoreState D) (m : Machine) → IsTimed (state end.disk) → IsCore start.held (state start.disk)
    → AreCalls state calls start end → IsTrue (state start.disk).is_honest → StandsWhole state opening start m → ChainIsSteps state opening calls start end m
chain_is_steps {D} state opening [] start end m timed keeps are honest whole =
    subst (λ (core : CoreState D). ChainIsSteps state opening [] start core m) (sym are)
    (no_step state opening start m (subst (λ (core : CoreState D). IsTimed (state core.disk)) are timed) whole)
chain_is_steps {D} state opening (one ∷ calls) start end m timed keeps are honest whole =
    let step = one.0 in
    let mid = one.1 in
    let goes_as = goes_of state step.seat step.kind start mid are.0 in
    let link = goes_as.1.steps opening m honest whole in
    let can : may m step.seat step.kind ≡ true = may_agrees step.seat step.kind start.held m whole.book whole.gears ∙ goes_as.1.may in
    let reaches = link_reaches state step.seat step.kind start mid are.0 in
    let goes = reaches.goes_on in
    let kept = link_keeps state step.seat step.kind start mid are.0 keeps in
    let behind = chain_reaches state calls mid end are.1 kept in
    one_step state opening one calls start end m timed goes.clock (few_calls state opening step.seat step.kind start mid m are.0 keeps honest whole) goes.faults (ap (λ (b : BookState). b.book.entries) whole.book)
    (link_acknowledges state opening step.seat step.kind start mid m (state end.disk) are.0 keeps whole (goes_on_run goes behind.goes_on) behind.syncs) goes_as.0 can link
    (chain_is_steps state opening calls mid end (stepped_as m step.seat step.kind link.outcome).state timed kept are.1
    (subst IsTrue (sym goes.is_honest) honest) link.stands)
