-- The headline, from what opening a store says and what a run from there on keeps.
use Rattle.std.specs.Prelude.{◌≡◌, ◌<◌, ◌≤◌, ◌+◌, ◌*◌, ℕ, Bool, true, false, ◌||◌, List, [], ◌∷◌, Option, None, drop, map, sum, take}
use Rattle.std.proofs.lemmas.Grind.{common_steps}
use Rattle.std.proofs.lemmas.Bool.Decides.{nat_tests}
use Rattle.std.specs.List.{AllByRecursion, list_any}
use Rattle.std.proofs.Common.{◌∙◌, append-nil, arith, ap, cond, refl, subst, sym}
use Rattle.std.proofs.lemmas.List.Sums.{sum_by-take-drop}
use Rattle.blsm_model.specs.Format.{callers}
use Rattle.blsm_model.specs.Geometry.{high_mark, limits_of}
use Rattle.blsm_model.specs.Legal.{IsLegal}
use Rattle.blsm_model.specs.Rows.{puts_of}
use Rattle.blsm_model.specs.Scripts.{asked, asked_in}
use Rattle.blsm_model.specs.Sizes.{Sizes}
use Rattle.blsm_model.specs.Values.{value_at}
use Rattle.blsm_model.specs.declared.history.Entry.{Entry}
use Rattle.blsm_model.specs.declared.history.Line.{Line}
use Rattle.blsm_model.specs.declared.key.Key.{Key}
use Rattle.blsm_model.specs.declared.room.Room.{Room}
use Rattle.blsm_model.specs.declared.op.Write.{Write}
use Rattle.blsm_model.specs.declared.row.Row.{Row}
use Rattle.blsm_model.specs.declared.row.Value.{Value}
use Rattle.core_moves.specs.declared.held.Held.{Held}
use Rattle.core_moves.specs.Held.{charge_in}
use Rattle.core_lists.specs.Standing.{catalogue_of}
use Rattle.core_lists.specs.Shown.{HasCommitted, WeighsWithin, doubted, lanes_weight, most_worked}
use Rattle.core_lists.proofs.FileWeights.{running_is_sure}
use Rattle.disk_trait.specs.Disk.{DiskState, GoesOn}
use Rattle.disk_trait.specs.Moments.{IsTimed}
use Rattle.pacing.specs.Kept.{most_taken}
use Rattle.recover_open.specs.Opening.{KeepsMapOf, OpensAs, TakesFew}
use Rattle.record_delta.specs.Entries.{Entries, entries_weight}
use Rattle.seat_book.specs.Seats.{turns_in}
use Rattle.seat_book.specs.State.{BookState, book_of, totals_in}
use Rattle.tree_core.specs.Core.{CoreState}
use Rattle.tree_core.specs.Holds.{StandsWhole}
use Rattle.tree_core.specs.Standing.{AnyRows, RunsOver, StandsFor}
use Rattle.tree_core.specs.Steps.{IsPlayed}
use Rattle.tree_core.proofs.QuietLemmas.{shows_now, with_rows}
use Rattle.tree_file.specs.Tree.{HoldsTree, components_weight}
use Rattle.tree_machine.specs.declared.step.Step.{Step}
use Rattle.tree_machine.specs.Machine.{Catalogue, Machine, WorkSoFar, charge, no_work, opened, seats, totals}
use Rattle.tree_machine.specs.Outcomes.{AreTold, is_damaged}
use Rattle.tree_machine.specs.Plays.{is_help, may_step, played, played_one, stepped}
use Rattle.tree_machine.specs.Steps.{Outcome, one_if}
use Rattle.tree_machine.proofs.PlayLemmas.{of_replicate}
use Rattle.tree_session.specs.Lines.{Rests}
use Rattle.tree_shared.specs.Runs.{RunsAll}
use Rattle.core_chain.specs.Quanta.{helps_in}
use Rattle.core_chain.specs.Start.{steps_of}
use Rattle.core_chain.specs.Steps.{ChainIsSteps, outcomes_in}
use Rattle.gear_sched.specs.Gears.{GearState}
use Rattle.store_run.specs.Headline.{EndsWithin, Headline, HoldsState, IsReached, IsServed, IsServedInOrder}
use Rattle.store_run.specs.Run.{HaveEnded, HaveRested, IsRunInOrder, IsRunOf, Run, WasOpened, finds_damage, run_at}
use Rattle.store_run.proofs.CauseLemmas.{AreCaused, causes_of}
use Rattle.store_run.proofs.CrashLemmas.{leaves_history}
use Rattle.tree_machine.proofs.FrameLemmas.{step_fixed}
use Rattle.tree_machine.proofs.TellLemmas.{none_damaged}
use Rattle.store_run.proofs.SoloLemmas.{solo_of}
use Rattle.store_run.proofs.RunLemmas.{HasRun, came_to_end, is_run_of, workers_took}
use Rattle.tree_machine.proofs.Terms.{FindsNone, is_bad_page}

-- ---- what steps keep

-- the sizes and the charge at the opening
abbrev KeepsOpening : Machine → Machine → Type 0
KeepsOpening m end = (end.gears.sizes ≡ m.gears.sizes) × (end.counts.charge ≡ m.counts.charge)

played_keeps : (m : Machine) (made : List (Step × Outcome)) → KeepsOpening m (played m made)
played_keeps m [] = (refl, refl)
played_keeps m (one ∷ made) =
    let first = by (may_step m one.0) refl in
    let rest = played_keeps (played_one m one) made in
    (rest.0 ∙ first.0, rest.1 ∙ first.1)
  where
    by : (b : Bool) → may_step m one.0 ≡ b → KeepsOpening m (cond b (stepped m one.0 one.1).state m)
    by true can = let kept = step_fixed m one.0.seat one.0.kind one.1 can in (kept.0, kept.1)
    by false can = (refl, refl)

-- no entry tells of a damaged page
no_reply : (entries : List Entry) → AllByRecursion (λ e. is_damaged e.reply ≡ false) entries → list_any (λ e. is_damaged e.reply) entries ≡ false
no_reply [] none = refl
no_reply (entry ∷ entries) none = ap (λ (b : Bool). b || list_any (λ e. is_damaged e.reply) entries) none.0 ∙ no_reply entries none.1

opened_finds_none : (sizes : Sizes) (c1 c2 : Entries) (catalogue : Catalogue) (faults : ℕ) (room : Room) → FindsNone (opened sizes c1 c2 catalogue faults room)
opened_finds_none sizes c1 c2 catalogue faults room = record {
  entries = tt;
  stopped = refl;
  works = λ seat. ap (λ (w : WorkSoFar). is_bad_page w.last) (of_replicate callers seat no_work);
}

-- ---- an end that was reached

-- The core stands for this state of the machine in the end, which was reached from the opening; and no page was found damaged on the way.
pub record Ends (opening : List (Key × Value)) (held : Held) (first : Machine) (m : Machine) (d : DiskState) : Type 0 where
  pub stands : StandsFor AnyRows opening held m d
  pub kept : KeepsOpening first m
  pub none : FindsNone m

no_page_of : (opening : List (Key × Value)) (held : Held) (first m : Machine) (d : DiskState) (charge : ℕ) → Ends opening held first m d → finds_damage (run_at charge held) ≡ false
no_page_of opening held first m d charge ends = grind (arith, common_steps, nat_tests, no_reply)

replies_of : (opening : List (Key × Value)) (held : Held) (first m : Machine) (d : DiskState) (sizes : Sizes) (charge : ℕ) → held.runs.sizes ≡ sizes → first.counts.charge ≡ charge
    → Ends opening held first m d → IsLegal (limits_of sizes charge) opening held.book.book.entries
replies_of opening held first m d sizes charge same is ends =
    let legal = ends.stands.paced.stands.told.legal in
    let of_sizes = subst (λ (s : Sizes). IsLegal (limits_of s m.counts.charge) opening m.book.entries) (ends.stands.sizes ∙ same) legal in
    let of_charge = subst (λ (n : ℕ). IsLegal (limits_of sizes n) opening m.book.entries) (ends.kept.1 ∙ is) of_sizes in
    subst (λ (b : BookState). IsLegal (limits_of sizes charge) opening b.book.entries) ends.stands.book of_charge

totals_of : (held : Held) (m : Machine) → m.gears.sizes ≡ held.runs.sizes → charge m ≡ charge_in held → book_of m ≡ held.book → totals m ≡ totals_in (high_mark held.runs.sizes) (charge_in held) held.book
totals_of held m sizes is book = grind (arith, common_steps, nat_tests)

-- whether it runs or was stopped
ended_of : (opening : List (Key × Value)) (held : Held) (first m : Machine) (d : DiskState) (sizes : Sizes) (charge : ℕ) → held.runs.sizes ≡ sizes → first.counts.charge ≡ charge
    → Ends opening held first m d → EndsWithin sizes (run_at charge held) d.bytes
ended_of opening held first m d sizes charge same is ends =
    let weighs : WeighsWithin m m.book.entries d.bytes = (shows_now opening held m d ends.stands).reads.1 in
    let one : m.gears.sizes ≡ sizes = ends.stands.sizes ∙ same in
    let all : sum m.seats.quanta ≡ sum (take callers m.seats.quanta) + sum (drop callers m.seats.quanta) = sym (sum_by-take-drop (λ n. n) m.seats.quanta callers) in
    let work : most_worked m ≡ charge + most_taken sizes * (sum (take callers m.seats.quanta) + sum (drop callers m.seats.quanta)) =
    ap (λ (n : ℕ). n + most_taken m.gears.sizes * sum m.seats.quanta) (ends.kept.1 ∙ is)
    ∙ ap (λ (s : Sizes). charge + most_taken s * sum m.seats.quanta) one
    ∙ ap (λ (n : ℕ). charge + most_taken sizes * n) all in
    record {
      tree = weighs.tree;
      holds = subst (λ (s : Sizes). HoldsTree s weighs.tree d.bytes) one weighs.holds;
      components = subst (λ (b : BookState). components_weight weighs.tree ≤ charge + most_taken sizes * (sum (take callers b.seats.quanta) + sum (drop callers b.seats.quanta))) ends.stands.book
          (subst (λ (n : ℕ). components_weight weighs.tree ≤ n) work weighs.components);
      lanes = subst (λ (b : BookState). lanes_weight weighs.tree ≤ b.counts.peak + doubted b.book.entries) ends.stands.book weighs.lanes;
      sure = λ runs. subst (λ (b : BookState). doubted b.book.entries ≡ 0) ends.stands.book
          (running_is_sure m.book.entries (ends.stands.paced.stands.told.running (ap (λ (b : BookState). b.stopped) ends.stands.book ∙ runs)));
    }

-- how many commits it tells
committed_of : (opening : List (Key × Value)) (held : Held) (first m : Machine) (d : DiskState) (sizes : Sizes) → held.runs.sizes ≡ sizes → Ends opening held first m d → HasCommitted sizes m.catalogue.version d
committed_of opening held first m d sizes same ends =
    subst (λ (z : Sizes). HasCommitted z m.catalogue.version d) (ends.stands.sizes ∙ same) (shows_now opening held m d ends.stands).commits

-- ---- from an opening on

-- the charge of the opening is what its components weigh
opened_charge : (sizes : Sizes) (c1 c2 : Entries) (catalogue : Catalogue) (faults : ℕ) (room : Room) (held : Held) → charge (opened sizes c1 c2 catalogue faults room) ≡ charge_in held → entries_weight c1 + entries_weight c2 ≡ charge_in held
opened_charge sizes c1 c2 catalogue faults room held is = grind (arith, common_steps, nat_tests)

ends_of : {D : Type 0} (state : D → DiskState) (opening : List (Key × Value)) (sizes : Sizes) (c1 c2 : Entries) (catalogue : Catalogue) (faults : ℕ) (room : Room) (steps : List Step) (old new : CoreState D)
    → (play : IsPlayed state opening steps old new (opened sizes c1 c2 catalogue faults room))
    → Ends opening new.held (opened sizes c1 c2 catalogue faults room) (played (opened sizes c1 c2 catalogue faults room) play.made) (state new.disk)
ends_of state opening sizes c1 c2 catalogue faults room steps old new play = record {
  stands = with_rows opening new.held _ _ (λ runs. tt) play.stands;
  kept = played_keeps (opened sizes c1 c2 catalogue faults room) play.made;
  none = none_damaged (opened sizes c1 c2 catalogue faults room) play.made (opened_finds_none sizes c1 c2 catalogue faults room) play.whole;
}

-- What the opening says, and what the run keeps.
pub record Session {D : Type 0} (state : D → DiskState) (room : Room) (lines : List Line) (first : DiskState) (old new : CoreState D) : Type 0 where
  pub opens : OpensAs state room old first.bytes
  pub goes_on : GoesOn first (state old.disk)
  pub takes : TakesFew old.held.runs.sizes first (state old.disk)
  pub calm : (state old.disk).faults ≡ first.faults
  pub ran : old.held.book.stopped ≡ None
  pub run : HasRun state lines old new

-- what a core that runs stands for is in its file
state_in : (held : Held) (m : Machine) (d : DiskState) (sizes : Sizes) → held.runs.sizes ≡ sizes → RunsOver held m d → HoldsState sizes m d.bytes
state_in held m d sizes same over = record {
  tree = over.tree;
  holds = subst (λ (s : Sizes). HoldsTree s over.tree d.bytes) same over.over.stands.reads;
  lists = over.holds.lists;
  catalogue = over.holds.catalogue ∙ ap catalogue_of (sym over.over.are_of.catalogue);
}

reached_of : {D : Type 0} (state : D → DiskState) (sizes : Sizes) (opening : List (Key × Value)) (c1 c2 : Entries) (catalogue : Catalogue) (faults : ℕ) (room : Room) (steps : List Step) (old new : CoreState D)
    → old.held.runs.sizes ≡ sizes → old.held.book.stopped ≡ None → StandsWhole state opening old (opened sizes c1 c2 catalogue faults room) → faults ≡ (state old.disk).faults
    → (play : IsPlayed state opening steps old new (opened sizes c1 c2 catalogue faults room))
    → IsReached sizes opening (run_at (charge_in old.held) new.held) room (state old.disk).bytes faults (state new.disk).faults
reached_of state sizes opening c1 c2 catalogue faults room steps old new of_sizes ran stands same play =
    let first = opened sizes c1 c2 catalogue faults room in
    let over = stands.runs ran in
    record {
      c1 = c1;
      c2 = c2;
      catalogue = catalogue;
      begins = state_in old.held first (state old.disk) sizes of_sizes over;
      values = λ key. stands.paced.stands.values key ∙ ap (λ (ws : List Write). value_at ws key) (append-nil (puts_of opening));
      weigh = opened_charge sizes c1 c2 catalogue faults room old.held stands.charge_is;
      made = play.made;
      told = subst (λ (n : ℕ). AreTold first n play.made (state new.disk).faults) (sym same) play.told;
      end = played first play.made;
      leads = refl;
      entries = ap (λ (b : BookState). b.book.entries) play.stands.book;
      quanta = ap (λ (b : BookState). b.book.quanta) play.stands.book;
      totals_are = totals_of new.held (played first play.made) play.stands.sizes play.stands.charge_is play.stands.book;
    }

-- what stands in the end, if the store runs
stands_of : (opening : List (Key × Value)) (held : Held) (first m : Machine) (d : DiskState) (sizes : Sizes) → held.runs.sizes ≡ sizes → Ends opening held first m d → held.book.stopped ≡ None
    → HoldsState sizes m d.bytes
stands_of opening held first m d sizes same ends runs = state_in held m d sizes same (ends.stands.runs runs)

abbrev machine_of : {D : Type 0} → (D → DiskState) → Room → CoreState D → Entries → Entries → Catalogue → Machine
machine_of state room core c1 c2 catalogue = opened core.held.runs.sizes c1 c2 catalogue (state core.disk).faults room

served_from : {D : Type 0} (state : D → DiskState) (room : Room) (lines : List Line) (first : DiskState) (old new : CoreState D)
    (c1 c2 : Entries) (catalogue : Catalogue) → (session : Session state room lines first old new)
    → StandsWhole state session.opens.pairs old (machine_of state room old c1 c2 catalogue)
    → (steps : List Step) → IsPlayed state session.opens.pairs steps old new (machine_of state room old c1 c2 catalogue)
    → IsServed state old.held.runs.sizes (run_at (charge_in old.held) new.held) room first (state new.disk)
unfolding reached_of
served_from {D} state room lines first old new c1 c2 catalogue session whole steps play =
    let opens = session.opens in
    let sizes = old.held.runs.sizes in
    let before = state old.disk in
    let after = state new.disk in
    let machine = machine_of state room old c1 c2 catalogue in
    let since = session.run.since in
    let ends = ends_of state opens.pairs sizes c1 c2 catalogue before.faults room steps old new play in
    let weigh = opened_charge sizes c1 c2 catalogue before.faults room old.held whole.charge_is in
    record {
      opening = opens.pairs;
      found = record { reads = opens.reads; image = opens.image; holds = opens.holds; taken = opens.taken };
      light = opens.light;
      replies = replies_of opens.pairs new.held machine _ after sizes (charge_in old.held) since.sizes weigh ends;
      no_page = no_page_of opens.pairs new.held machine _ after (charge_in old.held) ends;
      opened = old.disk;
      starts = session.goes_on;
      takes = session.takes;
      goes_on = since.goes_on;
      calm = session.calm;
      reached = reached_of state sizes opens.pairs c1 c2 catalogue before.faults room steps old new refl session.ran whole refl play;
      within = ended_of opens.pairs new.held machine _ after sizes (charge_in old.held) since.sizes weigh ends;
      commits = committed_of opens.pairs new.held machine _ after sizes since.sizes ends;
      stands = λ runs. stands_of opens.pairs new.held machine _ after sizes since.sizes ends runs;
    }

-- ---- the calls of a chain

-- the calls of a chain are steps that were played
abbrev as_played : {D : Type 0} (state : D → DiskState) (opening : List (Key × Value)) (calls : List (Step × CoreState D)) (old new : CoreState D) (m : Machine)
    → (steps : ChainIsSteps state opening calls old new m) → IsPlayed state opening (map (λ one. one.0) (outcomes_in steps.made)) old new m
as_played state opening calls old new m steps = record {
  made = outcomes_in steps.made;
  steps_are = refl;
  told = steps.told;
  whole = steps.whole;
  stands = steps.stands;
  grows = steps.grows;
  images = steps.images;
}

its_steps : (made : List (Step × Outcome × ℕ)) → map (λ one. one.0) (outcomes_in made) ≡ map (λ one. one.0) made
its_steps [] = refl
its_steps (one ∷ made) = ap (λ (ss : List Step). one.0 ∷ ss) (its_steps made)

-- ---- on one thread

-- none of these calls is a worker's turn
none_helped : {D : Type 0} (calls : List (Step × CoreState D)) → AllByRecursion (λ one. is_help one.0.kind ≡ false) calls → helps_in (steps_of calls) ≡ 0
none_helped [] none = refl
none_helped (one ∷ calls) none = omega (arith, ap one_if none.0, none_helped calls none.1)

rested_as : {Rows : List (Option (List Row)) → Type 0} (opening : List (Key × Value)) (held : Held) (m : Machine) (d : DiskState) → Rests held → StandsFor Rows opening held m d → HaveRested m.gears (book_of m)
rested_as opening held m d rests stands =
    subst (λ (g : GearState). HaveRested g (book_of m)) (sym stands.gears)
    (subst (λ (b : BookState). HaveRested held.gears b) (sym stands.book) (record { idle = λ seat below. ap (λ (w : WorkSoFar). w.turns) (rests.idle seat); even = λ runs seat below. rests.even runs seat }))

in_order_from : {D : Type 0} (state : D → DiskState) (room : Room) (lines : List Line) (first : DiskState) (old new : CoreState D) (c1 c2 : Entries) (catalogue : Catalogue) → (session : Session state room lines first old new)
    → StandsWhole state session.opens.pairs old (machine_of state room old c1 c2 catalogue) → (calls : List (Step × CoreState D)) → AllByRecursion (λ one. is_help one.0.kind ≡ false) calls → Rests new.held
    → ChainIsSteps state session.opens.pairs calls old new (machine_of state room old c1 c2 catalogue)
    → IsServedInOrder state old.held.runs.sizes lines (run_at (charge_in old.held) new.held) room first (state new.disk)
unfolding reached_of served_from
in_order_from state room lines first old new c1 c2 catalogue session whole calls none rests steps =
    let opens = session.opens in
    let machine = machine_of state room old c1 c2 catalogue in
    let play = as_played state opens.pairs calls old new machine steps in
    let served = served_from state room lines first old new c1 c2 catalogue session whole (map (λ one. one.0) (outcomes_in steps.made)) play in
    let rested = rested_as opens.pairs new.held (played machine (outcomes_in steps.made)) (state new.disk) rests steps.stands in
    let unhelped : helps_in (map (λ one. one.0) (outcomes_in steps.made)) ≡ 0 = ap helps_in (its_steps steps.made ∙ steps.steps_are) ∙ none_helped calls none in
    record {
      served = served;
      rests = rested;
      unhelped = unhelped;
      solo = solo_of served.reached lines 0 session.run.of_script rested (λ (workers : 0 ≡ 0). unhelped);
    }

-- what is printed, and what it was served
abbrev pub RunInOrder : {D : Type 0} → (D → DiskState) → List Line → Room → Run → DiskState → DiskState → Type 0
RunInOrder state lines room run first last = (sizes : Sizes) × IsRunInOrder sizes lines run × IsServedInOrder state sizes lines run room first last

pub served_in_order : {D : Type 0} (state : D → DiskState) (room : Room) (lines : List Line) (first : DiskState) (old new : CoreState D)
    → (session : Session state room lines first old new) → asked_in new.held.book.book.entries ≡ asked lines → sum (drop callers new.held.book.seats.quanta) ≡ 0
    → (calls : List (Step × CoreState D)) → AllByRecursion (λ one. is_help one.0.kind ≡ false) calls → Rests new.held
    → ((opening : List (Key × Value)) (m : Machine) → StandsWhole state opening old m → ChainIsSteps state opening calls old new m)
    → (disk : D) → disk ≡ new.disk → (run : Run) → run ≡ run_at (charge_in old.held) new.held → RunInOrder state lines room run first (state disk)
served_in_order {D} state room lines first old new session in_order alone calls none rests steps disk same run is =
    let opens = session.opens in
    let served = in_order_from state room lines first old new _ _ _ session opens.stands calls none rests (steps opens.pairs _ opens.stands) in
    let printed : IsRunInOrder old.held.runs.sizes lines (run_at (charge_in old.held) new.held) = record {
      printed = is_run_of state lines 0 0 old new session.run (omega (arith, alone));
      in_order = in_order;
    } in
    subst (λ (r : Run). RunInOrder state lines room r first (state disk)) (sym is)
    (subst (λ (d : D). RunInOrder state lines room (run_at (charge_in old.held) new.held) first (state d)) (sym same) (old.held.runs.sizes, printed, served))

-- ---- on threads

-- how they ended is told of the machine as of the core
ended_as : {D : Type 0} (state : D → DiskState) (opening : List (Key × Value)) (lines : List Line) (workers turns : ℕ) (old new : CoreState D) (m : Machine)
    → RunsAll state lines workers turns old new → StandsWhole state opening new m → HaveEnded workers turns m.gears (book_of m)
ended_as state opening lines workers turns old new m runs stands =
    subst (λ (g : GearState). HaveEnded workers turns g (book_of m)) (sym stands.gears)
    (subst (λ (b : BookState). HaveEnded workers turns new.held.gears b) (sym stands.book) (came_to_end state lines workers turns old new runs))

headline_from : {D : Type 0} (state : D → DiskState) (timed : (d : D) → IsTimed (state d)) (room : Room) (lines : List Line) (workers turns : ℕ) (first : D) (old new : CoreState D)
    (c1 c2 : Entries) (catalogue : Catalogue) → (session : Session state room lines (state first) old new) → old.held.book.book.entries ≡ []
    → KeepsMapOf old.held.runs.sizes session.opens.pairs (state first) (state old.disk)
    → StandsWhole state session.opens.pairs old (machine_of state room old c1 c2 catalogue)
    → (runs : RunsAll state lines workers turns old new) → WasOpened state room first old → AreCaused state runs.came.calls old new
    → ChainIsSteps state session.opens.pairs runs.came.calls old new (machine_of state room old c1 c2 catalogue)
    → sum (drop callers new.held.book.seats.quanta) ≤ helps_in (steps_of runs.came.calls)
    → (((seat : ℕ) → callers ≤ seat → seat < seats → turns_in seat new.held.book ≡ 0) → helps_in (steps_of runs.came.calls) ≡ 0)
    → Headline state old.held.runs.sizes lines workers turns (run_at (charge_in old.held) new.held) room first new.disk
unfolding reached_of served_from causes_of
headline_from {D} state timed room lines workers turns first old new c1 c2 catalogue session none map_kept whole runs began caused steps few rests =
    let opens = session.opens in
    let machine = machine_of state room old c1 c2 catalogue in
    let play = as_played state opens.pairs runs.came.calls old new machine steps in
    let served = served_from state room lines (state first) old new c1 c2 catalogue session whole (map (λ one. one.0) (outcomes_in steps.made)) play in
    let ended = ended_as state opens.pairs lines workers turns old new _ runs steps.stands in
    record {
      causes = causes_of state room first runs.came.calls old new began caused;
      sizes_are = refl;
      opens = opens;
      served = served;
      opened_is = refl;
      steps_are = its_steps steps.made ∙ steps.steps_are;
      ended = ended;
      solo = solo_of served.reached lines workers runs.of_script (record { idle = ended.idle; even = ended.even })
          (λ (alone : workers ≡ 0). ap helps_in (its_steps steps.made ∙ steps.steps_are) ∙ rests (λ seat above below. (runs.rested seat (omega (arith, alone, above)) below).0));
      helped = subst (λ (ss : List Step). sum (drop callers new.held.book.seats.quanta) ≤ helps_in ss) (sym (its_steps steps.made ∙ steps.steps_are)) few;
      crashes = leaves_history state timed opens.pairs runs.came.calls (state first) old new machine none whole map_kept session.run.effect.syncs
          session.run.since.sizes steps caused.tells.called (run_at (charge_in old.held) new.held) refl;
    }

-- what is printed, with the headline
abbrev pub RunAndHeadline : {D : Type 0} → (D → DiskState) → List Line → ℕ → ℕ → Room → Run → D → D → Type 0
RunAndHeadline state lines workers turns room run first last = (sizes : Sizes) × IsRunOf sizes lines workers turns run × Headline state sizes lines workers turns run room first last

pub whole_headline : {D : Type 0} (state : D → DiskState) (timed : (d : D) → IsTimed (state d)) (room : Room) (lines : List Line) (workers turns : ℕ) (first : D)
    (old new : CoreState D) → (session : Session state room lines (state first) old new) → old.held.book.book.entries ≡ []
    → KeepsMapOf old.held.runs.sizes session.opens.pairs (state first) (state old.disk) → (runs : RunsAll state lines workers turns old new) → WasOpened state room first old → AreCaused state runs.came.calls old new
    → ((opening : List (Key × Value)) (m : Machine) → StandsWhole state opening old m → ChainIsSteps state opening runs.came.calls old new m)
    → sum (drop callers new.held.book.seats.quanta) ≤ helps_in (steps_of runs.came.calls)
    → (((seat : ℕ) → callers ≤ seat → seat < seats → turns_in seat new.held.book ≡ 0) → helps_in (steps_of runs.came.calls) ≡ 0)
    → (disk : D) → disk ≡ new.disk → (run : Run) → run ≡ run_at (charge_in old.held) new.held → RunAndHeadline state lines workers turns room run first disk
whole_headline {D} state timed room lines workers turns first old new session none map_kept runs began caused steps few rests disk same run is =
    let opens = session.opens in
    let headline = headline_from state timed room lines workers turns first old new _ _ _ session none map_kept opens.stands runs began caused (steps opens.pairs _ opens.stands) few rests in
    let printed = is_run_of state lines workers turns old new session.run (workers_took state lines workers turns old new runs) in
    subst (λ (r : Run). RunAndHeadline state lines workers turns room r first disk) (sym is)
    (subst (λ (d : D). RunAndHeadline state lines workers turns room (run_at (charge_in old.held) new.held) first d) (sym same) (old.held.runs.sizes, printed, headline))
