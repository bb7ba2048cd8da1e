-- What the images show of a command's writes, which are appended.
use Rattle.std.proofs.Common.{◌≡◌, ◌∙◌, ℕ, ◌+◌, ◌<◌, ◌≤◌, Bool, true, false, cond, ◌&&◌, List, [], ◌∷◌, ◌++◌, flat_map, length, None, ⊎_elim, refl, ap, sym, subst, append-nil, length-append, arith}
use Rattle.std.proofs.lemmas.Grind.{common_steps}
use Rattle.std.proofs.lemmas.Bool.Decides.{nat_tests}
use Rattle.std.specs.Prelude.{nat_lt}
use Rattle.std.specs.List.{AllByRecursion}
use Rattle.std.proofs.lemmas.List.{flat_map_more}
use Rattle.std.proofs.lemmas.List.Sums.{sum_by_push}
use Rattle.blsm_model.specs.Sizes.{Sizes}
use Rattle.blsm_model.specs.Format.{callers, least_weight}
use Rattle.blsm_model.specs.Geometry.{charge_limit}
use Rattle.blsm_model.specs.Book.{Book}
use Rattle.blsm_model.specs.declared.key.Key.{Key}
use Rattle.blsm_model.specs.declared.row.Value.{Value}
use Rattle.blsm_model.specs.declared.op.Op.{Op}
use Rattle.blsm_model.specs.declared.op.Write.{Write}
use Rattle.blsm_model.specs.declared.history.Entry.{Entry}
use Rattle.blsm_model.specs.declared.history.Reply.TheVariants.{Done, FaultUnsure, Full}
use Rattle.blsm_model.specs.Histories.{writes_of, counted, counted_writes, written}
use Rattle.blsm_model.specs.Images.{counted_with}
use Rattle.blsm_model.specs.Legal.{is_write, total_weight, is_del}
use Rattle.blsm_model.specs.Rows.{map_of, puts_of}
use Rattle.record_delta.specs.Entries.{Entries}
use Rattle.record_delta.specs.Several.{entries_of, with_records}
use Rattle.pacing.specs.Pace.{Pace, Written}
use Rattle.pacing.specs.Kept.{IsPaced}
use Rattle.pacing.specs.Steps.{Admit, Lands, MayAdmit, after as pacing_after, ready_for as pace_ready_for}
use Rattle.pacing.specs.Fronts.{Fronts, AreFronts}
use Rattle.pacing.proofs.Admissions.{ready_kept}
use Rattle.pacing.proofs.Fronts.{step_fronts}
use Rattle.tree_machine.specs.Lists.{Lists, memory_weight}
use Rattle.tree_machine.specs.Machine.{Machine, charge, is_caller}
use Rattle.tree_machine.specs.Moves.{take_writes, with_peak, note}
use Rattle.tree_machine.specs.Steps.{Well, Stepped, replied, admit_fitting, ready_for, admit}
use Rattle.tree_machine.proofs.LookLemmas.{looked_admits, met_well}
use Rattle.tree_machine.specs.Plays.{has_room, is_between, may_note, is_even, stepped}
use Rattle.tree_machine.specs.declared.step.Kind.TheVariants as kind
use Rattle.tree_machine.specs.declared.step.Step.{Step}
use Rattle.tree_machine.specs.Stands.{FitsFormat}
use Rattle.tree_machine.proofs.FoldLemmas.{both_hold}
use Rattle.tree_machine.proofs.CarryLemmas.{ready_carries}
use Rattle.paced_tree.specs.Kept.{IsPacedTree}
use Rattle.paced_tree.specs.Numbers.{pace_of}
use Rattle.paced_tree.proofs.Terms.{most_on_way, weight_after, written_in, IsToldOf}
use Rattle.paced_tree.proofs.Admissions.{lands_at, some_weigh, written_pace}
use Rattle.paced_tree.proofs.Moves.{ready_pace, ready_told}
use Rattle.paced_tree.proofs.Paces.{the_pace}
use Rattle.pacing.specs.Pace.{with_write as pace_with_write}
use Rattle.paced_tree.proofs.Steps.{caller_below, even_owes}
use Rattle.paced_tree.proofs.Promises.{has_way, step_is_paced}
use Rattle.tree_file.specs.Tree.{Tree, HoldsTree, ReadsAsMap, components_weight}
use Rattle.tree_log.specs.Log.{appended}
use Rattle.core_moves.specs.declared.held.Held.{Held}
use Rattle.core_moves.specs.Held.{goes_ahead}
use Rattle.core_lists.specs.Shown.{HasFronts, ShowsHistory, WeighsWithin, doubted, lanes_weight, most_worked, weight_in_doubt}
use Rattle.core_lists.specs.Images.{ShowsNoted, history_with}
use Rattle.core_lists.specs.Going.{GoesOn}
use Rattle.core_lists.proofs.ShownLemmas.{fronts_grow}
use Rattle.core_lists.proofs.ShowingLemmas.{ReadsHistory, standing_reads, swapped_reads, begun_lists, shows_by, sure_writes, running_writes}
use Rattle.core_lists.proofs.FileWeights.{paced_components, ready_counts, ready_weighs, same_work}
use Rattle.core_lists.proofs.WriteLands.{same_way, takes_all, writes_have_lists}
use Rattle.tree_file.specs.Places.{HoldsEither}
use Rattle.core_lists.proofs.Terms.{MayAppend, with_appended}
use Rattle.tree_machine.proofs.Terms.{Carries}
use Rattle.pacing.proofs.Terms.{fronts_ready, fronts_written}

-- a test that fails
pub not_past : (limit n : ℕ) → n ≤ limit → nat_lt limit n ≡ false
not_past limit n fits = grind (arith, common_steps, nat_tests)

-- writes that fit weigh something
all_weigh : (ws : List Write) → 1 ≤ length ws → AllByRecursion FitsFormat ws → least_weight ≤ total_weight ws
all_weigh [] some fit = absurd (omega (arith, some))
all_weigh (w ∷ ws) some fit = some_weigh w ws fit

module _ (opening : List (Key × Value)) (m : Machine) (fronts : Fronts) (seat : ℕ) (op : Op) (begun : Held) (tree : Tree)
    (is : MayAppend opening m fronts seat op begun tree) where
  abbrev w : ℕ
  w = total_weight (writes_of op)

  abbrev ready : Machine
  ready = ready_for w m

  abbrev more : Entries
  more = entries_of (writes_of op)

  abbrev at_a : Lists
  at_a = record ready.lists { a = with_records more ready.lists.a }

  abbrev at_b : Lists
  at_b = record ready.lists { b = with_records more ready.lists.b }

  abbrev entry : Written
  entry = written_in ready op (writes_of op)

  -- it goes to table A, or to table B
  abbrev sent_to : Bool → Written
  sent_to b = record entry { ahead = b; after = weight_after b (cond b at_a at_b); most = most_on_way more (cond b ready.lists.a ready.lists.b) }

  abbrev wrote : Machine
  wrote = note seat op Done (with_peak (take_writes seat (writes_of op) ready))

  abbrev step : Step
  step = record { seat = seat; kind = kind.Admit op }

  same : pace_of ready ≡ pace_ready_for (pace_of m) w
  same = ready_pace w m is.paced.stands.sound

  carries : Carries m ready
  carries = ready_carries w m is.paced.stands.sound (has_way opening m is.paced)

  within : nat_lt (charge_limit m.gears.sizes (is_del op)) (charge m + w) ≡ false
  within = not_past (charge_limit m.gears.sizes (is_del op)) (charge m + w) is.room

  -- the step is the write's
  state_is : (stepped m step Well).state ≡ wrote
  state_is =
      ap (λ (st : Stepped). st.state) (looked_admits m seat op Well None is.runs (met_well m op is.met))
      ∙ ap (λ (b : Bool). (cond b (replied seat op (Full (charge m)) m) (admit_fitting m seat op w Well)).state) within
      ∙ ap (λ (n : Machine). note seat op Done (with_peak n)) (takes_all seat (writes_of op) ready is.some)

  wrote_paced : IsPacedTree opening wrote
  wrote_paced = subst (λ (s : Machine). IsPacedTree opening s) state_is (step_is_paced opening m step Well is.paced is.may is.fits)

  told : IsToldOf m
  told = record { booked = is.paced.booked; started = is.paced.started }

  caller : seat < callers
  caller =
      let noting = both_hold (is_write op) (may_note seat 0 m) (both_hold (is_write op && may_note seat 0 m) (is_even seat m) is.may).0 in
      let room = both_hold (is_caller seat && has_room m.book.room seat 0) (is_between seat m) noting.1 in
      caller_below seat (both_hold (is_caller seat) (has_room m.book.room seat 0) room.0).0

  entry_lands : Lands (pace_ready_for (pace_of m) w) entry
  entry_lands = lands_at m seat op is.paced.stands.sound (has_way opening m is.paced) is.paced.paced told caller (writes_of op) is.some

  may_admit : MayAdmit (pace_of m) seat entry
  may_admit =
      let parts = both_hold (is_write op && may_note seat 0 m) (is_even seat m) is.may in
      record {
        caller = caller;
        settled = even_owes m seat parts.1 is.runs;
        some = is.some;
        light = all_weigh (writes_of op) is.some is.fits.each;
        heavy = is.fits.light;
        room = is.room;
        lands = entry_lands;
      }

  writing : is_write op ≡ true
  writing = (both_hold (is_write op) (may_note seat 0 m) (both_hold (is_write op && may_note seat 0 m) (is_even seat m) is.may).0).0

  wrote_pace : pace_of wrote ≡ pacing_after (pace_of m) (Admit seat entry)
  wrote_pace =
      let paced = subst IsPaced (sym same) (ready_kept (pace_of m) w is.paced.paced) in
      sym (the_pace wrote _ (written_pace ready (writes_of op) carries.sound seat op refl paced (ready_told w m told) caller writing))
      ∙ ap (λ (p : Pace). pace_with_write p seat entry) same

  then_within : AreFronts (pace_of wrote) (fronts_written entry (fronts_ready (pace_of m) fronts))
  then_within = subst (λ (p : Pace). AreFronts p (fronts_written entry (fronts_ready (pace_of m) fronts))) (sym wrote_pace)
      (step_fronts (pace_of m) (Admit seat entry) fronts is.paced.paced is.within may_admit)

  lanes : HasFronts tree ready.lists (fronts_ready (pace_of m) fronts)
  lanes = subst (λ (l : Lists). HasFronts tree l (fronts_ready (pace_of m) fronts)) (sym (begun_lists w m)) is.lanes

  grown : (b : Bool) → HasFronts (appended b more tree)
      (cond b at_a at_b)
      (fronts_written (sent_to b) (fronts_ready (pace_of m) fronts))
  grown true = fronts_grow true entry more tree ready.lists (fronts_ready (pace_of m) fronts) lanes
  grown false = fronts_grow false entry more tree ready.lists (fronts_ready (pace_of m) fronts) lanes

  then_lanes : HasFronts (with_appended (writes_of op) begun tree) wrote.lists (fronts_written entry (fronts_ready (pace_of m) fronts))
  then_lanes = subst (λ (b : Bool). HasFronts (appended b more tree) wrote.lists (fronts_written entry (fronts_ready (pace_of m) fronts)))
      (same_way ready begun tree more is.holds) (grown entry.ahead)

  abbrev then_fronts : Fronts
  then_fronts = fronts_written entry (fronts_ready (pace_of m) fronts)

  goes_on : (then : Fronts) × GoesOn opening (stepped m step Well).state then (with_appended (writes_of op) begun tree)
  goes_on = (
    then_fronts,
    record {
      paced = step_is_paced opening m step Well is.paced is.may is.fits;
      within = subst (λ (s : Machine). AreFronts (pace_of s) then_fronts) (sym state_is) then_within;
      lanes = subst (λ (s : Machine). HasFronts (with_appended (writes_of op) begun tree) s.lists then_fronts) (sym state_is) then_lanes;
    },
  )

  -- a file with the write reads as the map after it
  wrote_reads : (file : List ℕ) → HoldsTree m.gears.sizes (with_appended (writes_of op) begun tree) file
      → ReadsAsMap m.gears.sizes (map_of (written opening (history_with seat op Done m))) file
  wrote_reads file holds =
      subst (λ (b : Book). ReadsAsMap m.gears.sizes (map_of (written opening (b.entries ++ record { seat = seat; op = op; reply = Done } ∷ []))) file) carries.book
      (subst (λ (s : Sizes). ReadsAsMap s (map_of (written opening wrote.book.entries)) file) carries.sizes
      (standing_reads opening wrote then_fronts (with_appended (writes_of op) begun tree) file wrote_paced then_within
      (writes_have_lists seat (writes_of op) begun tree ready is.holds) then_lanes
      (subst (λ (s : Sizes). HoldsTree s (with_appended (writes_of op) begun tree) file) (sym carries.sizes) holds)))

  -- and one without it as the map before
  ready_reads : (file : List ℕ) → HoldsTree m.gears.sizes tree file → ReadsHistory opening m file
  ready_reads file holds = swapped_reads opening m fronts tree file is.paced is.within (sym (begun_lists w m) ∙ is.holds.lists) is.lanes holds

  enough : (entry : Entry) → length m.book.entries + 1 ≤ length (m.book.entries ++ entry ∷ [])
  enough entry = omega (arith, length-append m.book.entries (entry ∷ []))

  abbrev done : Entry
  done = record { seat = seat; op = op; reply = Done }

  abbrev unsure : Entry
  unsure = record { seat = seat; op = op; reply = FaultUnsure }

  abbrev before : List Write
  before = puts_of opening ++ counted_writes m.book.entries

  counts_in : puts_of opening ++ counted_writes (history_with seat op Done m) ≡ before ++ writes_of op
  counts_in = sym (flat_map_more counted (puts_of opening) m.book.entries done)

  counts_in_doubt : (b : Bool) → puts_of opening ++ flat_map (counted_with b) (history_with seat op FaultUnsure m) ≡ before ++ counted_with b unsure
  counts_in_doubt b = sym (flat_map_more (counted_with b) (puts_of opening) m.book.entries unsure) ∙ ap (λ (ws : List Write). (puts_of opening ++ ws) ++ counted_with b unsure) (running_writes b m.book.entries (is.paced.stands.told.running is.runs))

  shows_done : (file : List ℕ) → HoldsTree m.gears.sizes (with_appended (writes_of op) begun tree) file
      → ShowsHistory m.gears.sizes opening (history_with seat op Done m) (length m.book.entries + 1) file
  shows_done file holds =
      shows_by false m.gears.sizes opening (history_with seat op Done m) (written opening (history_with seat op Done m)) (length m.book.entries + 1) file (enough done)
      (ap (λ (ws : List Write). puts_of opening ++ ws) (sym (sure_writes (history_with seat op Done m)))) (wrote_reads file holds)

  -- ---- what it weighs

  kept : IsPaced (pace_ready_for (pace_of m) w)
  kept = ready_kept (pace_of m) w is.paced.paced

  -- the components don't change
  same_components : (b : Bool) → components_weight (appended b more tree) ≡ components_weight tree
  same_components true = refl
  same_components false = refl

  -- and the tables weigh no more than before and the write
  tables_grow : (b : Bool) → Lands (pace_ready_for (pace_of m) w) (sent_to b) → memory_weight (cond b at_a at_b) ≤ m.counts.peak + w
  tables_grow true lands =
      omega (arith, lands.0, lands.1, kept.within.within_peak, (ready_counts w m).peak, ap (λ (p : Pace). p.b) same, ap (λ (p : Pace). p.peak) same)
  tables_grow false lands =
      omega (arith, lands.2, lands.3, kept.within.within_peak, (ready_counts w m).peak, ap (λ (p : Pace). p.a) same, ap (λ (p : Pace). p.peak) same)

  lanes_grow : lanes_weight (with_appended (writes_of op) begun tree) ≤ m.counts.peak + w
  lanes_grow = omega (arith, tables_grow entry.ahead entry_lands, ap memory_weight (writes_have_lists seat (writes_of op) begun tree ready is.holds))

  in_doubt : doubted (history_with seat op FaultUnsure m) ≡ doubted m.book.entries + w
  in_doubt = sum_by_push weight_in_doubt m.book.entries unsure

  weighs_in : (file : List ℕ) → HoldsTree m.gears.sizes (with_appended (writes_of op) begun tree) file
      → WeighsWithin m (history_with seat op FaultUnsure m) file
  weighs_in file holds = record {
    tree = with_appended (writes_of op) begun tree;
    holds = holds;
    components = subst (λ (n : ℕ). n ≤ most_worked m) (sym (same_components (goes_ahead more begun)))
        (subst (λ (n : ℕ). components_weight tree ≤ n) (same_work m ready carries.sizes (ready_counts w m)) (paced_components ready tree (subst IsPaced (sym same) kept) is.holds.lists));
    lanes = omega (arith, lanes_grow, in_doubt);
  }

  shows_in : (file : List ℕ) → HoldsTree m.gears.sizes (with_appended (writes_of op) begun tree) file → ShowsNoted opening seat op FaultUnsure m file
  shows_in file holds = (
    shows_by true m.gears.sizes opening (history_with seat op FaultUnsure m) (written opening (history_with seat op Done m)) (length m.book.entries + 1) file (enough unsure)
        (counts_in ∙ sym (counts_in_doubt true)) (wrote_reads file holds),
    weighs_in file holds,
  )

  shows_out : (file : List ℕ) → HoldsTree m.gears.sizes tree file → ShowsNoted opening seat op FaultUnsure m file
  shows_out file holds = (
    shows_by false m.gears.sizes opening (history_with seat op FaultUnsure m) (written opening m.book.entries) (length m.book.entries + 1) file (enough unsure)
        (sym (append-nil before) ∙ sym (counts_in_doubt false)) (ready_reads file holds),
    ready_weighs w opening m tree (history_with seat op FaultUnsure m) file is.paced is.holds.lists holds,
  )

pub append_goes_on : (opening : List (Key × Value)) (m : Machine) (fronts : Fronts) (seat : ℕ) (op : Op) (begun : Held) (tree : Tree)
    → MayAppend opening m fronts seat op begun tree
    → (then : Fronts) × GoesOn opening (admit m seat op Well).state then (with_appended (writes_of op) begun tree)
append_goes_on opening m fronts seat op begun tree is = goes_on opening m fronts seat op begun tree is

-- A file that has the write shows the history with it as done.
pub append_shows : (opening : List (Key × Value)) (m : Machine) (fronts : Fronts) (seat : ℕ) (op : Op) (begun : Held) (tree : Tree) (file : List ℕ)
    → MayAppend opening m fronts seat op begun tree
    → HoldsTree m.gears.sizes (with_appended (writes_of op) begun tree) file
    → ShowsHistory m.gears.sizes opening (history_with seat op Done m) (length m.book.entries + 1) file
append_shows opening m fronts seat op begun tree file is holds = shows_done opening m fronts seat op begun tree is file holds

-- A file that has it or not shows the history with it as unsure.
pub unsure_shows : (opening : List (Key × Value)) (m : Machine) (fronts : Fronts) (seat : ℕ) (op : Op) (begun : Held) (tree : Tree) (file : List ℕ)
    → MayAppend opening m fronts seat op begun tree
    → HoldsEither m.gears.sizes tree (with_appended (writes_of op) begun tree) file → ShowsNoted opening seat op FaultUnsure m file
unsure_shows opening m fronts seat op begun tree file is either =
    ⊎_elim (shows_out opening m fronts seat op begun tree is file) (shows_in opening m fronts seat op begun tree is file) either
