-- What the images show of a command's writes that are taken, on an honest disk.
use Rattle.std.specs.Prelude.{false, is_ok, is_err, OnOk, Result}
use Rattle.std.proofs.Common.{◌≡◌, ◌∙◌, ◌⊎◌, inl, inr, ⊎_elim, ℕ, ◌+◌, ◌≤◌, Bool, true, None, IsTrue, List, [], ◌∷◌, length, refl, ap, sym, subst, arith}
use Rattle.blsm_model.specs.Sizes.{Sizes}
use Rattle.blsm_model.specs.declared.key.Key.{Key}
use Rattle.blsm_model.specs.declared.row.Value.{Value}
use Rattle.blsm_model.specs.declared.op.Op.{Op}
use Rattle.blsm_model.specs.declared.history.Entry.{Entry}
use Rattle.blsm_model.specs.declared.history.Reply.{Reply}
use Rattle.blsm_model.specs.declared.history.Reply.TheVariants.{Done, FaultUnsure}
use Rattle.blsm_model.specs.Geometry.{charge_limit}
use Rattle.blsm_model.specs.Histories.{is_met, writes_of}
use Rattle.tree_machine.specs.Lists.{value_in}
use Rattle.blsm_model.specs.Legal.{total_weight, is_del}
use Rattle.disk_trait.specs.Disk.{DiskState}
use Rattle.disk_trait.specs.Moments.{LeavesOnly}
use Rattle.disk_trait.proofs.MomentLemmas.{leaves_only_run, leaves_only_weaken}
use Rattle.record_delta.specs.Entries.{Entries}
use Rattle.record_delta.specs.Several.{entries_of}
use Rattle.gear_sched.specs.Gears.{GearState}
use Rattle.pacing.specs.Pace.{Pace}
use Rattle.pacing.specs.Fronts.{Fronts}
use Rattle.pacing.specs.Steps.{deep_settled, ready_for as pace_ready_for}
use Rattle.seat_book.specs.State.{BookState}
use Rattle.tree_machine.specs.declared.step.Kind.TheVariants as kind
use Rattle.tree_machine.specs.Layers.{IsSound}
use Rattle.tree_machine.specs.Machine.{Machine}
use Rattle.tree_machine.specs.Moves.{take_writes, with_peak}
use Rattle.tree_machine.specs.Plays.{may}
use Rattle.tree_machine.specs.Stands.{WritesFit}
use Rattle.tree_machine.specs.Steps.{deep_swapped, ready_for}
use Rattle.tree_machine.proofs.CarryLemmas.{deep_swapped_carries, ready_carries}
use Rattle.paced_tree.proofs.Promises.{has_way}
use Rattle.tree_file.specs.Tree.{Tree, HoldsTree}
use Rattle.tree_file.specs.Places.{HoldsEither, StandsOn, Becomes}
use Rattle.tree_log.specs.Log.{IsLogOf, appended}
use Rattle.tree_runs.specs.Holding.{AreOf, HasAllAhead, StandOver, LeavesSwapped}
use Rattle.core_moves.specs.declared.held.Held.{Held}
use Rattle.core_moves.specs.Held.{IsDeepDone, IsPassDone, goes_ahead, charge_in}
use Rattle.core_moves.specs.Moves.{SettlesDeep, SettlesPass, TurnsLog, WritesIn, begun_in}
use Rattle.core_pace.specs.Pacing.{HasPace, IsPacedHeld}
use Rattle.core_pace.proofs.EventLemmas.{settled_between, moves_are_told}
use Rattle.core_lists.specs.Standing.{HoldsMachine}
use Rattle.core_lists.specs.Shown.{CommitsAs, ShowsHistory, ShowsWhole}
use Rattle.core_lists.specs.Admissions.{DeepSettlesTree}
use Rattle.core_lists.specs.Images.{ShowsNoted, history_with}
use Rattle.core_lists.proofs.AdmissionLands.{deep_settling_lands, readying_lands}
use Rattle.core_lists.proofs.WeighLemmas.{all_ahead}
use Rattle.core_lists.proofs.WriteLands.{takes_all, writes_land}
use Rattle.core_lists.proofs.ShowingLemmas.{standing_shows, settled_shows, swapped_shows, showing_is_kept, prefix_self}
use Rattle.core_lists.proofs.ImageLemmas.{settled_fronts, ready_fronts, deep_swap_images, pass_swap_images}
use Rattle.core_lists.proofs.AppendLemmas.{append_shows, unsure_shows}
use Rattle.core_lists.proofs.GoingLemmas.{admission_goes_on}
use Rattle.core_lists.proofs.TestLemmas.{tests_agree_with_lists}
use Rattle.tree_core.specs.Standing.{AnyRows, StandsFor}
use Rattle.tree_core.specs.Taking.{PassMakesTree, TellsOf, TakenOver, HasLost}
use Rattle.tree_core.proofs.VersionLemmas.{either_commits, version_of}
use Rattle.tree_core.proofs.TakingLemmas.{is_ok_of, ok_of, begun_keeps}
use Rattle.tree_core.proofs.KeepLemmas.{deep_keeps_pins, pass_keeps_pins}
use Rattle.core_lists.proofs.Terms.{IsAt, PassSettlesTree, IsReadied, StandsIn, SettledIn, MayAppend, with_appended}
use Rattle.core_pace.proofs.Terms.{IsBetween}

-- ---- what the calls leave, in a word

-- the tree after the deep merge's swap, where it was due
abbrev pub DeepLeaves : Held → Held → Bool → DiskState → DiskState → Type 0
DeepLeaves old new ok before after = (tree : Tree) → IsTrue before.is_honest → StandOver old.runs tree before
    → (next : Tree) × DeepSettlesTree old tree next × LeavesSwapped old.runs new.runs tree next ok before after

-- and after the pass's
abbrev pub PassLeaves : Held → Held → Bool → DiskState → DiskState → Type 0
PassLeaves old new ok before after = (tree : Tree) → IsTrue before.is_honest → StandOver old.runs tree before
    → HasAllAhead old.runs.pass old.log.a.entries tree
    → (next : Tree) × PassMakesTree old tree next × LeavesSwapped old.runs new.runs tree next ok before after

-- each image of each moment, and what the disk reads as, shows all of the history
abbrev pub LeavesWhole : List (Key × Value) → Machine → DiskState → DiskState → Type 0
LeavesWhole opening m before after = LeavesOnly before after (ShowsWhole opening m) × ShowsWhole opening m after.bytes

-- A record of these entries is appended, or the append fails.
abbrev pub Appends : Entries → Held → Bool → DiskState → DiskState → Type 0
Appends more begun ok before after = (tree : Tree) → IsTrue before.is_honest → IsLogOf tree begun.log → StandOver begun.runs tree before
    → Becomes begun.runs.sizes tree (appended (goes_ahead more begun) more tree) ok before after

-- what an admission begins with
pub record Begins (opening : List (Key × Value)) (old : Held) (m : Machine) (d : DiskState) : Type 0 where
  pub honest : IsTrue d.is_honest
  pub stands : StandsFor AnyRows opening old m d
  pub runs : old.book.stopped ≡ None
  pub numbers : Pace
  pub paced : IsPacedHeld old numbers

-- a merge that moves is done, and one that rests isn't
decided : {A B C : Type 0} → (A × B) ⊎ ((A → ⊥) × C) → A ⊎ (A → ⊥)
decided moves = ⊎_elim (λ done. inl done.0) (λ rests. inr rests.0) moves

-- one tree twice
one_tree : (sizes : Sizes) (tree next : Tree) (image : List ℕ) → next ≡ tree → HoldsEither sizes tree next image → HoldsTree sizes tree image
one_tree sizes tree next image same either = ⊎_elim (λ holds. holds) (λ holds. subst (λ (t : Tree). HoldsTree sizes t image) same holds) either

-- the core stands at this state of the machine
pub tells_of : (held : Held) (tree : Tree) (m : Machine) (file : List ℕ) (numbers : Pace) → IsAt held tree m file → IsSound m → HasPace held numbers → held.gears.sizes ≡ held.runs.sizes → TellsOf held m
tells_of held tree m file numbers at sound has one = record {
  sizes = ap (λ (g : GearState). g.sizes) at.holds.gears ∙ one;
  gears = at.holds.gears;
  book = at.holds.book;
  charge_is = (tests_agree_with_lists held tree m file numbers at sound has).charge_is;
}

module _ (opening : List (Key × Value)) (old : Held) (m : Machine) (d : DiskState) (is : Begins opening old m d) where
  abbrev tree : Tree
  tree = (is.stands.runs is.runs).tree

  abbrev fronts : Fronts
  fronts = (is.stands.runs is.runs).fronts

  over : StandOver old.runs tree d
  over = (is.stands.runs is.runs).over

  stood : StandsIn opening old m fronts tree d.bytes
  stood = record {
    at = record { are_of = (is.stands.runs is.runs).over.are_of; holds = (is.stands.runs is.runs).holds };
    paced = is.stands.paced;
    numbers = is.numbers;
    has = is.paced.numbers;
    one = is.paced.one;
    within = (is.stands.runs is.runs).within;
    lanes = (is.stands.runs is.runs).lanes;
  }

  stopped_is : m.stopped ≡ None
  stopped_is = ap (λ (b : BookState). b.stopped) is.stands.book ∙ is.runs

  -- ---- the deep merge's swap

  deep_shows : (next : Tree) (image : List ℕ) → IsDeepDone old ⊎ (IsDeepDone old → ⊥) → DeepSettlesTree old tree next → HoldsEither old.runs.sizes tree next image → ShowsWhole opening m image
  deep_shows next image cases moves either =
      let either_here : HoldsEither m.gears.sizes tree next image = subst (λ (s : Sizes). HoldsEither s tree next image) (sym is.stands.sizes) either in
      ⊎_elim
      (λ done. deep_swap_images opening old m fronts tree next d.bytes image stood done (moves.done done) either_here)
      (λ never. standing_shows opening m fronts tree image stood.paced stood.within stood.at.holds.lists stood.lanes (one_tree m.gears.sizes tree next image (moves.rests never) either_here))
      cases

  version_is : tree.catalogue.version ≡ m.catalogue.version
  version_is = version_of old tree m d.bytes over.are_of stood.at.holds

  pub lost_deep : (new : Held) → new ≡ old → IsDeepDone old → (ok : Bool) (after : DiskState) → DeepLeaves old new ok d after → HasLost m new after
  lost_deep new same done ok after leaves = inl (
    subst (λ (h : Held). TellsOf h m) (sym same) (tells_of old tree m d.bytes is.numbers stood.at is.stands.paced.stands.sound is.paced.numbers is.paced.one.gears),
    (tests_agree_with_lists old tree m d.bytes is.numbers stood.at is.stands.paced.stands.sound is.paced.numbers).deep_is_done.0 done,
    either_commits m.gears.sizes old.runs.sizes m.catalogue.version tree (leaves tree is.honest over).0 after is.stands.sizes version_is (inr ((leaves tree is.honest over).1.done done).version) (leaves tree is.honest over).2.either,
  )

  pub deep_whole : (new : Held) (ok : Bool) (after : DiskState) → IsDeepDone old ⊎ (IsDeepDone old → ⊥) → DeepLeaves old new ok d after → LeavesWhole opening m d after
  deep_whole new ok after cases leaves =
      let made = leaves tree is.honest over in
      (leaves_only_weaken (λ c either. deep_shows made.0 c cases made.1 either) made.2.each, deep_shows made.0 after.bytes cases made.1 made.2.either.reads)

-- what the deep merge's swap has left
pub record HasSettled (old settled : Held) (d mid : DiskState) : Type 0 where
  pub deep : SettlesDeep old settled
  pub leaves : DeepLeaves old settled true d mid
  pub honest : IsTrue d.is_honest → IsTrue mid.is_honest

-- as the call tells it
pub settled_by : {T E : Type 0} (r : Result T E) (old settled : Held) (d mid : DiskState) → is_err r ≡ false → OnOk r (SettlesDeep old settled) → DeepLeaves old settled (is_ok r) d mid → mid.is_honest ≡ d.is_honest
    → HasSettled old settled d mid
settled_by r old settled d mid ok settles leaves same = record {
  deep = ok_of r ok settles;
  leaves = subst (λ (b : Bool). DeepLeaves old settled b d mid) (is_ok_of r ok) leaves;
  honest = λ honest. subst IsTrue (sym same) honest;
}

module _ (opening : List (Key × Value)) (old : Held) (m : Machine) (d : DiskState) (is : Begins opening old m d) (settled : Held) (mid : DiskState) (has : HasSettled old settled d mid) where
  abbrev first : Tree
  first = tree opening old m d is

  abbrev bounds : Fronts
  bounds = fronts opening old m d is

  abbrev middle : Tree
  middle = (has.leaves first is.honest (over opening old m d is)).0

  moves : DeepSettlesTree old first middle
  moves = (has.leaves first is.honest (over opening old m d is)).1

  over_middle : StandOver settled.runs middle mid
  over_middle = (has.leaves first is.honest (over opening old m d is)).2.stands refl

  between : IsBetween settled (deep_settled is.numbers)
  between = settled_between old settled is.numbers is.paced has.deep

  settled_in : SettledIn opening old settled m bounds first middle d.bytes mid.bytes
  settled_in =
      let start = stood opening old m d is in
      record {
        stood = start;
        moves = moves;
        at = deep_settling_lands old settled first middle m is.numbers d.bytes mid.bytes start.at is.stands.paced.stands.sound is.paced.numbers has.deep moves over_middle.are_of;
        numbers = deep_settled is.numbers;
        has = between.numbers;
        one = between.one;
      }

  ahead : HasAllAhead settled.runs.pass settled.log.a.entries middle
  ahead = all_ahead settled middle between.one settled_in.at.holds.of_log

  sizes_here : m.gears.sizes ≡ settled.runs.sizes
  sizes_here = is.stands.sizes ∙ sym ((deep_keeps_pins old settled has.deep).sizes)

  pass_shows : (next : Tree) (image : List ℕ) → IsPassDone settled ⊎ (IsPassDone settled → ⊥) → PassMakesTree settled middle next → HoldsEither settled.runs.sizes middle next image → ShowsWhole opening m image
  pass_shows next image cases makes either =
      let either_here : HoldsEither m.gears.sizes middle next image = subst (λ (s : Sizes). HoldsEither s middle next image) (sym sizes_here) either in
      ⊎_elim
      (λ done. pass_swap_images opening old settled m bounds first middle next d.bytes mid.bytes image settled_in done (makes.done done) either_here)
      (λ never. settled_shows opening m bounds middle image is.stands.paced (stood opening old m d is).within settled_in.at.holds.lists
      (settled_fronts opening old m bounds first middle d.bytes (stood opening old m d is) moves) (one_tree m.gears.sizes middle next image (makes.rests never) either_here))
      cases

  pub lost_pass : (new : Held) → new ≡ settled → IsPassDone settled → (ok : Bool) (after : DiskState) → PassLeaves settled new ok mid after → HasLost m new after
  lost_pass new same done ok after leaves =
      let carries = deep_swapped_carries m is.stands.paced.stands.sound in
      let sound = carries.sound in
      let made = leaves middle (has.honest is.honest) over_middle ahead in
      inr (
        subst (λ (h : Held). TellsOf h (deep_swapped m)) (sym same) (tells_of settled middle (deep_swapped m) mid.bytes (deep_settled is.numbers) settled_in.at sound between.numbers between.one.gears),
        (tests_agree_with_lists settled middle (deep_swapped m) mid.bytes (deep_settled is.numbers) settled_in.at sound between.numbers).pass_is_done.0 done,
        either_commits (deep_swapped m).gears.sizes settled.runs.sizes (deep_swapped m).catalogue.version middle made.0 after (carries.sizes ∙ sizes_here)
            (version_of settled middle (deep_swapped m) mid.bytes over_middle.are_of settled_in.at.holds)
            (inr (made.1.done done).version) made.2.either,
      )

  pub pass_whole : (new : Held) (ok : Bool) (after : DiskState) → IsPassDone settled ⊎ (IsPassDone settled → ⊥) → PassLeaves settled new ok mid after → LeavesWhole opening m d after
  pass_whole new ok after cases leaves =
      let made = leaves middle (has.honest is.honest) over_middle ahead in (
        leaves_only_run (deep_whole opening old m d is settled true mid (decided has.deep) has.leaves).0 (leaves_only_weaken (λ c either. pass_shows made.0 c cases made.1 either) made.2.each),
        pass_shows made.0 after.bytes cases made.1 made.2.either.reads,
      )

-- what the pass's swap and the begin have left
pub record HasBegun (w : ℕ) (settled ready begun : Held) (mid last : DiskState) : Type 0 where
  pub pass : SettlesPass settled ready
  pub turns : IsPassDone settled → TurnsLog settled.log ready.log
  pub leaves : PassLeaves settled ready true mid last
  pub honest : IsTrue mid.is_honest → IsTrue last.is_honest
  pub is_begun : begun ≡ begun_in w ready
  pub lists : (tree : Tree) (file : List ℕ) → AreOf ready.runs tree file → AreOf begun.runs tree file

pub begun_by : {T E : Type 0} (r : Result T E) (w n : ℕ) (settled ready begun : Held) (mid last : DiskState) → is_err r ≡ false → OnOk r (SettlesPass settled ready)
    → OnOk r (IsPassDone settled → TurnsLog settled.log ready.log) → PassLeaves settled ready (is_ok r) mid last → last.is_honest ≡ mid.is_honest → begun ≡ begun_in n ready → n ≡ w
    → ((tree : Tree) (file : List ℕ) → AreOf ready.runs tree file → AreOf begun.runs tree file) → HasBegun w settled ready begun mid last
begun_by r w n settled ready begun mid last ok settles turns leaves same is_begun weighs lists = record {
  pass = ok_of r ok settles;
  turns = ok_of r ok turns;
  leaves = subst (λ (b : Bool). PassLeaves settled ready b mid last) (is_ok_of r ok) leaves;
  honest = λ honest. subst IsTrue (sym same) honest;
  is_begun = is_begun ∙ ap (λ (k : ℕ). begun_in k ready) weighs;
  lists = lists;
}

-- the seat may write, the write's condition holds, and there is room
pub record MayTake (seat : ℕ) (op : Op) (old : Held) (m : Machine) : Type 0 where
  pub may : IsTrue (may m seat (kind.Admit op))
  pub fits : WritesFit (kind.Admit op)
  pub some : 1 ≤ length (writes_of op)
  pub met : is_met op (value_in m.lists) ≡ true
  pub room : charge_in old + total_weight (writes_of op) ≤ charge_limit old.runs.sizes (is_del op)

module _ (opening : List (Key × Value)) (old : Held) (m : Machine) (d : DiskState) (is : Begins opening old m d) (settled : Held) (mid : DiskState) (has : HasSettled old settled d mid)
    (seat : ℕ) (op : Op) (takes : MayTake seat op old m) (ready begun : Held) (last : DiskState)
    (then : HasBegun (total_weight (writes_of op)) settled ready begun mid last) where
  abbrev w : ℕ
  w = total_weight (writes_of op)

  abbrev one : Tree
  one = tree opening old m d is

  abbrev two : Tree
  two = middle opening old m d is settled mid has

  abbrev limits : Fronts
  limits = fronts opening old m d is

  abbrev start : StandsIn opening old m limits one d.bytes
  start = stood opening old m d is

  abbrev between_them : SettledIn opening old settled m limits one two d.bytes mid.bytes
  between_them = settled_in opening old m d is settled mid has

  made : (next : Tree) × PassMakesTree settled two next × LeavesSwapped settled.runs ready.runs two next true mid last
  made = then.leaves two (has.honest is.honest) (over_middle opening old m d is settled mid has) (ahead opening old m d is settled mid has)

  abbrev next : Tree
  next = made.0

  over_next : StandOver ready.runs next last
  over_next = made.2.stands refl

  pass_tree : PassSettlesTree settled ready two next
  pass_tree = record { done = made.1.done; turns = then.turns; rests = made.1.rests }

  begun_of : AreOf (begun_in w ready).runs next last.bytes
  begun_of = subst (λ (h : Held). AreOf h.runs next last.bytes) then.is_begun (then.lists next last.bytes over_next.are_of)

  readied : IsReadied w settled ready two next m mid.bytes last.bytes
  readied = readying_lands w old settled ready one two next m is.numbers (deep_settled is.numbers) d.bytes mid.bytes last.bytes start.at is.stands.paced.stands.sound (has_way opening m is.stands.paced) is.paced.one is.paced.numbers
      (between opening old m d is settled mid has).numbers
      (record {
        deep = has.deep;
        deep_tree = moves opening old m d is settled mid has;
        after_deep = (over_middle opening old m d is settled mid has).are_of;
        pass = then.pass;
        pass_tree = pass_tree;
        after_pass = over_next.are_of;
        begun = begun_of;
      })

  at_begun : IsAt begun next (ready_for w m) last.bytes
  at_begun = subst (λ (h : Held). IsAt h next (ready_for w m) last.bytes) (sym then.is_begun) readied.begun

  sizes_begun : begun.runs.sizes ≡ m.gears.sizes
  sizes_begun = ap (λ (h : Held). h.runs.sizes) then.is_begun ∙ (begun_keeps w ready).sizes ∙ (pass_keeps_pins settled ready then.pass).sizes ∙ (deep_keeps_pins old settled has.deep).sizes ∙ sym is.stands.sizes

  over_begun : StandOver begun.runs next last
  over_begun = record {
    stands = subst (λ (s : Sizes). StandsOn s next last) (sym (ap (λ (h : Held). h.runs.sizes) then.is_begun ∙ (begun_keeps w ready).sizes)) over_next.stands;
    are_of = at_begun.are_of;
  }

  may_append : MayAppend opening m limits seat op begun next
  may_append = record {
    paced = is.stands.paced;
    within = (is.stands.runs is.runs).within;
    runs = stopped_is opening old m d is;
    may = takes.may;
    fits = takes.fits;
    some = takes.some;
    met = takes.met;
    room = subst (λ (n : ℕ). n + w ≤ charge_limit m.gears.sizes (is_del op)) (sym is.stands.charge_is)
        (subst (λ (s : Sizes). charge_in old + w ≤ charge_limit s (is_del op)) (sym is.stands.sizes) takes.room);
    holds = at_begun.holds;
    lanes = ready_fronts opening old settled ready m limits one two next d.bytes mid.bytes between_them pass_tree;
  }

  before : LeavesWhole opening m d last
  before = pass_whole opening old m d is settled mid has ready true last (decided then.pass) then.leaves

  -- the history with the entry
  abbrev entry : Reply → Entry
  entry reply = record { seat = seat; op = op; reply = reply }

  abbrev Shows_with : Reply → ℕ → List ℕ → Type 0
  Shows_with reply n image = ShowsHistory m.gears.sizes opening (history_with seat op reply m) n image

  without : (reply : Reply) (image : List ℕ) → ShowsWhole opening m image → Shows_with reply (length m.book.entries) image
  without reply image shows = showing_is_kept m.gears.sizes opening m.book.entries (history_with seat op reply m) (length m.book.entries) (length m.book.entries) image (entry reply ∷ [], refl) (omega arith) shows.0

  fewer : (reply : Reply) (image : List ℕ) → Shows_with reply (length m.book.entries + 1) image → Shows_with reply (length m.book.entries) image
  fewer reply image shows = showing_is_kept m.gears.sizes opening (history_with seat op reply m) (history_with seat op reply m) (length m.book.entries + 1) (length m.book.entries) image (prefix_self (history_with seat op reply m)) (omega arith) shows

  abbrev appended_tree : Tree
  appended_tree = with_appended (writes_of op) begun next

  done_shows : (image : List ℕ) → HoldsEither begun.runs.sizes next appended_tree image → Shows_with Done (length m.book.entries) image
  done_shows image either = ⊎_elim
      (λ holds. without Done image (swapped_shows opening m limits next image is.stands.paced start.within readied.after_pass.holds.lists may_append.lanes holds))
      (λ holds. fewer Done image (append_shows opening m limits seat op begun next image may_append holds))
      (subst (λ (s : Sizes). HoldsEither s next appended_tree image) sizes_begun either)

  doubt_shows : (image : List ℕ) → HoldsEither begun.runs.sizes next appended_tree image → ShowsNoted opening seat op FaultUnsure m image
  doubt_shows image either = unsure_shows opening m limits seat op begun next image may_append
      (subst (λ (s : Sizes). HoldsEither s next appended_tree image) sizes_begun either)

  -- an append commits nothing
  same_catalogue : (b : Bool) → (appended b (entries_of (writes_of op)) next).catalogue.version ≡ next.catalogue.version
  same_catalogue true = refl
  same_catalogue false = refl

  version_begun : next.catalogue.version ≡ (ready_for w m).catalogue.version
  version_begun = version_of begun next (ready_for w m) last.bytes at_begun.are_of at_begun.holds

  becomes : (ok : Bool) (after : DiskState) → Appends (entries_of (writes_of op)) begun ok last after
      → Becomes begun.runs.sizes next appended_tree ok last after
  becomes ok after appends = appends next (then.honest (has.honest is.honest)) at_begun.holds.of_log over_begun

  pub done_leaves : (after : DiskState) → Appends (entries_of (writes_of op)) begun true last after
      → LeavesOnly d after (Shows_with Done (length m.book.entries))
  done_leaves after appends = leaves_only_run (leaves_only_weaken (without Done) before.0) (leaves_only_weaken done_shows (becomes true after appends).each)

  -- what the moves before the write have made
  begun_between : IsBetween (begun_in w ready) (pace_ready_for is.numbers w)
  begun_between = (moves_are_told old settled ready is.numbers w is.paced has.deep then.pass).1

  pub doubt_leaves : (new : Held) → new ≡ begun → (ok : Bool) (after : DiskState) → Appends (entries_of (writes_of op)) begun ok last after
      → TellsOf new (ready_for w m) × LeavesOnly d after (Shows_with FaultUnsure (length m.book.entries)) × ((c : List ℕ) → after.images c → ShowsNoted opening seat op FaultUnsure m c) × ShowsNoted opening seat op FaultUnsure m after.bytes
      × CommitsAs (ready_for w m) after
  doubt_leaves new same ok after appends =
      let left = becomes ok after appends in (
        subst (λ (h : Held). TellsOf h (ready_for w m)) (sym (same ∙ then.is_begun))
            (tells_of (begun_in w ready) next (ready_for w m) last.bytes (pace_ready_for is.numbers w) readied.begun (ready_carries w m is.stands.paced.stands.sound (has_way opening m is.stands.paced)).sound
            begun_between.numbers begun_between.one.gears),
        leaves_only_run (leaves_only_weaken (without FaultUnsure) before.0) (leaves_only_weaken (λ c either. fewer FaultUnsure c (doubt_shows c either).0) left.each),
        (λ c here. doubt_shows c (left.either.each c here)),
        doubt_shows after.bytes left.either.reads,
        either_commits (ready_for w m).gears.sizes begun.runs.sizes (ready_for w m).catalogue.version next appended_tree after
            ((ready_carries w m is.stands.paced.stands.sound (has_way opening m is.stands.paced)).sizes ∙ sym sizes_begun) version_begun
            (inl (same_catalogue (goes_ahead (entries_of (writes_of op)) begun))) left.either,
      )

  -- the write is the machine's
  pub writes_over : (new : Held) (after : DiskState) → WritesIn seat (entries_of (writes_of op)) begun new
      → ((tree : Tree) → IsLogOf tree begun.log
      → IsLogOf (appended (goes_ahead (entries_of (writes_of op)) begun) (entries_of (writes_of op)) tree) new.log)
      → ((tree : Tree) → IsTrue last.is_honest → IsLogOf tree begun.log → StandOver begun.runs tree last
      → StandOver new.runs (appended (goes_ahead (entries_of (writes_of op)) begun) (entries_of (writes_of op)) tree) after)
      → TakenOver opening seat op m new after
  writes_over new after writes of_log stands =
      let over_new = stands next (then.honest (has.honest is.honest)) at_begun.holds.of_log over_begun in
      let wrote : IsAt new appended_tree (with_peak (take_writes seat (writes_of op) (ready_for w m))) after.bytes =
      writes_land seat (writes_of op) begun new next (ready_for w m) last.bytes after.bytes at_begun
      (ready_carries w m is.stands.paced.stands.sound (has_way opening m is.stands.paced)).sound writes (of_log next) over_new.are_of in
      let goes = admission_goes_on opening m limits seat op begun next may_append in
      record {
        tree = appended_tree;
        fronts = goes.0;
        over = over_new;
        holds = subst (λ (n : Machine). HoldsMachine new appended_tree (with_peak n)) (sym (takes_all seat (writes_of op) (ready_for w m) takes.some))
            wrote.holds;
        goes = goes.1;
      }
