-- What a run over an empty store is, by what it was served.
use Rattle.std.proofs.Common.{◌≡◌, ◌≤◌, ◌↔◌, ◌||◌, ℕ, Bool, true, false, List, [], Option, Some, None, Result, Ok, Err, IfOk, IfErr, IsErr, is_err, ap, sym, subst, refl, arith, lit≤, take}
use Rattle.std.proofs.Math.Seq.{take-nil}
use Rattle.std.specs.List.{list_any}
use Rattle.disk_trait.specs.Disk.{DiskState, TellsFaultsBy}
use Rattle.blsm_model.specs.Sizes.{Sizes, default_sizes}
use Rattle.blsm_model.specs.declared.history.Entry.{Entry}
use Rattle.blsm_model.specs.declared.history.Line.{Line}
use Rattle.blsm_model.specs.declared.history.Why.{Why}
use Rattle.blsm_model.specs.declared.history.Why.TheVariants as stop
use Rattle.blsm_model.specs.declared.key.Key.{Key}
use Rattle.blsm_model.specs.declared.room.Room.{Room}
use Rattle.blsm_model.specs.declared.row.Value.{Value}
use Rattle.record_delta.specs.Entries.{Entries, entries_weight, replayed}
use Rattle.tree_file.specs.Tree.{Tree, HoldsTree, FitsSizes, ReadsAsMap, first_tree, map_of_tree}
use Rattle.disk_mem.specs.Faultless.{Faultless, faultless_state}
use Rattle.recover_open.specs.Making.{IsEmptyStore}
use Rattle.recover_open.specs.Opening.{weight_of_tree}
use Rattle.script_text.specs.Generated.{generated}
use Rattle.tree_machine.specs.Outcomes.{is_by_page, is_damaged}
use Rattle.tree_reading.specs.declared.found.Unreadable.{Unreadable}
use Rattle.tree_reading.specs.declared.found.Unreadable.TheVariants.{NotAStore, Damaged, Worn, Fault, NoMemory}
use Rattle.tree_reading.specs.Damage.{most_version}
use Rattle.tree_reading.specs.First.{IsOfFile}
use Rattle.tree_reading.specs.Reading.{IsWhy}
use Rattle.tree_session.specs.Faults.{NamesCount}
use Rattle.store_run.specs.Run.{AreCounted, IsRunInOrder, Run, run_of}
use Rattle.store_run.specs.Headline.{IsServed, IsServedInOrder}
use Rattle.store_run.specs.declared.run.Finished.{Finished}
use Rattle.store_trial.specs.Trial.{IsFreshStore, IsRoomOf, IsTrialOf}

-- ---- the store was opened

-- nothing is replayed of an empty lane
none_replayed : (n : ℕ) → entries_weight (replayed (take n [])) ≡ 0
none_replayed n = ap (λ (es : Entries). entries_weight (replayed es)) (take-nil n)

fits : FitsSizes default_sizes first_tree
fits = record {
  mark = omega arith;
  full = omega arith;
  replays = record {
    high_a = λ n. omega (arith, none_replayed n);
    full_a = λ n. omega (arith, none_replayed n);
    high_b = λ n. omega (arith, none_replayed n);
    full_b = λ n. omega (arith, none_replayed n);
  };
}

-- an empty store gives no reason for a refusal
no_reason : ((sizes : Sizes) (pairs : List (Key × Value)) (why : Unreadable) (file : List ℕ) → (reads : ReadsAsMap sizes pairs file)
    → reads.tree.catalogue.version ≤ most_version → IsOfFile why → IsWhy why file → ⊥)
    → (file : List ℕ) → IsEmptyStore default_sizes file → (why : Unreadable) → IsOfFile why → IsWhy why file → ⊥
no_reason law file empty why of_file is =
    law default_sizes [] why file (record { tree = first_tree; holds = empty; fits = fits; map_is = refl }) (lit≤ tt) of_file is

-- so where no call fails only memory may be refused
only_memory : ((sizes : Sizes) (pairs : List (Key × Value)) (why : Unreadable) (file : List ℕ) → (reads : ReadsAsMap sizes pairs file)
    → reads.tree.catalogue.version ≤ most_version → IsOfFile why → IsWhy why file → ⊥)
    → (first last : DiskState) → IsEmptyStore default_sizes first.bytes → first.faults ≡ 0 → last.faults ≡ 0
    → {T : Type 0} (result : Result T Unreadable) → TellsFaultsBy (Err Fault) result first last → (why : Unreadable) → IsWhy why first.bytes → result ≡ Err why → why ≡ NoMemory
only_memory law first last empty none still result tells NotAStore is same = absurd (no_reason law first.bytes empty NotAStore tt is)
only_memory law first last empty none still result tells (Damaged place) is same = absurd (no_reason law first.bytes empty (Damaged place) tt is)
only_memory law first last empty none still result tells (Worn version) is same = absurd (no_reason law first.bytes empty (Worn version) tt is)
only_memory law first last empty none still result tells Fault is same = let risen = tells.failed same in absurd (omega (arith, risen, none, still))
only_memory law first last empty none still result tells NoMemory is same = refl

-- ---- what is printed

-- a count that stood names no stop
none_stops : (stopped : Option Why) (first last : DiskState) → NamesCount stopped first last → is_by_page stopped ≡ false → first.faults ≡ 0 → last.faults ≡ 0 → stopped ≡ None
none_stops None first last names none was is = refl
none_stops (Some (stop.Faulted faults)) first last names none was is = let risen = names.1 in absurd (omega (arith, risen, was, is))
none_stops (Some (stop.BadPage page)) first last names none was is = absurd (cc)

none_behind : (a b : Bool) → a || b ≡ false → b ≡ false
none_behind true b is = absurd (cc)
none_behind false b is = is

module _
    (one_sizes : (a b : Sizes) (one other : Tree) (file : List ℕ) → HoldsTree a one file → HoldsTree b other file → a ≡ b)
    (one_tree : (sizes : Sizes) (one other : Tree) (file : List ℕ) → HoldsTree sizes one file → HoldsTree sizes other file → one ≡ other)
    (one_map : (sizes : Sizes) (tree : Tree) (pairs : List (Key × Value)) (file : List ℕ) → HoldsTree sizes tree file
    → ReadsAsMap sizes pairs file ↔ (FitsSizes sizes tree × (map_of_tree tree ≡ pairs)))
    (seed count : ℕ) (lines : List Line) (run : Run) (room : Room) (first last : Faultless) (made : lines ≡ generated seed count) (room_is : IsRoomOf room lines)
    (fresh : IsFreshStore first) (still : last.faults ≡ 0) (counted : AreCounted run (faultless_state first) (faultless_state last))
    (sizes : Sizes) (printed : IsRunInOrder sizes lines run) (in_order : IsServedInOrder faultless_state sizes lines run room (faultless_state first) (faultless_state last)) where
  abbrev served : IsServed faultless_state sizes run room (faultless_state first) (faultless_state last)
  served = in_order.served

  sizes_are : sizes ≡ default_sizes
  sizes_are = one_sizes sizes default_sizes served.found.image first_tree first.bytes served.found.holds fresh.empty

  opening_is : served.opening ≡ []
  opening_is =
      let reads = subst (λ (z : Sizes). ReadsAsMap z served.opening first.bytes) sizes_are served.found.reads in
      let is = (one_map default_sizes first_tree served.opening first.bytes fresh.empty).0 reads in
      sym is.1

  image_is : served.found.image ≡ first_tree
  image_is =
      one_tree default_sizes served.found.image first_tree first.bytes
      (subst (λ (z : Sizes). HoldsTree z served.found.image first.bytes) sizes_are served.found.holds) fresh.empty

  -- what the file had before it was opened weighs nothing
  weightless : weight_of_tree served.found.image ≡ 0
  weightless = ap weight_of_tree image_is

  -- so nothing was charged at the opening
  nothing : run.charge ≡ 0
  nothing = let light = served.light in omega (arith, light, weightless)

  never_stopped : run.totals.stopped ≡ None
  never_stopped =
      let by_page = none_behind (list_any (λ (e : Entry). is_damaged e.reply) run.entries) (is_by_page run.totals.stopped) served.no_page in
      none_stops run.totals.stopped (faultless_state first) (faultless_state last) counted.stop by_page fresh.faults still

  abbrev IsServedAt : Sizes → List Line → Type 0
  IsServedAt z ls = (was : IsServedInOrder faultless_state z ls run room (faultless_state first) (faultless_state last)) × (was.served.opening ≡ [])

  served_at : IsServedAt default_sizes (generated seed count)
  served_at = subst (λ (ls : List Line). IsServedAt default_sizes ls) made (subst (λ (z : Sizes). IsServedAt z lines) sizes_are (in_order, opening_is))

  pub is_trial : IsTrialOf seed count run last
  is_trial = record {
    printed =
        subst (λ (ls : List Line). IsRunInOrder default_sizes ls run) made (subst (λ (z : Sizes). IsRunInOrder z lines run) sizes_are printed);
    made = first;
    fresh = fresh;
    room = room;
    room_is = subst (λ (ls : List Line). IsRoomOf room ls) made room_is;
    served = served_at.0.served;
    empty = served_at.1;
    rests = served_at.0.rests;
    unhelped = served_at.0.unhelped;
    solo = served_at.0.solo;
    nothing = nothing;
    untold = let risen = counted.risen in omega (arith, risen, fresh.faults, still);
    runs = never_stopped;
    calm = still;
  }

-- ---- what the call answers

pub tried : ((a b : Sizes) (one other : Tree) (file : List ℕ) → HoldsTree a one file → HoldsTree b other file → a ≡ b)
    → ((sizes : Sizes) (one other : Tree) (file : List ℕ) → HoldsTree sizes one file → HoldsTree sizes other file → one ≡ other)
    → ((sizes : Sizes) (tree : Tree) (pairs : List (Key × Value)) (file : List ℕ) → HoldsTree sizes tree file
    → ReadsAsMap sizes pairs file ↔ (FitsSizes sizes tree × (map_of_tree tree ≡ pairs)))
    → (seed count : ℕ) (lines : List Line) (room : Room) (disk last : Faultless) (result : Result Finished Unreadable) (finished : Finished)
    → lines ≡ generated seed count → IsRoomOf room lines → IsFreshStore disk → last.faults ≡ 0
    → IfOk result (λ f. AreCounted (run_of f) (faultless_state disk) (faultless_state last))
    → IfOk result (λ f. (sizes : Sizes) × IsRunInOrder sizes lines (run_of f) × IsServedInOrder faultless_state sizes lines (run_of f) room (faultless_state disk) (faultless_state last))
    → result ≡ Ok finished → IsTrialOf seed count (run_of finished) last
tried one_sizes one_tree one_map seed count lines room disk last result finished made room_is fresh still counted served is =
    let count_is =
    subst (λ (r : Result Finished Unreadable). IfOk r (λ f. AreCounted (run_of f) (faultless_state disk) (faultless_state last))) is counted in
    let all =
    subst (λ (r : Result Finished Unreadable).
    IfOk r (λ f. (sizes : Sizes) × IsRunInOrder sizes lines (run_of f) × IsServedInOrder faultless_state sizes lines (run_of f) room (faultless_state disk) (faultless_state last)))
    is served in
    is_trial one_sizes one_tree one_map seed count lines (run_of finished) room disk last made room_is fresh still count_is all.0 all.1 all.2

-- a refusal is want of memory
pub refused_for_memory : ((sizes : Sizes) (pairs : List (Key × Value)) (why : Unreadable) (file : List ℕ) → (reads : ReadsAsMap sizes pairs file)
    → reads.tree.catalogue.version ≤ most_version → IsOfFile why → IsWhy why file → ⊥)
    → (disk last : Faultless) (result : Result Finished Unreadable) (why : Unreadable) → IsFreshStore disk → last.faults ≡ 0
    → (IsErr result → TellsFaultsBy (Err Fault) result (faultless_state disk) (faultless_state last)) → IfErr result (λ w. IsWhy w disk.bytes) → result ≡ Err why → why ≡ NoMemory
refused_for_memory law disk last result why fresh still tells refused is =
    only_memory law (faultless_state disk) (faultless_state last) fresh.empty fresh.faults still result (tells (ap is_err is)) why
    (subst (λ (r : Result Finished Unreadable). IfErr r (λ w. IsWhy w disk.bytes)) is refused) is
