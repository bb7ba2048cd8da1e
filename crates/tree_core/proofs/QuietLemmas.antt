-- Steps that change the book alone: a lookup, the end of a work, a leave, and whatever is asked of a tree that has stopped.
use Rattle.std.specs.Prelude.{◌≡◌, ◌⊎◌, ℕ, ◌+◌, ◌≤◌, Bool, false, true, List, [], ◌∷◌, ◌++◌, Option, None, IsSome, IsTrue, length}
use Rattle.std.proofs.lemmas.Grind.{common_steps}
use Rattle.std.proofs.lemmas.Bool.Decides.{nat_tests}
use Rattle.std.proofs.Common.{◌∙◌, ⊎_elim, refl, ap, sym, subst, arith}
use mathlib.Core.List.{IsPrefix}
use Rattle.blsm_model.specs.declared.key.Key.{Key}
use Rattle.blsm_model.specs.declared.row.Row.{Row}
use Rattle.blsm_model.specs.declared.row.Value.{Value}
use Rattle.blsm_model.specs.declared.history.Entry.{Entry}
use Rattle.blsm_model.specs.declared.history.Why.{Why}
use Rattle.blsm_model.specs.Sizes.{Sizes}
use Rattle.blsm_model.specs.Images.{counted_with}
use Rattle.disk_trait.specs.Disk.{DiskState}
use Rattle.disk_trait.specs.Reads.{OnlyReads}
use Rattle.disk_trait.proofs.ReadLemmas.{only_reads_each}
use Rattle.disk_trait.specs.Moments.{IsTimed, LeavesOnly}
use Rattle.disk_trait.proofs.MomentLemmas.{leaves_only_start, leaves_only_weaken}
use Rattle.gear_sched.specs.Gears.{GearState}
use Rattle.pacing.specs.Pace.{Pace}
use Rattle.page_space.specs.Space.{SpaceState}
use Rattle.record_delta.specs.Entries.{entries_weight}
use Rattle.tree_machine.specs.Lists.{Lists}
use Rattle.tree_machine.specs.Machine.{Machine, charge}
use Rattle.tree_machine.specs.Outcomes.{IsPossible, is_broken}
use Rattle.tree_machine.specs.Plays.{may, stepped_as}
use Rattle.tree_machine.specs.Stands.{WritesFit}
use Rattle.tree_machine.specs.Steps.{Answer, Outcome, Stepped}
use Rattle.tree_machine.specs.declared.step.Kind.{Kind}
use Rattle.seat_book.specs.State.{BookState, book_of}
use Rattle.tree_file.specs.Tree.{Tree, HoldsTree}
use Rattle.tree_file.proofs.StandLemmas.{stands_read}
use Rattle.tree_runs.specs.Holding.{AreOf, StandOver}
use Rattle.tree_runs.specs.Laws.{IsBesideRuns}
use Rattle.tree_runs.specs.Runs.{RunsState, AreRunning}
use Rattle.tree_runs.proofs.BesideLemmas.{runs_stay}
use Rattle.core_moves.specs.declared.held.Held.{Held}
use Rattle.core_moves.specs.Held.{IsOne}
use Rattle.core_moves.specs.Moves.{with_book}
use Rattle.core_moves.specs.Needs.{IsOn}
use Rattle.core_pace.specs.Pacing.{HasPace, IsPacedHeld, IsRunBook}
use Rattle.core_pace.proofs.TurnLemmas.{book_is_paced}
use Rattle.core_lists.specs.Standing.{HoldsMachine}
use Rattle.core_lists.specs.Shown.{ShowsHistory, ShowsWhole, doubted}
use Rattle.core_lists.proofs.FileWeights.{doubt_grows, weighs_as}
use Rattle.core_lists.proofs.ShowingLemmas.{prefix_self, standing_shows, showing_is_kept, quiet_entry_shows}
use Rattle.paced_tree.specs.Numbers.{pace_of}
use Rattle.pacing.specs.Fronts.{Fronts, AreFronts}
use Rattle.paced_tree.specs.Kept.{IsPacedTree}
use Rattle.paced_tree.proofs.Promises.{step_is_paced}
use Rattle.tree_core.specs.Core.{IsTold, HoldsPace}
use Rattle.tree_core.specs.HoldMoves.{mapped}
use Rattle.tree_core.specs.Standing.{HasStopped, StandsFor}
use Rattle.tree_core.specs.Steps.{IsStep}
use Rattle.tree_core.proofs.VersionLemmas.{commits_still, one_commits, version_of}
use Rattle.core_lists.proofs.Terms.{CountsAs}

-- ---- by numbers

rebooked_told : (held : Held) (space : SpaceState) (b : BookState) (pace : Pace) → IsTold held pace → b.counts ≡ held.book.counts → IsRunBook b pace → IsTold (with_book b (mapped space held)) pace
rebooked_told held space b pace t counts told = grind (arith, common_steps, nat_tests)

-- the numbers don't speak of the map
mapped_numbers : (held : Held) (space : SpaceState) (pace : Pace) → HasPace held pace → HasPace (mapped space held) pace
mapped_numbers held space pace numbers = grind (arith, common_steps, nat_tests)

mapped_one : (held : Held) (space : SpaceState) → IsOne held → IsOne (mapped space held)
mapped_one held space one = record {
  gears = one.gears;
  lanes = one.lanes;
  roles = one.roles;
  apart = one.apart;
  reserved_a = one.reserved_a;
  reserved_b = one.reserved_b;
  sorted_a = one.sorted_a;
  sorted_b = one.sorted_b;
  follows = one.follows;
}

mapped_paced : (held : Held) (space : SpaceState) (pace : Pace) → IsPacedHeld held pace → IsPacedHeld (mapped space held) pace
mapped_paced held space pace paced = record { numbers = mapped_numbers held space pace paced.numbers; told = paced.told; counted = paced.counted; one = mapped_one held space paced.one; ends = paced.ends; version = paced.version }

-- a disk that is only read, or isn't called, where the book and the map of the pages alone change
pub read_holds : (held : Held) (space : SpaceState) (b : BookState) (pace : Pace) (d d2 : DiskState) → HoldsPace held pace d → b.counts ≡ held.book.counts → b.stopped ≡ held.book.stopped → IsRunBook b pace
    → (IsOn held d → IsOn (mapped space held) d2) → HoldsPace (with_book b (mapped space held)) pace d2
read_holds held space b pace d d2 holds counts stopped told on = record {
  told = rebooked_told held space b pace holds.told counts told;
  live = λ runs.
      let live = holds.live (sym stopped ∙ runs) in
      let still = on live.on in
      record { paced = mapped_paced (with_book b held) space pace (book_is_paced held b pace live.paced counts told); on = record { running = still.running; long = still.long } };
}

same_beside : (runs : RunsState) (old new : List ℕ) → new ≡ old → IsBesideRuns runs old new
same_beside runs old new same = subst (λ (l : List ℕ). IsBesideRuns runs old l) (sym same) (record { no_shorter = omega arith; bytes = λ i outside. refl })

pub reads_on : {end most : ℕ} {d d2 : DiskState} (held : Held) → OnlyReads end most d d2 → IsOn held d → IsOn held d2
reads_on {end} {most} {d} {d2} held reads on = record {
  running = subst (λ (b : Bool). AreRunning b d2.bytes held.runs) (sym reads.effect.goes_on.is_honest)
      (runs_stay held.runs d.is_honest d.bytes d2.bytes (λ honest. same_beside held.runs d.bytes d2.bytes (reads.same.same.bytes honest)) on.running);
  long = λ tells.
      reads.same.same.length (subst (λ (b : Bool). IsTrue b) reads.effect.goes_on.tells_bytes tells)
      ∙ on.long (subst (λ (b : Bool). IsTrue b) reads.effect.goes_on.tells_bytes tells);
}

-- ---- by lists

runs_or_not : (stopped : Option Why) → (stopped ≡ None) ⊎ IsSome stopped
runs_or_not stopped = grind (arith, common_steps, nat_tests)

-- the core stands for it whatever is said of the rows, if that is so
pub with_rows : {Rows Next : List (Option (List Row)) → Type 0} (opening : List (Key × Value)) (held : Held) (m : Machine) (d : DiskState) → (held.book.stopped ≡ None → Next m.holds) → StandsFor Rows opening held m d
    → StandsFor Next opening held m d
with_rows opening held m d said s = record { paced = s.paced; sizes = s.sizes; gears = s.gears; book = s.book; charge_is = s.charge_is; runs = s.runs; rows = said; stopped = s.stopped }

-- The disk's images, and what it reads, show the whole history.
pub shows_now : {Rows : List (Option (List Row)) → Type 0} (opening : List (Key × Value)) (held : Held) (m : Machine) (d : DiskState) → StandsFor Rows opening held m d → HasStopped opening m d
shows_now opening held m d s = ⊎_elim running s.stopped (runs_or_not held.book.stopped)
  where
    running : held.book.stopped ≡ None → HasStopped opening m d
    running runs =
        let over = s.runs runs in
        record {
          reads = standing_shows opening m over.fronts over.tree d.bytes s.paced over.within over.holds.lists over.lanes (subst (λ (z : Sizes). HoldsTree z over.tree d.bytes) (sym s.sizes) over.over.stands.reads);
          each = λ c left. standing_shows opening m over.fronts over.tree c s.paced over.within over.holds.lists over.lanes (subst (λ (z : Sizes). HoldsTree z over.tree c) (sym s.sizes) (over.over.stands.each c left));
          commits = one_commits m.gears.sizes held.runs.sizes m.catalogue.version over.tree d s.sizes
              (version_of held over.tree m d.bytes over.over.are_of over.holds) over.over.stands;
        }

-- It stays with the lists, the merges, the gears, the spring and the catalogue.
pub record SameTree (m after : Machine) : Type 0 where
  pub lists : after.lists ≡ m.lists
  pub merges : after.merges ≡ m.merges
  pub gears : after.gears ≡ m.gears
  pub spring : after.spring ≡ m.spring
  pub catalogue : after.catalogue ≡ m.catalogue

pub same_charge : (m after : Machine) → SameTree m after → charge after ≡ charge m
same_charge m after same = cc (same.lists, same.gears, same.merges)

same_machine : (held : Held) (space : SpaceState) (b : BookState) (tree : Tree) (m after : Machine) → HoldsMachine held tree m → SameTree m after → book_of after ≡ b → HoldsMachine (with_book b (mapped space held)) tree after
same_machine held space b tree m after holds same book = grind (arith, common_steps, nat_tests)

-- the fronts hang on the lists and the gears
same_fronts : (m after : Machine) (fronts : Fronts) → SameTree m after → AreFronts (pace_of m) fronts → AreFronts (pace_of after) fronts
same_fronts m after fronts same within = by m.lists after.lists m.gears after.gears same.lists same.gears within
  where
    by : (l k : Lists) (g h : GearState) → k ≡ l → h ≡ g → AreFronts (record (pace_of m) { gears = g; a = entries_weight l.a; b = entries_weight l.b; c1 = entries_weight l.c1; c1x = entries_weight l.c1x; c2 = entries_weight l.c2 }) fronts
        → AreFronts (record (pace_of after) { gears = h; a = entries_weight k.a; b = entries_weight k.b; c1 = entries_weight k.c1; c1x = entries_weight k.c1x; c2 = entries_weight k.c2 }) fronts
    by l k g h same_lists same_gears a = subst (λ (x : Lists). AreFronts (record (pace_of after) { gears = h; a = entries_weight x.a; b = entries_weight x.b; c1 = entries_weight x.c1; c1x = entries_weight x.c1x; c2 = entries_weight x.c2 }) fronts) (sym same_lists)
        (subst (λ (x : GearState). AreFronts (record (pace_of after) { gears = x; a = entries_weight l.a; b = entries_weight l.b; c1 = entries_weight l.c1; c1x = entries_weight l.c1x; c2 = entries_weight l.c2 }) fronts) (sym same_gears)
        (record { table = a.table; high = a.high; full = a.full; next = a.next; behind = a.behind; both = a.both; none = a.none }))

-- Where the book and the map of the pages alone change, on a disk that still stands, the core stands for the machine's state with that book.
quiet_stands : {Rows Next : List (Option (List Row)) → Type 0} (opening : List (Key × Value)) (held : Held) (space : SpaceState) (b : BookState) (m after : Machine) (d d2 : DiskState) → StandsFor Rows opening held m d → SameTree m after
    → book_of after ≡ b → b.stopped ≡ held.book.stopped → IsPacedTree opening after
    → ((tree : Tree) → StandOver held.runs tree d → StandOver (mapped space held).runs tree d2)
    → (IsSome held.book.stopped → HasStopped opening after d2) → (held.book.stopped ≡ None → Next after.holds) → StandsFor Next opening (with_book b (mapped space held)) after d2
quiet_stands opening held space b m after d d2 s same book stopped paced stays shows gives = record {
  paced = paced;
  sizes = ap (λ (g : GearState). g.sizes) same.gears ∙ s.sizes;
  gears = same.gears ∙ s.gears;
  book = book;
  charge_is = same_charge m after same ∙ s.charge_is;
  runs = λ none.
      let over = s.runs (sym stopped ∙ none) in
      record {
        fronts = over.fronts;
        tree = over.tree;
        over = stays over.tree over.over;
        holds = same_machine held space b over.tree m after over.holds same book;
        within = same_fronts m after over.fronts same over.within;
        lanes = record {
          lane_a = subst (λ (l : Lists). Rattle.paced_tree.specs.Lanes.IsLane over.tree.lane_a.entries l.a over.fronts.lane_a)
              (sym same.lists) over.lanes.lane_a;
          lane_b = subst (λ (l : Lists). Rattle.paced_tree.specs.Lanes.IsLane over.tree.lane_b.entries l.b over.fronts.lane_b)
              (sym same.lists) over.lanes.lane_b;
        };
      };
  rows = λ none. gives (sym stopped ∙ none);
  stopped = λ some. shows (subst IsSome stopped some);
}

-- ---- what is shown

-- The whole history, with one entry more that counts no write, of a disk whose bytes and images are those from before.
pub shows_entry : (opening : List (Key × Value)) (m after : Machine) (d d2 : DiskState) (entry : Entry) → HasStopped opening m d → after.gears ≡ m.gears → after.catalogue ≡ m.catalogue → CountsAs m after → after.book.entries ≡ m.book.entries ++ entry ∷ []
    → ((unsure : Bool) → counted_with unsure entry ≡ []) → (d2.bytes ≡ d.bytes) → ((c : List ℕ) → d2.images c → d.images c) → HasStopped opening after d2
shows_entry opening m after d d2 entry shown gears catalogue counts noted none bytes images = record {
  reads = subst (λ (file : List ℕ). ShowsWhole opening after file) (sym bytes) (more d.bytes shown.reads);
  each = λ c left. more c (shown.each c (images c left));
  commits = commits_still m after d d2 gears catalogue bytes images shown.commits;
}
  where
    more : (file : List ℕ) → ShowsWhole opening m file → ShowsWhole opening after file
    more file shows =
        let with = quiet_entry_shows m.gears.sizes opening m.book.entries entry file none shows.0 in
        let all : length m.book.entries + 1 ≡ length (m.book.entries ++ entry ∷ []) = sym (Rattle.std.proofs.Common.length-append m.book.entries (entry ∷ [])) in (
          subst (λ (g : GearState). ShowsHistory g.sizes opening after.book.entries (length after.book.entries) file) (sym gears)
              (subst (λ (es : List Entry). ShowsHistory m.gears.sizes opening es (length es) file) (sym noted)
              (subst (λ (n : ℕ). ShowsHistory m.gears.sizes opening (m.book.entries ++ entry ∷ []) n file) all with)),
          weighs_as m after m.book.entries after.book.entries file (ap (λ (g : GearState). g.sizes) gears) counts
              (subst (λ (es : List Entry). doubted m.book.entries ≤ doubted es) (sym noted) (doubt_grows m.book.entries (entry ∷ []))) shows.1,
        )

-- the same history
pub shows_same : (opening : List (Key × Value)) (m after : Machine) (d : DiskState) → HasStopped opening m d → after.gears ≡ m.gears → after.catalogue ≡ m.catalogue → CountsAs m after → after.book.entries ≡ m.book.entries
    → HasStopped opening after d
shows_same opening m after d shown gears catalogue counts noted = record {
  reads = same d.bytes shown.reads;
  each = λ c left. same c (shown.each c left);
  commits = commits_still m after d d gears catalogue refl (λ c left. left) shown.commits;
}
  where
    same : (file : List ℕ) → ShowsWhole opening m file → ShowsWhole opening after file
    same file shows = grind (arith, common_steps, nat_tests)

-- What showed the history before a step shows the longer one after it, with all entries from before.
pub leaves_longer : (opening : List (Key × Value)) (m : Machine) (longer : List Entry) (before after : DiskState) → IsPrefix m.book.entries longer → LeavesOnly before after (ShowsWhole opening m)
    → LeavesOnly before after (ShowsHistory m.gears.sizes opening longer (length m.book.entries))
leaves_longer opening m longer before after begins leaves =
    leaves_only_weaken (λ file shows. showing_is_kept m.gears.sizes opening m.book.entries longer (length m.book.entries) (length m.book.entries) file begins (omega arith) shows.0) leaves

-- no call, no other moment
pub leaves_now : {Rows : List (Option (List Row)) → Type 0} (opening : List (Key × Value)) (held : Held) (m : Machine) (d : DiskState) → IsTimed d → StandsFor Rows opening held m d → LeavesOnly d d (ShowsWhole opening m)
leaves_now opening held m d timed s = leaves_only_start d (ShowsWhole opening m) timed (shows_now opening held m d s).each

-- ---- a step that changes the book alone

-- What it leaves: the lists, and of the history at most one entry more, which counts no write.
pub record ChangesBook (held : Held) (b : BookState) (m after : Machine) : Type 0 where
  pub same : SameTree m after
  pub counts : CountsAs m after
  pub book : book_of after ≡ b
  pub stopped : b.stopped ≡ held.book.stopped
  pub noted : (after.book.entries ≡ m.book.entries) ⊎ ((entry : Entry) × (after.book.entries ≡ m.book.entries ++ entry ∷ []) × ((unsure : Bool) → counted_with unsure entry ≡ []))

-- So it is the machine's step, on a disk that is only read, or isn't called. A hold may have moved pins before.
pub quiet_step : {end most : ℕ} {d d2 : DiskState} {Rows Next : List (Option (List Row)) → Type 0} (opening : List (Key × Value)) (seat : ℕ) (k : Kind) (outcome : Outcome) (answer : Answer) (held : Held) (space : SpaceState) (b : BookState)
    (m after : Machine) → OnlyReads end most d d2 → IsTrue d.is_honest
    → StandsFor Rows opening held m d → may m seat k ≡ true → WritesFit k → IsPossible m seat k outcome d.faults d2.faults → is_broken outcome ≡ false
    → stepped_as m seat k outcome ≡ record { state = after; answer = answer } → ChangesBook held b m after
    → ((tree : Tree) (file : List ℕ) → AreOf held.runs tree file → AreOf (mapped space held).runs tree file)
    → (held.book.stopped ≡ None → Next after.holds)
    → IsStep Next opening seat k answer (with_book b (mapped space held)) d d2 m
quiet_step {end} {most} {d} {d2} {Rows} {Next} opening seat k outcome answer held space b m after reads honest s can fits possible whole is changes lists gives = record {
  outcome = outcome;
  possible = possible;
  whole = whole;
  stands = subst (λ (t : Stepped). StandsFor Next opening (with_book b (mapped space held)) t.state d2) (sym is)
      (quiet_stands opening held space b m after d d2 s changes.same changes.book changes.stopped paced
      (λ tree over. record {
        stands = (stands_read held.runs.sizes tree reads honest over.stands).0;
        are_of = lists tree d2.bytes (subst (λ (file : List ℕ). AreOf held.runs tree file) (sym (reads.same.same.bytes honest)) over.are_of);
      }) (λ stopped. shows) gives);
  answers = ap (λ (t : Stepped). t.answer) (sym is);
  images = subst (λ (t : Stepped). LeavesOnly d d2 (ShowsHistory m.gears.sizes opening t.state.book.entries (length m.book.entries))) (sym is)
      (leaves_longer opening m after.book.entries d d2 grows (leaves_only_weaken shown.each (only_reads_each reads honest)));
}
  where
    shown : HasStopped opening m d
    shown = shows_now opening held m d s

    paced : IsPacedTree opening after
    paced = subst (λ (t : Stepped). IsPacedTree opening t.state) is (step_is_paced opening m (record { seat = seat; kind = k }) outcome s.paced can fits)

    grows : IsPrefix m.book.entries after.book.entries
    grows = ⊎_elim (λ (none : after.book.entries ≡ m.book.entries). subst (λ (es : List Entry). IsPrefix m.book.entries es) (sym none) (prefix_self m.book.entries))
        (λ one. subst (λ (es : List Entry). IsPrefix m.book.entries es) (sym one.1) (one.0 ∷ [], refl)) changes.noted

    -- the disk reads as before
    still : HasStopped opening m d2
    still = record { reads = subst (λ (file : List ℕ). ShowsWhole opening m file) (sym (reads.same.same.bytes honest)) shown.reads; each = λ c left. shown.each c (reads.same.same.images honest c left); commits = commits_still m m d d2 refl refl (reads.same.same.bytes honest) (reads.same.same.images honest) shown.commits }

    shows : HasStopped opening after d2
    shows = ⊎_elim (λ (none : after.book.entries ≡ m.book.entries). shows_same opening m after d2 still changes.same.gears changes.same.catalogue changes.counts none)
        (λ one. shows_entry opening m after d d2 one.0 shown changes.same.gears changes.same.catalogue changes.counts one.1 one.2 (reads.same.same.bytes honest) (reads.same.same.images honest)) changes.noted
