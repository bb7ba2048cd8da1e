-- What a crash leaves while a script is run: a front of its history, which has the entries of the steps that had ended.
use Rattle.std.proofs.Common.{◌≡◌, ◌∙◌, ℕ, Option, List, [], ◌++◌, inl, inr, ⊎_elim, length, refl, ap, sym, subst, arith}
use mathlib.Core.List.{IsPrefix}
use Rattle.blsm_model.specs.Images.{Shows}
use Rattle.blsm_model.specs.Sizes.{Sizes}
use Rattle.blsm_model.specs.declared.history.Entry.{Entry}
use Rattle.blsm_model.specs.declared.key.Key.{Key}
use Rattle.blsm_model.specs.declared.row.Row.{Row}
use Rattle.blsm_model.specs.declared.row.Value.{Value}
use Rattle.disk_trait.specs.Disk.{DiskState}
use Rattle.disk_trait.specs.Moments.{IsOldOr, IsTimed, LeavesOnly, LeavesOnlyOnceSynced, SyncsLater}
use Rattle.disk_trait.proofs.MomentLemmas.{leaves_only_run, leaves_only_weaken, once_synced_more, once_synced_weaken}
use Rattle.seat_book.specs.State.{BookState}
use Rattle.tree_machine.specs.Machine.{Machine}
use Rattle.tree_machine.specs.Plays.{played}
use Rattle.tree_machine.specs.declared.step.Step.{Step}
use Rattle.tree_file.specs.Tree.{ReadsAsMap}
use Rattle.tree_file.proofs.OneTree.{one_map}
use Rattle.core_chain.specs.Steps.{ChainIsSteps, noted_after, outcomes_in}
use Rattle.core_moves.specs.declared.held.Held.{Held}
use Rattle.core_lists.specs.Shown.{ShowsHistory, ShowsWhole}
use Rattle.core_lists.proofs.ShowingLemmas.{showing_is_kept}
use Rattle.tree_core.specs.Core.{CoreState}
use Rattle.tree_core.specs.Holds.{StandsWhole}
use Rattle.tree_core.specs.Standing.{StandsFor}
use Rattle.tree_core.proofs.QuietLemmas.{shows_now}
use Rattle.recover_open.specs.Opening.{KeepsMapOf}
use Rattle.core_chain.specs.Tells.{AreCalled}
use Rattle.store_run.specs.Run.{Run}
use Rattle.store_run.specs.Headline.{HaveMoments, LeavesHistory}

-- ---- what a core shows

-- the disk, as it reads and in each image now, shows this history and all of it
record ShowsAll (sizes : Sizes) (opening : List (Key × Value)) (history : List Entry) (d : DiskState) : Type 0 where
  reads : ShowsHistory sizes opening history (length history) d.bytes
  each : (c : List ℕ) → d.images c → ShowsHistory sizes opening history (length history) c

-- a core that stands for a state of the machine shows the whole of what it noted
shows_all : {Rows : List (Option (List Row)) → Type 0} (sizes : Sizes) (opening : List (Key × Value)) (held : Held) (m : Machine) (d : DiskState) → held.runs.sizes ≡ sizes → StandsFor Rows opening held m d
    → ShowsAll sizes opening held.book.book.entries d
shows_all sizes opening held m d same s =
    let shown = shows_now opening held m d s in
    record { reads = noted d.bytes shown.reads; each = λ c left. noted c (shown.each c left) }
  where
    noted : (file : List ℕ) → ShowsWhole opening m file → ShowsHistory sizes opening held.book.book.entries (length held.book.book.entries) file
    noted file shows =
        subst (λ (z : Sizes). ShowsHistory z opening held.book.book.entries (length held.book.book.entries) file) (s.sizes ∙ same)
        (subst (λ (es : List Entry). ShowsHistory m.gears.sizes opening es (length es) file) (ap (λ (b : BookState). b.book.entries) s.book) shows.0)

-- ---- the whole

-- What reads as the opening shows a history without entries, since the disk that was opened does and reads as the opening.
shows_opening : (sizes : Sizes) (opening : List (Key × Value)) (history : List Entry) (n : ℕ) (file c : List ℕ) → ShowsHistory sizes opening history n file → ReadsAsMap sizes opening file → ReadsAsMap sizes opening c
    → ShowsHistory sizes opening history n c
shows_opening sizes opening history n file c shows reads here =
    (opening, subst (λ (pairs : List (Key × Value)). Shows pairs opening history n) (one_map sizes sizes shows.0 opening file shows.2 reads) shows.1, here)

-- Some calls led on from a store that was opened on a disk: what a crash leaves of them at each moment since the first.
module _ {D : Type 0} (state : D → DiskState) (timed : (d : D) → IsTimed (state d)) (opening : List (Key × Value)) (calls : List (Step × CoreState D)) (first : DiskState) (old new : CoreState D)
    (m : Machine) (none : old.held.book.book.entries ≡ []) (whole : StandsWhole state opening old m) (keeps : KeepsMapOf old.held.runs.sizes opening first (state old.disk))
    (syncs : SyncsLater (state old.disk) (state new.disk)) (sizes_stand : new.held.runs.sizes ≡ old.held.runs.sizes)
    (steps : ChainIsSteps state opening calls old new m) (called : AreCalled state old calls) where
  abbrev sizes : Sizes
  sizes = old.held.runs.sizes

  abbrev entries : List Entry
  entries = new.held.book.book.entries

  end : ShowsAll sizes opening entries (state new.disk)
  end = shows_all sizes opening new.held (played m (outcomes_in steps.made)) (state new.disk) sizes_stand steps.stands

  noted : (played m (outcomes_in steps.made)).book.entries ≡ entries
  noted = ap (λ (b : BookState). b.book.entries) steps.stands.book

  none_before : length m.book.entries ≡ 0
  none_before = ap (λ (b : BookState). length b.book.entries) whole.book ∙ ap (λ (es : List Entry). length es) none

  any : LeavesOnly (state old.disk) (state new.disk) (ShowsHistory sizes opening entries 0)
  any =
      subst (λ (z : Sizes). LeavesOnly (state old.disk) (state new.disk) (ShowsHistory z opening entries 0)) whole.sizes
      (subst (λ (n : ℕ). LeavesOnly (state old.disk) (state new.disk) (ShowsHistory m.gears.sizes opening entries n)) none_before
      (subst (λ (es : List Entry). LeavesOnly (state old.disk) (state new.disk) (ShowsHistory m.gears.sizes opening es (length m.book.entries))) noted steps.images))

  -- a file that reads as the map of the opening
  from_opening : (c : List ℕ) → ReadsAsMap sizes opening c → ShowsHistory sizes opening entries 0 c
  from_opening c reads =
      let shows = shows_all sizes opening old.held m (state old.disk) refl whole in
      let grows : IsPrefix old.held.book.book.entries entries = (entries, ap (λ (es : List Entry). es ++ entries) none) in
      shows_opening sizes opening entries 0 (state old.disk).bytes c
      (showing_is_kept sizes opening old.held.book.book.entries entries (length old.held.book.book.entries) 0 (state old.disk).bytes grows (omega arith) shows.reads) keeps.reads reads

  moments : (run : Run) → run.entries ≡ entries → HaveMoments state calls sizes opening run m (outcomes_in steps.made) old (state new.disk)
  moments run is = record {
    steps = steps.made;
    same = refl;
    clocks_are = steps.clocks_are;
    may = steps.may;
    timed = steps.timed;
    called = called;
    shows = λ n t c late left.
        subst (λ (z : Sizes). ShowsHistory z opening run.entries (length (noted_after m n steps.made)) c) whole.sizes
        (subst (λ (es : List Entry). ShowsHistory m.gears.sizes opening es (length (noted_after m n steps.made)) c) (sym is) (steps.moments n t c late left));
    acknowledged = steps.acknowledged;
  }

  pub leaves_history : (run : Run) → run.entries ≡ entries → LeavesHistory state calls sizes opening run m (outcomes_in steps.made) first old
      (state new.disk)
  leaves_history run is = record {
    begins = keeps;
    each = subst (λ (es : List Entry). LeavesOnly first (state new.disk) (IsOldOr first.images (ShowsHistory sizes opening es 0))) (sym is)
        (leaves_only_run
        (leaves_only_weaken (λ c. ⊎_elim (λ before. inl before) (λ reads. inr (from_opening c reads))) keeps.each)
        (leaves_only_weaken (λ c shows. inr shows) any));
    once_synced = subst (λ (es : List Entry). LeavesOnlyOnceSynced first (state new.disk) (ShowsHistory sizes opening es 0)) (sym is)
        (once_synced_more (timed old.disk) (timed new.disk) (once_synced_weaken from_opening keeps.once_synced) any syncs);
    moments = moments run is;
    whole = λ c left. subst (λ (es : List Entry). ShowsHistory sizes opening es (length es) c) (sym is) (end.each c left);
    shown = subst (λ (es : List Entry). ShowsHistory sizes opening es (length es) (state new.disk).bytes) (sym is) end.reads;
  }
