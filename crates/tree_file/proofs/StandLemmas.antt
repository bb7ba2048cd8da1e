-- What each writer of a store's file leaves of the tree that stood on its disk.
use Rattle.std.specs.Prelude.{◌≡◌, Result, Ok, Err, OnOk, is_ok, ◌⊎◌, ℕ, ◌≤◌, Bool, IsTrue, List, [], ◌∷◌}
use Rattle.std.proofs.lemmas.Grind.{common_steps}
use Rattle.std.proofs.lemmas.Bool.Decides.{nat_tests}
use Rattle.std.proofs.Common.{inl, inr, ⊎_elim, sym, subst, arith}
use Rattle.disk_trait.specs.Disk.{DiskState}
use Rattle.disk_trait.specs.Effects.{Affects}
use Rattle.disk_trait.specs.Moments.{IsTimed, LeavesOnly}
use Rattle.disk_trait.proofs.MomentLemmas.{leaves_only_run, leaves_only_weaken, leaves_only_now}
use Rattle.disk_trait.specs.Reads.{OnlyReads}
use Rattle.disk_trait.proofs.ReadLemmas.{only_reads_each, only_reads_same}
use Rattle.disk_trait.specs.Region.{Region, span, IsSameOutside, IsOldOutside}
use Rattle.std.proofs.lemmas.Bool.{false≢true}
use Rattle.blsm_model.specs.Sizes.{Sizes}
use Rattle.blsm_model.specs.Geometry.{file_length}
use Rattle.blsm_model.specs.Lanes.{a_of, b_of, spare_of, region_start, AreRoles}
use Rattle.record_delta.specs.Entries.{Entries}
use Rattle.gated_log.specs.Lane.{Lane, lane_region, no_lane, with_more, HasEntries, Appends, LeavesAppended, IsAppended}
use Rattle.gated_log.proofs.LaneLaws.{empty_lane}
use Rattle.gated_log.proofs.LaneLemmas.{region_inside}
use Rattle.catalog_swap.specs.declared.catalog.Catalog.{Catalog}
use Rattle.catalog_swap.specs.Slots.{AreSameSlots, slot_of, other_slot, slot_length, IsNewest}
use Rattle.catalog_swap.specs.Swap.{spare_start, prepared, IsSettled, IsPrepared, IsReady, IsNext, IsEither}
use Rattle.catalog_swap.proofs.FileLemmas.{settled_only, settled_apart, settled_each, ready_prepared}
use Rattle.tree_file.specs.Tree.{Tree, HoldsTree, kept_pages}
use Rattle.tree_file.specs.Places.{HoldsEither, StandsOn, StandsOnEither, Becomes, ReadsNext, KeepsRoles, TurnsRoles, appended_a, appended_b}
use Rattle.tree_file.proofs.HoldsLemmas.{HasBody, body_holds, body_beside, holds_beside_body, holds_beside, beside_within, beside_both, head_beside}
use Rattle.tree_file.proofs.HoldsLemmas.{lane_beside, lane_pages, lane_slots, pages_after, reads_next_beside, roles_of, Role, as_a, as_b, lane_of}
use Rattle.tree_file.proofs.HoldsLemmas.{lane_in, with_lane, has_entries, entries_changed, same_entries}
use Rattle.tree_file.proofs.Terms.{IsBesideBody, IsBeside, Stays}

-- ---- beside the tree: a quantum of a merge, the end of a run

-- What is written beside a tree leaves it in each image of each moment, and it stands.
pub stands_beside : {region : Region} {end most : ℕ} {old new : DiskState} (sizes : Sizes) (tree : Tree) → Affects region end most old new → IsBeside sizes tree region → IsTrue old.is_honest → IsTimed new
    → StandsOn sizes tree old → StandsOn sizes tree new × LeavesOnly old new (HoldsTree sizes tree)
stands_beside {region} {end} {most} {old} {new} sizes tree run beside honest timed stands =
    let each : LeavesOnly old new (HoldsTree sizes tree) = leaves_only_weaken (λ c was. holds_beside sizes tree (stands.each was.0 was.1) beside was.2) (run.images honest) in (
      record {
        reads = holds_beside sizes tree stands.reads beside (run.bytes honest);
        each = leaves_only_now timed each;
        settled = settled_apart region end most sizes tree.catalogue old new run beside.slots honest timed stands.settled;
      },
      each,
    )

-- ---- one tree or the other

-- what a call ensures where it was done
pub when_ok : {T E P : Type 0} (result : Result T E) → OnOk result P → IsTrue (is_ok result) → P
when_ok (Ok value) holds well = holds
when_ok (Err error) holds well = absurd (false≢true well)

-- a tree that is held is one of two
pub stays_either : {sizes : Sizes} {tree : Tree} {done : Bool} {old new : DiskState} (other : Tree) → IsTimed new → Stays sizes tree done old new → StandsOnEither sizes tree other new
stays_either other timed stays = record { reads = inl stays.reads; each = λ c left. inl (leaves_only_now timed stays.each c left) }

-- so a run that wasn't done, and that left the tree, is one of a tree that was to become another
pub becomes_unfinished : {sizes : Sizes} {tree : Tree} {done failed : Bool} {old new : DiskState} (other : Tree) → (IsTrue failed → ⊥) → IsTimed new → Stays sizes tree done old new
    → Becomes sizes tree other failed old new
becomes_unfinished other not_done timed stays = record {
  each = leaves_only_weaken (λ c holds. inl holds) stays.each;
  either = stays_either other timed stays;
  stands = λ well. absurd (not_done well);
}

-- a run behind one that left the tree at each moment
pub becomes_behind : {sizes : Sizes} {one other : Tree} {done : Bool} {old mid new : DiskState} → LeavesOnly old mid (HoldsTree sizes one) → Becomes sizes one other done mid new
    → Becomes sizes one other done old new
becomes_behind first second = record {
  each = leaves_only_run (leaves_only_weaken (λ c holds. inl holds) first) second.each;
  either = second.either;
  stands = second.stands;
}

-- ---- reads, and moments after a fault

-- A run that only reads leaves a tree that stands, or one of two.
pub stands_read : {end most : ℕ} {old new : DiskState} (sizes : Sizes) (tree : Tree) → OnlyReads end most old new → IsTrue old.is_honest → StandsOn sizes tree old
    → StandsOn sizes tree new × LeavesOnly old new (HoldsTree sizes tree)
stands_read {end} {most} {old} {new} sizes tree run honest stands = (
  record {
    reads = subst (HoldsTree sizes tree) (sym (only_reads_same run honest)) stands.reads;
    each = λ c left. stands.each c (run.same.same.images honest c left);
    settled = record {
      newest = subst (IsNewest sizes tree.catalogue) (sym (only_reads_same run honest)) stands.settled.newest;
      each = λ c left. subst (λ (l : List ℕ). AreSameSlots l c) (sym (only_reads_same run honest)) (stands.settled.each c (run.same.same.images honest c left));
    };
  },
  leaves_only_weaken stands.each (only_reads_each run honest),
)

-- ---- an append

-- a lane that has its entries, or one record more, in a file of which only its own bytes changed
either_appended : (role : Role) (sizes : Sizes) (tree : Tree) (es : Entries) (was file : List ℕ) → HoldsTree sizes tree was → IsSameOutside (lane_region sizes (lane_of role tree)) was file
    → HasEntries sizes (lane_of role tree) (lane_in role tree) file
    ⊎ HasEntries sizes (lane_of role tree) (with_more (lane_in role tree) es) file
    → HoldsEither sizes tree (with_lane role (with_more (lane_in role tree) es) tree) file
either_appended role sizes tree es was file holds same =
    ⊎_elim
    (λ has. inl (same_entries role {tree = tree} (entries_changed role sizes tree (lane_in role tree) holds same has)))
    (λ more. inr (entries_changed role sizes tree (with_more (lane_in role tree) es) holds same more))

settled_with : (role : Role) {sizes : Sizes} (tree : Tree) {d : DiskState} (lane : Lane) → IsSettled sizes tree.catalogue d
    → IsSettled sizes (with_lane role lane tree).catalogue d
settled_with as_a tree lane settled = settled
settled_with as_b tree lane settled = settled

pub stands_appended : (role : Role) {done : Bool} {at end most : ℕ} {old new : DiskState} (sizes : Sizes) (tree : Tree) (es : Entries)
    → Appends sizes (lane_of role tree) at es done old new
    → (lane_in role tree).end ≡ at → Affects (lane_region sizes (lane_of role tree)) end most old new → IsTrue old.is_honest → IsTimed new
    → StandsOn sizes tree old
    → Becomes sizes tree (with_lane role (with_more (lane_in role tree) es) tree) done old new
stands_appended role {done} {at} {end} {most} {old} {new} sizes tree es appends ends run honest timed stands = record {
  each = each;
  either = record { reads = either_appended role sizes tree es old.bytes new.bytes stands.reads (run.bytes honest) (leaves.reads (has_entries role stands.reads)).has; each = leaves_only_now timed each };
  stands = λ well. record {
    reads = entries_changed role sizes tree more stands.reads (run.bytes honest) (leaves.reads_done well (has_entries role stands.reads));
    each = λ c left.
        let was = (leaves_only_now timed appended c left).outside in
        entries_changed role sizes tree more (stands.each was.0 was.1) was.2 (leaves.each_done well each_has c left);
    settled = settled_with role tree more
        (settled_apart (lane_region sizes (lane_of role tree)) end most sizes tree.catalogue old new run (lane_slots sizes (lane_of role tree)) honest timed stands.settled);
  };
}
  where
    more : Lane
    more = with_more (lane_in role tree) es

    leaves : LeavesAppended sizes (lane_of role tree) (lane_in role tree) es done old new
    leaves = appends (lane_in role tree) honest ends

    each_has : (c : List ℕ) → old.images c → HasEntries sizes (lane_of role tree) (lane_in role tree) c
    each_has c left = has_entries role (stands.each c left)

    appended : LeavesOnly old new (IsAppended sizes (lane_of role tree) (lane_in role tree) es old.images)
    appended = leaves.each each_has

    each : LeavesOnly old new (HoldsEither sizes tree (with_lane role (with_more (lane_in role tree) es) tree))
    each = leaves_only_weaken (λ c is. either_appended role sizes tree es is.outside.0 c (stands.each is.outside.0 is.outside.1) is.outside.2 is.has) appended

-- An append to a lane leaves the tree with the entries or without, in each image of each moment; once it is done, with them.
pub stands_appended_a : {done : Bool} {at end most : ℕ} {old new : DiskState} (sizes : Sizes) (tree : Tree) (es : Entries)
    → Appends sizes (a_of tree.catalogue.lanes) at es done old new
    → tree.lane_a.end ≡ at → Affects (lane_region sizes (a_of tree.catalogue.lanes)) end most old new → IsTrue old.is_honest → IsTimed new
    → StandsOn sizes tree old
    → Becomes sizes tree (appended_a es tree) done old new
stands_appended_a = stands_appended as_a

pub stands_appended_b : {done : Bool} {at end most : ℕ} {old new : DiskState} (sizes : Sizes) (tree : Tree) (es : Entries)
    → Appends sizes (b_of tree.catalogue.lanes) at es done old new
    → tree.lane_b.end ≡ at → Affects (lane_region sizes (b_of tree.catalogue.lanes)) end most old new → IsTrue old.is_honest → IsTimed new
    → StandsOn sizes tree old
    → Becomes sizes tree (appended_b es tree) done old new
stands_appended_b = stands_appended as_b

-- ---- a preparation

-- what holds at each moment of both
both_leave : {old new : DiskState} {P Q : List ℕ → Type 0} → LeavesOnly old new P → LeavesOnly old new Q → LeavesOnly old new (λ c. P c × Q c)
both_leave one other = grind (arith, common_steps, nat_tests)

-- what a preparation may write is beside the body of the tree
prepared_beside : (sizes : Sizes) (tree : Tree) → 1 ≤ sizes.half → AreRoles tree.catalogue.lanes → IsBesideBody sizes tree (prepared sizes tree.catalogue)
prepared_beside sizes tree some roles =
    beside_both (head_beside sizes tree (other_slot tree.catalogue.version) 1 (omega arith) (omega arith))
    (beside_within gate_inside (lane_beside sizes tree spare roles.spare_below (λ is. roles.a_not_spare (sym is)) (λ is. roles.b_not_spare (sym is))).body)
  where
    spare : ℕ
    spare = spare_of tree.catalogue.lanes

    gate_inside : (i : ℕ) → span (region_start sizes spare) 1 i → lane_region sizes spare i
    gate_inside i here = (here.0, omega (arith, some, here.1))

-- What reads of the next tree reads after a preparation, too.
pub reads_next_prepared : {end most : ℕ} {old new : DiskState} (sizes : Sizes) (now : Catalog) (next : Tree) → 1 ≤ sizes.half → AreRoles now.lanes → Affects (prepared sizes now) end most old new
    → IsTrue old.is_honest → ReadsNext sizes next old.bytes → ReadsNext sizes next new.bytes
reads_next_prepared sizes now next some roles run honest =
    reads_next_beside sizes next
    (λ i here there.
    ⊎_elim
    (λ gate. pages_after sizes (other_slot now.version) 1 (kept_pages next) (omega arith) i gate there)
    (λ (gate : span (spare_start sizes now) 1 i).
    lane_pages sizes (spare_of now.lanes) (kept_pages next) roles.spare_below i (gate.0, omega (arith, some, gate.1)) there)
    here)
    (run.bytes honest)

-- what a preparation ensures, clause by clause
pub record Prepares {T E : Type 0} (sizes : Sizes) (now : Catalog) (result : Result T E) (old new : DiskState) : Type 0 where
  pub each : IsTrue old.is_honest → IsSettled sizes now old → LeavesOnly old new (IsNewest sizes now)
  pub reads : IsTrue old.is_honest → IsNewest sizes now old.bytes → IsNewest sizes now new.bytes
  pub ready : OnOk result (IsTrue old.is_honest → IsPrepared sizes now new)
  pub effect : Affects (prepared sizes now) (file_length sizes) 4 old new

-- A preparation leaves the tree in each image of each moment; once it is done the tree stands.
pub stands_prepared : {T E : Type 0} {result : Result T E} {old new : DiskState} (sizes : Sizes) (tree : Tree) → Prepares sizes tree.catalogue result old new → IsTrue old.is_honest → IsTimed new
    → StandsOn sizes tree old → Stays sizes tree (is_ok result) old new
stands_prepared {T} {E} {result} {old} {new} sizes tree prepares honest timed stands = record {
  each = each;
  reads = reads;
  stands = λ well. record {
    reads = reads;
    each = leaves_only_now timed each;
    settled = settled_only new (prepares.reads honest stands.reads.newest) (when_ok result prepares.ready well honest).only;
  };
}
  where
    beside : IsBesideBody sizes tree (prepared sizes tree.catalogue)
    beside = let half = stands.reads.store.geometry.half.0 in prepared_beside sizes tree (omega (arith, half)) (roles_of stands.reads)

    each : LeavesOnly old new (HoldsTree sizes tree)
    each =
        leaves_only_weaken (λ c is. holds_beside_body sizes tree (stands.each is.1.0 is.1.1) beside is.1.2 is.0)
        (both_leave (prepares.each honest stands.settled) (prepares.effect.images honest))

    reads : HoldsTree sizes tree new.bytes
    reads = holds_beside_body sizes tree stands.reads beside (prepares.effect.bytes honest) (prepares.reads honest stands.reads.newest)

-- ---- a commit

-- what a commit ensures, clause by clause
pub record Commits {T E : Type 0} (sizes : Sizes) (next : Catalog) (result : Result T E) (old new : DiskState) : Type 0 where
  pub each : IsTrue old.is_honest → (now : Catalog) → IsNext sizes now next → IsReady sizes now old → LeavesOnly old new (IsEither sizes now next)
  pub reads : IsTrue old.is_honest → (now : Catalog) → IsNext sizes now next → IsReady sizes now old → IsEither sizes now next new.bytes
  pub committed : OnOk result (IsTrue old.is_honest → (now : Catalog) → IsNext sizes now next → IsReady sizes now old → IsSettled sizes next new)
  pub effect : Affects (span (slot_of next.version) slot_length) (file_length sizes) 4 old new

-- what a commit finds: a tree that stands, prepared, and a next one whose components read in the file already
pub record IsCommitReady (sizes : Sizes) (tree next : Tree) (d : DiskState) : Type 0 where
  pub stands : StandsOn sizes tree d
  pub ready : IsPrepared sizes tree.catalogue d
  pub follows : IsNext sizes tree.catalogue next.catalogue
  pub reads : ReadsNext sizes next d.bytes

-- the tree becomes the next one, whose lanes' entries stand in the file already
stands_switched : {T E : Type 0} {result : Result T E} {old new : DiskState} (sizes : Sizes) (tree next : Tree) → Commits sizes next.catalogue result old new → IsTrue old.is_honest → IsTimed new
    → IsCommitReady sizes tree next old → HasEntries sizes (a_of next.catalogue.lanes) next.lane_a old.bytes → HasEntries sizes (b_of next.catalogue.lanes) next.lane_b old.bytes
    → Becomes sizes tree next (is_ok result) old new
stands_switched {T} {E} {result} {old} {new} sizes tree next commits honest timed is a b = record {
  each = all;
  either = record { reads = held new.bytes (commits.effect.bytes honest) (commits.reads honest tree.catalogue is.follows is_ready); each = leaves_only_now timed all };
  stands = λ well.
      let settled = when_ok result commits.committed well honest tree.catalogue is.follows is_ready in
      record {
        reads = body_holds (next_body new.bytes (commits.effect.bytes honest)) settled.newest;
        each = λ c left. body_holds (next_body c (same c (leaves_only_now timed (commits.effect.images honest) c left))) (settled_each new settled c left);
        settled = settled;
      };
}
  where
    slot_beside : (other : Tree) → IsBesideBody sizes other (span (slot_of next.catalogue.version) slot_length)
    slot_beside other = head_beside sizes other (slot_of next.catalogue.version) slot_length (omega arith) (omega arith)

    is_ready : IsReady sizes tree.catalogue old
    is_ready = ready_prepared old is.stands.reads.newest is.ready

    body : HasBody sizes next old.bytes
    body = record { store = is.stands.reads.store; reads = is.reads; lane_a = a; lane_b = b }

    next_body : (c : List ℕ) → IsSameOutside (span (slot_of next.catalogue.version) slot_length) old.bytes c → HasBody sizes next c
    next_body c same = body_beside sizes next body (slot_beside next) same

    -- each image before is what the disk read as
    same : (c : List ℕ) → IsOldOutside (span (slot_of next.catalogue.version) slot_length) old.images c → IsSameOutside (span (slot_of next.catalogue.version) slot_length) old.bytes c
    same c was = subst (λ (l : List ℕ). IsSameOutside (span (slot_of next.catalogue.version) slot_length) l c) (is.ready.only was.0 was.1) was.2

    held : (c : List ℕ) → IsSameOutside (span (slot_of next.catalogue.version) slot_length) old.bytes c → IsEither sizes tree.catalogue next.catalogue c → HoldsEither sizes tree next c
    held c same =
        ⊎_elim
        (λ now. inl (holds_beside_body sizes tree is.stands.reads (slot_beside tree) same now))
        (λ after. inr (body_holds (next_body c same) after))

    all : LeavesOnly old new (HoldsEither sizes tree next)
    all = leaves_only_weaken (λ c left. held c (same c left.1) left.0) (both_leave (commits.each honest tree.catalogue is.follows is_ready) (commits.effect.images honest))

-- A commit behind a preparation: the tree that stands becomes the next one; at each moment there is the one or the other. Here the lanes'
-- roles stay.
pub stands_committed : {T E : Type 0} {result : Result T E} {old new : DiskState} (sizes : Sizes) (tree next : Tree) → Commits sizes next.catalogue result old new → IsTrue old.is_honest → IsTimed new
    → IsCommitReady sizes tree next old → KeepsRoles tree.catalogue next.catalogue → next.lane_a ≡ tree.lane_a → next.lane_b ≡ tree.lane_b → Becomes sizes tree next (is_ok result) old new
stands_committed {T} {E} {result} {old} {new} sizes tree next commits honest timed is roles a b =
    stands_switched sizes tree next commits honest timed is
    (subst (λ (lane : Lane). HasEntries sizes (a_of next.catalogue.lanes) lane old.bytes) (sym a)
    (subst (λ (l : List ℕ). HasEntries sizes (a_of l) tree.lane_a old.bytes) (sym roles) is.stands.reads.lane_a))
    (subst (λ (lane : Lane). HasEntries sizes (b_of next.catalogue.lanes) lane old.bytes) (sym b)
    (subst (λ (l : List ℕ). HasEntries sizes (b_of l) tree.lane_b old.bytes) (sym roles) is.stands.reads.lane_b))

-- the spare lane of a tree that is prepared has no entries
spare_empty : {sizes : Sizes} {tree : Tree} (d : DiskState) → StandsOn sizes tree d → IsPrepared sizes tree.catalogue d
    → HasEntries sizes (spare_of tree.catalogue.lanes) no_lane d.bytes
spare_empty {sizes} {tree} d stands ready =
    let spare = spare_of tree.catalogue.lanes in
    let store = stands.reads.store in
    let half = store.geometry.half.0 in
    empty_lane sizes spare d.bytes store.geometry (omega (arith, half, store.long, region_inside sizes spare (roles_of stands.reads).spare_below)) ready.spare

-- Here they turn: lane B is lane A then, and the spare lane, which is empty, lane B.
pub stands_turned : {T E : Type 0} {result : Result T E} {old new : DiskState} (sizes : Sizes) (tree next : Tree) → Commits sizes next.catalogue result old new → IsTrue old.is_honest → IsTimed new
    → IsCommitReady sizes tree next old → TurnsRoles tree.catalogue next.catalogue → next.lane_a ≡ tree.lane_b → next.lane_b ≡ no_lane
    → Becomes sizes tree next (is_ok result) old new
stands_turned {T} {E} {result} {old} {new} sizes tree next commits honest timed is roles a b =
    stands_switched sizes tree next commits honest timed is
    (subst (λ (lane : Lane). HasEntries sizes (a_of next.catalogue.lanes) lane old.bytes) (sym a)
    (subst (λ (l : List ℕ). HasEntries sizes (a_of l) tree.lane_b old.bytes) (sym roles) is.stands.reads.lane_b))
    (subst (λ (lane : Lane). HasEntries sizes (b_of next.catalogue.lanes) lane old.bytes) (sym b)
    (subst (λ (l : List ℕ). HasEntries sizes (b_of l) no_lane old.bytes) (sym roles) (spare_empty old is.stands is.ready)))
