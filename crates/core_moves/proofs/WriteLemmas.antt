-- A write leaves the merges and the components as they were, and table A has it, or table B.
use Rattle.std.specs.Prelude.{◌≡◌, ℕ, ◌<◌, Bool, true, false, not, ◌||◌, List, [], ◌∷◌, Option, Some, None, IsTrue, is_some}
use Rattle.std.proofs.Common.{refl, sym, subst, arith}
use Rattle.blsm_model.specs.Sizes.{Sizes}
use Rattle.blsm_model.specs.declared.key.Key.{Key}
use Rattle.record_delta.specs.declared.record.Rec.{Rec}
use Rattle.record_delta.specs.Records.{weight}
use Rattle.record_delta.specs.Entries.{Entries, entries_weight}
use Rattle.disk_trait.specs.Disk.{DiskState}
use Rattle.disk_trait.specs.Region.{IsWithin}
use Rattle.disk_trait.proofs.RegionLemmas.{same_wider}
use Rattle.disk_trait.specs.Effects.{Affects}
use Rattle.gated_log.specs.Lane.{lane_region}
use Rattle.scan_view.specs.Pins.{beside_pins}
use Rattle.merge_ends.specs.Output.{IsUpTo}
use Rattle.tree_machine.specs.Moves.{joins_pass}
use Rattle.tree_machine.proofs.WeightLemmas.{weigh_first}
use Rattle.tree_machine.proofs.WriteLemmas.{sent_ahead}
use Rattle.tree_file.specs.Tree.{Tree, HoldsTree}
use Rattle.tree_log.specs.Log.{AreAboveFloor, appended, lane_for}
use Rattle.tree_runs.specs.Runs.{AreRunning}
use Rattle.snow_merge.specs.Pass.{SnowState}
use Rattle.tree_runs.specs.Holding.{AreOf, cursor_of_pass}
use Rattle.tree_runs.specs.Laws.{AreAhead, IsBesideRuns}
use Rattle.tree_runs.proofs.BesideLemmas.{runs_stay, entries_join, entries_wait}
use Rattle.tree_runs.proofs.CoverLemmas.{above_cursor, released_up_to}
use Rattle.core_moves.specs.declared.held.Held.{Held}
use Rattle.core_moves.specs.Held.{IsOne, goes_ahead}
use Rattle.core_moves.proofs.AffectLemmas.{lane_beside, lane_unpinned}

lane_below : (ahead : Bool) (held : Held) → IsOne held → lane_for ahead held.log < 3
lane_below true held one = subst (λ (roles : List ℕ). Rattle.blsm_model.specs.Lanes.a_of roles < 3) (sym one.roles) one.apart.a_below
lane_below false held one = subst (λ (roles : List ℕ). Rattle.blsm_model.specs.Lanes.b_of roles < 3) (sym one.roles) one.apart.b_below

-- the log's lanes are beside the pages
pub beside : {end most : ℕ} {old new : DiskState} (ahead : Bool) (held : Held) → IsOne held
    → Affects (lane_region held.log.lanes.sizes (lane_for ahead held.log)) end most old new → IsTrue old.is_honest → IsBesideRuns held.runs old.bytes new.bytes
beside {end} {most} {old} {new} ahead held one effect honest =
    same_wider (subst (λ (s : Sizes). (i : ℕ) → lane_region s (lane_for ahead held.log) i → Rattle.disk_trait.specs.Region.outside (Rattle.tree_runs.specs.Laws.used_region held.runs.sizes held.runs.space) i) (sym one.lanes)
    (lane_beside held.runs.sizes held.runs.space (lane_for ahead held.log) (lane_below ahead held one))) (effect.bytes honest)

-- one entry weighs as its record does
pub one_weighs : (key : Key) (rec : Rec) → entries_weight ((key, rec) ∷ []) ≡ weight key rec
one_weighs key rec = omega (arith, weigh_first (key, rec) [])

-- what goes to table A the pass hasn't come to
pub ahead_above : (more : Entries) (held : Held) → goes_ahead more held ≡ true → AreAhead (cursor_of_pass held.runs.pass) more
ahead_above more held is = by held.runs.pass is
  where
    anywhere : (es : Entries) → AreAhead None es
    anywhere [] = tt
    anywhere (e ∷ es) = (refl, anywhere es)

    by : (pass : Option SnowState) → (not (is_some pass) || joins_pass (cursor_of_pass pass) held.log.b.entries more) ≡ true → AreAhead (cursor_of_pass pass) more
    by None is = anywhere more
    by (Some snow) is = (sent_ahead (record { cursor = cursor_of_pass (Some snow); output = [] }) held.log.b.entries more is).0

-- nothing above the pass's cursor was dropped
pub floor_below : (held : Held) → IsOne held → IsUpTo held.log.a.floor (cursor_of_pass held.runs.pass)
floor_below held one =
    subst (λ (floor : Option Key). IsUpTo floor (cursor_of_pass held.runs.pass)) (sym one.follows.floor)
    (released_up_to _ held.runs.pass held.log.a.entries one.follows.covers)

-- what goes to table A is above the pass's cursor, and so above what was dropped
pub above_floor : (ahead : Bool) (more : Entries) (held : Held) → IsOne held → goes_ahead more held ≡ ahead → AreAboveFloor ahead more held.log
above_floor true more held one is =
    above_cursor held.log.a.floor (cursor_of_pass held.runs.pass) more (floor_below held one) (ahead_above more held is)
above_floor false more held one is = anyhow more
  where
    anyhow : (es : Entries) → AreAboveFloor false es held.log
    anyhow [] = tt
    anyhow (e ∷ es) = (tt, anyhow es)

-- and beside those that seats pin
pub lane_beside_pins : (ahead : Bool) (held : Held) → IsOne held
    → IsWithin (lane_region held.log.lanes.sizes (lane_for ahead held.log)) (beside_pins held.runs.sizes held.runs.space.pins)
lane_beside_pins ahead held one =
    subst (λ (s : Sizes). IsWithin (lane_region s (lane_for ahead held.log)) (beside_pins held.runs.sizes held.runs.space.pins)) (sym one.lanes)
    (lane_unpinned held.runs.sizes held.runs.space.pins (lane_for ahead held.log) (lane_below ahead held one))

-- the merges run on
pub runs_on : {end most : ℕ} {old new : DiskState} (ahead : Bool) (held : Held) → IsOne held
    → Affects (lane_region held.log.lanes.sizes (lane_for ahead held.log)) end most old new → AreRunning old.is_honest old.bytes held.runs → AreRunning new.is_honest new.bytes held.runs
runs_on {end} {most} {old} {new} ahead held one effect running =
    subst (λ (h : Bool). AreRunning h new.bytes held.runs) (sym effect.goes_on.is_honest)
    (runs_stay held.runs old.is_honest old.bytes new.bytes (λ honest. beside ahead held one effect honest) running)

-- and over the lists with the entries
pub joined : {end most : ℕ} {old new : DiskState} (ahead : Bool) (held : Held) (tree : Tree) (more : Entries) → IsOne held
    → goes_ahead more held ≡ ahead → Affects (lane_region held.log.lanes.sizes (lane_for ahead held.log)) end most old new → IsTrue old.is_honest
    → AreOf held.runs tree old.bytes → HoldsTree held.runs.sizes (appended ahead more tree) new.bytes
    → AreOf held.runs (appended ahead more tree) new.bytes
joined {end} {most} {old} {new} true held tree more one is effect honest are holds =
    entries_join held.runs tree old.bytes new.bytes more (beside true held one effect honest) (ahead_above more held is) are holds
joined {end} {most} {old} {new} false held tree more one is effect honest are holds =
    entries_wait held.runs tree old.bytes new.bytes more (beside false held one effect honest) are holds
