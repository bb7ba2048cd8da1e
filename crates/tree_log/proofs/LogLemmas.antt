-- An append to a lane, and the tree whose log it is.
use Rattle.std.specs.Prelude.{◌≡◌, ℕ, ◌+◌, ◌≤◌, Bool, true, false, IsTrue, List, [], ◌∷◌, length, Result, Ok, Err, OnOk, is_ok, if◌then◌else◌}
use Rattle.std.proofs.Common.{◌∙◌, sym, ap, subst, arith, length-append}
use Rattle.std.proofs.lemmas.List.{get_or-set_other}
use Rattle.disk_trait.specs.Disk.{DiskState}
use Rattle.disk_trait.specs.Effects.{Affects}
use Rattle.disk_trait.specs.Moments.{IsTimed}
use Rattle.blsm_model.specs.Geometry.{file_length}
use Rattle.blsm_model.specs.Lanes.{a_of, b_of, AreRoles}
use Rattle.record_delta.specs.Entries.{Entries, replayed}
use Rattle.record_delta.specs.Several.{with_records}
use Rattle.mem_table.specs.Tables.{Contents}
use Rattle.gated_log.specs.Lane.{Lane, lane_region, with_more, Appends, MayEnd}
use Rattle.gated_log.specs.Lanes.{LanesState, end_of, moved}
use Rattle.gated_log.specs.Records.{cost}
use Rattle.tree_file.specs.Tree.{Tree}
use Rattle.tree_file.specs.Places.{StandsOn, Becomes}
use Rattle.tree_file.proofs.ListLemmas.{lists_appended_a, lists_appended_b}
use Rattle.tree_file.proofs.StandLemmas.{stands_appended_a, stands_appended_b}
use Rattle.tree_machine.specs.Lists.{Lists}
use Rattle.tree_log.specs.Log.{LogState, AreAboveFloor, IsLogOf, IsRestOf, appended, end_of_a, end_of_b, folded_into}
use Rattle.tree_log.proofs.RestLemmas.{rest_grown_all}

-- ---- what the disk holds then

pub becomes_a : {done : Bool} {old new : DiskState} (log : LogState) (tree : Tree) (lane : ℕ) (more : Entries) → lane ≡ a_of log.lanes.roles
    → Appends log.lanes.sizes lane (end_of log.lanes lane) more done old new
    → Affects (lane_region log.lanes.sizes lane) (file_length log.lanes.sizes) 4 old new
    → IsTrue old.is_honest → IsTimed new → IsLogOf tree log → StandsOn log.lanes.sizes tree old → Becomes log.lanes.sizes tree (appended true more tree) done old new
becomes_a {done} {old} {new} log tree lane more here appends run honest timed is stands =
    let sizes = log.lanes.sizes in
    let same : lane ≡ a_of tree.catalogue.lanes = here ∙ ap a_of is.roles in
    stands_appended_a {done = done} {at = end_of log.lanes lane} {end = file_length sizes} {most = 4} {old = old} {new = new} sizes tree more
    (subst (λ (n : ℕ). Appends sizes n (end_of log.lanes lane) more done old new) same appends)
    (sym is.end_a ∙ ap (end_of log.lanes) (sym here))
    (subst (λ (n : ℕ). Affects (lane_region sizes n) (file_length sizes) 4 old new) same run)
    honest timed stands

pub becomes_b : {done : Bool} {old new : DiskState} (log : LogState) (tree : Tree) (lane : ℕ) (more : Entries) → lane ≡ b_of log.lanes.roles
    → Appends log.lanes.sizes lane (end_of log.lanes lane) more done old new
    → Affects (lane_region log.lanes.sizes lane) (file_length log.lanes.sizes) 4 old new
    → IsTrue old.is_honest → IsTimed new → IsLogOf tree log → StandsOn log.lanes.sizes tree old → Becomes log.lanes.sizes tree (appended false more tree) done old new
becomes_b {done} {old} {new} log tree lane more here appends run honest timed is stands =
    let sizes = log.lanes.sizes in
    let same : lane ≡ b_of tree.catalogue.lanes = here ∙ ap b_of is.roles in
    stands_appended_b {done = done} {at = end_of log.lanes lane} {end = file_length sizes} {most = 4} {old = old} {new = new} sizes tree more
    (subst (λ (n : ℕ). Appends sizes n (end_of log.lanes lane) more done old new) same appends)
    (sym is.end_b ∙ ap (end_of log.lanes) (sym here))
    (subst (λ (n : ℕ). Affects (lane_region sizes n) (file_length sizes) 4 old new) same run)
    honest timed stands

-- ---- whose log it is then

-- a lane with something more
with_more_ends : (lane : Lane) (more : Entries) → 1 ≤ length more → MayEnd (with_more lane more)
with_more_ends lane more some none = absurd (omega (arith, some, ap (λ (es : Entries). length es) none, length-append lane.entries more))

pub is_of_a : {T E : Type 0} (result : Result T E) (more : Entries) (old : LogState) (lane : ℕ) (table : Contents) (lanes : LanesState) → 1 ≤ length more
    → AreRoles old.lanes.roles → lane ≡ a_of old.lanes.roles
    → lanes ≡ (if is_ok result then moved old.lanes lane (cost more) else old.lanes) → OnOk result (end_of lanes lane ≡ end_of old.lanes lane + cost more)
    → AreAboveFloor true more old → table ≡ (if is_ok result then folded_into more old.a else old.a)
    → OnOk result ((tree : Tree) → IsLogOf tree old → IsLogOf (appended true more tree) (record { a = table; b = old.b; lanes = lanes }))
is_of_a (Ok value) more old lane table lanes some roles here lanes_are ended high table_is = λ tree is.
    let same : lanes.roles ≡ old.lanes.roles = ap (λ (l : LanesState). l.roles) lanes_are in
    let own : end_of lanes (a_of old.lanes.roles) ≡ end_of_a old + cost more =
    subst (λ (n : ℕ). end_of lanes n ≡ end_of old.lanes n + cost more) here ended in
    let other : end_of lanes (b_of old.lanes.roles) ≡ end_of_b old =
    ap (λ (l : LanesState). end_of l (b_of old.lanes.roles)) lanes_are
    ∙ get_or-set_other old.lanes.ends lane (b_of old.lanes.roles) (end_of old.lanes lane + cost more) 0 (λ is_lane. roles.a_not_b (sym (is_lane ∙ here))) in
    record {
      roles = same ∙ is.roles;
      end_a = ap (λ (l : List ℕ). end_of lanes (a_of l)) same ∙ own ∙ ap (λ n. n + cost more) is.end_a;
      end_b = ap (λ (l : List ℕ). end_of lanes (b_of l)) same ∙ other ∙ is.end_b;
      may_a = with_more_ends tree.lane_a more some;
      may_b = is.may_b;
      a = subst (λ (t : Contents). IsRestOf (replayed (appended true more tree).lane_a.entries) t) (sym table_is)
          (subst (λ (es : Entries). IsRestOf es (folded_into more old.a)) (sym (ap (λ (l : Lists). l.a) (lists_appended_a more tree)))
          (rest_grown_all more (replayed tree.lane_a.entries) old.a is.a high));
      b = is.b;
    }
is_of_a (Err error) more old lane table lanes some roles here lanes_are ended high table_is = tt

pub is_of_b : {T E : Type 0} (result : Result T E) (more : Entries) (old : LogState) (lane : ℕ) (table : Contents) (lanes : LanesState) → 1 ≤ length more
    → AreRoles old.lanes.roles → lane ≡ b_of old.lanes.roles
    → lanes ≡ (if is_ok result then moved old.lanes lane (cost more) else old.lanes) → OnOk result (end_of lanes lane ≡ end_of old.lanes lane + cost more)
    → table ≡ (if is_ok result then folded_into more old.b else old.b)
    → OnOk result ((tree : Tree) → IsLogOf tree old → IsLogOf (appended false more tree) (record { a = old.a; b = table; lanes = lanes }))
is_of_b (Ok value) more old lane table lanes some roles here lanes_are ended table_is = λ tree is.
    let same : lanes.roles ≡ old.lanes.roles = ap (λ (l : LanesState). l.roles) lanes_are in
    let own : end_of lanes (b_of old.lanes.roles) ≡ end_of_b old + cost more =
    subst (λ (n : ℕ). end_of lanes n ≡ end_of old.lanes n + cost more) here ended in
    let other : end_of lanes (a_of old.lanes.roles) ≡ end_of_a old =
    ap (λ (l : LanesState). end_of l (a_of old.lanes.roles)) lanes_are
    ∙ get_or-set_other old.lanes.ends lane (a_of old.lanes.roles) (end_of old.lanes lane + cost more) 0 (λ is_lane. roles.a_not_b (is_lane ∙ here)) in
    record {
      roles = same ∙ is.roles;
      end_a = ap (λ (l : List ℕ). end_of lanes (a_of l)) same ∙ other ∙ is.end_a;
      end_b = ap (λ (l : List ℕ). end_of lanes (b_of l)) same ∙ own ∙ ap (λ n. n + cost more) is.end_b;
      may_a = is.may_a;
      may_b = with_more_ends tree.lane_b more some;
      a = is.a;
      b = ap (λ (t : Contents). t.entries) table_is ∙ ap (with_records more) is.b ∙ sym (ap (λ (l : Lists). l.b) (lists_appended_b more tree));
    }
is_of_b (Err error) more old lane table lanes some roles here lanes_are ended table_is = tt
