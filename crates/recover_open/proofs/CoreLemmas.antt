-- A core over what was settled.
use Rattle.std.proofs.lemmas.Bool.Decides.{nat_tests}
use Rattle.std.proofs.lemmas.Grind.{common_steps}
use Rattle.std.specs.Prelude.{◌≡◌, ℕ, ◌+◌, ◌≤◌, IsTrue, List, sum}
use Rattle.std.proofs.Common.{◌∙◌, refl, ap, sym, subst, inl, arith}
use Rattle.blsm_model.specs.Book.{Book}
use Rattle.blsm_model.specs.Format.{most_entries}
use Rattle.blsm_model.specs.Sizes.{Sizes}
use Rattle.blsm_model.specs.declared.key.Key.{Key}
use Rattle.blsm_model.specs.declared.room.Room.{Room}
use Rattle.blsm_model.specs.declared.row.Value.{Value}
use Rattle.gated_log.specs.Lane.{no_lane}
use Rattle.catalog_swap.specs.declared.catalog.Catalog.{Catalog}
use Rattle.core_lists.specs.Standing.{catalogue_of}
use Rattle.core_moves.specs.declared.held.Held.{Held}
use Rattle.core_moves.specs.Held.{charge_in}
use Rattle.core_pace.specs.Opening.{IsOpened}
use Rattle.disk_trait.specs.Disk.{DiskState}
use Rattle.disk_trait.specs.Moments.{IsTimed}
use Rattle.disk_trait.proofs.MomentLemmas.{leaves_only_start, once_synced_start}
use Rattle.page_file.specs.Component.{entries_of}
use Rattle.tree_core.specs.Core.{CoreState}
use Rattle.tree_core.specs.Holds.{StandsWhole}
use Rattle.tree_core.specs.Parts.{AreSettled}
use Rattle.tree_file.specs.Tree.{Tree, HoldsTree, ReadsAsMap, map_of_tree}
use Rattle.tree_log.specs.Log.{LogState}
use Rattle.tree_machine.specs.Machine.{opened}
use Rattle.tree_reading.specs.Damage.{most_version}
use Rattle.tree_runs.specs.Holding.{StandOver}
use Rattle.tree_runs.specs.Runs.{RunsState}
use Rattle.tree_settling.specs.Settling.{components_of}
use Rattle.recover_open.specs.Opening.{HasOpenedOn, IsReady, KeepsMapOf, OpensAs, no_entries}

ready_settled : (runs : RunsState) (log : LogState) (room : Room) (d : DiskState) (sizes : Sizes) (version : ℕ) → version ≤ most_version → IsReady sizes version runs log d → sum room.entries ≤ most_entries
    → AreSettled runs log (no_entries room) d
ready_settled runs log room d sizes version few ready entries =
    let may = ready.may in
    let settled = ready.settled in
    record {
      pass = settled.pass;
      deep = settled.deep;
      running = may.running;
      long = may.long;
      components = record { geometry = may.running.in_order.geometry; mark = may.begun.mark; full = omega (arith, may.begun.full) };
      version = omega (arith, few, ready.commits);
      roles = may.begun.roles;
      lanes = may.begun.sizes;
      lane_roles = may.begun.log_of.roles ∙ ap (λ (c : Catalog). c.lanes) may.begun.lanes_are;
      a = settled.a;
      whole_a = may.begun.whole_a;
      b = settled.b;
      end_a = settled.end_a;
      end_b = settled.end_b;
      reserved_a = may.begun.reserved_a;
      reserved_b = may.begun.reserved_b;
      entries = refl;
      quanta = refl;
      room = entries;
    }

pub are_settled : (runs : RunsState) (log : LogState) (annals : Book) (room : Room) (d : DiskState) (sizes : Sizes) (version : ℕ) → version ≤ most_version → IsReady sizes version runs log d
    → sum room.entries ≤ most_entries → annals ≡ no_entries room → AreSettled runs log annals d
are_settled runs log annals room d sizes version few ready entries is =
    subst (λ (b : Book). AreSettled runs log b d) (sym is) (ready_settled runs log room d sizes version few ready entries)

-- what the core of these parts tells of each tree
abbrev pub AssemblesOver : {D : Type 0} → (D → DiskState) → RunsState → Book → CoreState D → DiskState → Type 0
AssemblesOver state runs annals core d = (tree : Tree) → IsTrue d.is_honest → StandOver runs tree d → tree.lane_a ≡ no_lane → tree.lane_b ≡ no_lane
    → StandsWhole state (map_of_tree tree) core
    (opened runs.sizes (entries_of tree.c1) (entries_of tree.c2) (catalogue_of runs.catalogue) d.faults annals.room)

pub opens_as : {D : Type 0} (state : D → DiskState) (room : Room) (runs : RunsState) (annals : Book) (core : CoreState D) (file : List ℕ) (disk : D) → core.disk ≡ disk → IsTrue (state disk).is_honest
    → HasOpenedOn runs file (state disk) → annals ≡ no_entries room → core.held.runs ≡ runs
    → charge_in core.held ≡ core.held.runs.catalogue.c1.weight + core.held.runs.catalogue.c2.weight → AssemblesOver state runs annals core (state disk) → OpensAs state room core file
opens_as {D} state room runs annals core file disk of_disk honest on is same charge assembles =
    let s = on.stands in
    let pairs = map_of_tree on.image in
    let t = s.tree in
    let stands = assembles t honest s.over s.lane_a s.lane_b in
    let stands' = subst (λ (b : Book). StandsWhole state (map_of_tree t) core (opened runs.sizes (entries_of t.c1) (entries_of t.c2) (catalogue_of runs.catalogue) (state disk).faults b.room)) is stands in
    let stands'' = subst (λ (l : List (Key × Value)). StandsWhole state l core (opened runs.sizes (entries_of t.c1) (entries_of t.c2) (catalogue_of runs.catalogue) (state disk).faults room)) s.map_is stands' in
    record {
      pairs = pairs;
      reads = subst (λ (r : RunsState). ReadsAsMap r.sizes pairs file) (sym same) (record { tree = on.image; holds = on.holds; fits = on.fits; map_is = refl });
      image = on.image;
      holds = subst (λ (r : RunsState). HoldsTree r.sizes on.image file) (sym same) on.holds;
      taken = on.taken;
      light = omega (arith, charge, s.light, ap (λ (r : RunsState). components_of r.catalogue) same);
      tree = t;
      stands = subst (λ (r : RunsState). StandsWhole state pairs core (opened r.sizes (entries_of t.c1) (entries_of t.c2) (catalogue_of r.catalogue) (state core.disk).faults room)) (sym same)
          (subst (λ (d : D). StandsWhole state pairs core (opened runs.sizes (entries_of t.c1) (entries_of t.c2) (catalogue_of runs.catalogue) (state d).faults room)) (sym of_disk) stands'');
    }

pub keeps_start : (d : DiskState) (sizes : Sizes) (pairs : List (Key × Value)) → IsTimed d → ReadsAsMap sizes pairs d.bytes → KeepsMapOf sizes pairs d d
keeps_start d sizes pairs timed reads = record {
  each = leaves_only_start d _ timed (λ c left. inl left);
  once_synced = once_synced_start d _ timed;
  reads = reads;
}

-- the charge of a core that was just opened
pub charge_opened : (annals : Book) (faults : ℕ) (held : Held) → IsOpened annals faults held → charge_in held ≡ held.runs.catalogue.c1.weight + held.runs.catalogue.c2.weight
charge_opened annals faults held h1 = grind (arith, common_steps, nat_tests)
