-- How many quanta an opening settles by, and how many at most. Weights are in bytes.
use Rattle.std.specs.Prelude.{◌≡◌, ℕ, ◌+◌, ◌*◌, ◌/◌, ◌≤◌, None, IsTrue}
use Rattle.disk_trait.specs.Disk.{DiskState}
use Rattle.blsm_model.specs.Components.{empty_component}
use Rattle.blsm_model.specs.Sizes.{Sizes}
use Rattle.gated_log.specs.Lane.{no_lane}
use Rattle.catalog_swap.specs.declared.catalog.Catalog.{Catalog}
use Rattle.core_moves.specs.declared.held.Settled.{Settled}
use Rattle.record_delta.specs.Entries.{entries_weight, replayed}
use Rattle.tree_file.specs.Tree.{Tree, HoldsTree}
use Rattle.tree_reading.specs.Reading.{IsHead}
use Rattle.tree_settling.specs.Counting.{most_taken, passes_due, quanta_bound, untaken, where_some}
use Rattle.tree_settling.specs.Settling.{components_of}
use Rattle.recover_open.specs.Opening.{HasLengthOf, TakesFew}

-- How much settling takes at most of these components, and of lanes that fold to so much: where C1' isn't empty, C1' and C2 but for what is named as
-- taken of them; and the passes.
abbrev pub opening_due : Sizes → Catalog → (a b : ℕ) → ℕ
opening_due sizes catalogue a b =
    where_some catalogue.c1x.weight (untaken catalogue) + passes_due sizes catalogue.c1.weight a b (components_of catalogue + (a + b))

-- And at least, where so much is left for the deep merge: that, C1 and lane A where either lane has a record, and lane B.
abbrev pub opening_least : Catalog → (left a b : ℕ) → ℕ
opening_least catalogue left a b = left + where_some (a + b) (catalogue.c1.weight + a) + b

-- So much is left for the deep merge where C1' isn't empty: no more than C1' and C2 but for what is named as taken of them, and all of them where
-- nothing is named.
pub record IsLeft (catalogue : Catalog) (left : ℕ) : Type 0 where
  pub within : left ≤ where_some catalogue.c1x.weight (untaken catalogue)
  pub all : catalogue.progress ≡ None → left ≡ where_some catalogue.c1x.weight (catalogue.c1x.weight + catalogue.c2.weight)

-- What settling these components and lanes counted, which led to this catalogue: the quanta, and the most that they may be. Each quantum lets the
-- components weigh more by what one takes at most, and together they took all that there was at least. Where both lanes are empty nothing but the deep
-- merge takes any.
pub record SettlesWithin (sizes : Sizes) (catalogue : Catalog) (a b : ℕ) (new : Catalog) (settled : Settled) : Type 0 where
  pub version : settled.version ≡ new.version
  pub bound : settled.bound ≡ quanta_bound sizes (opening_due sizes catalogue a b)
  pub few : settled.quanta ≤ settled.bound
  pub left : ℕ
  pub left_is : IsLeft catalogue left
  pub much : opening_least catalogue left a b ≤ most_taken sizes * settled.quanta
  pub none : opening_due sizes catalogue a b ≡ 0 → settled.quanta ≡ 0
  pub grows : components_of new ≤ components_of catalogue + most_taken sizes * settled.quanta
  pub one : a ≡ 0 → b ≡ 0 → settled.quanta ≤ untaken catalogue / sizes.quantum + 1

-- What an opening of a store of these sizes counts, which led to this catalogue: it found a valid one, and lanes that fold to so much. C1' is empty
-- now. On an honest disk what it found is what the file holds, and now the disk reads as a file that holds the next catalogue and empty lanes.
pub record CountsSettling (sizes : Sizes) (next : Catalog) (settled : Settled) (old new : DiskState) : Type 0 where
  pub catalogue : Catalog
  pub head : IsHead sizes catalogue
  pub a : ℕ
  pub b : ℕ
  pub counts : SettlesWithin sizes catalogue a b next settled
  pub empty : next.c1x ≡ empty_component
  pub reads : IsTrue old.is_honest
      → (image : Tree) × HoldsTree sizes image old.bytes × (image.catalogue ≡ catalogue) × (entries_weight (replayed image.lane_a.entries) ≡ a)
      × (entries_weight (replayed image.lane_b.entries) ≡ b)
  pub now : IsTrue old.is_honest
      → (tree : Tree) × HoldsTree sizes tree new.bytes × (tree.catalogue ≡ next) × (tree.lane_a ≡ no_lane) × (tree.lane_b ≡ no_lane)

-- What is told of an opening whose core is gone: it counted so, for sizes of which the file's length is, by no more calls than what it read takes.
pub record ToldSettling (settled : Settled) (old new : DiskState) : Type 0 where
  pub sizes : Sizes
  pub long : HasLengthOf sizes old
  pub next : Catalog
  pub counts : CountsSettling sizes next settled old new
  pub takes : TakesFew sizes old new
