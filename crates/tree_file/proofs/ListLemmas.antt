-- The lists of a tree that a file holds.
use Rattle.std.specs.Prelude.{◌≡◌, ◌++◌, ℕ, List, [], ◌∷◌, Option, None, fold, refl}
use Rattle.std.proofs.Common.{ap, subst}
use Rattle.std.proofs.lemmas.List.Elements.{All-head, All-tail}
use Rattle.std.proofs.lemmas.List.Sums.{fold-append}
use Rattle.blsm_model.specs.Sizes.{Sizes}
use Rattle.blsm_model.specs.declared.key.Key.{Key}
use Rattle.record_delta.specs.declared.record.Rec.{Rec}
use Rattle.record_delta.specs.Records.{IsWithin}
use Rattle.record_delta.specs.Entries.{Entries, AreSorted, replayed, with_record}
use Rattle.record_delta.specs.Several.{with_records}
use Rattle.entry_codec.specs.Spelling.{IsEntry}
use Rattle.page_file.specs.Component.{RunPage, AreChained, ReadsAs, entries_of}
use Rattle.page_file.specs.Entry.{AreEntries}
use Rattle.page_file.proofs.OrderLemmas.{orders}
use Rattle.gated_log.specs.Lane.{Lane, entries_in, AreRecords, HasEntries}
use Rattle.gated_log.specs.Records.{AreSpelled, IsLaneRecord}
use Rattle.tree_machine.specs.Layers.{AreLight}
use Rattle.tree_machine.proofs.FoldLemmas.{sorted_with_record}
use Rattle.tree_machine.proofs.LightLemmas.{light_with, light_append}
use Rattle.tree_file.specs.Tree.{Tree, HoldsTree, lists_of}
use Rattle.tree_file.specs.Places.{appended_a, appended_b}

light_entry : (e : Key × Rec) → IsEntry e.0 e.1 → IsWithin e.0 e.1
light_entry e entry = record { key_most = entry.key_most; text_most = entry.in_range.text_fits }

light_entries : (es : Entries) → AreEntries es → AreLight es
light_entries [] each = tt
light_entries (e ∷ es) each = (light_entry e (All-head (λ x. IsEntry x.0 x.1) e es each), light_entries es (All-tail (λ x. IsEntry x.0 x.1) e es each))

-- ---- a lane

light_spelled : (es : Entries) → AreSpelled es → AreLight es
light_spelled [] each = tt
light_spelled (e ∷ es) each = (light_entry e each.0, light_spelled es each.1)

light_records : (records : List Entries) → AreRecords records → AreLight (entries_in records)
light_records [] each = tt
light_records (es ∷ records) each =
    light_append es (entries_in records) (light_spelled es (All-head IsLaneRecord es records each).each)
    (light_records records (All-tail IsLaneRecord es records each))

light_lane : {sizes : Sizes} {n : ℕ} {lane : Lane} {file : List ℕ} → HasEntries sizes n lane file → AreLight lane.entries
light_lane has = subst AreLight has.entries_are (light_records has.records has.has.each)

-- records of a lane, folded into a table
abbrev replay_on : Entries → Entries → Entries
replay_on table lane = fold (λ table e. with_record e.0 e.1 table) table lane

sorted_on : (table lane : Entries) → AreSorted table → AreSorted (replay_on table lane)
sorted_on table [] sorted = sorted
sorted_on table (e ∷ lane) sorted = sorted_on (with_record e.0 e.1 table) lane (sorted_with_record e.0 e.1 table sorted)

light_on : (table lane : Entries) → AreLight lane → AreLight table → AreLight (replay_on table lane)
light_on table [] lane_light light = light
light_on table (e ∷ lane) lane_light light = light_on (with_record e.0 e.1 table) lane lane_light.1 (light_with e.0 e.1 table lane_light.0 light)

pub sorted_replayed : (lane : Entries) → AreSorted (replayed lane)
sorted_replayed lane = sorted_on [] lane refl

light_replayed : (lane : Entries) → AreLight lane → AreLight (replayed lane)
light_replayed lane light = light_on [] lane light tt

-- So the entries that are appended to a lane join its table.
pub lists_appended_a : (more : Entries) (tree : Tree)
    → lists_of (appended_a more tree) ≡ record (lists_of tree) { a = with_records more (replayed tree.lane_a.entries) }
lists_appended_a more tree =
    ap (λ (table : Entries). record (lists_of tree) { a = table }) (fold-append (λ (table : Entries) (e : Key × Rec). with_record e.0 e.1 table) [] tree.lane_a.entries more)

pub lists_appended_b : (more : Entries) (tree : Tree)
    → lists_of (appended_b more tree) ≡ record (lists_of tree) { b = with_records more (replayed tree.lane_b.entries) }
lists_appended_b more tree =
    ap (λ (table : Entries). record (lists_of tree) { b = table }) (fold-append (λ (table : Entries) (e : Key × Rec). with_record e.0 e.1 table) [] tree.lane_b.entries more)

-- ---- a component

pub sorted_component : {sizes : Sizes} {component : _} {pages : List RunPage} {file : List ℕ} → ReadsAs sizes component pages file → AreSorted (entries_of pages)
sorted_component {sizes} {component} {pages} {file} reads = (orders (entries_of pages)).0 reads.rise

light_pages : (sizes : Sizes) (pages : List RunPage) (end : Option ℕ) (file : List ℕ) → AreChained sizes pages end file → AreLight (entries_of pages)
light_pages sizes [] end file chained = tt
light_pages sizes (p ∷ ps) end file chained = light_append p.entries (entries_of ps) (light_entries p.entries chained.1.content.each) (light_pages sizes ps end file chained.2)

-- ---- all five

pub lists_sorted : (sizes : Sizes) (tree : Tree) (file : List ℕ) → HoldsTree sizes tree file
    → AreSorted (lists_of tree).b × AreSorted (lists_of tree).a × AreSorted (lists_of tree).c1 × AreSorted (lists_of tree).c1x × AreSorted (lists_of tree).c2
lists_sorted sizes tree file holds = (
  sorted_replayed tree.lane_b.entries,
  sorted_replayed tree.lane_a.entries,
  sorted_component holds.c1,
  sorted_component holds.c1x,
  sorted_component holds.c2,
)

pub lists_light : (sizes : Sizes) (tree : Tree) (file : List ℕ) → HoldsTree sizes tree file
    → AreLight (lists_of tree).b × AreLight (lists_of tree).a × AreLight (lists_of tree).c1 × AreLight (lists_of tree).c1x × AreLight (lists_of tree).c2
lists_light sizes tree file holds = (
  light_replayed tree.lane_b.entries (light_lane holds.lane_b),
  light_replayed tree.lane_a.entries (light_lane holds.lane_a),
  light_pages sizes tree.c1 None file holds.c1.chained,
  light_pages sizes tree.c1x None file holds.c1x.chained,
  light_pages sizes tree.c2 None file holds.c2.chained,
)
