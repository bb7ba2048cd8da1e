-- Trees whose lists say the same of each key show one map.
use Rattle.std.specs.Prelude.{◌≡◌, [], None, refl}
use Rattle.std.specs.FinMap.{find}
use Rattle.blsm_model.specs.declared.key.Key.{Key}
use Rattle.blsm_model.specs.Keys.{key_cmp}
use Rattle.record_delta.specs.Records.{settled}
use Rattle.record_delta.specs.Entries.{Entries, AreSorted, record_of_key}
use Rattle.tree_machine.specs.Lists.{Lists, settled_pairs}
use Rattle.tree_machine.specs.Machine.{Merges}
use Rattle.tree_machine.specs.Layers.{AreLayered}
use Rattle.tree_machine.proofs.MapLemmas.{find-map_in}

-- a list by itself, as C2 of a tree that has nothing else
alone : Entries → Lists
alone es = record { b = []; a = []; c1 = []; c1x = []; c2 = es }

no_merges : Merges
no_merges = record { pass = None; deep = None }

alone_layered : (es : Entries) → AreSorted es → AreLayered (alone es) no_merges
unfolding alone no_merges
alone_layered es sorted = record { sorted_b = refl; sorted_a = refl; sorted_c1 = refl; sorted_c1x = refl; sorted_c2 = sorted; pass = refl; deep = refl }

find-pairs : (es : Entries) → AreSorted es → (key : Key) → find key_cmp key (settled_pairs es) ≡ settled (record_of_key key es)
unfolding alone no_merges
find-pairs es sorted key = find-map_in (alone es) no_merges (alone_layered es sorted) key

-- ---- the swaps, over lists alone
