-- The records of the lists are within the format's lengths, so none weighs more than the heaviest entry.
use Rattle.std.proofs.Common.{ℕ, ◌-◌, ◌≤◌, List, [], ◌∷◌, ◌++◌, arith}
use Rattle.std.proofs.lemmas.Grind.{common_steps}
use Rattle.std.proofs.lemmas.Bool.Decides.{nat_tests}
use Rattle.std.specs.List.{AllByRecursion}
use Rattle.std.specs.FinMap.{put}
use Rattle.blsm_model.specs.Format.{most_weight}
use Rattle.blsm_model.specs.declared.key.Key.{Key}
use Rattle.blsm_model.specs.declared.op.Write.{Write}
use Rattle.blsm_model.specs.Keys.{key_cmp}
use Rattle.blsm_model.specs.Values.{key_of, weight_of}
use Rattle.record_delta.specs.declared.record.Rec.{Rec}
use Rattle.record_delta.specs.Records.{record_of, weight, settle, IsWithin}
use Rattle.record_delta.specs.Folding.{over}
use Rattle.record_delta.proofs.FoldingLemmas.{within_is_light}
use Rattle.record_delta.specs.Entries.{Entries, folded_over, record_of_key, settled_base, settled_entries, with_record}
use Rattle.record_delta.specs.Several.{entries_of, with_records}
use Rattle.tree_machine.specs.Lists.{Lists}
use Rattle.tree_machine.specs.Merges.{Merge, until, quantum_of}
use Rattle.tree_machine.specs.Machine.{Merges}
use Rattle.tree_machine.specs.Moves.{with_writes}
use Rattle.tree_machine.specs.Layers.{AreLight, AllLight}
use Rattle.tree_machine.specs.Stands.{FitsFormat}
use Rattle.tree_machine.proofs.QuantumLemmas.{all_ahead}
use Rattle.tree_machine.proofs.WeightLemmas.{weight_of_record}

-- ---- what weights follow

pub light_weighs : (es : Entries) → AreLight es → AllByRecursion (λ e. weight e.0 e.1 ≤ most_weight) es
light_weighs [] light = tt
light_weighs (e ∷ es) light = (within_is_light e.0 e.1 light.0, light_weighs es light.1)

pub write_is_light : (write : Write) → FitsFormat write → weight_of write ≤ most_weight
write_is_light write fits = omega (arith, within_is_light (key_of write) (record_of write) fits.within, weight_of_record write)

-- ---- lists that are made of others

light_put : (key : Key) (rec : Rec) (es : Entries) → IsWithin key rec → AreLight es → AreLight (put key_cmp key rec es)
light_put key rec [] here light = (here, tt)
light_put key rec (e ∷ es) here light = grind (arith, common_steps, nat_tests, light_put key rec es here light.1)

-- a record over the one that the list has of its key, if it has one
light_over : (key : Key) (rec : Rec) (es : Entries) → IsWithin key rec → AreLight es → IsWithin key (over rec (record_of_key key es))
light_over key rec [] here light = here
light_over key rec (e ∷ es) here light = grind (arith, common_steps, nat_tests, light_over key rec es here light.1)

pub light_with : (key : Key) (rec : Rec) (es : Entries) → IsWithin key rec → AreLight es → AreLight (with_record key rec es)
light_with key rec es here light = light_put key (over rec (record_of_key key es)) es (light_over key rec es here light) light

light_folded : (newer older : Entries) → AreLight newer → AreLight older → AreLight (folded_over newer older)
light_folded [] older new old = old
light_folded (e ∷ newer) older new old = light_with e.0 e.1 (folded_over newer older) new.0 (light_folded newer older new.1 old)

light_until : (weigh : Key → ℕ) (wanted : ℕ) (es : Entries) → AreLight es → AreLight (until wanted weigh es)
light_until weigh wanted [] light = tt
light_until weigh wanted (e ∷ es) light = grind (arith, common_steps, nat_tests, light_until weigh (wanted - weigh e.0) es light.1)

pub light_append : (xs ys : Entries) → AreLight xs → AreLight ys → AreLight (xs ++ ys)
light_append [] ys p q = q
light_append (x ∷ xs) ys p q = (p.0, light_append xs ys p.1 q)

light_base : (key : Key) (rec : Rec) (es : Entries) → IsWithin key rec → AreLight es → AreLight (settled_base key (settle rec) es)
light_base key rec es h1 h2 = grind (arith, common_steps, nat_tests)

pub light_settled : (es : Entries) → AreLight es → AreLight (settled_entries es)
light_settled [] light = tt
light_settled (e ∷ es) light = light_base e.0 e.1 (settled_entries es) light.0 (light_settled es light.1)

pub light_groups : (quantum : ℕ) (merge : Merge) (newer older : Entries) → AreLight newer → AreLight older → AreLight (quantum_of quantum merge newer older).groups
light_groups quantum merge newer older new old = grind (arith, common_steps, nat_tests, light_until, light_folded, all_ahead)

pub light_with_all : (more es : Entries) → AreLight more → AreLight es → AreLight (with_records more es)
light_with_all [] es here light = light
light_with_all (e ∷ more) es here light = light_with_all more (with_record e.0 e.1 es) here.1 (light_with e.0 e.1 es here.0 light)

pub light_entries : (writes : List Write) → AllByRecursion FitsFormat writes → AreLight (entries_of writes)
light_entries [] fit = tt
light_entries (w ∷ ws) fit = (fit.0.within, light_entries ws fit.1)

pub light_writes : (more : Entries) (lists : Lists) (merges : Merges) → AreLight more → AllLight lists merges → AllLight (with_writes merges.pass more lists) merges
light_writes more lists merges here light = grind (arith, common_steps, nat_tests, light_with_all)
