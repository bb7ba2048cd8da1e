-- What the finished pages of a deep merge hold. Weights are in bytes.
use Rattle.std.specs.Prelude.{◌≡◌, ◌+◌, ℕ, List, Option, Some}
use Rattle.blsm_model.specs.declared.key.Key.{Key}
use Rattle.blsm_model.specs.Sizes.{Sizes}
use Rattle.record_delta.specs.Entries.{Entries, entries_weight, folded_over, settled_entries, up_to}
use Rattle.page_file.specs.Component.{RunPage, ReadsOn, entries_of}
use Rattle.catalog_swap.specs.declared.catalog.Progress.{Progress}

-- both lists folded key by key, and settled
abbrev pub settled_fold : Entries → Entries → Entries
settled_fold newer older = settled_entries (folded_over newer older)

-- the same of what both have up to a key
abbrev pub settled_up_to : Option Key → Entries → Entries → Entries
settled_up_to at newer older = settled_fold (up_to at newer) (up_to at older)

-- how much both weigh up to a key, also of what settles to nothing
abbrev pub weight_up_to : Option Key → Entries → Entries → ℕ
weight_up_to at newer older = entries_weight (up_to at newer) + entries_weight (up_to at older)

-- In this file the finished pages are these: the last one names the next page of the run. They have what both lists have up to the key, folded
-- and settled; and that isn't all of both, so an entry comes on the next page.
pub record IsOutputOf (sizes : Sizes) (progress : Progress) (newer older : Entries) (pages : List RunPage) (file : List ℕ) : Type 0 where
  pub reads : ReadsOn sizes progress.output pages (Some progress.next) file
  pub entries_are : entries_of pages ≡ settled_up_to (Some progress.key) newer older
  pub z_is : progress.z ≡ weight_up_to (Some progress.key) newer older
  pub more : entries_of pages ≡ settled_fold newer older → ⊥
