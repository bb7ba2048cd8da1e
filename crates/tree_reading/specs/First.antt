-- Which refusals the file itself causes.
use Rattle.std.specs.Prelude.{⊤}
use Rattle.tree_reading.specs.declared.found.Unreadable.{Unreadable}
use Rattle.tree_reading.specs.declared.found.Unreadable.TheVariants.{NotAStore, Damaged, Worn, Fault, NoMemory}

-- the file causes it, and no fault or want of memory
abbrev pub IsOfFile : Unreadable → Type 0
IsOfFile NotAStore = ⊤
IsOfFile (Damaged place) = ⊤
IsOfFile (Worn version) = ⊤
IsOfFile Fault = ⊥
IsOfFile NoMemory = ⊥
