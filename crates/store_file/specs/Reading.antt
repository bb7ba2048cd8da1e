-- What is said of a disk that is read as a store.
use Rattle.std.specs.Prelude.{ℕ, List, Result, Ok, Err, ⊤}
use Rattle.blsm_model.specs.Sizes.{Sizes}
use Rattle.store_file.specs.declared.reading.StoreBroken.{StoreBroken}
use Rattle.store_file.specs.declared.reading.StoreBroken.TheVariants.{Fault, NotAStore}
use Rattle.store_file.specs.Layout.{IsStoreOf, IsStore}

-- What an answer says of the superblock and of the length: the file is a store of these sizes, or it is no store. After a fault nobody knows.
abbrev pub TellsGeometry : List ℕ → Result Sizes StoreBroken → Type 0
TellsGeometry file (Ok sizes) = IsStoreOf sizes file
TellsGeometry file (Err NotAStore) = ¬ (IsStore file)
TellsGeometry file (Err Fault) = ⊤
