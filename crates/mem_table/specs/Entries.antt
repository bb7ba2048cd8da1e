-- The entries of a memory table, as what they stand for.
use Rattle.blsm_model.specs.declared.key.Key.{Key}
use Rattle.blsm_model.specs.declared.op.Write.{Write}
use Rattle.std.specs.Prelude.{List}
use Rattle.record_delta.specs.Entries.{Entries, record_of_key}
use Rattle.record_delta.specs.Folding.{StandsFor}

-- the entries stand for the writes: settled, each key has the value that they leave
abbrev pub StandFor : Entries → List Write → Type 0
StandFor entries writes = (key : Key) → StandsFor (record_of_key key entries) writes key
