-- The change that a poke stands for.
use Rattle.disk_mem.specs.Recorded.{Change}
use Rattle.disk_mem.specs.declared.poke.Poke.{Poke}

abbrev pub change_of : Poke → Change
change_of p = record { call = p.call; at = p.at; bytes = p.bytes.items }
