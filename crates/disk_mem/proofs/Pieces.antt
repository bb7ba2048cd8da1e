-- A piece that is no longer than a write, put at its place, is one way in which the write is torn.
use Rattle.std.proofs.Common.{◌≡◌, ◌≤◌, List, ℕ, length, sym, subst, arith}
use Rattle.disk_trait.specs.Disk.{Torn, overwritten}
use Rattle.disk_trait.specs.Parts.{torn_overwritten}
use Rattle.disk_trait.proofs.PartLemmas.{torn_widen}

pub torn_by_piece : (at n : ℕ) (old new piece : List ℕ) → at ≤ length old → length piece ≤ n → new ≡ overwritten old at piece → Torn at n old new
torn_by_piece at n old new piece le short is =
    subst (λ (l : List ℕ). Torn at n old l) (sym is) (torn_widen at (length piece) at n old (overwritten old at piece) (torn_overwritten old at piece le) (omega arith) (omega (arith, short)))
