use Rattle.std.proofs.Common.{◌∙◌, ap, sym, arith, w32}
use Rattle.std.specs.Int.{from_be_bytes}
use Rattle.std.proofs.lemmas.Nat.{from_be_bytes-to_be_bytes_4}
use Rattle.store_file.proofs.reading.number_at.Goals as goal

pub returns : goal.returns
returns c = c.from.ensures ∙ sym (from_be_bytes-to_be_bytes_4 c.u32_at.result (omega (arith, c.u32_at.type_inv))) ∙ ap (from_be_bytes w32) (sym c.u32_at.ensures)
