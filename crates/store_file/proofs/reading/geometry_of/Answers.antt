use Rattle.std.proofs.Common.{◌≡◌, ◌∙◌, sym, ap, subst}
use Rattle.std.proofs.lemmas.Slice.Eq.{bytes_eq-Decides}
use Rattle.blsm_model.specs.Sizes.{Sizes, IsGeometry}
use Rattle.gated_write.specs.Gated.{open_byte}
use Rattle.store_file.specs.Layout.{superblock}
use Rattle.store_file.proofs.LayoutLemmas.{sizes_in, sizes_read, no_fault}
use Rattle.store_file.proofs.reading.geometry_of.Goals as goal

pub returns-in_default-clause-none : goal.returns-in_default-clause-none
returns-in_default-clause-none c = λ sizes geometry same.
    let found : Sizes = record { half = c.number_at-half.result; ratio = c.number_at-ratio.result; low = c.number_at-low.result; quantum = c.number_at-quantum.result } in
    let numbers : found ≡ sizes_in c.args.block.now =
    λ i. record { half = c.number_at-half.ensures i; ratio = c.number_at-ratio.ensures i; low = c.number_at-low.ensures i; quantum = c.number_at-quantum.ensures i } in
    no_fault found c.in_default.field-0 (subst IsGeometry (sym (numbers ∙ sizes_read c.args.block.now sizes geometry same)) geometry) c.in_default.ensures.err

pub returns-else-eq-clause-none : goal.returns-else-eq-clause-none
returns-else-eq-clause-none c = λ sizes geometry same.
    let numbers : c.in-Ok.geometry ≡ sizes_in c.args.block.now =
    c.in-Ok.ensures.ok ∙ (λ i. record { half = c.number_at-half.ensures i; ratio = c.number_at-ratio.ensures i; low = c.number_at-low.ensures i; quantum = c.number_at-quantum.ensures i }) in
    let whole : c.superblock.result ≡ c.args.block.now =
    c.superblock.ensures ∙ ap (superblock open_byte) (numbers ∙ sizes_read c.args.block.now sizes geometry same) ∙ sym same in
    let is = (bytes_eq-Decides c.args.block.now c.superblock.result).1 (sym whole) in
    cc
