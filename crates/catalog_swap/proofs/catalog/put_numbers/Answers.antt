use Rattle.std.proofs.Common.{◌≡◌, [], length, arith}
use Rattle.catalog_swap.proofs.TextLemmas.{numbers_written}
use Rattle.catalog_swap.proofs.catalog.put_numbers.Goals as goal

pub returns : goal.returns
returns c =
    let three : length c.args.catalog.now.lanes ≡ 3 = omega arith in
    numbers_written c.args.catalog.now [] _ _ _ _ _ _ _ _ _ three
    c.to_be_bytes.ensures c.component_text.ensures c.component_text-2.ensures c.component_text-3.ensures
    c.put.ensures c.put-2.ensures c.put-3.ensures c.put-4.ensures c.put-5.ensures
