use Rattle.std.proofs.Common.{◌+◌, ◌^◌, ◌≤◌, ap, arith}
use Rattle.std.specs.Prelude.{is_some}
use Rattle.mem_table.specs.Tables.{Contents}
use Rattle.record_delta.specs.Entries.{entries_weight}
use Rattle.tree_settling.specs.Counting.{untaken}
use Rattle.tree_settling.specs.Settling.{components_of}
use Rattle.tree_settling.proofs.CountLemmas.{capacity_small, passes_small, where_less}
use Rattle.tree_settling.proofs.settling.most_quanta.Goals as goal

pub overflow_add-passes : goal.overflow_add-passes
overflow_add-passes c =
    let now = c.catalogue-now.result.now in
    let a = c.weight_of_a-a.result in
    let b = c.weight-b.result in
    let all = now.c1.weight + now.c1x.weight + now.c2.weight + (a + b) in
    let small : all ≤ 2 ^ 33 =
    omega (
      arith,
      ap components_of c.catalogue-now.ensures,
      c.weight_of_a-a.ensures.weight,
      c.weight-b.ensures.weight,
      ap
          (λ (t : Contents). entries_weight t.entries) c.b.ensures,
      c.requires.begun.full,
      capacity_small c.args.runs.now.sizes c.requires.geometry,
    ) in
    omega (arith, passes_small c.geometry-sizes.result now.c1.weight a b all (omega arith) small, c.due_by_pass.ensures, c.due_by_pass-2.ensures)

pub overflow_add-result : goal.overflow_add-result
overflow_add-result c =
    let now = c.catalogue-now.result.now in
    let a = c.weight_of_a-a.result in
    let b = c.weight-b.result in
    let all = now.c1.weight + now.c1x.weight + now.c2.weight + (a + b) in
    let small : all ≤ 2 ^ 33 =
    omega (
      arith,
      ap components_of c.catalogue-now.ensures,
      c.weight_of_a-a.ensures.weight,
      c.weight-b.ensures.weight,
      ap
          (λ (t : Contents). entries_weight t.entries) c.b.ensures,
      c.requires.begun.full,
      capacity_small c.args.runs.now.sizes c.requires.geometry,
    ) in
    omega (
      arith,
      passes_small c.geometry-sizes.result now.c1.weight a b all (omega arith) small,
      where_less (is_some c.args.runs.now.deep) (untaken now),
      small,
      c.due_by_pass.ensures,
      c.due_by_pass-2.ensures,
      c.due_by_deep.ensures,
    )
