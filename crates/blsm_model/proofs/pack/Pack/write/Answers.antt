use Rattle.std.proofs.Common.{◌<◌, length, ap, ◌∙◌, List, arith}
use Rattle.blsm_model.specs.declared.op.Write.{Write}
use Rattle.blsm_model.proofs.PackLemmas.{length_writes, head_there, write_read}
use Rattle.blsm_model.proofs.pack.Pack.write.Goals as goal
use Rattle.blsm_model.proofs.pack.Pack.write.Goals.{After-as_slice}

within : (c : After-as_slice) → c.args.place < length c.self.inside.heads.items
within c = omega (arith, ap (λ (l : List Write). length l) c.self.view_is, length_writes c.self.inside.heads.items c.self.inside.bytes.items)

pub bytes_before-at-requires-clause-inside : goal.bytes_before-at-requires-clause-inside
bytes_before-at-requires-clause-inside c =
    omega (arith, ap length c.as_slice.ensures.value, within (goal.at.bytes_before-at-requires-clause-inside c).After-as_slice)

pub offset_bounds-as_slice-place : goal.offset_bounds-as_slice-place
offset_bounds-as_slice-place c = omega (arith, c.self.invariant.few, within (goal.at.offset_bounds-as_slice-place c).After-as_slice)

pub bounds-as_slice-place : goal.bounds-as_slice-place
bounds-as_slice-place c = omega (arith, ap length c.as_slice-2.ensures.value, within (goal.at.bounds-as_slice-place c).After-as_slice)

pub write_of-requires-clause-head : goal.write_of-requires-clause-head
write_of-requires-clause-head c =
    rw c.as_slice-2.ensures.value
    (head_there c.self.inside.heads.items c.self.inside.bytes.items c.self.invariant c.args.place _
    (within (goal.at.write_of-requires-clause-head c).After-as_slice))

pub returns : goal.returns
returns c =
    c.write_of.ensures
    ∙ rw (c.as_slice-2.ensures.value, c.as_slice-3.ensures.value, c.bytes_before-at.ensures, c.as_slice.ensures.value, ← c.self.view_is)
    (write_read c.self.inside.heads.items c.self.inside.bytes.items c.args.place _ _ (within (goal.at.returns c).After-as_slice))
