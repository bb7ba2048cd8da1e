-- Commands done alone from a state in which a work of the seat may be open: it takes the turns that are left of it.
use Rattle.std.proofs.Common.{ℕ, ◌-◌, List, [], ◌∷◌}
use Rattle.blsm_model.specs.declared.op.Op.{Op}
use Rattle.blsm_model.specs.declared.op.Op.TheVariants.{Work}
use Rattle.tree_machine.specs.Machine.{Machine, work_of}
use Rattle.tree_machine.specs.Steps.{work_end}
use Rattle.alone_run.specs.Alone.{done_alone, turned}

abbrev pub done_resumed : ℕ → Op → Machine → Machine
done_resumed seat (Work n) m = (work_end (turned (n - (work_of seat m).turns) seat m) seat n).state
done_resumed seat op m = done_alone seat op m

abbrev pub alone_resumed : ℕ → Machine → List Op → Machine
alone_resumed seat m [] = m
alone_resumed seat m (op ∷ ops) = alone_resumed seat (done_resumed seat op m) ops
