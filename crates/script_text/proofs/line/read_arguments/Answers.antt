use Rattle.script_text.proofs.ReadLemmas.{reads_nothing, no_put, no_add, no_hold, no_new, no_next, no_swap, no_tail, no_work}
use Rattle.script_text.proofs.line.read_arguments.Goals as goal

pub returns-in_err-key-in-Put : goal.returns-in_err-key-in-Put
returns-in_err-key-in-Put c =
    rw c.in-Put.is (reads_nothing c.from_residual.ensures (no_put c.args.bytes.now c.in_err-key-in-Put.ensures))

pub returns-in_err-key-in-Add : goal.returns-in_err-key-in-Add
returns-in_err-key-in-Add c =
    rw c.in-Add.is (reads_nothing c.from_residual-in_err-key-in-Add.ensures (no_add c.args.bytes.now c.in_err-key-in-Add.ensures))

pub returns-in_err-key-in-Tail : goal.returns-in_err-key-in-Tail
returns-in_err-key-in-Tail c =
    rw c.in-Tail.is (reads_nothing c.from_residual-in_err-key-in-Tail.ensures (no_tail c.args.bytes.now c.in_err-key-in-Tail.ensures))

pub returns-in_err-key-in-New : goal.returns-in_err-key-in-New
returns-in_err-key-in-New c =
    rw c.in-New.is (reads_nothing c.from_residual-in_err-key-in-New.ensures (no_new c.args.bytes.now c.in_err-key-in-New.ensures))

pub returns-in_err-key-in-Swap : goal.returns-in_err-key-in-Swap
returns-in_err-key-in-Swap c =
    rw c.in-Swap.is (reads_nothing c.from_residual-in_err-key-in-Swap.ensures (no_swap c.args.bytes.now c.in_err-key-in-Swap.ensures))

pub returns-in_err-low-in-Hold : goal.returns-in_err-low-in-Hold
returns-in_err-low-in-Hold c =
    rw c.in-Hold.is (reads_nothing c.from_residual-in_err-low-in-Hold.ensures (no_hold c.args.bytes.now c.in_err-low-in-Hold.ensures))

pub returns-in_err-read_count-in-Next : goal.returns-in_err-read_count-in-Next
returns-in_err-read_count-in-Next c =
    rw c.in-Next.is (reads_nothing c.from_residual-in_err-read_count-in-Next.ensures (no_next c.args.bytes.now c.in_err-read_count-in-Next.ensures))

pub returns-in_err-read_count-in-Work : goal.returns-in_err-read_count-in-Work
returns-in_err-read_count-in-Work c =
    rw c.in-Work.is (reads_nothing c.from_residual-in_err-read_count-in-Work.ensures (no_work c.args.bytes.now c.in_err-read_count-in-Work.ensures))
