use Rattle.std.proofs.Common.{arith}
use Rattle.disk_mem.proofs.CallLemmas.{length-events}
use Rattle.disk_mem.proofs.recorder.Recorder.number.Goals as goal

pub returns : goal.returns
returns c = let d = c.args.self.now in omega (arith, length-events d.calls.items d.written.items)
