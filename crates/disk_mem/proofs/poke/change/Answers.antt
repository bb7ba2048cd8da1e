use Rattle.std.proofs.Common.{◌∙◌}
use Rattle.disk_mem.proofs.Patches.{changed_inside}
use Rattle.disk_mem.proofs.poke.change.Goals as goal

pub returns-then-place-bytes : goal.returns-then-place-bytes
returns-then-place-bytes c = c.put.ensures ∙ changed_inside c.args.bytes.now c.args.new.now c.args.at c.min-inside.result c.if-place-bytes.true c.min-inside.ensures
