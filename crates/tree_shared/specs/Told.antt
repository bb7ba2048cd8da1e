-- What a command was answered, and the reply that its entry has.
use Rattle.std.specs.Prelude.{◌≡◌, List, Option, length}
use Rattle.blsm_model.specs.Stored.{as_reply}
use Rattle.blsm_model.specs.declared.history.Reply.{Reply}
use Rattle.blsm_model.specs.declared.history.Reply.TheVariants.{Kept, Rows}
use Rattle.blsm_model.specs.declared.op.Op.{Op}
use Rattle.blsm_model.specs.declared.row.Row.{Row}
use Rattle.blsm_model.specs.declared.row.Value.{Value}
use Rattle.disk_trait.specs.Disk.{DiskState}
use Rattle.turn_lock.specs.Callers.{Held}
use Rattle.tree_core.specs.Core.{CoreState}
use Rattle.tree_shared.specs.Seats.{Answered}
use Rattle.tree_shared.specs.declared.told.Told.{Told}
use Rattle.tree_shared.specs.declared.told.Told.TheVariants as told

-- it is this reply, or tells how many rows the reply gives, or that the condition doesn't hold
abbrev pub Tells : Told → Reply → Type 0
Tells (told.Short short) reply = reply ≡ as_reply short
Tells told.Kept reply = (found : Option Value) × (reply ≡ Kept found)
Tells (told.Rows count) reply = (rows : List Row) × (reply ≡ Rows rows) × (count ≡ length rows)

-- the caller's command is done, with the reply that is told
abbrev pub IsAnswered : {D : Type 0} → (D → DiskState) → Op → Told → Held (CoreState D) → Held (CoreState D) → Type 0
IsAnswered state op answer c d = (reply : Reply) × Tells answer reply × Answered state op reply c d
