-- How turns end, as the machine says it.
use Rattle.std.specs.Prelude.{◌≡◌, refl}
use Rattle.seat_book.specs.declared.turned.Turned.{Turned}
use Rattle.seat_book.specs.declared.turned.Turned.TheVariants as code
use Rattle.tree_machine.specs.Machine.{Worked, Idle, Closed, Failed, BadPage, Halted}
use Rattle.tree_machine.specs.Machine as machine

abbrev pub turned_of : Turned → machine.Turned
turned_of code.Worked = Worked
turned_of code.Idle = Idle
turned_of code.Closed = Closed
turned_of code.Failed = Failed
turned_of (code.BadPage page) = BadPage page
turned_of (code.Halted why) = Halted why

-- and back
abbrev pub code_of : machine.Turned → Turned
code_of Worked = code.Worked
code_of Idle = code.Idle
code_of Closed = code.Closed
code_of Failed = code.Failed
code_of (BadPage page) = code.BadPage page
code_of (Halted why) = code.Halted why

pub code_of-turned_of : (turned : Turned) → code_of (turned_of turned) ≡ turned
code_of-turned_of code.Worked = refl
code_of-turned_of code.Idle = refl
code_of-turned_of code.Closed = refl
code_of-turned_of code.Failed = refl
code_of-turned_of (code.BadPage page) = refl
code_of-turned_of (code.Halted why) = refl
