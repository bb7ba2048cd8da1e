-- What is wrong with a text that is no script.
use Rattle.std.specs.Prelude.{ℕ, Result, Ok, Err}
use Rattle.script_text.specs.declared.script.ScriptFault.{ScriptFault}
use Rattle.script_text.specs.declared.script.ScriptFault.TheVariants.{Bad, NoMemory}

-- P of the number of the line that is bad
abbrev pub IfBad : {T : Type 0} → Result T ScriptFault → (ℕ → Type 0) → Type 0
IfBad (Err (Bad n)) P = P n
IfBad (Err NoMemory) P = Unit {0}
IfBad (Ok value) P = Unit {0}
