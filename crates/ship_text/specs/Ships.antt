-- The ships of a history: what a second store is told of it.
use Rattle.std.specs.Prelude.{ℕ, ◌+◌, ◌==◌, Bool, ◌&&◌, if◌then◌else◌, List, [], ◌∷◌, ◌++◌, codes}
use Rattle.blsm_model.specs.declared.history.Entry.{Entry}
use Rattle.blsm_model.specs.declared.op.Op.{Op}
use Rattle.blsm_model.specs.declared.op.Op.TheVariants.{Put, New, Swap}
use Rattle.blsm_model.specs.Histories.{is_done}
use Rattle.blsm_model.specs.Legal.{is_write}
use Rattle.blsm_model.specs.Printed.{and_number, and_word, command_text}
use Rattle.ship_text.specs.declared.reading.Ship.{Ship}

-- the greatest number that the first ship may have: 2^63
abbrev pub most_first : ℕ
most_first = 9223372036854775808

-- a write as a ship tells it: a new or a swap that was done is its put
abbrev pub shipped : Op → Op
shipped (New key value) = Put key value
shipped (Swap key count value) = Put key value
shipped op = op

-- a write that was done has a ship
abbrev pub is_shipped : Entry → Bool
is_shipped e = is_write e.op && is_done e.reply

-- one ship, as a line without its end
abbrev pub ship_line : Ship → List ℕ
ship_line ship = codes "ship" ++ and_number ship.n ++ and_word (command_text ship.op)

-- the ship of a write with this number, as a line
abbrev pub ship_text : ℕ → Op → List ℕ
ship_text number op = ship_line (record { n = number; op = shipped op }) ++ 10 ∷ []

-- the ship of an entry, if it has one
abbrev pub ships_of : ℕ → Entry → List ℕ
ships_of number e = if is_shipped e then ship_text number e.op else []

-- how many ships an entry has
abbrev pub ships_in : Entry → ℕ
ships_in e = if is_shipped e then 1 else 0

-- the ships of a history's entries, the first of which has this number
abbrev pub ships_text : ℕ → List Entry → List ℕ
ships_text number [] = []
ships_text number (e ∷ es) = ships_of number e ++ ships_text (number + ships_in e) es

-- the ships that are printed, of which the first was to have this number: with 0 none
abbrev pub printed_ships : ℕ → List Entry → List ℕ
printed_ships first entries = if first == 0 then [] else ships_text first entries
