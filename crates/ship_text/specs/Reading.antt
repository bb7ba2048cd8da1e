-- Which ships a text may have, and which line of a text is the first that is wrong.
use Rattle.std.specs.Prelude.{◌≡◌, ℕ, ◌+◌, ◌<◌, ◌≤◌, ◌⊎◌, Bool, not, ◌&&◌, if◌then◌else◌, List, [], ◌∷◌, ◌++◌, IsTrue, decimal, flat_map, length, Result, Ok, Err}
use Rattle.std.specs.List.{All}
use Rattle.blsm_model.specs.declared.history.Entry.{Entry}
use Rattle.blsm_model.specs.declared.op.Op.{Op}
use Rattle.blsm_model.specs.Format.{most_lines}
use Rattle.blsm_model.specs.Histories.{looks_first, writes_of}
use Rattle.blsm_model.specs.Legal.{is_write, total_weight}
use Rattle.blsm_model.specs.Printed.{and_word, command_text}
use Rattle.script_text.specs.Grammar.{IsCommand, first_line}
use Rattle.ship_text.specs.declared.reading.Ship.{Ship}
use Rattle.ship_text.specs.declared.reading.ShipFault.{ShipFault}
use Rattle.ship_text.specs.declared.reading.ShipFault.TheVariants.{Bad, NoMemory}
use Rattle.ship_text.specs.Ships.{is_shipped, ship_line, shipped, ships_in}

-- the greatest number of a ship: 2^64 - 2, so that there is one more
abbrev pub most_number : ℕ
most_number = 18446744073709551614

-- how much the writes of a ship weigh together at most: beside them, as heavy as a batch may be, an entry of 14 tells its number
abbrev pub most_load : ℕ
most_load = 1010

-- a write that asks nothing first: a put, an add, a tail or a del
abbrev pub is_plain : Op → Bool
is_plain op = is_write op && not (looks_first op)

-- a write that a ship may have
pub record IsLoad (op : Op) : Type 0 where
  pub plain : IsTrue (is_plain op)
  pub command : IsCommand op
  pub light : total_weight (writes_of op) ≤ most_load

-- a ship that a text may have
pub record IsShip (ship : Ship) : Type 0 where
  pub number : (1 ≤ ship.n) × (ship.n ≤ most_number)
  pub load : IsLoad ship.op

-- the bytes spell the ship behind its first word
pub record IsNumbered (bytes : List ℕ) (ship : Ship) : Type 0 where
  pub is : IsShip ship
  pub spelled : bytes ≡ decimal ship.n ++ and_word (command_text ship.op)

-- the bytes spell the ship, without the line's end
pub record IsShipLine (bytes : List ℕ) (ship : Ship) : Type 0 where
  pub is : IsShip ship
  pub spelled : bytes ≡ ship_line ship

-- the ships of a text
pub record AreShips (ships : List Ship) : Type 0 where
  pub each : All IsShip ships
  pub few : length ships ≤ most_lines

-- ships, each as a line with its end
abbrev pub ship_lines : List Ship → List ℕ
ship_lines ships = flat_map (λ ship. ship_line ship ++ 10 ∷ []) ships

-- the bytes are these ships, each with its end of a line, which the last may lack
pub record AreShipsOf (bytes : List ℕ) (ships : List Ship) : Type 0 where
  pub are : AreShips ships
  pub spelled : (bytes ≡ ship_lines ships) ⊎ (bytes ++ 10 ∷ [] ≡ ship_lines ships)

-- line n, counted from 1, is there, those before it are ships of a text, and it is none, or is one too many
pub record IsBadShip (bytes : List ℕ) (n : ℕ) : Type 0 where
  pub before : List Ship
  pub rest : List ℕ
  pub split : bytes ≡ ship_lines before ++ rest
  pub are : AreShips before
  pub place : n ≡ length before + 1
  pub there : 0 < length rest
  pub bad : ((ship : Ship) → IsShipLine (first_line rest) ship → ⊥) ⊎ (length before ≡ most_lines)

-- the bytes are no other ships, and no line of theirs is bad
pub record AreOnlyShips (bytes : List ℕ) (ships : List Ship) : Type 0 where
  pub only : (other : List Ship) → AreShipsOf bytes other → other ≡ ships
  pub none_bad : (n : ℕ) → IsBadShip bytes n → ⊥

-- no other line is the first that is bad, and the bytes are no ships
pub record IsOnlyBadShip (bytes : List ℕ) (n : ℕ) : Type 0 where
  pub only : (other : ℕ) → IsBadShip bytes other → other ≡ n
  pub no_ships : (ships : List Ship) → AreShipsOf bytes ships → ⊥

-- P of the number of the line that is bad
abbrev pub IfBad : {T : Type 0} → Result T ShipFault → (ℕ → Type 0) → Type 0
IfBad (Err (Bad n)) P = P n
IfBad (Err NoMemory) P = Unit {0}
IfBad (Ok value) P = Unit {0}

-- the ship that an entry has, if it has one
abbrev pub told_of : ℕ → Entry → List Ship
told_of number e = if is_shipped e then record { n = number; op = shipped e.op } ∷ [] else []

-- the ships of a history's entries, the first of which has this number
abbrev pub ships_told : ℕ → List Entry → List Ship
ships_told number [] = []
ships_told number (e ∷ es) = told_of number e ++ ships_told (number + ships_in e) es
