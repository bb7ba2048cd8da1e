-- What a session tells.
use Rattle.std.specs.Prelude.{◌≡◌, ◌<◌, ◌≤◌, ◌+◌, ◌==◌, ℕ, if◌then◌else◌, List, [], ◌∷◌, ◌++◌, Option, Some, IfSome, Ok, codes, length, take}
use Rattle.refusal.specs.declared.Failed.{Failed}
use Rattle.blsm_model.specs.Printed.{and_number, end_text, entry_text}
use Rattle.blsm_model.specs.declared.history.Entry.{Entry}
use Rattle.blsm_model.specs.declared.history.Totals.{Totals}
use Rattle.ship_text.specs.Ships.{ships_in, ships_of}
use Rattle.store_serve.specs.declared.closing.Closing.{Closing}
use Rattle.store_serve.specs.declared.closing.Closing.TheVariants.{Ended, BadLine, NoRoom, SourceFault, SinkFault}
use Rattle.text_io.specs.Lines.{HasRisenOnce}
use Rattle.text_io.specs.Text.{SinkState, Writes}

-- ---- an entry's line, and its ship

-- the ship of an entry with this number, if it has one; with 0 there are none
abbrev pub told_ship : ℕ → Entry → List ℕ
told_ship ship e = if ship == 0 then [] else ships_of ship e

-- the number of the next one
abbrev pub ship_behind : ℕ → Entry → ℕ
ship_behind ship e = if ship == 0 then 0 else ship + ships_in e

-- an entry's line with its quanta, and right behind it its ship
abbrev pub told_entry : ℕ → ℕ → Entry → ℕ → List ℕ
told_entry ship place e quanta = entry_text place e quanta ++ told_ship ship e

-- entries and their quanta, each with its ship, of which the first has this number. With 0 it is the entries' text.
abbrev pub told_text : ℕ → ℕ → List Entry → List ℕ → List ℕ
told_text ship place (e ∷ es) (quanta ∷ more) = told_entry ship place e quanta ++ told_text (ship_behind ship e) (place + 1) es more
told_text ship place _ _ = []

-- ---- the whole

-- the charge at the opening, and what is told of each entry
abbrev pub open_text : ℕ → List ℕ
open_text charge = codes "open charge" ++ and_number charge ++ 10 ∷ []

abbrev pub front_text : ℕ → ℕ → List Entry → List ℕ → List ℕ
front_text ships charge entries quanta = open_text charge ++ told_text ships 1 entries quanta

-- why it ended, behind the end of its history
abbrev pub closing_text : Closing → List ℕ
closing_text Ended = []
closing_text (BadLine n) = codes "bad line" ++ and_number n ++ 10 ∷ []
closing_text (NoRoom n) = codes "no room" ++ and_number n ++ 10 ∷ []
closing_text SourceFault = codes "source fault" ++ 10 ∷ []
closing_text SinkFault = []

-- a front of the text was added, with these first bytes of it, and not the whole
abbrev pub AddsPast : List ℕ → List ℕ → Option (List ℕ) → Option (List ℕ) → Type 0
AddsPast least text old new = IfSome old (λ held. (n : ℕ) × (length least ≤ n) × (n < length text) × (new ≡ Some (held ++ take n text)))

-- All was told whole but what is told of the last entry, or there was no entry and the first line wasn't told whole.
pub data IsCutShort (ships charge : ℕ) (entries : List Entry) (quanta : List ℕ) (old new : SinkState) : Type 0 where
  at_first : entries ≡ [] → AddsPast [] (open_text charge) old.held new.held → IsCutShort ships charge entries quanta old new
  at_last : (before : List Entry) (counts : List ℕ) (last : Entry) (count : ℕ)
      → entries ≡ before ++ last ∷ [] → quanta ≡ counts ++ count ∷ [] → length counts ≡ length before
      → AddsPast (front_text ships charge before counts) (front_text ships charge entries quanta) old.held new.held
      → IsCutShort ships charge entries quanta old new

-- All was told; or the sink failed, and one command at most was done that isn't told, or whose ship isn't.
abbrev pub IsTold : Closing → ℕ → ℕ → List Entry → List ℕ → SinkState → SinkState → Type 0
IsTold SinkFault ships charge entries quanta old new = IsCutShort ships charge entries quanta old new × HasRisenOnce old.faults new.faults
IsTold _ ships charge entries quanta old new = Writes {T = Unit {0}} {E = Failed} (front_text ships charge entries quanta) (Ok tt) old new

-- the whole text: the history with its ships, and why it ended. With 0 for ships it is the history's text, and why it ended.
abbrev pub served_text : ℕ → ℕ → List Entry → List ℕ → Totals → Closing → List ℕ
served_text ships charge entries quanta totals closing = front_text ships charge entries quanta ++ end_text totals ++ closing_text closing
