-- What the parts of a line spell, and what a reader of one answers.
use Rattle.std.specs.Prelude.{◌≡◌, ℕ, ◌<◌, ◌≤◌, List, ◌∷◌, ◌++◌, codes, length, slice_index, Option, Some, None, MatchOption}
use Rattle.blsm_model.specs.declared.op.Op.{Op}
use Rattle.script_text.specs.declared.line.Verb.{Verb}
use Rattle.script_text.specs.declared.line.Verb.TheVariants as verb
use Rattle.blsm_model.specs.Printed.{command_text}
use Rattle.script_text.specs.Grammar.{IsCommand}

-- the bytes are the text of a thing that is allowed
abbrev pub Spells : {X : Type 0} → (X → List ℕ) → (X → Type 0) → List ℕ → X → Type 0
Spells text IsAllowed bytes x = (bytes ≡ text x) × IsAllowed x

-- the answer is what the bytes spell, and there is none only where they spell nothing
abbrev pub Reads : {X : Type 0} → (List ℕ → X → Type 0) → List ℕ → Option X → Type 0
Reads {X} P bytes result = MatchOption result ((x : X) → P bytes x → ⊥) (λ x. P bytes x)

-- the bytes are the front, and behind a mark the rest, if there is one
abbrev pub IsJoined : ℕ → List ℕ → List ℕ → Option (List ℕ) → Type 0
IsJoined mark bytes front None = bytes ≡ front
IsJoined mark bytes front (Some rest) = bytes ≡ front ++ mark ∷ rest

-- the first byte is a digit, and 0 only where it is alone
pub record BeginsAsNumber (bytes : List ℕ) : Type 0 where
  pub some : 0 < length bytes
  pub digit : (48 ≤ slice_index bytes 0) × (slice_index bytes 0 ≤ 57)
  pub alone : slice_index bytes 0 ≡ 48 → length bytes ≡ 1

abbrev pub verb_text : Verb → List ℕ
verb_text verb.Put = codes "put"
verb_text verb.Add = codes "add"
verb_text verb.Tail = codes "tail"
verb_text verb.Del = codes "del"
verb_text verb.New = codes "new"
verb_text verb.Swap = codes "swap"
verb_text verb.Get = codes "get"
verb_text verb.Hold = codes "hold"
verb_text verb.Next = codes "next"
verb_text verb.Work = codes "work"

-- the command has this first word and behind it these bytes
abbrev pub SpellsArguments : Verb → List ℕ → Op → Type 0
SpellsArguments v bytes op = (command_text op ≡ verb_text v ++ 32 ∷ bytes) × IsCommand op
