-- The lines of a source, one by one: what their reader has, and what it answers.
use Rattle.std.specs.Prelude.{◌≡◌, ◌≢◌, ◌≤◌, ◌<◌, ◌+◌, ◌⊎◌, ℕ, Bool, true, false, List, [], ◌∷◌, ◌++◌, length, slice_index, take, Option, Some, IfSome, option_map, Result, Ok, Err, IfOk, OnOk, OnErr}
use Rattle.std.specs.List.{All}
use Rattle.refusal.specs.Count.{CountsFault, HasRisen}
use Rattle.text_io.specs.Reading.{piece_length}
use Rattle.text_io.specs.Text.{SourceState}
use Rattle.text_io.specs.declared.lines.LineFault.{LineFault}
use Rattle.text_io.specs.declared.lines.LineFault.TheVariants.{Failed, TooLong, CutOff}

-- the byte that ends a line
abbrev pub line_end : ℕ
line_end = 10

-- the byte isn't among these
abbrev pub Lacks : ℕ → List ℕ → Type 0
Lacks mark bytes = All (λ byte. byte ≢ mark) bytes

-- the line that was given last, what was read behind it, and how many bytes a line has at most, without its end
pub record LinesState : Type 0 where
  pub line : List ℕ
  pub ahead : List ℕ
  pub longest : ℕ

-- the bytes that are left to be given as lines, where the source tells its own
abbrev pub left_of : LinesState → SourceState → Option (List ℕ)
left_of l s = option_map (λ left. l.ahead ++ left) s.left

-- no line waits: none ends within as many bytes as the longest has with its end
abbrev pub LacksLine : LinesState → Type 0
LacksLine l = Lacks line_end (take (l.longest + 1) l.ahead)

-- nothing of what was left is lost
abbrev pub KeepsLeft : LinesState → LinesState → SourceState → SourceState → Type 0
KeepsLeft l m s t = IfSome (left_of l s) (λ left. left_of m t ≡ Some left)

-- these bytes were all that was left
abbrev pub WereAllLeft : List ℕ → LinesState → SourceState → Type 0
WereAllLeft bytes l s = IfSome (left_of l s) (λ left. left ≡ bytes)

-- a count of faults went up once
abbrev pub HasRisenOnce : ℕ → ℕ → Type 0
HasRisenOnce old new = (old ≤ new) × HasRisen old new × (new ≤ old + 1)

-- the first line of what was left was given; the source was asked only where no line waited
pub record GivesLine (l m : LinesState) (s t : SourceState) : Type 0 where
  pub lacks : Lacks line_end m.line
  pub fits : length m.line ≤ l.longest
  pub left : IfSome (left_of l s) (λ left. (rest : List ℕ) × (left ≡ m.line ++ line_end ∷ rest) × (left_of m t ≡ Some rest))
  pub asked : LacksLine l ⊎ (t ≡ s)
  pub calm : t.faults ≡ s.faults
  -- it was read in one piece with what is left of that
  pub few : length m.line + 1 + length m.ahead ≤ piece_length

-- no line waited, and what was left is left
pub record GivesNone (l m : LinesState) (s t : SourceState) : Type 0 where
  pub lacks : LacksLine l
  pub left : KeepsLeft l m s t

-- what the reader answers: whether there is a line, or why it can't tell
abbrev pub TellsLine : Result Bool LineFault → LinesState → LinesState → SourceState → SourceState → Type 0
TellsLine (Ok true) l m s t = GivesLine l m s t
TellsLine (Ok false) l m s t = GivesNone l m s t × (m.ahead ≡ []) × WereAllLeft [] l s × (t.faults ≡ s.faults)
TellsLine (Err Failed) l m s t = GivesNone l m s t × LacksLine m × (length m.ahead ≤ m.longest) × HasRisenOnce s.faults t.faults
TellsLine (Err TooLong) l m s t = GivesNone l m s t × LacksLine m × (m.longest < length m.ahead) × (t.faults ≡ s.faults)
TellsLine (Err CutOff) l m s t = GivesNone l m s t × LacksLine m × (0 < length m.ahead) × (length m.ahead ≤ m.longest) × WereAllLeft m.ahead l s × (t.faults ≡ s.faults)

-- the first end of a line stands at this place
pub record IsLineAt (at : ℕ) (bytes : List ℕ) : Type 0 where
  pub lacks : Lacks line_end (take at bytes)
  pub end : slice_index bytes at ≡ line_end
  pub within : at < length bytes

-- a line that waited was taken
pub record TakesLine (l m : LinesState) : Type 0 where
  pub lacks : Lacks line_end m.line
  pub fits : length m.line ≤ l.longest
  pub split : l.ahead ≡ m.line ++ line_end ∷ m.ahead
  pub few : length l.ahead ≤ piece_length
  pub longest : m.longest ≡ l.longest

-- whether one was
abbrev pub TakesWaiting : Bool → LinesState → LinesState → Type 0
TakesWaiting true l m = TakesLine l m
TakesWaiting false l m = LacksLine l × (m ≡ l)

-- the source was asked once
pub record ReadsAhead {E : Type 0} (result : Result ℕ E) (l m : LinesState) (s t : SourceState) : Type 0 where
  pub left : KeepsLeft l m s t
  pub more : IfOk result (λ n. length m.ahead ≡ length l.ahead + n)
  pub end : IfOk result (λ n. n ≡ 0 → (m.ahead ≡ l.ahead) × WereAllLeft l.ahead l s)
  pub err : OnErr result (m.ahead ≡ l.ahead)
  pub calm : OnOk result (t.faults ≡ s.faults)
  pub cause : CountsFault result s.faults t.faults
  pub few : length m.ahead ≤ piece_length
  pub longest : m.longest ≡ l.longest
