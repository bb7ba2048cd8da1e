-- The grammar of scripts: which lines there are, how each is spelled, and which line of a text is the first that is wrong.
use Rattle.std.specs.Prelude.{◌≡◌, ◌≢◌, ⊤, ℕ, ◌+◌, ◌^◌, ◌<◌, ◌≤◌, ◌⊎◌, ◌==◌, List, [], ◌∷◌, ◌++◌, length, decimal, flat_map, sum_by}
use Rattle.std.specs.List.{All, before_first}
use Rattle.blsm_model.specs.Format.{callers, most_key, most_lines, most_rows, most_rows_asked, most_tail, most_text, most_turns}
use Rattle.blsm_model.specs.declared.op.Op.{Op}
use Rattle.blsm_model.specs.declared.op.Op.TheVariants.{Put, Add, Tail, Del, New, Swap, Get, Hold, Next, Release, Work}
use Rattle.blsm_model.specs.declared.history.Line.{Line}
use Rattle.blsm_model.specs.Printed.{and_word, command_text}
use Rattle.blsm_model.specs.Scripts.{rows_of}

-- a byte that a word of a script may have
abbrev pub IsVisible : ℕ → Type 0
IsVisible byte = (33 ≤ byte) × (byte ≤ 126)

pub record IsKey (key : List ℕ) : Type 0 where
  pub some : 1 ≤ length key
  pub fits : length key ≤ most_key
  pub visible : All IsVisible key

-- a dash alone spells the empty text, so it is no text
pub record IsText (text : List ℕ) : Type 0 where
  pub fits : length text ≤ most_text
  pub visible : All IsVisible text
  pub no_dash : text ≢ 45 ∷ []

pub record IsTail (tail : List ℕ) : Type 0 where
  pub some : 1 ≤ length tail
  pub fits : length tail ≤ most_tail
  pub visible : All IsVisible tail
  pub no_dash : tail ≢ 45 ∷ []

-- a command that a script may have
abbrev pub IsCommand : Op → Type 0
IsCommand (Put key value) = IsKey key × (value.count < 2 ^ 64) × IsText value.text
IsCommand (Add key count) = IsKey key × (count < 2 ^ 64)
IsCommand (Tail key tail) = IsKey key × IsTail tail
IsCommand (Del key) = IsKey key
IsCommand (New key value) = IsKey key × (value.count < 2 ^ 64) × IsText value.text
IsCommand (Swap key count value) = IsKey key × (count < 2 ^ 64) × (value.count < 2 ^ 64) × IsText value.text
IsCommand (Get key) = IsKey key
IsCommand (Hold low high) = IsKey low × IsKey high
IsCommand (Next n) = (1 ≤ n) × (n ≤ most_rows)
IsCommand Release = ⊤
IsCommand (Work n) = (1 ≤ n) × (n ≤ most_turns)

-- a line that a script may have
pub record IsAllowed (line : Line) : Type 0 where
  pub seat : line.seat < callers
  pub command : IsCommand line.op

-- the caller, counted from 1, and the command as the history prints it
abbrev pub line_text : Line → List ℕ
line_text line = decimal (line.seat + 1) ++ and_word (command_text line.op)

-- the bytes spell the line
pub record IsLine (bytes : List ℕ) (line : Line) : Type 0 where
  pub allowed : IsAllowed line
  pub spelled : bytes ≡ line_text line

-- how many bytes the longest line has, without its end: a swap by a caller of two digits, of two counts of twenty
abbrev pub longest_line : ℕ
longest_line = 2 + 1 + 4 + (1 + most_key) + (1 + 20) + (1 + 20) + (1 + most_text)

-- how many rows these lines ask for together
abbrev pub all_rows_asked : List Line → ℕ
all_rows_asked lines = sum_by (λ line. rows_of line.op) lines

-- the lines of a script
pub record AreLines (lines : List Line) : Type 0 where
  pub allowed : All IsAllowed lines
  pub few : length lines ≤ most_lines
  pub asked : all_rows_asked lines ≤ most_rows_asked

-- lines, each with its end
abbrev pub lines_text : List Line → List ℕ
lines_text lines = flat_map (λ line. line_text line ++ 10 ∷ []) lines

-- the bytes are these lines, each with its end, which the last may lack
pub record IsScript (bytes : List ℕ) (lines : List Line) : Type 0 where
  pub are : AreLines lines
  pub spelled : (bytes ≡ lines_text lines) ⊎ (bytes ++ 10 ∷ [] ≡ lines_text lines)

-- what stands before the first end of a line
abbrev pub first_line : List ℕ → List ℕ
first_line bytes = before_first (λ byte. byte == 10) bytes

-- the bytes spell a line that asks for more rows than the lines before it leave
pub record AsksTooMuch (before : List Line) (bytes : List ℕ) : Type 0 where
  pub line : Line
  pub is : IsLine bytes line
  pub past : most_rows_asked < all_rows_asked before + rows_of line.op

-- line n, counted from 1, is there, those before it are lines of a script, and it is none, or is one too many, or asks for
-- too much
pub record IsBadLine (bytes : List ℕ) (n : ℕ) : Type 0 where
  pub before : List Line
  pub rest : List ℕ
  pub split : bytes ≡ lines_text before ++ rest
  pub are : AreLines before
  pub place : n ≡ length before + 1
  pub there : 0 < length rest
  pub bad : ((line : Line) → IsLine (first_line rest) line → ⊥) ⊎ (length before ≡ most_lines) ⊎ AsksTooMuch before (first_line rest)

-- no other lines are the bytes' script, and no line of theirs is bad
pub record IsOnlyReading (bytes : List ℕ) (lines : List Line) : Type 0 where
  pub only : (other : List Line) → IsScript bytes other → other ≡ lines
  pub none_bad : (n : ℕ) → IsBadLine bytes n → ⊥

-- no other line is the first that is bad, and the bytes are no script
pub record IsOnlyBadLine (bytes : List ℕ) (n : ℕ) : Type 0 where
  pub only : (other : ℕ) → IsBadLine bytes other → other ≡ n
  pub no_script : (lines : List Line) → IsScript bytes lines → ⊥
