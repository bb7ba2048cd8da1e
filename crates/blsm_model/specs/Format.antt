-- The numbers of the format and of the limits, each in this one place. Lengths and weights are in bytes. What the program
-- names by constants of its own has to come out as these.
use Rattle.std.specs.Prelude.{ℕ}

-- the seats of callers, numbered from 0
abbrev pub callers : ℕ
callers = 16

-- a key has one byte at least
abbrev pub most_key : ℕ
most_key = 64

abbrev pub most_text : ℕ
most_text = 435

-- a tail has one byte at least, too
abbrev pub most_tail : ℕ
most_tail = 64

-- what an entry has besides its key and its text: kind, two lengths and count
abbrev pub overhead : ℕ
overhead = 13

-- the lightest entry has a key of one byte and no text, the heaviest the longest of both
abbrev pub least_weight : ℕ
least_weight = 14

abbrev pub most_weight : ℕ
most_weight = 512

-- a batch has two writes at least
abbrev pub most_writes : ℕ
most_writes = 32

-- how much the writes of a batch weigh together
abbrev pub most_pack : ℕ
most_pack = 1024

-- how many rows one reply gives
abbrev pub most_rows : ℕ
most_rows = 32

-- how many turns of merging a command may ask for
abbrev pub most_turns : ℕ
most_turns = 100000

-- how many bytes a script has, how many lines, and how many rows they ask for together
abbrev pub most_script : ℕ
most_script = 8388608

abbrev pub most_lines : ℕ
most_lines = 65536

abbrev pub most_rows_asked : ℕ
most_rows_asked = 131072

-- how many entries a run notes: one more than a script has lines
abbrev pub most_entries : ℕ
most_entries = 65537

-- the greatest half spring of any geometry
abbrev pub most_half : ℕ
most_half = 67108864

-- what stands before the lanes of the log: superblock and catalogue
abbrev pub head_length : ℕ
head_length = 4096

abbrev pub page_length : ℕ
page_length = 4096

-- a page that has a next one holds entries of so much: the next one, however heavy, didn't fit behind them
abbrev pub least_full : ℕ
least_full = 3577
