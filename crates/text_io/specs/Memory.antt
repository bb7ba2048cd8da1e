-- Sources and sinks in memory.
use Rattle.std.specs.Prelude.{ℕ, List}

-- a text of which so much is left, whose listed calls fail
pub record ListedSource : Type 0 where
  pub left : List ℕ
  -- how many bytes a call gives at most
  pub most : ℕ
  pub fails : List ℕ
  -- how many calls there were
  pub calls : ℕ
  pub faults : ℕ

-- what is held, in room for so much, where the listed calls fail
pub record ListedSink : Type 0 where
  pub held : List ℕ
  pub limit : ℕ
  pub fails : List ℕ
  pub calls : ℕ
  pub faults : ℕ

-- what is held, in room for so much
pub record RoomySink : Type 0 where
  pub held : List ℕ
  pub limit : ℕ
  pub faults : ℕ
