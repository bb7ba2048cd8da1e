-- What stands behind a source and a sink, and what a call moves.
use Rattle.std.specs.Prelude.{◌≡◌, ◌≤◌, ◌<◌, ℕ, Option, Some, List, [], ◌++◌, length, take, drop, IfSome, Result, IfOk, OnOk, OnErr}
use Rattle.refusal.specs.Count.{CountsFault}

-- the bytes that are left in a source, where it tells them, and how often it has failed
pub record SourceState : Type 0 where
  pub left : Option (List ℕ)
  pub faults : ℕ

-- the bytes that a sink holds, where it tells them, and how often it has failed
pub record SinkState : Type 0 where
  pub held : Option (List ℕ)
  pub faults : ℕ

-- n bytes that were left went to the front of the slice; none went only at the end, or to no room
pub record Gives (old new : Option (List ℕ)) (room : ℕ) (into : List ℕ) (n : ℕ) : Type 0 where
  pub within : n ≤ room
  pub bytes : IfSome old (λ left. (n ≤ length left) × (take n into ≡ take n left) × (new ≡ Some (drop n left)))
  pub end : n ≡ 0 → 0 < room → IfSome old (λ left. left ≡ [])

-- One call of a source. The count of faults stands but for a failure.
pub record ReadsSome {E : Type 0} (result : Result ℕ E) (room : ℕ) (into : List ℕ) (old new : SourceState) : Type 0 where
  pub gives : IfOk result (Gives old.left new.left room into)
  pub err : OnErr result (new.left ≡ old.left)
  pub calm : OnOk result (new.faults ≡ old.faults)
  pub cause : CountsFault result old.faults new.faults

-- the first n bytes of the piece were taken, one at least where there is one
pub record Takes (old new : Option (List ℕ)) (from : List ℕ) (n : ℕ) : Type 0 where
  pub within : n ≤ length from
  pub some : 0 < length from → 0 < n
  pub bytes : IfSome old (λ held. new ≡ Some (held ++ take n from))

-- One call of a sink. The count of faults stands but for a failure.
pub record WritesSome {E : Type 0} (result : Result ℕ E) (from : List ℕ) (old new : SinkState) : Type 0 where
  pub takes : IfOk result (Takes old.held new.held from)
  pub err : OnErr result (new.held ≡ old.held)
  pub calm : OnOk result (new.faults ≡ old.faults)
  pub cause : CountsFault result old.faults new.faults

-- the text was added to what was held
abbrev pub Adds : List ℕ → Option (List ℕ) → Option (List ℕ) → Type 0
Adds text old new = IfSome old (λ held. new ≡ Some (held ++ text))

-- a front of the text was added to what was held, and not the whole text
abbrev pub AddsFront : List ℕ → Option (List ℕ) → Option (List ℕ) → Type 0
AddsFront text old new = IfSome old (λ held. (n : ℕ) × (n < length text) × (new ≡ Some (held ++ take n text)))

-- a call that writes a text adds the whole, or fails, and then only a front: it is a word for one call and for many, one after another
pub record Writes {T E : Type 0} (text : List ℕ) (result : Result T E) (old new : SinkState) : Type 0 where
  pub ok : OnOk result (Adds text old.held new.held)
  pub err : OnErr result (AddsFront text old.held new.held)
  -- the count of faults stands but for a failure
  pub calm : OnOk result (new.faults ≡ old.faults)
  pub cause : CountsFault result old.faults new.faults

-- a front of what was left is gone, of so many bytes at least and at most
abbrev pub Loses : ℕ → ℕ → Option (List ℕ) → Option (List ℕ) → Type 0
Loses least most old new = IfSome old (λ left. (front : List ℕ) × (rest : List ℕ) × (least ≤ length front) × (length front ≤ most) × (left ≡ front ++ rest) × (new ≡ Some rest))
