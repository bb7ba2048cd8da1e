-- The script that is made from a seed. Its numbers come from a linear congruential generator modulo 2^64, of whose state
-- the 31 high bits are drawn.
use Rattle.std.specs.Prelude.{◌≡◌, ℕ, zero, suc, ◌+◌, ◌*◌, ◌/◌, ◌%◌, ◌^◌, ◌<◌, ⊤, List, [], ◌∷◌, if◌then◌else◌, nat_lt, replicate}
use Rattle.blsm_model.specs.Format.{overhead}
use Rattle.blsm_model.specs.declared.key.Key.{Key}
use Rattle.blsm_model.specs.declared.op.Op.{Op}
use Rattle.blsm_model.specs.declared.op.Op.TheVariants.{Put, Add, Tail, Del, New, Swap, Get, Hold}
use Rattle.blsm_model.specs.declared.history.Line.{Line}

-- the state after a draw
unfoldable pub next_state : ℕ → ℕ
next_state x = (x * 6364136223846793005 + 1442695040888963407) % 2 ^ 64

-- the number that was drawn, by the state after it
unfoldable pub drawn : ℕ → ℕ
drawn x = x / 2 ^ 33

-- how many keys there are
abbrev pub key_count : ℕ
key_count = 1500

-- the longest text that is made has so many bytes
abbrev pub longest_made : ℕ
longest_made = 199

-- the heaviest write that is made weighs so many: a put of a key, which has six, and such a text
abbrev pub heaviest_made : ℕ
heaviest_made = overhead + 6 + longest_made

-- the digit of a place that stands for this power of ten
abbrev pub digit_at : ℕ → ℕ → ℕ
digit_at unit place = 48 + place / unit % 10

-- the key at a place: k and the place in five digits
unfoldable pub key_at : ℕ → Key
key_at place = 107 ∷ digit_at 10000 place ∷ digit_at 1000 place ∷ digit_at 100 place ∷ digit_at 10 place ∷ digit_at 1 place ∷ []

-- a text for the key at a place: one letter, so many times
unfoldable pub text_at : ℕ → ℕ → List ℕ
text_at place size = replicate size (97 + place % 26)

-- of a hundred commands 60 are puts, 18 adds, 2 dels and 20 gets
unfoldable pub op_of : ℕ → ℕ → ℕ → ℕ → Op
op_of kind place count size =
    if nat_lt kind 60 then Put (key_at place) (record { count = count; text = text_at place size })
    else (if nat_lt kind 78 then Add (key_at place) count
    else (if nat_lt kind 80 then Del (key_at place) else Get (key_at place)))

-- the command that is made at a state, by four draws
abbrev pub op_from : ℕ → Op
op_from x =
    let first = next_state x in
    let second = next_state first in
    let third = next_state second in
    let fourth = next_state third in
    op_of (drawn first % 100) (drawn second % key_count) (drawn third % 1000) (160 + drawn fourth % 40)

-- the state after these draws
abbrev pub after_command : ℕ → ℕ
after_command x = next_state (next_state (next_state (next_state x)))

-- so many commands of the first caller, from a state on
unfoldable pub generated : ℕ → ℕ → List Line
generated x zero = []
generated x (suc n) = record { seat = 0; op = op_from x } ∷ generated (after_command x) n

-- a key of the generator's
pub record IsMade (key : Key) : Type 0 where
  pub place : ℕ
  pub within : place < key_count
  pub is : key ≡ key_at place

-- a command whose keys are the generator's
abbrev pub HasMadeKeys : Op → Type 0
HasMadeKeys (Put key value) = IsMade key
HasMadeKeys (Add key count) = IsMade key
HasMadeKeys (Tail key tail) = IsMade key
HasMadeKeys (Del key) = IsMade key
HasMadeKeys (New key value) = IsMade key
HasMadeKeys (Swap key count value) = IsMade key
HasMadeKeys (Get key) = IsMade key
HasMadeKeys (Hold low high) = IsMade low × IsMade high
HasMadeKeys _ = ⊤
