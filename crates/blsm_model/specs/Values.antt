-- The value of a key under a list of writes, the oldest first. With p the key's last put or del:
--     its count is p's (0 for a del, or where there is no p) and the sum of the key's adds after p, modulo 2 ^ 64
--     its text is a put's, else empty, and then for each tail after p, in order, the last 64 bytes of the text with the tail behind it
--     it is present where p is a put, or there is an add or a tail after p (any one, where there is no p)
use Rattle.std.specs.Prelude.{ℕ, ◌+◌, ◌%◌, ◌^◌, Bool, true, false, List, [], ◌∷◌, reverse, length, Option, Some, None, sum_by, unwrap_or, filter, find, fold}
use Rattle.std.specs.List.{after_last}
use Rattle.blsm_model.specs.declared.key.Key.{Key}
use Rattle.blsm_model.specs.declared.row.Value.{Value}
use Rattle.blsm_model.specs.declared.op.Write.{Write}
use Rattle.blsm_model.specs.declared.op.Write.TheVariants.{Put, Add, Tail, Del}
use Rattle.blsm_model.specs.Format.{overhead}
use Rattle.blsm_model.specs.Keys.{same_key}
use Rattle.blsm_model.specs.Tails.{with_tail}

abbrev pub key_of : Write → Key
key_of (Put key value) = key
key_of (Add key count) = key
key_of (Tail key tail) = key
key_of (Del key) = key

-- the text that a write has: an add and a del have none
abbrev pub text_written : Write → List ℕ
text_written (Put key value) = value.text
text_written (Add key count) = []
text_written (Tail key tail) = tail
text_written (Del key) = []

-- the weight of a write, in bytes: also the length of its entry on disk
abbrev pub weight_of : Write → ℕ
weight_of write = overhead + length (key_of write) + length (text_written write)

-- a put or a del: the writes before it no longer count
abbrev pub is_reset : Write → Bool
is_reset (Put key value) = true
is_reset (Add key count) = false
is_reset (Tail key tail) = false
is_reset (Del key) = true

abbrev pub is_removal : Write → Bool
is_removal (Del key) = true
is_removal _ = false

-- what a write adds to the count
abbrev pub added_count : Write → ℕ
added_count (Put key value) = 0
added_count (Add key count) = count
added_count (Tail key tail) = 0
added_count (Del key) = 0

-- what a write puts behind the text
abbrev pub tail_written : Write → List ℕ
tail_written (Tail key tail) = tail
tail_written _ = []

-- the writes of the key, the oldest first
abbrev pub writes_of_key : List Write → Key → List Write
writes_of_key writes key = filter (λ w. same_key (key_of w) key) writes

-- the last put or del
abbrev pub last_reset : List Write → Option Write
last_reset own = find is_reset (reverse own)

-- the adds and tails after it, or all of them where there is none
abbrev pub changes_since : List Write → List Write
changes_since own = after_last is_reset own

-- what changes come on top of: the value of a put, else nothing
abbrev pub put_value : Option Write → Option Value
put_value (Some (Put key value)) = Some value
put_value _ = None

abbrev pub base_of : Option Value → Value
base_of base = unwrap_or base (record { count = 0; text = [] })

-- a text after the tails of these writes, the oldest first
abbrev pub with_tails : List ℕ → List Write → List ℕ
with_tails text writes = fold (λ text write. with_tail text (tail_written write)) text writes

abbrev pub with_changes : Option Value → List Write → Option Value
with_changes base [] = base
with_changes base (change ∷ changes) =
    Some (record {
      count = ((base_of base).count + sum_by added_count (change ∷ changes)) % 2 ^ 64;
      text = with_tails (base_of base).text (change ∷ changes);
    })

-- what the writes of one key leave
abbrev pub value_left : List Write → Option Value
value_left own = with_changes (put_value (last_reset own)) (changes_since own)

-- the value of the key, if it is present
abbrev pub value_at : List Write → Key → Option Value
value_at writes key = value_left (writes_of_key writes key)
