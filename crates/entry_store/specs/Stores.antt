-- Keys and records whose bytes are in chunks.
use Rattle.std.specs.Prelude.{◌≡◌, ℕ, ◌+◌, ◌-◌, ◌*◌, ◌<◌, ◌≤◌, List, [], length, get_or, take, drop, map, sum_by}
use Rattle.std.specs.List.{AllByRecursion}
use Rattle.blsm_model.specs.declared.key.Key.{Key}
use Rattle.blsm_model.specs.Format.{most_tail}
use Rattle.record_delta.specs.declared.record.Rec.{Rec}
use Rattle.record_delta.specs.declared.record.Rec.TheVariants as rec
use Rattle.record_delta.specs.Records.{text_of as text_in}
use Rattle.record_delta.specs.Entries.{Entries, entries_weight}
use Rattle.entry_store.specs.declared.chunks.Chunk.{Chunk}
use Rattle.entry_store.specs.declared.store.Kind.{Kind}
use Rattle.entry_store.specs.declared.store.Kind.TheVariants as kind
use Rattle.entry_store.specs.declared.store.Head.{Head}
use Rattle.entry_store.specs.Chains.{chunks_for, chunk_at, chain, text_of, times}

-- the record of this kind with this count and this text, where it has them
abbrev pub rec_with : Kind → ℕ → List ℕ → Rec
rec_with kind.Base count text = rec.Base (record { count = count; text = text })
rec_with kind.Delta count text = rec.Delta (record { count = count; text = text })
rec_with kind.Tomb count text = rec.Tomb

-- a base's text is as long as texts are, a delta's no longer than a tail, and a tombstone has none
abbrev pub HasText : Kind → ℕ → Type 0
HasText kind.Base len = Unit {0}
HasText kind.Delta len = len ≤ most_tail
HasText kind.Tomb len = len ≡ 0

abbrev pub len_of : Head → ℕ
len_of h = h.key_len + h.text_len

abbrev pub size_of : Head → ℕ
size_of h = chunks_for (len_of h)

-- the key's bytes, and the text's behind them
abbrev pub string_in : List Chunk → Head → List ℕ
string_in cs h = text_of (size_of h) cs h.first (len_of h)

abbrev pub entry_in : List Chunk → Head → Key × Rec
entry_in cs h = (take h.key_len (string_in cs h), rec_with h.kind h.count (drop h.key_len (string_in cs h)))

abbrev pub entries_in : List Chunk → List Head → Entries
entries_in cs heads = map (entry_in cs) heads

-- how often a chunk is one of an entry's
abbrev pub in_use : ℕ → List Chunk → List Head → ℕ
in_use q cs heads = sum_by (λ h. times q (chain (size_of h) cs h.first)) heads

abbrev pub free_chunks : List Chunk → List Head → ℕ
free_chunks cs heads = length cs - sum_by size_of heads

abbrev pub is_free : ℕ → List Chunk → List Head → ℕ → ℕ
is_free q cs heads free = times q (chain (free_chunks cs heads) cs free)

pub record IsHead (h : Head) : Type 0 where
  pub key_most : h.key_len ≤ 64
  pub text_most : h.text_len ≤ 435
  pub has_text : HasText h.kind h.text_len

-- what contracts see
pub record Stored : Type 0 where
  pub slots : Entries
  pub reserved : ℕ

-- what a place has whose entry was removed
abbrev pub vacant : Key × Rec
vacant = ([], rec.Tomb)

-- the place has an entry: its key isn't empty
abbrev pub HasEntry : Entries → ℕ → Type 0
HasEntry slots place = 1 ≤ length (get_or slots place vacant).0

-- each chunk is one entry's, or free; and there are chunks and heads for all that the reserve allows
pub record IsStore (cs : List Chunk) (heads : List Head) (free reserved head_places : ℕ) : Type 0 where
  pub are_heads : AllByRecursion IsHead heads
  pub conserved : sum_by size_of heads ≤ length cs
  pub apart : (q : ℕ) → in_use q cs heads + is_free q cs heads free ≤ 1
  pub inside : (q : ℕ) → 1 ≤ in_use q cs heads + is_free q cs heads free → q < length cs
  pub full : (q : ℕ) → q < length cs → length (chunk_at cs q).bytes ≡ 16
  pub fits : entries_weight (entries_in cs heads) ≤ reserved
  pub room_heads : reserved < 14 * (head_places + 1)
  pub room_chunks : reserved < 14 * (length cs + 1)
  pub numbered : length cs < 4294967296

-- the head of a key and its record, whose bytes begin at a chunk
pub record IsHeadOf (h : Head) (key : Key) (r : Rec) (first : ℕ) : Type 0 where
  pub first_is : h.first ≡ first
  pub key_least : 1 ≤ h.key_len
  pub key_len_is : h.key_len ≡ length key
  pub text_len_is : h.text_len ≡ length (text_in r)
  pub rec_is : rec_with h.kind h.count (text_in r) ≡ r
  pub is_head : IsHead h
