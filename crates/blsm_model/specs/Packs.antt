-- What a pack's own fields stand for: a head for each write, and the bytes of keys and texts behind one another.
use Rattle.std.specs.Prelude.{◌≡◌, ℕ, ◌+◌, ◌*◌, ◌≤◌, ⊤, Bool, true, false, List, [], ◌∷◌, length, take, drop, sum_by}
use Rattle.std.specs.List.{AllByRecursion}
use Rattle.blsm_model.specs.declared.op.Write.{Write}
use Rattle.blsm_model.specs.declared.op.Write.TheVariants.{Put, Add, Tail, Del}
use Rattle.blsm_model.specs.Format.{most_key, most_pack, most_tail, most_text, most_writes, overhead}
use Rattle.blsm_model.specs.Legal.{total_weight}
use Rattle.blsm_model.specs.Values.{key_of, text_written}
use Rattle.blsm_model.specs.declared.pack.Kind.{Kind}
use Rattle.blsm_model.specs.declared.pack.Kind.TheVariants as kind
use Rattle.blsm_model.specs.declared.pack.Head.{Head}

-- the write of this kind, with this count, key and text, as far as it has them
abbrev pub write_with : Kind → ℕ → List ℕ → List ℕ → Write
write_with kind.Put count key text = Put key (record { count = count; text = text })
write_with kind.Add count key text = Add key count
write_with kind.Tail count key text = Tail key text
write_with kind.Del count key text = Del key

abbrev pub len_of : Head → ℕ
len_of h = h.key_len + h.text_len

abbrev pub write_in : Head → List ℕ → Write
write_in h bytes = write_with h.kind h.count (take h.key_len bytes) (take h.text_len (drop h.key_len bytes))

abbrev pub writes_in : List Head → List ℕ → List Write
writes_in [] bytes = []
writes_in (h ∷ hs) bytes = write_in h bytes ∷ writes_in hs (drop (len_of h) bytes)

-- an add and a del have no text
abbrev pub HasText : Kind → ℕ → Type 0
HasText kind.Put len = ⊤
HasText kind.Add len = len ≡ 0
HasText kind.Tail len = ⊤
HasText kind.Del len = len ≡ 0

pub record IsHead (h : Head) : Type 0 where
  pub key_least : 1 ≤ h.key_len
  pub key_most : h.key_len ≤ most_key
  pub text_most : h.text_len ≤ most_text
  pub text : HasText h.kind h.text_len

-- the head of a write
pub record IsHeadOf (h : Head) (write : Write) : Type 0 where
  pub is_head : IsHead h
  pub key : h.key_len ≡ length (key_of write)
  pub long : h.text_len ≡ length (text_written write)
  pub is : write_with h.kind h.count (key_of write) (text_written write) ≡ write

-- heads whose bytes are these
pub record AreHeads (heads : List Head) (bytes : List ℕ) : Type 0 where
  pub each : AllByRecursion IsHead heads
  pub whole : sum_by len_of heads ≡ length bytes

pub record IsPack (heads : List Head) (bytes : List ℕ) : Type 0 where
  pub are : AreHeads heads bytes
  pub some : 2 ≤ length heads
  pub few : length heads ≤ most_writes
  pub light : overhead * length heads + length bytes ≤ most_pack

-- whether a head is a del's
abbrev pub is_del_kind : Kind → Bool
is_del_kind kind.Put = false
is_del_kind kind.Add = false
is_del_kind kind.Tail = false
is_del_kind kind.Del = true

abbrev pub is_del_head : Head → Bool
is_del_head h = is_del_kind h.kind

-- a tail has one byte at least and 64 at most
abbrev pub FitsTail : Kind → ℕ → Type 0
FitsTail kind.Put len = ⊤
FitsTail kind.Add len = ⊤
FitsTail kind.Tail len = (1 ≤ len) × (len ≤ most_tail)
FitsTail kind.Del len = ⊤

-- writes that may be a batch
pub record MayPack (writes : List Write) : Type 0 where
  pub some : 2 ≤ length writes
  pub few : length writes ≤ most_writes
  pub light : total_weight writes ≤ most_pack
