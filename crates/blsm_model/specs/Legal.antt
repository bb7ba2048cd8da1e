-- Which histories are legal. Each entry's reply is the sequential map's at its place, or one of these refusals:
--     a write: Full, where the charge and its weight pass the limit and its condition holds; FaultLost or FaultUnsure, which
--     stop the store
--     a get, a next, a new or a swap: Fault, or Damaged with the page
--     a hold: NoMemory
--     a work: Fault, or Damaged with the page, which stop the store
--     any command of a stopped store: Stopped, with one why for all
-- At most one entry stops the store. After it, and after the first Stopped, each entry is Stopped, but for a work that
-- stops the store: its entry is noted at its end, when others may have been told already.
use Rattle.std.specs.Prelude.{◌≡◌, ℕ, ◌+◌, ◌<◌, ◌≤◌, ⊤, ◌⊎◌, Bool, true, false, not, ◌&&◌, ◌||◌, if◌then◌else◌, List, [], ◌∷◌, ◌++◌, IsTrue, sum_by}
use Rattle.std.specs.List.{list_all, AllByRecursion}
use Rattle.blsm_model.specs.declared.key.Key.{Key}
use Rattle.blsm_model.specs.declared.row.Value.{Value}
use Rattle.blsm_model.specs.declared.op.Write.{Write}
use Rattle.blsm_model.specs.declared.op.Op.{Op}
use Rattle.blsm_model.specs.declared.op.Op.TheVariants.{Put, Add, Tail, Del, New, Swap, Get, Hold, Next, Work}
use Rattle.blsm_model.specs.declared.history.Why.{Why}
use Rattle.blsm_model.specs.declared.history.Reply.{Reply}
use Rattle.blsm_model.specs.declared.history.Reply.TheVariants.{Full, NoMemory, FaultLost, FaultUnsure, Fault, Damaged, Stopped}
use Rattle.blsm_model.specs.declared.history.Entry.{Entry}
use Rattle.blsm_model.specs.Tails.{TailFits}
use Rattle.blsm_model.specs.Values.{is_removal, value_at, weight_of}
use Rattle.blsm_model.specs.Histories.{writes_of, counted_writes, is_met, IsAnswer, object_after}

-- The charge at the opening, and the charges up to which a del, and any other write, is taken. All are weights in bytes.
pub record Limits : Type 0 where
  pub opening : ℕ
  pub dels : ℕ
  pub others : ℕ

-- a put, an add, a tail, a del, a new or a swap, which makes one write
abbrev pub is_write : Op → Bool
is_write (Put key value) = true
is_write (Add key count) = true
is_write (Tail key tail) = true
is_write (Del key) = true
is_write (New key value) = true
is_write (Swap key count value) = true
is_write _ = false

-- a get, which asks what the map has and changes nothing
abbrev pub is_look : Op → Bool
is_look (Get key) = true
is_look _ = false

-- the tails that it writes are tails
abbrev pub TailsFit : Op → Type 0
TailsFit op = AllByRecursion TailFits (writes_of op)

-- all that it writes are dels
abbrev pub is_del : Op → Bool
is_del op = is_write op && list_all is_removal (writes_of op)

-- a get and a next only look, and a new and a swap look first, so they may fail while the store runs on
abbrev pub may_look : Op → Bool
may_look (Get key) = true
may_look (Next n) = true
may_look (New key value) = true
may_look (Swap key count value) = true
may_look _ = false

-- the charge up to which a write is taken
abbrev pub limit_for : Limits → Op → ℕ
limit_for limits op = if is_del op then limits.dels else limits.others

-- the weights of the writes together
abbrev pub total_weight : List Write → ℕ
total_weight writes = sum_by weight_of writes

-- A write is too big at this charge: it would pass its limit, and the charge is no more than what stood at the opening
-- and what the counted writes before brought in.
pub record IsTooBig (limits : Limits) (before : List Entry) (op : Op) (charge : ℕ) : Type 0 where
  pub write : IsTrue (is_write op)
  pub past : limit_for limits op < charge + total_weight (writes_of op)
  pub made : charge ≤ limits.opening + total_weight (counted_writes before)

abbrev pub is_hold : Op → Bool
is_hold (Hold low high) = true
is_hold _ = false

abbrev pub is_work : Op → Bool
is_work (Work n) = true
is_work _ = false

-- a stopping reply: a write's fault, or a fault or a damaged page in the work of a caller
abbrev pub is_stopping : Op → Reply → Bool
is_stopping op FaultLost = true
is_stopping op FaultUnsure = true
is_stopping op Fault = is_work op
is_stopping op (Damaged page) = is_work op
is_stopping op _ = false

abbrev pub is_stopped : Reply → Bool
is_stopped (Stopped why) = true
is_stopped _ = false

-- what may follow a stop: the stopped reply, and a work that stops the store itself
abbrev pub FollowsStop : Op → Reply → Type 0
FollowsStop op reply = IsTrue (is_stopped reply) ⊎ (IsTrue (is_stopping op reply) × IsTrue (is_work op))

-- no entry shows that the store is stopped
abbrev pub is_running : List Entry → Bool
is_running before = list_all (λ e. not (is_stopping e.op e.reply || is_stopped e.reply)) before

-- no entry is the one that stopped it
abbrev pub none_stopping : List Entry → Bool
none_stopping before = list_all (λ e. not (is_stopping e.op e.reply)) before

abbrev pub NamesNoOther : Why → Reply → Type 0
NamesNoOther why (Stopped other) = other ≡ why
NamesNoOther why _ = ⊤

-- a lookup, by itself or before a write, may fail while the store runs, and a caller's work where nothing else stopped the store
abbrev pub MayFail : List Entry → Op → Type 0
MayFail before (Get key) = IsTrue (is_running before)
MayFail before (Next n) = IsTrue (is_running before)
MayFail before (New key value) = IsTrue (is_running before)
MayFail before (Swap key count value) = IsTrue (is_running before)
MayFail before (Work n) = IsTrue (none_stopping before)
MayFail before _ = ⊥

-- Whether a reply to a caller's command may come after these entries. A reply that is no refusal is the sequential map's.
abbrev pub MayReply : Limits → List (Key × Value) → List Entry → ℕ → Op → Reply → Type 0
MayReply limits opening before seat op (Full charge) =
    IsTrue (is_running before) × IsTooBig limits before op charge × IsTrue (is_met op (value_at (object_after opening before).writes))
MayReply limits opening before seat op NoMemory = IsTrue (is_running before) × IsTrue (is_hold op)
MayReply limits opening before seat op FaultLost = IsTrue (is_running before) × IsTrue (is_write op)
MayReply limits opening before seat op FaultUnsure = IsTrue (is_running before) × IsTrue (is_write op)
MayReply limits opening before seat op Fault = MayFail before op
MayReply limits opening before seat op (Damaged page) = MayFail before op
MayReply limits opening before seat op (Stopped why) = AllByRecursion (λ e. NamesNoOther why e.reply) before
MayReply limits opening before seat op reply = IsTrue (is_running before) × IsAnswer (object_after opening before) seat op reply

-- each entry may come after those before it
abbrev pub FollowsOn : Limits → List (Key × Value) → List Entry → List Entry → Type 0
FollowsOn limits opening before [] = ⊤
FollowsOn limits opening before (e ∷ es) =
    MayReply limits opening before e.seat e.op e.reply × FollowsOn limits opening (before ++ e ∷ []) es

abbrev pub IsLegal : Limits → List (Key × Value) → List Entry → Type 0
IsLegal limits opening history = FollowsOn limits opening [] history
