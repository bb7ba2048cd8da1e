-- What commands write.
use Rattle.std.proofs.lemmas.Bool.Decides.{nat_tests}
use Rattle.std.proofs.lemmas.Grind.{common_steps}
use Rattle.std.proofs.Common.{◌≡◌, ℕ, ◌≤◌, true, false, List, [], ◌∷◌, length, Option, refl, ap, arith}
use Rattle.std.proofs.lemmas.Bool.{false≢true}
use Rattle.blsm_model.specs.declared.op.Op.{Op}
use Rattle.blsm_model.specs.declared.op.Op.TheVariants.{Put, Add, Tail, Del, New, Swap}
use Rattle.blsm_model.specs.declared.op.Write.{Write}
use Rattle.blsm_model.specs.declared.op.Write.TheVariants as write
use Rattle.blsm_model.specs.declared.history.Entry.{Entry}
use Rattle.blsm_model.specs.declared.history.Reply.TheVariants.{Done, Kept}
use Rattle.blsm_model.specs.declared.key.Key.{Key}
use Rattle.blsm_model.specs.declared.row.Value.{Value}
use Rattle.blsm_model.specs.Values.{value_at}
use Rattle.blsm_model.specs.Histories.{Object, IsAnswer, counted_writes, is_met, is_met_by, looked_at, looks_first, moves_rows, writes_of}
use Rattle.blsm_model.specs.Legal.{MayFail, is_running, is_work, is_write, may_look}

-- a command that writes makes a write at least
pub writes_some : (op : Op) → is_write op ≡ true → (w : Write) × (ws : List Write) × (writes_of op ≡ w ∷ ws)
writes_some (Put key value) is = (write.Put key value, [], refl)
writes_some (Add key count) is = (write.Add key count, [], refl)
writes_some (Tail key tail) is = (write.Tail key tail, [], refl)
writes_some (Del key) is = (write.Del key, [], refl)
writes_some (New key value) is = (write.Put key value, [], refl)
writes_some (Swap key count value) is = (write.Put key value, [], refl)
writes_some _ is = absurd (false≢true is)

-- and an entry counts one at most
pub few_counted : (es : List Entry) → length (counted_writes es) ≤ length es
few_counted [] = omega arith
few_counted (e ∷ es) = grind (arith, common_steps, nat_tests, few_counted es)

-- the sequential map answers Done to a write whose condition holds
pub write_is_done : (object : Object) (seat : ℕ) (op : Op) → is_write op ≡ true → is_met op (value_at object.writes) ≡ true → IsAnswer object seat op
    Done
write_is_done object seat op is met = grind (arith, common_steps, nat_tests)

-- and tells what it found to one whose condition doesn't
pub write_is_kept : (object : Object) (seat : ℕ) (op : Op) → is_write op ≡ true → is_met op (value_at object.writes) ≡ false
    → IsAnswer object seat op (Kept (looked_at op (value_at object.writes)))
write_is_kept object seat op is unmet = grind (arith, common_steps, nat_tests)

-- it leaves the rows that are held
pub write_leaves_rows : (op : Op) → is_write op ≡ true → moves_rows op ≡ false
write_leaves_rows op is = grind (arith, common_steps, nat_tests)

-- and is no work
pub write_is_no_work : (op : Op) → is_write op ≡ true → is_work op ≡ false
write_is_no_work op is = grind (arith, common_steps, nat_tests)

-- ---- writes that look first

-- one that doesn't look first has no condition
pub no_condition : (op : Op) (has : Key → Option Value) → looks_first op ≡ false → is_met op has ≡ true
no_condition op has alone = grind (arith, common_steps, nat_tests)

-- so one whose condition fails looks first
pub unmet_looks : (op : Op) (has : Key → Option Value) → is_met op has ≡ false → looks_first op ≡ true
unmet_looks op has unmet = grind (arith, common_steps, nat_tests)

-- what it looks at goes by the value of each key
pub looked_same : (op : Op) (has other : Key → Option Value) → ((key : Key) → has key ≡ other key) → looked_at op has ≡ looked_at op other
looked_same op has other same = grind (arith, common_steps, nat_tests)

pub met_same : (op : Op) (has other : Key → Option Value) → ((key : Key) → has key ≡ other key) → is_met op has ≡ is_met op other
met_same op has other same = ap (is_met_by op) (looked_same op has other same)

-- a write may look where it looks first
pub write_may_look : (op : Op) → is_write op ≡ true → may_look op ≡ looks_first op
write_may_look op is = grind (arith, common_steps, nat_tests)

-- who looks first writes
pub first_is_write : (op : Op) → looks_first op ≡ true → is_write op ≡ true
first_is_write op first = grind (arith, common_steps, nat_tests)

-- and may fail while the store runs
pub first_may_fail : (before : List Entry) (op : Op) → looks_first op ≡ true → is_running before ≡ true → MayFail before op
first_may_fail before op first runs = grind (arith, common_steps, nat_tests)
