-- One refusal of each kind, worked out, and beside it one that may not come.
use Rattle.std.proofs.Common.{◌≡◌, [], ◌∷◌, refl, true, false, lit<, lit≤, arith}
use Rattle.blsm_model.specs.declared.op.Op.TheVariants.{Put, Del, Get, Hold, Next, Work}
use Rattle.blsm_model.specs.declared.history.Why.TheVariants.{Faulted, BadPage}
use Rattle.blsm_model.specs.declared.history.Reply.TheVariants.{Done, Held, Rows, NoHold, Did, Full, NoMemory, FaultLost, FaultUnsure, Fault, Damaged, Stopped}
use Rattle.blsm_model.specs.Legal.{Limits, IsLegal}
use Rattle.blsm_model.specs.Geometry.{limits_of}
use Rattle.blsm_model.proofs.ExampleWords.{a, b, c, by, of, row, fresh}

-- a store of the smallest geometry that is filled to 121,856 bytes, which leaves half a spring of its capacity
abbrev filled : Limits
filled = limits_of (record { half = 17408; ratio = 2; low = 16384; quantum = 4096 }) 121856

-- a put is refused, a del is taken, and adds to the charge
full_put : IsLegal filled [] (by 0 (Put a (of 1 [])) (Full 121856) ∷ by 0 (Del a) Done ∷ by 0 (Put a (of 1 [])) (Full 121870) ∷ [])
full_put = (
  (refl, record { write = refl; past = lit< tt; made = lit≤ tt }, refl),
  ((refl, refl), ((refl, record { write = refl; past = lit< tt; made = lit≤ tt }, refl), tt)),
)

-- no del is refused there
full_del : IsLegal filled [] (by 0 (Del a) (Full 121856) ∷ []) → ⊥
full_del legal = absurd (omega (arith, legal.0.1.past))

-- no write is refused by a charge that wasn't brought in
full_by_more : IsLegal filled [] (by 0 (Put a (of 1 [])) (Full 121857) ∷ []) → ⊥
full_by_more legal = absurd (omega (arith, legal.0.1.made))

-- no write is refused on a fresh store
full_when_empty : IsLegal fresh [] (by 0 (Put a (of 1 [])) (Full 0) ∷ []) → ⊥
full_when_empty legal = absurd (omega (arith, legal.0.1.past))

-- a refused write changes nothing
full_and_done : IsLegal filled [] (by 0 (Put a (of 1 [])) (Full 121856) ∷ by 0 (Hold a b) Held ∷ by 0 (Next 1) (Rows (row a 1 ∷ [])) ∷ []) → ⊥
full_and_done legal = let wrong : Rows (row a 1 ∷ []) ≡ Rows [] = legal.1.1.0.1 in cc

-- a hold that is refused for memory leaves the earlier one
hold_without_memory : IsLegal fresh [] (by 0 (Put a (of 1 [])) Done ∷ by 0 (Hold a c) Held ∷ by 0 (Hold b c) NoMemory ∷ by 0 (Next 1) (Rows (row a 1 ∷ [])) ∷ [])
hold_without_memory = ((refl, refl), ((refl, refl), ((refl, refl), ((refl, refl), tt))))

earlier_hold_lost : IsLegal fresh [] (by 0 (Hold a c) Held ∷ by 0 (Hold b c) NoMemory ∷ by 0 (Next 1) NoHold ∷ []) → ⊥
earlier_hold_lost legal = let wrong : NoHold ≡ Rows [] = legal.1.1.0.1 in cc

put_without_memory : IsLegal fresh [] (by 0 (Put a (of 1 [])) NoMemory ∷ []) → ⊥
put_without_memory legal = let wrong : false ≡ true = legal.0.1 in cc

-- a write that failed, and the same answer to all after it
write_lost : IsLegal fresh [] (by 0 (Put a (of 1 [])) FaultLost ∷ by 3 (Get a) (Stopped (Faulted 1)) ∷ [])
write_lost = ((refl, refl), ((tt, tt), tt))

write_unsure : IsLegal fresh [] (by 0 (Put a (of 1 [])) Done ∷ by 0 (Put b (of 2 [])) FaultUnsure ∷ by 0 (Get a) (Stopped (Faulted 1)) ∷ by 3 (Put a (of 1 [])) (Stopped (Faulted 1)) ∷ [])
write_unsure = ((refl, refl), ((refl, refl), ((tt, (tt, tt)), ((tt, (tt, (refl, tt))), tt))))

done_after_lost : IsLegal fresh [] (by 0 (Put b (of 2 [])) FaultLost ∷ by 0 (Del b) Done ∷ []) → ⊥
done_after_lost legal = let wrong : false ≡ true = legal.1.0.0 in cc

lost_after_unsure : IsLegal fresh [] (by 0 (Put b (of 2 [])) FaultUnsure ∷ by 1 (Put b (of 2 [])) FaultLost ∷ []) → ⊥
lost_after_unsure legal = let wrong : false ≡ true = legal.1.0.0 in cc

get_lost : IsLegal fresh [] (by 0 (Get a) FaultLost ∷ []) → ⊥
get_lost legal = let wrong : false ≡ true = legal.0.1 in cc

-- a get that fails stops nothing
get_failed : IsLegal fresh [] (by 0 (Get a) Fault ∷ by 0 (Put a (of 1 [])) Done ∷ [])
get_failed = (refl, ((refl, refl), tt))

put_failed : IsLegal fresh [] (by 0 (Put a (of 1 [])) Fault ∷ []) → ⊥
put_failed legal = legal.0

-- a next that finds a damaged page keeps its place
next_damaged : IsLegal fresh [] (by 0 (Put a (of 1 [])) Done ∷ by 0 (Hold a c) Held ∷ by 0 (Next 1) (Damaged 7) ∷ by 0 (Next 1) (Rows (row a 1 ∷ [])) ∷ [])
next_damaged = ((refl, refl), ((refl, refl), (refl, ((refl, refl), tt))))

place_lost : IsLegal fresh [] (by 0 (Put a (of 1 [])) Done ∷ by 0 (Hold a c) Held ∷ by 0 (Next 1) (Damaged 7) ∷ by 0 (Next 1) (Rows []) ∷ []) → ⊥
place_lost legal = let wrong : Rows [] ≡ Rows (row a 1 ∷ []) = legal.1.1.1.0.1 in cc

hold_damaged : IsLegal fresh [] (by 0 (Hold a c) (Damaged 7) ∷ []) → ⊥
hold_damaged legal = legal.0

-- a store that a worker's or a payment's fault stopped, and one why for all
all_stopped : IsLegal fresh [] (by 0 (Get a) (Stopped (BadPage 3)) ∷ by 1 (Put a (of 1 [])) (Stopped (BadPage 3)) ∷ [])
all_stopped = (tt, ((refl, tt), tt))

two_whys : IsLegal fresh [] (by 0 (Get a) (Stopped (Faulted 1)) ∷ by 0 (Get a) (Stopped (Faulted 2)) ∷ []) → ⊥
two_whys legal = let wrong : Faulted 1 ≡ Faulted 2 = legal.1.0.0 in cc

held_after_stop : IsLegal fresh [] (by 0 (Get a) (Stopped (Faulted 1)) ∷ by 0 (Hold a c) Held ∷ []) → ⊥
held_after_stop legal = let wrong : false ≡ true = legal.1.0.0 in cc

failed_after_stop : IsLegal fresh [] (by 0 (Get a) (Stopped (Faulted 1)) ∷ by 0 (Get a) Fault ∷ []) → ⊥
failed_after_stop legal = let wrong : false ≡ true = legal.1.0 in cc

-- a caller's work that failed stops the store
work_failed : IsLegal fresh [] (by 0 (Work 9) (Damaged 3) ∷ by 0 (Get a) (Stopped (BadPage 3)) ∷ [])
work_failed = (refl, ((tt, tt), tt))

-- its end may come after others were told of the stop
work_failed_late : IsLegal fresh [] (by 0 (Get a) (Stopped (Faulted 1)) ∷ by 1 (Work 9) Fault ∷ by 0 (Get a) (Stopped (Faulted 1)) ∷ [])
work_failed_late = (tt, (refl, ((refl, (tt, tt)), tt)))

-- but only one entry stops the store
two_stops : IsLegal fresh [] (by 0 (Work 9) Fault ∷ by 1 (Work 9) Fault ∷ []) → ⊥
two_stops legal = let wrong : false ≡ true = legal.1.0 in cc

done_after_work_failed : IsLegal fresh [] (by 0 (Work 9) Fault ∷ by 1 (Put a (of 1 [])) Done ∷ []) → ⊥
done_after_work_failed legal = let wrong : false ≡ true = legal.1.0.0 in cc

-- no more turns are done than were asked for
work_did : IsLegal fresh [] (by 0 (Work 9) (Did 6) ∷ [])
work_did = ((refl, (6, lit≤ tt, refl)), tt)

work_did_more : IsLegal fresh [] (by 0 (Work 9) (Did 10) ∷ []) → ⊥
work_did_more legal = let same : Did 10 ≡ Did legal.0.1.0 = legal.0.1.2 in let turns : 10 ≡ legal.0.1.0 = cc in absurd (omega (arith, legal.0.1.1, turns))
