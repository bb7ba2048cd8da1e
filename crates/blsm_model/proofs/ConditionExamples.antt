-- Conditional writes, worked out. Beside each history stands one that is refused.
use Rattle.std.proofs.Common.{◌≡◌, [], ◌∷◌, Some, None, refl, codes, lit<, lit≤, true, false}
use Rattle.blsm_model.specs.declared.op.Op.TheVariants.{Put, Tail, Del, New, Swap, Get}
use Rattle.blsm_model.specs.declared.history.Why.TheVariants.{Faulted}
use Rattle.blsm_model.specs.declared.history.Reply.TheVariants.{Done, Is, Kept, Full, Fault, Damaged, FaultLost, FaultUnsure, Stopped}
use Rattle.blsm_model.specs.Legal.{Limits, IsLegal}
use Rattle.blsm_model.specs.Geometry.{limits_of}
use Rattle.blsm_model.proofs.ExampleWords.{a, b, by, of, fresh}

-- a new puts where nothing is, a swap where the count is its own
new_and_swap : IsLegal fresh [] (
    by 0 (New a (of 1 (codes "x"))) Done ∷ by 0 (New a (of 2 (codes "y"))) (Kept (Some (of 1 (codes "x"))))
    ∷ by 0 (Swap a 1 (of 7 (codes "z"))) Done ∷ by 0 (Swap a 1 (of 9 (codes "z"))) (Kept (Some (of 7 (codes "z"))))
    ∷ by 0 (Swap b 0 (of 1 [])) (Kept None) ∷ by 0 (Get a) (Is (of 7 (codes "z"))) ∷ [])
new_and_swap = ((refl, refl), ((refl, refl), ((refl, refl), ((refl, refl), ((refl, refl), ((refl, refl), tt))))))

-- two callers can't both put
two_news : IsLegal fresh [] (by 0 (New a (of 1 [])) Done ∷ by 1 (New a (of 2 [])) Done ∷ []) → ⊥
two_news legal = let wrong : Done ≡ Kept (Some (of 1 [])) = legal.1.0.1 in cc

-- nor may one be kept out by nothing
kept_by_nothing : IsLegal fresh [] (by 0 (New a (of 1 [])) (Kept None) ∷ []) → ⊥
kept_by_nothing legal = let wrong : Kept None ≡ Done = legal.0.1 in cc

-- a write that was kept out changes nothing
kept_and_done : IsLegal fresh [] (by 0 (Put a (of 1 [])) Done ∷ by 0 (New a (of 2 [])) (Kept (Some (of 1 [])))
    ∷ by 0 (Swap a 2 (of 3 [])) Done ∷ []) → ⊥
kept_and_done legal = let wrong : Done ≡ Kept (Some (of 1 [])) = legal.1.1.0.1 in cc

-- after a del a key is absent, a change that comes first makes it present
after_changes : IsLegal fresh [] (
    by 0 (Put a (of 1 (codes "x"))) Done ∷ by 0 (Del a) Done ∷ by 0 (Swap a 1 (of 2 [])) (Kept None) ∷ by 0 (New a (of 3 (codes "z"))) Done
    ∷ by 0 (Tail b (codes "z")) Done ∷ by 0 (Swap b 0 (of 1 [])) Done ∷ by 0 (Get b) (Is (of 1 [])) ∷ [])
after_changes = ((refl, refl), ((refl, refl), ((refl, refl), ((refl, refl), ((refl, refl), ((refl, refl), ((refl, refl), tt)))))))

-- a store of the smallest geometry that is filled to 121,856 bytes
abbrev filled : Limits
filled = limits_of (record { half = 17408; ratio = 2; low = 16384; quantum = 4096 }) 121856

-- a write is refused for its size only where its condition holds
full_new : IsLegal filled ((a, of 1 []) ∷ []) (by 0 (New a (of 2 [])) (Kept (Some (of 1 []))) ∷ by 0 (New b (of 2 [])) (Full 121856)
    ∷ by 0 (Swap a 1 (of 2 [])) (Full 121856) ∷ [])
full_new = (
  (refl, refl),
  (
    (refl, record { write = refl; past = lit< tt; made = lit≤ tt }, refl),
    ((refl, record { write = refl; past = lit< tt; made = lit≤ tt }, refl), tt),
  ),
)

full_before_looking : IsLegal filled ((a, of 1 []) ∷ []) (by 0 (New a (of 2 [])) (Full 121856) ∷ []) → ⊥
full_before_looking legal = let wrong : false ≡ true = legal.0.2 in cc

-- a lookup that fails stops nothing
look_failed : IsLegal fresh [] (by 0 (New a (of 1 [])) Fault ∷ by 0 (Swap a 1 (of 2 [])) (Damaged 7) ∷ by 0 (New a (of 1 [])) Done ∷ [])
look_failed = (refl, (refl, ((refl, refl), tt)))

-- an append that fails does
append_failed : IsLegal fresh [] (by 0 (New a (of 1 [])) FaultUnsure ∷ by 0 (Get a) (Stopped (Faulted 1)) ∷ [])
append_failed = ((refl, refl), ((tt, tt), tt))

done_after_failed : IsLegal fresh [] (by 0 (New a (of 1 [])) FaultLost ∷ by 0 (New a (of 1 [])) Done ∷ []) → ⊥
done_after_failed legal = let wrong : false ≡ true = legal.1.0.0 in cc
