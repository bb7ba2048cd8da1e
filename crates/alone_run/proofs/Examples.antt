-- Commands done alone over a fresh store, worked out; and runs by steps in another order, with the same end.
use Rattle.std.proofs.Common.{◌≡◌, ℕ, List, [], ◌∷◌, ◌++◌, map, codes, refl, replicate, true, false}
use Rattle.std.specs.Fmt.{digits}
use Rattle.blsm_model.proofs.ExampleWords.{a, of}
use Rattle.blsm_model.specs.Printed.{history_text}
use Rattle.blsm_model.specs.Sizes.{Sizes, default_sizes}
use Rattle.blsm_model.specs.declared.op.Op.{Op}
use Rattle.blsm_model.specs.declared.op.Op.TheVariants.{Put, Add, Del, Get, Work}
use Rattle.tree_machine.specs.declared.step.Kind.{Kind}
use Rattle.tree_machine.specs.declared.step.Kind.TheVariants as kind
use Rattle.tree_machine.specs.declared.step.Step.{Step}
use Rattle.tree_machine.specs.Machine.{Machine, opened, owes, totals}
use Rattle.tree_machine.specs.Plays.{played}
use Rattle.tree_machine.specs.Steps.{Outcome, Well}
use Rattle.alone_run.specs.Alone.{alone}

-- a fresh store, with room enough
abbrev fresh : Sizes → Machine
fresh sizes = opened sizes [] [] (record { version = 1; lane_a = 0; lane_b = 1; lane_spare = 2 }) 0 (record { entries = replicate 16 1000; rows = replicate 16 1000 })

-- what is printed
abbrev printed : Machine → List ℕ
printed m = history_text m.counts.charge m.book.entries m.book.quanta (totals m)

abbrev line : List ℕ → List ℕ
line text = text ++ 10 ∷ []

-- a work of many turns is over after the sixth: begin, quantum, swap, rotation, quantum, swap
worked_down : printed (alone 0 (fresh default_sizes) (Put (codes "x") (of 100 (codes "old")) ∷ Work 8 ∷ Del (codes "x") ∷ Add (codes "x") 7 ∷ Get (codes "x") ∷ []))
    ≡ line (codes "open charge 0") ++ line (codes "1 1 put x 100 old => ok q0") ++ line (codes "2 1 work 8 => did 6 q2") ++ line (codes "3 1 del x => ok q0")
    ++ line (codes "4 1 add x 7 => ok q0") ++ line (codes "5 1 get x => is 7 - q0") ++ line (codes "end c0 17 of 65536 callers 2 workers 0 swaps 1 1")
unfolding digits
worked_down = refl

-- With a low mark of two such writes each third one begins a pass, and pays for it.
abbrev low_mark : Sizes
low_mark = record default_sizes { low = 1024 }

abbrev heavy : Op
heavy = Put (replicate 64 107) (of 9 (replicate 435 120))

rewritten_quanta : (alone 0 (fresh low_mark) (replicate 9 heavy)).book.quanta ≡ 0 ∷ 0 ∷ 1 ∷ 0 ∷ 0 ∷ 1 ∷ 0 ∷ 0 ∷ 1 ∷ []
rewritten_quanta = refl

-- steps that went well
abbrev went_well : List (ℕ × Kind) → List (Step × Outcome)
went_well steps = map (λ one. (record { seat = one.0; kind = one.1 }, Well)) steps

abbrev three_writes : List (ℕ × Kind)
three_writes = (0, kind.Admit heavy) ∷ (0, kind.Pay) ∷ (0, kind.Admit heavy) ∷ (3, kind.Pay) ∷ (0, kind.Admit heavy) ∷ []

-- Whether the get comes before the payments or after them, and when the others leave, is not printed.
paid_late : printed (played (fresh low_mark) (went_well (three_writes ++ (0, kind.Look (Get a)) ∷ (3, kind.Leave) ∷ (0, kind.Pay) ∷ (0, kind.Pay) ∷ (0, kind.Leave) ∷ [])))
    ≡ printed (alone 0 (fresh low_mark) (heavy ∷ heavy ∷ heavy ∷ Get a ∷ []))
paid_late = refl

paid_late_quanta : (alone 0 (fresh low_mark) (heavy ∷ heavy ∷ heavy ∷ Get a ∷ [])).book.quanta ≡ 0 ∷ 0 ∷ 1 ∷ 0 ∷ []
paid_late_quanta = refl

-- a turn after a work is over isn't printed either
idle_turns : printed (played (fresh default_sizes) (went_well ((0, kind.Admit (Put a (of 1 []))) ∷ replicate 8 (0, kind.WorkTurn) ++ (0, kind.WorkEnd 9) ∷ [])))
    ≡ printed (alone 0 (fresh default_sizes) (Put a (of 1 []) ∷ Work 9 ∷ []))
idle_turns = refl

-- Not so where the last write isn't paid for, or where a worker paid for it.
unpaid : owes 0 (played (fresh low_mark) (went_well three_writes)) ≡ true
unpaid = refl

helped_quanta : (played (fresh low_mark) (went_well (three_writes ++ (16, kind.WorkerTurn) ∷ (0, kind.Pay) ∷ []))).book.quanta ≡ 0 ∷ 0 ∷ 0 ∷ []
helped_quanta = refl

helped_is_even : owes 0 (played (fresh low_mark) (went_well (three_writes ++ (16, kind.WorkerTurn) ∷ (0, kind.Pay) ∷ []))) ≡ false
helped_is_even = refl
