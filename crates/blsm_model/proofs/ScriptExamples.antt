-- Which histories are a script's, worked out. Beside each stands one that isn't.
use Rattle.std.proofs.Common.{◌≡◌, ℕ, List, [], ◌∷◌, refl}
use Rattle.blsm_model.specs.declared.op.Op.{Op}
use Rattle.blsm_model.specs.declared.op.Op.TheVariants.{Put, Get, Release}
use Rattle.blsm_model.specs.declared.history.Reply.TheVariants.{Done, Is, Absent, NoHold}
use Rattle.blsm_model.specs.declared.history.Line.{Line}
use Rattle.blsm_model.specs.Scripts.{IsOfScript}
use Rattle.blsm_model.proofs.ExampleWords.{a, by, of}
use Rattle.blsm_model.proofs.ScriptLemmas.{of_script}

abbrev ask : ℕ → Op → Line
ask seat op = record { seat = seat; op = op }

-- two callers: the first drops and gets, the second puts
abbrev script : List Line
script = ask 0 Release ∷ ask 1 (Put a (of 1 [])) ∷ ask 0 (Get a) ∷ []

line_by_line : IsOfScript script (by 0 Release NoHold ∷ by 1 (Put a (of 1 [])) Done ∷ by 0 (Get a) (Is (of 1 [])) ∷ [])
line_by_line = of_script script (by 0 Release NoHold ∷ by 1 (Put a (of 1 [])) Done ∷ by 0 (Get a) (Is (of 1 [])) ∷ []) refl

-- a caller's own lines keep their order
own_order_lost : IsOfScript script (by 0 (Get a) Absent ∷ by 1 (Put a (of 1 [])) Done ∷ by 0 Release NoHold ∷ []) → ⊥
own_order_lost of_it = let wrong : Get a ∷ Release ∷ [] ≡ Release ∷ Get a ∷ [] = of_it 0 in cc

-- each line has its entry
line_left_out : IsOfScript script (by 0 Release NoHold ∷ by 0 (Get a) Absent ∷ []) → ⊥
line_left_out of_it = let wrong : [] ≡ Put a (of 1 []) ∷ [] = of_it 1 in cc

-- and there is no other entry
none_asked : IsOfScript script (by 0 Release NoHold ∷ by 1 (Put a (of 1 [])) Done ∷ by 0 (Get a) Absent ∷ by 7 Release NoHold ∷ []) → ⊥
none_asked of_it = let wrong : Release ∷ [] ≡ [] = of_it 7 in cc
