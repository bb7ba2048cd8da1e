-- Writes that look first, worked out: what runs with them print, and what such a step calls.
use Rattle.std.proofs.Common.{◌≡◌, ℕ, List, [], ◌∷◌, ◌++◌, true, false, refl, codes, replicate}
use Rattle.std.specs.Fmt.{digits}
use Rattle.blsm_model.specs.declared.op.Op.TheVariants.{Put, Add, Tail, Del, New, Swap, Get, Work}
use Rattle.blsm_model.specs.Sizes.{default_sizes}
use Rattle.blsm_model.proofs.ExampleWords.{a, b, c, of}
use Rattle.record_delta.specs.declared.record.Rec.TheVariants.{Base}
use Rattle.tree_machine.specs.declared.step.Kind.{Kind}
use Rattle.tree_machine.specs.declared.step.Kind.TheVariants as kind
use Rattle.tree_machine.specs.declared.step.Step.{Step}
use Rattle.tree_machine.specs.Machine.{Machine, opened}
use Rattle.tree_machine.specs.Steps.{Outcome, Well, FailedAfter, FailedLooking, Broken}
use Rattle.tree_machine.specs.Plays.{played}
use Rattle.tree_machine.specs.Outcomes.{calls, calls_behind_look, reads}
use Rattle.tree_machine.proofs.ExampleWords.{fresh, printed, run}

abbrev line : List ℕ → List ℕ
line text = text ++ 10 ∷ []

-- a key that was removed is absent, and a change that comes first makes one present
changed : printed (run default_sizes (
    Put a (of 1 (codes "x")) ∷ Del a ∷ Swap a 1 (of 2 (codes "y")) ∷ New a (of 3 (codes "z")) ∷ Add c 5 ∷ Swap c 5 (of 6 [])
    ∷ Tail b (codes "z") ∷ Swap b 0 (of 1 []) ∷ Get a ∷ Get c ∷ Get b ∷ []))
    ≡ line (codes "open charge 0") ++ line (codes "1 1 put a 1 x => ok q0") ++ line (codes "2 1 del a => ok q0")
    ++ line (codes "3 1 swap a 1 2 y => kept none q0") ++ line (codes "4 1 new a 3 z => ok q0") ++ line (codes "5 1 add c 5 => ok q0")
    ++ line (codes "6 1 swap c 5 6 - => ok q0") ++ line (codes "7 1 tail b z => ok q0") ++ line (codes "8 1 swap b 0 1 - => ok q0")
    ++ line (codes "9 1 get a => is 3 z q0") ++ line (codes "10 1 get c => is 6 - q0") ++ line (codes "11 1 get b => is 1 - q0")
    ++ line (codes "end c0 44 of 65536 callers 0 workers 0 swaps 0 0")
unfolding digits
changed = refl

-- what lies in C2 is looked at
looked_down : printed (run default_sizes (
    Put (codes "x") (of 100 (codes "old")) ∷ Work 100 ∷ New (codes "x") (of 1 []) ∷ Swap (codes "x") 100 (of 7 (codes "new")) ∷ Get (codes "x") ∷ []))
    ≡ line (codes "open charge 0") ++ line (codes "1 1 put x 100 old => ok q0") ++ line (codes "2 1 work 100 => did 6 q2")
    ++ line (codes "3 1 new x 1 - => kept 100 old q0") ++ line (codes "4 1 swap x 100 7 new => ok q0") ++ line (codes "5 1 get x => is 7 new q0")
    ++ line (codes "end c0 17 of 65536 callers 2 workers 0 swaps 1 1")
unfolding digits
looked_down = refl

abbrev made : Kind → Outcome → Step × Outcome
made kind outcome = (record { seat = 0; kind = kind }, outcome)

-- a lookup that fails, or meets a damaged page, stops nothing, and an append that fails does
lookups_fail : printed (played (fresh default_sizes) (
    made (kind.Admit (New a (of 1 []))) (FailedLooking 1) ∷ made (kind.Admit (New a (of 1 []))) (Broken 7) ∷ made (kind.Admit (New a (of 1 []))) Well
    ∷ made (kind.Admit (Swap a 1 (of 2 []))) (FailedAfter 0 2) ∷ made (kind.Admit (New a (of 3 []))) Well ∷ []))
    ≡ line (codes "open charge 0") ++ line (codes "1 1 new a 1 - => fault q0") ++ line (codes "2 1 new a 1 - => damaged page 7 q0")
    ++ line (codes "3 1 new a 1 - => ok q0") ++ line (codes "4 1 swap a 1 2 - => fault unsure q0") ++ line
    (codes "5 1 new a 3 - => stopped fault 2 q0")
    ++ line (codes "end c0 14 of 65536 callers 0 workers 0 swaps 0 0")
unfolding digits
lookups_fail = refl

-- a store that is opened with b in C2, whose charge is 127, where writes are taken up to 140
abbrev full : Machine
full = opened (record { half = 20; ratio = 2; low = 14; quantum = 10 }) [] ((b, Base (of 0 (replicate 113 120))) ∷ [])
    (record { version = 1; lane_a = 0; lane_b = 1; lane_spare = 2 }) 0 (record { entries = replicate 16 9; rows = replicate 16 9 })

-- a failed lookup comes before a failed condition, and that before the size
looks_before_size : printed (played full (
    made (kind.Admit (New b (of 1 []))) (FailedLooking 1) ∷ made (kind.Admit (New b (of 1 []))) Well ∷ made (kind.Admit (Swap b 0 (of 1 []))) Well
    ∷ made (kind.Admit (New a (of 1 []))) Well ∷ []))
    ≡ line (codes "open charge 127") ++ line (codes "1 1 new b 1 - => fault q0") ++ line
    (codes "2 1 new b 1 - => kept 0 " ++ replicate 113 120 ++ codes " q0")
    ++ line (codes "3 1 swap b 0 1 - => full 127 q0") ++ line (codes "4 1 new a 1 - => full 127 q0") ++ line
    (codes "end c0 0 of 40 callers 0 workers 0 swaps 0 0")
unfolding digits
looks_before_size = refl

-- one that is refused for its size has read pages, and calls the disk no more
full_reads : reads full 0 (kind.Admit (New a (of 1 []))) ≡ true
full_reads = refl

full_calls : calls full 0 (kind.Admit (New a (of 1 []))) ≡ true
full_calls = refl

full_ends : calls_behind_look full 0 (kind.Admit (New a (of 1 []))) ≡ false
full_ends = refl

-- nor does one whose condition doesn't hold
unmet_ends : calls_behind_look (fresh default_sizes) 0 (kind.Admit (Swap a 1 (of 2 []))) ≡ false
unmet_ends = refl

met_goes_on : calls_behind_look (fresh default_sizes) 0 (kind.Admit (New a (of 2 []))) ≡ true
met_goes_on = refl

-- a put reads none
put_reads_none : reads full 0 (kind.Admit (Put a (of 1 []))) ≡ false
put_reads_none = refl
