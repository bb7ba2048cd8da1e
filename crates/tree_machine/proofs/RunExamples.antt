-- Runs of one caller over a fresh store, worked out: what they print.
use Rattle.std.proofs.Common.{◌≡◌, ℕ, List, [], ◌∷◌, ◌++◌, refl, codes, map, replicate}
use Rattle.std.specs.Fmt.{digits}
use Rattle.blsm_model.specs.declared.op.Op.TheVariants.{Put, Add, Del, Get, Hold, Next, Release, Work}
use Rattle.blsm_model.specs.declared.history.Reply.TheVariants.{Done, Is, Did}
use Rattle.blsm_model.specs.Sizes.{Sizes, default_sizes}
use Rattle.tree_machine.specs.Machine.{Machine, Catalogue}
use Rattle.tree_machine.proofs.ExampleWords.{run, printed}
use Rattle.blsm_model.proofs.ExampleWords.{a, b, c, of}

abbrev line : List ℕ → List ℕ
line text = text ++ 10 ∷ []

-- a value is put, read, and removed
put_get_del : printed (run default_sizes (Put a (of 5 (codes "hi")) ∷ Get a ∷ Del a ∷ Get a ∷ []))
    ≡ line (codes "open charge 0") ++ line (codes "1 1 put a 5 hi => ok q0") ++ line (codes "2 1 get a => is 5 hi q0") ++ line (codes "3 1 del a => ok q0")
    ++ line (codes "4 1 get a => none q0") ++ line (codes "end c0 16 of 65536 callers 0 workers 0 swaps 0 0")
unfolding digits
put_get_del = refl

-- the turns of a work: begin, quantum, swap, rotation, quantum, swap
worked_down : printed (run default_sizes (Put (codes "x") (of 100 (codes "old")) ∷ Work 100 ∷ Del (codes "x") ∷ Add (codes "x") 7 ∷ Get (codes "x") ∷ []))
    ≡ line (codes "open charge 0") ++ line (codes "1 1 put x 100 old => ok q0") ++ line (codes "2 1 work 100 => did 6 q2") ++ line (codes "3 1 del x => ok q0")
    ++ line (codes "4 1 add x 7 => ok q0") ++ line (codes "5 1 get x => is 7 - q0") ++ line (codes "end c0 17 of 65536 callers 2 workers 0 swaps 1 1")
unfolding digits
worked_down = refl

abbrev small_quantum : Sizes
small_quantum = record default_sizes { quantum = 1024 }

abbrev long : List ℕ
long = replicate 435 120

-- A quantum takes b, c and d. Then c is written behind the cursor, and g ahead of it.

abbrev snowshovelled : Machine
snowshovelled = run small_quantum (
    Put b (of 0 long) ∷ Put c (of 0 long) ∷ Put (codes "d") (of 0 long) ∷ Put (codes "e") (of 0 long) ∷ Put (codes "f") (of 0 long) ∷ Work 2
    ∷ Put c (of 1 []) ∷ Put (codes "g") (of 2 []) ∷ Get c ∷ Get (codes "g") ∷ Work 3 ∷ Get c ∷ Get (codes "g") ∷ [])

snowshovelled_replies : map (λ e. e.reply) snowshovelled.book.entries
    ≡ Done ∷ Done ∷ Done ∷ Done ∷ Done ∷ Did 2 ∷ Done ∷ Done ∷ Is (of 1 []) ∷ Is (of 2 []) ∷ Did 3 ∷ Is (of 1 []) ∷ Is (of 2 []) ∷ []
snowshovelled_replies = refl

snowshovelled_quanta : snowshovelled.book.quanta ≡ 0 ∷ 0 ∷ 0 ∷ 0 ∷ 0 ∷ 1 ∷ 0 ∷ 0 ∷ 0 ∷ 0 ∷ 1 ∷ 0 ∷ 0 ∷ []
snowshovelled_quanta = refl

snowshovelled_peak : snowshovelled.counts.peak ≡ 2273
snowshovelled_peak = refl

-- one key over and over: with a low mark of two such entries each third write begins a pass, and pays for it
abbrev low_mark : Sizes
low_mark = record default_sizes { low = 1024 }

abbrev rewritten : Machine
rewritten = run low_mark (replicate 9 (Put (replicate 64 107) (of 9 long)))

rewritten_quanta : rewritten.book.quanta ≡ 0 ∷ 0 ∷ 1 ∷ 0 ∷ 0 ∷ 1 ∷ 0 ∷ 0 ∷ 1 ∷ []
rewritten_quanta = refl

rewritten_peak : rewritten.counts.peak ≡ 512
rewritten_peak = refl

rewritten_passes : rewritten.counts.passes ≡ 2
rewritten_passes = refl

-- a hold keeps the rows of its moment over writes and merges
held_over_merges : printed (
    run default_sizes (
    Put a (of 1 []) ∷ Put b (of 2 []) ∷ Work 1000 ∷ Hold a c ∷ Put a (of 9 []) ∷ Del b ∷ Work 1000 ∷ Next 32 ∷ Next 32 ∷ Get b ∷ Release ∷ Next 1 ∷ []))
    ≡ line (codes "open charge 0") ++ line (codes "1 1 put a 1 - => ok q0") ++ line (codes "2 1 put b 2 - => ok q0") ++ line (codes "3 1 work 1000 => did 6 q2")
    ++ line (codes "4 1 hold a c => held q0") ++ line (codes "5 1 put a 9 - => ok q0") ++ line (codes "6 1 del b => ok q0") ++ line (codes "7 1 work 1000 => did 6 q2")
    ++ line (codes "8 1 next 32 => rows 2 a 1 - b 2 - q0") ++ line (codes "9 1 next 32 => rows 0 q0") ++ line (codes "10 1 get b => none q0") ++ line (codes "11 1 drop => ok q0")
    ++ line (codes "12 1 next 1 => nohold q0") ++ line (codes "end c0 28 of 65536 callers 4 workers 0 swaps 2 2")
unfolding digits
held_over_merges = refl

-- the same of the default geometry: a hundred writes of 512 bytes, of which each thirty-third pays
hundred : Machine
hundred = run default_sizes (replicate 100 (Put (replicate 64 107) (of 9 long)))

hundred_quanta : hundred.book.quanta ≡ (replicate 32 0 ++ 1 ∷ []) ++ (replicate 32 0 ++ 1 ∷ []) ++ (replicate 32 0 ++ 1 ∷ []) ++ 0 ∷ []
unfolding hundred
hundred_quanta = refl

hundred_swaps : hundred.counts.passes ≡ 3
unfolding hundred
hundred_swaps = refl

-- ---- commits and lanes

abbrev first_catalogue : Catalogue
first_catalogue = record { version = 1; lane_a = 0; lane_b = 1; lane_spare = 2 }

-- writes alone commit nothing
written_only : (run default_sizes (Put a (of 5 (codes "hi")) ∷ Del a ∷ [])).catalogue ≡ first_catalogue
written_only = refl

-- a swap of the pass, a rotation by itself and a swap of the deep merge are a commit each, and the first turns the lanes
worked_catalogue : (run default_sizes (Put a (of 1 []) ∷ Work 100 ∷ [])).catalogue ≡ record { version = 4; lane_a = 1; lane_b = 2; lane_spare = 0 }
worked_catalogue = refl

worked_twice_catalogue : (run default_sizes (Put a (of 1 []) ∷ Work 100 ∷ Put a (of 2 []) ∷ Work 100 ∷ [])).catalogue ≡ record { version = 7; lane_a = 2; lane_b = 0; lane_spare = 1 }
worked_twice_catalogue = refl

hundred_version : hundred.catalogue.version ≡ 4
unfolding hundred
hundred_version = refl
