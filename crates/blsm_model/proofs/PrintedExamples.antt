-- The printed text of each command and each reply, and of a whole run.
use Rattle.std.proofs.Common.{◌≡◌, ◌++◌, List, [], ◌∷◌, Some, None, map, refl, ap, codes, slice_index, arith}
use Rattle.std.specs.Fmt.{digits}
use Rattle.blsm_model.specs.declared.op.Op.TheVariants.{Put, Add, Tail, Del, New, Swap, Get, Hold, Next, Release, Work}
use Rattle.blsm_model.specs.declared.history.Why.TheVariants.{Faulted, BadPage}
use Rattle.blsm_model.specs.declared.history.Reply.TheVariants.{
  Done,
  Is,
  Absent,
  Kept,
  Held,
  Rows,
  NoHold,
  Did,
  Full,
  NoMemory,
  FaultLost,
  FaultUnsure,
  Fault,
  Damaged,
  Stopped,
}
use Rattle.blsm_model.specs.declared.history.Entry.{Entry}
use Rattle.blsm_model.specs.Printed.{command_text, reply_text, entry_text, history_text}
use Rattle.blsm_model.proofs.ExampleWords.{a, b, by, of, row}

each_command : map command_text (
    Put a (of 5 (codes "hi")) ∷ Put a (of 5 []) ∷ Add a 7 ∷ Tail a (codes "end") ∷ Del a ∷ New a (of 5 (codes "hi")) ∷ Swap a 5 (of 7 [])
    ∷ Get a ∷ Hold a b ∷ Next 32 ∷ Release ∷ Work 100000 ∷ [])
    ≡ codes "put a 5 hi" ∷ codes "put a 5 -" ∷ codes "add a 7" ∷ codes "tail a end" ∷ codes "del a" ∷ codes "new a 5 hi" ∷ codes "swap a 5 7 -"
    ∷ codes "get a" ∷ codes "hold a b" ∷ codes "next 32" ∷ codes "drop" ∷ codes "work 100000" ∷ []
unfolding digits
each_command = refl

each_reply : map reply_text (
    Done ∷ Is (of 5 (codes "hi")) ∷ Is (of 7 []) ∷ Absent ∷ Kept (Some (of 5 (codes "hi"))) ∷ Kept None ∷ Held ∷ Rows []
    ∷ Rows (row a 1 ∷ row b 2 ∷ []) ∷ NoHold ∷ Did 6 ∷ Full 121856 ∷ NoMemory ∷ FaultLost ∷ FaultUnsure ∷ Fault ∷ Damaged 12 ∷ Stopped (Faulted 1) ∷
    Stopped (BadPage 3) ∷ [])
    ≡ codes "ok" ∷ codes "is 5 hi" ∷ codes "is 7 -" ∷ codes "none" ∷ codes "kept 5 hi" ∷ codes "kept none" ∷ codes "held"
    ∷ codes "rows 0" ∷ codes "rows 2 a 1 - b 2 -" ∷ codes "nohold" ∷ codes "did 6" ∷ codes "full 121856" ∷ codes "no memory"
    ∷ codes "fault lost" ∷ codes "fault unsure" ∷ codes "fault" ∷ codes "damaged page 12" ∷ codes "stopped fault 1" ∷ codes "stopped page 3" ∷ []
unfolding digits
each_reply = refl

abbrev put_get_del_get : List Entry
put_get_del_get =
    by 0 (Put a (of 5 (codes "hi"))) Done ∷ by 0 (Get a) (Is (of 5 (codes "hi"))) ∷ by 0 (Del a) Done ∷ by 0 (Get a) Absent ∷ []

-- a whole run, each caller's quanta being 0
put_get_del_get_text : history_text 0 put_get_del_get (0 ∷ 0 ∷ 0 ∷ 0 ∷ []) (record { peak = 16; high = 65536; callers = 0; workers = 0; passes = 0; deeps = 0; charge = 30; stopped = None })
    ≡ codes "open charge 0" ++ 10 ∷ [] ++ codes "1 1 put a 5 hi => ok q0" ++ 10 ∷ [] ++ codes "2 1 get a => is 5 hi q0" ++ 10 ∷ []
    ++ codes "3 1 del a => ok q0" ++ 10 ∷ [] ++ codes "4 1 get a => none q0" ++ 10 ∷ [] ++ codes "end c0 16 of 65536 callers 0 workers 0 swaps 0 0" ++ 10 ∷ []
unfolding digits
put_get_del_get_text = refl

-- the seventh number of the last line is the deep merges' swaps
empty_run_text : history_text 14 [] [] (record { peak = 17; high = 65536; callers = 2; workers = 3; passes = 4; deeps = 5; charge = 17; stopped = None })
    ≡ codes "open charge 14" ++ 10 ∷ [] ++ codes "end c0 17 of 65536 callers 2 workers 3 swaps 4 5" ++ 10 ∷ []
unfolding digits
empty_run_text = refl

-- places and callers are counted from 1
sixteenth_caller : entry_text 33 (by 15 Release Done) 1 ≡ codes "33 16 drop => ok q1" ++ 10 ∷ []
unfolding digits
sixteenth_caller = refl

counted_from_0 : entry_text 1 (by 0 Release Done) 0 ≡ codes "1 0 drop => ok q0" ++ 10 ∷ [] → ⊥
unfolding digits
counted_from_0 wrong = let third : 49 ≡ 48 = ap (λ text. slice_index text 2) wrong in absurd (omega (arith, third))
