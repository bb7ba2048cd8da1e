-- The edges of the rules, worked out: forgiving, the order of turns, the size of a write, the low mark.
use Rattle.std.proofs.Common.{◌≡◌, ℕ, Bool, List, [], ◌∷◌, true, false, refl, codes, replicate, map}
use Rattle.blsm_model.specs.declared.op.Op.{Op}
use Rattle.blsm_model.specs.declared.op.Op.TheVariants.{Put, Del, Hold}
use Rattle.blsm_model.specs.declared.history.Reply.{Reply}
use Rattle.blsm_model.specs.declared.history.Reply.TheVariants.{Done, Full}
use Rattle.blsm_model.specs.Sizes.{Sizes, default_sizes}
use Rattle.blsm_model.proofs.ExampleWords.{a, b, of}
use Rattle.record_delta.specs.declared.record.Rec.TheVariants.{Base}
use Rattle.gear_sched.specs.Gears.{GearState, at_rest, forgives_first, first_debt, took_first, deep_is_behind}
use Rattle.tree_machine.specs.Machine.{Machine, opened, in_pass}
use Rattle.tree_machine.specs.Steps.{Outcome, Well, admit}
use Rattle.tree_machine.specs.Plays.{may, played}
use Rattle.tree_machine.specs.Outcomes.{calls, reads}
use Rattle.tree_machine.specs.declared.step.Step.{Step}
use Rattle.tree_machine.specs.declared.step.Kind.TheVariants as kind
use Rattle.tree_machine.proofs.ExampleWords.{run}
use Rattle.tree_machine.proofs.Terms.{turns_of}

-- C1's mark is 80 here, its way 60, the capacity 160, and 140 without the half spring
abbrev tiny : Sizes
tiny = record { half = 20; ratio = 2; low = 14; quantum = 10 }

-- a pass that has taken so much, at gear 20 and 14 admitted
abbrev owed : List ℕ → ℕ → GearState
owed debts taken = record (at_rest (record tiny { ratio = 4 })) { pass = true; pass_admitted = 14; pass_taken = taken; first_debts = debts }

abbrev forgives : ℕ → Bool → List ℕ → Bool
forgives taken done debts = forgives_first (owed debts taken) done (first_debt (owed debts taken) 0)

-- a debt of 280 for 14 admitted at gear 20: forgiven where so much was taken, or is owed by others
forgiven_at_equality : forgives 280 false (280 ∷ 0 ∷ []) ≡ true
forgiven_at_equality = refl

owed_below : forgives 279 false (280 ∷ 0 ∷ []) ≡ false
owed_below = refl

others_owe : forgives 200 false (280 ∷ 80 ∷ []) ≡ true
others_owe = refl

others_owe_too_little : forgives 200 false (280 ∷ 79 ∷ []) ≡ false
others_owe_too_little = refl

-- one that is done or absent asks for nothing
done_forgives : forgives 0 true (280 ∷ []) ≡ true
done_forgives = refl

-- a debt falls by what was taken, at most to 0
paid_in_part : (took_first (owed (280 ∷ 500 ∷ []) 0) 1 300).first_debts ≡ 280 ∷ 200 ∷ []
paid_in_part = refl

paid_in_full : (took_first (owed (280 ∷ 500 ∷ []) 0) 1 600).first_debts ≡ 280 ∷ 0 ∷ []
paid_in_full = refl

abbrev numbers : ℕ → GearState
numbers taken = record (at_rest tiny) { deep = true; deep_input = 120; deep_admitted = 30; deep_taken = taken }

-- half of C1's way was admitted: the deep merge is behind with less than half of its input
behind_half : deep_is_behind (numbers 59) ≡ true
behind_half = refl

not_behind_at_half : deep_is_behind (numbers 60) ≡ false
not_behind_at_half = refl

-- a store that is opened with one record of this weight in C2
abbrev heavy : ℕ → Machine
heavy weight = opened tiny [] ((b, Base (of 0 (replicate weight 120))) ∷ []) (record { version = 1; lane_a = 0; lane_b = 1; lane_spare = 2 }) 0
    (record { entries = replicate 16 9; rows = replicate 16 9 })

abbrev replies : Op → Machine → List Reply
replies op m = map (λ e. e.reply) (admit m 0 op Well).state.book.entries

-- a put of 14 is taken at a charge of 126, and refused at 127; a del is taken up to 146
put_fits : replies (Put a (of 1 [])) (heavy 112) ≡ Done ∷ []
put_fits = refl

put_is_full : replies (Put a (of 1 [])) (heavy 113) ≡ Full 127 ∷ []
put_is_full = refl

del_fits : replies (Del a) (heavy 132) ≡ Done ∷ []
del_fits = refl

del_is_full : replies (Del a) (heavy 133) ≡ Full 147 ∷ []
del_is_full = refl

-- a pass begins past the low mark, and not at it
at_the_mark : in_pass (admit (heavy 0) 0 (Put a (of 1 [])) Well).state ≡ false
at_the_mark = refl

past_the_mark : in_pass (admit (heavy 0) 0 (Put a (of 1 (codes "x"))) Well).state ≡ true
past_the_mark = refl

-- ---- what a step calls

abbrev one_put : List Op
one_put = Put a (of 1 []) ∷ []

-- the tree after one put and so many turns of work
abbrev turned_by : List (Step × Outcome) → Machine
turned_by turns = played (run default_sizes one_put) turns

abbrev turn : Step × Outcome
turn = (record { seat = 0; kind = kind.WorkTurn }, Well)

-- a begin calls no disk, nor does a turn that idles
begin_calls_none : calls (turned_by []) 0 kind.WorkTurn ≡ false
begin_calls_none = refl

rest_calls_none : calls (run default_sizes []) 0 kind.WorkTurn ≡ false
rest_calls_none = refl

-- a quantum reads pages, and a swap only writes
quantum_reads : reads (turned_by (turn ∷ [])) 0 kind.WorkTurn ≡ true
quantum_reads = refl

swap_calls : calls (turned_by (turn ∷ turn ∷ [])) 0 kind.WorkTurn ≡ true
swap_calls = refl

swap_reads_none : reads (turned_by (turn ∷ turn ∷ [])) 0 kind.WorkTurn ≡ false
swap_reads_none = refl

-- a payment of nothing and a next without a hold call none
nothing_paid_calls_none : calls (turned_by []) 0 kind.Pay ≡ false
nothing_paid_calls_none = refl

next_calls_none : calls (turned_by []) 0 (kind.Next 1) ≡ false
next_calls_none = refl

held_next_calls : calls (run default_sizes (Put a (of 1 []) ∷ Hold a b ∷ [])) 0 (kind.Next 1) ≡ true
held_next_calls = refl

-- a write that is refused as full calls none
full_calls_none : calls (heavy 113) 0 (kind.Admit (Put a (of 1 []))) ≡ false
full_calls_none = refl

fitting_calls : calls (heavy 112) 0 (kind.Admit (Put a (of 1 []))) ≡ true
fitting_calls = refl

-- ---- turns of workers

abbrev helped : Machine
helped = played (run default_sizes one_put) ((record { seat = 17; kind = kind.WorkerTurn }, Well) ∷ [])

helped_turns : turns_of 17 helped ≡ 1
helped_turns = refl

other_turns : turns_of 16 helped ≡ 0
other_turns = refl

-- a caller takes no worker's turn
no_worker_turn : may helped 3 kind.WorkerTurn ≡ false
no_worker_turn = refl
