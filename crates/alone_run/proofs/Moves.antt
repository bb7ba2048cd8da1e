-- What the merges' moves keep: the callers' work, the book and the stop; and that the gears know which merges run.
use Rattle.std.proofs.Common.{◌≡◌, ◌∙◌, refl, ap, ℕ, ◌+◌, Bool, cond, true, false, not, ◌&&◌, List, [], ◌∷◌, Option, Some, None, is_some}
use Rattle.std.specs.Prelude.{nat_le, nat_lt}
use Rattle.blsm_model.specs.Geometry.{c1_mark}
use Rattle.blsm_model.specs.declared.op.Write.{Write}
use Rattle.record_delta.specs.Entries.{entries_weight}
use Rattle.tree_machine.specs.Machine.{Machine, in_pass, pass_done, deep_done}
use Rattle.tree_machine.specs.Merges.{Merge}
use Rattle.tree_machine.specs.Moves.{begin_pass, deep_quantum, deep_quantum_of, end_pass, output_of, pass_quantum, pass_quantum_of, rotate, rotate_alone, swap_deep, swap_pass}
use Rattle.tree_machine.specs.Steps.{Choice, SwapDeep, SwapPass, DeepQuantum, PassQuantum, Begin, Rotate, Rest, chosen, deep_swapped, ready_for, swapped, taken_together}

-- the gears say that a merge runs just where one does
abbrev pub Synced : Machine → Type 0
Synced m = (m.gears.pass ≡ is_some m.merges.pass) × (m.gears.deep ≡ is_some m.merges.deep)

pub record Moves (old new : Machine) : Type 0 where
  pub synced : Synced old → Synced new
  pub work : new.seats.work ≡ old.seats.work
  pub book : new.book ≡ old.book
  pub stopped : new.stopped ≡ old.stopped

pub moves_none : (m : Machine) → Moves m m
moves_none m = record { synced = λ s. s; work = refl; book = refl; stopped = refl }

pub moves_on : {a b c : Machine} → Moves a b → Moves b c → Moves a c
moves_on {a} {b} {c} p q = record { synced = λ s. q.synced (p.synced s); work = q.work ∙ p.work; book = q.book ∙ p.book; stopped = q.stopped ∙ p.stopped }

moves_if : (b : Bool) (m left right : Machine) → Moves m left → Moves m right → Moves m (cond b left right)
moves_if true m left right p q = p
moves_if false m left right p q = q

begin_moves : (m : Machine) → Moves m (begin_pass m)
begin_moves m = record { synced = λ s. (refl, s.1); work = refl; book = refl; stopped = refl }

rotate_moves : (m : Machine) → Moves m (rotate m)
rotate_moves m = record { synced = λ s. (s.0, refl); work = refl; book = refl; stopped = refl }

rotate_alone_moves : (m : Machine) → Moves m (rotate_alone m)
rotate_alone_moves m = record { synced = λ s. (s.0, refl); work = refl; book = refl; stopped = refl }

swap_deep_moves : (m : Machine) → Moves m (swap_deep m)
swap_deep_moves m = record { synced = λ s. (s.0, refl); work = refl; book = refl; stopped = refl }

end_pass_moves : (m : Machine) → Moves m (end_pass m)
end_pass_moves m = record { synced = λ s. (refl, s.1); work = refl; book = refl; stopped = refl }

swap_pass_moves : (m : Machine) → Moves m (swap_pass m)
swap_pass_moves m =
    moves_on (end_pass_moves m) (moves_if (nat_le (c1_mark m.gears.sizes) (entries_weight (output_of m.merges.pass))) (end_pass m) (rotate (end_pass m)) (end_pass m) (rotate_moves (end_pass m)) (moves_none (end_pass m)))

pub pass_quantum_moves : (seat : ℕ) (m : Machine) → Moves m (pass_quantum seat m)
pass_quantum_moves seat m = by m.merges.pass refl
  where
    by : (p : Option Merge) → m.merges.pass ≡ p → Moves m (pass_quantum_of p seat m)
    by None is = moves_none m
    by (Some pass) is = record { synced = λ s. (s.0 ∙ ap is_some is, s.1); work = refl; book = refl; stopped = refl }

pub deep_quantum_moves : (seat : ℕ) (m : Machine) → Moves m (deep_quantum seat m)
deep_quantum_moves seat m = by m.merges.deep refl
  where
    by : (p : Option Merge) → m.merges.deep ≡ p → Moves m (deep_quantum_of p seat m)
    by None is = moves_none m
    by (Some deep) is = record { synced = λ s. (s.0, s.1 ∙ ap is_some is); work = refl; book = refl; stopped = refl }

pub chosen_moves : (c : Choice) (seat : ℕ) (m : Machine) → Moves m (chosen c seat m)
chosen_moves SwapDeep seat m = swap_deep_moves m
chosen_moves SwapPass seat m = swap_pass_moves m
chosen_moves DeepQuantum seat m = deep_quantum_moves seat m
chosen_moves PassQuantum seat m = pass_quantum_moves seat m
chosen_moves Begin seat m = begin_moves m
chosen_moves Rotate seat m = rotate_alone_moves m
chosen_moves Rest seat m = moves_none m

pub ready_moves : (weight : ℕ) (m : Machine) → Moves m (ready_for weight m)
ready_moves weight m = moves_on deep (moves_on pass begins)
  where
    deep : Moves m (deep_swapped m)
    deep = moves_if (deep_done m) m (swap_deep m) m (swap_deep_moves m) (moves_none m)

    pass : Moves (deep_swapped m) (swapped m)
    pass = moves_if (pass_done (deep_swapped m)) (deep_swapped m) (swap_pass (deep_swapped m)) (deep_swapped m) (swap_pass_moves (deep_swapped m)) (moves_none (deep_swapped m))

    begins : Moves (swapped m) (ready_for weight m)
    begins = moves_if (not (in_pass (swapped m)) && nat_lt (swapped m).gears.sizes.low ((swapped m).spring + weight)) (swapped m) (begin_pass (swapped m)) (swapped m) (begin_moves (swapped m)) (moves_none (swapped m))

pub taken_moves : (seat : ℕ) (ws : List Write) (m : Machine) → Moves m (taken_together seat ws m)
taken_moves seat [] m = moves_none m
taken_moves seat (w ∷ ws) m = record { synced = λ s. s; work = refl; book = refl; stopped = refl }
