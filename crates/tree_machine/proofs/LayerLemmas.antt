-- What the moves of the merges keep: the order of the lists, and the value of every key.
use Rattle.std.proofs.Common.{◌≡◌, ℕ, true, [], Some, None, Option, refl, ap, ◌∙◌}
use Rattle.std.proofs.lemmas.Grind.{common_steps}
use Rattle.std.proofs.lemmas.Bool.Decides.{nat_tests}
use Rattle.std.proofs.Common.{arith}
use Rattle.std.proofs.lemmas.Bool.{false≢true}
use Rattle.record_delta.specs.declared.record.Rec.{Rec}
use Rattle.record_delta.specs.Records.{settled}
use Rattle.record_delta.specs.Entries.{over_any, record_of_key, settled_entries}
use Rattle.tree_machine.specs.Merges.{Merge, quantum_of}
use Rattle.tree_machine.specs.Layers.{IsPassOver, IsDeepOver, AreLayered, as_base, as_it_is}
use Rattle.tree_machine.specs.Machine.{Machine, pass_is_done, deep_is_done, pass_done, deep_done}
use Rattle.tree_machine.specs.Moves.{begin_pass, rotate, swap_deep, end_pass, output_of, pass_quantum, deep_quantum, pass_quantum_of, deep_quantum_of}
use Rattle.tree_machine.proofs.FoldLemmas.{over_any_assoc}
use Rattle.tree_machine.proofs.MergeLemmas.{written_as_it_is, written_as_base, groups_sorted, groups_ahead, quantum_keeps, done_folds}
use Rattle.tree_machine.proofs.Terms.{Keeps}

-- ---- what a key has in five lists

-- the records of the two tables, of C1, of C1' and of C2
abbrev five : (b a c1 c1x c2 : Option Rec) → Option Rec
five b a c1 c1x c2 = over_any b (over_any a (over_any c1 (over_any c1x c2)))

-- a pass: table A and C1 give place to their fold, B to nothing
five_pass : (b a c1 c1x c2 : Option Rec) → five None b (over_any a c1) c1x c2 ≡ five b a c1 c1x c2
five_pass b a c1 c1x c2 = ap (over_any b) (over_any_assoc a c1 (over_any c1x c2))

-- a deep merge: C1' and C2 give place to the bases of their values
five_deep : (b a c1 c1x c2 : Option Rec) → settled (five b a c1 None (as_base (over_any c1x c2))) ≡ settled (five b a c1 c1x c2)
five_deep b a c1 c1x c2 = grind (arith, common_steps, nat_tests)

-- ---- begins

pub begin_keeps : (m : Machine) → AreLayered m.lists m.merges → m.merges.pass ≡ None → Keeps m (begin_pass m)
begin_keeps m layered none = grind (arith, common_steps, nat_tests)

-- ---- quanta

pub pass_quantum_keeps : (m : Machine) (seat : ℕ) → AreLayered m.lists m.merges → Keeps m (pass_quantum seat m)
pass_quantum_keeps m seat layered = by m.merges.pass refl layered.pass
  where
    by : (p : Option Merge) → m.merges.pass ≡ p → IsPassOver m.lists p → Keeps m (pass_quantum_of p seat m)
    by None is over = record { layered = layered; values = λ q. refl }
    by (Some pass) is over =
        let taken = quantum_of m.gears.sizes.quantum pass m.lists.a m.lists.c1 in
        let rise = groups_sorted m.gears.sizes.quantum pass m.lists.a m.lists.c1 layered.sorted_a layered.sorted_c1 in
        let past = groups_ahead m.gears.sizes.quantum pass m.lists.a m.lists.c1 layered.sorted_a layered.sorted_c1 in
        record {
          layered = record {
            sorted_b = layered.sorted_b;
            sorted_a = layered.sorted_a;
            sorted_c1 = layered.sorted_c1;
            sorted_c1x = layered.sorted_c1x;
            sorted_c2 = layered.sorted_c2;
            pass = quantum_keeps m.gears.sizes.quantum pass m.lists.a m.lists.c1 layered.sorted_a layered.sorted_c1 as_it_is taken.groups refl over
                (written_as_it_is pass.cursor taken.groups rise past);
            deep = layered.deep;
          };
          values = λ q. refl;
        }

pub deep_quantum_keeps : (m : Machine) (seat : ℕ) → AreLayered m.lists m.merges → Keeps m (deep_quantum seat m)
deep_quantum_keeps m seat layered = by m.merges.deep refl layered.deep
  where
    by : (p : Option Merge) → m.merges.deep ≡ p → IsDeepOver m.lists p → Keeps m (deep_quantum_of p seat m)
    by None is over = record { layered = layered; values = λ q. refl }
    by (Some deep) is over =
        let taken = quantum_of m.gears.sizes.quantum deep m.lists.c1x m.lists.c2 in
        let rise = groups_sorted m.gears.sizes.quantum deep m.lists.c1x m.lists.c2 layered.sorted_c1x layered.sorted_c2 in
        let past = groups_ahead m.gears.sizes.quantum deep m.lists.c1x m.lists.c2 layered.sorted_c1x layered.sorted_c2 in
        record {
          layered = record {
            sorted_b = layered.sorted_b;
            sorted_a = layered.sorted_a;
            sorted_c1 = layered.sorted_c1;
            sorted_c1x = layered.sorted_c1x;
            sorted_c2 = layered.sorted_c2;
            pass = layered.pass;
            deep = quantum_keeps m.gears.sizes.quantum deep m.lists.c1x m.lists.c2 layered.sorted_c1x layered.sorted_c2 as_base (settled_entries taken.groups) refl over (written_as_base deep.cursor taken.groups rise past);
          };
          values = λ q. refl;
        }

-- ---- swaps

pub swap_deep_keeps : (m : Machine) → AreLayered m.lists m.merges → deep_done m ≡ true → Keeps m (swap_deep m)
swap_deep_keeps m layered done = by m.merges.deep layered.deep done
  where
    by : (p : Option Merge) → IsDeepOver m.lists p → deep_is_done p m.lists ≡ true
        → Keeps m (record (swap_deep m) { lists = record { b = m.lists.b; a = m.lists.a; c1 = m.lists.c1; c1x = []; c2 = output_of p } })
    by None over is = absurd (false≢true is)
    by (Some deep) over is = record {
      layered = record {
        sorted_b = layered.sorted_b;
        sorted_a = layered.sorted_a;
        sorted_c1 = layered.sorted_c1;
        sorted_c1x = refl;
        sorted_c2 = over.sorted;
        pass = layered.pass;
        deep = refl;
      };
      values = λ q.
          ap (λ r. settled (five (record_of_key q m.lists.b) (record_of_key q m.lists.a) (record_of_key q m.lists.c1) None r)) (done_folds as_base m.lists.c1x m.lists.c2 deep refl over is q)
          ∙ five_deep (record_of_key q m.lists.b) (record_of_key q m.lists.a) (record_of_key q m.lists.c1) (record_of_key q m.lists.c1x) (record_of_key q m.lists.c2);
    }

pub end_pass_keeps : (m : Machine) → AreLayered m.lists m.merges → pass_done m ≡ true → Keeps m (end_pass m)
end_pass_keeps m layered done = by m.merges.pass layered.pass done
  where
    by : (p : Option Merge) → IsPassOver m.lists p → pass_is_done p m.lists ≡ true
        → Keeps m (record (end_pass m) { lists = record { b = []; a = m.lists.b; c1 = output_of p; c1x = m.lists.c1x; c2 = m.lists.c2 } })
    by None over is = absurd (false≢true is)
    by (Some pass) over is = record {
      layered = record {
        sorted_b = refl;
        sorted_a = layered.sorted_b;
        sorted_c1 = over.sorted;
        sorted_c1x = layered.sorted_c1x;
        sorted_c2 = layered.sorted_c2;
        pass = refl;
        deep = layered.deep;
      };
      values = λ q.
          ap (λ r. settled (five None (record_of_key q m.lists.b) r (record_of_key q m.lists.c1x) (record_of_key q m.lists.c2))) (done_folds as_it_is m.lists.a m.lists.c1 pass refl over is q)
          ∙ ap settled (five_pass (record_of_key q m.lists.b) (record_of_key q m.lists.a) (record_of_key q m.lists.c1) (record_of_key q m.lists.c1x) (record_of_key q m.lists.c2));
    }

pub rotate_keeps : (m : Machine) → AreLayered m.lists m.merges → m.merges.pass ≡ None → m.merges.deep ≡ None → Keeps m (rotate m)
rotate_keeps m layered no_pass no_deep = grind (arith, common_steps, nat_tests)
