use Rattle.std.proofs.Common.{◌≡◌, ◌-◌, ◌*◌, ◌^◌, ◌≤◌, [], length, None, Some, ap, sym, subst, arith}
use Rattle.record_delta.specs.declared.record.Rec.{Rec}
use Rattle.record_delta.specs.declared.record.Rec.TheVariants.{Tomb}
use Rattle.record_delta.specs.Entries.{record_of_key}
use Rattle.mem_table.specs.Tables.{Contents}
use Rattle.mem_table.specs.Ways.{tree_entries}
use Rattle.mem_table.proofs.TableLemmas.{tree_there, placed_at, recorded, absent_without, steps_few, steps_none}
use Rattle.mem_table.proofs.table.Table.get_in.Goals as goal

pub find_in-requires : goal.find_in-requires
find_in-requires g c = rw c.deref.ensures.value (tree_there c.self.inside.nodes.items c.self.inside.store.slots c.self.inside.root _ _ _ _ _
    c.self.invariant)

pub record_at-requires : goal.record_at-requires
record_at-requires g c =
    (rw c.deref.ensures.value at c.in-Some.ensures.found).in_range

pub returns-in-Some-clause-record : goal.returns-in-Some-clause-record
returns-in-Some-clause-record g c =
    let is = placed_at c.self.inside.nodes.items c.self.inside.store.slots c.self.inside.root _ _ _ _ _ c.self.invariant c.args.key.now
    c.in-Some.place (rw c.deref.ensures.value at c.in-Some.ensures.found) in
    let there = recorded c.self.inside.nodes.items c.self.inside.store.slots c.self.inside.root _ _ _ _ _ c.self.invariant c.args.key.now
    c.in-Some.place ([], Tomb) is in
    rw (← c.self.view_is, there) (ap (λ (r : Rec). Some r) (c.record_at.ensures ([], Tomb)))

pub returns-in-None-clause-record : goal.returns-in-None-clause-record
returns-in-None-clause-record g c =
    let absent = rw c.deref.ensures.value at c.in-None.ensures.absent in
    sym (subst (λ (v : Contents). record_of_key c.args.key.now v.entries ≡ None) c.self.view_is
    (absent_without c.args.key.now (tree_entries c.self.inside.nodes.items c.self.inside.store.slots c.self.inside.root) absent))

pub returns-in-Some-clause-few : goal.returns-in-Some-clause-few
returns-in-Some-clause-few g c =
    subst (λ (v : Contents). 1 ≤ length v.entries → 2 ^ (c.find_in.new.steps - c.args.steps.now) ≤ 4 * length v.entries * length v.entries) c.self.view_is
    (steps_few c.self.inside.nodes.items c.self.inside.store.slots c.self.inside.root _ _ _ _ _ c.self.invariant
    (c.find_in.new.steps - c.args.steps.now) (omega (arith, rw c.deref.ensures.value at c.find_in.ensures.few)))

pub returns-in-Some-clause-none : goal.returns-in-Some-clause-none
returns-in-Some-clause-none g c =
    subst (λ (v : Contents). length v.entries ≡ 0 → c.find_in.new.steps ≡ c.args.steps.now) c.self.view_is
    (λ none. omega (
      arith,
      c.find_in.ensures.more,
      steps_none c.self.inside.nodes.items c.self.inside.store.slots c.self.inside.root _ _ _ _ _
          c.self.invariant (c.find_in.new.steps - c.args.steps.now) (omega (arith, rw c.deref.ensures.value at c.find_in.ensures.few)) none,
    ))

pub returns-in-None-clause-few : goal.returns-in-None-clause-few
returns-in-None-clause-few g c =
    subst (λ (v : Contents). 1 ≤ length v.entries → 2 ^ (c.find_in.new.steps - c.args.steps.now) ≤ 4 * length v.entries * length v.entries) c.self.view_is
    (steps_few c.self.inside.nodes.items c.self.inside.store.slots c.self.inside.root _ _ _ _ _ c.self.invariant
    (c.find_in.new.steps - c.args.steps.now) (omega (arith, rw c.deref.ensures.value at c.find_in.ensures.few)))

pub returns-in-None-clause-none : goal.returns-in-None-clause-none
returns-in-None-clause-none g c =
    subst (λ (v : Contents). length v.entries ≡ 0 → c.find_in.new.steps ≡ c.args.steps.now) c.self.view_is
    (λ none. omega (
      arith,
      c.find_in.ensures.more,
      steps_none c.self.inside.nodes.items c.self.inside.store.slots c.self.inside.root _ _ _ _ _
          c.self.invariant (c.find_in.new.steps - c.args.steps.now) (omega (arith, rw c.deref.ensures.value at c.find_in.ensures.few)) none,
    ))
