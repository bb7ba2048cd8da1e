use Rattle.std.proofs.Common.{◌≡◌, ◌≤◌, ◌<◌, ◌+◌, true, [], length, Some, ◌∙◌, ap, sym, subst, refl, set, List, arith}
use Rattle.blsm_model.specs.declared.key.Key.{Key}
use Rattle.record_delta.specs.declared.record.Rec.{Rec}
use Rattle.record_delta.specs.Records.{weight}
use Rattle.record_delta.specs.Folding.{fold}
use Rattle.record_delta.specs.Entries.{Entries, entries_weight, with_record, is_above}
use Rattle.mem_table.specs.Tables.{Contents, place_in, keys_of}
use Rattle.mem_table.specs.Ways.{entry_at, tree_entries}
use Rattle.record_delta.specs.declared.record.Rec.TheVariants.{Tomb}
use Rattle.mem_table.proofs.TableLemmas.{found_at, entry_kept, before_le, arena_folded, entries_folded, arrived_folded}
use Rattle.mem_table.proofs.table.Table.fold_at.Goals as goal
use Rattle.mem_table.proofs.table.Table.fold_at.Goals.{After-self, After-fold-folded}

came : (c : After-self) → place_in c.args.key.now (keys_of c.self.inside.store.slots) ≡ Some c.args.place
came c = subst (λ (v : Contents). place_in c.args.key.now v.arrived ≡ Some c.args.place) (sym c.self.view_is) c.requires.place

there : (c : After-self) → c.args.place < length c.self.inside.store.slots
there c = (found_at c.self.inside.nodes.items c.self.inside.store.slots c.self.inside.root _ _ _ _ _ c.self.invariant c.args.key.now c.args.place
    (came c)).in_range

fits_inside : (c : After-self)
    → entries_weight (with_record c.args.key.now c.args.rec.now (tree_entries c.self.inside.nodes.items c.self.inside.store.slots c.self.inside.root))
    + c.self.inside.dropped ≤ c.self.inside.store.reserved
fits_inside c = subst (λ (v : Contents). entries_weight (with_record c.args.key.now c.args.rec.now v.entries) + v.dropped ≤ v.reserved)
    (sym c.self.view_is) c.requires.fits

high : (c : After-self) → is_above c.self.inside.floor c.args.key.now ≡ true
high c = subst (λ (v : Contents). is_above v.floor c.args.key.now ≡ true) (sym c.self.view_is) c.requires.above

pub record_at-older-requires : goal.record_at-older-requires
record_at-older-requires c = there (goal.at.record_at-older-requires c).After-self

older_is : (c : After-fold-folded) → c.record_at-older.result ≡ (entry_at c.self.inside.store.slots c.args.place).1
older_is c = c.record_at-older.ensures ([], Tomb)

folded_is : (c : After-fold-folded) → c.fold-folded.result ≡ fold c.args.rec.now (entry_at c.self.inside.store.slots c.args.place).1
folded_is c = c.fold-folded.ensures.«record» ∙ ap (λ r. fold r c.record_at-older.result) c.copy.ensures.same ∙ ap (fold c.args.rec.now) (older_is c)

before_is : (c : After-fold-folded) → c.weight-before.result ≡ weight c.args.key.now (entry_at c.self.inside.store.slots c.args.place).1
before_is c = c.weight-before.ensures.weight ∙ ap (weight c.args.key.now) (older_is c)

pub overflow_sub-self : goal.overflow_sub-self
overflow_sub-self c =
    let s = (goal.at.overflow_sub-self c).After-self in
    rw (before_is (goal.at.overflow_sub-self c).After-fold-folded) (before_le c.self.inside.nodes.items c.self.inside.store.slots c.self.inside.root _
    _ _ _ _ c.self.invariant c.args.key.now c.args.place (came s))

pub set-requires-clause-place : goal.set-requires-clause-place
set-requires-clause-place c =
    entry_kept c.self.inside.nodes.items c.self.inside.store.slots c.self.inside.root _ _ _ _ _ c.self.invariant c.args.key.now
    c.args.place (came (goal.at.set-requires-clause-place c).After-self)

pub set-requires-clause-fits : goal.set-requires-clause-fits
set-requires-clause-fits c =
    let s = (goal.at.set-requires-clause-fits c).After-self in
    let b = (goal.at.set-requires-clause-fits c).After-fold-folded in
    let folded = arena_folded c.self.inside.nodes.items c.self.inside.store.slots c.self.inside.root _ _ _ _ _ c.self.invariant c.args.key.now
    c.args.place (came s) (c.args.key.now, c.fold-folded.result) refl
    c.args.rec.now c.weight-before.result c.weight.result (folded_is b) (high s) (fits_inside s) (before_is b)
    (c.weight.ensures.weight ∙ ap (weight c.args.key.now) (folded_is b)) in
    omega (arith, folded.slots_weight, folded.table.fits)

pub invariant_of-self : goal.invariant_of-self
invariant_of-self c =
    let s = (goal.at.invariant_of-self c).After-self in
    let b = (goal.at.invariant_of-self c).After-fold-folded in
    rw c.set.ensures
    (arena_folded c.self.inside.nodes.items c.self.inside.store.slots c.self.inside.root _ _ _ _ _ c.self.invariant c.args.key.now
    c.args.place (came s) (c.args.key.now, c.fold-folded.result) refl
    c.args.rec.now c.weight-before.result c.weight.result (folded_is b) (high s) (fits_inside s) (before_is b)
    (c.weight.ensures.weight ∙ ap (weight c.args.key.now) (folded_is b)))

pub returns-clause-folded : goal.returns-clause-folded
returns-clause-folded c =
    let s = (goal.at.returns-clause-folded c).After-self in
    let b = (goal.at.returns-clause-folded c).After-fold-folded in
    let e : Key × Rec = (c.args.key.now, c.fold-folded.result) in
    let entries = entries_folded c.self.inside.nodes.items c.self.inside.store.slots c.self.inside.root _ _ _ _ _ c.self.invariant c.args.key.now
    c.args.place (came s) e refl c.args.rec.now (folded_is b) in
    let arrived = arrived_folded c.self.inside.nodes.items c.self.inside.store.slots c.self.inside.root _ _ _ _ _ c.self.invariant c.args.key.now
    c.args.place (came s) e refl in
    rw (c.set.ensures, ← c.self.view_is)
    (ap (λ (es : Entries). record {
      entries = es;
      reserved = c.self.inside.store.reserved;
      arrived =
          keys_of (set c.self.inside.store.slots c.args.place e);
      floor = c.self.inside.floor;
      dropped = c.self.inside.dropped;
    }) entries
    ∙ ap (λ (ks : List Key). record {
      entries = with_record c.args.key.now c.args.rec.now
          (tree_entries c.self.inside.nodes.items c.self.inside.store.slots c.self.inside.root);
      reserved = c.self.inside.store.reserved;
      arrived = ks;
      floor = c.self.inside.floor;
      dropped = c.self.inside.dropped;
    }) arrived)
