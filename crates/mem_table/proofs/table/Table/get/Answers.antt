use Rattle.std.proofs.Common.{◌≡◌, [], Some, ap, sym, subst, ◌∙◌}
use Rattle.record_delta.specs.declared.record.Rec.{Rec}
use Rattle.record_delta.specs.declared.record.Rec.TheVariants.{Tomb}
use Rattle.mem_table.specs.Tables.{Contents, place_in, keys_of}
use Rattle.mem_table.proofs.TableLemmas.{found_at, recorded}
use Rattle.mem_table.proofs.table.Table.get.Goals as goal
use Rattle.mem_table.proofs.table.Table.get.Goals.{In-Some}

came : (c : In-Some) → place_in c.args.key.now (keys_of c.self.inside.store.slots) ≡ Some c.in-Some.place
came c = subst (λ (v : Contents). place_in c.args.key.now v.arrived ≡ Some c.in-Some.place) (sym c.self.view_is) (sym c.place_of.ensures.place ∙ c.in-Some.is)

pub record_at-requires : goal.record_at-requires
record_at-requires c = (found_at c.self.inside.nodes.items c.self.inside.store.slots c.self.inside.root _ _ _ _ _ c.self.invariant c.args.key.now
    c.in-Some.place (came (goal.at.record_at-requires c).In-Some)).in_range

pub returns-in-Some : goal.returns-in-Some
returns-in-Some c =
    let there = recorded c.self.inside.nodes.items c.self.inside.store.slots c.self.inside.root _ _ _ _ _ c.self.invariant c.args.key.now
    c.in-Some.place ([], Tomb) (came (goal.at.returns-in-Some c).In-Some) in
    rw (← c.self.view_is, there) (ap (λ (r : Rec). Some r) (c.record_at.ensures ([], Tomb)))
