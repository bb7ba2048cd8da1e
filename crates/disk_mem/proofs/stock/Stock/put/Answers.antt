use Rattle.std.proofs.Common.{ℕ, ◌++◌, ◌∷◌, [], List, map, length, string_bytes, sym, ◌∙◌, ap, subst}
use Rattle.std.proofs.lemmas.List.{length-map}
use Rattle.disk_mem.specs.Places.{AllPlaced, all_noted}
use Rattle.disk_mem.specs.Stock.{shelved}
use Rattle.disk_mem.proofs.PlaceLemmas.{all_noted_push, all_placed_more}
use Rattle.disk_mem.proofs.ShelfLemmas.{puts_at, puts_new}
use Rattle.disk_mem.proofs.stock.Stock.put.Goals as goal

pub returns-in-Some-clause-ok : goal.returns-in-Some-clause-ok
returns-in-Some-clause-ok c = puts_at c.args.name.now (shelved c.args.self.now) c.args.self.now.faults c.args.disk c.in-Some.i c.in-Some.ensures.place

pub invariant_of-self-2 : goal.invariant_of-self-2
invariant_of-self-2 c =
    let s = c.args.self.now in
    record {
      paired = c.add.ensures.paired s.paired;
      reserved = s.reserved;
      full_before = s.full_before;
      placed = all_placed_more (length s.names.items) (length c.add.new.names.items) s.fetched.items c.add.ensures.grown s.placed;
    }

pub returns-clause-ok : goal.returns-clause-ok
returns-clause-ok c =
    let s = c.args.self.now in
    let names = map string_bytes s.names.items in
    puts_new c.args.name.now (shelved s) _ _ c.args.disk
    (c.in_ok-add.ensures.names ∙ ap (λ (l : List ℕ). names ++ l ∷ []) c.in_ok-owned.ensures.ok) c.in_ok-add.ensures.disks c.in_default.ensures.none (length-map s.names.items string_bytes ∙ s.paired)

pub returns-clause-fetches : goal.returns-clause-fetches
returns-clause-fetches c =
    let s = c.args.self.now in
    let name = c.args.name.now in
    let names = map string_bytes s.names.items in
    let named = c.in_ok-add.ensures.names ∙ ap (λ (l : List ℕ). names ++ l ∷ []) c.in_ok-owned.ensures.ok in
    let placed : AllPlaced (length names) s.fetched.items = subst (λ (n : ℕ). AllPlaced n s.fetched.items) (sym (length-map s.names.items string_bytes)) s.placed in
    (λ i. all_noted (named i) s.fetched.items s.past) ∙ all_noted_push names name s.fetched.items s.past placed
