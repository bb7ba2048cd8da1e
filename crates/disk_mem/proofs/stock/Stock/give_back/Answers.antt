use Rattle.std.proofs.Common.{None, Some, Option, is_none, is_some, not, true, false, ◌≡◌, refl, sym, ◌∙◌, ap, arith}
use Rattle.std.proofs.lemmas.List.{get_or_read}
use Rattle.disk_mem.specs.Recorded.{Recorded}
use Rattle.disk_mem.specs.Stock.{shelved}
use Rattle.disk_mem.proofs.PlaceLemmas.{out_get, out_nowhere}
use Rattle.disk_mem.proofs.ShelfLemmas.{drops, puts}
use Rattle.disk_mem.proofs.stock.Stock.give_back.Goals as goal

-- A disk stands there or doesn't.
none_is : (d : Option Recorded) → is_none d ≡ not (is_some d)
none_is None = refl
none_is (Some x) = refl

pub returns-in_default-clause-call : goal.returns-in_default-clause-call
returns-in_default-clause-call c =
    let s = shelved c.args.self.now in
    drops c.args.name.now s c.args.disk _ (omega (arith, c.saturating_add-self.ensures, c.faults.ensures)) (out_nowhere c.args.name.now s.names s.disks c.in_default.ensures.none)

pub returns-then-is_some-clause-call : goal.returns-then-is_some-clause-call
returns-then-is_some-clause-call c =
    let s = shelved c.args.self.now in
    let place = c.in-Some.ensures.place in
    let some : is_some c.index.result.now ≡ true = cc (c.is_some.ensures, c.if-is_some.true) in
    drops c.args.name.now s c.args.disk _ (omega (arith, c.saturating_add-self.ensures, c.faults.ensures)) (out_get c.args.name.now s.names c.in-Some.place s.disks place.0 place.1
    ∙ ap is_none (sym (get_or_read s.disks c.in-Some.place c.index.result.now place.1 c.index.ensures None)) ∙ none_is c.index.result.now ∙ ap not some)

pub returns-clause-call : goal.returns-clause-call
returns-clause-call c =
    let s = shelved c.args.self.now in
    let place = c.in-Some.ensures.place in
    let none : is_some c.index.result.now ≡ false = cc (c.is_some.ensures, c.if-is_some.false) in
    puts c.args.name.now s c.args.disk _ (omega (arith, c.saturating_add-self.ensures, c.faults.ensures)) c.in-Some.place place
    (ap is_none (sym (get_or_read s.disks c.in-Some.place c.index.result.now place.1 c.index.ensures None)) ∙ none_is c.index.result.now ∙ ap not none)
