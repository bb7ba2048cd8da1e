use Rattle.std.proofs.Common.{Some, None, refl, ap}
use Rattle.blsm_model.specs.declared.component.Component.{Component}
use Rattle.run_cursor.specs.Cursor.{CursorState}
use Rattle.run_cursor.proofs.PartLemmas.{ahead_reads}
use Rattle.run_cursor.proofs.cursor.Cursor.from_here.Goals as goal

pub returns-clause-list : goal.returns-clause-list
returns-clause-list c = λ sizes rest file few ahead.
    let due = c.in_ok-first.ensures.due in
    let part : Component = record { first = c.in_ok-first.first; pages = c.self.inside.pages; entries = c.self.inside.entries; weight = c.self.inside.weight } in
    let reads = ahead_reads None sizes part c.args.self.now rest file few due.0 due.2
    (ap (λ (s : CursorState). s.pages) c.self.view_is) (ap (λ (s : CursorState). s.entries) c.self.view_is) (ap (λ (s : CursorState). s.weight) c.self.view_is) ahead in
    (record { pages = ahead.coming; reads = reads.0; entries_are = reads.1 }, refl)

pub returns-clause-front : goal.returns-clause-front
returns-clause-front c = λ sizes end rest file few ahead.
    let due = c.in_ok-first.ensures.due in
    let part : Component = record { first = c.in_ok-first.first; pages = c.self.inside.pages; entries = c.self.inside.entries; weight = c.self.inside.weight } in
    let reads = ahead_reads (Some end) sizes part c.args.self.now rest file few due.0 due.2
    (ap (λ (s : CursorState). s.pages) c.self.view_is) (ap (λ (s : CursorState). s.entries) c.self.view_is) (ap (λ (s : CursorState). s.weight) c.self.view_is) ahead in
    (record { pages = ahead.coming; reads = reads.0; entries_are = reads.1 }, refl)
