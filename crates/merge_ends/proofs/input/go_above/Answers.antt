use Rattle.std.proofs.Common.{◌∙◌, ℕ, List, Result, IsErr, refl, sym, subst, None}
use Rattle.disk_trait.proofs.ReadLemmas.{only_reads_same}
use Rattle.page_file.specs.declared.file.Broken.{Broken}
use Rattle.run_cursor.specs.Cursor.{CursorState, IsDamageAt}
use Rattle.merge_ends.specs.Input.{IsInput}
use Rattle.merge_ends.proofs.InputLemmas.{went_on}
use Rattle.merge_ends.proofs.input.go_above.Goals as goal

pub returns-clause-input : goal.returns-clause-input
returns-clause-input g c = λ space role pages entries honest input other.
    let sizes = c.args.geo.now in
    let at = c.args.at.now in
    let new = (g.D.Disk.state c.advance.new.disk).bytes in
    let here = subst (λ (b : List ℕ). IsInput sizes b space role at c.args.cursor.now pages entries) (sym (only_reads_same c.advance.ensures.reads.effect honest)) input in
    let advanced = c.advance.ensures.list None here.rest (g.met.D.Disk.honest_tells c.args.disk.now honest) here.ahead other in
    (advanced.0, went_on sizes new space role at c.args.cursor.now c.advance.new.self pages entries (sym c.is_above.ensures ∙ c.if-is_above.false) here advanced.1)

pub returns-clause-damaged : goal.returns-clause-damaged
returns-clause-damaged g c = λ n is tells.
    let file = (g.D.Disk.state c.advance.new.disk).bytes in
    subst (λ (s : CursorState). IsDamageAt c.args.geo.now s n file) (sym (c.advance.ensures.kept (subst (λ (r : Result (Unit {0}) Broken). IsErr r) (sym is) refl))) (c.advance.ensures.damaged n is tells)
