use Rattle.std.proofs.Common.{◌∙◌, ℕ, List, None, Err, refl, ap, sym, subst, ⊎_elim}
use Rattle.std.proofs.lemmas.Result.{err_from_is_err_and}
use Rattle.disk_trait.proofs.ReadLemmas.{only_reads_same}
use Rattle.blsm_model.specs.declared.component.Component.{Component}
use Rattle.run_cursor.specs.Cursor.{started}
use Rattle.merge_ends.specs.Input.{IsInput}
use Rattle.merge_ends.proofs.InputLemmas.{in_part_on, part_input, read_fills, went_on}
use Rattle.merge_ends.proofs.ProgressLemmas.{calm_of, fault_is, not_both}
use Rattle.merge_ends.proofs.input.walk_above.Goals as goal

pub returns-in_err-advance-clause-input : goal.returns-in_err-advance-clause-input
returns-in_err-advance-clause-input g c = λ space role pages entries honest input other.
    let p = err_from_is_err_and c.from_residual.result c.from_residual.ensures.1 in
    let here = subst (λ (b : List ℕ). IsInput c.args.geo.now b space role c.args.at.now c.args.walk.now.cursor pages entries)
    (sym (only_reads_same c.advance.ensures.reads.effect honest)) input in
    absurd (not_both c.advance.result c.in_err-advance.field-0.0 c.in_err-advance.was
    (c.advance.ensures.list None here.rest (g.met.D.Disk.honest_tells c.args.disk.now honest) here.ahead
    (λ fault. other (p.1 ∙ ap Err (p.2 ∙ fault_is c.advance.result c.in_err-advance.field-0.0 c.in_err-advance.was fault)))).0)

pub returns-clause-input : goal.returns-clause-input
returns-clause-input g c = λ space role pages entries honest input other.
    let sizes = c.args.geo.now in
    let at = c.args.at.now in
    let new = (g.D.Disk.state c.advance.new.disk).bytes in
    let here = subst (λ (b : List ℕ). IsInput sizes b space role at c.args.walk.now.cursor pages entries) (sym (only_reads_same c.advance.ensures.reads.effect honest)) input in
    let advanced = c.advance.ensures.list None here.rest (g.met.D.Disk.honest_tells c.args.disk.now honest) here.ahead (calm_of c.advance.result c.in_ok-advance.was) in
    (refl, went_on sizes new space role at c.args.walk.now.cursor c.advance.new.self pages entries (sym c.is_above.ensures ∙ c.if-is_above.false) here advanced.1)

pub returns-clause-part : goal.returns-clause-part
returns-clause-part g c = λ space role pages entries honest input part_is.
    let sizes = c.args.geo.now in
    let at = c.args.at.now in
    let old = (g.D.Disk.state c.args.disk.now).bytes in
    let cursor = c.args.walk.now.cursor in
    let there : IsInput sizes old space role at (started c.next_part-part.result) pages entries =
    ⊎_elim
    (λ list. part_input sizes old space role at cursor c.next_part-part.result pages entries (sym c.is_above.ensures ∙ c.if-is_above.false) input list)
    (λ same. subst (λ (part : Component). IsInput sizes old space role at (started part) pages entries) (sym same) part_is)
    (c.next_part-part.ensures.list input.rest old input.ahead) in
    subst (λ (b : List ℕ). IsInput sizes b space role at (started c.next_part-part.result) pages entries)
    (sym (only_reads_same c.advance.ensures.reads.effect honest)) there

pub returns-then-is_above-clause-in_part : goal.returns-then-is_above-clause-in_part
returns-then-is_above-clause-in_part g c = λ was.
    (was, read_fills c.args.at.now c.args.walk.now.cursor c.args.walk.now.here (sym c.is_above.ensures ∙ c.if-is_above.true) was)

pub returns-clause-in_part : goal.returns-clause-in_part
returns-clause-in_part g c = λ was.
    in_part_on c.args.walk.now.cursor c.advance.new.self c.args.walk.now.here c.next_part-part.result c.next_part-part.ensures.part
    c.in_ok-advance.ensures.part was
