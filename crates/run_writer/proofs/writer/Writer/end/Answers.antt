use Rattle.std.proofs.Common.{List, ℕ, ◌∙◌, sym, ap, subst}
use Rattle.std.specs.List.{Contains}
use Rattle.page_file.specs.Component.{ReadsAs}
use Rattle.blsm_model.specs.declared.component.Component.{Component}
use Rattle.run_writer.specs.Run.{pages_of}
use Rattle.run_writer.specs.Writer.{WriterState}
use Rattle.run_writer.proofs.RunLemmas.{all_are, is_begun}
use Rattle.run_writer.proofs.WriterLemmas.{ended}
use Rattle.run_writer.proofs.writer.Writer.end.Goals as goal

pub returns-clause-list : goal.returns-clause-list
returns-clause-list g c = λ space filter fences entries honest begun has.
    let old = (g.D.Disk.state c.args.disk.now).bytes in
    let new = (g.D.Disk.state c.write_open.new.disk).bytes in
    let run = has.run in
    let some = is_begun c.args.self.now run.closed run.number run.entries has.held begun in
    let component_is = ap (λ (w : WriterState). w.component) (c.self.view_is ∙ c.write_open.ensures.same) in
    let reads = subst (λ (component : Component). ReadsAs c.args.geo.now component (pages_of run) new) (sym component_is)
    (ended c.args.geo.now c.args.self.now run old new
    (record { same = c.write_open.ensures.writes.effect.bytes honest; inside = c.requires.inside; reads = c.in_ok-write_open.ensures.reads honest; below = tt; full = λ some names. absurd (cc) }) some has.held has.is_run (has.stands honest)) in (
      record { pages = pages_of run; reads = reads; entries_are = has.entries_are },
      λ n in_list. has.tagged n (subst (λ (l : List ℕ). Contains l n) (all_are run.closed run.number run.entries some) in_list),
      has.guide,
    )
