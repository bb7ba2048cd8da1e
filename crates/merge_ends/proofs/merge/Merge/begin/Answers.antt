use Rattle.std.proofs.Common.{◌≡◌, ◌∙◌, ℕ, true, None, [], refl, ap, sym, subst, inl, arith}
use Rattle.bloom_bits.specs.Fences.{FencesState}
use Rattle.page_file.specs.Entry.{AreRising}
use Rattle.page_file.proofs.OrderLemmas.{orders}
use Rattle.run_writer.specs.Writer.{WriterState, closed_entries}
use Rattle.blsm_model.specs.declared.component.Component.{Component}
use Rattle.page_file.specs.Component.{numbers_of}
use Rattle.run_cursor.specs.Cursor.{CursorState, started}
use Rattle.merge_ends.specs.Input.{IsInput}
use Rattle.merge_ends.specs.Newer.{IsNewer}
use Rattle.merge_ends.proofs.InputLemmas.{input_begun}
use Rattle.merge_ends.proofs.MergeLemmas.{none_closed, nothing_out}
use Rattle.merge_ends.proofs.merge.Merge.begin.Goals as goal

pub returns-clause-run : goal.returns-clause-run
returns-clause-run c = λ sizes honest file space.
    c.start.ensures.pushed sizes honest file space c.reset.new.self c.clear.new.self (record { keys = c.reset.ensures.none; fences_are = ap (λ (f : FencesState). f.list) c.clear.ensures })

pub returns-clause-merging : goal.returns-clause-merging
returns-clause-merging c = λ settles sizes file space input table pages newer entries newer_is list elsewhere.
    let role : c.args.role ≡ c.start.result.role = sym (ap (λ (w : WriterState). w.role) c.start.ensures.started) in
    let older_is = input_begun refl c.start-2.ensures.cursor ((orders entries).0 (subst AreRising list.entries_are list.reads.rise)) (c.start-2.ensures.list sizes entries file list) elsewhere in
    let whole : IsInput sizes file space c.start.result.role None (started c.args.older.now) (numbers_of list.pages) entries =
    subst (λ (r : ℕ). IsInput sizes file space r None (started c.args.older.now) (numbers_of list.pages) entries) role
    (subst (λ (s : CursorState). IsInput sizes file space c.args.role None s (numbers_of list.pages) entries) c.start-2.ensures.cursor older_is) in
    record {
      newer_is = subst (λ (r : ℕ). IsNewer sizes file space r None input table pages newer) role newer_is;
      older_is = subst (λ (r : ℕ). IsInput sizes file space r None c.start-2.result.cursor (numbers_of list.pages) entries) role older_is;
      run = record {
        out = [];
        pushed = c.start.ensures.pushed sizes true file space c.reset.new.self c.clear.new.self (record { keys = c.reset.ensures.none; fences_are = ap (λ (f : FencesState). f.list) c.clear.ensures });
        ends = tt;
      };
      begun = inl (λ some. absurd (omega (arith, some, ap (λ (w : WriterState). w.component.pages) c.start.ensures.started)));
      out_is = nothing_out settles newer entries;
      closed_up = λ key key_above. key_above;
      closed_is = ap (λ (w : WriterState). closed_entries w []) c.start.ensures.started ∙ nothing_out settles newer entries;
      left_is = λ some. absurd (none_closed None refl some);
      here_is = λ none. subst (λ (part : Component). IsInput sizes file space c.start.result.role None (started part) (numbers_of list.pages) entries) (sym c.start-2.ensures.here) whole;
      behind_is = λ none. whole;
    }
