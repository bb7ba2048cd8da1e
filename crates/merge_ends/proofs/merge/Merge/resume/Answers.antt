use Rattle.std.proofs.Common.{◌≡◌, ◌∙◌, ℕ, true, Some, ap, sym, subst, inr}
use Rattle.blsm_model.specs.declared.key.Key.{Key}
use Rattle.page_file.specs.Component.{entries_of}
use Rattle.run_writer.specs.Writer.{WriterState}
use Rattle.merge_ends.specs.Input.{IsInput}
use Rattle.merge_ends.specs.Merge.{MergeState, IsMerging}
use Rattle.merge_ends.specs.Newer.{IsNewer}
use Rattle.merge_ends.specs.Output.{HasRun}
use Rattle.merge_ends.proofs.MergeLemmas.{all_closed, no_table}
use Rattle.merge_ends.proofs.merge.Merge.resume.Goals as goal

pub returns-clause-resumed : goal.returns-clause-resumed
returns-clause-resumed c = λ i. record {
  writer = c.resume.ensures.resumed i;
  older = c.args.older;
  at = Some (c.copy.ensures i);
  closed = Some (c.copy-2.ensures i);
  left = c.args.done.now.left;
  rest = record { here = c.no_component.ensures.empty i; behind = c.no_component-2.ensures.empty i };
}

pub returns-clause-run : goal.returns-clause-run
returns-clause-run c = λ sizes honest file space filter fences pages has.
    subst (λ (k : Key). HasRun sizes honest file space c.resume.result filter fences (Some k)) (sym c.copy.ensures)
    (record { out = entries_of pages; pushed = c.resume.ensures.pushed sizes honest file space filter fences pages has.stand has.guide has.one_a_page; ends = has.ends })

pub returns-clause-merging : goal.returns-clause-merging
returns-clause-merging c = λ settles sizes file space input table filter fences overs unders over under pages newer_is older_is has front.
    let done = c.args.done.now in
    let out = entries_of pages in
    let role : c.args.role ≡ c.resume.result.role = sym (ap (λ (w : WriterState). w.role) c.resume.ensures.resumed) in
    subst (λ (m : MergeState). IsMerging settles sizes file space m input table filter fences overs unders over under)
    (sym (λ i. record { writer = c.resume.result; older = c.args.older; at = Some (c.copy.ensures i); closed = Some (c.copy-2.ensures i); left = done.left; rest = record { here = c.no_component.result; behind = c.no_component-2.result } }))
    (record {
      newer_is = subst (λ (r : ℕ). IsNewer sizes file space r (Some done.key) input table overs over) role newer_is;
      older_is = subst (λ (r : ℕ). IsInput sizes file space r (Some done.key) c.args.older unders under) role older_is;
      run = record { out = out; pushed = c.resume.ensures.pushed sizes true file space filter fences pages has.stand has.guide has.one_a_page; ends = has.ends };
      begun = inr (front.components, front.more);
      out_is = front.up_to_key;
      closed_up = λ key key_above. key_above;
      closed_is = all_closed c.resume.result c.args.role done.next done.output out c.resume.ensures.resumed has.stand.entries_is ∙ front.up_to_key;
      left_is = λ some. front.left_is;
      here_is = λ none. absurd (no_table input none front.components);
      behind_is = λ none. absurd (no_table input none front.components);
    })
