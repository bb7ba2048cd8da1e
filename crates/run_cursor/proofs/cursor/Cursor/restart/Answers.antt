use Rattle.std.proofs.Common.{◌≡◌, List, ℕ, [], None, false, ap, refl, sym, subst, arith}
use Rattle.std.specs.List.{between}
use Rattle.std.proofs.lemmas.List.Edits.{between_none}
use Rattle.blsm_model.specs.declared.component.Component.{Component}
use Rattle.blsm_model.specs.Sizes.{Sizes}
use Rattle.record_delta.specs.Entries.{Entries}
use Rattle.page_file.specs.Component.{HasList}
use Rattle.run_cursor.specs.Cursor.{AreFull, CursorState, HasAhead, seen, started}
use Rattle.run_cursor.specs.Given.{HasGiven}
use Rattle.run_cursor.proofs.CursorLemmas.{bare_cursor, started_ahead}
use Rattle.run_cursor.proofs.GivenLemmas.{given_start}
use Rattle.run_cursor.proofs.FullLemmas.{full_start}
use Rattle.run_cursor.proofs.cursor.Cursor.restart.Goals as goal

-- no bytes are behind the head
restarted : (run : Component) (page : List ℕ) → seen None page 0 0 run.first run.pages run.entries run.weight false ≡ started run
restarted run page = ap (λ (behind : List ℕ). record (started run) { behind = behind }) (between_none page 0)

pub invariant_of-self : goal.invariant_of-self
invariant_of-self c = (
  omega arith,
  omega arith,
  bare_cursor _ _ _ _ _ _ (between_none c.self.inside.page 0)
      (λ none. (ap (λ (r : Component). r.entries) (c.requires none), ap (λ (r : Component). r.weight) (c.requires none))),
)

pub returns-clause-start : goal.returns-clause-start
returns-clause-start c = restarted c.args.run.now c.self.inside.page

pub returns-clause-list : goal.returns-clause-list
returns-clause-list c =
    subst (λ (s : CursorState). (sizes : Sizes) (entries : Entries) (file : List ℕ) → (list : HasList sizes c.args.run.now entries file)
    → (ahead : HasAhead sizes s entries file) × (ahead.coming ≡ list.pages))
    (sym (restarted c.args.run.now c.self.inside.page)) (λ sizes entries file. started_ahead sizes c.args.run.now entries file)

pub returns-clause-given : goal.returns-clause-given
returns-clause-given c =
    subst (λ (s : CursorState). (sizes : Sizes) (file : List ℕ) → HasGiven sizes c.args.run.now s [] file)
    (sym (restarted c.args.run.now c.self.inside.page)) (λ sizes file. given_start sizes c.args.run.now file c.requires)

pub returns-clause-full : goal.returns-clause-full
returns-clause-full c =
    subst (λ (s : CursorState). AreFull c.args.run.now s) (sym (restarted c.args.run.now c.self.inside.page)) (full_start false c.args.run.now)
