use Rattle.std.specs.Prelude.{IfSome}
use Rattle.std.proofs.Common.{false, rules, ◌≡◌, ◌∙◌, ◌+◌, ◌*◌, ◌≤◌, ◌⊎◌, ℕ, IsTrue, Bool, true, List, [], ◌∷◌, ◌++◌, Option, Some, None, Ok, Err, Result, length, refl, ap, sym, subst, inl, inr, arith}
use Rattle.std.proofs.lemmas.Result.{err_from_is_err_and}
use Rattle.refusal.specs.Count.{HasRisen}
use Rattle.disk_trait.proofs.ReadLemmas.{only_reads_same}
use Rattle.disk_trait.proofs.RegionLemmas.{same_wider}
use Rattle.blsm_model.specs.declared.component.Component.{Component}
use Rattle.blsm_model.specs.declared.key.Key.{Key}
use Rattle.blsm_model.specs.Format.{least_weight, most_weight}
use Rattle.record_delta.specs.declared.record.Rec.{Rec}
use Rattle.record_delta.specs.Entries.{Entries, AreSorted, entries_weight, first_of, folded_over, above, up_to}
use Rattle.page_file.specs.Entry.{AreRising}
use Rattle.page_file.specs.declared.file.Broken.{Broken}
use Rattle.run_writer.specs.Writer.{WriterState, closed_entries, HasPushed}
use Rattle.merge_step.specs.Group.{group_at, group_of}
use Rattle.merge_step.specs.Merged.{IsTaken}
use Rattle.merge_step.proofs.StepLemmas.{goes_on}
use Rattle.run_cursor.specs.Cursor.{CursorState, from_head, started}
use Rattle.run_cursor.specs.declared.walk.Walk.{Walk}
use Rattle.record_delta.specs.Records.{weight}
use Rattle.merge_ends.specs.Input.{IsInput, left_in}
use Rattle.merge_ends.specs.Merge.{MergeState, Covers, IsMerging, group_calls, progress}
use Rattle.merge_ends.specs.Newer.{at_hand, component_left, components_above, cursors_with, newer_calls, newer_left, IsNewer}
use Rattle.merge_ends.specs.Output.{IsUpTo, HasRun, has_turned, kept}
use Rattle.merge_ends.specs.Quantum.{Counts, IsNext, NoneAbove, Grows}
use Rattle.merge_ends.specs.Progress.{MayGoOn, MergesOn, TakesGroup, stage, pages_ahead}
use Rattle.merge_ends.proofs.GroupLemmas.{behind_group, end_left, first_none, group_none, head_is, input_further, older_stays}
use Rattle.merge_ends.proofs.InputLemmas.{input_kept}
use Rattle.merge_ends.proofs.KeptLemmas.{kept_more, ends_kept}
use Rattle.merge_ends.proofs.MergeLemmas.{begun_more, begun_read, closed_is_more, closed_onward, closed_up_more, gave_less, group_taken, light_more, still_table}
use Rattle.merge_ends.proofs.LeftLemmas.{closed_turned, component_few, component_less, components_are, left_behind_is, left_covers, left_small, made_more, more_pages, pages_begun, part_covers, part_told, same_above, same_left, table_less, told_more, weighs_something}
use Rattle.merge_ends.proofs.NewerLemmas.{behind_both, counts_read, counts_written, group_is, newer_behind, newer_damage, newer_end, newer_first, newer_further, newer_kept, newer_less, newer_sorted, older_damage, ready_behind}
use Rattle.merge_ends.proofs.OutputLemmas.{rising_more, turned_behind}
use Rattle.merge_ends.proofs.ProgressLemmas.{takes_nothing, takes_group, told_ok, told_err, fault_is, not_both, calm_of, damage_is}
use Rattle.merge_ends.proofs.WorkLemmas.{works_read, works_run, works_written, works_more, pushed_read, room_less, run_read}
use Rattle.merge_ends.proofs.merge.Merge.step.Goals as goal
use Rattle.merge_ends.proofs.merge.Merge.step.Goals.{In-Some, After-walk_above, After-put}

-- what the two inputs' reads did
reads_two : (g : _) (c : After-walk_above g) → Grows c.args.geo.now (newer_calls (g.N.Newer.run c.args.newer.now) + 1) c.args.space.now c.args.space.now c.self.inside.writer c.self.inside.writer (g.D.Disk.state c.args.disk.now) (g.D.Disk.state c.walk_above.new.disk)
reads_two g c =
    let calls = newer_calls (g.N.Newer.run c.args.newer.now) in
    let writer = c.self.inside.writer in
    works_run c.args.geo.now calls 1 c.args.space.now c.args.space.now c.args.space.now writer writer writer (g.D.Disk.state c.args.disk.now) (g.D.Disk.state c.go_above.new.disk) (g.D.Disk.state c.walk_above.new.disk)
    (g.met.D.Disk.timed c.go_above.new.disk) (c.go_above.ensures.reads.stands (calm_of c.go_above.result c.in_ok-go_above.was)) refl
    (works_read c.args.geo.now calls calls c.args.space.now writer (g.D.Disk.state c.args.disk.now) (g.D.Disk.state c.go_above.new.disk) (omega arith) c.go_above.ensures.reads.effect)
    (works_read c.args.geo.now 1 1 c.args.space.now writer (g.D.Disk.state c.go_above.new.disk) (g.D.Disk.state c.walk_above.new.disk) (omega arith) c.walk_above.ensures.reads.effect)

-- ---- an input can't go on

pub returns-in_err-go_above-clause-lists : goal.returns-in_err-go_above-clause-lists
returns-in_err-go_above-clause-lists g c = λ overs unders over under honest merging other.
    let p = err_from_is_err_and c.from_residual.result c.from_residual.ensures.1 in
    let old = subst (λ (s : MergeState). IsMerging c.args.settles c.args.geo.now (g.D.Disk.state c.args.disk.now).bytes c.args.space.now s (g.N.Newer.run c.args.newer.now) (g.N.Newer.table c.args.newer.now) c.args.filter.now c.args.fences.now overs unders over under) (sym c.self.view_is) merging in
    absurd (not_both c.go_above.result c.in_err-go_above.field-0.0 c.in_err-go_above.was
    (c.go_above.ensures.input c.args.space.now c.self.inside.writer.role overs over honest old.newer_is
    (λ fault. other (p.1 ∙ ap Err (p.2 ∙ fault_is c.go_above.result c.in_err-go_above.field-0.0 c.in_err-go_above.was fault)))).0)

pub returns-in_err-go_above-clause-numbers : goal.returns-in_err-go_above-clause-numbers
returns-in_err-go_above-clause-numbers g c =
    let input = g.N.Newer.run c.args.newer.now in
    let p = err_from_is_err_and c.from_residual.result c.from_residual.ensures.1 in
    told_err p.1 (search rules) (search rules) (search rules)
    (works_read c.args.geo.now (group_calls input) (newer_calls input) c.args.space.now c.args.self.now.writer (g.D.Disk.state c.args.disk.now) (g.D.Disk.state c.go_above.new.disk) (omega (arith, group_is input)) c.go_above.ensures.reads.effect)
    (λ n is tells. newer_damage c.args.geo.now (g.N.Newer.run c.go_above.new.self) _ n _ (c.go_above.ensures.damaged n (damage_is n c.go_above.result c.from_residual.result c.in_err-go_above.field-0.0 p.0 c.in_err-go_above.was p.1 p.2 is) tells)) (search rules)

pub returns-in_err-walk_above-clause-lists : goal.returns-in_err-walk_above-clause-lists
returns-in_err-walk_above-clause-lists g c = λ overs unders over under honest merging other.
    let sizes = c.args.geo.now in
    let space = c.args.space.now in
    let role = c.self.inside.writer.role in
    let p = err_from_is_err_and c.from_residual-in_err-walk_above.result c.from_residual-in_err-walk_above.ensures.1 in
    let old = subst (λ (s : MergeState). IsMerging c.args.settles sizes (g.D.Disk.state c.args.disk.now).bytes space s (g.N.Newer.run c.args.newer.now) (g.N.Newer.table c.args.newer.now) c.args.filter.now c.args.fences.now overs unders over under) (sym c.self.view_is) merging in
    let first = c.go_above.ensures.reads.effect in
    let below = subst (λ (b : List ℕ). IsInput sizes b space role c.self.inside.at c.self.inside.older.cursor unders under) (sym (only_reads_same first honest)) old.older_is in
    absurd (not_both c.walk_above.result c.in_err-walk_above.field-0.0 c.in_err-walk_above.was
    (c.walk_above.ensures.input space role unders under (first.effect.goes_on.is_honest ∙ honest) below
    (λ fault. other (p.1 ∙ ap Err (p.2 ∙ fault_is c.walk_above.result c.in_err-walk_above.field-0.0 c.in_err-walk_above.was fault)))).0)

pub returns-in_err-walk_above-clause-numbers : goal.returns-in_err-walk_above-clause-numbers
returns-in_err-walk_above-clause-numbers g c =
    let input = g.N.Newer.run c.args.newer.now in
    let result = c.from_residual-in_err-walk_above.result in
    let p = err_from_is_err_and result c.from_residual-in_err-walk_above.ensures.1 in
    told_err p.1
    (let kept = ap (λ (w : Walk). w.cursor.pages) (c.in_err-walk_above.ensures.kept refl) in
    subst (λ (m : MergeState). Counts 1 (pages_ahead (cursors_with input m.older)) (pages_ahead (cursors_with (g.N.Newer.run c.go_above.new.self) c.walk_above.new.walk.cursor)) m.writer.component.pages c.self.inside.writer.component.pages
    (g.D.Disk.state c.args.disk.now) (g.D.Disk.state c.walk_above.new.disk)) c.self.view_is
    (counts_read input (g.N.Newer.run c.go_above.new.self) c.self.inside.older.cursor c.walk_above.new.walk.cursor c.self.inside.writer.component.pages 1
    (g.D.Disk.state c.args.disk.now) (g.D.Disk.state c.go_above.new.disk) (g.D.Disk.state c.walk_above.new.disk)
    c.in_ok-go_above.ensures.one_a_page c.go_above.ensures.reads.effect.effect.goes_on.clock (omega (arith, kept)) (omega (arith, kept, c.walk_above.ensures.reads.effect.effect.calls))))
    (search rules) (search rules)
    (subst (λ (s : MergeState). Grows c.args.geo.now (group_calls input) c.args.space.now c.args.space.now s.writer c.self.inside.writer (g.D.Disk.state c.args.disk.now) (g.D.Disk.state c.walk_above.new.disk)) c.self.view_is
    (works_more c.args.geo.now (newer_calls input + 1) (group_calls input) c.args.space.now c.args.space.now c.self.inside.writer c.self.inside.writer (g.D.Disk.state c.args.disk.now) (g.D.Disk.state c.walk_above.new.disk) (omega (arith, group_is input))
    (reads_two g (goal.at.returns-in_err-walk_above-clause-numbers g c).After-walk_above)))
    (λ n is tells.
    older_damage c.args.geo.now (g.N.Newer.run c.go_above.new.self) c.walk_above.new.walk.cursor n _
    (inl (c.walk_above.ensures.damaged n (damage_is n c.walk_above.result result c.in_err-walk_above.field-0.0 p.0 c.in_err-walk_above.was p.1 p.2 is)
    (subst IsTrue (sym c.go_above.ensures.reads.effect.effect.goes_on.tells_bytes) tells)))) (search rules)

-- ---- nothing is left

none_is : (g : _) (c : goal.In_default g) → group_of (first_of (above c.self.inside.at (at_hand (g.N.Newer.run c.go_above.new.self) (g.N.Newer.table c.go_above.new.self)))) c.walk_above.new.walk.cursor.head ≡ None
none_is g c = sym c.group_with-taken.ensures.group ∙ sym (c.in_default.ensures ∙ ap (λ (o : Option (Key × Rec)). group_at c.group_with-taken.result o c.group_with-taken.new.room) c.peek.ensures)

pub returns-in_default-clause-lists : goal.returns-in_default-clause-lists
returns-in_default-clause-lists g c = λ overs unders over under honest merging other.
    let sizes = c.args.geo.now in
    let space = c.args.space.now in
    let role = c.self.inside.writer.role in
    let at = c.self.inside.at in
    let input = g.N.Newer.run c.go_above.new.self in
    let table = g.N.Newer.table c.go_above.new.self in
    let before = (g.D.Disk.state c.args.disk.now).bytes in
    let new = (g.D.Disk.state c.walk_above.new.disk).bytes in
    let old = subst (λ (s : MergeState). IsMerging c.args.settles sizes before space s (g.N.Newer.run c.args.newer.now) (g.N.Newer.table c.args.newer.now) c.args.filter.now c.args.fences.now overs unders over under) (sym c.self.view_is) merging in
    let first = c.go_above.ensures.reads.effect in
    let second = c.walk_above.ensures.reads.effect in
    let still = first.effect.goes_on.is_honest ∙ honest in
    let same = only_reads_same second still in
    let upper = (c.go_above.ensures.input space role overs over honest old.newer_is (calm_of c.go_above.result c.in_ok-go_above.was)).1 in
    let below = subst (λ (b : List ℕ). IsInput sizes b space role at c.self.inside.older.cursor unders under) (sym (only_reads_same first honest)) old.older_is in
    let lower = (c.walk_above.ensures.input space role unders under still below (calm_of c.walk_above.result c.in_ok-walk_above.was)).1 in
    let here = subst (λ (b : List ℕ). IsNewer sizes b space role at input table overs over) (sym same) upper in
    let parts = group_none (first_of (above at (at_hand input table))) c.walk_above.new.walk.cursor.head (none_is g c) in
    let over_none : above at over ≡ [] = first_none (above at over) (newer_first sizes new space role at input table overs over c.in_ok-go_above.ensures.ready.0 here ∙ parts.0) in
    let under_none : above at under ≡ [] = first_none (above at under) (head_is sizes new space role at c.walk_above.new.walk.cursor under c.in_ok-walk_above.ensures.ready.0 lower ∙ parts.1) in
    let ends : NoneAbove at over under = (over_none, under_none) in
    let at_is = ap (λ (s : MergeState). s.at) c.self.view_is in (
      0,
      refl,
      record {
        newer_is = here;
        older_is = lower;
        run = record {
          out = old.run.out;
          pushed = pushed_read sizes true before new space c.self.inside.writer c.args.filter.now c.args.fences.now old.run.out (λ told. same ∙ only_reads_same first honest) old.run.pushed;
          ends = old.run.ends;
        };
        begun = begun_read (g.N.Newer.run c.args.newer.now) input c.go_above.ensures.same_kind old.begun;
        out_is = old.out_is;
        closed_up = old.closed_up;
        closed_is = old.closed_is;
        left_is = λ some. old.left_is some ∙ sym (same_above c.self.inside.closed (g.N.Newer.run c.args.newer.now) input over under c.go_above.ensures.same_kind);
        here_is = λ none.
            let was = still_table (g.N.Newer.run c.args.newer.now) input c.go_above.ensures.same_kind none in
            c.in_ok-walk_above.ensures.part space role unders under still below
            (subst (λ (b : List ℕ). IsInput sizes b space role at (started c.self.inside.older.here) unders under) (sym (only_reads_same first honest)) (old.here_is was));
        behind_is = λ none.
            let was = still_table (g.N.Newer.run c.args.newer.now) input c.go_above.ensures.same_kind none in
            subst (λ (b : List ℕ). IsInput sizes b space role c.self.inside.closed (started c.self.inside.behind) unders under)
            (sym (same ∙ only_reads_same first honest)) (old.behind_is was);
      },
      newer_sorted sizes new space role at input table overs over here,
      inr (subst (λ (k : Option Key). NoneAbove k over under) at_is ends, at_is, refl),
    )

pub returns-in_default-clause-numbers : goal.returns-in_default-clause-numbers
returns-in_default-clause-numbers g c =
    let input = g.N.Newer.run c.go_above.new.self in
    let table = g.N.Newer.table c.go_above.new.self in
    let older = c.walk_above.new.walk.cursor in
    let at = c.self.inside.at in
    let ready_newer = c.in_ok-go_above.ensures.ready in
    let ready_older = c.in_ok-walk_above.ensures.ready in
    let first = c.go_above.ensures.reads.effect.effect.goes_on in
    let second = c.walk_above.ensures.reads.effect.effect.goes_on in
    let old = subst (λ (s : MergeState). MayGoOn c.args.geo.now (stage (progress s (g.N.Newer.run c.args.newer.now) (g.N.Newer.table c.args.newer.now)) c.args.space.now c.args.filter.now c.args.fences.now (g.D.Disk.state c.args.disk.now))) (sym c.self.view_is) c.requires.runs in
    let parts = group_none (first_of (above at (at_hand input table))) older.head (none_is g c) in
    subst (λ (s : MergeState). MergesOn c.args.geo.now (group_calls (g.N.Newer.run c.args.newer.now)) TakesGroup (stage (progress s (g.N.Newer.run c.args.newer.now) (g.N.Newer.table c.args.newer.now)) c.args.space.now c.args.filter.now c.args.fences.now (g.D.Disk.state c.args.disk.now))
    (stage (progress (record { writer = c.self.inside.writer; older = older; at = at; closed = c.self.inside.closed; left = c.self.inside.left; rest = record { here = c.walk_above.new.walk.here; behind = c.self.inside.behind } }) input table) c.args.space.now c.args.filter.now c.args.fences.now (g.D.Disk.state c.walk_above.new.disk)) (Ok 0)) c.self.view_is
    (told_ok
    (takes_nothing _ _ _ _ ready_newer.1 ready_older.1 (omega (arith, newer_end at input table ready_newer.0 parts.0, end_left at older ready_older.0 parts.1)))
    (record {
      running = record { run = run_read c.walk_above.ensures.reads.effect (run_read c.go_above.ensures.reads.effect old.running.run); behind = behind_both at input older (ready_behind at input ready_newer.0) (inl ready_older.0) };
      fences_fit = omega (arith, ready_newer.1, ready_older.1, old.fences_fit);
      room = room_less c.args.space.now c.self.inside.writer _ _ (omega (arith, ready_newer.1, ready_older.1)) old.room;
    })
    (search rules)
    (counts_read (g.N.Newer.run c.args.newer.now) input c.self.inside.older.cursor older c.self.inside.writer.component.pages 0
    (g.D.Disk.state c.args.disk.now) (g.D.Disk.state c.go_above.new.disk) (g.D.Disk.state c.walk_above.new.disk) c.in_ok-go_above.ensures.one_a_page first.clock (omega (arith, c.in_ok-walk_above.ensures.one_a_page, second.clock)) (omega (arith, c.in_ok-walk_above.ensures.one_a_page)))
    (search rules) (search rules)
    (works_more c.args.geo.now (newer_calls (g.N.Newer.run c.args.newer.now) + 1) (group_calls (g.N.Newer.run c.args.newer.now)) c.args.space.now c.args.space.now c.self.inside.writer c.self.inside.writer (g.D.Disk.state c.args.disk.now) (g.D.Disk.state c.walk_above.new.disk) (omega (arith, group_is (g.N.Newer.run c.args.newer.now)))
    (reads_two g (goal.at.returns-in_default-clause-numbers g c).After-walk_above)) (search rules))

-- ---- a group

-- the merge as its parts have it
may : (g : _) (c : In-Some g) → MayGoOn c.args.geo.now (stage (progress (record { writer = c.self.inside.writer; older = c.self.inside.older.cursor; at = c.self.inside.at; closed = c.self.inside.closed; left = c.self.inside.left; rest = record { here = c.self.inside.older.here; behind = c.self.inside.behind } }) (g.N.Newer.run c.args.newer.now) (g.N.Newer.table c.args.newer.now)) c.args.space.now c.args.filter.now c.args.fences.now (g.D.Disk.state c.args.disk.now))
may g c = subst (λ (s : MergeState). MayGoOn c.args.geo.now (stage (progress s (g.N.Newer.run c.args.newer.now) (g.N.Newer.table c.args.newer.now)) c.args.space.now c.args.filter.now c.args.fences.now (g.D.Disk.state c.args.disk.now))) (sym c.self.view_is) c.requires.runs

-- where the group lies
lies : (g : _) (c : In-Some g) → Some (c.in-Some.key.now, c.in-Some.rec.now, c.in-Some.weight) ≡ group_at c.group_with-taken.result c.walk_above.new.walk.cursor.head c.group_with-taken.new.room
lies g c = c.in-Some.ensures ∙ ap (λ (o : Option (Key × Rec)). group_at c.group_with-taken.result o c.group_with-taken.new.room) c.peek.ensures

group : (g : _) (c : In-Some g) → group_of (first_of (above c.self.inside.at (at_hand (g.N.Newer.run c.go_above.new.self) (g.N.Newer.table c.go_above.new.self)))) c.walk_above.new.walk.cursor.head ≡ Some (c.in-Some.key.now, c.in-Some.rec.now, c.in-Some.weight)
group g c = sym c.group_with-taken.ensures.group ∙ sym (lies g c)

-- what it weighs
weighs_some : (g : _) (c : In-Some g) → least_weight ≤ c.in-Some.weight
weighs_some g c = subst (λ (o : Option (Key × Rec × ℕ)). IfSome o (λ e. least_weight ≤ e.2)) (sym (lies g c)) c.group_with-taken.ensures.some

weighs_light : (g : _) (c : In-Some g) → (c.in-Some.weight ≤ 2 * most_weight) × (weight c.in-Some.key.now c.in-Some.rec.now ≤ c.in-Some.weight)
weighs_light g c = subst (λ (o : Option (Key × Rec × ℕ)). IfSome o (λ e. (e.2 ≤ 2 * most_weight) × (weight e.0 e.1 ≤ e.2))) (sym (lies g c)) c.group_with-taken.ensures.light

weighs_more : (g : _) (c : In-Some g) (given : Rec) → first_of (above c.self.inside.at (at_hand (g.N.Newer.run c.go_above.new.self) (g.N.Newer.table c.go_above.new.self))) ≡ Some (c.in-Some.key.now, given)
    → weight c.in-Some.key.now given ≤ weight c.in-Some.key.now c.in-Some.rec.now
weighs_more g c =
    subst (λ (o : Option (Key × Rec × ℕ)). IfSome o (λ e. (given : Rec) → first_of (above c.self.inside.at (at_hand (g.N.Newer.run c.go_above.new.self) (g.N.Newer.table c.go_above.new.self))) ≡ Some (e.0, given) → weight e.0 given ≤ weight e.0 e.1))
    (sym (lies g c)) c.group_with-taken.ensures.grows

-- what was counted when it was found
counted : (g : _) (c : In-Some g) → Counts 0 (pages_ahead (cursors_with (g.N.Newer.run c.args.newer.now) c.self.inside.older.cursor)) (pages_ahead (cursors_with (g.N.Newer.run c.go_above.new.self) c.walk_above.new.walk.cursor))
    c.self.inside.writer.component.pages c.self.inside.writer.component.pages (g.D.Disk.state c.args.disk.now) (g.D.Disk.state c.walk_above.new.disk)
counted g c =
    let second = c.in_ok-walk_above.ensures.one_a_page in
    let later = c.walk_above.ensures.reads.effect.effect.goes_on.clock in
    counts_read (g.N.Newer.run c.args.newer.now) (g.N.Newer.run c.go_above.new.self) c.self.inside.older.cursor c.walk_above.new.walk.cursor c.self.inside.writer.component.pages 0
    (g.D.Disk.state c.args.disk.now) (g.D.Disk.state c.go_above.new.disk) (g.D.Disk.state c.walk_above.new.disk)
    c.in_ok-go_above.ensures.one_a_page c.go_above.ensures.reads.effect.effect.goes_on.clock (omega (arith, second, later)) (omega (arith, second))

taken : (g : _) (c : In-Some g) → IsTaken c.self.inside.at (at_hand (g.N.Newer.run c.go_above.new.self) (g.N.Newer.table c.go_above.new.self)) (from_head c.walk_above.new.walk.cursor.head []) c.in-Some.key.now c.in-Some.rec.now c.in-Some.weight
taken g c =
    group_taken (g.N.Newer.run c.go_above.new.self) (g.N.Newer.table c.go_above.new.self) c.walk_above.new.walk.cursor c.self.inside.at c.in-Some.key.now c.in-Some.rec.now c.in-Some.weight
    c.group_with-taken.ensures.sorted c.in_ok-walk_above.ensures.ready.0 (group g c)

-- it weighs no more than what is gone of what was left
light : (g : _) (c : In-Some g) → weight c.in-Some.key.now c.in-Some.rec.now + (newer_left (Some c.in-Some.key.now) (g.N.Newer.run c.go_above.new.self) (g.N.Newer.table c.go_above.new.self) + left_in (Some c.in-Some.key.now) c.walk_above.new.walk.cursor)
    ≤ newer_left c.self.inside.at (g.N.Newer.run c.args.newer.now) (g.N.Newer.table c.args.newer.now) + left_in c.self.inside.at c.self.inside.older.cursor
light g c =
    let t = taken g c in
    omega (arith, t.taken_is, t.newer_left, t.older_left, newer_less c.self.inside.at c.in-Some.key.now (g.N.Newer.run c.go_above.new.self) (g.N.Newer.table c.go_above.new.self), c.in_ok-go_above.ensures.ready.1, c.in_ok-walk_above.ensures.ready.1, (weighs_light g c).1)

read : (g : _) (c : In-Some g) → HasRun c.args.geo.now (g.D.Disk.state c.walk_above.new.disk).is_honest (g.D.Disk.state c.walk_above.new.disk).bytes c.args.space.now c.self.inside.writer c.args.filter.now c.args.fences.now c.self.inside.at
read g c = run_read c.walk_above.ensures.reads.effect (run_read c.go_above.ensures.reads.effect (may g c).running.run)

rises : (g : _) (c : In-Some g) (any : Rec) → AreRising ((read g c).out ++ (c.in-Some.key.now, any) ∷ [])
rises g c any =
    let run = read g c in
    rising_more c.self.inside.at run.out c.in-Some.key.now any (subst AreRising run.pushed.entries_are run.pushed.is_run.rise) run.ends (taken g c).above_at

pub put-requires-clause-room : goal.put-requires-clause-room
put-requires-clause-room g c = let arm = (goal.at.put-requires-clause-room g c).In-Some in room_less c.args.space.now c.self.inside.writer _ _ (omega (arith, light g arm)) (may g arm).room

pub put-requires-clause-fences : goal.put-requires-clause-fences
put-requires-clause-fences g c = let arm = (goal.at.put-requires-clause-fences g c).In-Some in omega (arith, light g arm, (may g arm).fences_fit)

pub put-requires-clause-run : goal.put-requires-clause-run
put-requires-clause-run g c = let arm = (goal.at.put-requires-clause-run g c).In-Some in ((read g arm).out, (read g arm).pushed, rises g arm)

-- what is left fits a number
pub left_behind-self-inside-requires : goal.left_behind-self-inside-requires
left_behind-self-inside-requires g c =
    let arm = (goal.at.left_behind-self-inside-requires g c).In-Some in
    let at = c.self.inside.at in
    left_small c.args.space.now c.self.inside.writer _ _ (may g arm).room c.component-pages.ensures.counted (omega (arith, c.requires.pages, c.pages-pages.ensures.pages, c.pages-pages.ensures.bound))
    (omega (arith, component_few at (g.N.Newer.run c.go_above.new.self) (g.N.Newer.table c.go_above.new.self), c.in_ok-go_above.ensures.ready.1, c.in_ok-walk_above.ensures.ready.1))

works : (g : _) (c : After-put g) → Grows c.args.geo.now (newer_calls (g.N.Newer.run c.args.newer.now) + 1) c.args.space.now c.args.space.now c.self.inside.writer c.self.inside.writer (g.D.Disk.state c.args.disk.now) (g.D.Disk.state c.walk_above.new.disk)
    → Grows c.args.geo.now (group_calls (g.N.Newer.run c.args.newer.now)) c.args.space.now c.put.new.space c.self.inside.writer c.put.new.writer (g.D.Disk.state c.args.disk.now) (g.D.Disk.state c.put.new.disk)
works g c read =
    let calls = newer_calls (g.N.Newer.run c.args.newer.now) + 1 in
    works_more c.args.geo.now (calls + 1) (group_calls (g.N.Newer.run c.args.newer.now)) c.args.space.now c.put.new.space c.self.inside.writer c.put.new.writer (g.D.Disk.state c.args.disk.now) (g.D.Disk.state c.put.new.disk) (omega (arith, group_is (g.N.Newer.run c.args.newer.now)))
    (works_written c.args.geo.now calls c.args.space.now c.put.new.space c.self.inside.writer c.put.new.writer (g.D.Disk.state c.args.disk.now) (g.D.Disk.state c.walk_above.new.disk) (g.D.Disk.state c.put.new.disk) c.put.result
    (g.met.D.Disk.timed c.walk_above.new.disk)
    (c.walk_above.ensures.reads.stands (calm_of c.walk_above.result c.in_ok-walk_above.was) ∙ c.go_above.ensures.reads.stands (calm_of c.go_above.result c.in_ok-go_above.was))
    read c.put.ensures.takes c.put.ensures.tagged c.put.ensures.opens c.put.ensures.writes)

pub returns-in_err-put-clause-numbers : goal.returns-in_err-put-clause-numbers
returns-in_err-put-clause-numbers g c =
    let arm = (goal.at.returns-in_err-put-clause-numbers g c).In-Some in
    let kept = ap (λ (w : WriterState). w.component.pages) c.in_err-put.ensures.kept in
    let p = err_from_is_err_and c.from_residual-in_err-put.result c.from_residual-in_err-put.ensures.1 in
    told_err p.1
    (subst (λ (m : MergeState). Counts 1 (pages_ahead (cursors_with (g.N.Newer.run c.args.newer.now) m.older)) (pages_ahead (cursors_with (g.N.Newer.run c.go_above.new.self) c.walk_above.new.walk.cursor)) m.writer.component.pages c.put.new.writer.component.pages
    (g.D.Disk.state c.args.disk.now) (g.D.Disk.state c.put.new.disk)) c.self.view_is
    (counts_written 1 (g.D.Disk.state c.args.disk.now) (g.D.Disk.state c.walk_above.new.disk) (g.D.Disk.state c.put.new.disk) (counted g arm) (omega (arith, kept)) (omega (arith, kept, c.put.ensures.writes.effect.calls))))
    (search rules) (search rules)
    (subst (λ (s : MergeState). Grows c.args.geo.now (group_calls (g.N.Newer.run c.args.newer.now)) c.args.space.now c.put.new.space s.writer c.put.new.writer (g.D.Disk.state c.args.disk.now) (g.D.Disk.state c.put.new.disk)) c.self.view_is (works g (goal.at.returns-in_err-put-clause-numbers g c).After-put (reads_two g (goal.at.returns-in_err-put-clause-numbers g c).After-walk_above)))
    (search rules)
    (record {
      stands = λ other. absurd (other (p.1 ∙ ap Err p.2));
      failed = λ same. subst (λ (n : ℕ). HasRisen n (g.D.Disk.state c.put.new.disk).faults)
          (c.walk_above.ensures.reads.stands (calm_of c.walk_above.result c.in_ok-walk_above.was) ∙ c.go_above.ensures.reads.stands (calm_of c.go_above.result c.in_ok-go_above.was))
          (c.in_err-put.ensures.writes.failed refl);
    })

pub returns-clause-numbers : goal.returns-clause-numbers
returns-clause-numbers g c =
    let arm = (goal.at.returns-clause-numbers g c).In-Some in
    let at = c.self.inside.at in
    let input = g.N.Newer.run c.go_above.new.self in
    let table = g.N.Newer.table c.go_above.new.self in
    let older = c.walk_above.new.walk.cursor in
    let ready_newer = c.in_ok-go_above.ensures.ready in
    let ready_older = c.in_ok-walk_above.ensures.ready in
    let third = c.put.ensures.writes.effect.goes_on in
    let key = c.in-Some.key.now in
    let rec = c.in-Some.rec.now in
    let old = may g arm in
    let run = read g arm in
    let less = light g arm in
    let hand = first_of (above at (at_hand input table)) in
    let pages = c.in_ok-put.ensures.one_a_page in
    subst (λ (k : Key). MergesOn c.args.geo.now (group_calls (g.N.Newer.run c.args.newer.now)) TakesGroup (stage (progress c.args.self.now (g.N.Newer.run c.args.newer.now) (g.N.Newer.table c.args.newer.now)) c.args.space.now c.args.filter.now c.args.fences.now (g.D.Disk.state c.args.disk.now))
    (stage (progress (record {
      writer = c.put.new.writer;
      older = older;
      at = Some k;
      closed = c.tell_closed.new.closed;
      left = c.left_behind-self-inside.result;
      rest = record { here = c.walk_above.new.walk.here; behind = c.part_behind-self-inside.result };
    }) input table) c.put.new.space c.put.new.filter c.put.new.fences (g.D.Disk.state c.put.new.disk))
    (Ok c.in-Some.weight)) (sym c.copy.ensures)
    (subst (λ (s : MergeState). MergesOn c.args.geo.now (group_calls (g.N.Newer.run c.args.newer.now)) TakesGroup (stage (progress s (g.N.Newer.run c.args.newer.now) (g.N.Newer.table c.args.newer.now)) c.args.space.now c.args.filter.now c.args.fences.now (g.D.Disk.state c.args.disk.now))
    (stage (progress (record {
      writer = c.put.new.writer;
      older = older;
      at = Some key;
      closed = c.tell_closed.new.closed;
      left = c.left_behind-self-inside.result;
      rest = record { here = c.walk_above.new.walk.here; behind = c.part_behind-self-inside.result };
    }) input table) c.put.new.space c.put.new.filter c.put.new.fences (g.D.Disk.state c.put.new.disk))
    (Ok c.in-Some.weight)) c.self.view_is
    (told_ok
    (takes_group _ _ (taken g arm) refl (omega (arith, ready_newer.1, newer_less at key input table)) (omega (arith, ready_older.1)) (weighs_some g arm) (weighs_light g arm).0
    (omega (arith, (weighs_light g arm).1, c.in_ok-put.ensures.light)))
    (record {
      running = record {
        run = record {
          out = run.out ++ kept c.args.settles ((key, rec) ∷ []);
          pushed = c.in_ok-put.ensures.pushed run.out (rises g arm) run.pushed;
          ends = ends_kept c.args.settles at run.out key rec run.ends (taken g arm).above_at;
        };
        behind = behind_both (Some key) input older (newer_behind at input table older.head key rec c.in-Some.weight ready_newer.0 (group g arm))
            (behind_group at older key ready_older.0 (older_stays hand older.head key rec c.in-Some.weight (group g arm)));
      };
      fences_fit = omega (arith, less, old.fences_fit, c.in_ok-put.ensures.light, c.put.ensures.reserves.fences_are);
      room = c.in_ok-put.ensures.room _ (room_less c.args.space.now c.self.inside.writer _ _ less old.room);
    })
    c.in_ok-put.ensures.size
    (counts_written 0 (g.D.Disk.state c.args.disk.now) (g.D.Disk.state c.walk_above.new.disk) (g.D.Disk.state c.put.new.disk) (counted g arm) (omega (arith, pages, third.clock)) (omega (arith, pages)))
    (search rules) (search rules)
    (works g (goal.at.returns-clause-numbers g c).After-put (reads_two g (goal.at.returns-clause-numbers g c).After-walk_above)) (search rules)))

pub returns-clause-lists : goal.returns-clause-lists
returns-clause-lists g c = λ overs unders over under honest merging other.
    let arm = (goal.at.returns-clause-lists g c).In-Some in
    let sizes = c.args.geo.now in
    let space = c.args.space.now in
    let after_space = c.put.new.space in
    let before = g.D.Disk.state c.args.disk.now in
    let mid = g.D.Disk.state c.walk_above.new.disk in
    let after = g.D.Disk.state c.put.new.disk in
    let input = g.N.Newer.run c.go_above.new.self in
    let table = g.N.Newer.table c.go_above.new.self in
    let older = c.walk_above.new.walk.cursor in
    let writer = c.self.inside.writer in
    let role = writer.role in
    let at = c.self.inside.at in
    let key = c.in-Some.key.now in
    let rec = c.in-Some.rec.now in
    let weighs = c.in-Some.weight in
    let settles = c.args.settles in
    let first = c.go_above.ensures.reads.effect in
    let second = c.walk_above.ensures.reads.effect in
    let still = first.effect.goes_on.is_honest ∙ honest in
    let same = only_reads_same second still in
    let old = subst (λ (s : MergeState). IsMerging settles sizes before.bytes space s (g.N.Newer.run c.args.newer.now) (g.N.Newer.table c.args.newer.now) c.args.filter.now c.args.fences.now overs unders over under) (sym c.self.view_is) merging in
    let upper_mid = (c.go_above.ensures.input space role overs over honest old.newer_is (calm_of c.go_above.result c.in_ok-go_above.was)).1 in
    let below = subst (λ (b : List ℕ). IsInput sizes b space role at c.self.inside.older.cursor unders under) (sym (only_reads_same first honest)) old.older_is in
    let lower = (c.walk_above.ensures.input space role unders under still below (calm_of c.walk_above.result c.in_ok-walk_above.was)).1 in
    let upper = subst (λ (b : List ℕ). IsNewer sizes b space role at input table overs over) (sym same) upper_mid in
    let both : group_of (first_of (above at over)) (first_of (above at under)) ≡ Some (key, rec, weighs) =
    ap (λ (x : Option (Key × Rec)). group_of x (first_of (above at under))) (newer_first sizes mid.bytes space role at input table overs over c.in_ok-go_above.ensures.ready.0 upper)
    ∙ ap (group_of (first_of (above at (at_hand input table)))) (head_is sizes mid.bytes space role at older under c.in_ok-walk_above.ensures.ready.0 lower) ∙ group g arm in
    let sorted = newer_sorted sizes mid.bytes space role at input table overs over upper in
    let taken = goes_on at over under key rec weighs sorted lower.sorted both in
    let mid_honest : mid.is_honest ≡ true = second.effect.goes_on.is_honest ∙ still in
    let after_honest : after.is_honest ≡ true = c.put.ensures.writes.effect.goes_on.is_honest ∙ mid_honest in
    let out = old.run.out in
    let pushed = subst (λ (h : Bool). HasPushed sizes h mid.bytes space writer c.args.filter.now c.args.fences.now out) (sym mid_honest)
    (pushed_read sizes true before.bytes mid.bytes space writer c.args.filter.now c.args.fences.now out (λ told. same ∙ only_reads_same first honest) old.run.pushed) in
    let rise = subst AreRising pushed.entries_are pushed.is_run.rise in
    let change = same_wider c.put.ensures.tagged (c.put.ensures.writes.effect.bytes mid_honest) in
    let takes = c.put.ensures.takes in
    let behind =
    turned_behind at c.self.inside.closed _ c.component-pages.result.pages c.component.result.pages writer c.put.new.writer c.tell_closed.ensures
    (ap (λ (k : Component). k.pages) c.component-pages.ensures.component) (ap (λ (k : Component). k.pages) c.component.ensures.component) in
    let left_is =
    turned_behind (component_left at input + left_in at older) c.self.inside.left _ c.component-pages.result.pages c.component.result.pages writer c.put.new.writer c.left_behind-self-inside.ensures
    (ap (λ (k : Component). k.pages) c.component-pages.ensures.component) (ap (λ (k : Component). k.pages) c.component.ensures.component) in
    let next : IsNext at (Some key) over under weighs = (key, rec, both, refl) in
    let part_is =
    turned_behind c.walk_above.new.walk.here c.self.inside.behind _ c.component-pages.result.pages c.component.result.pages writer c.put.new.writer c.part_behind-self-inside.ensures
    (ap (λ (k : Component). k.pages) c.component-pages.ensures.component) (ap (λ (k : Component). k.pages) c.component.ensures.component) in
    let table_was : input ≡ None → g.N.Newer.run c.args.newer.now ≡ None =
    λ none. still_table (g.N.Newer.run c.args.newer.now) input c.go_above.ensures.same_kind none in
    let here_mid : input ≡ None → IsInput sizes mid.bytes space role at (started c.walk_above.new.walk.here) unders under =
    λ none. c.in_ok-walk_above.ensures.part space role unders under still below
    (subst (λ (b : List ℕ). IsInput sizes b space role at (started c.self.inside.older.here) unders under) (sym (only_reads_same first honest)) (old.here_is (table_was none))) in
    let stays : (k : Option Key) (part : Component) → IsInput sizes mid.bytes space role k (started part) unders under → IsInput sizes after.bytes after_space role k (started part) unders under =
    λ k part there. input_kept sizes mid.bytes after.bytes space after_space role k (started part) unders under change takes there in
    subst (λ (k : Key). (n : ℕ) × (◌≡◌ {A = Result ℕ Broken} (Ok weighs) (Ok n))
    × IsMerging settles sizes after.bytes after_space (record {
      writer = c.put.new.writer;
      older = older;
      at = Some k;
      closed
          = c.tell_closed.new.closed;
      left = c.left_behind-self-inside.result;
      rest = record { here = c.walk_above.new.walk.here; behind = c.part_behind-self-inside.result };
    }) input table c.put.new.filter c.put.new.fences overs unders over under
    × AreSorted over × (IsNext c.args.self.now.at (Some k) over under n ⊎ (NoneAbove c.args.self.now.at over under × (Some k ≡ c.args.self.now.at) × (n ≡ 0)))) (sym c.copy.ensures) (
      weighs,
      refl,
      record {
        newer_is = subst (λ (r : ℕ). IsNewer sizes after.bytes after_space r (Some key) input table overs over) (sym c.put.ensures.role)
            (newer_further sizes after.bytes after_space role at key input table overs over taken.above_at (newer_kept sizes mid.bytes after.bytes space after_space role at input table overs over change takes upper));
        older_is = subst (λ (r : ℕ). IsInput sizes after.bytes after_space r (Some key) older unders under) (sym c.put.ensures.role)
            (input_further sizes after.bytes after_space role at key older under taken.above_at (input_kept sizes mid.bytes after.bytes space after_space role at older unders under change takes lower));
        run = record {
          out = out ++ kept settles ((key, rec) ∷ []);
          pushed = subst (λ (h : Bool). HasPushed sizes h after.bytes after_space c.put.new.writer c.put.new.filter c.put.new.fences (out ++ kept settles ((key, rec) ∷ []))) after_honest
              (c.in_ok-put.ensures.pushed out (λ any. rising_more at out key any rise old.run.ends taken.above_at) pushed);
          ends = ends_kept settles at out key rec old.run.ends taken.above_at;
        };
        begun = begun_more (g.N.Newer.run c.args.newer.now) input (kept settles ((key, rec) ∷ [])) c.go_above.ensures.same_kind old.begun c.in_ok-put.ensures.begun;
        out_is = ap (λ (l : Entries). l ++ kept settles ((key, rec) ∷ [])) old.out_is
            ∙ sym (kept_more settles (folded_over (up_to at over) (up_to at under)) key rec)
            ∙ sym (ap (λ (l : Entries). kept settles l) taken.out);
        closed_up = closed_up_more (has_turned writer c.put.new.writer) at c.self.inside.closed c.tell_closed.new.closed key behind taken.above_at
            old.closed_up;
        closed_is = closed_is_more (has_turned writer c.put.new.writer) at c.self.inside.closed c.tell_closed.new.closed out
            (closed_entries writer out) (closed_entries c.put.new.writer (out ++ kept settles ((key, rec) ∷ [])))
            (λ (k : Option Key). kept settles (folded_over (up_to k over) (up_to k under))) behind (c.in_ok-put.ensures.closed out pushed) old.out_is old.closed_is;
        left_is = left_behind_is (has_turned writer c.put.new.writer) at c.self.inside.closed c.tell_closed.new.closed
            c.left_behind-self-inside.result _ c.self.inside.left (λ (k : Option Key). components_above k input over under) behind
            left_is (components_are sizes mid.bytes space role at input table overs older over under c.in_ok-go_above.ensures.ready.0 upper c.in_ok-walk_above.ensures.ready.0 lower)
            (λ some. old.left_is some ∙ sym (same_above c.self.inside.closed (g.N.Newer.run c.args.newer.now) input over under c.go_above.ensures.same_kind));
        here_is = λ none.
            subst (λ (r : ℕ). IsInput sizes after.bytes after_space r (Some key) (started c.walk_above.new.walk.here) unders under) (sym c.put.ensures.role)
            (input_further sizes after.bytes after_space role at key (started c.walk_above.new.walk.here) under taken.above_at (stays at c.walk_above.new.walk.here (here_mid none)));
        behind_is = λ none.
            subst (λ (r : ℕ). IsInput sizes after.bytes after_space r c.tell_closed.new.closed (started c.part_behind-self-inside.result) unders under) (sym c.put.ensures.role)
            (part_told (has_turned writer c.put.new.writer) at c.self.inside.closed c.tell_closed.new.closed c.walk_above.new.walk.here c.self.inside.behind _
            (λ (k : Option Key) (part : Component). IsInput sizes after.bytes after_space role k (started part) unders under) behind part_is
            (stays at c.walk_above.new.walk.here (here_mid none))
            (stays c.self.inside.closed c.self.inside.behind
            (subst (λ (b : List ℕ). IsInput sizes b space role c.self.inside.closed (started c.self.inside.behind) unders under)
            (sym (same ∙ only_reads_same first honest)) (old.behind_is (table_was none)))));
      },
      sorted,
      inl (subst (λ (k : Option Key). IsNext k (Some key) over under weighs) (ap (λ (s : MergeState). s.at) c.self.view_is) next),
    )

-- ---- the closed pages

pub returns-in_default-clause-covers : goal.returns-in_default-clause-covers
returns-in_default-clause-covers g c = λ total covers.
    let inside = c.self.inside in
    let old = subst (λ (s : MergeState). Covers c.args.settles total s (g.N.Newer.run c.args.newer.now) (g.N.Newer.table c.args.newer.now)) (sym c.self.view_is) covers in (
      record {
        up = old.up;
        light = λ plain none.
            subst (λ (l : Entries). entries_weight (above inside.closed l) ≤ entries_weight (above inside.at l) + length inside.writer.buffer.text) (sym c.go_above.ensures.same_table)
            (old.light plain (still_table (g.N.Newer.run c.args.newer.now) (g.N.Newer.run c.go_above.new.self) c.go_above.ensures.same_kind none));
        left = λ some.
            omega (
              arith,
              old.left some,
              c.in_ok-walk_above.ensures.ready.1,
              same_left inside.at (g.N.Newer.run c.args.newer.now) (g.N.Newer.run c.go_above.new.self) (g.N.Newer.table c.args.newer.now) (g.N.Newer.table c.go_above.new.self) c.go_above.ensures.same_kind c.in_ok-go_above.ensures.ready.1,
            );
        here = (c.in_ok-walk_above.ensures.in_part old.here).0;
        behind = old.behind;
        made = λ none.
            omega (
              arith,
              old.made (still_table (g.N.Newer.run c.args.newer.now) (g.N.Newer.run c.go_above.new.self) c.go_above.ensures.same_kind none),
              ap (λ (l : Entries). entries_weight (above inside.at l)) c.go_above.ensures.same_table,
              c.in_ok-walk_above.ensures.ready.1,
            );
        told = λ plain none some.
            omega (
              arith,
              old.told plain (still_table (g.N.Newer.run c.args.newer.now) (g.N.Newer.run c.go_above.new.self) c.go_above.ensures.same_kind none) some,
              ap (λ (l : Entries). entries_weight (above inside.at l)) c.go_above.ensures.same_table,
            );
        begun = old.begun;
        turned = old.turned;
        fits = old.fits;
      },
      subst (λ (s : MergeState). IsUpTo s.closed inside.closed) c.self.view_is (λ key is. is),
    )

pub returns-clause-covers : goal.returns-clause-covers
returns-clause-covers g c = λ total covers.
    let arm = (goal.at.returns-clause-covers g c).In-Some in
    let at = c.self.inside.at in
    let closed = c.self.inside.closed in
    let writer = c.self.inside.writer in
    let turned = has_turned writer c.put.new.writer in
    let key = c.in-Some.key.now in
    let rec = c.in-Some.rec.now in
    let input = g.N.Newer.run c.go_above.new.self in
    let table = g.N.Newer.table c.go_above.new.self in
    let hand = at_hand input table in
    let older = c.walk_above.new.walk.cursor in
    let old = subst (λ (s : MergeState). Covers c.args.settles total s (g.N.Newer.run c.args.newer.now) (g.N.Newer.table c.args.newer.now)) (sym c.self.view_is) covers in
    let behind =
    turned_behind at closed _ c.component-pages.result.pages c.component.result.pages writer c.put.new.writer c.tell_closed.ensures
    (ap (λ (k : Component). k.pages) c.component-pages.ensures.component) (ap (λ (k : Component). k.pages) c.component.ensures.component) in
    let less = gave_less (taken g arm) (weighs_more g arm) in
    let left_is =
    turned_behind (component_left at input + left_in at older) c.self.inside.left _ c.component-pages.result.pages c.component.result.pages writer c.put.new.writer c.left_behind-self-inside.ensures
    (ap (λ (k : Component). k.pages) c.component-pages.ensures.component) (ap (λ (k : Component). k.pages) c.component.ensures.component) in
    let part_is =
    turned_behind c.walk_above.new.walk.here c.self.inside.behind _ c.component-pages.result.pages c.component.result.pages writer c.put.new.writer c.part_behind-self-inside.ensures
    (ap (λ (k : Component). k.pages) c.component-pages.ensures.component) (ap (λ (k : Component). k.pages) c.component.ensures.component) in
    let walked = c.in_ok-walk_above.ensures.in_part old.here in
    let run = read g arm in
    let counted_now = (c.in_ok-put.ensures.pushed run.out (rises g arm) run.pushed).counted in
    let has_here : c.args.settles ≡ false → weight key rec ≤ length c.put.new.writer.buffer.text =
    λ plain. omega (arith, c.in_ok-put.ensures.here plain) in
    let onward : writer.component.pages ≤ c.put.new.writer.component.pages =
    omega (arith, c.in_ok-put.ensures.one_a_page, c.put.ensures.writes.effect.goes_on.clock) in
    let made_before : input ≡ None → writer.component.weight + entries_weight (above at table) + left_in at older ≤ total =
    λ none.
    omega (
      arith,
      old.made (still_table (g.N.Newer.run c.args.newer.now) input c.go_above.ensures.same_kind none),
      ap (λ (l : Entries). entries_weight (above at l)) c.go_above.ensures.same_table,
      c.in_ok-walk_above.ensures.ready.1,
    ) in (
      subst (λ (k : Key). Covers c.args.settles total (record {
        writer = c.put.new.writer;
        older = older;
        at = Some k;
        closed = c.tell_closed.new.closed;
        left = c.left_behind-self-inside.result;
        rest = record { here = c.walk_above.new.walk.here; behind = c.part_behind-self-inside.result };
      }) input table) (sym c.copy.ensures)
          (record {
            up = closed_up_more turned at closed c.tell_closed.new.closed key behind (taken g arm).above_at old.up;
            light = λ plain none.
                light_more turned at closed c.tell_closed.new.closed key table (length c.put.new.writer.buffer.text) (length writer.buffer.text)
                (weight key rec) behind (c.in_ok-put.ensures.here plain)
                (subst (λ (l : Entries). entries_weight (above at l) ≤ entries_weight (above (Some key) l) + weight key rec) (ap (λ (i : Option CursorState). at_hand i table) none) less)
                (subst (λ (l : Entries). entries_weight (above closed l) ≤ entries_weight (above at l) + length writer.buffer.text) (sym c.go_above.ensures.same_table)
                (old.light plain (still_table (g.N.Newer.run c.args.newer.now) input c.go_above.ensures.same_kind none)));
            left = left_covers turned at closed c.tell_closed.new.closed c.left_behind-self-inside.result (component_left at input + left_in at older)
                c.self.inside.left (component_left (Some key) input + left_in (Some key) older)
                (component_left at (g.N.Newer.run c.args.newer.now) + left_in at c.self.inside.older.cursor) behind
                left_is
                (omega (arith, component_less at key input table (taken g arm).of_newer (taken g arm).newer_left, (taken g arm).older_left))
                (omega (
                  arith,
                  c.in_ok-walk_above.ensures.ready.1,
                  same_left at (g.N.Newer.run c.args.newer.now) input (g.N.Newer.table c.args.newer.now) table c.go_above.ensures.same_kind c.in_ok-go_above.ensures.ready.1,
                ))
                old.left;
            here = walked.0;
            behind = part_covers turned at closed c.tell_closed.new.closed c.left_behind-self-inside.result (component_left at input + left_in at older)
                c.self.inside.left c.walk_above.new.walk.here c.self.inside.behind _ behind left_is part_is (omega (arith, walked.0.on_page)) walked.1 old.behind;
            made = λ none. made_more at key input table total (weight key rec) (taken g arm).of_newer (taken g arm).of_older writer.component.weight
                c.put.new.writer.component.weight (left_in at older) (left_in (Some key) older) none (taken g arm).newer_left (omega (arith, (taken g arm).older_left))
                (omega (arith, (taken g arm).taken_is, (weighs_light g arm).1)) c.in_ok-put.ensures.light (made_before none);
            told = λ plain none.
                told_more turned at closed c.tell_closed.new.closed c.left_behind-self-inside.result (component_left at input + left_in at older) c.self.inside.left
                writer.component.weight c.put.new.writer.component.weight (length writer.buffer.text) (length c.put.new.writer.buffer.text) (weight key rec) total
                (entries_weight (above at table)) (entries_weight (above (Some key) table)) behind left_is (c.in_ok-put.ensures.here plain) c.in_ok-put.ensures.light
                (table_less at key input table (taken g arm).of_newer none (taken g arm).newer_left)
                (omega (arith, made_before none, ap (λ (i : Option CursorState). component_left at i) none))
                (λ some.
                omega (
                  arith,
                  old.told plain (still_table (g.N.Newer.run c.args.newer.now) input c.go_above.ensures.same_kind none) some,
                  ap (λ (l : Entries). entries_weight (above at l)) c.go_above.ensures.same_table,
                ));
            begun = λ plain some. pages_begun c.put.new.writer (weight key rec) counted_now (weighs_something key rec) (has_here plain);
            turned = λ plain.
                closed_turned turned at closed c.tell_closed.new.closed writer.component.pages c.put.new.writer.component.pages behind
                (λ more. more_pages writer.component.pages c.put.new.writer.component.pages more) onward (old.begun plain) (old.turned plain);
            fits = counted_now.fits;
          }),
      subst (λ (s : MergeState). IsUpTo s.closed c.tell_closed.new.closed) c.self.view_is (closed_onward turned at closed c.tell_closed.new.closed behind old.up),
    )
