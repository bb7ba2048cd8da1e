-- With what a merge goes on behind an output that was walked.
use Rattle.std.proofs.Common.{
  ◌≡◌,
  ◌∙◌,
  ℕ,
  ◌+◌,
  ◌<◌,
  ◌≤◌,
  ◌^◌,
  Bool,
  true,
  IsTrue,
  List,
  [],
  ◌++◌,
  length,
  Option,
  Some,
  None,
  refl,
  ap,
  sym,
  subst,
  inl,
  inr,
  ⊎_elim,
  arith,
  append-nil,
}
use Rattle.std.specs.Prelude.{nat_eq}
use Rattle.std.specs.List.{Contains, IsDistinct}
use Rattle.std.specs.Cmp.{tied_itself}
use Rattle.std.specs.Ordering.{is_lt}
use Rattle.std.proofs.lemmas.Cmp.{nat_list_cmp_total}
use Rattle.std.proofs.lemmas.Bool.{cases_lt, false≢true}
use Rattle.std.proofs.lemmas.List.{get_or_past}
use Rattle.std.proofs.lemmas.List.Elements.{Contains-push_cases}
use Rattle.std.proofs.lemmas.Grind.{common_steps}
use Rattle.std.proofs.lemmas.Bool.Decides.{nat_tests}
use Rattle.blsm_model.specs.declared.component.Component.{Component}
use Rattle.blsm_model.specs.declared.key.Key.{Key}
use Rattle.blsm_model.specs.Components.{no_page}
use Rattle.blsm_model.specs.Sizes.{Sizes}
use Rattle.blsm_model.specs.Geometry.{page_count}
use Rattle.record_delta.specs.Entries.{Entries, above, entries_weight, is_above}
use Rattle.page_file.specs.Page.{page_number}
use Rattle.page_file.specs.Component.{RunPage, AreChained, entries_of, first_number, numbers_of}
use Rattle.page_space.specs.PageSet.{Members, IsIn}
use Rattle.page_space.specs.Space.{Claims, HasRole, IsSpace, SpaceState, role_count}
use Rattle.run_cursor.specs.Cursor.{CursorState}
use Rattle.run_writer.specs.Run.{all_numbers, page_of, pages_of}
use Rattle.run_writer.specs.Writer.{IsCounted, resumed}
use Rattle.merge_ends.specs.Input.{IsInput, IsReady}
use Rattle.merge_ends.specs.Merge.{HasFinished}
use Rattle.merge_ends.specs.Output.{IsUpTo}
use Rattle.merge_ends.specs.declared.finished.Finished.{Finished}
use Rattle.merge_ends.proofs.LeftLemmas.{input_left}
use Rattle.tree_runs.specs.Holding.{AreElsewhere}
use Rattle.tree_runs.specs.Runs.{GuideState}
use Rattle.output_reading.specs.declared.inputs.Inputs.{Inputs}
use Rattle.output_reading.specs.declared.output.Output.{Output}
use Rattle.catalog_swap.specs.declared.catalog.Progress.{Progress}
use Rattle.tree_runs.specs.declared.resumable.Resumable.{Resumable}
use Rattle.tree_runs.specs.Ahead.{MayResume, ResumesOver}
use Rattle.output_reading.specs.Noted.{GoesOnWith, HasNoted}
use Rattle.tree_file.specs.Output.{settled_fold, settled_up_to}
use Rattle.output_reading.specs.Output.{IsLight}
use Rattle.output_reading.specs.Walk.{AreInputs, AreReady, HasClaimed, HasMet, IsEnd, left_of, no_space}
use Rattle.output_reading.proofs.GuidesLemmas.{numbers_are}
use Rattle.output_reading.proofs.MetLemmas.{all_given, none_here}
use Rattle.output_reading.proofs.PagesLemmas.{distinct_push, is_some, same_pages}

-- ---- the finished pages

finished_is : (output : Component) (next : ℕ) (done : Finished) → done.output ≡ output → done.next ≡ next
    → record { output = output; next = next; key = done.key; left = done.left } ≡ done
finished_is output next done is named = λ i. record { output = sym is i; next = sym named i; key = done.key; left = done.left }

-- those that were noted, once the last one is through, and the next one has the tag
pub noted_end : {sizes : Sizes} {honest : Bool} {file : List ℕ} {role : ℕ} {output : Output} {space now : SpaceState} {guide : GuideState}
    (progress : Progress) (z : ℕ)
    (done : Finished) → page_count sizes ≤ no_page → space.pages ≡ page_count sizes → 0 < progress.output.pages
    → (n : HasNoted sizes honest file progress.output role output space guide (Some done.key)) → IsEnd output progress z space → Claims role
    progress.next space now
    → done.output ≡ progress.output → done.next ≡ progress.next
    → HasFinished sizes honest file now role guide.filter guide.fences done (pages_of n.run)
noted_end {sizes} {honest} {file} {role} {output} {space} {now} {guide} progress z done few count some n end claims output_is next_is =
    let pages = pages_of n.run in
    let next = progress.next in
    let w = end.whole in
    let numbers : numbers_of pages ≡ all_numbers n.run = numbers_are n.run.closed n.run.number n.run.entries (λ none. (n.begun none).0) in
    let tagged = λ (k : ℕ) (has : Contains (numbers_of pages) k). n.tagged k (subst (λ (l : List ℕ). Contains l k) numbers has) in
    subst (λ (d : Finished). HasFinished sizes honest file now role guide.filter guide.fences d pages)
    (finished_is progress.output next done output_is next_is) (record {
      stand = record {
        some = λ nothing. omega (arith, n.pages_is, end.last, some, ap (λ (l : List RunPage). length l) nothing);
        first_is = ap (λ (k : ℕ). page_number (first_number pages (Some k))) (sym w.next_is) ∙ n.first_is;
        chained = λ told.
            let g = n.stands told in
            let named : g.0.end ≡ Some next = is_some g.0.end next (g.0.end_is ∙ w.next_is) (omega (arith, w.free.in_range, count, few)) in
            let same : g.0.pages ≡ pages =
            g.1 ∙ ap (λ (l : Entries). n.run.closed ++ page_of n.run.number l)
            (ap (λ (l : Entries). n.run.entries ++ l) (none_here progress.output g.0 end.none_left)
            ∙ append-nil n.run.entries) in
            subst (λ (l : List RunPage). AreChained sizes l (Some next) file) same
            (subst (λ (e : Option ℕ). AreChained sizes g.0.pages e file) named g.0.chained);
        rise = n.is_run.rise;
        apart = distinct_push (numbers_of pages) next (subst (IsDistinct nat_eq) (sym numbers) n.is_run.apart)
            (λ has. w.free.no_role role (tagged next has));
        tagged = λ k has. (claims.tags role k).1 (⊎_elim (λ one. inl (tagged k one)) (λ last. inr (refl, sym last))
            (Contains-push_cases (numbers_of pages) next k has));
        pages_is = omega (arith, n.pages_is, end.last);
        entries_is = omega (arith, n.entries_is, w.entries_are);
        weight_is = omega (arith, n.weight_is, w.weight_is);
      };
      guide = n.guided;
      one_a_page = omega (arith, n.one_a_page, n.pages_is, end.last);
      ends = n.ends;
    })

-- they have what was met
pub noted_entries : {sizes : Sizes} {honest : Bool} {file : List ℕ} {run : Component} {earlier : List ℕ} {role : ℕ} {output : Output}
    {first space : SpaceState} {guide : GuideState}
    {at : Option Key} {fold : Entries} → page_count sizes ≤ no_page → IsTrue honest → output.cursor.behind ≡ []
    → (n : HasNoted sizes honest file run role output space guide at) → HasMet sizes run earlier role first output space fold file → entries_of
    (pages_of n.run) ≡ fold
noted_entries {sizes} {honest} {file} {run} few told none n h =
    let g = (n.stands told).0 in
    let same : g.pages ≡ h.has.pages =
    same_pages sizes g.pages h.has.pages g.end h.has.end file few g.chained h.has.chained (g.first_is ∙ sym h.has.first_is)
    (omega (arith, g.pages_is, h.has.pages_is)) in
    sym (all_given run g none) ∙ ap entries_of same ∙ all_given run h.has none

-- ---- the inputs

input_now : {sizes : Sizes} {file : List ℕ} {role all : ℕ} {at : Option Key} {cursor : CursorState} {entries : Entries} {old new : SpaceState}
    (pages : List RunPage)
    → HasClaimed role all 0 old new → AreElsewhere old role pages → IsInput sizes file no_space 0 at cursor (numbers_of pages) entries
    → IsInput sizes file new role at cursor (numbers_of pages) entries
input_now pages claimed elsewhere input = record {
  sorted = input.sorted;
  rest = input.rest;
  ahead = input.ahead;
  left_is = input.left_is;
  among = input.among;
  apart = λ n has tagged. let there = elsewhere n (input.among n has) in ⊎_elim there.0 there.1 (claimed.fresh n tagged);
  in_use = λ n has free. (elsewhere n (input.among n has)).1 (claimed.none_freed n free);
}

-- a cursor that is named, above a key that is named
input_named : {sizes : Sizes} {file : List ℕ} {space : SpaceState} {role : ℕ} {at other : Option Key} {cursor named : CursorState} {pages : List ℕ}
    {entries : Entries}
    → at ≡ other → named ≡ cursor → IsInput sizes file space role at cursor pages entries → IsInput sizes file space role other named pages entries
input_named {sizes} {file} {space} {role} {other = other} {cursor = cursor} {pages = pages} {entries} at_is is input =
    subst (λ (s : CursorState). IsInput sizes file space role other s pages entries) (sym is)
    (subst (λ (k : Option Key). IsInput sizes file space role k cursor pages entries) at_is input)

ready_named : {at other : Option Key} {cursor named : CursorState} → at ≡ other → named ≡ cursor → IsReady at cursor → IsReady other named
ready_named {other = other} {cursor = cursor} at_is is ready = subst (IsReady other) (sym is)
    (subst (λ (k : Option Key). IsReady k cursor) at_is ready)

pub resumes_over : {sizes : Sizes} {file : List ℕ} {role all : ℕ} {inputs : Inputs} {newer older : Entries} {old new : SpaceState}
    {guide : GuideState} {output : Component} {next : ℕ}
    (ahead : Resumable) (newer_pages older_pages pages : List RunPage) → GoesOnWith inputs output next ahead → AreReady inputs
    → AreInputs sizes inputs (numbers_of newer_pages) (numbers_of older_pages) newer older file → HasClaimed role all 0 old new → AreElsewhere old
    role newer_pages
    → AreElsewhere old role older_pages → HasFinished sizes true file new role guide.filter guide.fences ahead.done pages
    → entries_of pages ≡ settled_up_to inputs.at newer older → (settled_up_to inputs.at newer older ≡ settled_fold newer older → ⊥)
    → ResumesOver sizes file new role guide (numbers_of newer_pages) (numbers_of older_pages) newer older ahead
resumes_over {sizes} {file} {newer = newer} {older} ahead newer_pages older_pages pages w ready is claimed one other finished entries more = record {
  newer_is = input_named w.at_is w.newer_is (input_now newer_pages claimed one is.newer_is);
  older_is = input_named w.at_is w.older_is (input_now older_pages claimed other is.older_is);
  pages = pages;
  finished = finished;
  front = record {
    components = refl;
    up_to_key = entries ∙ ap (λ (k : Option Key). settled_up_to k newer older) w.at_is;
    more = λ all. more (sym entries ∙ all);
    left_is =
        omega (
          arith,
          w.left_is,
          input_left sizes file no_space 0 _ _ newer ready.0 is.newer_is,
          input_left sizes file no_space 0 _ _ older ready.1 is.older_is,
          ap (λ (k : Option Key). entries_weight (above k newer) + entries_weight (above k older)) w.at_is,
        );
  };
}

-- ---- by numbers, on any disk

pub may_resume : {role both z left : ℕ} {inputs : Inputs} {output : Output} {space : SpaceState} (progress : Progress) (ahead : Resumable) → role <
    role_count
    → progress.output.pages + 1 < 2 ^ 32 → GoesOnWith inputs progress.output progress.next ahead → AreReady inputs → IsLight progress both → IsEnd
    output progress z space
    → z + left ≡ both → left_of inputs ≤ left → MayResume role progress both ahead
may_resume {role} {inputs = inputs} progress ahead below few w ready light end total fewer = record {
  output_is = w.output_is;
  next_is = w.next_is;
  counted = subst (λ (d : Finished). IsCounted (resumed role d.output d.next))
      (finished_is progress.output progress.next ahead.done w.output_is w.next_is) (record {
        role = below;
        none = λ none. omega arith;
        fits = omega arith;
        weight = omega (arith, light.fits);
        entries = omega (arith, light.few);
        here = omega arith;
        floor = omega (arith, light.full);
      });
  few = omega (arith, few, ap (λ (c : Component). c.pages) w.output_is);
  newer_ready = ready_named w.at_is w.newer_is ready.0;
  older_ready = ready_named w.at_is w.older_is ready.1;
  left_is = w.left_is ∙ left_named inputs ahead w.at_is w.newer_is w.older_is;
  light = omega (arith, ap (λ (c : Component). c.weight) w.output_is, w.left_is, light.settled, end.whole.z_is, total, fewer);
  left = omega (arith, w.left_is, end.whole.z_is, total, fewer);
}
  where
    left_named : (inputs : Inputs) (ahead : Resumable) → inputs.at ≡ Some ahead.done.key → ahead.inputs.value.c1x ≡ inputs.newer → ahead.inputs.value.c2 ≡ inputs.older
        → left_of inputs ≡ left_of (record { newer = ahead.inputs.value.c1x; older = ahead.inputs.value.c2; at = Some ahead.done.key })
    left_named inputs ahead at_is newer_is older_is = λ i. left_of (record { newer = sym newer_is i; older = sym older_is i; at = at_is i })

-- a page that has a tag has one of the five
none_in : (n : ℕ) → IsIn [] n → ⊥
none_in n has = grind (arith, common_steps, nat_tests)

pub role_in : (space : SpaceState) (role n : ℕ) → IsSpace space → HasRole space role n → role < role_count
role_in space role n shape has =
    elim (cases_lt role role_count) [
      | inl below ↦ below
      | inr past ↦ absurd (none_in n (subst (λ (set : Members). IsIn set n) (get_or_past space.roles role [] (omega (arith, past, shape.roles))) has))
    ]

-- where nothing was taken in the end, nothing was before
pub none_before : (low at : Option Key) → IsUpTo low at → at ≡ None → low ≡ None
none_before None at up none = refl
none_before (Some key) at up none = absurd (not_itself key (up key (ap (λ (k : Option Key). is_above k key) none)))
  where
    not_itself : (key : Key) → is_above (Some key) key ≡ true → ⊥
    not_itself key higher = false≢true (sym (ap is_lt (tied_itself nat_list_cmp_total key)) ∙ higher)

-- and where nothing was taken no page is finished
pub none_finished : (progress : Progress) (output : Output) (space : SpaceState) (both z : ℕ) → 0 < progress.output.pages → IsLight progress both →
    IsEnd output progress z space
    → z ≡ 0 → ⊥
none_finished progress output space both z some light end none = omega (arith, some, light.full, light.settled, end.whole.z_is, none)
