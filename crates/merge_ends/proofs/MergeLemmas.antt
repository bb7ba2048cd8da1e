-- A merge that takes one key group, and one that has taken all.
use Rattle.std.proofs.lemmas.Bool.Decides.{nat_tests}
use Rattle.std.proofs.lemmas.Grind.{common_steps}
use Rattle.std.proofs.Common.{◌≡◌, ◌≢◌, ◌++◌, ◌∙◌, ◌+◌, ◌≤◌, ◌⊎◌, ℕ, Bool, true, false, List, [], ◌∷◌, Option, Some, None, IsSome, length, take, cond, not, refl, ap, sym, subst, inl, inr, arith}
use Rattle.std.specs.Prelude.{if◌then◌else◌}
use Rattle.std.proofs.lemmas.Bool.{false≢true}
use Rattle.std.proofs.Math.Seq.{take-append_seam}
use Rattle.blsm_model.specs.declared.component.Component.{Component}
use Rattle.blsm_model.specs.declared.key.Key.{Key}
use Rattle.blsm_model.specs.Sizes.{Sizes}
use Rattle.bloom_bits.specs.BitSet.{BitState}
use Rattle.bloom_bits.specs.Fences.{FencesState}
use Rattle.record_delta.specs.declared.record.Rec.{Rec}
use Rattle.record_delta.specs.Records.{weight}
use Rattle.record_delta.specs.Entries.{Entries, AreSorted, entries_weight, folded_over, first_of, is_above, above, up_to}
use Rattle.page_space.specs.Space.{SpaceState}
use Rattle.run_cursor.specs.Cursor.{CursorState, from_head}
use Rattle.run_writer.specs.Writer.{WriterState, closed_entries, resumed, HasEntries, HasPushed}
use Rattle.merge_step.specs.Group.{group_of}
use Rattle.merge_step.specs.Merged.{IsTaken}
use Rattle.merge_step.proofs.StepLemmas.{goes_on}
use Rattle.merge_ends.specs.Input.{left_in, IsReady}
use Rattle.merge_ends.specs.Newer.{at_hand, newer_calls, newer_left}
use Rattle.merge_ends.specs.Output.{IsUpTo, kept}
use Rattle.merge_ends.specs.Quantum.{NoneAbove}
use Rattle.merge_ends.specs.Progress.{left_to_take}
use Rattle.merge_ends.specs.Merge.{MergeState, IsMerging, progress}
use Rattle.merge_ends.proofs.GroupLemmas.{further, head_first, head_sorted, input_done, all_up_to, up_to_none}
use Rattle.merge_ends.proofs.KeptLemmas.{kept_none, same_none}
use Rattle.merge_ends.proofs.NewerLemmas.{hand_sorted, newer_done}

pub group_taken : (input : Option CursorState) (table : Entries) (older : CursorState) (at : Option Key) (key : Key) (rec : Rec) (taken : ℕ) → AreSorted table → IsReady at older
    → group_of (first_of (above at (at_hand input table))) older.head ≡ Some (key, rec, taken) → IsTaken at (at_hand input table) (from_head older.head []) key rec taken
group_taken input table older at key rec taken sorted ready group =
    goes_on at (at_hand input table) (from_head older.head []) key rec taken (hand_sorted input table sorted) (head_sorted older.head)
    (ap (group_of (first_of (above at (at_hand input table)))) (head_first at older ready) ∙ group)

-- what the newer input gave weighs no more than what came of both
pub gave_less : {at : Option Key} {newer older : Entries} {key : Key} {rec : Rec} {taken : ℕ} → IsTaken at newer older key rec taken
    → ((given : Rec) → first_of (above at newer) ≡ Some (key, given) → weight key given ≤ weight key rec)
    → entries_weight (above at newer) ≤ entries_weight (above (Some key) newer) + weight key rec
gave_less {at} {newer} {older} {key} {rec} {taken} t less = by_given t.newer_is
  where
    by_given : (t.of_newer ≡ 0) ⊎ ((given : Rec) × (first_of (above at newer) ≡ Some (key, given)) × (t.of_newer ≡ weight key given))
        → entries_weight (above at newer) ≤ entries_weight (above (Some key) newer) + weight key rec
    by_given (inl none) = omega (arith, none, t.newer_left)
    by_given (inr some) = omega (arith, some.2, t.newer_left, less some.0 some.1)

-- ---- up to which key all is on closed pages

pub closed_up_more : (turned : Bool) (at closed next : Option Key) (key : Key) → next ≡ (if turned then at else closed) → is_above at key ≡ true → IsUpTo closed at → IsUpTo next (Some key)
closed_up_more turned at closed next key is key_above up = subst (λ (k : Option Key). IsUpTo k (Some key)) (sym is) (by turned)
  where
    by : (b : Bool) → IsUpTo (if b then at else closed) (Some key)
    by true = λ q q_above. further at key q key_above q_above
    by false = λ q q_above. up q (further at key q key_above q_above)

pub closed_onward : (turned : Bool) (at closed next : Option Key) → next ≡ (if turned then at else closed) → IsUpTo closed at → IsUpTo closed next
closed_onward true at closed next is up = subst (IsUpTo closed) (sym is) up
closed_onward false at closed next is up = subst (IsUpTo closed) (sym is) (λ key above. above)

pub closed_is_more : (turned : Bool) (at closed next : Option Key) (out before done : Entries) (of : Option Key → Entries) → next ≡ (if turned then at else closed) → done ≡ (if turned then out else before)
    → out ≡ of at → before ≡ of closed → done ≡ of next
closed_is_more true at closed next out before done of is done_is out_is before_is = done_is ∙ out_is ∙ ap of (sym is)
closed_is_more false at closed next out before done of is done_is out_is before_is = done_is ∙ before_is ∙ ap of (sym is)

pub light_more : (turned : Bool) (at closed next : Option Key) (key : Key) (table : Entries) (text before more : ℕ) → next ≡ (if turned then at else closed) → text ≡ (if turned then 0 else before) + more
    → entries_weight (above at table) ≤ entries_weight (above (Some key) table) + more → entries_weight (above closed table) ≤ entries_weight (above at table) + before
    → entries_weight (above next table) ≤ entries_weight (above (Some key) table) + text
light_more true at closed next key table text before more is text_is less light = omega (arith, ap (λ (k : Option Key). entries_weight (above k table)) is, text_is, less)
light_more false at closed next key table text before more is text_is less light = omega (arith, ap (λ (k : Option Key). entries_weight (above k table)) is, text_is, less, light)

pub still_table : (old new : Option CursorState) → newer_calls new ≡ newer_calls old → new ≡ None → old ≡ None
still_table old new h1 h2 = grind (arith, common_steps, nat_tests)

-- a merge that has taken nothing
pub nothing_out : (settles : Bool) (newer older : Entries) → [] ≡ kept settles (folded_over (up_to None newer) (up_to None older))
nothing_out settles newer older =
    sym (ap (λ (l : Entries). kept settles (folded_over l (up_to None older))) (up_to_none newer) ∙ ap (λ (l : Entries). kept settles l) (up_to_none older) ∙ kept_none settles)

-- and one that was taken up behind pages that have all that was pushed
pub all_closed : (writer : WriterState) (role page : ℕ) (closed : Component) (out : Entries) → writer ≡ resumed role closed page → length out ≡ closed.entries → closed_entries writer out ≡ out
all_closed writer role page closed out is many =
    ap (λ (w : WriterState). closed_entries w out) is
    ∙ subst (λ (n : ℕ). take n out ≡ out) (omega (arith, many)) (ap (λ (l : Entries). take (length out) l) (same_none out) ∙ take-append_seam out [])

pub none_closed : (closed : Option Key) → closed ≡ None → IsSome closed → ⊥
none_closed closed h1 h2 = grind (arith, common_steps, nat_tests)

-- a component is no table
pub no_table : (input : Option CursorState) → input ≡ None → IsSome input → ⊥
no_table input h1 h2 = grind (arith, common_steps, nat_tests)

-- ---- the open page

-- more is to come of components than was pushed
abbrev MoreComes : Option CursorState → Entries → Entries → Type 0
MoreComes input out whole = IsSome input × (out ≢ whole)

-- an input stays one of components
same_input : (input next : Option CursorState) → newer_calls next ≡ newer_calls input → IsSome input → IsSome next
same_input input next h1 h2 = grind (arith, common_steps, nat_tests)

pub begun_read : {A : Type 0} {out whole : Entries} (input next : Option CursorState) → newer_calls next ≡ newer_calls input
    → A ⊎ MoreComes input out whole → A ⊎ MoreComes next out whole
begun_read input next same (inl has) = inl has
begun_read input next same (inr more) = inr (same_input input next same more.0, more.1)

-- where nothing came of a group, as much is to come as before
pub begun_more : {A B : Type 0} {out whole : Entries} (input next : Option CursorState) (came : Entries) → newer_calls next ≡ newer_calls input
    → A ⊎ MoreComes input out whole → (A ⊎ (came ≢ []) → B) → B ⊎ MoreComes next (out ++ came) whole
begun_more input next came same (inl has) put = inl (put (inl has))
begun_more input next [] same (inr more) put = inr (same_input input next same more.0, λ all. more.1 (same_none _ ∙ all))
begun_more input next (e ∷ es) same (inr more) put = inl (put (inr (λ none. cc)))

-- of a table nothing but an entry counts, since it may grow
pub begun_table : {A : Type 0} {out whole grown : Entries} → A ⊎ MoreComes None out whole → A ⊎ MoreComes None out grown
begun_table (inl has) = inl has
begun_table (inr more) = absurd (false≢true more.0)

-- once all was pushed the open page has an entry
begun_all : {A : Type 0} {out whole : Entries} (input : Option CursorState) → out ≡ whole → A ⊎ MoreComes input out whole → A
begun_all input all (inl has) = has
begun_all input all (inr more) = absurd (more.1 all)

-- ---- a table that grows ahead

-- what is up to a key is that of what is up to one that isn't below it
up_to_lower : (low at : Option Key) (es : Entries) → IsUpTo low at → up_to low es ≡ up_to low (up_to at es)
up_to_lower low at [] up = refl
up_to_lower low at (e ∷ es) up =
    elim (is_above at e.0) as (λ b. is_above at e.0 ≡ b → up_to low (e ∷ es) ≡ up_to low (cond (not b) (e ∷ up_to at es) (up_to at es))) [
      | true ↦ λ here. ap (λ b. cond (not b) (e ∷ up_to low es) (up_to low es)) (up e.0 here) ∙ up_to_lower low at es up
      | false ↦ λ not_here. ap (λ (l : Entries). cond (not (is_above low e.0)) (e ∷ l) l) (up_to_lower low at es up)
    ] refl

module _ {settles : Bool} {sizes : Sizes} {file : List ℕ} {space : SpaceState} {filter : BitState} {fences : FencesState}
    {pages under_pages : List ℕ} (merge : MergeState) (table list under : Entries) where
  -- A merge over a list stands over each table that has the same above the greatest key taken, and so over the list itself.
  pub lent_merge : (other : Entries) → above merge.at list ≡ above merge.at other
      → IsMerging settles sizes file space merge None table filter fences pages under_pages list under
      → IsMerging settles sizes file space merge None other filter fences pages under_pages list under
  lent_merge other same is = record {
    newer_is = (is.newer_is.0, same);
    older_is = is.older_is;
    run = is.run;
    begun = is.begun;
    out_is = is.out_is;
    closed_up = is.closed_up;
    closed_is = is.closed_is;
    left_is = is.left_is;
    here_is = is.here_is;
    behind_is = is.behind_is;
  }

  pub grown_merge : (grown : Entries) → AreSorted grown → up_to merge.at grown ≡ up_to merge.at list
      → IsMerging settles sizes file space merge None table filter fences pages under_pages list under
      → IsMerging settles sizes file space merge None grown filter fences pages under_pages grown under
  grown_merge grown sorted same is =
      let closed_same : up_to merge.closed grown ≡ up_to merge.closed list =
      up_to_lower merge.closed merge.at grown is.closed_up ∙ ap (up_to merge.closed) same
      ∙ sym (up_to_lower merge.closed merge.at list is.closed_up) in
      record {
        newer_is = (sorted, refl);
        older_is = is.older_is;
        run = is.run;
        begun = begun_table is.begun;
        out_is = is.out_is ∙ sym (ap (λ (l : Entries). kept settles (folded_over l (up_to merge.at under))) same);
        closed_up = is.closed_up;
        left_is = is.left_is;
        here_is = is.here_is;
        behind_is = is.behind_is;
        closed_is = is.closed_is ∙ sym (ap (λ (l : Entries). kept settles (folded_over l (up_to merge.closed under))) closed_same);
      }

first_part : (m n : ℕ) → m + n ≡ 0 → m ≡ 0
first_part m n is = omega arith

last_part : (m n : ℕ) → m + n ≡ 0 → n ≡ 0
last_part m n is = omega arith

module _ {settles : Bool} {sizes : Sizes} {file : List ℕ} {space : SpaceState} {input : Option CursorState} {table : Entries} {filter : BitState} {fences : FencesState} {over_pages under_pages : List ℕ} (merge : MergeState) (over under : Entries) where
  -- Where nothing is left by the numbers, nothing is left of the lists.
  pub none_above : left_to_take (progress merge input table) ≡ 0 → IsMerging settles sizes file space merge input table filter fences over_pages under_pages over under → NoneAbove merge.at over under
  none_above done merging = (
    newer_done sizes file space merge.writer.role merge.at input table over_pages over (first_part (newer_left merge.at input table) (left_in merge.at merge.older) done) merging.newer_is,
    input_done sizes file space merge.writer.role merge.at merge.older under (last_part (newer_left merge.at input table) (left_in merge.at merge.older) done) merging.older_is,
  )

  -- All was pushed, and the open page, if there is one, has an entry.
  all_out : left_to_take (progress merge input table) ≡ 0 → (merging : IsMerging settles sizes file space merge input table filter fences over_pages under_pages over under) → merging.run.out ≡ kept settles (folded_over over under)
  all_out done merging =
      let none = none_above done merging in
      merging.out_is ∙ ap (λ (l : Entries). kept settles (folded_over (up_to merge.at over) l)) (all_up_to merge.at under none.1) ∙ ap (λ (l : Entries). kept settles (folded_over l under)) (all_up_to merge.at over none.0)

  pub pushed_all : left_to_take (progress merge input table) ≡ 0 → IsMerging settles sizes file space merge input table filter fences over_pages under_pages over under
      → HasPushed sizes true file space merge.writer filter fences (kept settles (folded_over over under))
  pushed_all done merging = subst (λ (l : Entries). HasPushed sizes true file space merge.writer filter fences l) (all_out done merging) merging.run.pushed

  pub all_begun : left_to_take (progress merge input table) ≡ 0 → IsMerging settles sizes file space merge input table filter fences over_pages under_pages over under → HasEntries merge.writer
  all_begun done merging = begun_all input (all_out done merging) merging.begun
