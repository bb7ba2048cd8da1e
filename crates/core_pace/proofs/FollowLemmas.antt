-- The log follows the pass: what each move makes of it.
use Rattle.std.proofs.Common.{◌≡◌, ◌∙◌, ◌+◌, ◌≤◌, ℕ, Bool, true, false, cond, Option, Some, None, refl, ap, sym, subst, arith}
use Rattle.std.proofs.lemmas.Grind.{common_steps}
use Rattle.std.proofs.lemmas.Bool.Decides.{nat_tests}
use Rattle.std.proofs.lemmas.Bool.{true≢false}
use Rattle.std.proofs.lemmas.Cmp.{nat_list_cmp_total}
use Rattle.std.specs.Prelude.{[], ◌∷◌, is_some}
use Rattle.std.specs.FinMap.{put}
use Rattle.blsm_model.specs.declared.key.Key.{Key}
use Rattle.blsm_model.specs.Keys.{key_cmp}
use Rattle.record_delta.specs.Entries.{Entries, entries_weight, is_above, above, record_of_key, with_record}
use Rattle.record_delta.specs.Folding.{over}
use Rattle.record_delta.specs.Several.{with_records}
use Rattle.mem_table.specs.Tables.{raised}
use Rattle.mem_table.proofs.WayLemmas.{less_of_greater}
use Rattle.page_file.specs.Page.{most_used}
use Rattle.merge_ends.specs.Input.{left_in}
use Rattle.merge_ends.specs.Output.{IsUpTo}
use Rattle.merge_ends.proofs.GroupLemmas.{above_none}
use Rattle.snow_merge.specs.Pass.{SnowState}
use Rattle.snow_merge.proofs.CoverLemmas.{covers_begun}
use Rattle.tree_machine.proofs.FoldLemmas.{tied}
use Rattle.tree_machine.proofs.CursorLemmas.{not_below_itself}
use Rattle.tree_machine.proofs.QuantumLemmas.{weight_parts}
use Rattle.tree_log.proofs.RestLemmas.{put_above}
use Rattle.tree_log.specs.Log.{LogState, dropped_by, listed_in_a, turned_log, with_entries}
use Rattle.tree_runs.specs.Runs.{PassCovers, left_for_pass, released_by}
use Rattle.tree_runs.specs.Holding.{cursor_of_pass}
use Rattle.tree_runs.specs.Laws.{AreAhead}
use Rattle.tree_runs.proofs.CoverLemmas.{above_again, above_cursor, covered_light, covers_dropped, covers_grown, not_up, released_up_to}
use Rattle.core_moves.specs.declared.held.Held.{Held}
use Rattle.core_moves.specs.Held.{FollowsPass, IsOne, goes_ahead}
use Rattle.core_moves.specs.Moves.{TakesOfPass, with_pass_begun}
use Rattle.core_moves.proofs.WriteLemmas.{ahead_above, floor_below}
use Rattle.core_pace.specs.Pacing.{table_left}

-- ---- keys

same_key : (low key : Key) → is_above (Some low) key ≡ false → is_above (Some key) low ≡ false → low ≡ key
same_key low key h1 h2 = grind (arith, common_steps, nat_tests, nat_list_cmp_total, tied, less_of_greater)

raised_to : (floor : Option Key) (key : Key) → IsUpTo floor (Some key) → raised key floor ≡ Some key
raised_to None key up = refl
raised_to (Some low) key up = by (is_above (Some low) key) refl
  where
    by : (b : Bool) → is_above (Some low) key ≡ b → cond b (Some key) (Some low) ≡ Some key
    by true is = refl
    by false is = ap Some (same_key low key is (not_up (Some low) (Some key) low up (not_below_itself low)))

none_up : (floor : Option Key) → IsUpTo floor None → floor ≡ None
none_up None up = refl
none_up (Some low) up = absurd (true≢false (sym (up low refl) ∙ not_below_itself low))

some_none : {key : Key} → Some key ≡ None → ⊥
some_none is = cc is

-- ---- a drop

-- What a drop up to what a pass has on finished pages leaves.
pub record Dropped (pass : Option SnowState) (old new : LogState) : Type 0 where
  pub listed : listed_in_a new ≡ listed_in_a old
  pub b : new.b ≡ old.b
  pub lanes : new.lanes ≡ old.lanes
  pub reserved : new.a.reserved ≡ old.a.reserved
  pub table : table_left pass new.a.entries ≡ table_left pass old.a.entries
  pub left : left_for_pass pass new.a.entries ≡ left_for_pass pass old.a.entries

pub drops : (total : ℕ) (pass : Option SnowState) (log : LogState) → PassCovers total pass log.a.entries → Dropped pass log (dropped_by (released_by pass) log)
drops total pass log covers = by pass (released_by pass) (released_up_to total pass log.a.entries covers)
  where
    by : (pass : Option SnowState) (key : Option Key) → IsUpTo key (cursor_of_pass pass) → Dropped pass log (dropped_by key log)
    by pass None up = record { listed = refl; b = refl; lanes = refl; reserved = refl; table = refl; left = refl }
    by None (Some key) up = absurd (some_none (none_up (Some key) up))
    by (Some snow) (Some key) up =
        let ahead = ap entries_weight (above_again (Some key) snow.at log.a.entries up) in
        record {
          listed = omega (arith, weight_parts (Some key) log.a.entries);
          b = refl;
          lanes = refl;
          reserved = refl;
          table = ahead;
          left = ap (λ (n : ℕ). n + left_in snow.at snow.c1) ahead;
        }

-- entries above a floor that all of a list is above leave it so
put_among : (floor : Option Key) (a more : Entries) → AreAhead floor more → above floor a ≡ a
    → above floor (with_records more a) ≡ with_records more a
put_among floor a [] high all = all
put_among floor a (e ∷ more) high all =
    let made = over e.1 (record_of_key e.0 a) in
    put_among floor (with_record e.0 e.1 a) more high.1 (put_above floor e.0 made a high.0 ∙ ap (put key_cmp e.0 made) all)

pub entries_left : (key : Option Key) (log : LogState) → (dropped_by key log).a.entries ≡ above key log.a.entries
entries_left None log = sym (above_none log.a.entries)
entries_left (Some key) log = refl

-- ---- the moves

pub follows_as : {p q : Option SnowState} {c d : ℕ} {l m : LogState} → q ≡ p → d ≡ c → m ≡ l → FollowsPass p c l → FollowsPass q d m
follows_as {p} {q} {c} {d} {l} {m} pass c1 log follows =
    subst (λ (o : Option SnowState). FollowsPass o d m) (sym pass)
    (subst (λ (n : ℕ). FollowsPass p n m) (sym c1) (subst (λ (k : LogState). FollowsPass p c k) (sym log) follows))

-- where no pass runs nothing is dropped
pub follows_none : (c1 : ℕ) (log : LogState) → log.a.floor ≡ None → log.a.dropped ≡ 0 → FollowsPass None c1 log
follows_none c1 log floor whole = record {
  floor = floor;
  whole = λ none. whole;
  above_floor = ap (λ (f : Option Key). above f log.a.entries) floor ∙ above_none log.a.entries;
  covers = tt;
}

pub follows_turned : (pass : Option SnowState) (c1 : ℕ) (old new : LogState) → pass ≡ None → new ≡ turned_log old → FollowsPass pass c1 new
follows_turned pass c1 old new rests turned = follows_as rests refl turned (follows_none c1 (turned_log old) refl refl)

pub follows_begun : (held : Held) → held.runs.pass ≡ None → FollowsPass held.runs.pass held.runs.catalogue.c1.weight held.log
    → FollowsPass (with_pass_begun held).runs.pass held.runs.catalogue.c1.weight held.log
follows_begun held rests follows = record {
  floor = follows.floor ∙ ap released_by rests;
  whole = follows.whole;
  above_floor = follows.above_floor;
  covers = covers_begun held.log.a.entries _ held.runs.tags.pass held.runs.catalogue.c1 (omega arith);
}

pub follows_quantum : (old new : Option SnowState) (c1 : ℕ) (log : LogState) → FollowsPass old c1 log
    → ((total : ℕ) → PassCovers total old log.a.entries → PassCovers total new log.a.entries × IsUpTo (released_by old) (released_by new))
    → FollowsPass new c1 (dropped_by (released_by new) log)
follows_quantum old new c1 log follows covers =
    let went = covers _ follows.covers in
    let cut = by (released_by new) went.1 in
    let left = covers_dropped (listed_in_a log + c1) new log.a.entries went.0 in
    record {
      floor = cut.0;
      whole = cut.1;
      above_floor = cut.2;
      covers = subst (λ (n : ℕ). PassCovers (n + c1) new (dropped_by (released_by new) log).a.entries) (sym (drops _ new log went.0).listed)
          (subst (PassCovers (listed_in_a log + c1) new) (sym (entries_left (released_by new) log)) left);
    }
  where
    by : (key : Option Key) → IsUpTo (released_by old) key
        → ((dropped_by key log).a.floor ≡ key) × ((dropped_by key log).a.floor ≡ None → (dropped_by key log).a.dropped ≡ 0)
        × (above (dropped_by key log).a.floor (dropped_by key log).a.entries ≡ (dropped_by key log).a.entries)
    by None up = (follows.floor ∙ none_up (released_by old) up, follows.whole, follows.above_floor)
    by (Some key) up =
        let floor : raised key log.a.floor ≡ Some key = ap (raised key) follows.floor ∙ raised_to (released_by old) key up in (
          floor,
          λ none. absurd (some_none (sym floor ∙ none)),
          ap (λ (f : Option Key). above f (above (Some key) log.a.entries)) floor ∙ above_again (Some key) (Some key) log.a.entries (λ k is. is),
        )

pub follows_write : (more : Entries) (held : Held) (ahead : Bool) → goes_ahead more held ≡ ahead
    → IsOne held → FollowsPass held.runs.pass held.runs.catalogue.c1.weight (with_entries ahead more held.log)
follows_write more held true is one =
    let follows = one.follows in
    let ahead = ahead_above more held is in
    let high = above_cursor held.log.a.floor (cursor_of_pass held.runs.pass) more (floor_below held one) ahead in
    record {
      floor = follows.floor;
      whole = follows.whole;
      above_floor = put_among held.log.a.floor held.log.a.entries more high follows.above_floor;
      covers = covers_grown (listed_in_a held.log + held.runs.catalogue.c1.weight) _ held.runs.pass held.log.a.entries more ahead (omega arith)
          follows.covers;
    }
follows_write more held false is one =
    let follows = one.follows in
    record { floor = follows.floor; whole = follows.whole; above_floor = follows.above_floor; covers = follows.covers }

-- a quantum drops so much
pub quantum_drops : (seat n : ℕ) (old new : Held) → IsOne old → TakesOfPass seat n old new → Dropped new.runs.pass old.log new.log
quantum_drops seat n old new one m =
    subst (Dropped new.runs.pass old.log) (sym m.log) (drops (listed_in_a old.log + old.runs.catalogue.c1.weight) new.runs.pass old.log
    (m.covers (listed_in_a old.log + old.runs.catalogue.c1.weight) one.follows.covers).0)

-- nothing is dropped where no pass runs
pub whole_at_rest : (held : Held) → IsOne held → held.runs.pass ≡ None → held.log.a.dropped ≡ 0
whole_at_rest held one rests = one.follows.whole (one.follows.floor ∙ ap released_by rests)

pub no_pass : (pass : Option SnowState) → is_some pass ≡ false → pass ≡ None
no_pass None rests = refl
no_pass (Some snow) runs = absurd (true≢false runs)

-- what table A has that the pass took weighs no more than a page
pub table_light : (pass : Option SnowState) (c1 : ℕ) (log : LogState) → FollowsPass pass c1 log
    → entries_weight log.a.entries ≤ entries_weight (above (cursor_of_pass pass) log.a.entries) + most_used
table_light pass c1 log follows =
    omega (
      arith,
      covered_light (listed_in_a log + c1) pass log.a.entries follows.covers,
      ap (λ (k : Option Key). entries_weight (above k log.a.entries)) follows.floor,
      ap entries_weight follows.above_floor,
    )
