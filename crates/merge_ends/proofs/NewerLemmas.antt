-- The newer input, a table or a component, by what a step needs of it.
use Rattle.std.proofs.Common.{◌≡◌, ◌∙◌, ◌+◌, ◌/◌, ◌<◌, ◌≤◌, ℕ, true, List, [], ◌∷◌, Option, Some, None, ap, sym, subst, inl, inr, arith}
use Rattle.std.specs.List.{AllByRecursion}
use Rattle.disk_trait.specs.Disk.{DiskState}
use Rattle.disk_trait.specs.Region.{IsSameOutside}
use Rattle.blsm_model.specs.declared.key.Key.{Key}
use Rattle.blsm_model.specs.Sizes.{Sizes}
use Rattle.record_delta.specs.declared.record.Rec.{Rec}
use Rattle.record_delta.specs.Entries.{Entries, AreSorted, entries_weight, first_of, is_above, above}
use Rattle.page_space.specs.Space.{SpaceState}
use Rattle.run_cursor.specs.Cursor.{CursorState}
use Rattle.run_writer.specs.Writer.{role_region}
use Rattle.merge_step.specs.Group.{group_of}
use Rattle.merge_ends.specs.Input.{IsBehind}
use Rattle.merge_ends.specs.Newer.{at_hand, newer_calls, newer_left, newer_pages, cursors_with, IsNewer, IsNewerBehind, IsNewerDamage, IsNewerReady}
use Rattle.merge_ends.specs.Merge.{group_calls, quantum_calls}
use Rattle.merge_ends.specs.Output.{TakesPages}
use Rattle.merge_ends.specs.Progress.{MeetsDamage, pages_ahead}
use Rattle.merge_ends.specs.Quantum.{Counts}
use Rattle.merge_ends.proofs.InputLemmas.{input_kept}
use Rattle.merge_ends.proofs.GroupLemmas.{above_further, behind_group, end_left, first_none, head_first, head_is, head_sorted, input_done}
use Rattle.merge_ends.proofs.GroupLemmas.{input_further, newer_stays, weightless}

pub hand_sorted : (input : Option CursorState) (table : Entries) → AreSorted table → AreSorted (at_hand input table)
hand_sorted None table sorted = sorted
hand_sorted (Some cursor) table sorted = head_sorted cursor.head

pub ready_behind : (at : Option Key) (input : Option CursorState) → IsNewerReady at input → IsNewerBehind at input
ready_behind at None ready = tt
ready_behind at (Some cursor) ready = inl ready

-- ---- the numbers

-- what a key more takes of it, it takes of what is at hand
pub newer_less : (at : Option Key) (key : Key) (input : Option CursorState) (table : Entries)
    → newer_left (Some key) input table + entries_weight (above at (at_hand input table)) ≡ newer_left at input table + entries_weight (above (Some key) (at_hand input table))
newer_less at key None table = omega arith
newer_less at key (Some cursor) table = omega arith

pub newer_end : (at : Option Key) (input : Option CursorState) (table : Entries) → IsNewerReady at input → first_of (above at (at_hand input table)) ≡ None → newer_left at input table ≡ 0
newer_end at None table ready none = ap (λ (l : Entries). entries_weight l) (first_none (above at table) none)
newer_end at (Some cursor) table ready none = end_left at cursor ready (sym (head_first at cursor ready) ∙ none)

pub newer_behind : (at : Option Key) (input : Option CursorState) (table : Entries) (older : Option (Key × Rec)) (key : Key) (rec : Rec) (taken : ℕ) → IsNewerReady at input
    → group_of (first_of (above at (at_hand input table))) older ≡ Some (key, rec, taken) → IsNewerBehind (Some key) input
newer_behind at None table older key rec taken ready group = tt
newer_behind at (Some cursor) table older key rec taken ready group =
    behind_group at cursor key ready (newer_stays cursor.head older key rec taken (subst (λ (x : Option (Key × Rec)). group_of x older ≡ Some (key, rec, taken)) (head_first at cursor ready) group))

-- ---- the cursors

abbrev pub AreBehind : Option Key → List CursorState → Type 0
AreBehind at cursors = AllByRecursion (λ cursor. IsBehind at cursor) cursors

pub behind_both : (at : Option Key) (input : Option CursorState) (older : CursorState) → IsNewerBehind at input → IsBehind at older → AreBehind at (cursors_with input older)
behind_both at None older newer behind = (behind, tt)
behind_both at (Some cursor) older newer behind = (newer, (behind, tt))

pub newer_of : (at : Option Key) (input : Option CursorState) (older : CursorState) → AreBehind at (cursors_with input older) → IsNewerBehind at input
newer_of at None older behind = tt
newer_of at (Some cursor) older behind = behind.0

pub older_of : (at : Option Key) (input : Option CursorState) (older : CursorState) → AreBehind at (cursors_with input older) → IsBehind at older
older_of at None older behind = behind.0
older_of at (Some cursor) older behind = behind.1.0

pub pages_with : (input : Option CursorState) (older : CursorState) → pages_ahead (cursors_with input older) ≡ newer_pages input + older.pages
pages_with None older = omega arith
pages_with (Some cursor) older = omega arith

pub newer_damage : (sizes : Sizes) (input : Option CursorState) (older : CursorState) (n : ℕ) (file : List ℕ) → IsNewerDamage sizes input n file → MeetsDamage sizes (cursors_with input older) n file
newer_damage sizes None older n file damage = absurd damage
newer_damage sizes (Some cursor) older n file damage = inl damage

pub older_damage : (sizes : Sizes) (input : Option CursorState) (older : CursorState) (n : ℕ) (file : List ℕ) → MeetsDamage sizes (older ∷ []) n file → MeetsDamage sizes (cursors_with input older) n file
older_damage sizes None older n file damage = damage
older_damage sizes (Some cursor) older n file damage = inr damage

-- ---- calls

pub group_is : (input : Option CursorState) → group_calls input ≡ newer_calls input + 2
group_is None = omega arith
group_is (Some cursor) = omega arith

pub same_group : (input other : Option CursorState) → newer_calls other ≡ newer_calls input → group_calls other ≡ group_calls input
same_group input other same = omega (arith, group_is input, group_is other, same)

-- how many calls the groups of so much weight made at most
abbrev pub spent : Option CursorState → ℕ → ℕ
spent None taken = taken / 7
spent (Some cursor) taken = taken / 4

pub spent_more : (input : Option CursorState) (taken weight old mid new : ℕ) → 14 ≤ weight → mid ≤ old + spent input taken → new ≤ mid + group_calls input → new ≤ old + spent input (taken + weight)
spent_more None taken weight old mid new some so_far more = omega (arith, some, so_far, more)
spent_more (Some cursor) taken weight old mid new some so_far more = omega (arith, some, so_far, more)

pub spent_all : (input : Option CursorState) (taken quantum old mid new : ℕ) → taken < quantum → mid ≤ old + spent input taken → new ≤ mid + group_calls input → new ≤ old + quantum_calls input quantum
spent_all None taken quantum old mid new few so_far more = omega (arith, few, so_far, more)
spent_all (Some cursor) taken quantum old mid new few so_far more = omega (arith, few, so_far, more)

-- ---- the lists

pub newer_sorted : (sizes : Sizes) (file : List ℕ) (space : SpaceState) (role : ℕ) (at : Option Key) (input : Option CursorState) (table : Entries) (pages : List ℕ) (entries : Entries)
    → IsNewer sizes file space role at input table pages entries → AreSorted entries
newer_sorted sizes file space role at None table pages entries is = is.0
newer_sorted sizes file space role at (Some cursor) table pages entries is = is.sorted

-- The first of what is at hand is the first of what it has.
pub newer_first : (sizes : Sizes) (file : List ℕ) (space : SpaceState) (role : ℕ) (at : Option Key) (input : Option CursorState) (table : Entries) (pages : List ℕ) (entries : Entries) → IsNewerReady at input
    → IsNewer sizes file space role at input table pages entries → first_of (above at entries) ≡ first_of (above at (at_hand input table))
newer_first sizes file space role at None table pages entries ready is = ap first_of is.1
newer_first sizes file space role at (Some cursor) table pages entries ready is = head_is sizes file space role at cursor entries ready is ∙ sym (head_first at cursor ready)

pub newer_further : (sizes : Sizes) (file : List ℕ) (space : SpaceState) (role : ℕ) (at : Option Key) (key : Key) (input : Option CursorState) (table : Entries) (pages : List ℕ) (entries : Entries) → is_above at key ≡ true
    → IsNewer sizes file space role at input table pages entries → IsNewer sizes file space role (Some key) input table pages entries
newer_further sizes file space role at key None table pages entries key_above is = (
  is.0,
  above_further at key entries key_above ∙ ap (above (Some key)) is.1 ∙ sym (above_further at key table key_above),
)
newer_further sizes file space role at key (Some cursor) table pages entries key_above is = input_further sizes file space role at key cursor entries key_above is

pub newer_kept : (sizes : Sizes) (old new : List ℕ) (space after : SpaceState) (role : ℕ) (at : Option Key) (input : Option CursorState) (table : Entries) (pages : List ℕ) (entries : Entries)
    → IsSameOutside (role_region sizes space role) old new → TakesPages role space after
    → IsNewer sizes old space role at input table pages entries → IsNewer sizes new after role at input table pages entries
newer_kept sizes old new space after role at None table pages entries same takes is = is
newer_kept sizes old new space after role at (Some cursor) table pages entries same takes is = input_kept sizes old new space after role at cursor pages entries same takes is

pub newer_done : (sizes : Sizes) (file : List ℕ) (space : SpaceState) (role : ℕ) (at : Option Key) (input : Option CursorState) (table : Entries) (pages : List ℕ) (entries : Entries) → newer_left at input table ≡ 0
    → IsNewer sizes file space role at input table pages entries → above at entries ≡ []
newer_done sizes file space role at None table pages entries done is = weightless (above at entries) (ap entries_weight is.1 ∙ done)
newer_done sizes file space role at (Some cursor) table pages entries done is = input_done sizes file space role at cursor entries done is

-- ---- what is counted

pub newer_few : (input : Option CursorState) → newer_calls input ≤ 1
newer_few None = omega arith
newer_few (Some cursor) = omega arith

-- behind the reads of both inputs
pub counts_read : (input next : Option CursorState) (older after : CursorState) (made more : ℕ) (old mid new : DiskState) → mid.clock + newer_pages next ≤ old.clock + newer_pages input → old.clock ≤ mid.clock
    → after.pages ≤ older.pages → new.clock + after.pages ≤ mid.clock + older.pages + more → Counts more (pages_ahead (cursors_with input older)) (pages_ahead (cursors_with next after)) made made old new
counts_read input next older after made more old mid new first timed fewer second =
    let before = pages_with input older in
    let behind = pages_with next after in
    record { onward = omega (arith, before, behind, first, timed, fewer); grows = omega arith; calls = omega (arith, before, behind, first, second) }

-- and then of a write
pub counts_written : {ahead ahead_after made made_after : ℕ} (more : ℕ) (old mid new : DiskState) → Counts 0 ahead ahead_after made made old mid → made ≤ made_after → new.clock + made ≤ mid.clock + made_after + more
    → Counts more ahead ahead_after made made_after old new
counts_written more old mid new counts grows written = record { onward = counts.onward; grows = grows; calls = omega (arith, counts.calls, written) }
