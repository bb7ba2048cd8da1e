-- What a command's writes do to the lists: they go to table A where the pass takes them with it, else to B, and their records are over whatever the
-- lists had of their keys.
use Rattle.std.proofs.Common.{◌≡◌, ◌^◌, ◌<◌, ◌⊎◌, inl, inr, Bool, cond, true, false, ◌&&◌, not, T, List, [], ◌∷◌, ◌++◌, Some, None, Option, refl, ap, sym, subst, ◌∙◌}
use Rattle.std.proofs.lemmas.Grind.{common_steps}
use Rattle.std.proofs.lemmas.Bool.Decides.{nat_tests}
use Rattle.std.proofs.Common.{arith}
use Rattle.std.specs.Prelude.{is_some, ◌≤◌, length}
use Rattle.std.specs.List.{AllByRecursion}
use Rattle.std.specs.Ordering.{eq_by_cmp}
use Rattle.std.specs.Cmp.{nat_eq_equiv}
use Rattle.std.specs.Cmp.Lexicographic.{texts_ties, lists_equiv}
use Rattle.std.specs.FinMap.{put, is_sorted}
use Rattle.std.specs.FinMap.Entries.{find-where_key, is_sorted-where_key, same_entries}
use Rattle.std.proofs.lemmas.Cmp.{nat_list_cmp_total}
use Rattle.std.proofs.lemmas.List.{append-nil, append_assoc}
use Rattle.std.proofs.lemmas.Bool.{false≢true, and_parts}
use Rattle.blsm_model.specs.declared.key.Key.{Key}
use Rattle.blsm_model.specs.declared.op.Write.{Write}
use Rattle.blsm_model.specs.Keys.{key_cmp, same_key}
use Rattle.blsm_model.specs.Tails.{TailFits}
use Rattle.blsm_model.specs.Values.{key_of, added_count, value_at}
use Rattle.record_delta.specs.declared.record.Rec.{Rec}
use Rattle.record_delta.specs.Records.{record_of, settled}
use Rattle.record_delta.specs.Folding.{over as rec_over, StandsForMore}
use Rattle.record_delta.proofs.FoldingLemmas.{stands_put, stands_add, stands_tail, stands_del}
use Rattle.record_delta.specs.Entries.{AreSorted, Entries, is_above, over_any, record_of_key, up_to, with_record}
use Rattle.record_delta.specs.Several.{entries_of, with_records}
use Rattle.tree_machine.specs.Lists.{Lists, record_at, value_in}
use Rattle.tree_machine.specs.Merges.{Merge}
use Rattle.tree_machine.specs.Layers.{IsBehind, IsPassOver, AreLayered, WaitsBehind}
use Rattle.tree_machine.specs.Machine.{Merges}
use Rattle.tree_machine.specs.Moves.{goes_to_a, with_writes}
use Rattle.tree_machine.specs.Stands.{FitsFormat}
use Rattle.tree_machine.proofs.FoldLemmas.{
  by_test,
  over_any_assoc,
  find-with_record,
  find-with_records,
  sorted_with_record,
  sorted_with_records,
  tied,
  equal_of,
  written_at,
}

-- ---- keys of tables

-- a key ahead of the cursor has no record in a list behind it
pub none_behind : (cursor : Option Key) (key : Key) (es : Entries) → IsBehind cursor es → is_above cursor key ≡ true → record_of_key key es ≡ None
none_behind cursor key [] behind past = refl
none_behind cursor key (e ∷ es) behind past =
    elim (by_test (eq_by_cmp key_cmp key e.0)) [
      | inl same ↦ absurd (false≢true (sym behind.0 ∙ ap (is_above cursor) (sym (tied key e.0 (equal_of (key_cmp key e.0) same))) ∙ past))
      | inr apart ↦ ap (λ b. cond b (Some e.1) (record_of_key key es)) apart ∙ none_behind cursor key es behind.1 past
    ]

behind_put : (cursor : Option Key) (key : Key) (rec : Rec) (es : Entries) → is_above cursor key ≡ false → IsBehind cursor es → IsBehind cursor (put key_cmp key rec es)
behind_put cursor key rec [] here behind = (here, tt)
behind_put cursor key rec (e ∷ es) here behind = grind (arith, common_steps, nat_tests, behind_put cursor key rec es here behind.1)

-- what is behind the cursor keeps its record where a key ahead of it is written
kept_behind : (cursor : Option Key) (key : Key) (rec : Rec) (es : Entries) (q : Key) → is_above cursor key ≡ true → is_above cursor q ≡ false → record_of_key q (with_record key rec es) ≡ record_of_key q es
kept_behind cursor key rec es q past behind = grind (arith, common_steps, nat_tests, find-with_record, by_test, tied, equal_of)

pub find-behind : (cursor : Option Key) (es : Entries) (q : Key) → record_of_key q (up_to cursor es) ≡ cond (not (is_above cursor q)) (record_of_key q es) None
find-behind cursor es q = find-where_key key_cmp (λ k. not (is_above cursor k)) q (λ x same. ap (λ k. not (is_above cursor k)) (sym (tied q x same))) es

pub sorted_behind : (cursor : Option Key) (es : Entries) → AreSorted es → T (is_sorted key_cmp (up_to cursor es))
sorted_behind cursor es sorted = is_sorted-where_key key_cmp (λ k. not (is_above cursor k)) es (subst T (sym sorted) tt)

-- so all that is behind the cursor stays, where one key ahead of it is written, or several
pub behind_kept : (cursor : Option Key) (key : Key) (rec : Rec) (es : Entries) → is_above cursor key ≡ true → AreSorted es → up_to cursor (with_record key rec es) ≡ up_to cursor es
behind_kept cursor key rec es past sorted =
    same_entries key_cmp nat_list_cmp_total tied (up_to cursor (with_record key rec es)) (up_to cursor es)
    (sorted_behind cursor (with_record key rec es) (sorted_with_record key rec es sorted)) (sorted_behind cursor es sorted)
    (λ q. find-behind cursor (with_record key rec es) q ∙ by q (is_above cursor q) refl ∙ sym (find-behind cursor es q))
  where
    by : (q : Key) (b : Bool) → is_above cursor q ≡ b → cond (not (is_above cursor q)) (record_of_key q (with_record key rec es)) None ≡ cond (not (is_above cursor q)) (record_of_key q es) None
    by q true ahead = ap (λ b. cond (not b) (record_of_key q (with_record key rec es)) None) ahead ∙ ap (λ b. cond (not b) (record_of_key q es) None) (sym ahead)
    by q false here = ap (λ r. cond (not (is_above cursor q)) r None) (kept_behind cursor key rec es q past here)

-- each entry's key is ahead of the cursor
abbrev pub AllAhead : Option Key → Entries → Type 0
AllAhead cursor more = AllByRecursion (λ e. is_above cursor e.0 ≡ true) more

pub all_kept : (cursor : Option Key) (more es : Entries) → AllAhead cursor more → AreSorted es → up_to cursor (with_records more es) ≡ up_to cursor es
all_kept cursor [] es past sorted = refl
all_kept cursor (e ∷ more) es past sorted =
    all_kept cursor more (with_record e.0 e.1 es) past.1 (sorted_with_record e.0 e.1 es sorted) ∙ behind_kept cursor e.0 e.1 es past.0 sorted

-- ---- the layers stay

abbrev to_a : Entries → Lists → Lists
to_a more lists = record { b = lists.b; a = with_records more lists.a; c1 = lists.c1; c1x = lists.c1x; c2 = lists.c2 }

abbrev to_b : Entries → Lists → Lists
to_b more lists = record { b = with_records more lists.b; a = lists.a; c1 = lists.c1; c1x = lists.c1x; c2 = lists.c2 }

-- where they go to table A the pass hasn't come to their keys, and B hasn't them
pub sent_ahead : (pass : Merge) (b more : Entries) → goes_to_a (Some pass) b more ≡ true
    → AllAhead pass.cursor more × AllByRecursion (λ e. record_of_key e.0 b ≡ None) more
sent_ahead pass b [] goes = (tt, tt)
sent_ahead pass b (e ∷ []) goes =
    let parts = and_parts (is_above pass.cursor e.0) (not (is_some (record_of_key e.0 b))) goes in
    ((parts.0, tt), (none (record_of_key e.0 b) parts.1, tt))
  where
    none : (r : Option Rec) → not (is_some r) ≡ true → r ≡ None
    none None is = refl
    none (Some rec) is = absurd (false≢true is)
sent_ahead pass b (e ∷ f ∷ more) goes = absurd (false≢true goes)

-- where one goes to table B the pass has a cursor, or B has its key
pub sent_behind : (cursor : Option Key) (key : Key) (b : Entries) → (is_above cursor key && not (is_some (record_of_key key b))) ≡ false
    → (is_some cursor ≡ true) ⊎ (is_some (record_of_key key b) ≡ true)
sent_behind None key b is = inr (has (is_some (record_of_key key b)) is)
  where
    has : (s : Bool) → not s ≡ false → s ≡ true
    has true is = refl
    has false is = sym is
sent_behind (Some low) key b is = inl refl

-- what is behind the cursor of a pass that runs stays
pub taken_stays : (pass : Merge) (more : Entries) (lists : Lists) → AreSorted lists.a
    → up_to pass.cursor (with_writes (Some pass) more lists).a ≡ up_to pass.cursor lists.a
taken_stays pass more lists sorted = by (goes_to_a (Some pass) lists.b more) refl
  where
    by : (b : Bool) → goes_to_a (Some pass) lists.b more ≡ b → up_to pass.cursor (cond b (to_a more lists) (to_b more lists)).a ≡ up_to pass.cursor lists.a
    by true goes = all_kept pass.cursor more lists.a (sent_ahead pass lists.b more goes).0 sorted
    by false goes = refl

-- the record of a key that is behind it stays too
kept_behind_all : (cursor : Option Key) (more es : Entries) (q : Key) → AllAhead cursor more → is_above cursor q ≡ false
    → record_of_key q (with_records more es) ≡ record_of_key q es
kept_behind_all cursor [] es q past here = refl
kept_behind_all cursor (e ∷ more) es q past here =
    kept_behind_all cursor more (with_record e.0 e.1 es) q past.1 here ∙ kept_behind cursor e.0 e.1 es q past.0 here

pass_over_writes : (more : Entries) (lists : Lists) (pass : Option Merge) → IsPassOver lists pass → IsPassOver (with_writes pass more lists) pass
pass_over_writes more lists None over = over
pass_over_writes more lists (Some pass) over = by (goes_to_a (Some pass) lists.b more) refl
  where
    folds : AllAhead pass.cursor more → (q : Key) (b : Bool) → is_above pass.cursor q ≡ b
        → record_of_key q pass.output ≡ cond (is_above pass.cursor q) None (over_any (record_of_key q (with_records more lists.a)) (record_of_key q lists.c1))
    folds past q true ahead =
        over.folds q
        ∙ ap (λ b. cond b None (over_any (record_of_key q lists.a) (record_of_key q lists.c1))) ahead
        ∙ sym (ap (λ b. cond b None (over_any (record_of_key q (with_records more lists.a)) (record_of_key q lists.c1))) ahead)
    folds past q false here =
        over.folds q
        ∙ ap (λ r. cond (is_above pass.cursor q) None (over_any r (record_of_key q lists.c1))) (sym (kept_behind_all pass.cursor more lists.a q past here))

    by : (b : Bool) → goes_to_a (Some pass) lists.b more ≡ b → IsPassOver (cond b (to_a more lists) (to_b more lists)) (Some pass)
    by true goes =
        record {
          folds = λ q. folds (sent_ahead pass lists.b more goes).0 q (is_above pass.cursor q) refl;
          sorted = over.sorted;
          behind = over.behind;
        }
    by false goes = record { folds = over.folds; sorted = over.sorted; behind = over.behind }

-- either way the layers stay in order, and the records stand over all that the lists had of their keys
pub writes_layered : (more : Entries) (lists : Lists) (merges : Merges) → AreLayered lists merges → AreLayered (with_writes merges.pass more lists) merges
writes_layered more lists merges layered = grind (arith, common_steps, nat_tests, pass_over_writes, sorted_with_records)

-- ---- the records after them

-- a key that was written isn't in B, if none that was is
none_or_apart : (more b : Entries) (q : Key) → AllByRecursion (λ e. record_of_key e.0 b ≡ None) more → (written_at more q ≡ None) ⊎ (record_of_key q b ≡ None)
none_or_apart [] b q none = inl refl
none_or_apart (e ∷ more) b q none =
    elim (by_test (eq_by_cmp key_cmp q e.0)) [
      | inl same ↦ inr (ap (λ k. record_of_key k b) (tied q e.0 (equal_of (key_cmp q e.0) same)) ∙ none.0)
      | inr apart ↦ elim (none_or_apart more b q none.1) [
        | inl unwritten ↦ inl (ap (λ r. over_any r (cond (eq_by_cmp key_cmp q e.0) (Some e.1) None)) unwritten ∙ ap (λ c. cond c (Some e.1) None) apart)
        | inr is ↦ inr is
      ]
    ]

none_of_empty : (more b : Entries) → b ≡ [] → AllByRecursion (λ e. record_of_key e.0 b ≡ None) more
none_of_empty [] b empty = tt
none_of_empty (e ∷ more) b empty = (ap (record_of_key e.0) empty, none_of_empty more b empty)

none_in_b : (more : Entries) (lists : Lists) (pass : Option Merge) → IsPassOver lists pass → goes_to_a pass lists.b more ≡ true
    → AllByRecursion (λ e. record_of_key e.0 lists.b ≡ None) more
none_in_b more lists None over goes = none_of_empty more lists.b over
none_in_b more lists (Some pass) over goes = (sent_ahead pass lists.b more goes).1

-- whichever table they go to, the records are over what the lists had
pub record_at-writes : (more : Entries) (lists : Lists) (pass : Option Merge) → IsPassOver lists pass → (q : Key)
    → record_at (with_writes pass more lists) q ≡ over_any (written_at more q) (record_at lists q)
record_at-writes more lists pass over q = by (goes_to_a pass lists.b more) refl
  where
    by : (b : Bool) → goes_to_a pass lists.b more ≡ b → record_at (cond b (to_a more lists) (to_b more lists)) q ≡ over_any (written_at more q) (record_at lists q)
    by true goes =
        ap (λ r. over_any (record_of_key q lists.b) (over_any r (over_any (record_of_key q lists.c1) (over_any (record_of_key q lists.c1x) (record_of_key q lists.c2))))) (find-with_records more lists.a q)
        ∙ elim (none_or_apart more lists.b q (none_in_b more lists pass over goes)) [
          | inl unwritten ↦
              ap (λ r. over_any (record_of_key q lists.b) (over_any (over_any r (record_of_key q lists.a)) (over_any (record_of_key q lists.c1) (over_any (record_of_key q lists.c1x) (record_of_key q lists.c2))))) unwritten
              ∙ ap (λ r. over_any r (record_at lists q)) (sym unwritten)
          | inr none ↦
              ap (λ r. over_any r (over_any (over_any (written_at more q) (record_of_key q lists.a)) (over_any (record_of_key q lists.c1) (over_any (record_of_key q lists.c1x) (record_of_key q lists.c2))))) none
              ∙ over_any_assoc (written_at more q) (record_of_key q lists.a) (over_any (record_of_key q lists.c1) (over_any (record_of_key q lists.c1x) (record_of_key q lists.c2)))
              ∙ ap (λ r. over_any (written_at more q) (over_any r (over_any (record_of_key q lists.a) (over_any (record_of_key q lists.c1) (over_any (record_of_key q lists.c1x) (record_of_key q lists.c2)))))) (sym none)
        ]
    by false goes =
        ap (λ r. over_any r (over_any (record_of_key q lists.a) (over_any (record_of_key q lists.c1) (over_any (record_of_key q lists.c1x) (record_of_key q lists.c2))))) (find-with_records more lists.b q)
        ∙ over_any_assoc (written_at more q) (record_of_key q lists.b) (over_any (record_of_key q lists.a) (over_any (record_of_key q lists.c1) (over_any (record_of_key q lists.c1x) (record_of_key q lists.c2))))

-- ---- so the value after it is the value with the write

same_as_tie : (q key : Key) → same_key key q ≡ eq_by_cmp key_cmp q key
same_as_tie q key = sym (sym (texts_ties q key) ∙ (lists_equiv nat_eq_equiv).symm q key)

pub stands_write : (write : Write) → added_count write < 2 ^ 64 → TailFits write → StandsForMore write (record_of write)
stands_write write h1 h2 = grind (arith, common_steps, nat_tests, stands_put, stands_add, stands_tail, stands_del)

over_as_kept : (b : Bool) (rec : Rec) (kept : Option Rec) → over_any (cond b (Some rec) None) kept ≡ cond b (Some (rec_over rec kept)) kept
over_as_kept b rec kept = grind (arith, common_steps, nat_tests)

-- with a write's record over what stood for the writes before it, that stands for them and it
one_stands : (write : Write) → FitsFormat write → (q : Key) (kept : Option Rec) (writes : List Write) → settled kept ≡ value_at writes q
    → settled (over_any (cond (eq_by_cmp key_cmp q (key_of write)) (Some (record_of write)) None) kept) ≡ value_at (writes ++ write ∷ []) q
one_stands write fits q kept writes stood =
    ap settled (over_as_kept (eq_by_cmp key_cmp q (key_of write)) (record_of write) kept)
    ∙ ap (λ b. settled (cond b (Some (rec_over (record_of write) kept)) kept)) (sym (same_as_tie q (key_of write)))
    ∙ stands_write write fits.counts fits.tail q kept writes stood

all_stand : (more : List Write) → AllByRecursion FitsFormat more → (q : Key) (kept : Option Rec) (writes : List Write) → settled kept ≡ value_at writes q
    → settled (over_any (written_at (entries_of more) q) kept) ≡ value_at (writes ++ more) q
all_stand [] fit q kept writes stood = stood ∙ ap (λ ws. value_at ws q) (sym (append-nil writes))
all_stand (w ∷ more) fit q kept writes stood =
    let one : Option Rec = cond (eq_by_cmp key_cmp q (key_of w)) (Some (record_of w)) None in
    ap settled (over_any_assoc (written_at (entries_of more) q) one kept)
    ∙ all_stand more fit.1 q (over_any one kept) (writes ++ w ∷ []) (one_stands w fit.0 q kept writes stood)
    ∙ ap (λ ws. value_at ws q) (append_assoc writes (w ∷ []) more)

-- after a command's writes each key has the value with them
pub value_in-writes : (more : List Write) (lists : Lists) (pass : Option Merge) (writes : List Write) → AllByRecursion FitsFormat more → IsPassOver lists pass
    → ((q : Key) → value_in lists q ≡ value_at writes q) → (q : Key) → value_in (with_writes pass (entries_of more) lists) q ≡ value_at (writes ++ more) q
value_in-writes more lists pass writes fit over stood q =
    ap settled (record_at-writes (entries_of more) lists pass over q) ∙ all_stand more fit q (record_at lists q) writes (stood q)

-- ---- where a write goes

pub goes_ahead : (pass : Merge) (e : Key × Rec) (lists : Lists) → is_above pass.cursor e.0 ≡ true → record_of_key e.0 lists.b ≡ None
    → (with_writes (Some pass) (e ∷ []) lists).b ≡ lists.b
goes_ahead pass e lists past none =
    ap (λ b. (cond (b && not (is_some (record_of_key e.0 lists.b))) (to_a (e ∷ []) lists) (to_b (e ∷ []) lists)).b) past
    ∙ ap (λ r. (cond (not (is_some r)) (to_a (e ∷ []) lists) (to_b (e ∷ []) lists)).b) none

pub goes_behind : (pass : Merge) (e : Key × Rec) (lists : Lists) → (is_above pass.cursor e.0 ≡ false) ⊎ (is_some (record_of_key e.0 lists.b) ≡ true)
    → (with_writes (Some pass) (e ∷ []) lists).a ≡ lists.a
goes_behind pass e lists (inl behind) =
    ap (λ b. (cond (b && not (is_some (record_of_key e.0 lists.b))) (to_a (e ∷ []) lists) (to_b (e ∷ []) lists)).a) behind
goes_behind pass e lists (inr waits) = by (is_above pass.cursor e.0)
  where
    by : (b : Bool) → (cond (b && not (is_some (record_of_key e.0 lists.b))) (to_a (e ∷ []) lists) (to_b (e ∷ []) lists)).a ≡ lists.a
    by true = ap (λ c. (cond (not c) (to_a (e ∷ []) lists) (to_b (e ∷ []) lists)).a) waits
    by false = refl

-- more than one go to table B
pub more_go_behind : (pass : Merge) (more : Entries) (lists : Lists) → 2 ≤ length more → (with_writes (Some pass) more lists).a ≡ lists.a
more_go_behind pass [] lists two = absurd (omega (arith, two))
more_go_behind pass (e ∷ []) lists two = absurd (omega (arith, two))
more_go_behind pass (e ∷ f ∷ more) lists two = refl

-- where none of B's keys is ahead of the pass, one goes by the cursor alone
pub goes_by_cursor : (pass : Merge) (b : Entries) (e : Key × Rec) → IsBehind pass.cursor b → goes_to_a (Some pass) b (e ∷ []) ≡ is_above pass.cursor e.0
goes_by_cursor pass b e behind = by (is_above pass.cursor e.0) refl
  where
    by : (c : Bool) → is_above pass.cursor e.0 ≡ c → (c && not (is_some (record_of_key e.0 b))) ≡ c
    by true past = ap (λ r. not (is_some r)) (none_behind pass.cursor e.0 b behind past)
    by false here = refl

-- and then none of B's keys is ahead of it afterwards
pub write_waits : (e : Key × Rec) (lists : Lists) (pass : Option Merge) → WaitsBehind lists pass → WaitsBehind (with_writes pass (e ∷ []) lists) pass
write_waits e lists None waits = waits
write_waits e lists (Some pass) waits = by (goes_to_a (Some pass) lists.b (e ∷ [])) (goes_by_cursor pass lists.b e waits)
  where
    by : (b : Bool) → b ≡ is_above pass.cursor e.0 → WaitsBehind (cond b (to_a (e ∷ []) lists) (to_b (e ∷ []) lists)) (Some pass)
    by true past = waits
    by false here = behind_put pass.cursor e.0 (rec_over e.1 (record_of_key e.0 lists.b)) lists.b (sym here) waits
