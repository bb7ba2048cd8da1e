-- What a table has left of a list above its floor.
use Rattle.std.proofs.Common.{◌≡◌, ◌∙◌, ℕ, zero, suc, List, get_or, set, subst, ◌+◌}
use Rattle.std.proofs.Common.{Bool, true, false, cond, not, ◌&&◌, [], ◌∷◌, Option, Some, None, refl, ap, sym, arith}
use Rattle.std.proofs.lemmas.Grind.{common_steps}
use Rattle.std.proofs.lemmas.Bool.Decides.{nat_tests}
use Rattle.std.proofs.lemmas.Cmp.{nat_list_cmp_total}
use Rattle.std.specs.Prelude.{IsTrue}
use Rattle.std.specs.List.{AllByRecursion}
use Rattle.std.specs.Ordering.{is_lt}
use Rattle.std.specs.declared.cmp.Ordering.{Ordering}
use Rattle.std.specs.declared.cmp.Ordering.TheVariants.{Less, Equal, Greater}
use Rattle.std.specs.FinMap.{put}
use Rattle.std.specs.FinMap.Entries.{by_order}
use Rattle.blsm_model.specs.declared.key.Key.{Key}
use Rattle.blsm_model.specs.Keys.{key_cmp}
use Rattle.record_delta.specs.declared.record.Rec.{Rec}
use Rattle.record_delta.specs.Folding.{over}
use Rattle.record_delta.specs.Entries.{Entries, entries_weight, record_of_key, replayed, with_record, is_above, above, up_to}
use Rattle.record_delta.specs.Several.{with_records}
use Rattle.mem_table.specs.Tables.{Contents, IsWhole, raised, dropped_to}
use Rattle.mem_table.proofs.WayLemmas.{less_of_greater}
use Rattle.tree_machine.proofs.FoldLemmas.{tied, less_of}
use Rattle.tree_machine.proofs.CursorLemmas.{less_trans, find-ahead}
use Rattle.tree_machine.proofs.QuantumLemmas.{weight_parts}
use Rattle.tree_machine.specs.Lists.{Lists}
use Rattle.std.proofs.lemmas.List.{get_or-set_other}
use Rattle.blsm_model.specs.Lanes.{a_of, b_of, spare_of, AreRoles}
use Rattle.gated_log.specs.Lane.{Lane, no_lane, MayEnd}
use Rattle.gated_log.specs.Lanes.{turned}
use Rattle.tree_machine.specs.Machine.{Machine}
use Rattle.tree_machine.specs.Moves.{end_pass}
use Rattle.tree_file.specs.Tree.{Tree, lists_of}
use Rattle.tree_file.proofs.ListLemmas.{lists_appended_a, lists_appended_b}
use Rattle.tree_file.specs.Places.{TurnsRoles}
use Rattle.tree_log.specs.Log.{LogState, AreAboveFloor, AreTables, IsLogOf, IsRestOf, appended, dropped_by, dropped_log, folded_into, turned_log}
use Rattle.tree_log.specs.Log.{weight_of_tables, whole, with_entries}

-- ---- a record of a key above the floor

further : (floor : Option Key) (key k : Key) → is_above floor key ≡ true → key_cmp key k ≡ Less → is_above floor k ≡ true
further None key k high less = refl
further (Some low) key k high less = ap is_lt (nat_list_cmp_total.trans low key k (less_of (key_cmp low key) high) less)

above_first : (floor : Option Key) (e : Key × Rec) (es : Entries) → is_above floor e.0 ≡ true → above floor (e ∷ es) ≡ e ∷ above floor es
above_first floor e es here = ap (λ b. cond b (e ∷ above floor es) (above floor es)) here

-- it is put among what is above,
pub put_above : (floor : Option Key) (key : Key) (rec : Rec) (es : Entries) → is_above floor key ≡ true
    → above floor (put key_cmp key rec es) ≡ put key_cmp key rec (above floor es)
put_above floor key rec [] high = ap (λ b. cond b ((key, rec) ∷ []) []) high
put_above floor key rec (e ∷ es) high =
    let left : Entries = above floor es in
    let turn : Ordering → Entries = λ r. by_order r ((key, rec) ∷ e ∷ left) ((e.0, rec) ∷ left) (e ∷ put key_cmp key rec left) in
    elim (key_cmp key e.0) as (λ r. key_cmp key e.0 ≡ r
    → above floor (by_order r ((key, rec) ∷ e ∷ es) ((e.0, rec) ∷ es) (e ∷ put key_cmp key rec es)) ≡ put key_cmp key rec (above floor (e ∷ es))) [
      | Less ↦ λ is.
          let first = above_first floor e es (further floor key e.0 high is) in
          above_first floor (key, rec) (e ∷ es) high ∙ ap (λ (l : Entries). (key, rec) ∷ l) first
          ∙ sym (ap turn is) ∙ sym (ap (put key_cmp key rec) first)
      | Equal ↦ λ is.
          let here : is_above floor e.0 ≡ true = ap (is_above floor) (sym (tied key e.0 is)) ∙ high in
          above_first floor (e.0, rec) es here ∙ sym (ap turn is) ∙ sym (ap (put key_cmp key rec) (above_first floor e es here))
      | Greater ↦ λ is.
          elim (is_above floor e.0) as (λ b. cond b (e ∷ above floor (put key_cmp key rec es)) (above floor (put key_cmp key rec es))
          ≡ put key_cmp key rec (cond b (e ∷ left) left)) [
            | true ↦ ap (λ (l : Entries). e ∷ l) (put_above floor key rec es high) ∙ sym (ap turn is)
            | false ↦ put_above floor key rec es high
          ]
    ] refl

-- and what is up to the floor stays
put_behind : (floor : Option Key) (key : Key) (rec : Rec) (es : Entries) → is_above floor key ≡ true
    → up_to floor (put key_cmp key rec es) ≡ up_to floor es
put_behind floor key rec [] high = ap (λ b. cond (not b) ((key, rec) ∷ []) []) high
put_behind floor key rec (e ∷ es) high =
    elim (key_cmp key e.0) as (λ r. key_cmp key e.0 ≡ r
    → up_to floor (by_order r ((key, rec) ∷ e ∷ es) ((e.0, rec) ∷ es) (e ∷ put key_cmp key rec es)) ≡ up_to floor (e ∷ es)) [
      | Less ↦ λ is. ap (λ b. cond (not b) ((key, rec) ∷ up_to floor (e ∷ es)) (up_to floor (e ∷ es))) high
      | Equal ↦ λ is.
          let here : is_above floor e.0 ≡ true = ap (is_above floor) (sym (tied key e.0 is)) ∙ high in
          ap (λ b. cond (not b) ((e.0, rec) ∷ up_to floor es) (up_to floor es)) here
          ∙ sym (ap (λ b. cond (not b) (e ∷ up_to floor es) (up_to floor es)) here)
      | Greater ↦ λ is. ap (λ (l : Entries). cond (not (is_above floor e.0)) (e ∷ l) l) (put_behind floor key rec es high)
    ] refl

rest_grown : (list : Entries) (table : Contents) (key : Key) (rec : Rec) → IsRestOf list table → is_above table.floor key ≡ true
    → IsRestOf (with_record key rec list) (folded_into ((key, rec) ∷ []) table)
rest_grown list table key rec rest high =
    let found : record_of_key key (above table.floor list) ≡ record_of_key key list = find-ahead table.floor list key
    ∙ ap (λ b. cond b (record_of_key key list) None) high in
    let made : Rec = over rec (record_of_key key list) in
    record {
      entries = ap (with_record key rec) rest.entries
          ∙ ap (λ (o : Option Rec). put key_cmp key (over rec o) (above table.floor list)) found
          ∙ sym (put_above table.floor key made list high);
      dropped = rest.dropped ∙ sym (ap entries_weight (put_behind table.floor key made list high));
    }

-- and several
pub rest_grown_all : (more list : Entries) (table : Contents) → IsRestOf list table → AllByRecursion (λ e. IsTrue (is_above table.floor e.0)) more
    → IsRestOf (with_records more list) (folded_into more table)
rest_grown_all [] list table rest high = rest
rest_grown_all (e ∷ more) list table rest high =
    rest_grown_all more (with_record e.0 e.1 list) (folded_into (e ∷ []) table) (rest_grown list table e.0 e.1 rest high.0) high.1

pub tables_grown : (ahead : Bool) (more : Entries) (lists : Lists) (log : LogState) → AreTables lists log → AreAboveFloor ahead more log
    → AreTables (cond ahead (record lists { a = with_records more lists.a }) (record lists { b = with_records more lists.b }))
    (with_entries ahead more log)
tables_grown true more lists log are high = record { a = rest_grown_all more lists.a log.a are.a high; b = are.b }
tables_grown false more lists log are high = record { a = are.a; b = ap (with_records more) are.b }

-- the lists of the tree are then the machine's
pub lists_joined : (ahead : Bool) (more : Entries) (tree : Tree) → lists_of (appended ahead more tree)
    ≡ cond ahead (record (lists_of tree) { a = with_records more (lists_of tree).a }) (record (lists_of tree) { b = with_records more (lists_of tree).b })
lists_joined true more tree = lists_appended_a more tree
lists_joined false more tree = lists_appended_b more tree

-- ---- dropped up to a key

lower : (low key k : Key) → is_above (Some low) key ≡ false → is_above (Some low) k ≡ true → is_above (Some key) k ≡ true
lower low key k h1 h2 = grind (arith, common_steps, nat_tests, nat_list_cmp_total, tied, less_of_greater)

and_false : (b : Bool) → false ≡ (b && false)
and_false true = refl
and_false false = refl

-- above the raised floor is what is above both
above_both : (floor : Option Key) (key k : Key) → is_above (raised key floor) k ≡ (is_above floor k && is_above (Some key) k)
above_both None key k = refl
above_both (Some low) key k =
    elim (is_above (Some low) key) as (λ b. is_above (Some low) key ≡ b
    → is_above (cond b (Some key) (Some low)) k ≡ (is_above (Some low) k && is_above (Some key) k)) [
      | true ↦ λ higher.
          elim (is_above (Some key) k) as (λ b. is_above (Some key) k ≡ b → b ≡ (is_above (Some low) k && b)) [
            | true ↦ λ past. sym (ap (λ b. b && true) (less_trans low key k higher past))
            | false ↦ λ not_past. and_false (is_above (Some low) k)
          ] refl
      | false ↦ λ not_higher.
          elim (is_above (Some low) k) as (λ b. is_above (Some low) k ≡ b → b ≡ (b && is_above (Some key) k)) [
            | true ↦ λ past. sym (lower low key k not_higher past)
            | false ↦ λ not_past. refl
          ] refl
    ] refl

above_raised : (floor : Option Key) (key : Key) (es : Entries) → above (Some key) (above floor es) ≡ above (raised key floor) es
above_raised floor key [] = refl
above_raised floor key (e ∷ es) =
    let left : Entries = above (raised key floor) es in
    elim (is_above floor e.0) as (λ b. is_above (raised key floor) e.0 ≡ (b && is_above (Some key) e.0)
    → above (Some key) (cond b (e ∷ above floor es) (above floor es)) ≡ cond (is_above (raised key floor) e.0) (e ∷ left) left) [
      | true ↦ λ is. ap (λ (l : Entries). cond (is_above (Some key) e.0) (e ∷ l) l) (above_raised floor key es)
          ∙ sym (ap (λ b. cond b (e ∷ left) left) is)
      | false ↦ λ is. above_raised floor key es ∙ sym (ap (λ b. cond b (e ∷ left) left) is)
    ] (above_both floor key e.0)

pub rest_dropped : (list : Entries) (table : Contents) (key : Key) → IsRestOf list table → IsRestOf list (dropped_to key table)
rest_dropped list table key rest =
    let left = above_raised table.floor key list in
    record {
      entries = ap (above (Some key)) rest.entries ∙ left;
      dropped = omega (
        arith,
        rest.dropped,
        ap (λ (es : Entries). entries_weight (up_to (Some key) es)) rest.entries,
        ap entries_weight left,
        weight_parts table.floor list,
        weight_parts (raised key table.floor) list,
        weight_parts (Some key) (above table.floor list),
      );
    }

pub dropped_is_of : (key : Key) (tree : Tree) (log : LogState) → IsLogOf tree log → IsLogOf tree (dropped_log key log)
dropped_is_of key tree log is = record {
  roles = is.roles;
  end_a = is.end_a;
  end_b = is.end_b;
  may_a = is.may_a;
  may_b = is.may_b;
  a = rest_dropped (replayed tree.lane_a.entries) log.a key is.a;
  b = is.b;
}

-- the log of a tree with the same lanes
pub dropped_by_is_of : (key : Option Key) (tree : Tree) (log : LogState) → IsLogOf tree log → IsLogOf tree (dropped_by key log)
dropped_by_is_of None tree log is = is
dropped_by_is_of (Some key) tree log is = dropped_is_of key tree log is

pub log_keeps : (old new : Tree) (log : LogState) → new.catalogue.lanes ≡ old.catalogue.lanes → new.lane_a ≡ old.lane_a → new.lane_b ≡ old.lane_b
    → IsLogOf old log → IsLogOf new log
log_keeps old new log roles a b is = record {
  roles = is.roles ∙ sym roles;
  end_a = is.end_a ∙ ap (λ (l : Lane). l.end) (sym a);
  end_b = is.end_b ∙ ap (λ (l : Lane). l.end) (sym b);
  may_a = subst MayEnd (sym a) is.may_a;
  may_b = subst MayEnd (sym b) is.may_b;
  a = subst (λ (l : Lane). IsRestOf (replayed l.entries) log.a) (sym a) is.a;
  b = is.b ∙ ap (λ (l : Lane). replayed l.entries) (sym b);
}

-- ---- what a list weighs

pub rest_weighs : (list : Entries) (table : Contents) → IsRestOf list table → entries_weight table.entries + table.dropped ≡ entries_weight list
rest_weighs list table rest = omega (arith, ap entries_weight rest.entries, rest.dropped, weight_parts table.floor list)

pub drop_weighs : (key : Key) (log : LogState) → weight_of_tables (dropped_log key log) ≡ weight_of_tables log
drop_weighs key log = omega (arith, weight_parts (Some key) log.a.entries)

-- ---- where nothing was dropped

above_none : (es : Entries) → above None es ≡ es
above_none [] = refl
above_none (e ∷ es) = ap (λ (l : Entries). e ∷ l) (above_none es)

up_to_none : (es : Entries) → up_to None es ≡ []
up_to_none [] = refl
up_to_none (e ∷ es) = up_to_none es

-- a list is the rest of itself
pub rest_whole : (list : Entries) (table : Contents) → IsWhole table → table.entries ≡ list → IsRestOf list table
rest_whole list table whole is = record {
  entries = is ∙ sym (above_none list) ∙ sym (ap (λ (f : Option Key). above f list) whole.0);
  dropped = whole.1 ∙ sym (ap entries_weight (ap (λ (f : Option Key). up_to f list) whole.0 ∙ up_to_none list));
}

-- a whole table is its list
pub whole_list : (list : Entries) (table : Contents) → IsWhole table → IsRestOf list table → table.entries ≡ list
whole_list list table is rest = rest.entries ∙ ap (λ (f : Option Key). above f list) is.0 ∙ above_none list

-- ---- a turn

pub tables_turned : (m : Machine) (log : LogState) → AreTables m.lists log → AreTables (end_pass m).lists (turned_log log)
tables_turned m log are = record { a = rest_whole m.lists.b (whole log.b) (refl, refl) (sym are.b); b = refl }

none_there : (ends : List ℕ) (i : ℕ) → get_or (set ends i 0) i 0 ≡ 0
none_there [] i = refl
none_there (x ∷ ends) zero = refl
none_there (x ∷ ends) (suc i) = none_there ends i

pub turned_is_of : (tree next : Tree) (log : LogState) → AreRoles log.lanes.roles → IsWhole log.b → TurnsRoles tree.catalogue next.catalogue
    → next.lane_a ≡ tree.lane_b → next.lane_b ≡ no_lane → IsLogOf tree log → (a b : Contents) → a ≡ log.b → b.entries ≡ []
    → IsLogOf next (record { a = a; b = b; lanes = turned log.lanes })
turned_is_of tree next log roles whole_b turns lane_a lane_b is a b a_is b_is = record {
  roles = ap (λ (r : List ℕ). b_of r ∷ spare_of r ∷ a_of r ∷ []) is.roles ∙ sym turns;
  end_a = get_or-set_other log.lanes.ends (spare_of log.lanes.roles) (b_of log.lanes.roles) 0 0 roles.b_not_spare
      ∙ is.end_b ∙ ap (λ (l : Lane). l.end) (sym lane_a);
  end_b = none_there log.lanes.ends (spare_of log.lanes.roles) ∙ sym (ap (λ (l : Lane). l.end) lane_b);
  may_a = subst MayEnd (sym lane_a) is.may_b;
  may_b = subst MayEnd (sym lane_b) (λ none. refl);
  a = rest_whole (replayed next.lane_a.entries) a (subst IsWhole (sym a_is) whole_b)
      (ap (λ (t : Contents). t.entries) a_is ∙ is.b ∙ ap (λ (l : Lane). replayed l.entries) (sym lane_a));
  b = b_is ∙ sym (ap (λ (l : Lane). replayed l.entries) lane_b);
}
