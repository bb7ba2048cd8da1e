-- Tables without an entry, and their lanes.
use Rattle.std.proofs.Common.{◌≡◌, ◌∙◌, [], ◌∷◌, None, refl, sym, arith}
use Rattle.std.proofs.lemmas.Grind.{common_steps}
use Rattle.std.proofs.lemmas.Bool.Decides.{nat_tests}
use Rattle.std.specs.Prelude.{fold}
use Rattle.std.specs.declared.cmp.Ordering.{Ordering}
use Rattle.std.specs.FinMap.{put}
use Rattle.std.specs.FinMap.Entries.{by_order}
use Rattle.blsm_model.specs.declared.key.Key.{Key}
use Rattle.blsm_model.specs.Keys.{key_cmp}
use Rattle.gated_log.specs.Lane.{Lane, no_lane, MayEnd}
use Rattle.merge_ends.proofs.GroupLemmas.{weightless}
use Rattle.record_delta.specs.declared.record.Rec.{Rec}
use Rattle.record_delta.specs.Entries.{Entries, record_of_key, replayed, with_record}
use Rattle.record_delta.specs.Folding.{over}
use Rattle.disk_trait.specs.Disk.{DiskState}
use Rattle.tree_runs.specs.Runs.{RunsState}
use Rattle.tree_settling.specs.Settling.{IsSettled, SettlesOn}
use Rattle.tree_log.specs.Log.{LogState, IsRestOf, weight_of_tables}
use Rattle.tree_log.proofs.RestLemmas.{whole_list}

pub empty_a : (log : LogState) → weight_of_tables log ≡ 0 → log.a.entries ≡ []
empty_a log none = weightless log.a.entries (omega (arith, none))

pub empty_b : (log : LogState) → weight_of_tables log ≡ 0 → log.b.entries ≡ []
empty_b log none = weightless log.b.entries (omega (arith, none))

-- a table with a record has an entry
put_some : (key : Key) (rec : Rec) (es : Entries) → put key_cmp key rec es ≡ [] → ⊥
put_some key rec [] is = absurd (cc (is))
put_some key rec (e ∷ es) is = by (key_cmp key e.0) is
  where
    by : (o : Ordering) → by_order o ((key, rec) ∷ e ∷ es) ((e.0, rec) ∷ es) (e ∷ put key_cmp key rec es) ≡ [] → ⊥
    by o h1 = grind (arith, common_steps, nat_tests)

replays_to_none : (table lane : Entries) → fold (λ table e. with_record e.0 e.1 table) table lane ≡ [] → (lane ≡ []) × (table ≡ [])
replays_to_none table [] is = (refl, is)
replays_to_none table (e ∷ lane) is = absurd (put_some e.0 (over e.1 (record_of_key e.0 table)) table (replays_to_none (with_record e.0 e.1 table) lane is).1)

-- so where a table has none its lane has none
empty_lane : (table lane : Entries) → table ≡ replayed lane → table ≡ [] → lane ≡ []
empty_lane table lane is none = (replays_to_none [] lane (sym is ∙ none)).0

no_entries : (lane : Lane) → MayEnd lane → lane.entries ≡ [] → lane ≡ no_lane
no_entries lane may none = λ i. record { entries = none i; end = may none i }

-- Where no deep merge runs and both tables are empty all is settled. Table A is what B was before the last pass, which was empty.
pub is_settled : (old new : RunsState) (log log' : LogState) (d e : DiskState) → log.b.entries ≡ [] → SettlesOn old new log log' d e
    → new.deep ≡ None → log'.a.entries ≡ log.b.entries → log'.b.entries ≡ []
    → IsSettled new log'
is_settled old new log log' d e none on rests a b =
    let lanes = on.may.begun.lanes in
    let is_of = on.may.begun.log_of in
    let empty = a ∙ none in
    let none_a : (lane : Entries) → IsRestOf (replayed lane) log'.a → lane ≡ [] =
    λ lane rest. empty_lane log'.a.entries lane (whole_list (replayed lane) log'.a on.may.begun.whole_a rest) empty in
    record {
      pass = on.may.begun.pass;
      deep = rests;
      a = empty;
      b = b;
      end_a = is_of.end_a ∙ is_of.may_a (none_a lanes.lane_a.entries is_of.a);
      end_b = is_of.end_b ∙ is_of.may_b (empty_lane log'.b.entries lanes.lane_b.entries is_of.b b);
      lanes = λ tree is. (
        no_entries tree.lane_a is.may_a (none_a tree.lane_a.entries is.a),
        no_entries tree.lane_b is.may_b (empty_lane log'.b.entries tree.lane_b.entries is.b b),
      );
    }
