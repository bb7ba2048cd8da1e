-- An admission of the lists is one of the numbers.
use Rattle.std.proofs.Common.{◌≡◌, ◌∙◌, refl, sym, ap, subst, ℕ, ◌+◌, ◌<◌, ◌≤◌, Bool, cond, true, false, ◌&&◌, ◌⊎◌, [], ◌∷◌, Option, Some, None, inl, inr, arith}
use Rattle.std.proofs.lemmas.Grind.{common_steps}
use Rattle.std.proofs.lemmas.Bool.Decides.{nat_tests}
use Rattle.std.specs.Prelude.{◌==◌, nat_lt, List, length, is_some, IsTrue}
use Rattle.std.specs.List.{AllByRecursion}
use Rattle.std.proofs.lemmas.Bool.{ltb-false, true≢false}
use Rattle.std.proofs.lemmas.List.{length-set}
use Rattle.std.proofs.lemmas.List.Sums.{sum_by-cons}
use Rattle.blsm_model.specs.Format.{callers, least_weight}
use Rattle.blsm_model.specs.Geometry.{charge_limit}
use Rattle.blsm_model.specs.Values.{key_of, weight_of}
use Rattle.blsm_model.specs.Histories.{is_done, is_met, looked_at, looks_first, writes_of}
use Rattle.blsm_model.specs.Legal.{is_write, total_weight, is_del}
use Rattle.blsm_model.specs.declared.row.Value.{Value}
use Rattle.blsm_model.specs.declared.op.Op.{Op}
use Rattle.blsm_model.specs.declared.op.Write.{Write}
use Rattle.blsm_model.specs.declared.history.Why.{Why}
use Rattle.blsm_model.specs.declared.history.Why.TheVariants.{Faulted}
use Rattle.blsm_model.specs.declared.history.Reply.{Reply}
use Rattle.blsm_model.specs.declared.history.Reply.TheVariants.{Damaged, Done, Fault, Full, FaultLost, FaultUnsure, Kept, Stopped}
use Rattle.blsm_model.proofs.OpLemmas.{writes_some}
use Rattle.gear_sched.specs.Gears.{entered, first_debt, second_debt}
use Rattle.pacing.specs.Pace.{Pace, Written, with_write as pace_with_write}
use Rattle.pacing.specs.Kept.{IsPaced}
use Rattle.pacing.specs.Steps.{Lands, ready_for as pace_ready_for}
use Rattle.pacing.proofs.Promises.{moves_keep}
use Rattle.record_delta.specs.Entries.{AreSorted, Entries, entries_weight, with_record}
use Rattle.record_delta.specs.Several.{entries_of, with_records}
use Rattle.tree_machine.specs.declared.step.Kind.{Kind}
use Rattle.tree_machine.specs.declared.step.Kind.TheVariants as kind
use Rattle.tree_machine.specs.Lists.{Lists, value_in}
use Rattle.tree_machine.specs.Merges.{Merge}
use Rattle.tree_machine.specs.Layers.{IsPassCounted, IsSound, HasWay}
use Rattle.tree_machine.specs.Machine.{Machine, charge}
use Rattle.tree_machine.specs.Moves.{goes_to_a, take_writes, with_peak, with_writes, note, stop}
use Rattle.tree_machine.specs.Steps.{
  Outcome,
  Well,
  FailedAfter,
  FailedLooking,
  Broken,
  NoRoom,
  Replied,
  replied,
  deep_swapped,
  swaps_due,
  ready_for,
  taken_together,
  told_by_look,
  refused_first,
  admit,
  admit_met,
  admit_fitting,
  is_full,
  unless_refused,
  unless_stopped,
}
use Rattle.tree_machine.specs.Stands.{FitsFormat, FitTogether}
use Rattle.tree_machine.proofs.CarryLemmas.{ready_carries}
use Rattle.tree_machine.proofs.FoldLemmas.{sorted_with_record}
use Rattle.tree_machine.proofs.QuantumLemmas.{weight_parts}
use Rattle.tree_machine.proofs.WeightLemmas.{key_weighs, weigh_first, weight_of_entries, weight_with}
use Rattle.tree_machine.proofs.WriteLemmas.{sent_behind, taken_stays}
use Rattle.paced_tree.specs.Made.{IsMadeBy}
use Rattle.paced_tree.specs.Numbers.{taken_of, HasTaken, pace_of}
use Rattle.paced_tree.proofs.Terms.{with_numbers_of, IsPace, IsToldOf, Makes, most_on_way, weight_after, written_in}
use Rattle.paced_tree.proofs.Books.{noted_booked}
use Rattle.paced_tree.proofs.BookLaws.{write_books}
use Rattle.paced_tree.proofs.Paces.{its_pace, makes}
use Rattle.paced_tree.proofs.Moves.{settled_pace, settled_told, ready_pace, ready_told}

-- an entry that is no write that was done changes no number
pub noted_pace : (m : Machine) (p : Pace) (seat : ℕ) (op : Op) (reply : Reply) → (is_done reply && is_write op) ≡ false → IsPace m p → IsPace (note seat op reply m) p
noted_pace m p seat op reply is g = record {
  numbers = g.numbers;
  booked = noted_booked p.gears.sizes m.book m.seats.quanta m.seats.work p.work p.admitted p.writes p.weights p.quanta (record { seat = seat; op = op; reply = reply }) is g.booked;
  weights = g.weights;
  quanta = g.quanta;
}

-- and neither does a stop
pub stopped_pace : (m : Machine) (why : Why) → IsPaced (pace_of m) → IsToldOf m → IsPace (stop why m) (pace_of m)
stopped_pace m why paced t = record { numbers = refl; booked = t.booked; weights = paced.weights; quanta = paced.quanta }

-- ---- where writes land

taken_kept : (m : Machine) → IsSound m → (more : Entries) → taken_of m.merges.pass (with_writes m.merges.pass more m.lists).a ≡ taken_of m.merges.pass m.lists.a
taken_kept m sound more = by m.merges.pass
  where
    by : (p : Option Merge) → taken_of p (with_writes p more m.lists).a ≡ taken_of p m.lists.a
    by None = refl
    by (Some pass) = ap entries_weight (taken_stays pass more m.lists sound.layered.sorted_a)

pub taken_le : (p : Option Merge) (es : Entries) → taken_of p es ≤ entries_weight es
taken_le None es = omega arith
taken_le (Some pass) es = omega (arith, weight_parts pass.cursor es)

-- a table weighs no more on the way than before and what is put in, and no less than in the end
pub most_within : (more table : Entries) → AreSorted table → most_on_way more table ≤ entries_weight table + entries_weight more
most_within [] table sorted = omega arith
most_within (e ∷ more) table sorted =
    omega (
      arith,
      most_within more (with_record e.0 e.1 table) (sorted_with_record e.0 e.1 table sorted),
      weight_with e.0 e.1 table sorted,
      weigh_first e more,
    )

pub after_within : (more table : Entries) → entries_weight (with_records more table) ≤ most_on_way more table
after_within [] table = omega arith
after_within (e ∷ more) table = omega (arith, after_within more (with_record e.0 e.1 table))

-- what doesn't go to table A finds a pass that has taken something, or is one write whose key table B has, or is several
pub behind_runs : (m : Machine) (ws : List Write) → 1 ≤ length ws → IsSound m → HasTaken m.merges.pass m.gears.pass_taken
    → goes_to_a m.merges.pass m.lists.b (entries_of ws) ≡ false
    → (m.gears.pass ≡ true) × ((0 < m.gears.pass_taken) ⊎ (0 < entries_weight m.lists.b) ⊎ (2 ≤ length ws))
behind_runs m ws some sound started = by m.merges.pass sound.pass started
  where
    why : (pass : Merge) (ws : List Write) → 1 ≤ length ws → (IsTrue (is_some pass.cursor) → 0 < m.gears.pass_taken)
        → goes_to_a (Some pass) m.lists.b (entries_of ws) ≡ false → (0 < m.gears.pass_taken) ⊎ (0 < entries_weight m.lists.b) ⊎ (2 ≤ length ws)
    why pass [] some taken goes = absurd (omega (arith, some))
    why pass (w ∷ []) some taken goes =
        elim (sent_behind pass.cursor (key_of w) m.lists.b goes) [ inl has_cursor ↦ inl (taken has_cursor) | inr has ↦ inr (inl (key_weighs (key_of w) m.lists.b has)) ]
    why pass (w ∷ v ∷ ws) some taken goes = inr (inr (omega arith))

    by : (p : Option Merge)
        → IsPassCounted m.lists.a m.lists.c1 m.gears.pass m.gears.pass_c1 m.gears.pass_memory m.gears.pass_admitted m.gears.pass_taken p
        → HasTaken p m.gears.pass_taken → goes_to_a p m.lists.b (entries_of ws) ≡ false
        → (m.gears.pass ≡ true) × ((0 < m.gears.pass_taken) ⊎ (0 < entries_weight m.lists.b) ⊎ (2 ≤ length ws))
    by None counted taken goes = absurd (true≢false goes)
    by (Some pass) counted taken goes = (counted.0, why pass ws some taken goes)

module _ (m : Machine) (ws : List Write) (sound : IsSound m) where
  abbrev more : Entries
  more = entries_of ws

  abbrev at_a : Lists
  at_a = record { b = m.lists.b; a = with_records more m.lists.a; c1 = m.lists.c1; c1x = m.lists.c1x; c2 = m.lists.c2 }

  abbrev at_b : Lists
  at_b = record { b = with_records more m.lists.b; a = m.lists.a; c1 = m.lists.c1; c1x = m.lists.c1x; c2 = m.lists.c2 }

  -- they go to table A, or to table B
  abbrev sent_to : Op → Bool → Written
  sent_to op b = record {
    weight = total_weight ws;
    writes = length ws;
    is_del = is_del op;
    ahead = b;
    after = weight_after b (cond b at_a at_b);
    most = most_on_way more (cond b m.lists.a m.lists.b);
  }

  pub lands_of : (op : Op) → 1 ≤ length ws → HasTaken m.merges.pass m.gears.pass_taken → Lands (pace_of m) (written_in m op ws)
  lands_of op some started = by (goes_to_a m.merges.pass m.lists.b more) refl
    where
      by : (b : Bool) → goes_to_a m.merges.pass m.lists.b more ≡ b → Lands (pace_of m) (sent_to op b)
      by true ahead = (
        omega (arith, most_within more m.lists.a sound.layered.sorted_a, weight_of_entries ws),
        after_within more m.lists.a,
        omega (
          arith,
          subst (λ (b : Bool). taken_of m.merges.pass (cond b at_a at_b).a ≡ taken_of m.merges.pass m.lists.a) ahead (taken_kept m sound more),
          taken_le m.merges.pass (with_records more m.lists.a),
        ),
      )
      by false behind =
          let runs = behind_runs m ws some sound started behind in
          (runs.0, runs.1, omega (arith, most_within more m.lists.b sound.layered.sorted_b, weight_of_entries ws), after_within more m.lists.b)

  written_numbers : (seat : ℕ) (op : Op)
      → with_numbers_of (note seat op Done (with_peak (take_writes seat ws m))) (pace_with_write (pace_of m) seat (written_in m op ws))
      ≡ pace_with_write (pace_of m) seat (written_in m op ws)
  written_numbers seat op = by (goes_to_a m.merges.pass m.lists.b more) (taken_kept m sound more)
    where
      by : (b : Bool) → taken_of m.merges.pass (cond b at_a at_b).a ≡ taken_of m.merges.pass m.lists.a
          → with_numbers_of (with_peak (record m { lists = cond b at_a at_b; gears = entered m.gears seat (total_weight ws); spring = cond m.gears.pass m.spring (m.spring + total_weight ws) })) (pace_with_write (pace_of m) seat (sent_to op b))
          ≡ pace_with_write (pace_of m) seat (sent_to op b)
      by true kept = ap (λ (n : ℕ). record (pace_with_write (pace_of m) seat (sent_to op true)) { taken = n }) kept
      by false kept = refl

  pub written_pace : (seat : ℕ) (op : Op) → writes_of op ≡ ws → IsPaced (pace_of m) → IsToldOf m → seat < callers → is_write op ≡ true
      → IsPace (note seat op Done (with_peak (take_writes seat ws m))) (pace_with_write (pace_of m) seat (written_in m op ws))
  written_pace seat op writes paced t caller writing = record {
    numbers = written_numbers seat op;
    booked = write_books m.book m.seats (pace_of m) seat op (written_in m op ws) (ap total_weight (sym writes)) (ap (λ (l : List Write). length l) (sym writes)) paced caller writing t.booked;
    weights = length-set (pace_of m).weights seat (total_weight ws) ∙ paced.weights;
    quanta = length-set (pace_of m).quanta seat 0 ∙ paced.quanta;
  }

-- writes that fit weigh something
pub some_weigh : (w : Write) (ws : List Write) → AllByRecursion FitsFormat (w ∷ ws) → least_weight ≤ total_weight (w ∷ ws)
some_weigh w ws fit = omega (arith, fit.0.least, sum_by-cons weight_of w ws)

-- ---- an admission

module _ (m : Machine) (seat : ℕ) (op : Op) (sound : IsSound m) (way : HasWay m) (paced : IsPaced (pace_of m)) (t : IsToldOf m) (caller : seat < callers) where
  -- where they landed, of the pace before its moves
  pub lands_at : (ws : List Write) → 1 ≤ length ws → Lands (pace_ready_for (pace_of m) (total_weight ws)) (written_in (ready_for (total_weight ws) m) op ws)
  lands_at ws some =
      subst (λ p. Lands p (written_in (ready_for (total_weight ws) m) op ws)) (ready_pace (total_weight ws) m sound)
      (lands_of (ready_for (total_weight ws) m) ws (ready_carries (total_weight ws) m sound way).sound op some (ready_told (total_weight ws) m t).started)

  failed_makes : (commits faults : ℕ) → (let ended = admit_fitting m seat op (total_weight (writes_of op)) (FailedAfter commits faults) in Makes seat (kind.Admit op) ended.answer m ended.state)
  failed_makes commits faults = by (nat_lt commits (swaps_due m)) (commits == 0)
    where
      kept : IsPaced (pace_of (deep_swapped m)) × IsPaced (pace_of (ready_for (total_weight (writes_of op)) m))
      kept =
          let moves = moves_keep (pace_of m) (total_weight (writes_of op)) paced in
          (subst IsPaced (sym (settled_pace m sound)) moves.0, subst IsPaced (sym (ready_pace (total_weight (writes_of op)) m sound)) moves.2)

      stops : (n : Machine) (reply : Reply) → (is_done reply && is_write op) ≡ false → IsPaced (pace_of n) → IsToldOf n → IsPace (note seat op reply (stop (Faulted faults) n)) (pace_of n)
      stops n reply is paced told = noted_pace (stop (Faulted faults) n) (pace_of n) seat op reply is (stopped_pace n (Faulted faults) paced told)

      by : (b c : Bool)
          → (let ended = cond b (replied seat op FaultLost (stop (Faulted faults) (cond c m (deep_swapped m)))) (replied seat op FaultUnsure (stop (Faulted faults) (ready_for (total_weight (writes_of op)) m))) in
          Makes seat (kind.Admit op) ended.answer m ended.state)
      by true true = makes seat (kind.Admit op) (Replied FaultLost) m (note seat op FaultLost (stop (Faulted faults) m)) (pace_of m) (inl refl) (stops m FaultLost refl paced t) t.started
      by true false =
          let told = settled_told m t in
          makes seat (kind.Admit op) (Replied FaultLost) m (note seat op FaultLost (stop (Faulted faults) (deep_swapped m))) (pace_of (deep_swapped m)) (inr (settled_pace m sound)) (stops (deep_swapped m) FaultLost refl kept.0 told) told.started
      by false c =
          let told = ready_told (total_weight (writes_of op)) m t in
          makes seat (kind.Admit op) (Replied FaultUnsure) m (note seat op FaultUnsure (stop (Faulted faults) (ready_for (total_weight (writes_of op)) m))) (pace_of (ready_for (total_weight (writes_of op)) m))
          (ready_pace (total_weight (writes_of op)) m sound) (stops (ready_for (total_weight (writes_of op)) m) FaultUnsure refl kept.1 told) told.started

  module _ (writing : is_write op ≡ true) (settled : first_debt m.gears seat + second_debt m.gears seat ≡ 0) where
    written : (w : Write) (ws : List Write) → writes_of op ≡ w ∷ ws → FitTogether (w ∷ ws) → charge m + total_weight (w ∷ ws) ≤ charge_limit m.gears.sizes (is_del op)
        → Makes seat (kind.Admit op) (Replied Done) m (note seat op Done (with_peak (take_writes seat (w ∷ ws) (ready_for (total_weight (w ∷ ws)) m))))
    written w ws writes fits room =
        let weight = total_weight (w ∷ ws) in
        let n = ready_for weight m in
        let same : pace_of n ≡ pace_ready_for (pace_of m) weight = ready_pace weight m sound in
        let told = ready_told weight m t in
        makes seat (kind.Admit op) (Replied Done) m (note seat op Done (with_peak (take_writes seat (w ∷ ws) n)))
        (pace_with_write (pace_of n) seat (written_in n op (w ∷ ws)))
        (record {
          written = written_in n op (w ∷ ws);
          weighs = ap total_weight (sym writes);
          counts = ap (λ (l : List Write). length l) (sym writes);
          deletes = refl;
          may = record {
            caller = caller;
            settled = settled;
            some = omega arith;
            light = some_weigh w ws fits.each;
            heavy = fits.light;
            room = room;
            lands = lands_at (w ∷ ws) (omega arith);
          };
          led = ap (λ (p : Pace). pace_with_write p seat (written_in n op (w ∷ ws))) same;
        })
        (written_pace n (w ∷ ws) (ready_carries weight m sound way).sound seat op writes (subst IsPaced (sym same) (moves_keep (pace_of m) weight paced).2) told caller writing) told.started

    done_makes : FitTogether (writes_of op) → charge m + total_weight (writes_of op) ≤ charge_limit m.gears.sizes (is_del op)
        → Makes seat (kind.Admit op) (Replied Done) m (note seat op Done (with_peak (taken_together seat (writes_of op) (ready_for (total_weight (writes_of op)) m))))
    done_makes fits room =
        let some = writes_some op writing in
        subst (λ ws. Makes seat (kind.Admit op) (Replied Done) m (note seat op Done (with_peak (taken_together seat ws (ready_for (total_weight ws) m))))) (sym some.2)
        (written some.0 some.1 some.2 (subst (λ ws. FitTogether ws) some.2 fits) (subst (λ (ws : List Write). charge m + total_weight ws ≤ charge_limit m.gears.sizes (is_del op)) some.2 room))

-- an entry alone
pub note_makes : (m : Machine) (seat : ℕ) (k : Kind) (op : Op) (reply : Reply) → (is_done reply && is_write op) ≡ false → IsMadeBy seat k (Replied reply) (pace_of m) (pace_of m) → IsPaced (pace_of m) → IsToldOf m
    → Makes seat k (Replied reply) m (note seat op reply m)
note_makes m seat k op reply is made paced t = makes seat k (Replied reply) m (note seat op reply m) (pace_of m) made (noted_pace m (pace_of m) seat op reply is (its_pace m paced t.booked)) t.started

pub admission_makes : (m : Machine) (seat : ℕ) (op : Op) (outcome : Outcome) → IsSound m → HasWay m → IsPaced (pace_of m) → IsToldOf m → seat < callers → is_write op ≡ true
    → (m.stopped ≡ None → first_debt m.gears seat + second_debt m.gears seat ≡ 0) → FitTogether (writes_of op) → Makes seat (kind.Admit op) (admit m seat op outcome).answer m (admit m seat op outcome).state
admission_makes m seat op outcome sound way paced t caller writing settled fits = by m.stopped refl
  where
    fitting : m.stopped ≡ None → charge m + total_weight (writes_of op) ≤ charge_limit m.gears.sizes (is_del op) → (e : Outcome)
        → (let ended = admit_fitting m seat op (total_weight (writes_of op)) e in Makes seat (kind.Admit op) ended.answer m ended.state)
    fitting runs room (FailedAfter commits faults) = failed_makes m seat op sound way paced t caller commits faults
    fitting runs room (FailedLooking faults) = done_makes m seat op sound way paced t caller writing (settled runs) fits room
    fitting runs room (Broken page) = done_makes m seat op sound way paced t caller writing (settled runs) fits room
    fitting runs room Well = done_makes m seat op sound way paced t caller writing (settled runs) fits room
    fitting runs room NoRoom = done_makes m seat op sound way paced t caller writing (settled runs) fits room

    met : m.stopped ≡ None → (b : Bool) → is_full m op ≡ b → (e : Outcome)
        → (let ended = cond b (replied seat op (Full (charge m)) m) (admit_fitting m seat op (total_weight (writes_of op)) e) in Makes seat
        (kind.Admit op) ended.answer m ended.state)
    met runs true test e = note_makes m seat (kind.Admit op) op (Full (charge m)) refl refl paced t
    met runs false test e = fitting runs (ltb-false (charge_limit m.gears.sizes (is_del op)) (charge m + total_weight (writes_of op)) test) e

    kept : m.stopped ≡ None → (holds : Bool) (found : Option Value) (e : Outcome)
        → (let ended = unless_refused (cond holds None (Some (Kept found))) seat op m (admit_met m seat op e) in Makes seat (kind.Admit op)
        ended.answer m ended.state)
    kept runs true found e = met runs (is_full m op) refl e
    kept runs false found e = note_makes m seat (kind.Admit op) op (Kept found) refl refl paced t

    looked : m.stopped ≡ None → (first holds : Bool) (found : Option Value) (e : Outcome)
        → (let ended = unless_refused (cond first (told_by_look e holds found) None) seat op m (admit_met m seat op e) in Makes seat (kind.Admit op)
        ended.answer m ended.state)
    looked runs false holds found e = met runs (is_full m op) refl e
    looked runs true holds found (FailedLooking faults) = note_makes m seat (kind.Admit op) op Fault refl refl paced t
    looked runs true holds found (Broken page) = note_makes m seat (kind.Admit op) op (Damaged page) refl refl paced t
    looked runs true holds found (FailedAfter commits faults) = kept runs holds found (FailedAfter commits faults)
    looked runs true holds found Well = kept runs holds found Well
    looked runs true holds found NoRoom = kept runs holds found NoRoom

    by : (o : Option Why) → m.stopped ≡ o
        → (let ended = unless_stopped o seat op m (unless_refused (refused_first m op outcome) seat op m (admit_met m seat op outcome)) in Makes seat
        (kind.Admit op) ended.answer m ended.state)
    by (Some why) is = note_makes m seat (kind.Admit op) op (Stopped why) refl refl paced t
    by None runs = looked runs (looks_first op) (is_met op (value_in m.lists)) (looked_at op (value_in m.lists)) outcome
