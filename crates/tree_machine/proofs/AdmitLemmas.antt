-- Admission: what the machine stands for before it stands for afterwards, with the write counted, lost or unsure, or refused.
use Rattle.std.proofs.Common.{◌≡◌, ℕ, ◌+◌, ◌<◌, ◌≤◌, Bool, cond, true, false, List, [], ◌∷◌, ◌++◌, Some, None, Option, refl, ap, sym, subst, ◌∙◌, arith}
use Rattle.std.proofs.lemmas.Grind.{common_steps}
use Rattle.std.proofs.lemmas.Bool.Decides.{nat_tests}
use Rattle.std.specs.Prelude.{◌==◌, nat_lt}
use Rattle.std.specs.List.{AllByRecursion}
use Rattle.std.proofs.lemmas.Bool.{ltb-true}
use Rattle.std.proofs.lemmas.List.Sums.{sum_by-append}
use Rattle.blsm_model.specs.declared.key.Key.{Key}
use Rattle.blsm_model.specs.declared.row.Value.{Value}
use Rattle.blsm_model.specs.declared.op.Write.{Write}
use Rattle.blsm_model.specs.declared.op.Op.{Op}
use Rattle.blsm_model.specs.declared.history.Why.{Why}
use Rattle.blsm_model.specs.declared.history.Why.TheVariants.{Faulted}
use Rattle.blsm_model.specs.declared.history.Reply.{Reply}
use Rattle.blsm_model.specs.declared.history.Reply.TheVariants.{Damaged, Done, Fault, Full, FaultLost, FaultUnsure, Kept}
use Rattle.blsm_model.specs.declared.history.Entry.{Entry}
use Rattle.blsm_model.specs.Sizes.{Sizes}
use Rattle.blsm_model.specs.Geometry.{limits_of, charge_limit}
use Rattle.blsm_model.specs.Values.{value_at, weight_of}
use Rattle.blsm_model.specs.Book.{Book}
use Rattle.blsm_model.specs.Histories.{
  IsAnswer,
  after,
  object_after,
  counted,
  counted_writes,
  is_met,
  looked_at,
  looks_first,
  written,
  writes_of,
  is_refusal,
}
use Rattle.blsm_model.specs.Legal.{MayReply, NamesNoOther, limit_for, is_running, is_stopped, is_stopping, is_write, total_weight, is_del}
use Rattle.blsm_model.proofs.HistoryLemmas.{writes-object_after}
use Rattle.blsm_model.proofs.HoldLemmas.{held-refusal, held-still}
use Rattle.blsm_model.proofs.OpLemmas.{
  first_may_fail,
  looked_same,
  met_same,
  no_condition,
  writes_some,
  write_is_done,
  write_is_kept,
  write_is_no_work,
  write_leaves_rows,
}
use Rattle.record_delta.specs.Entries.{AreSorted, Entries, entries_weight}
use Rattle.record_delta.specs.Several.{entries_of, with_records}
use Rattle.tree_machine.specs.Lists.{Lists, memory_weight, value_in}
use Rattle.tree_machine.specs.Layers.{IsPassCounted, IsDeepCounted, HasWay}
use Rattle.tree_machine.specs.Merges.{Merge}
use Rattle.tree_machine.specs.Machine.{Machine, in_pass, charge, memory_charge}
use Rattle.tree_machine.specs.Moves.{goes_to_a, with_writes, take_writes, with_peak, note, stop}
use Rattle.tree_machine.specs.Steps.{
  Outcome,
  Well,
  FailedAfter,
  FailedLooking,
  Broken,
  NoRoom,
  Stepped,
  replied,
  deep_swapped,
  swaps_due,
  ready_for,
  taken_together,
  told_by_look,
  refused_first,
  unless_refused,
  admit,
  admit_met,
  admit_fitting,
  is_full,
}
use Rattle.tree_machine.specs.Stands.{FitsFormat, FitTogether, Stands}
use Rattle.tree_machine.proofs.CarryLemmas.{carries_itself, deep_swapped_carries, ready_carries}
use Rattle.tree_machine.proofs.LightLemmas.{light_entries, light_writes}
use Rattle.tree_machine.proofs.WriteLemmas.{writes_layered, value_in-writes, taken_stays}
use Rattle.tree_machine.proofs.WeightLemmas.{weight_with_all, weight_of_entries}
use Rattle.tree_machine.proofs.ToldLemmas.{some_or_none, note_told, stop_told, none_fails}
use Rattle.tree_machine.proofs.StandLemmas.{entry_of, IsReadyFor, note_stands, quiet_ready, running_told, unless_stands}
use Rattle.tree_machine.proofs.Terms.{Carries}

-- ---- moves of the merges

pub carries_stands : (opening : List (Key × Value)) (m n : Machine) → Stands opening m → Carries m n → Stands opening n
carries_stands opening m n stands c = grind (arith, common_steps, nat_tests)

-- ---- a write that failed

-- the tree is stopped by this write, after some moves of the merges
failed_stands : (opening : List (Key × Value)) (m : Machine) (seat : ℕ) (op : Op) (reply : Reply) (faults : ℕ) → Stands opening m → m.stopped ≡ None
    → is_refusal reply ≡ true → counted (entry_of seat op reply) ≡ [] → NamesNoOther (Faulted faults) reply
    → MayReply (limits_of m.gears.sizes m.counts.charge) opening m.book.entries seat op reply → Stands opening (note seat op reply (stop (Faulted faults) m))
failed_stands opening m seat op reply faults stands none refused uncounted named may =
    let ready = quiet_ready opening m (entry_of seat op reply) stands uncounted (λ s. held-refusal (object_after opening m.book.entries) (entry_of seat op reply) s refused) in
    note_stands opening (stop (Faulted faults) m) seat op reply
    (record {
      sound = record { layered = ready.sound.layered; light = ready.sound.light; charged = ready.sound.charged; pass = ready.sound.pass; deep = ready.sound.deep };
      values = ready.values;
      places = ready.places;
      held = ready.held;
      weighs = ready.weighs;
    })
    (note_told opening (stop (Faulted faults) m) seat op reply (stop_told opening m (Faulted faults) stands.told none) may
    (λ is. absurd (some_or_none (Some (Faulted faults)) (Faulted faults) refl is))
    (λ why is. names why is)
    (λ s failing. absurd (none_fails opening m stands.told none s failing)))
  where
    names : (why : Why) → Some (Faulted faults) ≡ Some why → NamesNoOther why reply
    names why is = grind (arith, common_steps, nat_tests)

-- ---- writes that are done

heavier : (more : Entries) (lists : Lists) (b : Bool) → AreSorted lists.a → AreSorted lists.b
    → memory_weight (cond b
    (record { b = lists.b; a = with_records more lists.a; c1 = lists.c1; c1x = lists.c1x; c2 = lists.c2 })
    (record { b = with_records more lists.b; a = lists.a; c1 = lists.c1; c1x = lists.c1x; c2 = lists.c2 })) ≤ memory_weight lists + entries_weight more
heavier more lists true sorted_a sorted_b = omega (arith, weight_with_all more lists.a sorted_a)
heavier more lists false sorted_a sorted_b = omega (arith, weight_with_all more lists.b sorted_b)

components_stay : (more : Entries) (lists : Lists) (b : Bool)
    → (let new : Lists = cond b
    (record { b = lists.b; a = with_records more lists.a; c1 = lists.c1; c1x = lists.c1x; c2 = lists.c2 })
    (record { b = with_records more lists.b; a = lists.a; c1 = lists.c1; c1x = lists.c1x; c2 = lists.c2 }) in
    entries_weight new.c1 + entries_weight new.c1x + entries_weight new.c2 ≡ entries_weight lists.c1 + entries_weight lists.c1x + entries_weight lists.c2)
components_stay more lists b = grind (arith, common_steps, nat_tests)

-- what the pass has taken stays
pass_counted : (more : Entries) (lists : Lists) (running : Bool) (input memory admitted taken w : ℕ) (p : Option Merge) → AreSorted lists.a → IsPassCounted lists.a lists.c1 running input memory admitted taken p
    → IsPassCounted (with_writes p more lists).a (with_writes p more lists).c1 running input memory (cond running (admitted + w) admitted) taken p
pass_counted more lists running input memory admitted taken w p h1 h2 = grind (arith, common_steps, nat_tests, taken_stays)

deep_counted : (more : Entries) (lists : Lists) (running : Bool) (input admitted taken w : ℕ) (b : Bool) (p : Option Merge) → IsDeepCounted lists.c1x lists.c2 running input admitted taken p
    → (let new : Lists = cond b
    (record { b = lists.b; a = with_records more lists.a; c1 = lists.c1; c1x = lists.c1x; c2 = lists.c2 })
    (record { b = with_records more lists.b; a = lists.a; c1 = lists.c1; c1x = lists.c1x; c2 = lists.c2 }) in
    IsDeepCounted new.c1x new.c2 running input (cond running (admitted + w) admitted) taken p)
deep_counted more lists running input admitted taken w b p h1 = grind (arith, common_steps, nat_tests)

taken : Machine → ℕ → List Write → Machine
taken m seat ws = with_peak (take_writes seat ws m)

writes_ready : (opening : List (Key × Value)) (m : Machine) (seat : ℕ) (op : Op) (ws : List Write) → Stands opening m → AllByRecursion FitsFormat ws
    → counted (entry_of seat op Done) ≡ ws
    → ((s : ℕ) → (after (object_after opening m.book.entries) (entry_of seat op Done)).held s ≡ (object_after opening m.book.entries).held s)
    → IsReadyFor opening (taken m seat ws) (entry_of seat op Done)
unfolding taken
writes_ready opening m seat op ws stands fits counts still = record {
  sound = record {
    layered = writes_layered (entries_of ws) m.lists m.merges stands.sound.layered;
    light = light_writes (entries_of ws) m.lists m.merges (light_entries ws fits) stands.sound.light;
    charged = charged (in_pass m) refl;
    pass = pass_counted (entries_of ws) m.lists m.gears.pass m.gears.pass_c1 m.gears.pass_memory m.gears.pass_admitted m.gears.pass_taken (total_weight ws) m.merges.pass stands.sound.layered.sorted_a stands.sound.pass;
    deep = deep_counted (entries_of ws) m.lists m.gears.deep m.gears.deep_input m.gears.deep_admitted m.gears.deep_taken (total_weight ws) (goes_to_a m.merges.pass m.lists.b (entries_of ws)) m.merges.deep stands.sound.deep;
  };
  values = λ q. value_in-writes ws m.lists m.merges.pass (written opening m.book.entries) fits stands.sound.layered.pass stands.values q
      ∙ ap (λ more. value_at (written opening m.book.entries ++ more) q) (sym counts);
  places = stands.places;
  held = λ s within. stands.held s within ∙ sym (still s);
  weighs = weighs (in_pass m) refl;
}
  where
    new : Lists
    new = with_writes m.merges.pass (entries_of ws) m.lists

    heavy : memory_weight (with_writes m.merges.pass (entries_of ws) m.lists) ≤ memory_weight m.lists + total_weight ws
    heavy = omega (arith, heavier (entries_of ws) m.lists (goes_to_a m.merges.pass m.lists.b (entries_of ws)) stands.sound.layered.sorted_a stands.sound.layered.sorted_b, weight_of_entries ws)

    charged : (b : Bool) → in_pass m ≡ b → memory_weight (with_writes m.merges.pass (entries_of ws) m.lists)
        ≤ cond (in_pass m) (m.gears.pass_memory + cond (in_pass m) (m.gears.pass_admitted + total_weight ws) m.gears.pass_admitted) (memory_weight (with_writes m.merges.pass (entries_of ws) m.lists))
    charged b is = subst (λ c. memory_weight (with_writes m.merges.pass (entries_of ws) m.lists)
        ≤ cond c (m.gears.pass_memory + cond c (m.gears.pass_admitted + total_weight ws) m.gears.pass_admitted) (memory_weight (with_writes m.merges.pass (entries_of ws) m.lists))) (sym is)
        (by b (subst (λ c. memory_weight m.lists ≤ cond c (m.gears.pass_memory + m.gears.pass_admitted) (memory_weight m.lists)) is stands.sound.charged))
      where
        by : (c : Bool) → memory_weight m.lists ≤ cond c (m.gears.pass_memory + m.gears.pass_admitted) (memory_weight m.lists)
            → memory_weight (with_writes m.merges.pass (entries_of ws) m.lists)
            ≤ cond c (m.gears.pass_memory + cond c (m.gears.pass_admitted + total_weight ws) m.gears.pass_admitted) (memory_weight (with_writes m.merges.pass (entries_of ws) m.lists))
        by true was = omega (arith, was, heavy)
        by false was = omega arith

    weighs : (b : Bool) → in_pass m ≡ b → charge (with_peak (take_writes seat ws m)) ≤ m.counts.charge + total_weight (counted_writes m.book.entries ++ counted (entry_of seat op Done))
    weighs b is = omega (arith, more, stands.weighs, components_stay (entries_of ws) m.lists (goes_to_a m.merges.pass m.lists.b (entries_of ws)), total)
      where
        total : total_weight (counted_writes m.book.entries ++ counted (entry_of seat op Done)) ≡ total_weight (counted_writes m.book.entries) + total_weight ws
        total = ap (λ more. total_weight (counted_writes m.book.entries ++ more)) counts ∙ sum_by-append weight_of (counted_writes m.book.entries) ws

        more : cond (in_pass m) (m.gears.pass_memory + cond (in_pass m) (m.gears.pass_admitted + total_weight ws) m.gears.pass_admitted) (memory_weight (with_writes m.merges.pass (entries_of ws) m.lists))
            ≤ memory_charge m + total_weight ws
        more = subst (λ c. cond c (m.gears.pass_memory + cond c (m.gears.pass_admitted + total_weight ws) m.gears.pass_admitted) (memory_weight (with_writes m.merges.pass (entries_of ws) m.lists))
            ≤ cond c (m.gears.pass_memory + m.gears.pass_admitted) (memory_weight m.lists) + total_weight ws) (sym is) (by b)
          where
            by : (c : Bool) → cond c (m.gears.pass_memory + cond c (m.gears.pass_admitted + total_weight ws) m.gears.pass_admitted) (memory_weight (with_writes m.merges.pass (entries_of ws) m.lists))
                ≤ cond c (m.gears.pass_memory + m.gears.pass_admitted) (memory_weight m.lists) + total_weight ws
            by true = omega arith
            by false = heavy

written_stands : (opening : List (Key × Value)) (m : Machine) (seat : ℕ) (op : Op) (ws : List Write) → Stands opening m → m.stopped ≡ None → AllByRecursion FitsFormat ws
    → counted (entry_of seat op Done) ≡ ws
    → ((s : ℕ) → (after (object_after opening m.book.entries) (entry_of seat op Done)).held s ≡ (object_after opening m.book.entries).held s)
    → MayReply (limits_of m.gears.sizes m.counts.charge) opening m.book.entries seat op Done → Stands opening (note seat op Done (with_peak (take_writes seat ws m)))
unfolding taken
written_stands opening m seat op ws stands none fits counts still may =
    note_stands opening (taken m seat ws) seat op Done (writes_ready opening m seat op ws stands fits counts still)
    (running_told opening (taken m seat ws) seat op Done
    (record { legal = stands.told.legal; running = stands.told.running; one_why = stands.told.one_why; works = stands.told.works }) none may refl refl)

-- ---- a write that fits

-- its condition holds in the map after the history
fitting_stands : (opening : List (Key × Value)) (m : Machine) (seat : ℕ) (op : Op) (weight : ℕ) (outcome : Outcome) → Stands opening m → HasWay m
    → m.stopped ≡ None → is_write op ≡ true → is_met op (value_at (object_after opening m.book.entries).writes) ≡ true
    → AllByRecursion FitsFormat (writes_of op) → Stands opening (admit_fitting m seat op weight outcome).state
fitting_stands opening m seat op weight outcome stands way none is_one met fit = by outcome
  where
    failed : (n : Machine) (reply : Reply) (faults : ℕ) → Carries m n → is_refusal reply ≡ true → counted (entry_of seat op reply) ≡ [] → NamesNoOther (Faulted faults) reply
        → ((before : List Entry) → is_running before ≡ true → MayReply (limits_of n.gears.sizes n.counts.charge) opening before seat op reply)
        → Stands opening (note seat op reply (stop (Faulted faults) n))
    failed n reply faults c refused uncounted named may =
        let stands_n = carries_stands opening m n stands c in
        let none_n : n.stopped ≡ None = c.stopped ∙ none in
        failed_stands opening n seat op reply faults stands_n none_n refused uncounted named (may n.book.entries (stands_n.told.running none_n))

    lost : (faults : ℕ) (b : Bool) → Stands opening (note seat op FaultLost (stop (Faulted faults) (cond b m (deep_swapped m))))
    lost faults true = failed m FaultLost faults (carries_itself m stands.sound) refl refl tt (λ before running. (running, is_one))
    lost faults false = failed (deep_swapped m) FaultLost faults (deep_swapped_carries m stands.sound) refl refl tt (λ before running. (running, is_one))

    after_failure : (commits faults : ℕ) (b : Bool)
        → Stands opening (cond b (replied seat op FaultLost (stop (Faulted faults) (cond (commits == 0) m (deep_swapped m)))) (replied seat op FaultUnsure (stop (Faulted faults) (ready_for weight m)))).state
    after_failure commits faults true = lost faults (commits == 0)
    after_failure commits faults false = failed (ready_for weight m) FaultUnsure faults (ready_carries weight m stands.sound way) refl refl tt (λ before running. (running, is_one))

    done : Stands opening (note seat op Done (with_peak (taken_together seat (writes_of op) (ready_for weight m))))
    done =
        let carries = ready_carries weight m stands.sound way in
        let ready = carries_stands opening m (ready_for weight m) stands carries in
        let still_none : (ready_for weight m).stopped ≡ None = carries.stopped ∙ none in
        let object = object_after opening (ready_for weight m).book.entries in
        let some = writes_some op is_one in
        let still_met = subst (λ (b : Book). is_met op (value_at (object_after opening b.entries).writes) ≡ true) (sym carries.book) met in
        subst (λ ws. Stands opening (note seat op Done (with_peak (taken_together seat ws (ready_for weight m))))) (sym some.2)
        (written_stands opening (ready_for weight m) seat op (some.0 ∷ some.1) ready still_none (subst (λ ws. AllByRecursion FitsFormat ws) some.2 fit) some.2
        (λ s. held-still object (entry_of seat op Done) s (write_leaves_rows op is_one))
        (ready.told.running still_none, write_is_done object seat op is_one still_met))

    by : (o : Outcome) → Stands opening (admit_fitting m seat op weight o).state
    by (FailedAfter commits faults) = after_failure commits faults (nat_lt commits (swaps_due m))
    by (FailedLooking faults) = done
    by Well = done
    by (Broken page) = done
    by NoRoom = done

limit_is : (sizes : Sizes) (at_opening : ℕ) (op : Op) → limit_for (limits_of sizes at_opening) op ≡ charge_limit sizes (is_del op)
limit_is sizes at_opening op = grind (arith, common_steps, nat_tests)

met_stands : (opening : List (Key × Value)) (m : Machine) (seat : ℕ) (op : Op) (outcome : Outcome) → Stands opening m → HasWay m → m.stopped ≡ None
    → is_write op ≡ true → is_met op (value_at (object_after opening m.book.entries).writes) ≡ true → AllByRecursion FitsFormat (writes_of op)
    → Stands opening (admit_met m seat op outcome).state
met_stands opening m seat op outcome stands way none is_one met fit = by (is_full m op) refl
  where
    by : (b : Bool) → is_full m op ≡ b
        → Stands opening (cond b (replied seat op (Full (charge m)) m) (admit_fitting m seat op (total_weight (writes_of op)) outcome)).state
    by true is =
        note_stands opening m seat op (Full (charge m))
        (quiet_ready opening m (entry_of seat op (Full (charge m))) stands refl (λ s. held-refusal (object_after opening m.book.entries) (entry_of seat op (Full (charge m))) s refl))
        (running_told opening m seat op (Full (charge m)) stands.told none (
          stands.told.running none,
          record {
            write = is_one;
            past = subst (λ n. n < charge m + total_weight (writes_of op)) (sym (limit_is m.gears.sizes m.counts.charge op))
                (ltb-true (charge_limit m.gears.sizes (is_del op)) (charge m + total_weight (writes_of op)) is);
            made = stands.weighs;
          },
          met,
        ) refl refl)
    by false is = fitting_stands opening m seat op (total_weight (writes_of op)) outcome stands way none is_one met fit

-- ---- a write that looks first

-- the lists have of a key what the sequential map has
lists_are_map : (opening : List (Key × Value)) (m : Machine) → Stands opening m → (key : Key) → value_in m.lists key ≡ value_at
    (object_after opening m.book.entries).writes key
lists_are_map opening m stands key = stands.values key ∙ ap (λ ws. value_at ws key) (sym (writes-object_after opening m.book.entries))

-- so what it looked at may refuse it
refused_stands : (opening : List (Key × Value)) (m : Machine) (seat : ℕ) (op : Op) (outcome : Outcome) (otherwise : Stepped) → Stands opening m →
    m.stopped ≡ None
    → is_write op ≡ true → (is_met op (value_at (object_after opening m.book.entries).writes) ≡ true → Stands opening otherwise.state)
    → Stands opening (unless_refused (refused_first m op outcome) seat op m otherwise).state
refused_stands opening m seat op outcome otherwise stands none is_one goes = by (looks_first op) refl outcome
  where
    noted : (reply : Reply) → counted (entry_of seat op reply) ≡ [] → MayReply (limits_of m.gears.sizes m.counts.charge) opening m.book.entries seat
        op reply
        → is_stopping op reply ≡ false → is_stopped reply ≡ false → Stands opening (note seat op reply m)
    noted reply uncounted may stopping stopped =
        note_stands opening m seat op reply
        (quiet_ready opening m (entry_of seat op reply) stands uncounted
        (λ s. held-still (object_after opening m.book.entries) (entry_of seat op reply) s (write_leaves_rows op is_one)))
        (running_told opening m seat op reply stands.told none may stopping stopped)

    same_met : is_met op (value_in m.lists) ≡ is_met op (value_at (object_after opening m.book.entries).writes)
    same_met = met_same op (value_in m.lists) (value_at (object_after opening m.book.entries).writes) (lists_are_map opening m stands)

    same_found : looked_at op (value_in m.lists) ≡ looked_at op (value_at (object_after opening m.book.entries).writes)
    same_found = looked_same op (value_in m.lists) (value_at (object_after opening m.book.entries).writes) (lists_are_map opening m stands)

    kept : (met : Bool) → is_met op (value_in m.lists) ≡ met
        → Stands opening (unless_refused (cond met None (Some (Kept (looked_at op (value_in m.lists))))) seat op m otherwise).state
    kept true is = goes (sym same_met ∙ is)
    kept false is =
        noted (Kept (looked_at op (value_in m.lists))) refl (
          stands.told.running none,
          subst (λ found. IsAnswer (object_after opening m.book.entries) seat op (Kept found)) (sym same_found)
              (write_is_kept (object_after opening m.book.entries) seat op is_one (sym same_met ∙ is)),
        ) refl refl

    by : (first : Bool) → looks_first op ≡ first → (e : Outcome)
        → Stands opening (unless_refused (cond first (told_by_look e (is_met op (value_in m.lists)) (looked_at op (value_in m.lists))) None) seat op
        m otherwise).state
    by false is e = goes (no_condition op (value_at (object_after opening m.book.entries).writes) is)
    by true is (FailedLooking faults) = noted Fault refl (first_may_fail m.book.entries op is (stands.told.running none))
        (write_is_no_work op is_one) refl
    by true is (Broken page) = noted (Damaged page) refl (first_may_fail m.book.entries op is (stands.told.running none))
        (write_is_no_work op is_one) refl
    by true is (FailedAfter commits faults) = kept (is_met op (value_in m.lists)) refl
    by true is Well = kept (is_met op (value_in m.lists)) refl
    by true is NoRoom = kept (is_met op (value_in m.lists)) refl

-- ---- admission

pub admit_stands : (opening : List (Key × Value)) (m : Machine) (seat : ℕ) (op : Op) (outcome : Outcome) → Stands opening m → HasWay m → is_write op
    ≡ true
    → FitTogether (writes_of op) → Stands opening (admit m seat op outcome).state
admit_stands opening m seat op outcome stands way is_one fit =
    unless_stands opening m seat op (unless_refused (refused_first m op outcome) seat op m (admit_met m seat op outcome)) stands
    (λ none. refused_stands opening m seat op outcome (admit_met m seat op outcome) stands none is_one
    (λ met. met_stands opening m seat op outcome stands way none is_one met fit.each))
