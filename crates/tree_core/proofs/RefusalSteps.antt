-- A write that is refused by what it looked at is a step that only reads, and notes why.
use Rattle.std.specs.Prelude.{◌≡◌, ℕ, ◌<◌, ◌^◌, true, false, List, Option, None, Some, IsTrue, is_some, not, ◌&&◌}
use Rattle.std.proofs.Common.{◌∙◌, inr, refl, ap, sym, subst}
use Rattle.refusal.specs.Count.{HasRisen}
use Rattle.blsm_model.specs.declared.key.Key.{Key}
use Rattle.blsm_model.specs.declared.row.Value.{Value}
use Rattle.blsm_model.specs.declared.op.Op.{Op}
use Rattle.blsm_model.specs.declared.history.Entry.{Entry}
use Rattle.blsm_model.specs.declared.history.Why.{Why}
use Rattle.blsm_model.specs.declared.history.Reply.{Reply}
use Rattle.blsm_model.specs.declared.history.Reply.TheVariants.{Fault, Kept, Stopped}
use Rattle.blsm_model.specs.Histories.{is_done, is_met, looked_at, looks_first}
use Rattle.blsm_model.specs.Images.{is_unsure}
use Rattle.blsm_model.proofs.OpLemmas.{looked_same, met_same}
use Rattle.disk_trait.specs.Disk.{DiskState}
use Rattle.disk_trait.specs.Reads.{OnlyReads}
use Rattle.seat_book.specs.State.{BookState, noted_in}
use Rattle.tree_machine.specs.Lists.{value_in}
use Rattle.tree_machine.specs.Machine.{Machine}
use Rattle.tree_machine.specs.Moves.{note}
use Rattle.tree_machine.specs.Outcomes.{IsPossible, is_broken}
use Rattle.tree_machine.specs.Plays.{may}
use Rattle.tree_machine.specs.Stands.{WritesFit}
use Rattle.tree_machine.specs.Steps.{Outcome, Well, FailedLooking, Replied, replied, unless_stopped, unless_refused, refused_first, admit, admit_met}
use Rattle.tree_machine.specs.declared.step.Kind.TheVariants as kind
use Rattle.tree_machine.proofs.LookLemmas.{look_failed, looked_admits, unmet_kept}
use Rattle.tree_file.specs.Tree.{Tree, HoldsTree}
use Rattle.core_moves.specs.declared.held.Held.{Held}
use Rattle.core_moves.specs.Held.{IsOne}
use Rattle.core_moves.specs.Moves.{with_book}
use Rattle.core_lists.proofs.LookupLemmas.{lookup_is_the_machines}
use Rattle.core_lists.proofs.ShowingLemmas.{quiet_entry_counts_none}
use Rattle.tree_runs.specs.Holding.{AreGuided, AreOf}
use Rattle.tree_core.specs.Answers.{HasDropped, found_in}
use Rattle.tree_core.specs.Causes.{Finds}
use Rattle.tree_core.specs.Standing.{AnyRows, RunsOver, StandsFor}
use Rattle.tree_core.specs.Steps.{IsStep}
use Rattle.tree_core.specs.declared.admission.Tried.{Tried}
use Rattle.tree_core.specs.declared.admission.Tried.TheVariants as tried
use Rattle.tree_core.proofs.BoundLemmas.{rose}
use Rattle.tree_core.proofs.QuietLemmas.{quiet_step}
use Rattle.tree_core.proofs.LookupSteps.{dropped_in}

-- what a lookup came to, over each tree that the file holds
abbrev pub FindsOver : Tried → Op → Held → DiskState → Type 0
FindsOver result op held d =
    (tree : Tree) → IsTrue d.is_honest → HoldsTree held.runs.sizes tree d.bytes → tree.catalogue ≡ held.runs.catalogue → AreGuided held.runs.guides
    held.runs.tags tree
    → HasDropped held tree d.bytes → Finds result op (λ key. found_in key held tree)

module _ {end most : ℕ} {d d2 : DiskState} (opening : List (Key × Value)) (seat : ℕ) (op : Op) (held : Held) (m : Machine)
    (reads : OnlyReads end most d d2) (honest : IsTrue d.is_honest)
    (s : StandsFor AnyRows opening held m d) (can : may m seat (kind.Admit op) ≡ true) (fits : WritesFit (kind.Admit op)) where
  abbrev noted : Reply → Held
  noted reply = with_book (noted_in seat op reply held.book) held

  abbrev IsRefused : Reply → Type 0
  IsRefused reply = IsStep AnyRows opening seat (kind.Admit op) (Replied reply) (noted reply) d d2 m

  -- an entry that counts no write
  notes : (reply : Reply) (outcome : Outcome) → admit m seat op outcome ≡ replied seat op reply m → IsPossible m seat (kind.Admit op) outcome
      d.faults d2.faults → is_broken outcome ≡ false
      → is_done reply ≡ false → is_unsure reply ≡ false → IsRefused reply
  notes reply outcome is possible whole undone sure =
      let entry : Entry = record { seat = seat; op = op; reply = reply } in
      quiet_step opening seat (kind.Admit op) outcome (Replied reply) held held.runs.space (noted_in seat op reply held.book) m
      (note seat op reply m) reads honest s can fits possible whole is
      (record {
        same = record { lists = refl; merges = refl; gears = refl; spring = refl; catalogue = refl };
        counts = record
            { charge = refl; peak = refl; quanta = refl };
        book = ap (noted_in seat op reply) s.book;
        stopped = refl;
        noted = inr
            (entry, refl, quiet_entry_counts_none entry (inr (undone, sure)));
      })
      (λ tree file of. of) (λ none. tt)

  stop_is : m.stopped ≡ held.book.stopped
  stop_is = ap (λ (b : BookState). b.stopped) s.book

  -- a store that is stopped only notes that it is
  pub stopped_steps : (why : Why) → held.book.stopped ≡ Some why → IsRefused (Stopped why)
  stopped_steps why stop = notes (Stopped why) Well
      (ap (λ (o : Option Why). unless_stopped o seat op m (unless_refused (refused_first m op Well) seat op m (admit_met m seat op Well)))
      (stop_is ∙ stop)) tt refl refl refl

  module _ (ran : held.book.stopped ≡ None) (one : IsOne held) where
    runs : m.stopped ≡ None
    runs = stop_is ∙ ran

    over : RunsOver held m d
    over = s.runs ran

    same : (key : Key) → found_in key held over.tree ≡ value_in m.lists key
    same key = lookup_is_the_machines held over.tree m d.bytes key (record { are_of = over.over.are_of; holds = over.holds })

    found : (result : Tried) → FindsOver result op held d → Finds result op (λ key. found_in key held over.tree)
    found result finds = finds over.tree honest over.over.stands.reads over.over.are_of.catalogue over.over.are_of.guided
        (dropped_in held one over.tree d.bytes over.over.are_of)

    -- its condition doesn't hold, by this value
    pub kept_steps : (value : Option Value) → FindsOver (tried.Kept value) op held d → IsRefused (Kept value)
    kept_steps value finds =
        let at = found (tried.Kept value) finds in
        notes (Kept value) Well
        (looked_admits m seat op Well (Some (Kept (looked_at op (value_in m.lists)))) runs
        (unmet_kept m op (sym (met_same op (λ key. found_in key held over.tree) (value_in m.lists) same) ∙ at.0))
        ∙ ap (λ (v : Option Value). replied seat op (Kept v) m) (sym (at.1 ∙ looked_same op (λ key. found_in key held over.tree) (value_in m.lists)
        same)))
        tt refl refl refl

    -- a call of its lookup failed
    pub fault_steps : looks_first op ≡ true → HasRisen d.faults d2.faults → d2.faults < 2 ^ 64 → IsRefused Fault
    fault_steps first risen few = notes Fault (FailedLooking d2.faults)
        (looked_admits m seat op (FailedLooking d2.faults) (Some Fault) runs (look_failed m op d2.faults first)) (
          ap (λ (o : Option Why). not (is_some o) && looks_first op) runs ∙ first,
          rose d.faults d2.faults reads.effect.goes_on.faults few risen,
          refl,
        ) refl refl refl

    -- no page is damaged
    pub none_damaged : (page : ℕ) → FindsOver (tried.Damaged page) op held d → ⊥
    none_damaged page finds = found (tried.Damaged page) finds

-- Or its condition holds, as it stands behind the reads.
pub met_behind : {end most : ℕ} {d d2 : DiskState} (opening : List (Key × Value)) (op : Op) (held : Held) (m : Machine) → OnlyReads end most d d2 →
    IsTrue d2.is_honest → StandsFor AnyRows opening held m d2
    → held.book.stopped ≡ None → IsOne held → FindsOver tried.Met op held d → is_met op (value_in m.lists) ≡ true
met_behind {end} {most} {d} {d2} opening op held m reads honest s ran one finds =
    let before : IsTrue d.is_honest = subst IsTrue reads.effect.goes_on.is_honest honest in
    let over : RunsOver held m d2 = s.runs ran in
    sym (met_same op (λ key. found_in key held over.tree) (value_in m.lists)
    (λ key. lookup_is_the_machines held over.tree m d2.bytes key (record { are_of = over.over.are_of; holds = over.holds })))
    ∙ finds over.tree before (subst (λ (file : List ℕ). HoldsTree held.runs.sizes over.tree file) (reads.same.same.bytes before)
    over.over.stands.reads) over.over.are_of.catalogue over.over.are_of.guided
    (dropped_in held one over.tree d.bytes (subst (λ (file : List ℕ). AreOf held.runs over.tree file) (reads.same.same.bytes before) over.over.are_of))
