-- A write that is refused by what it looked at, or since the store is stopped, as one call of the core.
use Rattle.std.specs.Prelude.{◌≡◌, ℕ, ◌+◌, true, false, List, Option, None, Some, IsTrue}
use Rattle.std.proofs.lemmas.Bool.{false≢true}
use Rattle.std.proofs.Common.{◌∙◌, refl, sym, subst, arith}
use Rattle.blsm_model.specs.Book.{HasRoom}
use Rattle.blsm_model.specs.Geometry.{file_length}
use Rattle.blsm_model.specs.Histories.{is_done, looks_first}
use Rattle.blsm_model.specs.declared.history.Reply.{Reply}
use Rattle.blsm_model.specs.declared.history.Reply.TheVariants.{Damaged, Fault, Kept, Stopped}
use Rattle.blsm_model.specs.declared.history.Why.{Why}
use Rattle.blsm_model.specs.declared.key.Key.{Key}
use Rattle.blsm_model.specs.declared.op.Op.{Op}
use Rattle.blsm_model.specs.declared.row.Value.{Value}
use Rattle.disk_trait.specs.Disk.{DiskState}
use Rattle.disk_trait.specs.Effects.{Affects}
use Rattle.disk_trait.specs.Moments.{IsTimed}
use Rattle.disk_trait.specs.Reads.{OnlyReads}
use Rattle.disk_trait.proofs.EffectLemmas.{affects_wider}
use Rattle.paced_tree.specs.Made.{IsReplied}
use Rattle.pacing.specs.Pace.{Pace}
use Rattle.scan_view.specs.Pins.{beside_pins}
use Rattle.seat_book.specs.State.{BookState, may_note_in, noted_in}
use Rattle.seat_book.proofs.KeepLemmas.{note_keeps}
use Rattle.seat_book.proofs.WordLemmas.{note_has_room}
use Rattle.tree_machine.specs.Machine.{Machine}
use Rattle.tree_machine.specs.Plays.{may}
use Rattle.tree_machine.specs.Stands.{WritesFit}
use Rattle.tree_machine.specs.Steps.{Replied}
use Rattle.tree_machine.specs.declared.step.Kind.TheVariants as kind
use Rattle.core_moves.specs.Moves.{with_book}
use Rattle.core_pace.proofs.EventLemmas.{entry_is_told}
use Rattle.tree_core.specs.Answers.{reply_to_write}
use Rattle.tree_core.specs.Calls.{Admits, BesideHolds, GoesOnAs, LooksFirst}
use Rattle.tree_core.specs.Causes.{AdmitsBecause, CallsAtMost, CallsNone, CountsFirst, HasBegun, Tries, calls_to_admit, pages_first}
use Rattle.tree_core.specs.Clock.{EndsAdmitted}
use Rattle.tree_core.specs.Core.{CoreState, IsCore}
use Rattle.tree_core.specs.Ruling.{Ruling}
use Rattle.tree_core.specs.Ruling as ruling
use Rattle.tree_core.specs.Standing.{AnyRows, StandsFor}
use Rattle.tree_core.specs.Steps.{IsStep, may_in}
use Rattle.tree_core.specs.declared.admission.Tried.TheVariants as tried
use Rattle.tree_core.proofs.BookSteps.{book_goes}
use Rattle.tree_core.proofs.FirstLemmas.{counts_first}
use Rattle.tree_core.proofs.KeepLemmas.{reads_affect}
use Rattle.tree_core.proofs.NotingLemmas.{notes_at_once}
use Rattle.tree_core.proofs.QuietLemmas.{reads_on}
use Rattle.tree_core.proofs.RefusalSteps.{FindsOver, fault_steps, kept_steps, met_behind, none_damaged, stopped_steps}

module _ {D : Type 0} (state : D → DiskState) (seat : ℕ) (op : Op) (old : CoreState D) (disk : D) (core : IsCore old.held (state old.disk))
    (timed : IsTimed (state disk)) (can : may_in old.held seat (kind.Admit op) ≡ true)
    (room : may_note_in seat 0 old.held.book ≡ true) (fits : WritesFit (kind.Admit op))
    (asks : (n : ℕ) → CountsFirst op old.held n → OnlyReads (file_length old.held.runs.sizes) n (state old.disk) (state disk)) where
  reads : OnlyReads (file_length old.held.runs.sizes) (pages_first op) (state old.disk) (state disk)
  reads = asks (pages_first op) (counts_first op old.held)

  effect : Affects (beside_pins old.held.runs.sizes old.held.runs.space.pins) (file_length old.held.runs.sizes)
      (pages_first op + calls_to_admit old.held) (state old.disk) (state disk)
  effect = affects_wider (λ i here. here) (omega arith) (omega arith) (reads_affect reads)

  abbrev noted : Reply → CoreState D
  noted reply = record { disk = disk; held = with_book (noted_in seat op reply old.held.book) old.held; holds = old.holds }

  abbrev Steps : Reply → Type 0
  Steps reply =
      (opening : List (Key × Value)) (m : Machine) → IsTrue (state old.disk).is_honest → StandsFor AnyRows opening old.held m (state old.disk) → may
      m seat (kind.Admit op) ≡ true
      → IsStep AnyRows opening seat (kind.Admit op) (Replied reply) (with_book (noted_in seat op reply old.held.book) old.held) (state old.disk)
      (state disk) m

  goes_on : (reply : Reply) → ((pace : Pace) → IsReplied reply seat op pace pace) → is_done reply ≡ false → HasRoom old.held.book.book.room
      (record { seat = seat; op = op; reply = reply }) → Steps reply
      → GoesOnAs state seat (kind.Admit op) (Replied reply) old (noted reply) × BesideHolds state seat (kind.Admit op) (Replied reply) old
      (noted reply)
  goes_on reply made undone has steps =
      book_goes state seat (kind.Admit op) (Replied reply) old disk (noted_in seat op reply old.held.book) 1 core timed reads
      (reads_on old.held reads) refl refl can (omega arith) (note_keeps seat op reply old.held.book) refl refl
      (λ pace told. entry_is_told old.held.book pace seat op reply (λ done. absurd (false≢true (sym undone ∙ done))) has told) made steps

  -- it says this where it leaves all but the entry
  refuses : (answer : Ruling) → ((pace : Pace) → IsReplied (reply_to_write answer) seat op pace pace) → is_done (reply_to_write answer) ≡ false →
      HasRoom old.held.book.book.room (record { seat = seat; op = op; reply = reply_to_write answer })
      → AdmitsBecause answer seat op old.held (with_book (noted_in seat op (reply_to_write answer) old.held.book) old.held) (state old.disk)
      (state disk)
      → HasBegun answer old.held (with_book (noted_in seat op (reply_to_write answer) old.held.book) old.held) →
      ((n : ℕ) → CountsFirst op old.held n → CallsAtMost state answer old.held n old.disk disk)
      → EndsAdmitted answer op old.held (state old.disk) (state disk) → (CallsNone op answer → disk ≡ old.disk) → Steps (reply_to_write answer) →
      Admits state seat op answer old (noted (reply_to_write answer))
  refuses answer made undone has because begun calls ends untouched steps =
      let goes = goes_on (reply_to_write answer) made undone has steps in
      record {
        goes = goes.0;
        beside = goes.1;
        cause = because;
        begun = begun;
        notes = notes_at_once seat op (reply_to_write answer) old.held.book (noted_in seat op (reply_to_write answer) old.held.book) refl;
        effect = effect;
        asks = calls;
        ends = ends;
        untouched = untouched;
      }

  -- with the book as it is told
  abbrev with_noted : BookState → CoreState D
  with_noted b = record { disk = disk; held = with_book b old.held; holds = old.holds }

  pub refused_stopped : (why : Why) (b : BookState) → disk ≡ old.disk → old.held.book.stopped ≡ Some why → b ≡ noted_in seat op (Stopped why)
      old.held.book → Admits state seat op (ruling.Stopped why) old (with_noted b)
  refused_stopped why b still stopped is = subst (λ (x : BookState). Admits state seat op (ruling.Stopped why) old (with_noted x)) (sym is)
      (refuses (ruling.Stopped why) (λ pace. refl) refl (note_has_room old.held.book seat 0 op (Stopped why) room (omega arith)) (stopped, refl) tt
      asks tt (λ none. still)
      (λ opening m honest s ok. stopped_steps opening seat op old.held m reads honest s ok fits why stopped))

  module _ (ran : old.held.book.stopped ≡ None) (first : looks_first op ≡ true) where
    pub refused_kept : (found : Option Value) (b : BookState) → Tries (tried.Kept found) op old.held (state old.disk) (state disk) → FindsOver
        (tried.Kept found) op old.held (state old.disk) → b ≡ noted_in seat op (Kept found) old.held.book
        → Admits state seat op (ruling.Kept found) old (with_noted b)
    refused_kept found b tries finds is = subst (λ (x : BookState). Admits state seat op (ruling.Kept found) old (with_noted x)) (sym is)
        (refuses (ruling.Kept found) (λ pace. refl) refl (note_has_room old.held.book seat 0 op (Kept found) room (omega arith))
        (ran, tries.0, tries.1, tries.2, refl) tt asks tt (λ none. absurd none)
        (λ opening m honest s ok. kept_steps opening seat op old.held m reads honest s ok fits ran (core.holds.live ran).paced.one found finds))

    pub refused_fault : (b : BookState) → Tries tried.Fault op old.held (state old.disk) (state disk) → b ≡ noted_in seat op Fault old.held.book →
        Admits state seat op ruling.ReadFault old (with_noted b)
    refused_fault b tries is = subst (λ (x : BookState). Admits state seat op ruling.ReadFault old (with_noted x)) (sym is)
        (refuses ruling.ReadFault (λ pace. refl) refl (note_has_room old.held.book seat 0 op Fault room (omega arith)) (ran, first, tries.0, refl) tt
        asks tt (λ none. absurd none)
        (λ opening m honest s ok. fault_steps opening seat op old.held m reads honest s ok fits ran
        (core.holds.live ran).paced.one first tries.0 tries.1))

    pub refused_damaged : (page : ℕ) (b : BookState) → Tries (tried.Damaged page) op old.held (state old.disk) (state disk) → FindsOver
        (tried.Damaged page) op old.held (state old.disk) → b ≡ noted_in seat op (Damaged page) old.held.book
        → Admits state seat op (ruling.Damaged page) old (with_noted b)
    refused_damaged page b tries finds is = subst (λ (x : BookState). Admits state seat op (ruling.Damaged page) old (with_noted x)) (sym is)
        (refuses (ruling.Damaged page) (λ pace. refl) refl (note_has_room old.held.book seat 0 op (Damaged page) room (omega arith))
        (ran, tries.0, tries.1, first, refl) tt asks tt (λ none. absurd none)
        (λ opening m honest s ok. absurd (none_damaged opening seat op old.held m reads honest s ok fits ran
        (core.holds.live ran).paced.one page finds)))

  -- or its condition holds
  pub passes : old.held.book.stopped ≡ None → Tries tried.Met op old.held (state old.disk) (state disk) → FindsOver tried.Met op old.held
      (state old.disk) → LooksFirst state seat op None old (record { disk = disk; held = old.held; holds = old.holds })
  passes ran tries finds = (
    refl,
    tries.0,
    tries.1,
    asks,
    λ opening m honest s. met_behind opening op old.held m reads honest s ran (core.holds.live ran).paced.one finds,
  )
