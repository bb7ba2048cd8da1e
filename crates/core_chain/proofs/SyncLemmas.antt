-- How a step ends that noted a write with `ok`: with a sync of its own.
use Rattle.std.proofs.Common.{◌≡◌, ◌∙◌, inl, inr, ℕ, true, false, List, [], ◌∷◌, ◌++◌, None, length, length-append, refl, ap, sym, subst, arith}
use Rattle.std.proofs.lemmas.Grind.{common_steps}
use Rattle.std.proofs.lemmas.Bool.Decides.{nat_tests}
use Rattle.std.proofs.lemmas.Bool.{false≢true}
use Rattle.std.specs.Prelude.{◌+◌, ◌≤◌, IsTrue}
use Rattle.blsm_model.specs.Book.{Book}
use Rattle.blsm_model.specs.Legal.{is_look, is_write}
use Rattle.blsm_model.specs.declared.history.Entry.{Entry}
use Rattle.blsm_model.specs.declared.history.Reply.TheVariants as reply
use Rattle.blsm_model.specs.declared.key.Key.{Key}
use Rattle.blsm_model.specs.declared.op.Op.{Op}
use Rattle.blsm_model.specs.declared.op.Op.TheVariants as op
use Rattle.blsm_model.specs.declared.row.Value.{Value}
use Rattle.disk_trait.specs.Disk.{DiskState, GoesOn}
use Rattle.disk_trait.specs.Moments.{SyncsLater}
use Rattle.tree_machine.specs.Machine.{Machine}
use Rattle.tree_machine.specs.Steps.{swaps_due}
use Rattle.tree_machine.specs.declared.step.Kind.{Kind}
use Rattle.tree_machine.specs.declared.step.Kind.TheVariants as kind
use Rattle.tree_core.specs.Answers.{reply_to_write}
use Rattle.tree_core.specs.Calls.{Admits, IsCall}
use Rattle.tree_core.specs.Causes.{pages_first, swaps_due_in}
use Rattle.tree_core.specs.Clock.{EndsAppended}
use Rattle.tree_core.specs.Core.{CoreState, IsCore}
use Rattle.tree_core.specs.Holds.{StandsWhole}
use Rattle.tree_core.specs.Ruling.{Ruling}
use Rattle.tree_core.specs.Ruling as ruling
use Rattle.tree_core.proofs.BegunLemmas.{due_agree}
use Rattle.core_chain.specs.Steps.{HasOwnSync}
use Rattle.core_chain.specs.Tells.{asked_at}
use Rattle.core_chain.proofs.LinkLemmas.{looks_as}
use Rattle.core_chain.proofs.NoteLemmas.{Notes, link_notes}

-- ---- which entry it is

same_last : (es : List Entry) (one other : Entry) → es ++ one ∷ [] ≡ es ++ other ∷ [] → one ≡ other
same_last [] one other same = cc same
same_last (e ∷ es) one other same = same_last es one other (cc same)

no_look_writes : (op : Op) → is_look op ≡ true → is_write op ≡ true → ⊥
no_look_writes op h1 h2 = grind (arith, common_steps, nat_tests)

-- the command that is asked for first
abbrev op_first : Op → List (ℕ × Op) → Op
op_first otherwise [] = otherwise
op_first otherwise (one ∷ more) = one.1

-- a step that isn't an admission notes no write
asks_no_write : (seat : ℕ) (k : Kind) (asked : Op) → ((o : Op) → k ≡ kind.Admit o → ⊥) → ((o : Op) → k ≡ kind.Look o → is_look o ≡ true) → asked_at seat k ≡ (seat, asked) ∷ [] → is_write asked ≡ true → ⊥
asks_no_write seat (kind.Admit o) asked none looks same write = none o refl
asks_no_write seat kind.Pay asked none looks same write = cc same
asks_no_write seat (kind.Look o) asked none looks same write = let is : o ≡ asked = ap (op_first asked) same in no_look_writes asked (ap is_look (sym is) ∙ looks o refl) write
asks_no_write seat (kind.Hold low high) asked none looks same write = let is : op.Hold low high ≡ asked = ap (op_first asked) same in false≢true (ap is_write is ∙ write)
asks_no_write seat (kind.Next n) asked none looks same write = let is : op.Next n ≡ asked = ap (op_first asked) same in false≢true (ap is_write is ∙ write)
asks_no_write seat kind.Release asked none looks same write = let is : op.Release ≡ asked = ap (op_first asked) same in false≢true (ap is_write is ∙ write)
asks_no_write seat kind.WorkTurn asked none looks same write = cc same
asks_no_write seat (kind.WorkEnd n) asked none looks same write = let is : op.Work n ≡ asked = ap (op_first asked) same in false≢true (ap is_write is ∙ write)
asks_no_write seat kind.WorkerTurn asked none looks same write = cc same
asks_no_write seat kind.Leave asked none looks same write = cc same

module _ {D : Type 0} (state : D → DiskState) (seat : ℕ) (old new : CoreState D) (e : Entry) (is : new.held.book.book.entries ≡ old.held.book.book.entries ++ e ∷ []) (write : is_write e.op ≡ true) where
  others_note_none : (k : Kind) → ((o : Op) → k ≡ kind.Admit o → ⊥) → ((o : Op) → k ≡ kind.Look o → is_look o ≡ true) → Notes state seat k old new → ⊥
  others_note_none k other looks (inl none) =
      let longer = ap (λ (es : List Entry). length es) (sym none.0 ∙ is) in
      omega (arith, longer, length-append old.held.book.book.entries (e ∷ []))
  others_note_none k other looks (inr one) =
      let entry = same_last old.held.book.book.entries (record { seat = seat; op = one.op; reply = one.reply }) e (sym one.entries ∙ is) in
      asks_no_write seat k one.op other looks one.asked (ap (λ (x : Entry). is_write x.op) entry ∙ write)

  -- an admission that was done ran, and ended with its append
  done_ends : (op : Op) (answer : Ruling) → Admits state seat op answer old new → reply_to_write answer ≡ reply.Done
      → (old.held.book.stopped ≡ None) × EndsAppended (pages_first op) (swaps_due_in old.held) (state old.disk) (state new.disk)
  done_ends op ruling.Admitted call ok = (call.cause.0.ran, call.ends)
  done_ends op (ruling.Kept found) call ok = absurd (cc ok)
  done_ends op (ruling.Full charge) call ok = absurd (cc ok)
  done_ends op ruling.ReadFault call ok = absurd (cc ok)
  done_ends op (ruling.Damaged page) call ok = absurd (cc ok)
  done_ends op (ruling.Fault true) call ok = absurd (cc ok)
  done_ends op (ruling.Fault false) call ok = absurd (cc ok)
  done_ends op (ruling.Stopped why) call ok = absurd (cc ok)

  link_ends : (k : Kind) → IsCall state seat k old new → e.reply ≡ reply.Done → (old.held.book.stopped ≡ None) × EndsAppended (pages_first e.op)
      (swaps_due_in old.held) (state old.disk) (state new.disk)
  link_ends (kind.Admit op) call ok =
      let entry = same_last old.held.book.book.entries (record { seat = seat; op = op; reply = reply_to_write call.0 }) e (sym (ap (λ (b : Book). b.entries) call.1.notes.annals) ∙ is) in
      let ends = done_ends op call.0 call.1 (ap (λ (x : Entry). x.reply) entry ∙ ok) in
      (ends.0, subst (λ (x : Entry). EndsAppended (pages_first x.op) (swaps_due_in old.held) (state old.disk) (state new.disk)) entry ends.1)
  link_ends (kind.Look op) call ok =
      absurd (others_note_none (kind.Look op) (λ o same. cc same)
      (λ o same. let it : op ≡ o = cc same in ap is_look (sym it) ∙ (looks_as seat op old.held.book call.1.goes.may).0) (link_notes state seat (kind.Look op) old new call))
  link_ends kind.Pay call ok = absurd (others_note_none kind.Pay (λ o same. cc same) (λ o same. absurd (cc same)) (link_notes state seat kind.Pay old new call))
  link_ends (kind.Hold low high) call ok = absurd (others_note_none (kind.Hold low high) (λ o same. cc same) (λ o same. absurd (cc same)) (link_notes state seat (kind.Hold low high) old new call))
  link_ends (kind.Next n) call ok = absurd (others_note_none (kind.Next n) (λ o same. cc same) (λ o same. absurd (cc same)) (link_notes state seat (kind.Next n) old new call))
  link_ends kind.Release call ok = absurd (others_note_none kind.Release (λ o same. cc same) (λ o same. absurd (cc same)) (link_notes state seat kind.Release old new call))
  link_ends kind.WorkTurn call ok = absurd (others_note_none kind.WorkTurn (λ o same. cc same) (λ o same. absurd (cc same)) (link_notes state seat kind.WorkTurn old new call))
  link_ends (kind.WorkEnd n) call ok = absurd (others_note_none (kind.WorkEnd n) (λ o same. cc same) (λ o same. absurd (cc same)) (link_notes state seat (kind.WorkEnd n) old new call))
  link_ends kind.WorkerTurn call ok = absurd (others_note_none kind.WorkerTurn (λ o same. cc same) (λ o same. absurd (cc same)) (link_notes state seat kind.WorkerTurn old new call))
  link_ends kind.Leave call ok = absurd (others_note_none kind.Leave (λ o same. cc same) (λ o same. absurd (cc same)) (link_notes state seat kind.Leave old new call))

-- ---- its clock

-- the sync is marked still, whatever came behind
own_sync : {before after last : DiskState} (looks due by_core : ℕ) → due ≡ by_core → EndsAppended looks by_core before after → GoesOn before last →
    SyncsLater after last → HasOwnSync looks due before.clock after.clock last
own_sync {before} {after} {last} looks due by_core same ends goes syncs = record {
  later = λ tells. omega (arith, ends.no_sooner, ends.later (told tells));
  synced = λ tells. syncs.none_lost after.clock (ends.synced (told tells));
  exact = λ none few.
      let at : ends.begun ≤ before.clock + looks = omega (arith, ends.no_later, same, none) in
      let four = ends.exact (omega (arith, at, few)) in
      (omega (arith, four, ends.no_sooner), omega (arith, four, at));
}
  where
    told : IsTrue last.tells_images → IsTrue before.tells_images
    told tells = subst IsTrue goes.tells_images tells

pub link_acknowledges : {D : Type 0} (state : D → DiskState) (opening : List (Key × Value)) (seat : ℕ) (k : Kind) (old new : CoreState D) (m : Machine) (last : DiskState) → IsCall state seat k old new → IsCore old.held (state old.disk)
    → StandsWhole state opening old m → GoesOn (state old.disk) last → SyncsLater (state new.disk) last
    → (e : Entry) → new.held.book.book.entries ≡ old.held.book.book.entries ++ e ∷ [] → is_write e.op ≡ true → e.reply ≡ reply.Done → HasOwnSync
    (pages_first e.op) (swaps_due m) (state old.disk).clock (state new.disk).clock last
link_acknowledges state opening seat k old new m last call keeps whole goes syncs e is write ok =
    let ends = link_ends state seat old new e is write k call ok in
    own_sync (pages_first e.op) (swaps_due m) (swaps_due_in old.held) (due_agree opening old.held m (state old.disk) whole keeps ends.0) ends.1 goes
    syncs
