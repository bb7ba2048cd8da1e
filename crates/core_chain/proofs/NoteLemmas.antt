-- Which entries the calls note, in order, and that each is a caller's.
use Rattle.std.proofs.Common.{◌≡◌, ◌∙◌, ◌⊎◌, inl, inr, ℕ, ◌<◌, ◌≤◌, true, false, List, [], ◌∷◌, ◌++◌, append-nil, refl, ap, sym, subst, arith}
use Rattle.std.proofs.lemmas.Grind.{common_steps}
use Rattle.std.proofs.lemmas.Bool.Decides.{nat_tests}
use Rattle.std.specs.List.{AllByRecursion}
use Rattle.blsm_model.specs.Facts.{entries_of}
use Rattle.blsm_model.specs.Book.{Book}
use Rattle.blsm_model.specs.Format.{callers}
use Rattle.blsm_model.specs.Legal.{is_write}
use Rattle.blsm_model.specs.Scripts.{asked_in}
use Rattle.blsm_model.specs.declared.history.Entry.{Entry}
use Rattle.blsm_model.specs.declared.history.Reply.{Reply}
use Rattle.blsm_model.specs.declared.op.Op.{Op}
use Rattle.blsm_model.specs.declared.op.Op.TheVariants as op
use Rattle.disk_trait.specs.Disk.{DiskState}
use Rattle.seat_book.specs.State.{BookState}
use Rattle.tree_machine.specs.Plays.{is_help}
use Rattle.tree_machine.specs.declared.step.Kind.{Kind}
use Rattle.tree_machine.specs.declared.step.Kind.TheVariants as kind
use Rattle.tree_machine.specs.declared.step.Step.{Step}
use Rattle.core_moves.specs.declared.held.Held.{Held}
use Rattle.tree_core.specs.Answers.{reply_to_drop, reply_to_hold, reply_to_next, reply_to_write}
use Rattle.tree_core.specs.Calls.{AreCalls, IsCall, RepliesBecause}
use Rattle.tree_core.specs.Causes.{AdmitsBecause}
use Rattle.tree_core.specs.Core.{CoreState}
use Rattle.tree_core.specs.Notes.{with_payment}
use Rattle.tree_core.specs.Ruling.{Ruling}
use Rattle.tree_core.specs.declared.answers.Payment.{Payment}
use Rattle.core_chain.specs.Start.{steps_of}
use Rattle.core_chain.specs.Tells.{asked_at, asked_by}
use Rattle.core_chain.proofs.LinkLemmas.{caller_of, chain_keeps, writes_as}

-- a payment's quantum counts for an entry, and is none
pub payment_notes_none : (answer : Payment) (seat : ℕ) (book : Book) → (with_payment answer seat book).entries ≡ book.entries
payment_notes_none answer seat book = grind (arith, common_steps, nat_tests)

-- ---- what a link notes: one entry, or none

pub record Adds (seat : ℕ) (k : Kind) (old new : List Entry) : Type 0 where
  pub added : List Entry
  pub entries : new ≡ old ++ added
  pub asked : asked_in added ≡ asked_at seat k
  pub callers : AllByRecursion (λ e. e.seat < callers) added

-- its entry, with its command, and why it is answered so
pub record One {D : Type 0} (state : D → DiskState) (seat : ℕ) (k : Kind) (old new : CoreState D) : Type 0 where
  pub op : Op
  pub reply : Reply
  pub entries : new.held.book.book.entries ≡ old.held.book.book.entries ++ record { seat = seat; op = op; reply = reply } ∷ []
  pub asked : asked_at seat k ≡ (seat, op) ∷ []
  pub because : RepliesBecause state seat op reply old new

abbrev pub Notes : {D : Type 0} → (D → DiskState) → ℕ → Kind → CoreState D → CoreState D → Type 0
Notes state seat k old new = ((new.held.book.book.entries ≡ old.held.book.book.entries) × (asked_at seat k ≡ [])) ⊎ One state seat k old new

write_because : {D : Type 0} (state : D → DiskState) (seat : ℕ) (op : Op) (answer : Ruling) (old new : CoreState D) → is_write op ≡ true →
    AdmitsBecause answer seat op old.held new.held (state old.disk) (state new.disk)
    → RepliesBecause state seat op (reply_to_write answer) old new
write_because state seat op answer old new h1 h2 = grind (arith, common_steps, nat_tests)

pub link_notes : {D : Type 0} (state : D → DiskState) (seat : ℕ) (k : Kind) (old new : CoreState D) → IsCall state seat k old new → Notes state seat k old new
link_notes state seat (kind.Admit op) old new call =
    inr (record { op = op; reply = reply_to_write call.0; entries = ap (λ (b : Book). b.entries) call.1.notes.annals; asked = refl; because = write_because state seat op call.0 old new (writes_as state seat old op call.1.goes.may).0 call.1.cause })
link_notes state seat kind.Pay old new call = inl (ap (λ (b : Book). b.entries) call.1.counts.annals ∙ payment_notes_none call.0 seat old.held.book.book, refl)
link_notes state seat (kind.Look op) old new call = inr (record { op = op; reply = call.0; entries = ap (λ (h : Held). h.book.book.entries) call.1.held; asked = refl; because = call.1.cause })
link_notes state seat (kind.Hold low high) old new call =
    inr (record { op = op.Hold low high; reply = reply_to_hold call.0; entries = ap (λ (b : BookState). b.book.entries) call.1.book; asked = refl; because = (call.0, refl, call.1.cause) })
link_notes state seat (kind.Next n) old new call =
    inr (record { op = op.Next n; reply = reply_to_next call.0; entries = ap (λ (b : BookState). b.book.entries) call.1.book; asked = refl; because = (call.0, refl, call.1.cause) })
link_notes state seat kind.Release old new call =
    inr (record { op = op.Release; reply = reply_to_drop call.0; entries = ap (λ (b : BookState). b.book.entries) call.1.book; asked = refl; because = (call.0, refl, call.1.cause) })
link_notes state seat kind.WorkTurn old new call = inl (ap (λ (b : Book). b.entries) call.1.counts.annals, refl)
link_notes state seat (kind.WorkEnd n) old new call =
    let entries = ap (λ (h : Held). h.book.book.entries) call.1.held ∙ ap (λ (r : Reply). old.held.book.book.entries ++ record { seat = seat; op = op.Work n; reply = r } ∷ []) (sym call.1.reply_is) in
    inr (record { op = op.Work n; reply = call.0; entries = entries; asked = refl; because = call.1.reply_is })
link_notes state seat kind.WorkerTurn old new call = inl (ap (λ (b : Book). b.entries) call.1.notes.annals, refl)
link_notes state seat kind.Leave old new call = inl (ap (λ (h : Held). h.book.book.entries) call.held, refl)

asks_no_help : (seat : ℕ) (k : Kind) (op : Op) → asked_at seat k ≡ (seat, op) ∷ [] → is_help k ≡ false
asks_no_help seat k op asked = grind (arith, common_steps, nat_tests)

pub link_adds : {D : Type 0} (state : D → DiskState) (seat : ℕ) (k : Kind) (old new : CoreState D) → IsCall state seat k old new → Adds seat k old.held.book.book.entries new.held.book.book.entries
link_adds state seat k old new call = by (link_notes state seat k old new call)
  where
    by : Notes state seat k old new → Adds seat k old.held.book.book.entries new.held.book.book.entries
    by (inl none) = record { added = []; entries = none.0 ∙ sym (append-nil old.held.book.book.entries); asked = sym none.1; callers = tt }
    by (inr one) = record {
      added = record { seat = seat; op = one.op; reply = one.reply } ∷ [];
      entries = one.entries;
      asked = sym one.asked;
      callers = (caller_of state seat k old new call (asks_no_help seat k one.op one.asked), tt);
    }

-- ---- the chain

pub chain_asks : {D : Type 0} (state : D → DiskState) (calls : List (Step × CoreState D)) (old new : CoreState D) → AreCalls state calls old new
    → asked_in new.held.book.book.entries ≡ asked_in old.held.book.book.entries ++ asked_by (steps_of calls)
chain_asks {D} state [] old new are = ap (λ (core : CoreState D). asked_in core.held.book.book.entries) are ∙ sym (append-nil (asked_in old.held.book.book.entries))
chain_asks state (one ∷ calls) old new are = grind (arith, common_steps, nat_tests, chain_asks state calls one.1 new are.1)

abbrev pub AreCallers : List Entry → Type 0
AreCallers es = AllByRecursion (λ (e : Entry). e.seat < callers) es

both_callers : (h k : List Entry) → AreCallers h → AreCallers k → AreCallers (h ++ k)
both_callers [] k all more = more
both_callers (x ∷ h) k all more = (all.0, both_callers h k all.1 more)

pub entries_are_callers : {D : Type 0} (state : D → DiskState) (calls : List (Step × CoreState D)) (old new : CoreState D) → AreCalls state calls old new → AreCallers old.held.book.book.entries → AreCallers new.held.book.book.entries
entries_are_callers {D} state calls old new are all =
    chain_keeps state (λ core. AreCallers core.held.book.book.entries)
    (λ seat k one two call before. let adds = link_adds state seat k one two call in subst AreCallers (sym adds.entries) (both_callers one.held.book.book.entries adds.added before adds.callers)) calls old new are all

-- so none is a worker's
pub none_of_workers : (i : ℕ) (es : List Entry) → callers ≤ i → AreCallers es → entries_of i es ≡ []
none_of_workers i [] above all = refl
none_of_workers i (e ∷ es) above all = grind (arith, common_steps, nat_tests, none_of_workers i es above all.1)
