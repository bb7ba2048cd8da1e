-- What the calls make of the holds, and what their replies tell of them.
use Rattle.std.proofs.Common.{◌≡◌, ◌≢◌, ◌∙◌, ℕ, Bool, true, false, cond, List, [], ◌∷◌, ◌++◌, Some, None, refl, ap, sym, subst, eq-eqb, ne_eqb}
use Rattle.std.proofs.lemmas.Grind.{common_steps}
use Rattle.std.proofs.lemmas.Bool.Decides.{nat_tests}
use Rattle.std.proofs.Common.{arith}
use Rattle.std.specs.Prelude.{Option, is_some, map, replicate}
use Rattle.std.specs.List.{AllByRecursion}
use Rattle.std.specs.List.Sorted.{IsStrictlySortedBy}
use Rattle.std.proofs.lemmas.Bool.{cases_eq}
use Rattle.blsm_model.specs.Book.{Book}
use Rattle.blsm_model.specs.Format.{callers}
use Rattle.blsm_model.specs.Keys.{in_range, key_cmp}
use Rattle.blsm_model.specs.Legal.{is_write, is_look}
use Rattle.blsm_model.specs.declared.history.Entry.{Entry}
use Rattle.blsm_model.specs.declared.history.Reply.{Reply}
use Rattle.blsm_model.specs.declared.key.Key.{Key}
use Rattle.blsm_model.specs.declared.op.Op.{Op}
use Rattle.blsm_model.specs.declared.op.Op.TheVariants as op
use Rattle.blsm_model.specs.declared.row.Row.{Row}
use Rattle.disk_trait.specs.Disk.{DiskState}
use Rattle.scan_view.specs.Hold.{HoldState}
use Rattle.scan_view.specs.Holds.{AreGivenBy, hold_of}
use Rattle.scan_view.proofs.RowLemmas.{none_rise, rise_on, up_to_on}
use Rattle.seat_book.specs.State.{BookState}
use Rattle.core_moves.specs.declared.held.Held.{Held}
use Rattle.tree_machine.specs.declared.step.Kind.{Kind}
use Rattle.tree_machine.specs.declared.step.Kind.TheVariants as kind
use Rattle.tree_machine.specs.declared.step.Step.{Step}
use Rattle.tree_machine.proofs.PlayLemmas.{of_replicate}
use Rattle.tree_core.specs.Answers.{reply_to_drop, reply_to_hold, reply_to_next, reply_to_write}
use Rattle.tree_core.specs.Calls.{AreCalls, IsCall}
use Rattle.tree_core.specs.Causes.{DropsBecause, HoldsBecause, ScansBecause}
use Rattle.tree_core.specs.Core.{CoreState}
use Rattle.tree_core.specs.Holds.{KeepsHolds}
use Rattle.tree_core.specs.declared.answers.Holding.{Holding}
use Rattle.tree_core.specs.declared.answers.Holding.TheVariants as holding
use Rattle.tree_core.specs.declared.answers.Release.{Release}
use Rattle.tree_core.specs.Scanned.{Scanned}
use Rattle.tree_core.specs.Scanned as scanned
use Rattle.core_chain.specs.Holds.{AreMoreRowsOf, ChainTellsHolds, HoldsNone, IsTold, TellHoldsFrom, TellsHold, ToldHold, held_after, held_by, held_then, with_rows}
use Rattle.core_chain.proofs.LinkLemmas.{chain_keeps, writes_as, looks_as}
use Rattle.core_chain.proofs.NoteLemmas.{payment_notes_none}

-- ---- one entry more

after_more : (seat : ℕ) (had : Option ToldHold) (es : List Entry) (e : Entry) → held_after seat had (es ++ e ∷ []) ≡ held_then seat (held_after seat had es) e
after_more seat had [] e = refl
after_more seat had (x ∷ es) e = after_more seat (held_then seat had x) es e

tell_more : (had : ℕ → Option ToldHold) (es : List Entry) (e : Entry) → TellHoldsFrom had es → TellsHold (held_after e.seat (had e.seat) es) e.op e.reply → TellHoldsFrom had (es ++ e ∷ [])
tell_more had [] e all one = (one, tt)
tell_more had (x ∷ es) e all one = (all.0, tell_more (λ seat. held_then seat (had seat) x) es e all.1 one)

-- its own seat's, and another's
then_own : (e : Entry) (had : Option ToldHold) → held_then e.seat had e ≡ held_by e.op e.reply had
then_own e had = ap (λ (b : Bool). cond b (held_by e.op e.reply had) had) (eq-eqb e.seat e.seat refl)

then_other : (e : Entry) (seat : ℕ) (had : Option ToldHold) → seat ≢ e.seat → held_then seat had e ≡ had
then_other e seat had apart = ap (λ (b : Bool). cond b (held_by e.op e.reply had) had) (ne_eqb e.seat seat (λ (same : e.seat ≡ seat). apart (sym same)))

-- in a core that was just opened nobody holds rows
pub holds_none : {D : Type 0} (core : CoreState D) → core.holds ≡ replicate callers None → HoldsNone core
holds_none core none seat = ap (λ (hs : List (Option HoldState)). is_some (hold_of seat hs)) none ∙ ap (λ (h : Option HoldState). is_some h) (of_replicate callers seat None)

-- ---- a write, a command that only looks and a work have nothing to do with holds

pub record IsQuiet (op : Op) (reply : Reply) : Type 0 where
  pub same : (had : Option ToldHold) → held_by op reply had ≡ had
  pub tells : (had : Option ToldHold) → TellsHold had op reply

quiet_write : (op : Op) (reply : Reply) → is_write op ≡ true → IsQuiet op reply
quiet_write op reply h1 = grind (arith, common_steps, nat_tests)

quiet_look : (op : Op) (reply : Reply) → is_look op ≡ true → IsQuiet op reply
quiet_look op reply h1 = grind (arith, common_steps, nat_tests)

-- ---- one hold

told_some : (hold : Option HoldState) (told : Option ToldHold) → IsTold hold told → is_some told ≡ is_some hold
told_some hold told h1 = grind (arith, common_steps, nat_tests)

told_none : (hold : Option HoldState) → is_some hold ≡ false → IsTold hold None
told_none hold h1 = grind (arith, common_steps, nat_tests)

is_none : (o : Option HoldState) → o ≡ None → is_some o ≡ false
is_none o is = ap (λ (h : Option HoldState). is_some h) is

-- rows that are given go on from those that were given before
scan_told : (n : ℕ) (old new : Option HoldState) (told : Option ToldHold) (rows : List Row) → AreGivenBy n old new rows → IsTold old told → IsTold new (with_rows rows told) × AreMoreRowsOf n told rows
scan_told n (Some old) (Some new) (Some told) rows given is = (
  record {
    low = ap (λ (h : HoldState). h.low) given.1 ∙ is.low;
    high = ap (λ (h : HoldState). h.high) given.1 ∙ is.high;
    rise = rises;
    up_to_place = up_to_on old.place new.place told.given rows given.0.onward is.up_to_place given.0.up_to_new;
  },
  record {
    few = given.0.few;
    inside = subst (λ (k : Key). AllByRecursion (λ r. in_range k told.high r.key ≡ true) rows) is.low
        (subst (λ (k : Key). AllByRecursion (λ r. in_range old.low k r.key ≡ true) rows) is.high given.0.inside);
    rise = rises;
  },
)
  where
    rises : IsStrictlySortedBy key_cmp (map (λ r. r.key) (told.given ++ rows))
    rises = rise_on old.place told.given rows is.rise is.up_to_place given.0.rise given.0.above_old
scan_told n (Some old) (Some new) None rows given is = absurd is
scan_told n (Some old) None told rows given is = absurd given
scan_told n None new told rows given is = absurd given

-- ---- one call

module _ {D : Type 0} where
  -- what a call noted, and made of the holds
  record Notes (seat : ℕ) (op : Op) (reply : Reply) (old new : CoreState D) : Type 0 where
    entries : new.held.book.book.entries ≡ old.held.book.book.entries ++ record { seat = seat; op = op; reply = reply } ∷ []
    others : (other : ℕ) → other ≢ seat → hold_of other new.holds ≡ hold_of other old.holds
    own : (told : Option ToldHold) → IsTold (hold_of seat old.holds) told → IsTold (hold_of seat new.holds) (held_by op reply told) × TellsHold told op reply

  noted : (seat : ℕ) (op : Op) (reply : Reply) (old new : CoreState D) → Notes seat op reply old new → ChainTellsHolds old → ChainTellsHolds new
  noted seat op reply old new notes so_far = grind (arith, common_steps, nat_tests, tell_more, after_more, cases_eq, then_own, then_other)

  -- nothing was noted, and each hold stays
  still : (old new : CoreState D) → new.held.book.book.entries ≡ old.held.book.book.entries → KeepsHolds old new → ChainTellsHolds old → ChainTellsHolds new
  still old new same keeps so_far = grind (arith, common_steps, nat_tests)

  -- the seat's own hold stays
  stays : (seat : ℕ) (told : Option ToldHold) (old new : CoreState D) → new.holds ≡ old.holds → IsTold (hold_of seat old.holds) told → IsTold (hold_of seat new.holds) told
  stays seat told old new same is = subst (λ (hs : List (Option HoldState)). IsTold (hold_of seat hs) told) (sym same) is

  -- an entry that has nothing to do with holds
  beside : (seat : ℕ) (op : Op) (reply : Reply) (old new : CoreState D) → IsQuiet op reply → new.held.book.book.entries ≡ old.held.book.book.entries ++ record { seat = seat; op = op; reply = reply } ∷ [] → KeepsHolds old new
      → Notes seat op reply old new
  beside seat op reply old new quiet entries keeps = grind (arith, common_steps, nat_tests)

  own_of_hold : (answer : Holding) (seat : ℕ) (low high : Key) (old new : CoreState D) → HoldsBecause answer seat low high old new → (told : Option ToldHold) → IsTold (hold_of seat old.holds) told
      → IsTold (hold_of seat new.holds) (held_by (op.Hold low high) (reply_to_hold answer) told) × TellsHold told (op.Hold low high) (reply_to_hold answer)
  own_of_hold holding.Held seat low high old new because told is = (
    subst (λ (h : Option HoldState). IsTold h (Some (record { low = low; high = high; given = [] }))) (sym (because.1.1 ∙ ap Some because.1.2.hold_is))
        (record { low = refl; high = refl; rise = none_rise; up_to_place = tt }),
    tt,
  )
  own_of_hold holding.NoMemory seat low high old new because told is = (stays seat told old new because.1 is, tt)
  own_of_hold (holding.Stopped why) seat low high old new because told is = (stays seat told old new because.1 is, tt)

  own_of_scan : (answer : Scanned) (seat n : ℕ) (old new : CoreState D) (before after : DiskState) → ScansBecause answer seat n old new before after → (told : Option ToldHold) → IsTold (hold_of seat old.holds) told
      → IsTold (hold_of seat new.holds) (held_by (op.Next n) (reply_to_next answer) told) × TellsHold told (op.Next n) (reply_to_next answer)
  own_of_scan (scanned.Rows rows) seat n old new before after because told is = scan_told n (hold_of seat old.holds) (hold_of seat new.holds) told rows because.2 is
  own_of_scan scanned.NoHold seat n old new before after because told is =
      (stays seat told old new because.2 is, told_some (hold_of seat old.holds) told is ∙ is_none (hold_of seat old.holds) because.1)
  own_of_scan scanned.Fault seat n old new before after because told is = (stays seat told old new because.2 is, told_some (hold_of seat old.holds) told is ∙ because.1)
  own_of_scan (scanned.Damaged page) seat n old new before after because told is = (stays seat told old new because.1 is, told_some (hold_of seat old.holds) told is ∙ because.4)
  own_of_scan (scanned.Stopped why) seat n old new before after because told is = (stays seat told old new because.1 is, tt)

  own_of_drop : (answer : Release) (seat : ℕ) (old new : CoreState D) → DropsBecause answer seat old new → (told : Option ToldHold) → IsTold (hold_of seat old.holds) told
      → IsTold (hold_of seat new.holds) (held_by op.Release (reply_to_drop answer) told) × TellsHold told op.Release (reply_to_drop answer)
  own_of_drop answer seat old new h1 told h2 = grind (arith, common_steps, nat_tests)

module _ {D : Type 0} (state : D → DiskState) where
  link_tells_holds : (seat : ℕ) (k : Kind) (old new : CoreState D) → IsCall state seat k old new → ChainTellsHolds old → ChainTellsHolds new
  link_tells_holds seat (kind.Admit op) old new call =
      noted seat op (reply_to_write call.0) old new
      (beside seat op (reply_to_write call.0) old new (quiet_write op (reply_to_write call.0) (writes_as state seat old op call.1.goes.may).0) (ap (λ (b : Book). b.entries) call.1.notes.annals) call.1.beside.holds)
  link_tells_holds seat kind.Pay old new call = still old new (ap (λ (b : Book). b.entries) call.1.counts.annals ∙ payment_notes_none call.0 seat old.held.book.book) call.1.beside.holds
  link_tells_holds seat (kind.Look op) old new call =
      noted seat op call.0 old new
      (beside seat op call.0 old new (quiet_look op call.0 (looks_as seat op old.held.book call.1.goes.may).0) (ap (λ (h : Held). h.book.book.entries) call.1.held) call.1.beside.holds)
  link_tells_holds seat (kind.Hold low high) old new call =
      noted seat (op.Hold low high) (reply_to_hold call.0) old new (record { entries = ap (λ (b : BookState). b.book.entries) call.1.book; others = call.1.others.holds; own = own_of_hold call.0 seat low high old new call.1.cause })
  link_tells_holds seat (kind.Next n) old new call =
      noted seat (op.Next n) (reply_to_next call.0) old new (record { entries = ap (λ (b : BookState). b.book.entries) call.1.book; others = call.1.others.holds; own = own_of_scan call.0 seat n old new (state old.disk) (state new.disk) call.1.cause })
  link_tells_holds seat kind.Release old new call =
      noted seat op.Release (reply_to_drop call.0) old new (record { entries = ap (λ (b : BookState). b.book.entries) call.1.book; others = call.1.others.holds; own = own_of_drop call.0 seat old new call.1.cause })
  link_tells_holds seat kind.WorkTurn old new call = still old new (ap (λ (b : Book). b.entries) call.1.counts.annals) call.1.beside.holds
  link_tells_holds seat (kind.WorkEnd n) old new call =
      noted seat (op.Work n) call.0 old new
      (beside seat (op.Work n) call.0 old new (record { same = λ had. refl; tells = λ had. tt })
      (ap (λ (h : Held). h.book.book.entries) call.1.held ∙ ap (λ (r : Reply). old.held.book.book.entries ++ record { seat = seat; op = op.Work n; reply = r } ∷ []) (sym call.1.reply_is)) call.1.beside.holds)
  link_tells_holds seat kind.WorkerTurn old new call = still old new (ap (λ (b : Book). b.entries) call.1.notes.annals) call.1.beside.holds
  link_tells_holds seat kind.Leave old new call = still old new (ap (λ (h : Held). h.book.book.entries) call.held) call.beside.holds

  pub chain_tells_holds : (calls : List (Step × CoreState D)) (start end : CoreState D) → start.held.book.book.entries ≡ [] → HoldsNone start → AreCalls state calls start end → ChainTellsHolds end
  chain_tells_holds calls start end none holds are =
      chain_keeps state (λ core. ChainTellsHolds core) link_tells_holds calls start end are
      (record {
        replies = subst (λ (es : List Entry). TellHoldsFrom (λ s. None) es) (sym none) tt;
        held = λ any. subst (λ (es : List Entry). IsTold (hold_of any start.holds) (held_after any None es)) (sym none) (told_none (hold_of any start.holds) (holds any));
      })
