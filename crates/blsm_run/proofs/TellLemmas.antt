-- What was told before the answer, and what is written of it, is the whole text or a front of it.
use Rattle.std.proofs.Common.{◌≡◌, ◌∙◌, ℕ, ◌≤◌, List, [], ◌++◌, Option, Some, None, Result, Ok, Err, length, take, refl, sym, ap, subst, append_assoc, inl, inr, arith, length-append}
use Rattle.std.proofs.lemmas.List.{take-append-le}
use Rattle.refusal.specs.declared.Failed.{Failed}
use Rattle.blsm_model.specs.Printed.{end_text}
use Rattle.blsm_model.specs.declared.history.Entry.{Entry}
use Rattle.blsm_model.specs.declared.history.Totals.{Totals}
use Rattle.store_run.specs.Run.{Run}
use Rattle.store_serve.specs.Told.{AddsPast, IsCutShort, at_first, at_last, closing_text, front_text, open_text, served_text, told_text}
use Rattle.store_serve.specs.declared.closing.Closing.{Closing}
use Rattle.store_serve.specs.declared.closing.Closing.TheVariants as closing
use Rattle.text_io.specs.Text.{Adds, AddsFront, SinkState, Writes}
use Rattle.text_io.proofs.WritingLemmas.{writes_then}
use Rattle.blsm_run.specs.declared.status.Status.TheVariants.{SinkFault}
use Rattle.blsm_run.specs.Outcome.{
  Outcome,
  refused,
  made,
  ran,
  served,
  checked,
  settled,
  tried,
  AddsWithMore,
  HasTold,
  Tells,
  TellsLines,
  WritesAnswer,
  WritesRest,
  status_of,
  text_of,
}
use Rattle.blsm_run.specs.Outside.{HasRisenOnce}

-- ---- texts

-- the lines, and what stands behind them
in_two : (ships charge : ℕ) (entries : List Entry) (quanta : List ℕ) (totals : Totals) (c : Closing)
    → served_text ships charge entries quanta totals c ≡ front_text ships charge entries quanta ++ (end_text totals ++ closing_text c)
in_two ships charge entries quanta totals c = append_assoc (front_text ships charge entries quanta) (end_text totals) (closing_text c)

-- the first line, and what stands behind it
behind_first : (ships charge : ℕ) (entries : List Entry) (quanta : List ℕ) (totals : Totals) (c : Closing)
    → served_text ships charge entries quanta totals c ≡ open_text charge ++ (told_text ships 1 entries quanta ++ end_text totals ++ closing_text c)
behind_first ships charge entries quanta totals c =
    ap (λ (l : List ℕ). l ++ closing_text c) (append_assoc (open_text charge) (told_text ships 1 entries quanta) (end_text totals))
    ∙ append_assoc (open_text charge) (told_text ships 1 entries quanta ++ end_text totals) (closing_text c)

with_more : (a : List ℕ) (old mid new : Option (List ℕ)) → Adds a old mid → (b : List ℕ) → Adds b mid new → AddsWithMore a old new
with_more a None mid new first b second = tt
with_more a (Some held) mid new first b second =
    (b, subst (λ (o : Option (List ℕ)). Adds b o new) first second)

with_front : (a : List ℕ) (old mid new : Option (List ℕ)) → Adds a old mid → (b : List ℕ) → AddsFront b mid new → AddsWithMore a old new
with_front a None mid new first b second = tt
with_front a (Some held) mid new first b second =
    let (n, within, is) = subst (λ (o : Option (List ℕ)). AddsFront b o new) first second in
    (take n b, is)

-- what was told is a front of a longer text
front_of_longer : (least a b : List ℕ) (old new : Option (List ℕ)) → AddsPast least a old new → AddsFront (a ++ b) old new
front_of_longer least a b None new past = tt
front_of_longer least a b (Some held) new (n, least_in, within, is) =
    let few : n ≤ length a = omega arith in
    (n, omega (arith, within, length-append a b), is ∙ ap (λ (l : List ℕ). Some (held ++ l)) (sym (take-append-le n a b few)))

cut_short : (ships charge : ℕ) (entries : List Entry) (quanta : List ℕ) (totals : Totals) (old new : SinkState)
    → IsCutShort ships charge entries quanta old new → AddsFront (served_text ships charge entries quanta totals closing.SinkFault) old.held new.held
cut_short ships charge entries quanta totals old new (at_first none past) =
    subst (λ (l : List ℕ). AddsFront l old.held new.held) (sym (behind_first ships charge entries quanta totals closing.SinkFault))
    (front_of_longer [] (open_text charge) (told_text ships 1 entries quanta ++ end_text totals ++ closing_text closing.SinkFault) old.held new.held
    past)
cut_short ships charge entries quanta totals old new (at_last before counts last count is_entries is_quanta long past) =
    subst (λ (l : List ℕ). AddsFront l old.held new.held) (sym (in_two ships charge entries quanta totals closing.SinkFault))
    (front_of_longer (front_text ships charge before counts) (front_text ships charge entries quanta)
    (end_text totals ++ closing_text closing.SinkFault) old.held new.held past)

-- ---- an answer whose whole text is still to be written

plain_ok : (text : List ℕ) (before old new : SinkState) → old ≡ before → Writes {T = Unit {0}} {E = Failed} text (Ok tt) old new → Adds text before.held new.held × (new.faults ≡ before.faults)
plain_ok text before old new same writes = subst (λ (k : SinkState). Adds text k.held new.held × (new.faults ≡ k.faults)) same (writes.ok, writes.calm)

plain_err : (text : List ℕ) (failed : Failed) (before old new : SinkState) → old ≡ before → Writes {T = Unit {0}} {E = Failed} text (Err failed) old new → HasRisenOnce before.faults new.faults × AddsFront text before.held new.held
plain_err text failed before old new same writes =
    subst (λ (k : SinkState). HasRisenOnce k.faults new.faults × AddsFront text k.held new.held) same ((writes.cause.failed refl, writes.cause.one_fault), writes.err)

-- ---- a session, whose lines were told

-- what stands behind the lines was written
lines_ok : (ships : ℕ) (run : Run) (c : Closing) (before old new : SinkState)
    → Writes {T = Unit {0}} {E = Failed} (front_text ships run.charge run.entries run.quanta) (Ok tt) before old
    → Writes {T = Unit {0}} {E = Failed} (end_text run.totals ++ closing_text c) (Ok tt) old new
    → Adds (served_text ships run.charge run.entries run.quanta run.totals c) before.held new.held × (new.faults ≡ before.faults)
    × AddsWithMore (front_text ships run.charge run.entries run.quanta) before.held new.held
lines_ok ships run c before old new first second =
    let both = subst (λ (l : List ℕ). Writes {T = Unit {0}} {E = Failed} l (Ok tt) before new)
    (sym (in_two ships run.charge run.entries run.quanta run.totals c)) (writes_then _ _ first second) in (
      both.ok,
      both.calm,
      with_more (front_text ships run.charge run.entries run.quanta) before.held old.held new.held first.ok
          (end_text run.totals ++ closing_text c) second.ok,
    )

-- or a front of it
lines_err : (ships : ℕ) (run : Run) (c : Closing) (failed : Failed) (before old new : SinkState)
    → Writes {T = Unit {0}} {E = Failed} (front_text ships run.charge run.entries run.quanta) (Ok tt) before old
    → Writes {T = Unit {0}} {E = Failed} (end_text run.totals ++ closing_text c) (Err failed) old new
    → HasRisenOnce before.faults new.faults × AddsFront (served_text ships run.charge run.entries run.quanta run.totals c) before.held new.held
    × AddsWithMore (front_text ships run.charge run.entries run.quanta) before.held new.held
lines_err ships run c failed before old new first second =
    let both = subst (λ (l : List ℕ). Writes {T = Unit {0}} {E = Failed} l (Err failed) before new)
    (sym (in_two ships run.charge run.entries run.quanta run.totals c)) (writes_then _ _ first second) in (
      (both.cause.failed refl, both.cause.one_fault),
      both.err,
      with_front (front_text ships run.charge run.entries run.quanta) before.held old.held
          new.held first.ok (end_text run.totals ++ closing_text c) second.err,
    )

-- ---- all answers

abbrev pub HasAnswered : Outcome → SinkState → SinkState → Type 0
HasAnswered outcome before new = Tells before new outcome (status_of outcome) × TellsLines outcome before new

-- the sink took what was still to be written
pub told_ok : (outcome : Outcome) (before old new : SinkState) → HasTold outcome before old → WritesAnswer outcome (Ok tt) old new → HasAnswered outcome before new
told_ok (refused why) before old new same writes = let did = plain_ok (text_of (refused why)) before old new same writes in (inl (refl, did.0, did.1), tt)
told_ok (made n) before old new same writes = let did = plain_ok (text_of (made n)) before old new same writes in (inl (refl, did.0, did.1), tt)
told_ok (ran options run end) before old new same writes =
    let did = plain_ok (text_of (ran options run end)) before old new same writes in
    (inl (refl, did.0, did.1), tt)
told_ok (served ships run end closing.Ended) before old new told writes =
    let did = lines_ok ships run closing.Ended before old new told writes in (inl (refl, did.0, did.1), did.2)
told_ok (served ships run end (closing.BadLine n)) before old new told writes =
    let did = lines_ok ships run (closing.BadLine n) before old new told writes in (inl (refl, did.0, did.1), did.2)
told_ok (served ships run end (closing.NoRoom n)) before old new told writes =
    let did = lines_ok ships run (closing.NoRoom n) before old new told writes in (inl (refl, did.0, did.1), did.2)
told_ok (served ships run end closing.SourceFault) before old new told writes =
    let did = lines_ok ships run closing.SourceFault before old new told writes in (inl (refl, did.0, did.1), did.2)
told_ok (served ships run end closing.SinkFault) before old new told writes = absurd cc
told_ok (checked report) before old new same writes = let did = plain_ok (text_of (checked report)) before old new same writes in (inl (refl, did.0, did.1), tt)
told_ok (settled counts) before old new same writes = let did = plain_ok (text_of (settled counts)) before old new same writes in
    (inl (refl, did.0, did.1), tt)
told_ok (tried seed count run) before old new same writes = let did = plain_ok (text_of (tried seed count run)) before old new same writes in (inl (refl, did.0, did.1), tt)

-- or it failed, there or before
pub told_err : (outcome : Outcome) (failed : Failed) (before old new : SinkState) → HasTold outcome before old → WritesAnswer outcome (Err failed) old new → Tells before new outcome SinkFault × TellsLines outcome before new
told_err (refused why) failed before old new same writes = let did = plain_err (text_of (refused why)) failed before old new same writes in (inr (refl, did.0, did.1), tt)
told_err (made n) failed before old new same writes = let did = plain_err (text_of (made n)) failed before old new same writes in (inr (refl, did.0, did.1), tt)
told_err (ran options run end) failed before old new same writes =
    let did = plain_err (text_of (ran options run end)) failed before old new same writes in
    (inr (refl, did.0, did.1), tt)
told_err (served ships run end closing.Ended) failed before old new told writes =
    let did = lines_err ships run closing.Ended failed before old new told writes in (inr (refl, did.0, did.1), did.2)
told_err (served ships run end (closing.BadLine n)) failed before old new told writes =
    let did = lines_err ships run (closing.BadLine n) failed before old new told writes in (inr (refl, did.0, did.1), did.2)
told_err (served ships run end (closing.NoRoom n)) failed before old new told writes =
    let did = lines_err ships run (closing.NoRoom n) failed before old new told writes in (inr (refl, did.0, did.1), did.2)
told_err (served ships run end closing.SourceFault) failed before old new told writes =
    let did = lines_err ships run closing.SourceFault failed before old new told writes in (inr (refl, did.0, did.1), did.2)
told_err (served ships run end closing.SinkFault) failed before old new told writes =
    let (cut, (no_fall, risen, once)) = told in
    let is : new ≡ old = writes.1 in
    subst (λ (k : SinkState). Tells before k (served ships run end closing.SinkFault) SinkFault
    × TellsLines (served ships run end closing.SinkFault) before k) (sym is)
    (inr (refl, (risen, once), cut_short ships run.charge run.entries run.quanta run.totals before old cut), told)
told_err (checked report) failed before old new same writes = let did = plain_err (text_of (checked report)) failed before old new same writes in (inr (refl, did.0, did.1), tt)
told_err (settled counts) failed before old new same writes = let did = plain_err (text_of (settled counts)) failed before old new same writes in
    (inr (refl, did.0, did.1), tt)
told_err (tried seed count run) failed before old new same writes = let did = plain_err (text_of (tried seed count run)) failed before old new same writes in (inr (refl, did.0, did.1), tt)

-- what is written behind a session's lines, where its sink took them
pub rest_written : (c : Closing) (totals : Totals) (result : Result (Unit {0}) Failed) (old new : SinkState) → (c ≡ closing.SinkFault → ⊥) → Writes (end_text totals ++ closing_text c) result old new → WritesRest c totals result old new
rest_written closing.Ended totals result old new other writes = writes
rest_written (closing.BadLine n) totals result old new other writes = writes
rest_written (closing.NoRoom n) totals result old new other writes = writes
rest_written closing.SourceFault totals result old new other writes = writes
rest_written closing.SinkFault totals result old new other writes = absurd (other refl)
