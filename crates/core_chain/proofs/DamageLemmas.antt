-- Which call of a chain a damaged page stopped.
use Rattle.std.proofs.Common.{◌≡◌, ◌∙◌, ℕ, Bool, true, false, List, [], ◌∷◌, Some, None, refl, ap, sym, subst}
use Rattle.std.proofs.lemmas.Grind.{common_steps}
use Rattle.std.proofs.lemmas.Bool.Decides.{nat_tests}
use Rattle.std.proofs.Common.{arith}
use Rattle.std.specs.Prelude.{Option}
use Rattle.std.proofs.lemmas.Bool.{false≢true}
use Rattle.blsm_model.specs.declared.op.Op.{Op}
use Rattle.blsm_model.specs.declared.history.Why.{Why}
use Rattle.blsm_model.specs.declared.history.Why.TheVariants.{BadPage}
use Rattle.disk_trait.specs.Disk.{DiskState}
use Rattle.seat_book.specs.State.{BookState}
use Rattle.core_moves.specs.declared.held.Held.{Held}
use Rattle.core_pace.specs.Events.{plan_in}
use Rattle.core_pace.specs.Turns.{move_in}
use Rattle.tree_machine.specs.Machine as machine
use Rattle.tree_machine.specs.Machine.{Turned}
use Rattle.tree_machine.specs.declared.step.Kind.{Kind}
use Rattle.tree_machine.specs.declared.step.Kind.TheVariants as kind
use Rattle.tree_machine.specs.declared.step.Step.{Step}
use Rattle.tree_core.specs.Calls.{AreCalls, IsCall}
use Rattle.tree_core.specs.Causes.{AdmitsBecause, FoundDamaged, PaysBecause, TurnsBecause, TurnsNone, merge_of}
use Rattle.tree_core.specs.Core.{CoreState}
use Rattle.tree_core.specs.Ruling.{Ruling}
use Rattle.tree_core.specs.declared.answers.Payment.{Payment}
use Rattle.core_chain.specs.Damage.{StopsAtPage, merge_at}
use Rattle.core_chain.proofs.FaultLemmas.{halted_by, pending}
use Rattle.core_chain.proofs.LinkLemmas.{among_more, chain_keeps}
use Rattle.core_chain.proofs.TellLemmas.{link_tells}

-- ---- one call

-- nor is it where the stop is what it was
runs_still : {A : Type 0} (old new : Option Why) (why : Why) → old ≡ None → new ≡ old → new ≡ Some why → A
runs_still old new why ran same stops = absurd (cc (ran, same, stops))

admit_stops : {A : Type 0} (answer : Ruling) (seat : ℕ) (op : Op) (page : ℕ) (old new : Held) (before after : DiskState) → AdmitsBecause answer seat
    op old new before after → old.book.stopped ≡ None → new.book.stopped ≡ Some (BadPage page) → A
admit_stops answer seat op page old new before after h1 h2 h3 = grind (arith, common_steps, nat_tests)

pay_stops : (answer : Payment) (seat page : ℕ) (old new : Held) (before after : DiskState) → PaysBecause answer seat old new before after → old.book.stopped ≡ None → new.book.stopped ≡ Some (BadPage page)
    → FoundDamaged (plan_in seat old) page old new before after
pay_stops answer seat page old new before after h1 h2 h3 = grind (arith, common_steps, nat_tests)

turn_stops : (answer : Turned) (is_worker : Bool) (seat page : ℕ) (old new : Held) (before after : DiskState) → TurnsBecause answer is_worker seat old new before after → (is_worker ≡ true → answer ≡ machine.Closed → new.book.stopped ≡ old.book.stopped)
    → old.book.stopped ≡ None → new.book.stopped ≡ Some (BadPage page) → FoundDamaged (merge_of (move_in is_worker old)) page old new before after
turn_stops answer is_worker seat page old new before after h1 h2 h3 h4 = grind (arith, common_steps, nat_tests)

module _ {D : Type 0} (state : D → DiskState) where
  -- of a store that ran a payment or a turn alone is stopped by a page, which it came to
  link_stops : (seat : ℕ) (k : Kind) (page : ℕ) (old new : CoreState D) → IsCall state seat k old new → old.held.book.stopped ≡ None → new.held.book.stopped ≡ Some (BadPage page)
      → FoundDamaged (merge_at seat k old.held) page old.held new.held (state old.disk) (state new.disk)
  link_stops seat (kind.Admit op) page old new call ran stops = admit_stops call.0 seat op page old.held new.held (state old.disk) (state new.disk) call.1.cause ran stops
  link_stops seat kind.Pay page old new call ran stops = pay_stops call.0 seat page old.held new.held (state old.disk) (state new.disk) call.1.cause ran stops
  link_stops seat (kind.Look op) page old new call ran stops = runs_still old.held.book.stopped new.held.book.stopped (BadPage page) ran (ap (λ (h : Held). h.book.stopped) call.1.held) stops
  link_stops seat (kind.Hold low high) page old new call ran stops = runs_still old.held.book.stopped new.held.book.stopped (BadPage page) ran (ap (λ (b : BookState). b.stopped) call.1.book) stops
  link_stops seat (kind.Next n) page old new call ran stops = runs_still old.held.book.stopped new.held.book.stopped (BadPage page) ran (ap (λ (b : BookState). b.stopped) call.1.book) stops
  link_stops seat kind.Release page old new call ran stops = runs_still old.held.book.stopped new.held.book.stopped (BadPage page) ran (ap (λ (b : BookState). b.stopped) call.1.book) stops
  link_stops seat kind.WorkTurn page old new call ran stops =
      turn_stops call.0 false seat page old.held new.held (state old.disk) (state new.disk) call.1.cause (λ worker closed. absurd (false≢true worker)) ran stops
  link_stops seat (kind.WorkEnd n) page old new call ran stops = runs_still old.held.book.stopped new.held.book.stopped (BadPage page) ran (ap (λ (h : Held). h.book.stopped) call.1.held) stops
  link_stops seat kind.WorkerTurn page old new call ran stops =
      turn_stops call.0 true seat page old.held new.held (state old.disk) (state new.disk) call.1.cause (λ worker closed. call.1.still (subst TurnsNone (sym closed) tt)) ran stops
  link_stops seat kind.Leave page old new call ran stops = runs_still old.held.book.stopped new.held.book.stopped (BadPage page) ran (ap (λ (h : Held). h.book.stopped) call.held) stops

  -- a stop lasts
  link_halts : (why : Why) (seat : ℕ) (k : Kind) (old new : CoreState D) → IsCall state seat k old new → old.held.book.stopped ≡ Some why → new.held.book.stopped ≡ Some why
  link_halts why seat k old new call is = grind (arith, common_steps, nat_tests, link_tells, halted_by, pending)

  -- ---- the chain

  -- it was the first call, or one behind it
  first_or_behind : (page : ℕ) (one : Step × CoreState D) (calls : List (Step × CoreState D)) (start end : CoreState D) (o : Option Why) → one.1.held.book.stopped ≡ o → start.held.book.stopped ≡ None → IsCall state one.0.seat one.0.kind start one.1
      → AreCalls state calls one.1 end → end.held.book.stopped ≡ Some (BadPage page) → (one.1.held.book.stopped ≡ None → StopsAtPage state calls one.1 end page) → StopsAtPage state (one ∷ calls) start end page
  first_or_behind page one calls start end None is ran call are stops behind =
      let found = behind is in
      record { step = found.step; old = found.old; new = found.new; among = among_more one call found.among; found = found.found }
  first_or_behind page one calls start end (Some why) is ran call are stops behind =
      let last = chain_keeps state (λ (core : CoreState D). core.held.book.stopped ≡ Some why) (link_halts why) calls one.1 end are is in
      record {
        step = one.0;
        old = start;
        new = one.1;
        among = record { before = []; behind = calls; parts = refl; led = refl; call = call; leads = are };
        found = link_stops one.0.seat one.0.kind page start one.1 call ran (is ∙ sym last ∙ stops);
      }

  pub chain_stops : (page : ℕ) (calls : List (Step × CoreState D)) (start end : CoreState D) → start.held.book.stopped ≡ None → AreCalls state calls start end → end.held.book.stopped ≡ Some (BadPage page) → StopsAtPage state calls start end page
  chain_stops page [] start end ran are stops = runs_still start.held.book.stopped end.held.book.stopped (BadPage page) ran (ap (λ (core : CoreState D). core.held.book.stopped) are) stops
  chain_stops page (one ∷ calls) start end ran are stops =
      first_or_behind page one calls start end one.1.held.book.stopped refl ran are.0 are.1 stops (λ runs. chain_stops page calls one.1 end runs are.1 stops)
