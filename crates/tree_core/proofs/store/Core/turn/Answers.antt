use Rattle.std.specs.Prelude.{◌≡◌, ℕ, Bool, None, true, false}
use Rattle.disk_trait.specs.Disk.{DiskState}
use Rattle.disk_trait.specs.Moments.{IsTimed}
use Rattle.std.proofs.Common.{refl, subst, sym, ◌∙◌, arith}
use Rattle.core_moves.specs.Moves.{with_book}
use Rattle.seat_book.specs.Turns.{turned_of}
use Rattle.tree_machine.specs.Machine as machine
use Rattle.tree_machine.specs.Machine.{Turned}
use Rattle.tree_core.specs.Core.{CoreState, IsCore}
use Rattle.tree_core.specs.Holds.{AreFew}
use Rattle.tree_core.specs.Quanta.{quanta_by, stopped_by}
use Rattle.tree_core.specs.Turning.{IsEven, MayCount, TakesTurn, move_of}
use Rattle.tree_core.proofs.LastLemmas.{kept_on}
use Rattle.tree_core.proofs.TurnCalls.{open_to, takes_closed, takes_halted, takes_turn}
use Rattle.tree_core.proofs.TurnLemmas.{count_open, counts_as, turn_may, turn_ready, turn_seat, turns_at}
use Rattle.tree_core.proofs.store.Core.turn.Goals as goal

-- ---- what the calls require

-- its conditions, of the core as it stands inside
may_inside : {D : Type 0} {inside now : CoreState D} → inside ≡ now → (w : Bool) (seat : ℕ) → MayCount w seat now.held.book → MayCount w seat inside.held.book
may_inside {D} same w seat may = subst (λ (s : CoreState D). MayCount w seat s.held.book) (sym same) may

even_inside : {D : Type 0} {inside now : CoreState D} → inside ≡ now → (w : Bool) (seat : ℕ) → (now.held.book.stopped ≡ None → IsEven w seat now.held) → inside.held.book.stopped ≡ None → IsEven w seat inside.held
even_inside {D} same w seat even = subst (λ (s : CoreState D). s.held.book.stopped ≡ None → IsEven w seat s.held) (sym same) even

pub make-made-requires-clause-seat : goal.make-made-requires-clause-seat
make-made-requires-clause-seat g c = turn_seat c.args.is_worker c.args.seat c.args.self.now.held.book c.requires.may

pub make-made-requires-clause-may : goal.make-made-requires-clause-may
make-made-requires-clause-may g c =
    let w = c.args.is_worker in
    let seat = c.args.seat in
    let held = c.self.inside.held in
    let mv = move_of c.choose-choice.result in
    turn_may w seat mv held c.self.invariant.0.pace (g.D.Disk.state c.self.inside.disk)
    (turns_at w seat mv held (may_inside c.self.view_is w seat c.requires.may) (even_inside c.self.view_is w seat c.requires.even) c.has_places.ensures c.in_default.ensures c.choose-choice.ensures) c.self.invariant.0.holds

pub make-made-requires-clause-ready : goal.make-made-requires-clause-ready
make-made-requires-clause-ready g c =
    let w = c.args.is_worker in
    let seat = c.args.seat in
    let held = c.self.inside.held in
    let mv = move_of c.choose-choice.result in
    turn_ready w seat mv held c.self.invariant.0.pace (g.D.Disk.state c.self.inside.disk)
    (turns_at w seat mv held (may_inside c.self.view_is w seat c.requires.may) (even_inside c.self.view_is w seat c.requires.even) c.has_places.ensures c.in_default.ensures c.choose-choice.ensures) c.self.invariant.0.holds

pub count-requires-clause-may : goal.count-requires-clause-may
count-requires-clause-may g c = may_inside c.self.view_is c.args.is_worker c.args.seat c.requires.may

pub count-requires-then-is_closed_to-clause-may : goal.count-requires-then-is_closed_to-clause-may
count-requires-then-is_closed_to-clause-may g c = may_inside c.self.view_is c.args.is_worker c.args.seat c.requires.may

pub count-requires-2-clause-may : goal.count-requires-2-clause-may
count-requires-2-clause-may g c =
    let x = c.make-made.ensures in
    count_open c.args.is_worker (move_of c.choose-choice.result) c.args.seat c.make-made.result c.faults.result c.self.inside.held c.make-made.new.held c.end-ended.new.book x.moves x.kept c.end-ended.ensures.book
    (may_inside c.self.view_is c.args.is_worker c.args.seat c.requires.may)

-- ---- what it says at each end

pub returns-in-Some : goal.returns-in-Some
returns-in-Some g c =
    let w = c.args.is_worker in
    let old : CoreState g.row.D.Denot = record { disk = c.self.inside.disk; held = c.self.inside.held; holds = c.self.inside.holds } in
    subst (λ (s : CoreState g.row.D.Denot). MayCount w c.args.seat s.held.book → TakesTurn w g.D.Disk.state c.args.seat (machine.Halted c.in-Some.why) s (record old { held = with_book c.count.new.book old.held })) c.self.view_is
    (λ may. takes_halted g.D.Disk.state w c.args.seat c.in-Some.why old c.count.new.book c.self.invariant.0 (g.met.D.Disk.timed old.disk) (sym c.in-Some.ensures) c.has_places.ensures c.count.ensures may) c.requires.may

pub returns-then-is_closed_to : goal.returns-then-is_closed_to
returns-then-is_closed_to g c =
    let w = c.args.is_worker in
    let old : CoreState g.row.D.Denot = record { disk = c.self.inside.disk; held = c.self.inside.held; holds = c.self.inside.holds } in
    let b = c.count-then-is_closed_to.new.book in
    subst (λ (s : CoreState g.row.D.Denot). MayCount w c.args.seat s.held.book → TakesTurn w g.D.Disk.state c.args.seat machine.Closed s (record old { held = with_book b old.held })) c.self.view_is
    (λ may. takes_closed g.D.Disk.state w c.args.seat old b c.self.invariant.0 (g.met.D.Disk.timed old.disk) c.in_default.ensures (sym c.is_closed_to.ensures ∙ c.if-is_closed_to.true) c.has_places.ensures c.count-then-is_closed_to.ensures may) c.requires.may

pub returns : goal.returns
returns g c =
    let w = c.args.is_worker in
    let seat = c.args.seat in
    let old : CoreState g.row.D.Denot = record { disk = c.self.inside.disk; held = c.self.inside.held; holds = c.self.inside.holds } in
    let mv = move_of c.choose-choice.result in
    let moved = c.make-made.new.held in
    let made = c.make-made.result in
    let x = c.make-made.ensures in
    let ended = turned_of c.end-ended.result.0 in
    let b = c.count-2.new.book in
    let may = may_inside c.self.view_is w seat c.requires.may in
    let even = even_inside c.self.view_is w seat c.requires.even in
    subst (λ (s : CoreState g.row.D.Denot). TakesTurn w g.D.Disk.state seat ended s (record { disk = c.make-made.new.disk; held = with_book b moved; holds = old.holds })) c.self.view_is
    (takes_turn g.D.Disk.state w seat mv made c.faults.result old c.make-made.new.disk moved ended b c.has_places.ensures
    (record {
      core = c.self.invariant.0;
      timed = g.met.D.Disk.timed c.make-made.new.disk;
      ends = record {
        turns = turns_at w seat mv old.held may even c.has_places.ensures c.in_default.ensures c.choose-choice.ensures;
        moves = x.moves;
        on = x.on;
        kept = x.kept;
        told = x.faults;
        ended_is = c.end-ended.ensures.ended;
        counts = counts_as w seat ended c.end-ended.result.1 (quanta_by made mv) b c.end-ended.new.book (stopped_by made c.faults.result moved.book) c.count-2.ensures c.end-ended.ensures.quanta c.end-ended.ensures.book;
      };
      effect = x.effect;
      ahead = x.damaged;
      counted = c.faults.ensures;
      few = omega (arith, c.faults.ensures, c.faults.type_inv);
      called = x.calls;
      in_memory = x.in_memory;
      lists = λ tree honest over. x.lists tree honest over;
      opened = λ m book. open_to w old.held.book m (sym c.is_closed_to.ensures ∙ c.if-is_closed_to.false) book;
    }) may even)

-- ---- what the type keeps

-- its clause says so, whoever took the turn
takes_kept : {D : Type 0} (state : D → DiskState) (w : Bool) (seat : ℕ) (ended : Turned) (inside old new : CoreState D) → inside ≡ old → IsTimed (state inside.disk) → IsCore inside.held (state inside.disk) × AreFew inside.held.runs.sizes inside.holds
    → new.holds ≡ inside.holds → TakesTurn w state seat ended old new → IsCore new.held (state new.disk) × AreFew new.held.runs.sizes new.holds
takes_kept state true seat ended inside old new is timed kept same takes = kept_on state is timed kept same takes.goes
takes_kept state false seat ended inside old new is timed kept same takes = kept_on state is timed kept same takes.goes

pub invariant_of-self : goal.invariant_of-self
invariant_of-self g c = takes_kept g.D.Disk.state c.args.is_worker c.args.seat _ _ c.args.self.now _ c.self.view_is (g.met.D.Disk.timed c.self.inside.disk) c.self.invariant refl (returns-in-Some g c)

pub invariant_of-self-then-is_closed_to : goal.invariant_of-self-then-is_closed_to
invariant_of-self-then-is_closed_to g c = takes_kept g.D.Disk.state c.args.is_worker c.args.seat _ _ c.args.self.now _ c.self.view_is (g.met.D.Disk.timed c.self.inside.disk) c.self.invariant refl (returns-then-is_closed_to g c)

pub invariant_of-self-2 : goal.invariant_of-self-2
invariant_of-self-2 g c = takes_kept g.D.Disk.state c.args.is_worker c.args.seat _ _ c.args.self.now _ c.self.view_is (g.met.D.Disk.timed c.self.inside.disk) c.self.invariant refl (returns g c)
