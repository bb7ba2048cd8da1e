-- A turn of a caller's work or of a worker, as one call of the core.
use Rattle.std.specs.Prelude.{◌≡◌, ◌&&◌, ℕ, ◌+◌, ◌/◌, ◌≤◌, ◌<◌, ◌-◌, ◌^◌, Bool, true, false, None, Some, Err, IsErr, IsTrue, length}
use Rattle.std.proofs.lemmas.Grind.{common_steps}
use Rattle.std.proofs.lemmas.Bool.Decides.{nat_tests}
use Rattle.std.proofs.Common.{arith}
use Rattle.std.specs.declared.result.Result.{Result}
use Rattle.std.proofs.Common.{◌∙◌, refl, ap, sym, subst}
use Rattle.std.proofs.lemmas.Bool.{false≢true}
use Rattle.blsm_model.specs.Format.{callers}
use Rattle.blsm_model.specs.Geometry.{file_length}
use Rattle.blsm_model.specs.declared.history.Why.{Why}
use Rattle.disk_trait.specs.Disk.{DiskState}
use Rattle.disk_trait.specs.Effects.{Affects}
use Rattle.disk_trait.proofs.EffectLemmas.{affects_start}
use Rattle.disk_trait.specs.Moments.{IsTimed}
use Rattle.page_file.specs.declared.file.Broken.{Broken}
use Rattle.page_file.specs.declared.file.Broken.TheVariants.{Damaged}
use Rattle.pacing.specs.Steps.{Move}
use Rattle.scan_view.specs.Pins.{beside_pins}
use Rattle.seat_book.specs.Places.{HasPlaces}
use Rattle.seat_book.specs.State.{BookState, book_of, helped_in, is_closed_in}
use Rattle.tree_file.specs.Tree.{Tree}
use Rattle.tree_machine.specs.Machine as machine
use Rattle.tree_machine.specs.Machine.{Machine, Turned, seats}
use Rattle.tree_machine.specs.Outcomes.{calls_disk}
use Rattle.tree_machine.specs.Steps.{Turn}
use Rattle.tree_machine.specs.declared.step.Kind.TheVariants as kind
use Rattle.core_lists.proofs.WeighLemmas.{all_ahead}
use Rattle.tree_runs.specs.Holding.{HasAllAhead, StandOver}
use Rattle.core_moves.specs.declared.held.Held.{Held}
use Rattle.core_moves.specs.Moves.{with_book}
use Rattle.core_lists.specs.Steps.{choice_of}
use Rattle.tree_core.specs.Calls.{BesideHolds, GoesOnAs, Helps}
use Rattle.tree_core.specs.Causes.{IsDamageAhead, TurnsBecause, TurnsNone, merge_of}
use Rattle.tree_core.specs.Clock.{LeavesDisk}
use Rattle.tree_core.specs.Core.{CoreState, IsCore}
use Rattle.tree_core.specs.Quanta.{LeavesMoved, ended_by}
use Rattle.tree_core.specs.Steps.{may_in}
use Rattle.tree_core.specs.Turning.{IsEven, MayCount, TakesTurn, counted_by}
use Rattle.tree_core.proofs.BoundLemmas.{rose as has_risen}
use Rattle.tree_core.proofs.KeepLemmas.{is_held, move_keeps_pins, no_commits}
use Rattle.tree_core.proofs.LastLemmas.{goes_on_by, may_help, may_work}
use Rattle.tree_core.proofs.NotingLemmas.{help_notes, helped_notes, helps_once, turn_counts, turn_helps, turn_owes, turned_counts}
use Rattle.tree_core.proofs.QuantumSteps.{running_at}
use Rattle.tree_core.proofs.TurnLemmas.{Ends, IsSeat, closed_moves, halted_follows, halted_moves, turn_because, turn_follows, turn_may, turn_moves, working_caller, counted_counts, turn_commits}
use Rattle.tree_core.proofs.TurnSteps.{closed_turn, halted_turn, turn_step}
use Rattle.core_lists.proofs.Terms.{IsOpenTo, kind_of_turn}

-- ---- the store is stopped, or closed to a worker

halted_goes : {D : Type 0} (state : D → DiskState) (w : Bool) (seat : ℕ) (why : Why) (old : CoreState D) (b : BookState) → IsCore old.held (state old.disk) → IsTimed (state old.disk) → old.held.book.stopped ≡ Some why → IsSeat w seat old.held.book
    → is_held (kind_of_turn w) ≡ false → may_in old.held seat (kind_of_turn w) ≡ true → b ≡ counted_by w seat (machine.Halted why) 0 old.held.book
    → GoesOnAs state seat (kind_of_turn w) (Turn (machine.Halted why)) old (record old { held = with_book b old.held }) × BesideHolds state seat (kind_of_turn w) (Turn (machine.Halted why)) old (record old { held = with_book b old.held })
halted_goes state w seat why old b core timed stopped is none can counts =
    let d = state old.disk in
    goes_on_by {end = 0} {most = 0} state seat (kind_of_turn w) (Turn (machine.Halted why)) old _ core timed none can (record { holds = refl; pins = refl; sizes = refl }) (no_commits old.held (with_book b old.held) refl (ap (λ (x : BookState). x.counts) counts ∙ counted_counts w seat (machine.Halted why) 0 old.held.book)) (affects_start d timed) (halted_follows w seat (machine.Halted why) old.held b is counts)
    (λ pace holds. halted_moves w seat why old.held b pace d stopped is holds counts) (λ opening m honest s ok. halted_turn w opening seat why old.held b m d timed honest stopped counts s ok)

closed_goes : {D : Type 0} (state : D → DiskState) (seat : ℕ) (old : CoreState D) (b : BookState) → IsCore old.held (state old.disk) → IsTimed (state old.disk) → old.held.book.stopped ≡ None → is_closed_in old.held.book ≡ true → callers ≤ seat → seat < seats
    → b ≡ helped_in seat old.held.book → GoesOnAs state seat kind.WorkerTurn (Turn machine.Closed) old (record old { held = with_book b old.held }) × BesideHolds state seat kind.WorkerTurn (Turn machine.Closed) old (record old { held = with_book b old.held })
closed_goes state seat old b core timed ran closed above below counts =
    let d = state old.disk in
    goes_on_by {end = 0} {most = 0} state seat kind.WorkerTurn (Turn machine.Closed) old _ core timed refl (may_help seat above below) (record { holds = refl; pins = refl; sizes = refl }) (no_commits old.held (with_book b old.held) refl (ap (λ (x : BookState). x.counts) counts)) (affects_start d timed)
    (halted_follows true seat machine.Closed old.held b (above, below) counts) (λ pace holds. closed_moves seat old.held b pace d ran holds counts)
    (λ opening m honest s ok. closed_turn opening seat old.held b m d timed honest ran closed counts s ok)

-- a worker's, which counts all the same
rests_helping : {D : Type 0} (state : D → DiskState) (seat : ℕ) (ended : Turned) (old : CoreState D) (b : BookState) → IsTimed (state old.disk) → callers ≤ seat → seat < seats → length old.held.book.seats.turns ≡ seats - callers
    → b ≡ helped_in seat old.held.book → GoesOnAs state seat kind.WorkerTurn (Turn ended) old (record old { held = with_book b old.held }) × BesideHolds state seat kind.WorkerTurn (Turn ended) old (record old { held = with_book b old.held }) → TurnsBecause ended true seat old.held (with_book b old.held) (state old.disk) (state old.disk)
    → Helps state seat ended old (record old { held = with_book b old.held })
rests_helping state seat ended old b timed above below places counts goes because = record {
  goes = goes.0;
  beside = goes.1;
  cause = because;
  notes = helped_notes seat old.held.book b counts;
  helps = helps_once seat old.held.book old.held.book b above below places refl counts;
  still = λ none. ap (λ (x : BookState). x.stopped) counts;
  effect = affects_start (state old.disk) timed;
  untouched = λ none. refl;
  in_memory = λ none. refl;
}

pub takes_halted : {D : Type 0} (state : D → DiskState) (w : Bool) (seat : ℕ) (why : Why) (old : CoreState D) (b : BookState) → IsCore old.held (state old.disk) → IsTimed (state old.disk) → old.held.book.stopped ≡ Some why → HasPlaces old.held.book
    → b ≡ counted_by w seat (machine.Halted why) 0 old.held.book → MayCount w seat old.held.book → TakesTurn w state seat (machine.Halted why) old (record old { held = with_book b old.held })
takes_halted state true seat why old b core timed stopped places counts may =
    rests_helping state seat (machine.Halted why) old b timed may.0 may.1 places.turns counts (halted_goes state true seat why old b core timed stopped may refl (may_help seat may.0 may.1) counts) (stopped, refl)
takes_halted state false seat why old b core timed stopped places counts may =
    let caller = working_caller seat old.held.book may in
    let goes = halted_goes state false seat why old b core timed stopped (caller, places.work) refl (may_work seat old.held may (λ runs. absurd (cc (stopped, runs)))) counts in
    record {
      goes = goes.0;
      beside = goes.1;
      cause = (stopped, refl);
      counts = turned_counts seat 0 (machine.Halted why) old.held old.held (with_book b old.held) caller places.work (record { annals = refl; work = refl }) (λ why was. was) counts refl;
      even = λ runs. absurd (let e = ap (λ (x : BookState). x.stopped) counts in cc (e, stopped, runs));
      effect = affects_start (state old.disk) timed;
      untouched = λ none. refl;
      in_memory = λ none. refl;
    }

pub takes_closed : {D : Type 0} (state : D → DiskState) (w : Bool) (seat : ℕ) (old : CoreState D) (b : BookState) → IsCore old.held (state old.disk) → IsTimed (state old.disk) → None ≡ old.held.book.stopped → (w && is_closed_in old.held.book) ≡ true
    → HasPlaces old.held.book → b ≡ counted_by w seat machine.Closed 0 old.held.book → MayCount w seat old.held.book → TakesTurn w state seat machine.Closed old (record old { held = with_book b old.held })
takes_closed state true seat old b core timed ran closed places counts may =
    rests_helping state seat machine.Closed old b timed may.0 may.1 places.turns counts (closed_goes state seat old b core timed (sym ran) closed may.0 may.1 counts) (sym ran, refl, closed, refl)
takes_closed state false seat old b core timed ran closed places counts may = absurd (false≢true closed)

-- ---- a move

-- What the move made of the core, and the turn's end.
pub record Turning {D : Type 0} (state : D → DiskState) (w : Bool) (seat : ℕ) (mv : Move) (made : Result ℕ Broken) (faults : ℕ) (old : CoreState D) (disk : D) (moved : Held) (ended : Turned) (b : BookState) : Type 0 where
  pub core : IsCore old.held (state old.disk)
  pub timed : IsTimed (state disk)
  pub ends : Ends w seat mv made faults old.held moved ended b (state old.disk) (state disk)
  pub effect : Affects (beside_pins old.held.runs.sizes old.held.runs.space.pins) (file_length old.held.runs.sizes) (old.held.runs.sizes.quantum / 4 + 9) (state old.disk) (state disk)
  pub ahead : (n : ℕ) → made ≡ Err (Damaged n) → IsTrue (state old.disk).tells_bytes → IsDamageAhead (merge_of mv) moved.runs n (state disk).bytes
  pub counted : faults ≡ (state disk).faults
  pub few : (state disk).faults < 2 ^ 64
  pub called : IsErr made → calls_disk (choice_of mv) ≡ true
  pub in_memory : LeavesDisk mv old.disk disk
  pub lists : (tree : Tree) → IsTrue (state old.disk).is_honest → StandOver old.held.runs tree (state old.disk)
      → HasAllAhead old.held.runs.pass old.held.log.a.entries tree → (next : Tree)
      × LeavesMoved mv made old.held moved tree next (state old.disk) (state disk)
  pub opened : (m : Machine) → book_of m ≡ old.held.book → IsOpenTo w m

turning_goes : {D : Type 0} (state : D → DiskState) (w : Bool) (seat : ℕ) (mv : Move) (made : Result ℕ Broken) (faults : ℕ) (old : CoreState D) (disk : D) (moved : Held) (ended : Turned) (b : BookState) → is_held (kind_of_turn w) ≡ false
    → may_in old.held seat (kind_of_turn w) ≡ true → Turning state w seat mv made faults old disk moved ended b
    → GoesOnAs state seat (kind_of_turn w) (Turn ended) old (record { disk = disk; held = with_book b moved; holds = old.holds }) × BesideHolds state seat (kind_of_turn w) (Turn ended) old (record { disk = disk; held = with_book b moved; holds = old.holds })
turning_goes state w seat mv made faults old disk moved ended b none can t =
    let before = state old.disk in
    let after = state disk in
    let pins = move_keeps_pins mv made seat old.held moved t.ends.moves t.ends.kept in
    goes_on_by state seat (kind_of_turn w) (Turn ended) old _ t.core t.timed none can (record { holds = refl; pins = pins.pins; sizes = pins.sizes }) (turn_commits w seat mv made faults old.held moved ended b before after t.ends) t.effect (turn_follows w seat mv made faults old.held moved ended b before after t.ends)
    (λ pace holds. turn_moves w seat mv made faults old.held moved ended b pace before after t.ends holds)
    (λ opening m honest s ok.
    let ran = t.ends.turns.ran in
    let k = (t.core.holds.live ran).paced in
    let r = running_at opening old.held m before t.core.pace s ran k.numbers k.one in
    let tree = (s.runs ran).tree in
    let left = t.lists tree honest r.over (all_ahead old.held tree r.one r.holds.of_log) in
    turn_step w opening seat mv made faults old.held moved ended b m t.core.pace tree before after t.ends t.core.holds t.counted
    (λ is. has_risen before.faults after.faults t.effect.goes_on.faults t.few (t.ends.told.failed is)) t.called
    (record { runs = r; opened = t.opened m s.book; ok = ok; may_move = turn_may w seat mv old.held t.core.pace before t.ends.turns t.core.holds; next = left.0; leaves = left.1 }))

-- it isn't one that calls no disk
never_still : (made : Result ℕ Broken) (mv : Move) → TurnsNone (ended_by made mv) → ⊥
never_still made mv h1 = grind (arith, common_steps, nat_tests)

pub takes_turn : {D : Type 0} (state : D → DiskState) (w : Bool) (seat : ℕ) (mv : Move) (made : Result ℕ Broken) (faults : ℕ) (old : CoreState D) (disk : D) (moved : Held) (ended : Turned) (b : BookState) → HasPlaces old.held.book
    → Turning state w seat mv made faults old disk moved ended b → MayCount w seat old.held.book → (old.held.book.stopped ≡ None → IsEven w seat old.held) → TakesTurn w state seat ended old (record { disk = disk; held = with_book b moved; holds = old.holds })
takes_turn state true seat mv made faults old disk moved ended b places t may even =
    let before = state old.disk in
    let after = state disk in
    let never = λ (none : TurnsNone ended). never_still made mv (subst (λ (e : Turned). TurnsNone e) t.ends.ended_is none) in
    let goes = turning_goes state true seat mv made faults old disk moved ended b refl (may_help seat may.0 may.1) t in
    record {
      goes = goes.0;
      beside = goes.1;
      cause = turn_because true seat mv made faults old.held moved ended b before after t.ends t.ahead t.counted;
      notes = help_notes seat mv made faults old.held moved ended b before after t.ends;
      helps = turn_helps seat mv made faults old.held moved ended b before after may.0 may.1 places.turns t.ends;
      still = λ none. absurd (never none);
      effect = t.effect;
      untouched = λ none. absurd (never none);
      in_memory = subst (λ (x : Move). LeavesDisk x old.disk disk) t.ends.turns.is t.in_memory;
    }
takes_turn state false seat mv made faults old disk moved ended b places t may even =
    let before = state old.disk in
    let after = state disk in
    let goes = turning_goes state false seat mv made faults old disk moved ended b refl (may_work seat old.held may even) t in
    record {
      goes = goes.0;
      beside = goes.1;
      cause = turn_because false seat mv made faults old.held moved ended b before after t.ends t.ahead t.counted;
      counts = turn_counts seat mv made faults old.held moved ended b before after t.ends;
      even = λ runs. turn_owes seat mv made faults old.held moved ended b before after t.ends;
      effect = t.effect;
      untouched = λ none. absurd (never_still made mv (subst (λ (e : Turned). TurnsNone e) t.ends.ended_is none));
      in_memory = subst (λ (x : Move). LeavesDisk x old.disk disk) t.ends.turns.is t.in_memory;
    }

-- a move comes before the store is closed only
pub open_to : (w : Bool) (b : BookState) (m : Machine) → (w && is_closed_in b) ≡ false → book_of m ≡ b → IsOpenTo w m
open_to true b m before book = ap is_closed_in book ∙ before
open_to false b m before book = tt
