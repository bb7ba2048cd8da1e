-- Turns of a caller's work, one after another, and its end.
use Rattle.std.specs.Prelude.{◌/◌, slice_index_or, slice_set, Option}
use Rattle.std.proofs.lemmas.Grind.{common_steps}
use Rattle.std.proofs.lemmas.Bool.Decides.{nat_tests}
use Rattle.std.proofs.Common.{◌≡◌, ◌≢◌, ◌∙◌, ⊎_elim, ℕ, ◌+◌, ◌*◌, ◌≤◌, ◌<◌, IsTrue, false, length, Some, None, refl, ap, sym, subst, mul-le-mul_right, arith}
use Rattle.std.proofs.lemmas.Bool.{cases_eq}
use Rattle.std.proofs.lemmas.List.{get_or-set_other}
use Rattle.blsm_model.specs.Book.{Book, noted, counted_up, rows_given}
use Rattle.blsm_model.specs.Format.{callers}
use Rattle.blsm_model.specs.Geometry.{file_length}
use Rattle.blsm_model.specs.declared.history.Why.{Why}
use Rattle.blsm_model.specs.declared.history.Entry.{Entry}
use Rattle.blsm_model.specs.declared.history.Reply.{Reply}
use Rattle.blsm_model.specs.declared.op.Op.TheVariants.{Work}
use Rattle.disk_trait.specs.Disk.{DiskState}
use Rattle.pacing.specs.Steps.{Move}
use Rattle.seat_book.specs.State.{work_in}
use Rattle.seat_book.specs.Turns.{turned_of}
use Rattle.seat_book.specs.declared.turned.Turned as code_of
use Rattle.seat_book.specs.declared.turned.Turned.TheVariants as code
use Rattle.tree_machine.specs.Machine.{Turned, WorkSoFar, is_worked, no_work}
use Rattle.tree_machine.specs.Plays.{is_finished}
use Rattle.tree_machine.specs.Steps.{work_reply}
use Rattle.tree_machine.specs.declared.step.Kind.TheVariants as kind
use Rattle.core_moves.specs.declared.held.Held.{Held}
use Rattle.core_pace.specs.Turns.{move_in}
use Rattle.tree_core.specs.Calls.{EndsWork, TurnsOnce}
use Rattle.tree_core.specs.Core.{CoreState}
use Rattle.tree_core.specs.Notes.{OwesNothing, quanta_of_turn}
use Rattle.tree_core.specs.Steps.{StandsSince}
use Rattle.tree_session.specs.Faults.{NamesStop, Proceeds, Reaches, faults_of, faults_of_turn, is_by_fault}
use Rattle.tree_session.specs.Lines.{Rests}
use Rattle.tree_session.specs.Session.{EasesOthers, IsMade, Performs, Turns}
use Rattle.tree_session.proofs.BookLemmas.{all_even, ended_empty, finished_early, finished_full, work_says}
use Rattle.tree_session.proofs.MadeLemmas.{made_by, made_none, made_then}
use Rattle.tree_session.proofs.FaultLemmas.{eases_by, eases_none, eases_then, proceeds_by, proceeds_more, proceeds_none, proceeds_then, proceeds_wider, reaches_by, reaches_none, tells_quiet, turn_calm, turn_tells}

-- ---- turns

-- So many turns were made, of which the last told so many faults.
pub record Turning {D : Type 0} (state : D → DiskState) (seat t told : ℕ) (old new : CoreState D) : Type 0 where
  pub annals : new.held.book.book ≡ old.held.book.book
  pub turns : (work_in seat new.held.book).turns ≡ t
  pub few : (work_in seat new.held.book).quanta ≤ t
  pub last : faults_of_turn (work_in seat new.held.book).last ≡ told
  pub works : (other : ℕ) → other ≢ seat → work_in other new.held.book ≡ work_in other old.held.book
  pub even : new.held.book.stopped ≡ None → OwesNothing seat new.held
  pub others : EasesOthers seat old.held new.held
  pub begins : StandsSince state new new
  pub proceeds : Proceeds state told (t * (old.held.runs.sizes.quantum / 4 + 9)) old new
  pub made : IsMade state old new

pub turning_none : {D : Type 0} (state : D → DiskState) (seat : ℕ) (old : CoreState D) → Rests old.held → StandsSince state old old → Turning state seat 0 0 old old
turning_none state seat old rests begins = grind (arith, common_steps, nat_tests, eases_none, proceeds_none, made_none)

pub one_at_most : (ended : Turned) (mv : Move) → quanta_of_turn ended mv ≤ 1
one_at_most ended mv = grind (arith, common_steps, nat_tests)

pub turning_more : {D : Type 0} (state : D → DiskState) (seat t : ℕ) (ended : Turned) (old mid new : CoreState D) → seat < callers → Turning state seat t 0 old mid → TurnsOnce state seat ended mid new
    → Turning state seat (t + 1) (faults_of_turn ended) old new
turning_more state seat t ended old mid new below so_far call =
    let one = one_at_most ended (move_in false mid.held) in
    let quanta = ap (λ (w : WorkSoFar). w.quanta) call.counts.work in
    record {
      annals = call.counts.annals ∙ so_far.annals;
      turns = ap (λ (w : WorkSoFar). w.turns) call.counts.work ∙ ap (λ (k : ℕ). k + 1) so_far.turns;
      few = omega (arith, quanta, one, so_far.few);
      last = ap (λ (w : WorkSoFar). faults_of_turn w.last) call.counts.work;
      works = λ other apart. call.counts.others other apart ∙ so_far.works other apart;
      even = call.even;
      others = eases_then seat old.held mid.held new.held so_far.others (eases_by seat mid.held new.held call.goes.follows);
      begins = call.goes.begins;
      proceeds = proceeds_more state (faults_of_turn ended) t 9 old mid new so_far.proceeds
          (proceeds_by state (faults_of_turn ended) (mid.held.runs.sizes.quantum / 4 + 9) mid new below so_far.begins call.goes (reaches_by call.effect) (turn_tells state seat ended mid new call));
      made = made_then state old mid new so_far.made (made_by state seat kind.WorkTurn mid new (ended, call) refl);
    }

-- ---- the last turn

turned : {D : Type 0} (state : D → DiskState) (seat n t told : ℕ) (old new : CoreState D) → t ≤ n → Turning state seat t told old new → IsTrue (is_finished n (work_in seat new.held.book)) → (is_by_fault new.held.book.stopped ≡ false → told ≡ 0)
    → Turns state seat n old new
turned state seat n t told old new within so_far finished calm = record {
  annals = so_far.annals;
  finished = finished;
  few = omega (arith, so_far.few, within);
  calm = λ quiet. so_far.last ∙ calm quiet;
  works = so_far.works;
  even = so_far.even;
  others = so_far.others;
  proceeds =
      let share = old.held.runs.sizes.quantum / 4 + 9 in
      let fewer : t * share ≤ n * share = mul-le-mul_right share within in
      subst (λ (faults : ℕ). Proceeds state faults (n * share) old new) (sym so_far.last) (proceeds_wider state told (t * share) (n * share) old new fewer so_far.proceeds);
  made = so_far.made;
}

not_worked : (ended : code_of.Turned) → (ended ≡ code.Worked → ⊥) → is_worked (turned_of ended) ≡ false
not_worked ended h1 = grind (arith, common_steps, nat_tests)

-- which didn't work
pub turned_early : {D : Type 0} (state : D → DiskState) (seat n t : ℕ) (ended : code_of.Turned) (old mid new : CoreState D) → seat < callers → t < n → (ended ≡ code.Worked → ⊥) → Turning state seat t 0 old mid → TurnsOnce state seat (turned_of ended) mid new
    → Turns state seat n old new
turned_early state seat n t ended old mid new below few not so_far call =
    let more = turning_more state seat t (turned_of ended) old mid new below so_far call in
    turned state seat n (t + 1) (faults_of_turn (turned_of ended)) old new (omega (arith, few)) more
    (finished_early n t (work_in seat new.held.book) more.turns few (ap (λ (w : WorkSoFar). is_worked w.last) call.counts.work ∙ not_worked ended not))
    (turn_calm (turned_of ended) seat mid.held new.held (state mid.disk) (state new.disk) call.cause)

-- or all of them did
pub turned_all : {D : Type 0} (state : D → DiskState) (seat n t : ℕ) (old new : CoreState D) → t ≡ n → Turning state seat t 0 old new → Turns state seat n old new
turned_all state seat n t old new all so_far = turned state seat n t 0 old new (omega (arith, all)) so_far (finished_full n (work_in seat new.held.book) (so_far.turns ∙ all)) (λ quiet. refl)

-- ---- the end

pub work_ended : {D : Type 0} (state : D → DiskState) (seat n : ℕ) (reply : Reply) (old mid new : CoreState D) → seat < callers → StandsSince state mid mid → Rests old.held → Turns state seat n old mid → EndsWork state seat n reply mid new
    → Performs state seat (Work n) old new
work_ended {D} state seat n reply old mid new below begins rests turns call = record {
  reply = says;
  quanta = (work_in seat mid.held.book).quanta;
  annals = ap (λ (h : Held). h.book.book) call.held ∙ ap (λ (b : Book). counted_up (noted b entry) (length b.entries) (work_in seat mid.held.book).quanta) turns.annals;
  few = turns.few;
  rows = told.2;
  calm = λ calm looks. sym told.0 ∙ turns.calm (ap is_by_fault (sym stops) ∙ calm);
  names = subst (λ (o : Option Why). NamesStop says o) (sym stops) told.1;
  rests = record {
    idle = λ any. ap (λ (h : Held). work_in any h.book) call.held ∙ idle any;
    even = λ runs any. subst (λ (h : Held). OwesNothing any h) (sym call.held)
        (all_even seat old.held mid.held (rests.even (ran (sym stops ∙ runs))) turns.others (turns.even (sym stops ∙ runs)) any);
  };
  begins = call.goes.begins;
  made = made_then state old mid new turns.made (made_by state seat (kind.WorkEnd n) mid new (reply, call) refl);
  proceeds =
      let ending = proceeds_by state 0 0 mid new below begins call.goes
      (subst (λ (d : D). Reaches (file_length mid.held.runs.sizes) 0 (state mid.disk) (state d)) (sym call.untouched) (reaches_none (state mid.disk)))
      (tells_quiet stops (ap (λ (d : D). (state d).faults) call.untouched)) in
      proceeds_then state old mid new turns.proceeds ending (omega (arith, told.0)) (omega arith);
}
  where
    says : Reply
    says = work_reply (work_in seat mid.held.book) mid.held.book.stopped

    entry : Entry
    entry = record { seat = seat; op = Work n; reply = work_reply (work_in seat mid.held.book) mid.held.book.stopped }

    told : (faults_of_turn (work_in seat mid.held.book).last ≡ faults_of says) × NamesStop says mid.held.book.stopped × (length (rows_given says) ≤ 0)
    told = work_says (work_in seat mid.held.book) mid.held.book.stopped

    stops : new.held.book.stopped ≡ mid.held.book.stopped
    stops = ap (λ (h : Held). h.book.stopped) call.held

    idle : (any : ℕ) → slice_index_or (slice_set mid.held.book.seats.work seat no_work) any no_work ≡ no_work
    idle any = ⊎_elim
        (λ (same : any ≡ seat). subst (λ (s : ℕ). slice_index_or (slice_set mid.held.book.seats.work seat no_work) s no_work ≡ no_work) (sym same) (ended_empty mid.held.book.seats.work seat))
        (λ (apart : any ≡ seat → ⊥). get_or-set_other mid.held.book.seats.work seat any no_work no_work apart ∙ turns.works any apart ∙ rests.idle any)
        (cases_eq any seat)

    ran : mid.held.book.stopped ≡ None → old.held.book.stopped ≡ None
    ran runs = by old.held.book.stopped refl
      where
        by : (o : Option Why) → old.held.book.stopped ≡ o → old.held.book.stopped ≡ None
        by None is = is
        by (Some why) is = let still = (turns.proceeds.tells.halted why is).0 in absurd (cc (still, runs))
