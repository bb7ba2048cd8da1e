-- A turn is made of its move, and what is told where the book alone changes.
use Rattle.std.proofs.Common.{◌≡◌, ◌∙◌, ℕ, ◌+◌, ◌<◌, ◌≤◌, Bool, true, false, cond, not, ◌||◌, ◌&&◌, List, length, Option, None, refl, ap, sym, subst, arith}
use Rattle.std.proofs.lemmas.Grind.{common_steps}
use Rattle.std.proofs.lemmas.Bool.Decides.{nat_tests}
use Rattle.std.specs.Prelude.{◌==◌, is_some, slice_index, slice_index_or, slice_set, sum}
use Rattle.std.proofs.lemmas.Bool.{false≢true, eq-eqb, eqb-true, le-leb, lt-leb, and_parts, and_from}
use Rattle.std.proofs.lemmas.List.{set-get_or}
use Rattle.blsm_model.specs.Format.{callers, most_entries}
use Rattle.blsm_model.specs.Book.{Book, HasRoom}
use Rattle.blsm_model.specs.declared.op.Op.TheVariants.{Work}
use Rattle.catalog_swap.specs.declared.catalog.Catalog.{Catalog}
use Rattle.gear_sched.specs.Gears.{GearState, first_debt, second_debt, deep_is_behind}
use Rattle.pacing.specs.Pace.{Pace, Quantum, pass_done, deep_done, with_rotation, with_snow, with_deep}
use Rattle.pacing.proofs.Ends.{ends_begun}
use Rattle.tree_log.specs.Log.{end_of_a, end_of_b}
use Rattle.pacing.specs.Kept.{IsPaced}
use Rattle.pacing.specs.Counts.{IsCounted}
use Rattle.pacing.specs.Steps as pacing
use Rattle.pacing.specs.Steps.{Move, SwapDeep, SwapPass, TakeDeep, TakeSnow, Begin, Rotate, Idle, FitsMove, MayTurn, after, may_begin, turn_of, turned_by, is_worker_seat}
use Rattle.pacing.proofs.Runs.{step_keeps}
use Rattle.pacing.proofs.Counts.{step_counts, counted_few}
use Rattle.pacing.proofs.Spent.{step_spends}
use Rattle.paced_tree.proofs.Terms.{no_quantum}
use Rattle.paced_tree.specs.Numbers.{IsBooked}
use Rattle.paced_tree.specs.Booking.{IsBookOf, quanta_of_move}
use Rattle.paced_tree.specs.Made.{IsTurnedBy}
use Rattle.paced_tree.proofs.BookLaws.{turn_books, help_books, end_books}
use Rattle.tree_machine.specs.Machine.{WorkSoFar, no_work, Turned, seats}
use Rattle.tree_machine.specs.Steps.{Turn, work_reply}
use Rattle.seat_book.specs.State.{BookState, work_in, with_ended, turned_in, helped_in, ended_in, left_in}
use Rattle.snow_merge.specs.Pass.{SnowState}
use Rattle.deep_merge.specs.Merge.{DeepState}
use Rattle.tree_runs.specs.Runs.{left_for_pass, left_for_deep}
use Rattle.core_moves.specs.declared.held.Held.{Held}
use Rattle.core_moves.specs.Moves.{with_pass_begun, with_book}
use Rattle.core_pace.specs.Pacing.{IsPacedHeld, HasPace, IsRunBook}
use Rattle.core_pace.specs.Turns.{move_in, may_begin_in, MayMove, TurnsBy, end_of_move}
use Rattle.core_pace.proofs.TestLemmas.{done_agrees}
use Rattle.core_pace.proofs.SwapLemmas.{rotation_has_pace, begin_has_pace}
use Rattle.core_pace.proofs.QuantumLemmas.{snow_has_pace, deep_has_pace}
use Rattle.core_pace.proofs.OneLemmas.{each_move_keeps_one}
use Rattle.core_pace.proofs.BookLemmas.{rebooked, one_rebooked}
use Rattle.core_pace.proofs.NeedLemmas.{way_is_free}
use Rattle.core_pace.proofs.EventLemmas.{Stands, moved_on, deep_swapped, pass_swapped, room_taken, ends_stay, lanes_stay}
use Rattle.core_pace.proofs.FollowLemmas.{no_pass, quantum_drops, whole_at_rest}
use Rattle.core_moves.specs.Held.{IsOne}
use Rattle.core_pace.proofs.Terms.{snow_quantum, deep_quantum, MayWorkIn, MayHelpIn, Works, Helps}

-- ---- which move it is

same_move : (b1 b2 b3 b4 b5 b6 c1 c2 c3 c4 c5 c6 : Bool) → b1 ≡ c1 → b2 ≡ c2 → b3 ≡ c3 → b4 ≡ c4 → b5 ≡ c5 → b6 ≡ c6
    → cond b1 SwapDeep (cond b2 SwapPass (cond b3 TakeDeep (cond b4 TakeSnow (cond b5 Begin (cond b6 Rotate Idle)))))
    ≡ cond c1 SwapDeep (cond c2 SwapPass (cond c3 TakeDeep (cond c4 TakeSnow (cond c5 Begin (cond c6 Rotate Idle)))))
same_move b1 b2 b3 b4 b5 b6 c1 c2 c3 c4 c5 c6 e1 e2 e3 e4 e5 e6 = cc (e1, e2, e3, e4, e5, e6)

-- it is the pacing's
pub move_is_turn : (is_worker : Bool) (held : Held) (pace : Pace) → HasPace held pace → IsOne held → move_in is_worker held ≡ turn_of is_worker pace
move_is_turn is_worker held pace p one =
    same_move _ _ _ _ _ _ _ _ _ _ _ _ deep_done_is pass_done_is behind_is (sym p.in_pass) (begins_is is_worker) rotates_is
  where
    sizes : pace.gears.sizes ≡ held.runs.sizes
    sizes = ap (λ (g : GearState). g.sizes) p.gears ∙ one.gears

    deep_done_is : (is_some held.runs.deep && (left_for_deep held.runs.deep == 0)) ≡ (pace.gears.deep && deep_done pace)
    deep_done_is = done_agrees (is_some held.runs.deep) pace.gears.deep pace.gears.deep_taken (left_for_deep held.runs.deep) (pace.c1x + pace.c2) p.in_deep p.deep_left

    pass_done_is : (is_some held.runs.pass && (left_for_pass held.runs.pass held.log.a.entries == 0)) ≡ (pace.gears.pass && pass_done pace)
    pass_done_is = done_agrees (is_some held.runs.pass) pace.gears.pass pace.gears.pass_taken (left_for_pass held.runs.pass held.log.a.entries) (pace.a + pace.c1) p.in_pass p.pass_left

    behind_is : (is_some held.runs.deep && (not (is_some held.runs.pass) || deep_is_behind held.gears)) ≡ (pace.gears.deep && (not pace.gears.pass || deep_is_behind pace.gears))
    behind_is = grind (arith, common_steps, nat_tests)

    begins_is : (b : Bool) → may_begin_in b held ≡ may_begin b pace
    begins_is b = grind (arith, common_steps, nat_tests)

    rotates_is : (not is_worker && not (held.runs.catalogue.c1.weight == 0)) ≡ (not is_worker && not (pace.c1 == 0))
    rotates_is = ap (λ (n : ℕ). not is_worker && not (n == 0)) (sym p.c1)

-- ---- what a move requires of the merges

some_left : (runs : Bool) (left : ℕ) → (runs && (left == 0)) ≡ false → runs ≡ true → 0 < left
some_left runs left h1 h2 = grind (arith, common_steps, nat_tests)

-- no deep merge runs where neither a pass nor a quantum of a deep merge is due
no_deep : (deep : Option DeepState) (pass behind : Bool) → pass ≡ false → (is_some deep && (not pass || behind)) ≡ false → deep ≡ None
no_deep deep pass behind h1 h2 = grind (arith, common_steps, nat_tests)

none_left : (runs : Bool) (left : ℕ) → (runs && (left == 0)) ≡ true → (runs ≡ true) × (left ≡ 0)
none_left runs left is = let parts = and_parts runs (left == 0) is in (parts.0, eqb-true left 0 parts.1)

may_move_by : (held : Held) (b1 b2 b3 b4 b5 b6 : Bool) → (b1 ≡ true → MayMove SwapDeep held) → (b1 ≡ false → b2 ≡ true → MayMove SwapPass held) → (b3 ≡ true → MayMove TakeDeep held)
    → (b2 ≡ false → b4 ≡ true → MayMove TakeSnow held) → (b4 ≡ false → b3 ≡ false → MayMove Rotate held)
    → MayMove (cond b1 SwapDeep (cond b2 SwapPass (cond b3 TakeDeep (cond b4 TakeSnow (cond b5 Begin (cond b6 Rotate Idle)))))) held
may_move_by held b1 b2 b3 b4 b5 b6 h1 h2 h3 h4 h5 = grind (arith, common_steps, nat_tests)

-- it may be made
pub turn_may_move : (is_worker : Bool) (held : Held) (pace : Pace) → IsPacedHeld held pace → MayMove (move_in is_worker held) held
turn_may_move is_worker held pace k =
    may_move_by held (is_some held.runs.deep && (left_for_deep held.runs.deep == 0)) (is_some held.runs.pass && (left_for_pass held.runs.pass held.log.a.entries == 0))
    (is_some held.runs.deep && (not (is_some held.runs.pass) || deep_is_behind held.gears)) (is_some held.runs.pass) (may_begin_in is_worker held)
    (not is_worker && not (held.runs.catalogue.c1.weight == 0))
    (λ is. none_left (is_some held.runs.deep) (left_for_deep held.runs.deep) is)
    (λ still is.
    let done = none_left (is_some held.runs.pass) (left_for_pass held.runs.pass held.log.a.entries) is in
    (done, way_is_free held pace k.numbers k.one k.told.paced (λ over. false≢true (sym still ∙ and_from (is_some held.runs.deep) (left_for_deep held.runs.deep == 0) over.0 (eq-eqb (left_for_deep held.runs.deep) 0 over.1))) done))
    (λ is. (and_parts (is_some held.runs.deep) (not (is_some held.runs.pass) || deep_is_behind held.gears) is).0)
    (λ still runs. (runs, some_left (is_some held.runs.pass) (left_for_pass held.runs.pass held.log.a.entries) still runs))
    (λ rests none. (no_pass held.runs.pass rests, no_deep held.runs.deep (is_some held.runs.pass) (deep_is_behind held.gears) rests none))

-- ---- what a move leaves

no_more : (b : Bool) (n : ℕ) → b ≡ false → cond b (n + 1) n ≡ n
no_more b n is = ap (λ (c : Bool). cond c (n + 1) n) is

record Moved (moved : Held) (pace : Pace) (seat : ℕ) (move : Move) (quantum : Quantum) : Type 0 where
  pub fits : FitsMove move pace quantum
  pub stands : Stands moved (turned_by move pace seat quantum)

moved_by : (move : Move) (seat n : ℕ) (old moved : Held) (pace : Pace) → IsPaced pace → Stands old pace → MayMove move old → TurnsBy move seat n old moved → (quantum : Quantum) × Moved moved pace seat move quantum
moved_by SwapDeep seat n old moved pace paced s need m = (no_quantum, record { fits = tt; stands = deep_swapped old moved pace s m })
moved_by SwapPass seat n old moved pace paced s need m = (no_quantum, record { fits = tt; stands = pass_swapped old moved pace paced.within (s.numbers.in_pass ∙ need.0.0) s m })
moved_by TakeDeep seat n old moved pace paced s need m =
    let deep = deep_has_pace seat n old moved pace s.numbers s.one paced.within m in (
      deep_quantum n moved,
      record {
        fits = deep.0;
        stands = record {
          numbers = deep.1;
          one = (each_move_keeps_one old moved s.one).deep seat n m;
          ends = ends_stay old moved pace (with_deep pace seat (deep_quantum n moved)) m.log refl refl refl refl s.ends;
          version = omega (arith, s.version, ap (λ (c : Catalog). c.version) m.others.catalogue);
        };
      },
    )
moved_by TakeSnow seat n old moved pace paced s need m =
    let snow = snow_has_pace seat n old moved pace s.numbers s.one paced.within need.1 m in (
      snow_quantum n old moved,
      record {
        fits = snow.0;
        stands = record {
          numbers = snow.1;
          one = (each_move_keeps_one old moved s.one).snow seat n m;
          ends = lanes_stay old moved pace (with_snow pace seat (snow_quantum n old moved)) (quantum_drops seat n old moved s.one m).lanes refl refl refl refl s.ends;
          version = omega (arith, s.version, ap (λ (c : Catalog). c.version) m.others.catalogue);
        };
      },
    )
moved_by Begin seat n old moved pace paced s need m =
    (no_quantum, record { fits = tt; stands = moved_on (with_pass_begun old) moved (turned_by Begin pace seat no_quantum) m (record { numbers = begin_has_pace old pace s.numbers (whole_at_rest old s.one need); one = (each_move_keeps_one old old s.one).begin need; ends = ends_begun pace (end_of_a old.log) (end_of_b old.log) paced.within (s.numbers.in_pass ∙ ap (λ (r : Option SnowState). is_some r) need) s.ends; version = s.version }) })
moved_by Rotate seat n old moved pace paced s need m = (
  no_quantum,
  record {
    fits = tt;
    stands = record {
      numbers = rotation_has_pace old moved pace s.numbers need.0 m;
      one = (each_move_keeps_one old moved s.one).rotation need.0 m;
      ends = ends_stay old moved pace (with_rotation pace) m.log refl refl refl refl s.ends;
      version = omega (arith, s.version, ap (λ (c : Catalog). c.version) m.runs.catalogue, no_more pace.gears.deep pace.deeps (s.numbers.in_deep ∙ ap (λ (d : Option DeepState). is_some d) need.1));
    };
  },
)
moved_by Idle seat n old moved pace paced s need m = (no_quantum, record { fits = tt; stands = moved_on old moved pace m s })

-- of the book a move counts its quantum alone
record Counted (old moved : BookState) (seat more : ℕ) : Type 0 where
  pub book : moved.book ≡ old.book
  pub work : moved.seats.work ≡ old.seats.work
  pub quanta : moved.seats.quanta ≡ slice_set old.seats.quanta seat (slice_index old.seats.quanta seat + more)

none_more : (xs : List ℕ) (i : ℕ) → xs ≡ slice_set xs i (slice_index xs i + 0)
none_more xs i = let none : slice_index xs i + 0 ≡ slice_index xs i = omega arith in sym (ap (λ (n : ℕ). slice_set xs i n) none ∙ set-get_or xs i 0)

counted_none : (old moved : BookState) (seat : ℕ) → moved.book ≡ old.book → moved.seats ≡ old.seats → Counted old moved seat 0
counted_none old moved seat book seats = grind (arith, common_steps, nat_tests, none_more)

counted_one : (old moved : BookState) (seat : ℕ) → moved ≡ Rattle.seat_book.specs.State.quantum_counted_in seat old → Counted old moved seat 1
counted_one old moved seat is = grind (arith, common_steps, nat_tests)

counted_by : (move : Move) (seat n : ℕ) (old moved : Held) → TurnsBy move seat n old moved → Counted old.book moved.book seat (quanta_of_move move)
counted_by move seat n old moved h1 = grind (arith, common_steps, nat_tests, counted_none, counted_one)

-- ---- a turn

module _ (is_worker : Bool) (seat n : ℕ) (old moved : Held) (pace : Pace) (k : IsPacedHeld old pace) (seat_is : is_worker_seat seat ≡ is_worker)
    (settled : first_debt old.gears seat + second_debt old.gears seat ≡ 0) (moves : TurnsBy (move_in is_worker old) seat n old moved) where
  abbrev move : Move
  move = move_in is_worker old

  turn_is : turn_of (is_worker_seat seat) pace ≡ move
  turn_is = ap (λ (b : Bool). turn_of b pace) seat_is ∙ sym (move_is_turn is_worker old pace k.numbers k.one)

  step : (quantum : Quantum) × Moved moved pace seat move quantum
  step = moved_by move seat n old moved pace k.told.paced (record { numbers = k.numbers; one = k.one; ends = k.ends; version = k.version }) (turn_may_move is_worker old pace k) moves

  abbrev next : Pace
  next = after pace (pacing.Turn seat step.0)

  may : MayTurn pace seat step.0
  may = record {
    settled = subst (λ (g : GearState). first_debt g seat + second_debt g seat ≡ 0) (sym k.numbers.gears) settled;
    fits = subst (λ (m : Move). FitsMove m pace step.0) (sym turn_is) step.1.fits;
  }

  stands : Stands moved next
  stands = subst (λ (m : Move). Stands moved (turned_by m pace seat step.0)) (sym turn_is) step.1.stands

  counts : IsCounted next
  counts = step_counts pace (pacing.Turn seat step.0) k.told.paced k.counted may

  counted : Counted old.book moved.book seat (quanta_of_move move)
  counted = counted_by move seat n old moved moves

  -- the quanta of the turn are the move's
  more_is : quanta_of_move (turn_of (is_worker_seat seat) pace) ≡ quanta_of_move move
  more_is = ap (λ (m : Move). quanta_of_move m) turn_is

  ends_by : (m : Move) → turn_of (is_worker_seat seat) pace ≡ m → IsTurnedBy (Turn (end_of_move m)) seat pace next
  ends_by SwapDeep is = (step.0, may, refl)
  ends_by SwapPass is = (step.0, may, refl)
  ends_by TakeDeep is = (step.0, may, refl)
  ends_by TakeSnow is = (step.0, may, refl)
  ends_by Begin is = (step.0, may, refl)
  ends_by Rotate is = (step.0, may, refl)
  ends_by Idle is = ap (λ (m : Move). turned_by m pace seat step.0) is

  ends : IsTurnedBy (Turn (end_of_move move)) seat pace next
  ends = ends_by move turn_is

  -- with a book that is booked
  held_with : (b : BookState) → b.counts ≡ moved.book.counts → b.book ≡ old.book.book → IsBookOf b.book b.seats next → IsPacedHeld (with_book b moved) next
  held_with b same book booked = record {
    numbers = rebooked moved b next same stands.numbers;
    told = record {
      booked = booked;
      paced = step_keeps pace (pacing.Turn seat step.0) k.told.paced may;
      few = counted_few next counts;
      spent = step_spends pace (pacing.Turn seat step.0) k.told.paced k.told.spent may;
      entries = subst (λ (c : Book). length c.entries + sum c.room.entries ≤ most_entries) (sym book) k.told.entries;
    };
    counted = counts;
    one = one_rebooked moved b stands.one;
    ends = stands.ends;
    version = stands.version;
  }

-- ---- of a caller's work

module _ (seat n : ℕ) (old moved : Held) (pace : Pace) (k : IsPacedHeld old pace) (may : MayWorkIn seat old) (moves : TurnsBy (move_in false old) seat n old moved) where
  caller_is : is_worker_seat seat ≡ false
  caller_is = lt-leb callers seat may.caller

  abbrev work_next : Pace
  work_next = next false seat n old moved pace k caller_is may.settled moves

  abbrev more : ℕ
  more = quanta_of_move (move_in false old)

  abbrev now : List WorkSoFar → WorkSoFar
  now works = with_ended (slice_index_or works seat no_work) (end_of_move (move_in false old)) more

  work_booked : IsBooked work_next.gears.sizes moved.book.book moved.book.seats.quanta (slice_set moved.book.seats.work seat (now moved.book.seats.work)) work_next.work work_next.admitted work_next.writes work_next.weights work_next.quanta
  work_booked =
      let c = counted false seat n old moved pace k caller_is may.settled moves in
      let is = more_is false seat n old moved pace k caller_is may.settled moves in
      let quantum = (step false seat n old moved pace k caller_is may.settled moves).0 in
      subst (λ (b : Book). IsBooked work_next.gears.sizes b moved.book.seats.quanta (slice_set moved.book.seats.work seat (now moved.book.seats.work)) work_next.work work_next.admitted work_next.writes work_next.weights work_next.quanta) (sym c.book)
      (subst (λ (ws : List WorkSoFar). IsBooked work_next.gears.sizes old.book.book moved.book.seats.quanta (slice_set ws seat (now ws)) work_next.work work_next.admitted work_next.writes work_next.weights work_next.quanta) (sym c.work)
      (subst (λ (qs : List ℕ). IsBooked work_next.gears.sizes old.book.book qs (slice_set old.book.seats.work seat (now old.book.seats.work)) work_next.work work_next.admitted work_next.writes work_next.weights work_next.quanta) (sym c.quanta)
      (subst (λ (m : ℕ). IsBooked work_next.gears.sizes old.book.book (slice_set old.book.seats.quanta seat (slice_index old.book.seats.quanta seat + m)) (slice_set old.book.seats.work seat (now old.book.seats.work)) work_next.work work_next.admitted work_next.writes work_next.weights work_next.quanta) is
      (turn_books old.book.book old.book.seats pace seat quantum (now old.book.seats.work) may.caller may.works (ap (λ (m : ℕ). (slice_index_or old.book.seats.work seat no_work).quanta + m) (sym is)) k.told.booked))))

  worked_held : IsPacedHeld (with_book (turned_in seat (end_of_move (move_in false old)) more moved.book) moved) work_next
  worked_held = held_with false seat n old moved pace k caller_is may.settled moves (turned_in seat (end_of_move (move_in false old)) more moved.book) refl
      (counted false seat n old moved pace k caller_is may.settled moves).book work_booked

-- It is one turn of the pacing; the pace stays where it idles.
pub work_is_paced : (seat n : ℕ) (old moved new : Held) (pace : Pace) → IsPacedHeld old pace → MayWorkIn seat old → Works seat n old moved new
    → (next : Pace) × IsTurnedBy (Turn (end_of_move (move_in false old))) seat pace next × IsPacedHeld new next
work_is_paced seat n old moved new pace k may works = (
  work_next seat n old moved pace k may works.moves,
  ends false seat n old moved pace k (caller_is seat n old moved pace k may works.moves) may.settled works.moves,
  subst (λ (h : Held). IsPacedHeld h (work_next seat n old moved pace k may works.moves)) (sym works.counted) (worked_held seat n old moved pace k may works.moves),
)

-- ---- of a worker

module _ (seat n : ℕ) (old moved : Held) (pace : Pace) (k : IsPacedHeld old pace) (may : MayHelpIn seat) (moves : TurnsBy (move_in true old) seat n old moved) where
  worker_is : is_worker_seat seat ≡ true
  worker_is = le-leb callers seat may.worker

  none_owed : first_debt old.gears seat + second_debt old.gears seat ≡ 0
  none_owed = grind (arith, common_steps, nat_tests)

  abbrev help_next : Pace
  help_next = next true seat n old moved pace k worker_is none_owed moves

  help_booked : IsBooked help_next.gears.sizes moved.book.book moved.book.seats.quanta moved.book.seats.work help_next.work help_next.admitted help_next.writes help_next.weights help_next.quanta
  help_booked =
      let c = counted true seat n old moved pace k worker_is none_owed moves in
      let is = more_is true seat n old moved pace k worker_is none_owed moves in
      let quantum = (step true seat n old moved pace k worker_is none_owed moves).0 in
      subst (λ (b : Book). IsBooked help_next.gears.sizes b moved.book.seats.quanta moved.book.seats.work help_next.work help_next.admitted help_next.writes help_next.weights help_next.quanta) (sym c.book)
      (subst (λ (ws : List WorkSoFar). IsBooked help_next.gears.sizes old.book.book moved.book.seats.quanta ws help_next.work help_next.admitted help_next.writes help_next.weights help_next.quanta) (sym c.work)
      (subst (λ (qs : List ℕ). IsBooked help_next.gears.sizes old.book.book qs old.book.seats.work help_next.work help_next.admitted help_next.writes help_next.weights help_next.quanta) (sym c.quanta)
      (subst (λ (m : ℕ). IsBooked help_next.gears.sizes old.book.book (slice_set old.book.seats.quanta seat (slice_index old.book.seats.quanta seat + m)) old.book.seats.work help_next.work help_next.admitted help_next.writes help_next.weights help_next.quanta) is
      (help_books old.book.book old.book.seats pace seat quantum may.worker may.there k.told.booked))))

  helped_held : IsPacedHeld (with_book (helped_in seat moved.book) moved) help_next
  helped_held = held_with true seat n old moved pace k worker_is none_owed moves (helped_in seat moved.book) refl
      (counted true seat n old moved pace k worker_is none_owed moves).book help_booked

pub help_is_paced : (seat n : ℕ) (old moved new : Held) (pace : Pace) → IsPacedHeld old pace → MayHelpIn seat → Helps seat n old moved new
    → (next : Pace) × IsTurnedBy (Turn (end_of_move (move_in true old))) seat pace next × IsPacedHeld new next
help_is_paced seat n old moved new pace k may helps = (
  help_next seat n old moved pace k may helps.moves,
  ends true seat n old moved pace k (worker_is seat n old moved pace k may helps.moves) (none_owed seat n old moved pace k may helps.moves) helps.moves,
  subst (λ (h : Held). IsPacedHeld h (help_next seat n old moved pace k may helps.moves)) (sym helps.counted) (helped_held seat n old moved pace k may helps.moves),
)

-- ---- the book alone

-- a turn that took no quantum: the tree has stopped, or the move failed
pub turn_is_told : (b : BookState) (pace : Pace) (seat : ℕ) (ended : Turned) → seat < callers → length b.seats.work ≡ callers → IsRunBook b pace → IsRunBook (turned_in seat ended 0 b) pace
turn_is_told b pace seat ended caller works told = grind (arith, common_steps, nat_tests)

pub help_is_told : (b : BookState) (pace : Pace) (seat : ℕ) → IsRunBook b pace → IsRunBook (helped_in seat b) pace
help_is_told b pace seat told = record { booked = told.booked; paced = told.paced; few = told.few; spent = told.spent; entries = told.entries }

pub leave_is_told : (b : BookState) (pace : Pace) (seat : ℕ) → IsRunBook b pace → IsRunBook (left_in seat b) pace
leave_is_told b pace seat told = record { booked = told.booked; paced = told.paced; few = told.few; spent = told.spent; entries = told.entries }

-- the end of a work, whose entry has room
pub end_is_told : (b : BookState) (pace : Pace) (seat n : ℕ) → length b.seats.work ≡ callers → HasRoom b.book.room (record { seat = seat; op = Work n; reply = work_reply (work_in seat b) b.stopped }) → IsRunBook b pace
    → IsRunBook (ended_in seat n b) pace
end_is_told b pace seat n works room told = record {
  booked = end_books b.book b.seats pace seat (record { seat = seat; op = Work n; reply = work_reply (work_in seat b) b.stopped }) room.seat works refl told.booked;
  paced = told.paced;
  few = told.few;
  spent = told.spent;
  entries = room_taken b.book (record { seat = seat; op = Work n; reply = work_reply (work_in seat b) b.stopped }) room told.entries;
}

-- a book that is told, with the same counts, keeps the core paced
pub book_is_paced : (held : Held) (b : BookState) (pace : Pace) → IsPacedHeld held pace → b.counts ≡ held.book.counts → IsRunBook b pace → IsPacedHeld (with_book b held) pace
book_is_paced held b pace k same told = record {
  numbers = rebooked held b pace same k.numbers;
  told = told;
  counted = k.counted;
  one = one_rebooked held b k.one;
  ends = k.ends;
  version = k.version;
}
