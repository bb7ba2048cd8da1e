-- From each step on: the end is that of what is paid for, and of the commands to come, done alone.
use Rattle.std.proofs.Common.{◌≡◌, ◌≢◌, ◌∙◌, refl, ap, sym, subst, ℕ, ◌+◌, ◌<◌, ◌≤◌, Bool, true, false, not, ◌&&◌, ◌||◌, ◌⊎◌, inl, inr, List, [], ◌∷◌, ◌++◌, length, None, is_some, append_assoc, arith, get_or-set_same, length-append, length-set, ltb-true}
use Rattle.std.proofs.lemmas.Grind.{common_steps}
use Rattle.std.proofs.lemmas.Bool.Decides.{nat_tests}
use Rattle.std.specs.Prelude.{nat_lt, slice_set}
use Rattle.std.specs.List.{AllByRecursion}
use Rattle.std.proofs.lemmas.Bool.{false≢true}
use Rattle.blsm_model.specs.Book.{Book}
use Rattle.blsm_model.specs.Format.{callers, most_turns}
use Rattle.blsm_model.specs.Legal.{is_write, is_look}
use Rattle.blsm_model.specs.declared.history.Entry.{Entry}
use Rattle.blsm_model.specs.declared.op.Op.{Op}
use Rattle.blsm_model.specs.declared.op.Op.TheVariants.{Work}
use Rattle.gear_sched.specs.Gears.{first_debt, second_debt}
use Rattle.tree_machine.proofs.FoldLemmas.{both_hold}
use Rattle.tree_machine.proofs.FrameLemmas.{step_follows}
use Rattle.tree_machine.specs.declared.step.Kind.{Kind}
use Rattle.tree_machine.specs.declared.step.Kind.TheVariants as kind
use Rattle.tree_machine.specs.Machine.{Machine, WorkSoFar, is_caller, is_worked, no_work, owes, work_of}
use Rattle.tree_machine.specs.Plays.{has_room, is_even, is_finished, may, may_note, stepped_as}
use Rattle.tree_machine.specs.Stands.{work_at}
use Rattle.tree_machine.specs.Steps.{Outcome, Well, admit, pay, work_end, work_turn, look}
use Rattle.alone_run.specs.Alone.{all_paid, but_left, ops_in}
use Rattle.alone_run.proofs.Resumed.{alone_resumed, done_resumed}
use Rattle.alone_run.proofs.Fuel.{all_paid_first, pay_synced}
use Rattle.alone_run.proofs.Lefts.{all_paid_left, alone_left, with_left}
use Rattle.alone_run.proofs.Moves.{Synced}
use Rattle.alone_run.proofs.Payments.{IsEven, Pays, all_paid_reads, even_not_owing, even_paid, even_pays_none, not_owing, paid_lengths, paid_seen, pay_as_well, pay_pays}
use Rattle.alone_run.proofs.Readings.{Calm, Reading, Seen, end_reads, ending, entry_of, last_of, read_as, seen, look_reads, look_well, looking}
use Rattle.alone_run.proofs.Since.{admit_between, between}
use Rattle.alone_run.proofs.Turns.{Notes, RestsOnceOver, Turns, admit_as_well, admit_notes, finished, longer, turn_as_well, turn_turns, turned_first}
use Rattle.blsm_model.proofs.LookLemmas.{look_is_no_write}

-- ---- what a run that one seat asks keeps

pub record IsAlone (s : ℕ) (m : Machine) : Type 0 where
  pub runs : m.stopped ≡ None
  pub lengths : length m.book.quanta ≡ length m.book.entries
  pub works : length m.seats.work ≡ callers
  pub synced : Synced m
  -- nobody else owes anything; the seat owes for an entry only
  pub others : (t : ℕ) → t ≢ s → IsEven t m
  pub paying : IsEven s m ⊎ (0 < length m.book.entries)
  -- an open work of it owes nothing, and rests once it is over
  pub working : ((work_of s m).turns ≡ 0) ⊎ (IsEven s m × RestsOnceOver s m)

-- what the end tells of a state before it
pub record Before (s : ℕ) (m : Machine) : Type 0 where
  pub runs : m.stopped ≡ None
  pub calm : Calm m.book.entries
  pub asked : AllByRecursion (λ e. e.seat ≡ s) m.book.entries

-- The end is that of this state with all paid, and of the commands of the entries to come, done alone. An open work is the first of them.
pub record Leads (s : ℕ) (m end : Machine) : Type 0 where
  pub added : List Entry
  pub entries : end.book.entries ≡ m.book.entries ++ added
  pub alike : but_left end ≡ but_left (alone_resumed s (all_paid s m) (ops_in added))
  pub first : 0 < (work_of s m).turns → (n : ℕ) × (ops : List Op) × (ops_in added ≡ Work n ∷ ops) × ((work_of s m).turns ≤ n)

caller_of : (seat : ℕ) (b c : Bool) → (is_caller seat && b && c) ≡ true → seat < callers
caller_of seat b c ok = ltb-true seat callers (both_hold (is_caller seat) b (both_hold (is_caller seat && b) c ok).0).0

even_from : (seat : ℕ) (m : Machine) → m.stopped ≡ None → is_even seat m ≡ true → IsEven seat m
even_from seat m runs ok = even_not_owing seat m (by (owes seat m) (is_some m.stopped) (ap is_some runs) ok)
  where
    by : (b c : Bool) → c ≡ false → (not b || c) ≡ true → b ≡ false
    by b c h1 h2 = grind (arith, common_steps, nat_tests)

module _ (s : ℕ) (end : Machine) where
  -- ---- steps that read

  abbrev Reads : Reading → Op → Machine → ℕ → Type 0
  Reads r op m seat =
      length (r.work (seen m)) ≡ length m.seats.work
      → (work_at seat (r.work (seen m))).turns ≡ 0
      → ((n : Machine) → seen n ≡ seen m → length n.book.quanta ≡ length n.book.entries → done_resumed seat op n ≡ read_as r seat op n)
      → (0 < (work_of seat m).turns → (n : ℕ) × (op ≡ Work n) × ((work_of seat m).turns ≤ n))
      → Before s (read_as r seat op m) → (IsAlone s (read_as r seat op m) → Leads s (read_as r seat op m) end) → Leads s m end

  own_reads : (r : Reading) (op : Op) (m : Machine) → is_write op ≡ false → IsAlone s m → Reads r op m s
  own_reads r op m other is works closed done fits before rest =
      let entry = entry_of s op (r.reply (seen m)) in
      let leads = rest (record {
        runs = is.runs;
        lengths = longer m.book.entries m.book.quanta entry (r.quanta (seen m)) is.lengths;
        works = works ∙ is.works;
        synced = is.synced;
        others = is.others;
        paying = inr (let more = length-append m.book.entries (entry ∷ []) in omega (arith, more));
        working = inl closed;
      }) in
      let fuel = first_debt m.gears s + second_debt m.gears s in
      record {
        added = entry ∷ leads.added;
        entries = leads.entries ∙ append_assoc m.book.entries (entry ∷ []) leads.added;
        alike = leads.alike ∙ ap (λ n. but_left (alone_resumed s n (ops_in leads.added)))
            (all_paid_reads s r op m other is.lengths is.paying ∙ sym (done (all_paid s m) (paid_seen s fuel m) (paid_lengths s fuel m is.lengths)));
        first = λ some. let fit = fits some in (fit.0, ops_in leads.added, ap (λ (o : Op). o ∷ ops_in leads.added) fit.1, fit.2);
      }

  reads : (r : Reading) (op : Op) (m : Machine) (seat : ℕ) → is_write op ≡ false → IsAlone s m → Reads r op m seat
  reads r op m seat other is works closed done fits before rest =
      let same : seat ≡ s = last_of (λ (e : Entry). e.seat ≡ s) m.book.entries (entry_of seat op (r.reply (seen m))) before.asked in
      subst (Reads r op m) (sym same) (own_reads r op m other is) works closed done fits before rest

  -- where no work of the seat is open
  pub free_reads : (r : Reading) (op : Op) (m new : Machine) (seat : ℕ) → new ≡ read_as r seat op m → is_write op ≡ false → IsAlone s m → r.work (seen m) ≡ m.seats.work → (work_of seat m).turns ≡ 0
      → ((n : Machine) → n.stopped ≡ None → done_resumed seat op n ≡ read_as r seat op n)
      → Before s new → (IsAlone s new → Leads s new end) → Leads s m end
  free_reads r op m new seat reading other is same closed done =
      subst (λ x. Before s x → (IsAlone s x → Leads s x end) → Leads s m end) (sym reading)
      (λ before rest. reads r op m seat other is (ap (λ (ws : List WorkSoFar). length ws) same) (ap (λ (ws : List WorkSoFar). (work_at seat ws).turns) same ∙ closed)
      (λ n alike lengths. done n (ap (λ (v : Seen). v.stopped) alike ∙ is.runs)) (λ some. absurd (omega (arith, some, closed))) before rest)

  pub end_leads : (m : Machine) (seat n : ℕ) → IsAlone s m → (is_caller seat && has_room m.book.room seat 0 && is_finished n (work_of seat m)) ≡ true
      → Before s (work_end m seat n).state → (IsAlone s (work_end m seat n).state → Leads s (work_end m seat n).state end) → Leads s m end
  end_leads m seat n is ok =
      subst (λ x. Before s x → (IsAlone s x → Leads s x end) → Leads s m end) (sym (end_reads m seat n is.lengths))
      (λ before rest. reads (ending seat) (Work n) m seat refl is (length-set m.seats.work seat no_work) closed done fits before rest)
    where
      within : seat < length m.seats.work
      within = let below = caller_of seat (has_room m.book.room seat 0) (is_finished n (work_of seat m)) ok in omega (arith, below, is.works)

      over : is_finished n (work_of seat m) ≡ true
      over = (both_hold (is_caller seat && has_room m.book.room seat 0) (is_finished n (work_of seat m)) ok).1

      closed : (work_at seat (slice_set m.seats.work seat no_work)).turns ≡ 0
      closed = ap (λ (w : WorkSoFar). w.turns) (get_or-set_same m.seats.work seat no_work no_work within)

      done : (x : Machine) → seen x ≡ seen m → length x.book.quanta ≡ length x.book.entries → done_resumed seat (Work n) x ≡ read_as (ending seat) seat (Work n) x
      done x alike lengths =
          let over_there : is_finished n (work_of seat x) ≡ true = ap (λ (v : Seen). is_finished n (work_at seat v.work)) alike ∙ over in
          ap (λ y. (work_end y seat n).state) (finished x seat n over_there).0 ∙ end_reads x seat n lengths

      fits : 0 < (work_of seat m).turns → (k : ℕ) × (Work n ≡ Work k) × ((work_of seat m).turns ≤ k)
      fits some = (n, refl, (finished m seat n over).1)

  -- ---- what the others owe

  others_stay : (m : Machine) (k : Kind) (outcome : Outcome) → may m s k ≡ true → IsAlone s m → (t : ℕ) → t ≢ s → IsEven t (stepped_as m s k outcome).state
  others_stay m k outcome ok is t other =
      let eases = (step_follows m s k outcome ok).others t other in
      let even = is.others t other in
      (omega (arith, eases.debt1, even.0), omega (arith, eases.debt2, even.1))

  -- ---- a write

  write_done : (op : Op) (m : Machine) → is_write op ≡ true → done_resumed s op m ≡ all_paid s (admit m s op Well).state
  write_done op m h1 = grind (arith, common_steps, nat_tests)

  -- ---- a command that only looks

  look_done : (seat : ℕ) (op : Op) (m : Machine) → is_look op ≡ true → done_resumed seat op m ≡ (look m seat op Well).state
  look_done seat op m h1 = grind (arith, common_steps, nat_tests)

  pub looks : (m : Machine) (seat : ℕ) (op : Op) (outcome : Outcome) → IsAlone s m → (is_look op && may_note seat 0 m) ≡ true → Before s (look m seat op outcome).state
      → (IsAlone s (look m seat op outcome).state → Leads s (look m seat op outcome).state end) → Leads s m end
  looks m seat op outcome is ok before =
      let can = both_hold (is_look op) (may_note seat 0 m) ok in
      free_reads (looking op) op m (look m seat op outcome).state seat (look_reads m seat op outcome is.runs before.calm) (look_is_no_write op can.0) is refl (between seat 0 m can.1)
      (λ n runs. look_done seat op n can.0 ∙ look_well n seat op runs) before

  abbrev Steps : Machine → Kind → Outcome → ℕ → Type 0
  Steps m k outcome seat =
      may m seat k ≡ true → Before s (stepped_as m seat k outcome).state → (IsAlone s (stepped_as m seat k outcome).state → Leads s (stepped_as m seat k outcome).state end) → Leads s m end

  pub own_admits : (m : Machine) (op : Op) (outcome : Outcome) → IsAlone s m → Steps m (kind.Admit op) outcome s
  own_admits m op outcome is ok before rest =
      let well = admit_as_well m s op outcome is.runs before.runs before.calm in
      let notes = subst (λ x. Notes s op m x) (sym well) (admit_notes m s op is.runs) in
      let entry = entry_of s op notes.reply in
      let write = (both_hold (is_write op) (may_note s 0 m) (both_hold (is_write op && may_note s 0 m) (is_even s m) ok).0).0 in
      let even = even_from s m is.runs (both_hold (is_write op && may_note s 0 m) (is_even s m) ok).1 in
      let closed = admit_between m s (is_write op) (is_even s m) ok in
      let leads = rest (record {
        runs = before.runs;
        lengths = notes.lengths is.lengths;
        works = ap (λ (ws : List WorkSoFar). length ws) notes.work ∙ is.works;
        synced = notes.synced is.synced;
        others = others_stay m (kind.Admit op) outcome ok is;
        paying = inr (let more = length-append m.book.entries (entry ∷ []) in let same = ap (λ (es : List Entry). length es) notes.entries in omega (arith, more, same));
        working = inl (ap (λ (ws : List WorkSoFar). (work_at s ws).turns) notes.work ∙ closed);
      }) in
      let fuel = first_debt m.gears s + second_debt m.gears s in
      record {
        added = entry ∷ leads.added;
        entries = leads.entries ∙ ap (λ es. es ++ leads.added) notes.entries ∙ append_assoc m.book.entries (entry ∷ []) leads.added;
        alike = leads.alike ∙ ap (λ n. but_left (alone_resumed s n (ops_in leads.added)))
            (ap (λ n. all_paid s n) well ∙ sym (write_done op m write) ∙ ap (λ n. done_resumed s op n) (sym (even_paid fuel s m even)));
        first = λ some. absurd (omega (arith, some, closed));
      }

  pub admits : (m : Machine) (seat : ℕ) (op : Op) (outcome : Outcome) → IsAlone s m → Steps m (kind.Admit op) outcome seat
  admits m seat op outcome is ok before rest =
      let notes = admit_notes m seat op is.runs in
      let asked = subst (λ (x : Machine). AllByRecursion (λ (e : Entry). e.seat ≡ s) x.book.entries)
      (admit_as_well m seat op outcome is.runs before.runs before.calm) before.asked in
      let same : seat ≡ s = last_of (λ (e : Entry). e.seat ≡ s) m.book.entries (entry_of seat op notes.reply) (subst (λ es. AllByRecursion (λ (e : Entry). e.seat ≡ s) es) notes.entries asked) in
      subst (Steps m (kind.Admit op) outcome) (sym same) (own_admits m op outcome is) ok before rest

  -- ---- a payment

  pub even_pays : (m : Machine) (seat : ℕ) (outcome : Outcome) → IsEven seat m → IsAlone s m → (IsAlone s (pay m seat outcome).state → Leads s (pay m seat outcome).state end) → Leads s m end
  even_pays m seat outcome even is rest =
      let same = even_pays_none seat m outcome even in
      subst (λ x. Leads s x end) same (rest (subst (λ x. IsAlone s x) (sym same) is))

  pub own_pays : (m : Machine) (outcome : Outcome) → IsAlone s m → Steps m kind.Pay outcome s
  own_pays m outcome is ok before rest = by (owes s m) refl
    where
      some_entry : IsEven s m ⊎ (0 < length m.book.entries) → owes s m ≡ true → 0 < length m.book.entries
      some_entry h1 h2 = grind (arith, common_steps, nat_tests)

      no_work_open : ((work_of s m).turns ≡ 0) ⊎ (IsEven s m × RestsOnceOver s m) → owes s m ≡ true → (work_of s m).turns ≡ 0
      no_work_open (inl none) owing = none
      no_work_open (inr begun) owing = absurd (false≢true (sym (not_owing s m begun.0) ∙ owing))

      paying : owes s m ≡ true → Leads s m end
      paying owing =
          let well = pay_as_well m s outcome before.runs in
          let pays = subst (λ x. Pays m x) (sym well) (pay_pays s m) in
          let works = ap (λ (v : Seen). v.work) pays.seen in
          let counts = ap (λ (es : List Entry). length es) pays.entries in
          let some = some_entry is.paying owing in
          let closed = no_work_open is.working owing in
          let leads = rest (record {
            runs = before.runs;
            lengths = pays.quanta ∙ is.lengths ∙ sym counts;
            works = ap (λ (ws : List WorkSoFar). length ws) works ∙ is.works;
            synced = subst (λ x. Synced x) (sym well) (pay_synced s m is.synced);
            others = others_stay m kind.Pay outcome ok is;
            paying = inr (omega (arith, some, counts));
            working = inl (ap (λ (ws : List WorkSoFar). (work_at s ws).turns) works ∙ closed);
          }) in
          record {
            added = leads.added;
            entries = leads.entries ∙ ap (λ es. es ++ leads.added) pays.entries;
            alike = leads.alike ∙ ap (λ n. but_left (alone_resumed s n (ops_in leads.added))) (ap (λ n. all_paid s n) well ∙ sym (all_paid_first s m is.synced is.runs owing));
            first = λ turns. absurd (omega (arith, turns, closed));
          }

      by : (b : Bool) → owes s m ≡ b → Leads s m end
      by true owing = paying owing
      by false none = even_pays m s outcome (even_not_owing s m none) is rest

  -- ---- a turn of work

  rests_of : (m : Machine) → ((work_of s m).turns ≡ 0) ⊎ (IsEven s m × RestsOnceOver s m) → RestsOnceOver s m
  rests_of m (inl none) = λ over. absurd (let some = ltb-true 0 (work_of s m).turns (both_hold (nat_lt 0 (work_of s m).turns) (not (is_worked (work_of s m).last)) over).0 in omega (arith, some, none))
  rests_of m (inr begun) = begun.1

  -- a work that goes on to the same end leads to the same
  work_alike : (old new : Machine) (n : ℕ) (ops more : List Op) → IsEven s old → IsEven s new → ops ≡ Work n ∷ more → done_resumed s (Work n) new ≡ done_resumed s (Work n) old
      → but_left (alone_resumed s (all_paid s new) ops) ≡ but_left (alone_resumed s (all_paid s old) ops)
  work_alike old new n ops more even even_too are same = grind (arith, common_steps, nat_tests, alone_resumed, even_paid)

  turn_leads : (m new : Machine) → IsAlone s m → s < length m.seats.work → new ≡ (work_turn m s Well).state → IsEven s m → Turns s m new → Leads s new end → Leads s m end
  turn_leads m new is within well even turns leads =
      let work = leads.first (omega (arith, turns.turns)) in
      record {
        added = leads.added;
        entries = leads.entries ∙ ap (λ (b : Book). b.entries ++ leads.added) turns.book;
        alike = leads.alike ∙ work_alike m new work.0 (ops_in leads.added) work.1 even (turns.even even) work.2 (same work.0 work.3);
        first = λ some. (work.0, work.1, work.2, (let most = work.3 in omega (arith, most, turns.turns)));
      }
    where
      same : (n : ℕ) → (work_of s new).turns ≤ n → done_resumed s (Work n) new ≡ done_resumed s (Work n) m
      same n most = ap (λ x. done_resumed s (Work n) x) well ∙ sym (turned_first m s n is.runs within (rests_of m is.working) (subst (λ (x : Machine). (work_of s x).turns ≤ n) well most))

  pub own_turns : (m : Machine) (outcome : Outcome) → s < callers → IsAlone s m → Steps m kind.WorkTurn outcome s
  own_turns m outcome caller is ok before rest =
      let well = turn_as_well m s outcome before.runs in
      let within : s < length m.seats.work = omega (arith, caller, is.works) in
      let turns = subst (λ x. Turns s m x) (sym well) (turn_turns m s is.runs within) in
      let even = even_from s m is.runs (both_hold (is_caller s && nat_lt (work_of s m).turns most_turns) (is_even s m) ok).1 in
      turn_leads m (work_turn m s outcome).state is within well even turns (rest (record {
        runs = before.runs;
        lengths = subst (λ (b : Book). length b.quanta ≡ length b.entries) (sym turns.book) is.lengths;
        works = turns.works ∙ is.works;
        synced = turns.synced is.synced;
        others = others_stay m kind.WorkTurn outcome ok is;
        paying = inl (turns.even even);
        working = inr (turns.even even, turns.rests);
      }))

  pub turning_caller : (m : Machine) (seat : ℕ) → may m seat kind.WorkTurn ≡ true → seat < callers
  turning_caller m seat ok = caller_of seat (nat_lt (work_of seat m).turns most_turns) (is_even seat m) ok

  -- another seat's turn would leave an open work
  pub no_other_turns : (m : Machine) (seat : ℕ) (outcome : Outcome) → IsAlone s m → may m seat kind.WorkTurn ≡ true → (work_turn m seat outcome).state.stopped ≡ None → (work_of seat (work_turn m seat outcome).state).turns ≡ 0 → ⊥
  no_other_turns m seat outcome is ok runs none = grind (arith, common_steps, nat_tests, turn_as_well, turn_turns)

  -- ---- a caller leaves

  pub leaves : (m : Machine) (seat : ℕ) → IsAlone s m → (IsAlone s (with_left (slice_set m.seats.left seat true) m) → Leads s (with_left (slice_set m.seats.left seat true) m) end) → Leads s m end
  leaves m seat is rest =
      let l = slice_set m.seats.left seat true in
      let leads = rest (record { runs = is.runs; lengths = is.lengths; works = is.works; synced = is.synced; others = is.others; paying = is.paying; working = is.working }) in
      record {
        added = leads.added;
        entries = leads.entries;
        alike = leads.alike ∙ ap (λ n. but_left (alone_resumed s n (ops_in leads.added))) (all_paid_left s l m) ∙ ap but_left (alone_left s (ops_in leads.added) l (all_paid s m));
        first = leads.first;
      }
