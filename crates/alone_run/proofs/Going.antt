-- Commands done alone: the tree runs on, and the seat owes nothing after each.
use Rattle.std.proofs.Common.{◌≡◌, ◌∙◌, refl, ap, sym, subst, ℕ, zero, suc, ◌+◌, ◌-◌, ◌<◌, Bool, cond, true, false, List, [], ◌∷◌, length, None, arith, get_or-set_same, length-set}
use Rattle.blsm_model.specs.Format.{callers}
use Rattle.blsm_model.specs.Sizes.{Sizes}
use Rattle.blsm_model.specs.declared.room.Room.{Room}
use Rattle.record_delta.specs.Entries.{Entries}
use Rattle.blsm_model.specs.declared.op.Op.{Op}
use Rattle.blsm_model.specs.declared.op.Op.TheVariants.{Hold, Next, Release, Work}
use Rattle.gear_sched.specs.Gears.{first_debt, second_debt}
use Rattle.tree_machine.specs.Machine.{Catalogue, Machine, WorkSoFar, no_work, opened, work_of, owes}
use Rattle.tree_machine.specs.Stands.{work_at}
use Rattle.tree_machine.specs.Steps.{Well, admit, do_hold, work_end, work_turn, look}
use Rattle.alone_run.specs.Alone.{all_paid, alone, done_alone, is_over, turned}
use Rattle.alone_run.proofs.Fuel.{all_paid_even, paid_synced}
use Rattle.alone_run.proofs.Moves.{Synced}
use Rattle.alone_run.proofs.Payments.{IsEven, not_owing, paid_seen}
use Rattle.alone_run.proofs.Readings.{Reading, Seen, drop_reads, next_well, read_as, reading_on, releasing, running_is, seen, taking_hold, look_well, looking}
use Rattle.alone_run.proofs.Resumed.{alone_resumed, done_resumed}
use Rattle.alone_run.proofs.Turns.{admit_notes, replicated, turn_turns}
use Rattle.blsm_model.specs.Legal.{is_look}

module _ (s : ℕ) (caller : s < callers) where
  pub record IsGoing (m : Machine) : Type 0 where
    pub runs : m.stopped ≡ None
    pub works : length m.seats.work ≡ callers
    pub synced : Synced m
    pub even : IsEven s m

  reads_go : (r : Reading) (op : Op) (m new : Machine) → new ≡ read_as r s op m → r.work (seen m) ≡ m.seats.work → IsGoing m → IsGoing new
  reads_go r op m new reading same is =
      subst IsGoing (sym reading) (record { runs = is.runs; works = ap (λ (ws : List WorkSoFar). length ws) same ∙ is.works; synced = is.synced; even = is.even })

  turned_goes : (k : ℕ) (m : Machine) → IsGoing m → IsGoing (turned k s m)
  turned_goes zero m is = is
  turned_goes (suc k) m is = by (is_over (work_of s m)) (λ next. turned_goes k (work_turn m s Well).state next)
    where
      next : IsGoing (work_turn m s Well).state
      next =
          let turns = turn_turns m s is.runs (omega (arith, caller, is.works)) in
          record { runs = turns.stopped ∙ is.runs; works = turns.works ∙ is.works; synced = turns.synced is.synced; even = turns.even is.even }

      by : (b : Bool) → (IsGoing (work_turn m s Well).state → IsGoing (turned k s (work_turn m s Well).state)) → IsGoing (cond b m (turned k s (work_turn m s Well).state))
      by true rest = is
      by false rest = rest next

  ends_going : (n : ℕ) (m : Machine) → IsGoing m → IsGoing (work_end m s n).state
  ends_going n m is = record { runs = is.runs; works = length-set m.seats.work s no_work ∙ is.works; synced = is.synced; even = is.even }

  write_goes : (op : Op) (m : Machine) → IsGoing m → IsGoing (all_paid s (admit m s op Well).state)
  write_goes op m is =
      let notes = admit_notes m s op is.runs in
      let new = (admit m s op Well).state in
      let same = paid_seen s (first_debt new.gears s + second_debt new.gears s) new in
      record {
        runs = ap (λ (v : Seen). v.stopped) same ∙ notes.stopped ∙ is.runs;
        works = ap (λ (v : Seen). length v.work) same ∙ ap (λ (ws : List WorkSoFar). length ws) notes.work ∙ is.works;
        synced = paid_synced s (first_debt new.gears s + second_debt new.gears s) new (notes.synced is.synced);
        even = all_paid_even s new (notes.synced is.synced) (notes.stopped ∙ is.runs);
      }

  -- a command that only looks, and a write
  other_goes : (op : Op) (m : Machine) → IsGoing m → (looks : Bool) → IsGoing (cond looks (look m s op Well).state (all_paid s (admit m s op Well).state))
  other_goes op m is true = reads_go (looking op) op m (look m s op Well).state (look_well m s op is.runs) refl is
  other_goes op m is false = write_goes op m is

  done_goes : (op : Op) (m : Machine) → IsGoing m → IsGoing (done_alone s op m)
  done_goes (Hold low high) m is =
      reads_go (taking_hold s low high) (Hold low high) m (done_alone s (Hold low high) m) (running_is m s (Hold low high) (do_hold m s low high Well) is.runs) refl is
  done_goes (Next n) m is = reads_go (reading_on s n) (Next n) m (done_alone s (Next n) m) (next_well m s n is.runs) refl is
  done_goes Release m is = reads_go (releasing s) Release m (done_alone s Release m) (drop_reads m s is.runs) refl is
  done_goes (Work n) m is = ends_going n (turned n s m) (turned_goes n m is)
  done_goes op m is = other_goes op m is (is_look op)

  pub alone_goes : (ops : List Op) (m : Machine) → IsGoing m → ((alone s m ops).stopped ≡ None) × IsEven s (alone s m ops)
  alone_goes [] m is = (is.runs, is.even)
  alone_goes (op ∷ ops) m is = alone_goes ops (done_alone s op m) (done_goes op m is)

  -- ---- with no open work there is nothing to resume

  abbrev pub IsClosed : Machine → Type 0
  IsClosed m = (work_of s m).turns ≡ 0

  reads_close : (r : Reading) (op : Op) (m new : Machine) → new ≡ read_as r s op m → r.work (seen m) ≡ m.seats.work → IsClosed m → IsClosed new
  reads_close r op m new reading same closed = subst IsClosed (sym reading) (ap (λ (ws : List WorkSoFar). (work_at s ws).turns) same ∙ closed)

  write_closes : (op : Op) (m : Machine) → IsGoing m → IsClosed m → IsClosed (all_paid s (admit m s op Well).state)
  write_closes op m is closed =
      let new = (admit m s op Well).state in
      ap (λ (v : Seen). (work_at s v.work).turns) (paid_seen s (first_debt new.gears s + second_debt new.gears s) new)
      ∙ ap (λ (ws : List WorkSoFar). (work_at s ws).turns) (admit_notes m s op is.runs).work ∙ closed

  other_closes : (op : Op) (m : Machine) → IsGoing m → IsClosed m → (looks : Bool) → IsClosed (cond looks (look m s op Well).state (all_paid s (admit m s op Well).state))
  other_closes op m is closed true = reads_close (looking op) op m (look m s op Well).state (look_well m s op is.runs) refl closed
  other_closes op m is closed false = write_closes op m is closed

  done_closes : (op : Op) (m : Machine) → IsGoing m → IsClosed m → IsClosed (done_alone s op m)
  done_closes (Hold low high) m is closed =
      reads_close (taking_hold s low high) (Hold low high) m (done_alone s (Hold low high) m) (running_is m s (Hold low high) (do_hold m s low high Well) is.runs) refl closed
  done_closes (Next n) m is closed = reads_close (reading_on s n) (Next n) m (done_alone s (Next n) m) (next_well m s n is.runs) refl closed
  done_closes Release m is closed = reads_close (releasing s) Release m (done_alone s Release m) (drop_reads m s is.runs) refl closed
  done_closes (Work n) m is closed =
      let works = (turned_goes n m is).works in
      ap (λ (w : WorkSoFar). w.turns) (get_or-set_same (turned n s m).seats.work s no_work no_work (omega (arith, caller, works)))
  done_closes op m is closed = other_closes op m is closed (is_look op)

  done_same : (op : Op) (m : Machine) → IsClosed m → done_resumed s op m ≡ done_alone s op m
  done_same (Work n) m closed = ap (λ k. (work_end (turned k s m) s n).state) (let all : n - (work_of s m).turns ≡ n = omega (arith, closed) in all)
  done_same _ m closed = refl

  pub alone_same : (ops : List Op) (m : Machine) → IsGoing m → IsClosed m → alone_resumed s m ops ≡ alone s m ops
  alone_same [] m is closed = refl
  alone_same (op ∷ ops) m is closed = ap (λ n. alone_resumed s n ops) (done_same op m closed) ∙ alone_same ops (done_alone s op m) (done_goes op m is) (done_closes op m is closed)

-- ---- from an opening

pub opened_goes : (s : ℕ) (caller : s < callers) (sizes : Sizes) (c1 c2 : Entries) (catalogue : Catalogue) (faults : ℕ) (room : Room) → IsGoing s caller (opened sizes c1 c2 catalogue faults room)
opened_goes s caller sizes c1 c2 catalogue faults room = record { runs = refl; works = refl; synced = (refl, refl); even = (replicated s, replicated s) }

pub alone_pays : (sizes : Sizes) (c1 c2 : Entries) (catalogue : Catalogue) (faults : ℕ) (room : Room) (seat : ℕ) (ops : List Op) → seat < callers
    → ((alone seat (opened sizes c1 c2 catalogue faults room) ops).stopped ≡ None) × (owes seat (alone seat (opened sizes c1 c2 catalogue faults room) ops) ≡ false)
alone_pays sizes c1 c2 catalogue faults room s ops caller =
    let begin = opened sizes c1 c2 catalogue faults room in
    let goes = alone_goes s caller ops begin (opened_goes s caller sizes c1 c2 catalogue faults room) in
    (goes.0, not_owing s (alone s begin ops) goes.1)
