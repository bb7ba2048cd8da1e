-- What an admission makes of the numbers, on every disk.
use Rattle.std.specs.Prelude.{◌<◌}
use Rattle.std.proofs.lemmas.Grind.{common_steps}
use Rattle.std.proofs.lemmas.Bool.Decides.{nat_tests}
use Rattle.std.proofs.Common.{arith, []}
use Rattle.std.proofs.Common.{◌≡◌, ◌∙◌, ⊎_elim, inl, inr, ℕ, ◌+◌, ◌≤◌, Bool, true, false, cond, ◌∷◌, None, Some, Option, refl, ap, sym, subst}
use Rattle.std.proofs.lemmas.Bool.{false≢true}
use Rattle.std.proofs.lemmas.Option.{none-some}
use Rattle.blsm_model.specs.Geometry.{charge_limit}
use Rattle.blsm_model.specs.Sizes.{Sizes}
use Rattle.blsm_model.specs.Book.{Book, HasRoom}
use Rattle.blsm_model.specs.declared.op.Op.{Op}
use Rattle.blsm_model.specs.declared.op.Write.{Write}
use Rattle.blsm_model.specs.declared.history.Why.{Why}
use Rattle.blsm_model.specs.declared.history.Why.TheVariants.{Faulted}
use Rattle.blsm_model.specs.declared.history.Reply.{Reply}
use Rattle.blsm_model.specs.declared.history.Reply.TheVariants.{Done, FaultLost, FaultUnsure}
use Rattle.blsm_model.specs.Histories.{is_done, writes_of}
use Rattle.blsm_model.specs.Legal.{is_write, total_weight}
use Rattle.disk_trait.specs.Disk.{DiskState}
use Rattle.gear_sched.specs.Gears.{GearState}
use Rattle.record_delta.specs.Entries.{Entries, entries_weight}
use Rattle.record_delta.specs.Several.{entries_of}
use Rattle.pacing.specs.Pace.{Pace, charge}
use Rattle.pacing.specs.Steps.{deep_settled, ready_for}
use Rattle.seat_book.specs.State.{BookState, noted_in, stopped_in}
use Rattle.paced_tree.specs.Made.{IsAdmission, IsReplied}
use Rattle.tree_machine.specs.Steps.{Replied}
use Rattle.tree_machine.specs.declared.step.Kind.TheVariants as kind
use Rattle.core_moves.specs.declared.held.Held.{Held}
use Rattle.core_moves.specs.Held.{charge_in}
use Rattle.core_moves.specs.Moves.{WritesIn, begun_in, with_book}
use Rattle.core_pace.specs.Pacing.{HasPace, IsRunBook, IsPacedHeld}
use Rattle.core_pace.specs.Events.{AreWritten, MayWrite}
use Rattle.core_pace.proofs.EventLemmas.{deep_keeps, settled_between, moves_are_told, admission_is_paced, entry_is_told, stop_is_told}
use Rattle.core_pace.proofs.CallLemmas.{paced_is_between, moves_keep_book}
use Rattle.tree_core.specs.declared.admission.Taking.TheVariants.{Taken, Failed}
use Rattle.tree_core.specs.Core.{IsLight, IsTold, HoldsPace}
use Rattle.tree_core.proofs.ToldLemmas.{light_of}
use Rattle.tree_core.specs.Steps.{MovesPace}
use Rattle.tree_core.specs.Taking.{Takes}
use Rattle.tree_core.proofs.QuietLemmas.{read_holds}
use Rattle.tree_core.proofs.TakingLemmas.{as_many, begun_keeps, weighs}
use Rattle.core_pace.proofs.Terms.{KeepsBook, IsBetween}

charge_of : (held : Held) (pace : Pace) → HasPace held pace → charge pace ≡ charge_in held
charge_of held pace p = cc (p.c1, p.c1x, p.c2, p.gears, p.a, p.b)

-- ---- what is told, with another book

told_of : (held : Held) (b : BookState) (pace : Pace) → IsBetween held pace → b.counts ≡ held.book.counts → IsRunBook b pace → IsTold (with_book b held) pace
told_of held b pace between same told =
    let light : IsLight held = light_of held between.one in
    grind (arith, common_steps, nat_tests)

-- a store that is stopped, or a write that is refused, keeps the pace
pub refused_moves : (seat : ℕ) (op : Op) (reply : Reply) (held : Held) (pace : Pace) (d : DiskState) (b : BookState) → IsReplied reply seat op pace pace → is_done reply ≡ false
    → HasRoom held.book.book.room (record { seat = seat; op = op; reply = reply }) → b ≡ noted_in seat op reply held.book → HoldsPace held pace d → MovesPace seat (kind.Admit op) (Replied reply) (with_book b held) d pace
refused_moves seat op reply held pace d b made undone room same holds =
    subst (λ (k : BookState). MovesPace seat (kind.Admit op) (Replied reply) (with_book k held) d pace) (sym same)
    (record { next = pace; made = made; holds = read_holds held held.runs.space _ pace d d holds refl refl (entry_is_told held.book pace seat op reply (λ done. absurd (false≢true (sym undone ∙ done))) room holds.told.told) (λ on. on) })

-- and one with which the store stops
stopped_holds : (seat : ℕ) (op : Op) (reply : Reply) (why : Why) (held : Held) (pace : Pace) (d : DiskState) → is_done reply ≡ false → HasRoom held.book.book.room (record { seat = seat; op = op; reply = reply })
    → IsBetween held pace → HoldsPace (with_book (noted_in seat op reply (stopped_in why held.book)) held) pace d
stopped_holds seat op reply why held pace d undone room between = record {
  told = told_of held (noted_in seat op reply (stopped_in why held.book)) pace between refl
      (entry_is_told (stopped_in why held.book) pace seat op reply (λ done. absurd (false≢true (sym undone ∙ done))) room (stop_is_told held.book pace why between.told));
  live = λ (runs : Some why ≡ None). absurd (none-some why (sym runs));
}

-- ---- whether there is room

pub none_of : (o : Option Why) → ((why : Why) → o ≡ Some why → ⊥) → o ≡ None
none_of o h1 = grind (arith, common_steps, nat_tests)

pub room_as : (n n' w w' : ℕ) (z z' : Sizes) (b b' : Bool) → n ≡ n' → w ≡ w' → z ≡ z' → b ≡ b' → n + w ≤ charge_limit z b → n' + w' ≤ charge_limit z' b'
room_as n n' w w' z z' b b' en ew ez eb fits = grind (arith, common_steps, nat_tests)

pub past_as : (n n' w w' : ℕ) (z z' : Sizes) (b b' : Bool) → n ≡ n' → w ≡ w' → z ≡ z' → b ≡ b' → (n + w ≤ charge_limit z b → ⊥) → charge_limit z' b' < n' + w'
past_as n n' w w' z z' b b' en ew ez eb never = grind (arith, common_steps, nat_tests)

-- ---- what is noted

pub noted_same : (seat : ℕ) (op asked : Op) (reply : Reply) (b new : BookState) → new ≡ noted_in seat asked reply b → asked ≡ op → new ≡ noted_in seat op reply b
noted_same seat op asked reply b new is same = is ∙ ap (λ (o : Op). noted_in seat o reply b) same

-- with the stop before it
pub stopped_same : (seat : ℕ) (op asked : Op) (reply noted : Reply) (n faults : ℕ) (b mid new : BookState) → mid ≡ stopped_in (Faulted n) b → n ≡ faults → new ≡ noted_in seat asked noted mid → asked ≡ op → noted ≡ reply
    → new ≡ noted_in seat op reply (stopped_in (Faulted faults) b)
stopped_same seat op asked reply noted n faults b mid new stops counts is same_op same_reply = grind (arith, common_steps, nat_tests)

-- ---- what the book keeps

pub taken_keeps : (seat : ℕ) (more : Entries) (old new : Held) (after : DiskState) → Takes Taken seat more old new after → KeepsBook old.book new.book
taken_keeps seat more old new after is =
    let keeps = (moves_keep_book old is.1.settled is.1.ready (entries_weight more) is.1.deep is.1.pass).1 in
    let same : is.0.book ≡ (begun_in (entries_weight more) is.1.ready).book = ap (λ (h : Held). h.book) is.1.begun in
    record {
      book = ap (λ (b : BookState). b.book) is.2.book ∙ ap (λ (b : BookState). b.book) same ∙ keeps.book;
      seats = ap (λ (b : BookState). b.seats) is.2.book ∙ ap (λ (b : BookState). b.seats) same ∙ keeps.seats;
      stopped = ap (λ (b : BookState). b.stopped) is.2.book ∙ ap (λ (b : BookState). b.stopped) same ∙ keeps.stopped;
    }

pub failed_keeps : (begun : Bool) (seat : ℕ) (more : Entries) (old left : Held) (after : DiskState) → Takes (Failed begun) seat more old left after
    → KeepsBook old.book left.book
failed_keeps true seat more old left after is = subst (λ (h : Held). KeepsBook old.book h.book) (sym is.begun)
    (moves_keep_book old is.settled is.ready (entries_weight more) is.deep is.pass).1
failed_keeps false seat more old left after is = ⊎_elim
    (λ still. subst (λ (h : Held). KeepsBook old.book h.book) (sym still.0) (record { book = refl; seats = refl; stopped = refl }))
    (λ settled. deep_keeps old left settled.0)
    is

-- ---- the write

-- where a call failed
pub failed_moves : (begun : Bool) (seat : ℕ) (op : Op) (why : Why) (old left : Held) (pace : Pace) (after : DiskState) → IsPacedHeld old pace
    → ((b : Bool) → HasRoom old.book.book.room (record { seat = seat; op = op; reply = cond b FaultUnsure FaultLost }))
    → Takes (Failed begun) seat (entries_of (writes_of op)) old left after
    → MovesPace seat (kind.Admit op) (Replied (cond begun FaultUnsure FaultLost)) (with_book (noted_in seat op (cond begun FaultUnsure FaultLost) (stopped_in why left.book)) left) after pace
failed_moves begun seat op why old left pace after paced room takes = by begun takes
  where
    room_in : (b : Bool) (book : Book) → book ≡ old.book.book → HasRoom book.room (record { seat = seat; op = op; reply = cond b FaultUnsure FaultLost })
    room_in b book same = subst (λ (k : Book). HasRoom k.room (record { seat = seat; op = op; reply = cond b FaultUnsure FaultLost })) (sym same) (room b)

    by : (b : Bool) → Takes (Failed b) seat (entries_of (writes_of op)) old left after
        → MovesPace seat (kind.Admit op) (Replied (cond b FaultUnsure FaultLost)) (with_book (noted_in seat op (cond b FaultUnsure FaultLost) (stopped_in why left.book)) left) after pace
    by true is = subst (λ (h : Held). MovesPace seat (kind.Admit op) (Replied FaultUnsure) (with_book (noted_in seat op FaultUnsure (stopped_in why h.book)) h) after pace) (sym is.begun)
        (record {
          next = ready_for pace (entries_weight (entries_of (writes_of op)));
          made = ap (λ (n : ℕ). ready_for pace n) (sym (weighs op));
          holds = stopped_holds seat op FaultUnsure why (begun_in (entries_weight (entries_of (writes_of op))) is.ready)
              (ready_for pace (entries_weight (entries_of (writes_of op)))) after refl
              (room_in true (begun_in (entries_weight (entries_of (writes_of op))) is.ready).book.book
              (moves_keep_book old is.settled is.ready (entries_weight (entries_of (writes_of op))) is.deep is.pass).1.book)
              (moves_are_told old is.settled is.ready pace (entries_weight (entries_of (writes_of op))) paced is.deep is.pass).1;
        })
    by false is = ⊎_elim
        (λ still. record {
          next = pace;
          made = inl refl;
          holds = subst (λ (h : Held). HoldsPace (with_book (noted_in seat op FaultLost (stopped_in why h.book)) h) pace after) (sym still.0)
              (stopped_holds seat op FaultLost why old pace after refl (room false) (paced_is_between old pace paced));
        })
        (λ settled. record {
          next = deep_settled pace;
          made = inr refl;
          holds = stopped_holds seat op FaultLost why left (deep_settled pace) after refl (room_in false left.book.book (deep_keeps old left settled.0).book) (settled_between old left pace paced settled.0);
        })
        is

-- and where it was taken
module _ (seat : ℕ) (op : Op) (old new : Held) (pace : Pace) (after : DiskState) (are : AreWritten (entries_of (writes_of op)))
    (writing : is_write op ≡ true) (paced : IsPacedHeld old pace)
    (may : MayWrite seat (total_weight (writes_of op)) op old) (room : HasRoom old.book.book.room (record { seat = seat; op = op; reply = Done }))
    (is : Takes Taken seat (entries_of (writes_of op)) old new after) where
  abbrev w : ℕ
  w = entries_weight (entries_of (writes_of op))

  abbrev noted : Held
  noted = with_book (noted_in seat op Done new.book) new

  same_book : is.1.ready.book.book ≡ old.book.book
  same_book = ap (λ (b : BookState). b.book) (sym (begun_keeps w is.1.ready).book) ∙ (moves_keep_book old is.1.settled is.1.ready w is.1.deep is.1.pass).1.book

  made : (next : Pace) × IsAdmission seat op pace next × IsPacedHeld noted next
  made = admission_is_paced seat op (entries_of (writes_of op)) old is.1.settled is.1.ready new noted pace writing (weighs op)
      (sym (as_many (writes_of op))) are paced
      (subst (λ (n : ℕ). MayWrite seat n op old) (weighs op) may)
      (subst (λ (k : Book). HasRoom k.room (record { seat = seat; op = op; reply = Done })) (sym same_book) room)
      (record {
        deep = is.1.deep;
        pass = is.1.pass;
        write = subst (λ (h : Held). WritesIn seat (entries_of (writes_of op)) h new) is.1.begun is.2;
        entry = refl;
      })

  pub taken_moves : MovesPace seat (kind.Admit op) (Replied Done) noted after pace
  taken_moves = record {
    next = made.0;
    made = made.1;
    holds = record {
      told = record {
        told = made.2.told;
        peak = made.2.numbers.peak;
        opening = made.2.numbers.opening;
        charge_is = charge_of noted made.0 made.2.numbers;
        sizes = ap (λ (g : GearState). g.sizes) made.2.numbers.gears ∙ made.2.one.gears;
        light = light_of noted made.2.one;
      };
      live = λ runs. record { paced = made.2; on = record { running = is.3.running; long = is.3.long } };
    };
  }
