-- What a job leaves: of a caller's, and of a worker's.
use Rattle.std.proofs.Common.{◌≡◌, ◌∙◌, ⊎_elim, inl, inr, ℕ, zero, suc, ◌+◌, ◌-◌, ◌<◌, ◌≤◌, Bool, false, cond, ◌==◌, List, [], ◌∷◌, ◌++◌, length, map, filter, ne_eqb, refl, ap, sym, subst, arith}
use Rattle.std.proofs.lemmas.Grind.{common_steps}
use Rattle.std.proofs.lemmas.Bool.Decides.{nat_tests}
use Rattle.std.specs.Prelude.{◌^◌, Some, slice_index}
use Rattle.std.proofs.lemmas.List.{append-nil}
use Rattle.std.proofs.lemmas.List.Elements.{All-head, All-tail}
use Rattle.blsm_model.specs.Facts.{Part, entries_of}
use Rattle.blsm_model.specs.Format.{callers}
use Rattle.blsm_model.specs.Scripts.{lines_of, rows_asked}
use Rattle.blsm_model.specs.declared.history.Entry.{Entry}
use Rattle.blsm_model.specs.declared.history.Line.{Line}
use Rattle.disk_trait.specs.Disk.{DiskState}
use Rattle.seat_book.specs.Seats.{turns_in}
use Rattle.seat_book.specs.State.{BookState, work_in}
use Rattle.turn_lock.specs.Callers.{Held as Caller, Lock}
use Rattle.turn_lock.specs.Tallies.{In, its_entries}
use Rattle.turn_lock.proofs.TurnLemmas.{went_then}
use Rattle.tree_machine.specs.Machine.{WorkSoFar, is_caller, turn_more}
use Rattle.tree_core.specs.Calls.{CameSince}
use Rattle.tree_core.specs.Core.{CoreState}
use Rattle.tree_session.specs.Lines.{AreRunnable, IsRunnable}
use Rattle.tree_shared.specs.Seats.{DidOn, KnowsOf, WentOn, HasHelped, IsFree, IsGone, facts_of}
use Rattle.tree_shared.specs.Runs.{Helped, IsFresh, IsNew, LeftAs, RanLines, TellsEnd, turns_after}
use Rattle.tree_shared.proofs.SeatLemmas.{caller_turns, is_a_caller}

no_caller : (seat : ℕ) → callers ≤ seat → is_caller seat ≡ false
no_caller seat above = grind (arith, common_steps, nat_tests)

pub worker_turns : (seat : ℕ) (b : BookState) → callers ≤ seat → turns_in seat b ≡ slice_index b.seats.turns (seat - callers)
worker_turns seat b above = ap (λ (c : Bool). cond c (work_in seat b).turns (slice_index b.seats.turns (seat - callers))) (no_caller seat above)

turns_few : (n : ℕ) → n < 2 ^ 64 → turns_after n 0 ≡ n
turns_few zero few = refl
turns_few (suc n) few = let before = turns_few n (omega (arith, few)) in omega (arith, before, few)

-- one turn more
pub turns_more : (n before : ℕ) → turn_more (turns_after n before) ≡ turns_after (n + 1) before
turns_more n before = let e : suc n ≡ n + 1 = omega arith in ap (λ (k : ℕ). turns_after k before) e

-- a script has no lines of a worker
pub lines_none : (i : ℕ) (lines : List Line) → AreRunnable lines → callers ≤ i → lines_of i lines ≡ []
lines_none i [] all above = refl
lines_none i (line ∷ lines) all above =
    let seat = (All-head IsRunnable line lines all).seat in
    let no : (line.seat == i) ≡ false = ne_eqb line.seat i (λ (is : line.seat ≡ i). omega (arith, is, seat, above)) in
    ap (λ (b : Bool). map (λ (l : Line). l.op) (cond b (line ∷ filter (λ (l : Line). l.seat == i) lines) (filter (λ (l : Line). l.seat == i) lines))) no
    ∙ lines_none i lines (All-tail IsRunnable line lines all) above

-- ---- before the job

module _ {D : Type 0} (lines : List Line) (lock : Lock (CoreState D)) (c : Caller (CoreState D)) (fresh : IsFresh lines lock.start) (new : IsNew lock c) where
  pub new_is_free : c.number < callers → KnowsOf (IsFree (length (lines_of c.number lines)) (rows_asked c.number lines)) c
  new_is_free below = record {
    value = lock.start;
    more = [];
    own = new.own;
    part = (
      (fresh.room.entries c.number below, fresh.room.rows c.number below),
      caller_turns c.number lock.start.held.book (is_a_caller c.number below) ∙ ap (λ (w : WorkSoFar). w.turns) (fresh.rests.idle c.number),
      inr (fresh.rests.even fresh.runs c.number),
    );
  }

  pub new_has_helped : callers ≤ c.number → KnowsOf (HasHelped 0 0) c
  new_has_helped above = record { value = lock.start; more = []; own = new.own; part = (worker_turns c.number lock.start.held.book above ∙ fresh.helped c.number above new.number, omega (arith, fresh.took_none c.number)) }

  -- ---- after it

  noted_all : {state : D → DiskState} (d : Caller (CoreState D)) (es : List Entry) → WentOn state c es d → its_entries facts_of d.me.0.own ≡ es
  noted_all {state} d es went = grind (arith, common_steps, nat_tests)

  same_number : {state : D → DiskState} (d : Caller (CoreState D)) (es : List Entry) → WentOn state c es d → d.number ≡ c.number
  same_number {state} d es went = ⊎_elim (λ (still : (d ≡ c) × (es ≡ [])). ap (λ (h : Caller (CoreState D)). h.number) still.0) (λ (did : DidOn state c es d). did.noted.number) went

  tells : {state : D → DiskState} (turns : ℕ) (d : Caller (CoreState D)) (es : List Entry) (P : Bool → Part → Type 0) (went : WentOn state c es d) → (k : KnowsOf P d) → map (λ (e : Entry). e.op) es ≡ lines_of c.number lines
      → (c.number < callers → IsGone d.me.0.halted ((facts_of k.value).part d.number)) → (callers ≤ c.number → 0 < turns → 0 < ((facts_of k.value).part d.number).turns) → (callers ≤ c.number → (((facts_of k.value).part d.number).turns ≤ turns) × (((facts_of k.value).part d.number).quanta ≤ ((facts_of k.value).part d.number).turns))
      → (c.number < callers → LeftAs state lock.start d.number k.value) → TellsEnd state lock.start lines turns c.number d
  tells {state} turns d es P went k ops gone helped few left =
      let number = same_number d es went in (
        k.value,
        subst (In (c.number, k.value)) (sym k.own) (inl (ap (λ (n : ℕ). (n, k.value)) (sym number))),
        record {
          asked = ap (map (λ (e : Entry). e.op)) (ap (λ (n : ℕ). entries_of n k.value.held.book.book.entries) (sym number) ∙ (sym (ap (its_entries facts_of) k.own) ∙ noted_all d es went)) ∙ ops;
          gone = λ below. subst (λ (n : ℕ). IsGone d.me.0.halted ((facts_of k.value).part n)) number (gone below);
          helped = λ above some. subst (λ (n : ℕ). 0 < ((facts_of k.value).part n).turns) number (helped above some);
          few = λ above. subst (λ (n : ℕ). (((facts_of k.value).part n).turns ≤ turns) × (((facts_of k.value).part n).quanta ≤ ((facts_of k.value).part n).turns)) number (few above);
        },
        λ below. subst (λ (n : ℕ). LeftAs state lock.start n k.value) number (left below),
      )

  pub caller_ended : {state : D → DiskState} (turns : ℕ) (d e : Caller (CoreState D)) → c.number < callers → RanLines state lines c d → DidOn state d [] e → (k : KnowsOf IsGone e)
      → ((start : CoreState D) → e.me.0.start ≡ Some start → LeftAs state start e.number k.value) → TellsEnd state lock.start lines turns c.number e
  caller_ended {state} turns d e below ran left k last =
      let all : DidOn state c (ran.entries ++ []) e = went_then facts_of (CameSince state) c d e ran.entries [] ran.went left in
      tells turns e (ran.entries ++ []) IsGone (inr all) k (ap (map (λ (x : Entry). x.op)) (append-nil ran.entries) ∙ ran.ops) (λ was. k.part) (λ above some. absurd (omega (arith, below, above))) (λ above. absurd (omega (arith, below, above))) (λ was. last lock.start (all.noted.begun ∙ new.of_lock.1))

  pub worker_ended : {state : D → DiskState} (turns : ℕ) (d : Caller (CoreState D)) → callers ≤ c.number → turns < 2 ^ 32 → AreRunnable lines → Helped state turns c d → TellsEnd state lock.start lines turns c.number d
  worker_ended turns d above few runnable helped =
      let told = helped.counted 0 0 (new_has_helped above) in
      let took = told.0 in
      let k = told.2 in
      let is : ((facts_of k.value).part d.number).turns ≡ took = k.part.0 ∙ turns_few took (omega (arith, told.1, few)) in
      tells turns d [] (HasHelped (turns_after took 0) (0 + took)) helped.went k (sym (lines_none c.number lines runnable above)) (λ below. absurd (omega (arith, below, above)))
      (λ up some. ⊎_elim (λ (all : took ≡ turns). omega (arith, all, some, is)) (λ early. omega (arith, early.0, is)) told.3)
      (λ up. (omega (arith, is, told.1), omega (arith, k.part.1, is))) (λ below. absurd (omega (arith, below, above)))
