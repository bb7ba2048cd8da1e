-- The turns of a worker, and a caller's leave.
use Rattle.std.proofs.Common.{◌≡◌, ◌∙◌, ℕ, ◌+◌, ◌<◌, Bool, true, ◌||◌, List, ◌∷◌, get_or, refl, ap, sym, subst, arith}
use Rattle.std.specs.Prelude.{Some, is_some, slice_index_or}
use Rattle.blsm_model.specs.Facts.{Part}
use Rattle.blsm_model.specs.Format.{callers}
use Rattle.disk_trait.specs.Disk.{DiskState}
use Rattle.turn_lock.specs.Callers.{Held as Caller}
use Rattle.turn_lock.specs.Plays.{Sat, renewed}
use Rattle.turn_lock.specs.Turns.{TookTurn}
use Rattle.turn_lock.proofs.TurnLemmas.{saw_over}
use Rattle.seat_book.specs.Turns.{turned_of}
use Rattle.seat_book.specs.declared.turned.Turned.{Turned}
use Rattle.seat_book.specs.declared.turned.Turned.TheVariants.{Worked, Idle, Closed, Failed, BadPage, Halted}
use Rattle.tree_machine.specs.Machine.{no_work, turn_more}
use Rattle.core_moves.specs.declared.held.Held.{Held}
use Rattle.tree_core.specs.Calls.{CameSince, Helps, Leaves}
use Rattle.tree_core.specs.Causes.{TurnsBecause}
use Rattle.tree_core.specs.Core.{CoreState}
use Rattle.tree_shared.specs.Runs.{LeftAs}
use Rattle.tree_shared.specs.Seats.{KnowsOf, HasHelped, IsFree, IsGone, facts_of}
use Rattle.tree_shared.proofs.SeatLemmas.{caller_turns, is_a_caller, or_left, or_right}
use Rattle.tree_shared.proofs.NoteLemmas.{after, even_still}

module _ {D : Type 0} {state : D → DiskState} {c d : Caller (CoreState D)} (answer : Turned) {b w : CoreState D} (turn : TookTurn facts_of (CameSince state) c b w d) (helps : Helps state c.number (turned_of answer) b w) where
  pub help_counts : (turns taken : ℕ) → KnowsOf (HasHelped turns taken) c → KnowsOf (HasHelped (turn_more turns) (taken + 1)) d
  help_counts turns taken = after turn (HasHelped turns taken) (HasHelped (turn_more turns) (taken + 1))
      (λ p had eases. (helps.helps ∙ ap (λ (n : ℕ). turn_more n) (eases.turns ∙ had.0), omega (arith, turn.follows.its, eases.quanta, had.1)))

  -- one that neither worked nor was idle leaves the value closed or stopped
  ended : (a : Turned) → (a ≡ Worked → ⊥) → (a ≡ Idle → ⊥) → TurnsBecause (turned_of a) true c.number b.held w.held (state b.disk) (state w.disk) → ((facts_of w).closed || (facts_of w).stopped) ≡ true
  ended Worked worked idle because = absurd (worked refl)
  ended Idle worked idle because = absurd (idle refl)
  ended Closed worked idle because = or_left (facts_of w).closed (facts_of w).stopped (turn.follows.closed because.2)
  ended Failed worked idle because = or_right (facts_of w).closed (facts_of w).stopped (ap is_some because.stopped)
  ended (BadPage page) worked idle because = or_right (facts_of w).closed (facts_of w).stopped (ap is_some because.stopped)
  ended (Halted why) worked idle because = or_right (facts_of w).closed (facts_of w).stopped (turn.follows.stopped (ap is_some because.0))

  pub help_over : (answer ≡ Worked → ⊥) → (answer ≡ Idle → ⊥) → d.me.0.over ≡ true
  help_over worked idle = saw_over facts_of (CameSince state) c d b w turn (ended answer worked idle helps.cause)

pub leave_goes : {D : Type 0} {state : D → DiskState} {c d : Caller (CoreState D)} {b w : CoreState D} → c.number < callers → TookTurn facts_of (CameSince state) c b w d → Leaves state c.number b w → KnowsOf (IsFree 0 0) c → KnowsOf IsGone d
leave_goes {D} {state} {c} {d} {b} {w} below turn leaves = after turn (IsFree 0 0) IsGone
    (λ p free eases.
    let is = is_a_caller c.number below in (
      leaves.left,
      caller_turns c.number w.held.book is
          ∙ (ap (λ (h : Held). (slice_index_or h.book.seats.work c.number no_work).turns) leaves.held ∙ (sym (caller_turns c.number b.held.book is) ∙ (eases.turns ∙ free.1))),
      even_still c b w p free.2 eases (ap (λ (h : Held). h.gears) leaves.held),
    ))

-- what it knows its part by is the core that its leave made
pub left_as : {D : Type 0} {state : D → DiskState} {c d : Caller (CoreState D)} {b w : CoreState D} {P Q : Bool → Part → Type 0} → TookTurn facts_of (CameSince state) c b w d → Leaves state c.number b w → KnowsOf P c → (k : KnowsOf Q d)
    → (start : CoreState D) → d.me.0.start ≡ Some start → LeftAs state start d.number k.value
left_as {D} {state} {c} {d} {b} {w} turn leaves knew k start begun =
    let was : c.me.0.start ≡ Some start = sym (ap (λ (x : Sat (CoreState D)). x.0.start) turn.me) ∙ begun in
    let own : d.me.0.own ≡ (c.number, w) ∷ knew.more = ap (λ (x : Sat (CoreState D)). x.0.own) turn.me ∙ ap (renewed facts_of w) knew.own in
    let is : w ≡ k.value = ap (λ (l : List (ℕ × CoreState D)). (get_or l 0 (c.number, w)).1) (sym own ∙ k.own) in
    subst (λ (core : CoreState D). LeftAs state start d.number core) is
    (subst (λ (n : ℕ). LeftAs state start n w) (sym turn.number) (record { before = b; came = turn.finds.lasts start was; leaves = leaves }))
