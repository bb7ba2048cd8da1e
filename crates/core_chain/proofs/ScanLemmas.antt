-- The nexts of one seat's hold, one after another.
use Rattle.std.specs.Prelude.{◌≡◌, ◌≢◌, ℕ, ◌+◌, ◌-◌, ◌*◌, ◌≤◌, true, false, if◌then◌else◌, List, [], ◌∷◌, ◌++◌}
use Rattle.std.proofs.lemmas.Grind.{common_steps}
use Rattle.std.proofs.lemmas.Bool.Decides.{nat_tests}
use Rattle.std.proofs.lemmas.Bool.{cases_eq}
use Rattle.std.proofs.lemmas.Bool.{false≢true}
use Rattle.std.proofs.Common.{◌⊎◌, inl, inr, refl, ap, sym, subst, arith}
use Rattle.blsm_model.specs.declared.op.Op.TheVariants as op
use Rattle.blsm_model.specs.declared.row.Row.{Row}
use Rattle.disk_trait.specs.Disk.{DiskState}
use Rattle.scan_view.specs.Holds.{hold_of, pages_behind}
use Rattle.seat_book.specs.State.{BookState, noted_in}
use Rattle.tree_machine.specs.declared.step.Kind.{Kind}
use Rattle.tree_machine.specs.declared.step.Kind.TheVariants as kind
use Rattle.tree_machine.specs.declared.step.Step.{Step}
use Rattle.tree_core.specs.Answers.{reply_to_next}
use Rattle.tree_core.specs.Calls.{AreCalls, IsCall}
use Rattle.tree_core.specs.Core.{CoreState}
use Rattle.tree_core.specs.Scanned.{Scanned}
use Rattle.tree_core.specs.Scanned as scanned
use Rattle.blsm_model.specs.Book.{entry_at}
use Rattle.std.specs.Prelude.{length}
use Rattle.core_chain.specs.Scans.{ReadOnce, ReadsWell, changes_hold, core_behind, has_rows, is_next, is_next_of, newest_reply}

-- what one call of the chain does to a seat's clock and pages ahead
OneLess : {D : Type 0} → (D → DiskState) → ℕ → Step → CoreState D → CoreState D → Type 0
OneLess state seat step old new =
    (if is_next_of seat step then (state new.disk).clock - (state old.disk).clock else 0) + pages_behind (hold_of seat new.holds) ≤ 3 * (if is_next_of seat step then 1 else 0) + pages_behind (hold_of seat old.holds)

-- the hold stays
stays : {D : Type 0} (state : D → DiskState) (seat : ℕ) (step : Step) (old new : CoreState D) → is_next_of seat step ≡ false → hold_of seat new.holds ≡ hold_of seat old.holds → OneLess state seat step old new
unfolding OneLess
stays state seat step old new none same = grind (arith, common_steps, nat_tests)

not_next : (seat : ℕ) (step : Step) → step.seat ≢ seat → is_next_of seat step ≡ false
not_next seat step other = grind (arith, common_steps, nat_tests)

-- rows that were noted are those that were given
pub were_rows : (answer : Scanned) (seat n : ℕ) (b : BookState)
    → has_rows (entry_at (noted_in seat (op.Next n) (reply_to_next answer) b).book (length (noted_in seat (op.Next n) (reply_to_next answer) b).book.entries - 1)).reply ≡ true → (rows : List Row) × (answer ≡ scanned.Rows rows)
were_rows answer seat n b h1 = grind (arith, common_steps, nat_tests)

passes : {D : Type 0} (state : D → DiskState) (seat n : ℕ) (old new : CoreState D) → IsCall state seat (kind.Next n) old new → has_rows (newest_reply new) ≡ true
    → OneLess state seat (record { seat = seat; kind = kind.Next n }) old new
unfolding OneLess
passes state seat n old new call rows =
    let gave = were_rows call.0 seat n old.held.book (subst (λ (b : BookState). has_rows (entry_at b.book (length b.book.entries - 1)).reply ≡ true) call.1.book rows) in
    let few = call.1.passes.calls gave.0 gave.1 in
    grind (arith, common_steps, nat_tests, few)

no_next : (seat : ℕ) (step : Step) → is_next step.kind ≡ false → is_next_of seat step ≡ false
no_next seat step none = grind (arith, common_steps, nat_tests)

-- a call by another seat leaves the hold
others_stay : {D : Type 0} (state : D → DiskState) (seat s : ℕ) (k : Kind) (old new : CoreState D) → IsCall state s k old new → seat ≢ s → hold_of seat new.holds ≡ hold_of seat old.holds
others_stay state seat s (kind.Admit op) old new call other = ap (hold_of seat) call.1.beside.holds.holds
others_stay state seat s kind.Pay old new call other = ap (hold_of seat) call.1.beside.holds.holds
others_stay state seat s (kind.Look op) old new call other = ap (hold_of seat) call.1.beside.holds.holds
others_stay state seat s (kind.Hold low high) old new call other = call.1.others.holds seat other
others_stay state seat s (kind.Next n) old new call other = call.1.others.holds seat other
others_stay state seat s kind.Release old new call other = call.1.others.holds seat other
others_stay state seat s kind.WorkTurn old new call other = ap (hold_of seat) call.1.beside.holds.holds
others_stay state seat s (kind.WorkEnd n) old new call other = ap (hold_of seat) call.1.beside.holds.holds
others_stay state seat s kind.WorkerTurn old new call other = ap (hold_of seat) call.1.beside.holds.holds
others_stay state seat s kind.Leave old new call other = ap (hold_of seat) call.beside.holds.holds

keeps : {D : Type 0} (state : D → DiskState) (seat : ℕ) (k : Kind) (old new : CoreState D) → is_next k ≡ false → hold_of seat new.holds ≡ hold_of seat old.holds
    → OneLess state seat (record { seat = seat; kind = k }) old new
keeps state seat k old new none same = stays state seat (record { seat = seat; kind = k }) old new (no_next seat (record { seat = seat; kind = k }) none) same

own_call : {D : Type 0} (state : D → DiskState) (seat : ℕ) (k : Kind) (old new : CoreState D) → IsCall state seat k old new → changes_hold k ≡ false → (is_next k ≡ true → has_rows (newest_reply new) ≡ true)
    → OneLess state seat (record { seat = seat; kind = k }) old new
own_call state seat (kind.Admit op) old new call stays_held rows = keeps state seat (kind.Admit op) old new refl (ap (hold_of seat) call.1.beside.holds.holds)
own_call state seat kind.Pay old new call stays_held rows = keeps state seat kind.Pay old new refl (ap (hold_of seat) call.1.beside.holds.holds)
own_call state seat (kind.Look op) old new call stays_held rows = keeps state seat (kind.Look op) old new refl (ap (hold_of seat) call.1.beside.holds.holds)
own_call state seat (kind.Hold low high) old new call stays_held rows = absurd (false≢true (sym stays_held))
own_call state seat (kind.Next n) old new call stays_held rows = passes state seat n old new call (rows refl)
own_call state seat kind.Release old new call stays_held rows = absurd (false≢true (sym stays_held))
own_call state seat kind.WorkTurn old new call stays_held rows = keeps state seat kind.WorkTurn old new refl (ap (hold_of seat) call.1.beside.holds.holds)
own_call state seat (kind.WorkEnd n) old new call stays_held rows = keeps state seat (kind.WorkEnd n) old new refl (ap (hold_of seat) call.1.beside.holds.holds)
own_call state seat kind.WorkerTurn old new call stays_held rows = keeps state seat kind.WorkerTurn old new refl (ap (hold_of seat) call.1.beside.holds.holds)
own_call state seat kind.Leave old new call stays_held rows = keeps state seat kind.Leave old new refl (ap (hold_of seat) call.beside.holds.holds)

link_less : {D : Type 0} (state : D → DiskState) (seat : ℕ) (step : Step) (old new : CoreState D) → IsCall state step.seat step.kind old new
    → (step.seat ≡ seat → (changes_hold step.kind ≡ false) × (is_next step.kind ≡ true → has_rows (newest_reply new) ≡ true)) → OneLess state seat step old new
link_less {D} state seat step old new call well = by (cases_eq step.seat seat)
  where
    by : (step.seat ≡ seat) ⊎ (step.seat ≢ seat) → OneLess state seat step old new
    by (inl same) =
        subst (λ (s : ℕ). OneLess state seat (record { seat = s; kind = step.kind }) old new) (sym same)
        (own_call state seat step.kind old new (subst (λ (s : ℕ). IsCall state s step.kind old new) same call) (well same).0 (well same).1)
    by (inr other) = stays state seat step old new (not_next seat step other) (others_stay state seat step.seat step.kind old new call (λ same. other (sym same)))

pub read_once : {D : Type 0} (state : D → DiskState) (seat : ℕ) (calls : List (Step × CoreState D)) (start end : CoreState D) → AreCalls state calls start end → ReadsWell seat calls
    → ReadOnce state seat calls start end
unfolding OneLess
read_once {D} state seat [] start end are well = omega (arith, ap {B = ℕ} (λ (core : CoreState D). pages_behind (hold_of seat core.holds)) are)
read_once state seat (one ∷ calls) start end are well =
    let first = link_less state seat one.0 start one.1 are.0 well.0 in
    omega (arith, first, read_once state seat calls one.1 end are.1 well.1)

-- calls behind others begin at the core behind these
behind_are : {D : Type 0} (state : D → DiskState) (front more : List (Step × CoreState D)) (start end : CoreState D)
    → AreCalls state (front ++ more) start end → AreCalls state more (core_behind start front) end
behind_are state [] more start end are = are
behind_are state (one ∷ front) more start end are = behind_are state front more one.1 end are.1

-- and calls in front of others end there
front_are : {D : Type 0} (state : D → DiskState) (front more : List (Step × CoreState D)) (start end : CoreState D)
    → AreCalls state (front ++ more) start end → AreCalls state front start (core_behind start front)
front_are state [] more start end are = refl
front_are state (one ∷ front) more start end are = (are.0, front_are state front more one.1 end are.1)

pub part_read_once : {D : Type 0} (state : D → DiskState) (seat : ℕ) (calls front part behind : List (Step × CoreState D)) (start end : CoreState D)
    → AreCalls state calls start end → calls ≡ front ++ (part ++ behind)
    → ReadsWell seat part → ReadOnce state seat part (core_behind start front) (core_behind (core_behind start front) part)
part_read_once {D} state seat calls front part behind start end are is well =
    let from = behind_are state front (part ++ behind) start end (subst (λ (l : List (Step × CoreState D)). AreCalls state l start end) is are) in
    let mid = core_behind start front in
    read_once state seat part mid (core_behind mid part) (front_are state part behind mid end from) well
