-- Where nothing failed each step went well, so its list of steps leads a state of the machine to one other.
use Rattle.std.specs.Prelude.{◌≡◌, ◌≢◌, ℕ, ◌≤◌, ◌&&◌, Bool, true, false, not, is_some, IsTrue, List, [], ◌∷◌, ◌++◌, length, map, Option, None}
use Rattle.std.proofs.lemmas.Grind.{common_steps}
use Rattle.std.proofs.lemmas.Bool.Decides.{nat_tests}
use Rattle.std.proofs.Common.{◌∙◌, cond, inl, inr, append_assoc, refl, ap, sym, subst, arith}
use mathlib.Core.List.{IsPrefix}
use Rattle.blsm_model.specs.declared.history.Entry.{Entry}
use Rattle.blsm_model.specs.declared.history.Reply.TheVariants as reply
use Rattle.blsm_model.specs.declared.history.Why.{Why}
use Rattle.blsm_model.specs.declared.key.Key.{Key}
use Rattle.blsm_model.specs.declared.op.Op.TheVariants as op
use Rattle.blsm_model.specs.declared.row.Value.{Value}
use Rattle.disk_trait.specs.Disk.{DiskState}
use Rattle.disk_trait.specs.Moments.{IsTimed}
use Rattle.seat_book.specs.State.{BookState}
use Rattle.tree_machine.specs.Machine.{Machine}
use Rattle.tree_machine.specs.Outcomes.{AreTold, IsPossible, NoneBroken, Rose, is_broken, last_count, takes_memory}
use Rattle.tree_machine.specs.Plays.{may_step, played, played_one, stepped_as}
use Rattle.tree_machine.specs.Steps.{Outcome, Well, FailedAfter, FailedLooking, Broken, NoRoom, hold, replied, unless_stopped}
use Rattle.tree_machine.specs.declared.step.Kind.{Kind}
use Rattle.tree_machine.specs.declared.step.Kind.TheVariants as kind
use Rattle.tree_machine.specs.declared.step.Step.{Step}
use Rattle.core_lists.proofs.ShowingLemmas.{prefix_self, prefix_then}
use Rattle.tree_core.specs.Core.{CoreState}
use Rattle.tree_core.proofs.PlayLemmas.{history_grows, prefix_length}
use Rattle.tree_core.proofs.QuietLemmas.{shows_now}
use Rattle.core_chain.specs.Alike.{MadeWell, NoneRefused, ReleaseShowsNothing, ShowsAs, all_well}
use Rattle.core_chain.specs.Steps.{AllMay, ChainIsSteps, outcomes_in}
use Rattle.core_chain.proofs.StepLemmas.{chain_is_steps}

-- ---- entries stay

one_longer : (m : Machine) (one : Step × Outcome) → IsTrue (may_step m one.0) → IsPrefix m.book.entries (played_one m one).book.entries
one_longer m one can =
    subst (λ (x : Machine). IsPrefix m.book.entries x.book.entries)
    (sym (ap (λ (b : Bool). cond b (stepped_as m one.0.seat one.0.kind one.1).state m) can))
    (history_grows m one.0.seat one.0.kind one.1 can)

longer : (m : Machine) (made : List (Step × Outcome)) → AllMay m made → IsPrefix m.book.entries (played m made).book.entries
longer m [] may = prefix_self m.book.entries
longer m (one ∷ made) may =
    prefix_then m.book.entries (played_one m one).book.entries (played m (one ∷ made)).book.entries (one_longer m one may.0)
    (longer (played_one m one) made may.1)

none_refused : (least more : ℕ) (entries : List Entry) → least ≤ more → NoneRefused least entries → NoneRefused more entries
none_refused least more entries less had = λ front behind e are within. had front behind e are (omega (arith, less, within))

-- ---- no step failed

told_le : (m : Machine) (old new : ℕ) (made : List (Step × Outcome)) → AreTold m old made new → old ≤ new
told_le m old new [] told = told
told_le m old new (one ∷ made) (mid, least, possible, told) = omega (arith, least, told_le (played_one m one) mid new made told)

no_rise : (count : ℕ) → count ≢ last_count → Rose count count → ⊥
no_rise count below (inl more) = omega (arith, more)
no_rise count below (inr last) = below last.0

-- a step that takes memory makes a hold
is_hold : (k : Kind) → takes_memory k ≡ true → (low : Key) × (high : Key) × (k ≡ kind.Hold low high)
is_hold (kind.Hold low high) takes = (low, high, refl)
is_hold (kind.Admit op) takes = absurd (cc takes)
is_hold kind.Pay takes = absurd (cc takes)
is_hold (kind.Look op) takes = absurd (cc takes)
is_hold (kind.Next n) takes = absurd (cc takes)
is_hold kind.Release takes = absurd (cc takes)
is_hold kind.WorkTurn takes = absurd (cc takes)
is_hold (kind.WorkEnd n) takes = absurd (cc takes)
is_hold kind.WorkerTurn takes = absurd (cc takes)
is_hold kind.Leave takes = absurd (cc takes)

-- what is noted of one that was refused
abbrev refusal : ℕ → Key → Key → Entry
refusal seat low high = record { seat = seat; op = op.Hold low high; reply = reply.NoMemory }

refused_is_noted : (m : Machine) (seat : ℕ) (low high : Key) → m.stopped ≡ None
    → (hold m seat low high NoRoom).state.book.entries ≡ m.book.entries ++ refusal seat low high ∷ []
refused_is_noted m seat low high runs =
    ap (λ (o : Option Why). (unless_stopped o seat (op.Hold low high) m (replied seat (op.Hold low high) reply.NoMemory m)).state.book.entries) runs

both_true : (a b : Bool) → (a && b) ≡ true → (a ≡ true) × (b ≡ true)
both_true a b h1 = grind (arith, common_steps, nat_tests)

runs_then : (stopped : Option Why) → not (is_some stopped) ≡ true → stopped ≡ None
runs_then stopped h1 = grind (arith, common_steps, nat_tests)

no_refusal : (m : Machine) (seat : ℕ) (k : Kind) (entries : List Entry) → IsPossible m seat k NoRoom 0 0
    → IsPrefix (stepped_as m seat k NoRoom).state.book.entries entries → NoneRefused (length m.book.entries) entries → ⊥
no_refusal m seat k entries possible grows had =
    let both = both_true (not (is_some m.stopped)) (takes_memory k) possible in
    let (low, high, is) = is_hold k both.1 in
    let begins : IsPrefix (hold m seat low high NoRoom).state.book.entries entries =
    subst (λ (x : Kind). IsPrefix (stepped_as m seat x NoRoom).state.book.entries entries) is grows in
    let noted = refused_is_noted m seat low high (runs_then m.stopped both.0) in
    let split : entries ≡ m.book.entries ++ refusal seat low high ∷ begins.0 =
    sym begins.1 ∙ ap (λ (es : List Entry). es ++ begins.0) noted ∙ append_assoc m.book.entries (refusal seat low high ∷ []) begins.0 in
    let told : true ≡ false = had m.book.entries begins.0 (refusal seat low high) split (omega arith) in
    absurd (cc told)

-- whatever the outcome might be otherwise, the count would have risen, a page be damaged or memory refused
went_well : (m : Machine) (seat : ℕ) (k : Kind) (outcome : Outcome) (count : ℕ) (entries : List Entry) → count ≢ last_count
    → IsPossible m seat k outcome count count → is_broken outcome ≡ false → IsPrefix (stepped_as m seat k outcome).state.book.entries entries
    → NoneRefused (length m.book.entries) entries → outcome ≡ Well
went_well m seat k Well count entries below possible whole grows had = refl
went_well m seat k (FailedAfter commits faults) count entries below possible whole grows had = absurd (no_rise count below possible.2)
went_well m seat k (FailedLooking faults) count entries below possible whole grows had = absurd (no_rise count below possible.1)
went_well m seat k (Broken page) count entries below possible whole grows had = absurd (cc whole)
went_well m seat k NoRoom count entries below possible whole grows had = absurd (no_refusal m seat k entries possible grows had)

-- so all of them went well
pub all_went_well : (m : Machine) (count : ℕ) (made : List (Step × Outcome)) → count ≢ last_count → AllMay m made → AreTold m count made count
    → NoneBroken made → NoneRefused (length m.book.entries) (played m made).book.entries → made ≡ all_well (map (λ (x : Step × Outcome). x.0) made)
all_went_well m count [] below may told whole had = refl
all_went_well m count (one ∷ made) below (can, may) (mid, least, possible, told) (unbroken, whole) had =
    let next = played_one m one in
    let same : mid ≡ count = omega (arith, least, told_le next mid count made told) in
    let played_is : next ≡ (stepped_as m one.0.seat one.0.kind one.1).state =
    ap (λ (b : Bool). cond b (stepped_as m one.0.seat one.0.kind one.1).state m) can in
    let grows = longer next made may in
    let well : one.1 ≡ Well =
    went_well m one.0.seat one.0.kind one.1 count (played next made).book.entries below
    (subst (λ (n : ℕ). IsPossible m one.0.seat one.0.kind one.1 count n) same (possible can)) unbroken
    (subst (λ (x : Machine). IsPrefix x.book.entries (played next made).book.entries) played_is grows) had in
    let first : one ≡ (one.0, Well) = ap (λ (o : Outcome). (one.0, o)) well in
    let more = prefix_length m.book.entries next.book.entries (one_longer m one can) in
    let rest = all_went_well next count made below may (subst (λ (n : ℕ). AreTold next n made count) same told) whole
    (none_refused (length m.book.entries) (length next.book.entries) (played next made).book.entries more had) in
    ap (λ (x : Step × Outcome). x ∷ made) first ∙ ap (λ (xs : List (Step × Outcome)). (one.0, Well) ∷ xs) rest

-- ---- one chain

steps_in : (made : List (Step × Outcome × ℕ)) → map (λ (x : Step × Outcome). x.0) (outcomes_in made) ≡ map (λ (x : Step × Outcome × ℕ). x.0) made
steps_in [] = refl
steps_in (one ∷ made) = ap (λ (xs : List Step). one.0 ∷ xs) (steps_in made)

pub shows_as : {D : Type 0} (state : D → DiskState) (opening : List (Key × Value)) (steps : List Step) (start end : CoreState D) (m : Machine)
    → IsTimed (state end.disk) → MadeWell state opening steps start end m → ShowsAs state opening start end m (played m (all_well steps))
shows_as {D} state opening steps start end m timed it =
    let chain : ChainIsSteps state opening it.calls start end m =
    chain_is_steps state opening it.calls start end m timed it.keeps it.are it.honest it.stood in
    let made = outcomes_in chain.made in
    let before : m.book.entries ≡ start.held.book.book.entries = ap (λ (b : BookState). b.book.entries) it.stood.book in
    let after : (played m made).book.entries ≡ end.held.book.book.entries = ap (λ (b : BookState). b.book.entries) chain.stands.book in
    let had : NoneRefused (length m.book.entries) (played m made).book.entries =
    subst (λ (es : List Entry). NoneRefused (length m.book.entries) es) (sym after)
    (subst (λ (es : List Entry). NoneRefused (length es) end.held.book.book.entries) (sym before) it.had) in
    let well : made ≡ all_well (map (λ (x : Step × Outcome). x.0) made) =
    all_went_well m (state start.disk).faults made it.counts chain.may
    (subst (λ (n : ℕ). AreTold m (state start.disk).faults made n) it.calm chain.told) chain.whole had in
    let all : made ≡ all_well steps = well ∙ ap (λ (xs : List Step). all_well xs) (steps_in chain.made ∙ chain.steps_are ∙ it.steps_are) in
    subst (λ (xs : List (Step × Outcome)). ShowsAs state opening start end m (played m xs)) all
    (let now = shows_now opening end.held (played m made) (state end.disk) chain.stands in
    record { stands = chain.stands; images = chain.images; whole = now.each; reads = now.reads })

-- ---- two of them

pub are_alike : {D E : Type 0} (state : D → DiskState) (other_state : E → DiskState) (end : CoreState D) (other_end : CoreState E)
    → IsTimed (state end.disk) → IsTimed (other_state other_end.disk) → ReleaseShowsNothing state other_state end other_end
are_alike {D} {E} state other_state end other_end timed other_timed = λ opening steps start other_start m it that.
    let one = shows_as state opening steps start end m timed it in
    let other = shows_as other_state opening steps other_start other_end m other_timed that in
    record { one = one; other = other; book = sym one.stands.book ∙ other.stands.book }
