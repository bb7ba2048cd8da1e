-- One caller alone: what is printed is one function of the state that it begins with and its commands.
use Rattle.std.specs.Prelude.{◌≡◌, ◌≢◌, ◌==◌, ℕ, Bool, false, List, [], ◌∷◌, filter, map}
use Rattle.std.proofs.lemmas.Grind.{common_steps}
use Rattle.std.proofs.lemmas.Bool.Decides.{nat_tests}
use Rattle.std.specs.List.{AllByRecursion}
use Rattle.std.proofs.Common.{◌∙◌, arith, ap, cond, eq-eqb, refl, subst, sym}
use mathlib.Core.Logic.{dite}
use native.Mathlib.Decide.{ℕ_discrete}
use Rattle.alone_run.specs.Alone.{EndsAlone, NoneHelps, alone, ops_in}
use Rattle.alone_run.proofs.Runs.{runs_alone}
use Rattle.blsm_model.specs.Scripts.{IsOfScript, lines_of, ops_of}
use Rattle.blsm_model.specs.Sizes.{Sizes}
use Rattle.blsm_model.specs.declared.history.Entry.{Entry}
use Rattle.blsm_model.specs.declared.history.Line.{Line}
use Rattle.blsm_model.specs.declared.history.Totals.{Totals}
use Rattle.blsm_model.specs.declared.key.Key.{Key}
use Rattle.blsm_model.specs.declared.op.Op.{Op}
use Rattle.blsm_model.specs.declared.room.Room.{Room}
use Rattle.blsm_model.specs.declared.row.Value.{Value}
use Rattle.core_chain.specs.Quanta.{helps_in}
use Rattle.seat_book.specs.State.{book_of}
use Rattle.tree_machine.specs.declared.step.Step.{Step}
use Rattle.tree_machine.specs.Machine.{Machine, totals}
use Rattle.tree_machine.specs.Plays.{is_help, played}
use Rattle.tree_machine.specs.Steps.{Outcome, one_if}
use Rattle.store_run.specs.Headline.{IsPrinted, IsReached, Solo, begin_of}
use Rattle.store_run.specs.Run.{HaveRested, Run}

-- ---- entries of one seat

-- a script of one caller has no lines of another
none_of : (seat other : ℕ) (lines : List Line) → AllByRecursion (λ l. l.seat ≡ seat) lines → other ≢ seat → lines_of other lines ≡ []
none_of seat other [] all apart = refl
none_of seat other (line ∷ lines) all apart = grind (arith, common_steps, nat_tests, none_of seat other lines all.1 apart)

-- a history in which no other seat has an entry is of the seat
all_of : (seat : ℕ) (entries : List Entry) → ((other : ℕ) → other ≢ seat → ops_of other entries ≡ []) → AllByRecursion (λ e. e.seat ≡ seat) entries
all_of seat [] none = tt
all_of seat (e ∷ entries) none = (dite (ℕ_discrete e.seat seat) (λ is. is) (λ apart. absurd (its apart)), all_of seat entries (λ other apart. rest other (none other apart)))
  where
    ops : ℕ → List Op
    ops other = map (λ (x : Entry). x.op) (filter (λ (x : Entry). x.seat == other) entries)

    its : e.seat ≢ seat → ⊥
    its apart = cc (sym (ap (λ (b : Bool). map (λ (x : Entry). x.op) (cond b (e ∷ filter (λ (x : Entry). x.seat == e.seat) entries) (filter (λ (x : Entry). x.seat == e.seat) entries))) (eq-eqb e.seat e.seat refl)) ∙ none e.seat apart)

    rest : (other : ℕ) → ops_of other (e ∷ entries) ≡ [] → ops_of other entries ≡ []
    rest other is = grind (arith, common_steps, nat_tests)

-- whose commands are all there are
whole_of : (seat : ℕ) (entries : List Entry) → AllByRecursion (λ e. e.seat ≡ seat) entries → ops_of seat entries ≡ ops_in entries
whole_of seat [] all = refl
whole_of seat (e ∷ entries) all = grind (arith, common_steps, nat_tests, whole_of seat entries all.1)

-- ---- no worker

none_helps : (made : List (Step × Outcome)) → helps_in (map (λ one. one.0) made) ≡ 0 → NoneHelps made
none_helps [] none = tt
none_helps (one ∷ made) none = (by (is_help one.0.kind) (omega (arith, none)), none_helps made (omega (arith, none)))
  where
    by : (b : Bool) → one_if b ≡ 0 → b ≡ false
    by b h1 = grind (arith, common_steps, nat_tests)

-- ---- the end

pub solo_of : {sizes : Sizes} {opening : List (Key × Value)} {run : Run} {room : Room} {file : List ℕ} {before after : ℕ} (reached : IsReached sizes opening run room file before after)
    (lines : List Line) (workers : ℕ) → IsOfScript lines run.entries → HaveRested reached.end.gears (book_of reached.end) → (workers ≡ 0 → helps_in (map (λ one. one.0) reached.made) ≡ 0)
    → Solo lines workers run (begin_of reached)
solo_of {sizes} {opening} {run} {room} {file} {before} reached lines workers script ended rests seat below by_one none calm =
    let begin = begin_of reached in
    let asked : AllByRecursion (λ e. e.seat ≡ seat) run.entries = all_of seat run.entries (λ other apart. script other ∙ none_of seat other lines by_one apart) in
    let runs = ap (λ (t : Totals). t.stopped) reached.totals_are ∙ calm.runs in
    let ends : EndsAlone seat (played begin reached.made) = subst (λ (m : Machine). EndsAlone seat m) (sym reached.leads) (record {
      asked = subst (λ (es : List Entry). AllByRecursion (λ e. e.seat ≡ seat) es) (sym reached.entries) asked;
      calm = subst (λ (es : List Entry). AllByRecursion (λ e. Rattle.alone_run.specs.Alone.is_trouble e.reply ≡ false) es) (sym reached.entries) calm.replies;
      runs = runs;
      idle = λ other there. ended.idle other there;
      even = ended.even runs seat below;
    }) in
    let told = runs_alone sizes reached.c1 reached.c2 reached.catalogue before room seat reached.made below (none_helps reached.made (rests none)) ends in
    let ops : ops_in (played begin reached.made).book.entries ≡ lines_of seat lines =
    ap (λ (m : Machine). ops_in m.book.entries) reached.leads ∙ ap ops_in reached.entries ∙ sym (whole_of seat run.entries asked) ∙ script seat in
    subst (λ (os : List Op). IsPrinted run (alone seat begin os)) ops (record {
      entries = sym reached.entries ∙ sym (ap (λ (m : Machine). m.book.entries) reached.leads) ∙ told.entries;
      quanta = sym reached.quanta ∙ sym (ap (λ (m : Machine). m.book.quanta) reached.leads) ∙ told.quanta;
      totals_are = sym reached.totals_are ∙ sym (ap totals reached.leads) ∙ told.totals_are;
    })
