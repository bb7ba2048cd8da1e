-- Step by step from the back: the end of a run that one seat asks is that of its commands done alone.
use Rattle.std.proofs.Common.{◌≡◌, ◌≢◌, ◌∙◌, refl, ap, sym, subst, ℕ, ◌+◌, ◌<◌, Bool, cond, true, false, List, [], ◌∷◌, append-nil, inl, arith, eqb-true}
use Rattle.std.specs.Prelude.{◌==◌}
use Rattle.std.specs.List.{AllByRecursion}
use Rattle.std.proofs.lemmas.Bool.{false≢true, eq-eqb}
use Rattle.blsm_model.specs.Format.{callers}
use Rattle.blsm_model.specs.Sizes.{Sizes}
use Rattle.blsm_model.specs.declared.history.Entry.{Entry}
use Rattle.blsm_model.specs.declared.op.Op.TheVariants.{Hold, Next, Release}
use Rattle.blsm_model.specs.declared.room.Room.{Room}
use Rattle.gear_sched.specs.Gears.{first_debt, second_debt}
use Rattle.record_delta.specs.Entries.{Entries}
use Rattle.tree_machine.proofs.PlayLemmas.{of_replicate}
use Rattle.tree_machine.specs.declared.step.Kind.{Kind}
use Rattle.tree_machine.specs.declared.step.Kind.TheVariants as kind
use Rattle.tree_machine.specs.declared.step.Step.{Step}
use Rattle.tree_machine.specs.Machine.{Catalogue, Machine, WorkSoFar, no_work, opened, totals, work_of}
use Rattle.tree_machine.specs.Plays.{is_help, may, may_step, played, played_one, stepped, stepped_as}
use Rattle.tree_machine.specs.Steps.{Outcome, Well, do_hold}
use Rattle.alone_run.specs.Alone.{alone, EndsAlone, IsAsAlone, NoneHelps, but_left, is_trouble, ops_in}
use Rattle.alone_run.proofs.Going.{alone_same, opened_goes}
use Rattle.alone_run.proofs.Resumed.{alone_resumed}
use Rattle.alone_run.proofs.Cases.{Before, IsAlone, Leads, admits, end_leads, even_pays, free_reads, leaves, no_other_turns, own_pays, own_turns, turning_caller, looks}
use Rattle.alone_run.proofs.Payments.{even_of, even_paid}
use Rattle.alone_run.proofs.Readings.{drop_reads, hold_reads, next_reads, next_well, reading_on, releasing, running_is, taking_hold}
use Rattle.alone_run.proofs.Since.{between, closed_since, entries_since, next_between, ran_since}
use Rattle.alone_run.proofs.Turns.{replicated}

module _ (s : ℕ) (caller : s < callers) (end : Machine) (ends : EndsAlone s end) where
  -- one step, of any seat and kind
  one_leads : (m : Machine) (seat : ℕ) (k : Kind) (outcome : Outcome) → is_help k ≡ false → IsAlone s m → may m seat k ≡ true → Before s (stepped_as m seat k outcome).state
      → ((u : ℕ) → u ≢ s → u < callers → (work_of u (stepped_as m seat k outcome).state).turns ≡ 0)
      → (IsAlone s (stepped_as m seat k outcome).state → Leads s (stepped_as m seat k outcome).state end) → Leads s m end
  one_leads m seat (kind.Admit op) outcome helps is ok before closed rest = admits s end m seat op outcome is ok before rest
  one_leads m seat kind.Pay outcome helps is ok before closed rest = by (seat == s) refl
    where
      by : (b : Bool) → (seat == s) ≡ b → Leads s m end
      by true same =
          subst (λ u. may m u kind.Pay ≡ true → Before s (stepped_as m u kind.Pay outcome).state → (IsAlone s (stepped_as m u kind.Pay outcome).state → Leads s (stepped_as m u kind.Pay outcome).state end) → Leads s m end)
          (sym (eqb-true seat s same)) (own_pays s end m outcome is) ok before rest
      by false differs = even_pays s end m seat outcome (is.others seat (λ same. false≢true (sym differs ∙ eq-eqb seat s same))) is rest
  one_leads m seat (kind.Look op) outcome helps is ok before closed rest = looks s end m seat op outcome is ok before rest
  one_leads m seat (kind.Hold low high) outcome helps is ok before closed rest =
      free_reads s end (taking_hold seat low high) (Hold low high) m (stepped_as m seat (kind.Hold low high) outcome).state seat (hold_reads m seat low high outcome is.runs before.calm) refl is refl (between seat 0 m ok)
      (λ n runs. running_is n seat (Hold low high) (do_hold n seat low high Well) runs) before rest
  one_leads m seat (kind.Next n) outcome helps is ok before closed rest =
      free_reads s end (reading_on seat n) (Next n) m (stepped_as m seat (kind.Next n) outcome).state seat (next_reads m seat n outcome is.runs before.calm) refl is refl (next_between m seat n ok)
      (λ x runs. next_well x seat n runs) before rest
  one_leads m seat kind.Release outcome helps is ok before closed rest =
      free_reads s end (releasing seat) Release m (stepped_as m seat kind.Release outcome).state seat (drop_reads m seat is.runs) refl is refl (between seat 0 m ok)
      (λ n runs. drop_reads n seat runs) before rest
  one_leads m seat kind.WorkTurn outcome helps is ok before closed rest = by (seat == s) refl
    where
      by : (b : Bool) → (seat == s) ≡ b → Leads s m end
      by true same =
          subst (λ u. may m u kind.WorkTurn ≡ true → Before s (stepped_as m u kind.WorkTurn outcome).state → (IsAlone s (stepped_as m u kind.WorkTurn outcome).state → Leads s (stepped_as m u kind.WorkTurn outcome).state end) → Leads s m end)
          (sym (eqb-true seat s same)) (own_turns s end m outcome caller is) ok before rest
      by false differs =
          absurd (no_other_turns s end m seat outcome is ok before.runs (closed seat (λ same. false≢true (sym differs ∙ eq-eqb seat s same)) (turning_caller s end m seat ok)))
  one_leads m seat (kind.WorkEnd n) outcome helps is ok before closed rest = end_leads s end m seat n is ok before rest
  one_leads m seat kind.WorkerTurn outcome helps is ok before closed rest = absurd (false≢true (sym helps))
  one_leads m seat kind.Leave outcome helps is ok before closed rest = leaves s end m seat is rest

  before_end : (m : Machine) (rest : List (Step × Outcome)) → played m rest ≡ end → Before s m
  before_end m rest there = record {
    runs = ran_since m rest (ap (λ (x : Machine). x.stopped) there ∙ ends.runs);
    calm = entries_since (λ (e : Entry). is_trouble e.reply ≡ false) m rest (subst (λ (x : Machine). AllByRecursion (λ (e : Entry). is_trouble e.reply ≡ false) x.book.entries) (sym there) ends.calm);
    asked = entries_since (λ (e : Entry). e.seat ≡ s) m rest (subst (λ (x : Machine). AllByRecursion (λ (e : Entry). e.seat ≡ s) x.book.entries) (sym there) ends.asked);
  }

  closed_end : (m : Machine) (rest : List (Step × Outcome)) → played m rest ≡ end → (u : ℕ) → u ≢ s → u < callers → (work_of u m).turns ≡ 0
  closed_end m rest there u other below =
      closed_since s u other below m rest (ap (λ (x : Machine). x.stopped) there ∙ ends.runs)
      (subst (λ (x : Machine). AllByRecursion (λ (e : Entry). e.seat ≡ s) x.book.entries) (sym there) ends.asked) (ap (λ (x : Machine). (work_of u x).turns) there ∙ ends.idle u below)

  -- the end itself
  end_itself : (m : Machine) → m ≡ end → Leads s m end
  end_itself m there = record {
    added = [];
    entries = ap (λ (x : Machine). x.book.entries) (sym there) ∙ sym (append-nil m.book.entries);
    alike = ap but_left (sym there) ∙ sym (ap but_left (even_paid (first_debt m.gears s + second_debt m.gears s) s m (even_of s m (ap (λ (x : Machine). first_debt x.gears s + second_debt x.gears s) there ∙ ends.even))));
    first = λ some. absurd (let none = ap (λ (x : Machine). (work_of s x).turns) there ∙ ends.idle s caller in omega (arith, some, none));
  }

  step_leads : (m : Machine) (made : Step × Outcome) (rest : List (Step × Outcome)) → is_help made.0.kind ≡ false → played (played_one m made) rest ≡ end → IsAlone s m
      → ((n : Machine) → played n rest ≡ end → IsAlone s n → Leads s n end) → Leads s m end
  step_leads m made rest helps there is more = by (may_step m made.0) refl
    where
      by : (b : Bool) → may_step m made.0 ≡ b → Leads s m end
      by true ok =
          let new = (stepped m made.0 made.1).state in
          let there_too : played new rest ≡ end = sym (ap (λ b. played (cond b new m) rest) ok) ∙ there in
          one_leads m made.0.seat made.0.kind made.1 helps is ok (before_end new rest there_too) (closed_end new rest there_too) (more new there_too)
      by false stays = more m (sym (ap (λ b. played (cond b (stepped m made.0 made.1).state m) rest) stays) ∙ there) is

  all_lead : (m : Machine) (made : List (Step × Outcome)) → NoneHelps made → played m made ≡ end → IsAlone s m → Leads s m end
  all_lead m [] helps there is = end_itself m there
  all_lead m (one ∷ rest) helps there is = step_leads m one rest helps.0 there is (λ n there_too is_too. all_lead n rest helps.1 there_too is_too)

-- ---- from an opening

opened_alone : (s : ℕ) (sizes : Sizes) (c1 c2 : Entries) (catalogue : Catalogue) (faults : ℕ) (room : Room) → IsAlone s (opened sizes c1 c2 catalogue faults room)
opened_alone s sizes c1 c2 catalogue faults room = record {
  runs = refl;
  lengths = refl;
  works = refl;
  synced = (refl, refl);
  others = λ t other. (replicated t, replicated t);
  paying = inl (replicated s, replicated s);
  working = inl (ap (λ (w : WorkSoFar). w.turns) (of_replicate callers s no_work));
}

as_alone : (end one : Machine) → but_left end ≡ but_left one → IsAsAlone end one
as_alone end one alike = record {
  entries = ap (λ (x : Machine). x.book.entries) alike;
  quanta = ap (λ (x : Machine). x.book.quanta) alike;
  totals_are = ap totals alike;
  state = alike;
}

-- Whatever steps led from an opening to an end that only this seat asked, and in whatever order the callers came and left: it is the end to which
-- the seat's commands lead, done alone.
pub runs_alone : (sizes : Sizes) (c1 c2 : Entries) (catalogue : Catalogue) (faults : ℕ) (room : Room) (seat : ℕ) (made : List (Step × Outcome)) → seat < callers → NoneHelps made
    → EndsAlone seat (played (opened sizes c1 c2 catalogue faults room) made)
    → IsAsAlone (played (opened sizes c1 c2 catalogue faults room) made)
    (alone seat (opened sizes c1 c2 catalogue faults room) (ops_in (played (opened sizes c1 c2 catalogue faults room) made).book.entries))
runs_alone sizes c1 c2 catalogue faults room s made caller helps ends =
    let begin = opened sizes c1 c2 catalogue faults room in
    let end = played begin made in
    let leads = all_lead s caller end ends begin made helps refl (opened_alone s sizes c1 c2 catalogue faults room) in
    as_alone end (alone s begin (ops_in end.book.entries))
    (leads.alike
    ∙ ap (λ n. but_left (alone_resumed s n (ops_in leads.added))) (even_paid (first_debt begin.gears s + second_debt begin.gears s) s begin (replicated s, replicated s))
    ∙ ap (λ es. but_left (alone_resumed s begin (ops_in es))) (sym leads.entries)
    ∙ ap but_left (alone_same s caller (ops_in end.book.entries) begin (opened_goes s caller sizes c1 c2 catalogue faults room) (ap (λ (w : WorkSoFar). w.turns) (of_replicate callers s no_work))))

pub same_text : (sizes : Sizes) (c1 c2 : Entries) (catalogue : Catalogue) (faults : ℕ) (room : Room) (seat : ℕ) (made others : List (Step × Outcome)) → seat < callers → NoneHelps made → NoneHelps others
    → EndsAlone seat (played (opened sizes c1 c2 catalogue faults room) made) → EndsAlone seat (played (opened sizes c1 c2 catalogue faults room) others)
    → ops_in (played (opened sizes c1 c2 catalogue faults room) made).book.entries ≡ ops_in (played (opened sizes c1 c2 catalogue faults room) others).book.entries
    → IsAsAlone (played (opened sizes c1 c2 catalogue faults room) made) (played (opened sizes c1 c2 catalogue faults room) others)
same_text sizes c1 c2 catalogue faults room s made others caller helps help ends end ops =
    let begin = opened sizes c1 c2 catalogue faults room in
    as_alone (played begin made) (played begin others)
    ((runs_alone sizes c1 c2 catalogue faults room s made caller helps ends).state
    ∙ ap (λ os. but_left (alone s begin os)) ops
    ∙ sym (runs_alone sizes c1 c2 catalogue faults room s others caller help end).state)
