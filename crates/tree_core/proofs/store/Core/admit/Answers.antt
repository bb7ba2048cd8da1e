use Rattle.std.specs.Prelude.{◌≡◌, true, None}
use Rattle.std.proofs.Common.{◌∙◌, refl, sym, subst}
use Rattle.std.proofs.lemmas.Bool.{false≢true}
use Rattle.blsm_model.proofs.OpLemmas.{no_condition}
use Rattle.disk_trait.proofs.ReadLemmas.{only_reads_start}
use Rattle.seat_book.specs.State.{may_note_in}
use Rattle.tree_machine.specs.Lists.{value_in}
use Rattle.tree_machine.specs.declared.step.Kind.TheVariants as kind
use Rattle.core_moves.specs.Moves.{with_book}
use Rattle.tree_core.specs.Calls.{Admits, AdmitsMet}
use Rattle.tree_core.specs.Core.{CoreState, IsCore}
use Rattle.tree_core.specs.Ruling as ruling
use Rattle.tree_core.specs.Steps.{may_in}
use Rattle.tree_core.proofs.AdmissionJoins.{joined, looked_at_nothing}
use Rattle.tree_core.proofs.AdmissionLemmas.{none_of}
use Rattle.tree_core.proofs.AdmissionSteps.{write_fits}
use Rattle.tree_core.proofs.LastLemmas.{kept_on, may_admit}
use Rattle.tree_core.proofs.RefusalCalls.{refused_stopped}
use Rattle.tree_core.proofs.TakingLemmas.{spelled_weighs}
use Rattle.tree_core.proofs.store.Core.admit.Goals as goal

-- ---- the store is stopped

pub returns-in-Some : goal.returns-in-Some
returns-in-Some g c = (
  None,
  let old : CoreState g.row.D.Denot = record { disk = c.self.inside.disk; held = c.self.inside.held; holds = c.self.inside.holds } in
      let can = subst (λ (s : CoreState g.row.D.Denot). may_in s.held c.args.seat (kind.Admit c.args.op.now) ≡ true) (sym c.self.view_is)
      (may_admit c.args.seat c.args.op.now c.args.self.now.held c.requires.write c.requires.note c.requires.even) in
      let room = subst (λ (s : CoreState g.row.D.Denot). may_note_in c.args.seat 0 s.held.book ≡ true) (sym c.self.view_is) c.requires.note in
      let fits = write_fits c.args.op.now c.spell-key.result.now c.spell-key.new.rec c.weight-bytes.result c.spell-key.ensures c.weight-bytes.ensures.within
      c.weight-bytes.ensures.weight c.weight-bytes.ensures.least in
      subst (λ (s : CoreState g.row.D.Denot). Admits g.D.Disk.state c.args.seat c.args.op.now (ruling.Stopped c.in-Some.why) s
      (record { disk = old.disk; held = with_book c.note.new.book old.held; holds = old.holds })) c.self.view_is
      (refused_stopped g.D.Disk.state c.args.seat c.args.op.now old old.disk c.self.invariant.0 (g.met.D.Disk.timed old.disk) can room fits
      (λ n counts. only_reads_start (g.D.Disk.state old.disk) (g.met.D.Disk.timed old.disk)) c.in-Some.why c.note.new.book refl
      (sym c.stopped.ensures ∙ c.in-Some.is) c.note.ensures),
)

pub invariant_of-self : goal.invariant_of-self
invariant_of-self g c = kept_on g.D.Disk.state c.self.view_is (g.met.D.Disk.timed c.self.inside.disk) c.self.invariant refl
    (returns-in-Some g c).1.goes

-- ---- it doesn't look first

pub admit_met-requires-clause-fits : goal.admit_met-requires-clause-fits
admit_met-requires-clause-fits g c = write_fits c.args.op.now c.spell-key.result.now c.spell-key.new.rec c.weight-bytes.result c.spell-key.ensures c.weight-bytes.ensures.within
    c.weight-bytes.ensures.weight c.weight-bytes.ensures.least

pub admit_met-requires-clause-weight : goal.admit_met-requires-clause-weight
admit_met-requires-clause-weight g c = c.weight-bytes.ensures.weight ∙ spelled_weighs c.args.op.now c.spell-key.result.now c.spell-key.new.rec c.spell-key.ensures

pub admit_met-requires-clause-runs : goal.admit_met-requires-clause-runs
admit_met-requires-clause-runs g c = subst (λ (s : CoreState g.row.D.Denot). s.held.book.stopped ≡ None) c.self.view_is
    (sym c.stopped.ensures ∙ none_of c.stopped.result c.in_default.not-Some)

pub admit_met-requires-clause-even : goal.admit_met-requires-clause-even
admit_met-requires-clause-even g c = c.requires.even (admit_met-requires-clause-runs g c)

pub admit_met-requires-clause-met : goal.admit_met-requires-clause-met
admit_met-requires-clause-met g c = λ opening m honest s. no_condition c.args.op.now (value_in m.lists)
    (sym c.looks_first.ensures ∙ c.if-not-looks_first.true)

pub returns-then-not-looks_first : goal.returns-then-not-looks_first
returns-then-not-looks_first g c = (
  None,
  let old = c.args.self.now in
      let core = subst (λ (s : CoreState g.row.D.Denot). IsCore s.held (g.D.Disk.state s.disk)) c.self.view_is c.self.invariant.0 in
      let alone = sym c.looks_first.ensures ∙ c.if-not-looks_first.true in
      joined g.D.Disk.state c.args.seat c.args.op.now old old.disk c.admit_met.new.self core (g.met.D.Disk.timed old.disk)
      (g.met.D.Disk.timed c.admit_met.new.self.disk) (λ n counts. only_reads_start (g.D.Disk.state old.disk) (g.met.D.Disk.timed old.disk)) refl
      (looked_at_nothing c.args.op.now old.held (g.D.Disk.state old.disk) alone) (λ none. refl) c.admit_met.result c.admit_met.ensures,
)

-- ---- it looks first

pub look_first-requires-clause-fits : goal.look_first-requires-clause-fits
look_first-requires-clause-fits g c = write_fits c.args.op.now c.spell-key.result.now c.spell-key.new.rec c.weight-bytes.result c.spell-key.ensures c.weight-bytes.ensures.within
    c.weight-bytes.ensures.weight c.weight-bytes.ensures.least

-- and its condition holds

pub admit_met-requires-in-None-clause-fits : goal.admit_met-requires-in-None-clause-fits
admit_met-requires-in-None-clause-fits g c = write_fits c.args.op.now c.spell-key.result.now c.spell-key.new.rec c.weight-bytes.result c.spell-key.ensures c.weight-bytes.ensures.within
    c.weight-bytes.ensures.weight c.weight-bytes.ensures.least

pub admit_met-requires-in-None-clause-weight : goal.admit_met-requires-in-None-clause-weight
admit_met-requires-in-None-clause-weight g c = c.weight-bytes.ensures.weight ∙ spelled_weighs c.args.op.now c.spell-key.result.now c.spell-key.new.rec c.spell-key.ensures

pub returns-in-None : goal.returns-in-None
returns-in-None g c = (
  None,
  let old = c.args.self.now in
      let looked = c.in-None.ensures in
      let mid = c.look_first.new.self in
      let new = c.admit_met-in-None.new.self in
      let first = sym c.looks_first.ensures ∙ c.if-not-looks_first.false in
      let core = subst (λ (s : CoreState g.row.D.Denot). IsCore s.held (g.D.Disk.state s.disk)) c.self.view_is c.self.invariant.0 in
      joined g.D.Disk.state c.args.seat c.args.op.now old mid.disk new core (g.met.D.Disk.timed mid.disk) (g.met.D.Disk.timed new.disk) looked.3
      looked.1 looked.2 (λ alone. absurd (false≢true (sym alone ∙ first))) c.admit_met-in-None.result
      (subst (λ (s : CoreState g.row.D.Denot). AdmitsMet g.D.Disk.state c.args.seat c.args.op.now c.admit_met-in-None.result s new) looked.0
      c.admit_met-in-None.ensures),
)
