use Rattle.std.proofs.Common.{inr, ◌≡◌, ◌<◌, [], Ok, Err, sym, subst, ◌∙◌, arith}
use Rattle.std.specs.Prelude.{IsTrue}
use Rattle.std.proofs.lemmas.Result.{err_from_is_err_and}
use Rattle.gated_log.specs.Replay.{HasRecordAt, ReplayState, TellsBlock, TellsLane}
use Rattle.record_delta.specs.Entries.{Entries}
use Rattle.gated_log.proofs.ReplayLemmas.{block_kept, err_told, first_given, given_first, given_kept, given_none, lies_inside, none_between}
use Rattle.gated_log.proofs.replay.Replay.next.Goals as goal

pub returns-then-self-clause-told : goal.returns-then-self-clause-told
returns-then-self-clause-told g c =
    λ entries tells given. given_kept c.args.self.now c.take_first.new.self entries c.take_first.result
    (g.D.Disk.state c.args.disk.now).bytes given c.take_first.ensures

pub returns-in_err-block-clause-told : goal.returns-in_err-block-clause-told
returns-in_err-block-clause-told g c = λ entries tells given.
    let kept = c.self.inside.kept in
    let file = (g.D.Disk.state c.look.new.disk).bytes in
    let none : c.args.self.now.behind ≡ [] =
    subst (λ (r : ReplayState). r.behind ≡ []) c.self.view_is (none_between kept.bytes kept.from kept.to (omega (arith, c.if-self.false))) in
    let p = err_from_is_err_and c.from_residual.result c.from_residual.ensures.1 in
    let broken = p.0 in
    subst (λ a. TellsLane c.args.self.now entries file a c.args.self.now) (sym p.1)
    (err_told broken c.args.self.now entries file (IsTrue (g.D.Disk.state c.args.disk.now).tells_bytes) tells none
    (subst (λ b. TellsBlock c.args.self.now (IsTrue (g.D.Disk.state c.args.disk.now).tells_bytes) file (Err b))
    (sym p.2) c.in_err-block.ensures.block) given)

pub returns-in-Some-clause-step : goal.returns-in-Some-clause-step
returns-in-Some-clause-step g c =
    let kept = c.self.inside.kept in
    let none : c.args.self.now.behind ≡ [] =
    subst (λ (r : ReplayState). r.behind ≡ []) c.self.view_is (none_between kept.bytes kept.from kept.to (omega (arith, c.if-self.false))) in
    let told = subst (λ o. TellsBlock c.args.self.now (IsTrue (g.D.Disk.state c.args.disk.now).tells_bytes) (g.D.Disk.state c.look.new.disk).bytes
    (Ok o)) c.in-Some.is c.in_ok-block.ensures.block in
    let es = told.0 in
    let first = first_given c.args.self.now _ c.take_first-in-Some.new.self c.take_first-in-Some.result es none told.1.is told.1.inside
    (block_kept _ c.args.self.now c.in-Some.block.to _ es c.self.view_is told.1.to_is told.1.entries) c.take_first-in-Some.ensures in
    inr (first.others, first.first)

pub returns-in-Some-clause-read : goal.returns-in-Some-clause-read
returns-in-Some-clause-read g c = λ tells.
    let kept = c.self.inside.kept in
    let none : c.args.self.now.behind ≡ [] =
    subst (λ (r : ReplayState). r.behind ≡ []) c.self.view_is (none_between kept.bytes kept.from kept.to (omega (arith, c.if-self.false))) in
    let told = subst (λ o. TellsBlock c.args.self.now (IsTrue (g.D.Disk.state c.args.disk.now).tells_bytes) (g.D.Disk.state c.look.new.disk).bytes
    (Ok o)) c.in-Some.is c.in_ok-block.ensures.block in
    let es = told.0 in
    let first = first_given c.args.self.now _ c.take_first-in-Some.new.self c.take_first-in-Some.result es none told.1.is told.1.inside
    (block_kept _ c.args.self.now c.in-Some.block.to _ es c.self.view_is told.1.to_is told.1.entries) c.take_first-in-Some.ensures in
    inr (
      first.others,
      first.first,
      subst (λ (l : Entries). HasRecordAt c.args.self.now.sizes c.args.self.now.lane c.args.self.now.end l (g.D.Disk.state c.look.new.disk).bytes)
          first.is (told.2 tells),
    )

pub returns-in-Some-clause-told : goal.returns-in-Some-clause-told
returns-in-Some-clause-told g c = λ entries tells given.
    let kept = c.self.inside.kept in
    let none : c.args.self.now.behind ≡ [] =
    subst (λ (r : ReplayState). r.behind ≡ []) c.self.view_is (none_between kept.bytes kept.from kept.to (omega (arith, c.if-self.false))) in
    let told = subst (λ o. TellsBlock c.args.self.now (IsTrue (g.D.Disk.state c.args.disk.now).tells_bytes) (g.D.Disk.state c.look.new.disk).bytes
    (Ok o)) c.in-Some.is c.in_ok-block.ensures.block in
    let es = told.0 in
    let first = first_given c.args.self.now _ c.take_first-in-Some.new.self c.take_first-in-Some.result es none told.1.is told.1.inside
    (block_kept _ c.args.self.now c.in-Some.block.to _ es c.self.view_is told.1.to_is told.1.entries) c.take_first-in-Some.ensures in
    given_first c.args.self.now c.take_first-in-Some.new.self entries c.take_first-in-Some.result first.others
    (g.D.Disk.state c.look.new.disk).bytes given first.first
    (subst (λ (l : Entries). HasRecordAt c.args.self.now.sizes c.args.self.now.lane c.args.self.now.end l (g.D.Disk.state c.look.new.disk).bytes)
    first.is (told.2 tells))

pub returns-in-None-clause-told : goal.returns-in-None-clause-told
returns-in-None-clause-told g c = λ entries tells given.
    let kept = c.self.inside.kept in
    let file = (g.D.Disk.state c.look.new.disk).bytes in
    let none : c.args.self.now.behind ≡ [] =
    subst (λ (r : ReplayState). r.behind ≡ []) c.self.view_is (none_between kept.bytes kept.from kept.to (omega (arith, c.if-self.false))) in
    let told = subst (λ o. TellsBlock c.args.self.now (IsTrue (g.D.Disk.state c.args.disk.now).tells_bytes) file (Ok o)) c.in-None.is
    c.in_ok-block.ensures.block in
    given_none c.args.self.now entries file
    (lies_inside c.args.self.now file (subst (λ (r : ReplayState). r.lane < 3) c.self.view_is c.self.invariant.0)
    (c.look.ensures.effect.same.same.length tells ∙ c.requires tells)) given none (told tells)
