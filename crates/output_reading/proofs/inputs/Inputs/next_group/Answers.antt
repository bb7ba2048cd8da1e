use Rattle.std.proofs.Common.{◌∙◌, ℕ, List, Err, ap, refl, sym, subst, arith}
use Rattle.merge_ends.specs.Input.{IsInput}
use Rattle.output_reading.specs.Walk.{no_space}
use Rattle.output_reading.proofs.CallsLemmas.{handed_on, ok_is_calm, ok_not_err, reads_after, reads_calm, reads_handed, same_error, still}
use Rattle.output_reading.proofs.inputs.Inputs.next_group.Goals as goal

pub returns-in_err-go_above-clause-inputs : goal.returns-in_err-go_above-clause-inputs
returns-in_err-go_above-clause-inputs g c = λ newer_pages older_pages newer older honest is other.
    absurd (ok_not_err (c.go_above.ensures.input no_space 0 newer_pages newer honest is.newer_is
    (λ fault. other (handed_on c.from_residual.ensures.1 ∙ ap Err (same_error {A = Unit {0}} _ _ (sym c.in_err-go_above.was ∙ fault))))).0
    c.in_err-go_above.was)

pub returns-in_err-go_above-2-clause-inputs : goal.returns-in_err-go_above-2-clause-inputs
returns-in_err-go_above-2-clause-inputs g c = λ newer_pages older_pages newer older honest is other.
    let first = still c.go_above.ensures.reads.effect honest in
    let below = subst (λ (b : List ℕ). IsInput c.args.geo.now b no_space 0 c.args.self.now.at c.args.self.now.older older_pages older) (sym first.1)
    is.older_is in
    absurd (ok_not_err (c.go_above-2.ensures.input no_space 0 older_pages older first.0 below
    (λ fault. other (handed_on c.from_residual-in_err-go_above-2.ensures.1 ∙ ap Err
    (same_error {A = Unit {0}} _ _ (sym c.in_err-go_above-2.was ∙ fault))))).0 c.in_err-go_above-2.was)

pub returns-in_err-go_above-2-clause-reads : goal.returns-in_err-go_above-2-clause-reads
returns-in_err-go_above-2-clause-reads g c =
    reads_handed (handed_on c.from_residual-in_err-go_above-2.ensures.1) c.in_err-go_above-2.was
    (reads_after (g.met.D.Disk.timed c.go_above.new.disk) (c.go_above.ensures.reads.stands (ok_is_calm c.in_ok-go_above.was))
    c.go_above.ensures.reads.effect c.go_above-2.ensures.reads
    (omega (arith, c.go_above.ensures.reads.effect.effect.calls, c.go_above-2.ensures.reads.effect.effect.calls)))

pub returns-clause-inputs : goal.returns-clause-inputs
returns-clause-inputs g c = λ newer_pages older_pages newer older honest is other.
    let sizes = c.args.geo.now in
    let at = c.args.self.now.at in
    let first = still c.go_above.ensures.reads.effect honest in
    let second = still c.go_above-2.ensures.reads.effect first.0 in
    let one = c.go_above.ensures.input no_space 0 newer_pages newer honest is.newer_is (ok_is_calm c.in_ok-go_above.was) in
    let below = subst (λ (b : List ℕ). IsInput sizes b no_space 0 at c.args.self.now.older older_pages older) (sym first.1) is.older_is in
    let two = c.go_above-2.ensures.input no_space 0 older_pages older first.0 below (ok_is_calm c.in_ok-go_above-2.was) in (
      record {
        newer_is = subst (λ (b : List ℕ). IsInput sizes b no_space 0 at c.go_above.new.cursor newer_pages newer) first.1 one.1;
        older_is = subst (λ (b : List ℕ). IsInput sizes b no_space 0 at c.go_above-2.new.cursor older_pages older) (second.1 ∙ first.1) two.1;
      },
      λ n damage. ok_not_err refl damage,
    )

pub returns-clause-reads : goal.returns-clause-reads
returns-clause-reads g c =
    reads_calm (ok_is_calm refl) (ok_is_calm c.in_ok-go_above-2.was)
    (reads_after (g.met.D.Disk.timed c.go_above.new.disk) (c.go_above.ensures.reads.stands (ok_is_calm c.in_ok-go_above.was))
    c.go_above.ensures.reads.effect c.go_above-2.ensures.reads
    (omega (arith, c.go_above.ensures.reads.effect.effect.calls, c.go_above-2.ensures.reads.effect.effect.calls)))
