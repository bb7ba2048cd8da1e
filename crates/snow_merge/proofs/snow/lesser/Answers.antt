use Rattle.std.proofs.Common.{◌∙◌, ◌+◌, ℕ, Some, ap, sym}
use Rattle.std.specs.declared.cmp.Ordering.TheVariants.{Less, Equal, Greater}
use Rattle.blsm_model.specs.declared.key.Key.{Key}
use Rattle.record_delta.specs.declared.record.Rec.{Rec}
use Rattle.record_delta.specs.Records.{weight}
use Rattle.record_delta.specs.Folding.{fold}
use Rattle.snow_merge.proofs.PassLemmas.{another_key, compared, in_room}
use Rattle.snow_merge.proofs.snow.lesser.Goals as goal

pub returns-in-Less-clause-group : goal.returns-in-Less-clause-group
returns-in-Less-clause-group c =
    let older : Key × Rec = (c.args.key.now, c.args.below.now) in
    ap (λ (w : ℕ). Some (c.args.key.now, c.args.below.now, w)) c.weight.ensures.weight
    ∙ ap (λ (g : Key × Rec × ℕ). Some g) (sym (compared Less c.args.first.now older (sym c.compare.ensures ∙ c.in-Less.is)))

pub returns-in-Less-clause-grows : goal.returns-in-Less-clause-grows
returns-in-Less-clause-grows c = λ rec is. absurd (another_key c.args.first.now c.args.key.now rec (sym c.compare.ensures ∙ c.in-Less.is) is)

pub returns-in-Equal-clause-group : goal.returns-in-Equal-clause-group
returns-in-Equal-clause-group c =
    let first = c.args.first.now in
    let older : Key × Rec = (c.args.key.now, c.args.below.now) in
    in_room c.folded.result (Some older) c.folded.new.room (first.0, fold first.1 older.1) (weight first.0 first.1 + weight older.0 older.1) c.folded.ensures.group c.folded.ensures.room
    ∙ ap (λ (g : Key × Rec × ℕ). Some g) (sym (compared Equal first older (sym c.compare.ensures ∙ c.in-Equal.is)))

pub returns-in-Greater-clause-group : goal.returns-in-Greater-clause-group
returns-in-Greater-clause-group c =
    let first = c.args.first.now in
    let older : Key × Rec = (c.args.key.now, c.args.below.now) in
    in_room c.copied.result (Some older) c.copied.new.room first (weight first.0 first.1) c.copied.ensures.group c.copied.ensures.room
    ∙ ap (λ (g : Key × Rec × ℕ). Some g) (sym (compared Greater first older (sym c.compare.ensures ∙ c.in-Greater.is)))
