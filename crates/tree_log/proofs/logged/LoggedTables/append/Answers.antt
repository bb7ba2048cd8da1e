use Rattle.std.specs.Prelude.{◌≡◌, Bool, true, [], ◌∷◌, OnOk, is_ok}
use Rattle.std.proofs.Common.{sym, subst, arith}
use Rattle.tree_file.specs.Tree.{Tree}
use Rattle.tree_file.specs.Places.{StandsOn, Becomes}
use Rattle.record_delta.specs.Entries.{Entries, is_above}
use Rattle.tree_log.specs.Log.{LogState, IsAboveFloor, IsLogOf, appended}
use Rattle.tree_log.proofs.LogLemmas.{becomes_a, becomes_b, is_of_a, is_of_b}
use Rattle.tree_log.proofs.logged.LoggedTables.append.Goals as goal

pub returns-then-ahead-clause-is_of : goal.returns-then-ahead-clause-is_of
returns-then-ahead-clause-is_of g c =
    let inside : LogState = record { a = c.self.inside.a; b = c.self.inside.b; lanes = c.self.inside.lanes } in
    let high : is_above c.self.inside.a.floor c.args.key.now ≡ true =
    subst (λ (s : LogState). IsAboveFloor true c.args.key.now s) (sym c.self.view_is)
    (subst (λ (ahead : Bool). IsAboveFloor ahead c.args.key.now c.args.self.now) c.if-ahead.true c.requires.above) in
    let after : LogState = record { a = c.append_to.new.table; b = c.self.inside.b; lanes = c.append_to.new.lanes } in
    subst (λ (s : LogState). OnOk c.append_to.result ((tree : Tree) → IsLogOf tree s → IsLogOf (appended c.args.ahead ((c.args.key.now, c.args.rec.now) ∷ []) tree) after)) c.self.view_is
    (subst (λ (ahead : Bool). OnOk c.append_to.result ((tree : Tree) → IsLogOf tree inside → IsLogOf (appended ahead ((c.args.key.now, c.args.rec.now) ∷ []) tree) after)) (sym c.if-ahead.true)
    (is_of_a c.append_to.result ((c.args.key.now, c.args.rec.now) ∷ []) inside c.a-lane.result c.append_to.new.table c.append_to.new.lanes (omega arith) c.a-lane.ensures.roles c.a-lane.ensures.number
    c.append_to.ensures.lanes c.append_to.ensures.ended (high, tt) c.append_to.ensures.table))

pub returns-then-ahead-clause-becomes : goal.returns-then-ahead-clause-becomes
returns-then-ahead-clause-becomes g c = λ tree honest.
    let state = g.D.Disk.state in
    let inside : LogState = record { a = c.self.inside.a; b = c.self.inside.b; lanes = c.self.inside.lanes } in
    let more : Entries = (c.args.key.now, c.args.rec.now) ∷ [] in
    subst (λ (s : LogState). IsLogOf tree s → StandsOn s.lanes.sizes tree (state c.args.disk.now)
    → Becomes s.lanes.sizes tree (appended c.args.ahead more tree) (is_ok c.append_to.result) (state c.args.disk.now) (state c.append_to.new.disk)) c.self.view_is
    (subst (λ (ahead : Bool). IsLogOf tree inside → StandsOn inside.lanes.sizes tree (state c.args.disk.now)
    → Becomes inside.lanes.sizes tree (appended ahead more tree) (is_ok c.append_to.result) (state c.args.disk.now) (state c.append_to.new.disk)) (sym c.if-ahead.true)
    (becomes_a inside tree c.a-lane.result more c.a-lane.ensures.number c.append_to.ensures.appends c.append_to.ensures.effect honest (g.met.D.Disk.timed c.append_to.new.disk)))

pub returns-else-ahead-clause-is_of : goal.returns-else-ahead-clause-is_of
returns-else-ahead-clause-is_of g c =
    let inside : LogState = record { a = c.self.inside.a; b = c.self.inside.b; lanes = c.self.inside.lanes } in
    let after : LogState = record { a = c.self.inside.a; b = c.append_to-else-ahead.new.table; lanes = c.append_to-else-ahead.new.lanes } in
    subst (λ (s : LogState). OnOk c.append_to-else-ahead.result ((tree : Tree) → IsLogOf tree s → IsLogOf (appended c.args.ahead ((c.args.key.now, c.args.rec.now) ∷ []) tree) after)) c.self.view_is
    (subst (λ (ahead : Bool). OnOk c.append_to-else-ahead.result ((tree : Tree) → IsLogOf tree inside → IsLogOf (appended ahead ((c.args.key.now, c.args.rec.now) ∷ []) tree) after)) (sym c.if-ahead.false)
    (is_of_b c.append_to-else-ahead.result ((c.args.key.now, c.args.rec.now) ∷ []) inside c.b-lane.result c.append_to-else-ahead.new.table c.append_to-else-ahead.new.lanes (omega arith) c.b-lane.ensures.roles c.b-lane.ensures.number
    c.append_to-else-ahead.ensures.lanes c.append_to-else-ahead.ensures.ended c.append_to-else-ahead.ensures.table))

pub returns-else-ahead-clause-becomes : goal.returns-else-ahead-clause-becomes
returns-else-ahead-clause-becomes g c = λ tree honest.
    let state = g.D.Disk.state in
    let inside : LogState = record { a = c.self.inside.a; b = c.self.inside.b; lanes = c.self.inside.lanes } in
    let more : Entries = (c.args.key.now, c.args.rec.now) ∷ [] in
    subst (λ (s : LogState). IsLogOf tree s → StandsOn s.lanes.sizes tree (state c.args.disk.now)
    → Becomes s.lanes.sizes tree (appended c.args.ahead more tree) (is_ok c.append_to-else-ahead.result) (state c.args.disk.now) (state c.append_to-else-ahead.new.disk)) c.self.view_is
    (subst (λ (ahead : Bool). IsLogOf tree inside → StandsOn inside.lanes.sizes tree (state c.args.disk.now)
    → Becomes inside.lanes.sizes tree (appended ahead more tree) (is_ok c.append_to-else-ahead.result) (state c.args.disk.now) (state c.append_to-else-ahead.new.disk)) (sym c.if-ahead.false)
    (becomes_b inside tree c.b-lane.result more c.b-lane.ensures.number c.append_to-else-ahead.ensures.appends c.append_to-else-ahead.ensures.effect honest (g.met.D.Disk.timed c.append_to-else-ahead.new.disk)))

pub returns-then-ahead-clause-ends : goal.returns-then-ahead-clause-ends
returns-then-ahead-clause-ends g c = c.append_to.ensures.ends

pub returns-else-ahead-clause-ends : goal.returns-else-ahead-clause-ends
returns-else-ahead-clause-ends g c = c.append_to-else-ahead.ensures.ends
