use Rattle.std.proofs.Common.{◌+◌, ◌<◌, length, refl, subst, sym, rules}
use Rattle.std.specs.List.{between}
use Rattle.gated_log.specs.Replay.{ReplayState, IsKept}
use Rattle.gated_log.proofs.RecordLemmas.{part_behind, some_kept}
use Rattle.gated_log.proofs.replay.Replay.take_first.Goals as goal

pub invariant_of-self : goal.invariant_of-self
invariant_of-self c =
    let own = c.self.invariant in
    let kept = c.self.inside.kept in
    let behind = part_behind kept.bytes kept.from kept.to c.in-Some.key c.in-Some.rec c.in-Some.length own.2
    (search rules) own.4 c.in-Some.ensures.found.0 c.in-Some.ensures.found.1 in
    (own.0, own.1, behind.0, own.3, behind.2)

pub unreachable-requires : goal.unreachable-requires
unreachable-requires c =
    some_kept _ c.self.invariant.4 (subst (λ (r : ReplayState). 0 < length r.behind) (sym c.self.view_is) c.requires) c.in-None.ensures.none

pub returns : goal.returns
returns c =
    let own = c.self.invariant in
    let kept = c.self.inside.kept in
    let behind = part_behind kept.bytes kept.from kept.to c.in-Some.key c.in-Some.rec c.in-Some.length own.2
    (search rules) own.4 c.in-Some.ensures.found.0 c.in-Some.ensures.found.1 in
    let new : ReplayState =
    record {
      sizes = c.self.inside.geometry;
      lane = c.self.inside.lane;
      end = c.self.inside.end;
      behind =
          between (kept.from + c.in-Some.length) kept.to kept.bytes;
    } in
    subst (λ (r : ReplayState). IsKept r (c.in-Some.key, c.in-Some.rec) new) c.self.view_is
    (record { entry = c.in-Some.ensures.found.0.entry; parts = behind.1; moved = refl })
