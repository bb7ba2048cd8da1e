use Rattle.std.proofs.Common.{◌≡◌, ◌∙◌, ◌+◌, ◌-◌, ◌/◌, IsTrue, List, [], ◌∷◌, ℕ, sym, ap, subst, arith, inr}
use Rattle.gated_write.specs.Gated.{open_byte}
use Rattle.disk_trait.specs.Disk.{overwritten}
use Rattle.disk_trait.specs.Effects.{Affects}
use Rattle.disk_trait.proofs.EffectLemmas.{affects_wider, affects_more}
use Rattle.disk_trait.specs.Region.{span}
use Rattle.disk_trait.proofs.MomentLemmas.{goes_on_run}
use Rattle.blsm_model.specs.Geometry.{file_length}
use Rattle.store_file.specs.Layout.{IsMade, first_file}
use Rattle.store_file.specs.Making.{IsHalfMade, LeavesOldOr}
use Rattle.store_file.proofs.LayoutLemmas.{head_inside, overwritten_empty, gate_opened, first_file_made}
use Rattle.store_file.proofs.MakingLemmas.{IsBehind, IsBlank, making_first, making_blank, making_behind, making_opened}
use Rattle.store_file.proofs.making.make_store.Goals as goal
use Rattle.store_file.proofs.making.make_store.Goals.{After-write_behind_gate, After-write_between_syncs-2}

-- ---- what is half made

blank : (g : _) (c : After-write_behind_gate g) (honest : IsTrue (g.D.Disk.state c.args.disk.now).is_honest)
    → IsBlank c.args.geometry.now (g.D.Disk.state c.args.disk.now) honest (g.D.Disk.state c.write_between_syncs.new.disk)
blank g c honest =
    let none = c.requires (g.met.D.Disk.honest_tells c.args.disk.now honest) in
    let wrote = c.write_between_syncs.ensures in
    let first = making_first c.args.geometry.now _ honest _ _ c.zero_bytes.ensures.len none (wrote.leaves honest) in
    making_blank c.args.geometry.now _ honest c.zero_bytes.result.now c.zero_bytes.ensures.value none first wrote.effect c.in_ok-write_between_syncs.ensures.written

behind : (g : _) (c : After-write_behind_gate g) (honest : IsTrue (g.D.Disk.state c.args.disk.now).is_honest)
    → IsBehind c.args.geometry.now (g.D.Disk.state c.args.disk.now) honest (g.D.Disk.state c.write_behind_gate.new.disk)
behind g c honest =
    let timed = g.met.D.Disk.timed in
    making_behind c.args.geometry.now _ honest (timed c.write_between_syncs.new.disk) (timed c.write_behind_gate.new.disk) (blank g c honest) c.write_behind_gate.ensures.effect

opened : (g : _) (c : After-write_between_syncs-2 g) (honest : IsTrue (g.D.Disk.state c.args.disk.now).is_honest)
    → IsBlank c.args.geometry.now (g.D.Disk.state c.args.disk.now) honest (g.D.Disk.state c.write_between_syncs.new.disk)
    → IsBehind c.args.geometry.now (g.D.Disk.state c.args.disk.now) honest (g.D.Disk.state c.write_behind_gate.new.disk)
    → LeavesOldOr (g.D.Disk.state c.args.disk.now) (g.D.Disk.state c.write_between_syncs-2.new.disk) (IsHalfMade c.args.geometry.now)
opened g c honest blank behind =
    let timed = g.met.D.Disk.timed in
    let opens = c.write_between_syncs-2.ensures in
    making_opened c.args.geometry.now _ honest c.in_ok-write_behind_gate.ensures.fits (timed c.write_behind_gate.new.disk) (timed c.write_between_syncs-2.new.disk) behind
    (c.in_ok-write_behind_gate.ensures.written blank.still blank.blank) (opens.leaves behind.still) opens.effect

pub returns-in_err-write_between_syncs-clause-half_made : goal.returns-in_err-write_between_syncs-clause-half_made
returns-in_err-write_between_syncs-clause-half_made g c = λ honest.
    making_first c.args.geometry.now _ honest _ _ c.zero_bytes.ensures.len (c.requires (g.met.D.Disk.honest_tells c.args.disk.now honest)) (c.write_between_syncs.ensures.leaves honest)

pub returns-in_err-write_behind_gate-clause-half_made : goal.returns-in_err-write_behind_gate-clause-half_made
returns-in_err-write_behind_gate-clause-half_made g c = λ honest. (behind g (goal.at.returns-in_err-write_behind_gate-clause-half_made g c).After-write_behind_gate honest).making

pub returns-in_err-write_between_syncs-2-clause-half_made : goal.returns-in_err-write_between_syncs-2-clause-half_made
returns-in_err-write_between_syncs-2-clause-half_made g c = λ honest.
    let at = goal.at.returns-in_err-write_between_syncs-2-clause-half_made g c in
    opened g at.After-write_between_syncs-2 honest (blank g at.After-write_behind_gate honest) (behind g at.After-write_behind_gate honest)

pub returns-clause-half_made : goal.returns-clause-half_made
returns-clause-half_made g c = λ honest.
    let at = goal.at.returns-clause-half_made g c in
    opened g at.After-write_between_syncs-2 honest (blank g at.After-write_behind_gate honest) (behind g at.After-write_behind_gate honest)

pub returns-in_err-write_between_syncs-2-clause-unsynced : goal.returns-in_err-write_between_syncs-2-clause-unsynced
returns-in_err-write_between_syncs-2-clause-unsynced g c = λ honest tells.
    let was = c.in_ok-write_between_syncs.ensures.synced tells in
    inr (was.0, was.1, c.write_between_syncs-2.ensures.effect.syncs.none_lost was.0 (c.write_behind_gate.ensures.effect.syncs.none_lost was.0 was.2))

pub returns-clause-unsynced : goal.returns-clause-unsynced
returns-clause-unsynced g c = λ honest tells.
    let was = c.in_ok-write_between_syncs.ensures.synced tells in
    inr (was.0, was.1, c.write_between_syncs-2.ensures.effect.syncs.none_lost was.0 (c.write_behind_gate.ensures.effect.syncs.none_lost was.0 was.2))

-- ---- the effect: before the gate is opened, and with it

so_far : (g : _) (c : After-write_behind_gate g)
    → Affects (span 0 (file_length c.args.geometry.now)) (file_length c.args.geometry.now) ((file_length c.args.geometry.now - 1) / 4096 + 5) (g.D.Disk.state c.args.disk.now) (g.D.Disk.state c.write_behind_gate.new.disk)
so_far g c =
    let least = head_inside c.args.geometry.now in
    let block = c.zero_bytes.ensures.len in
    let first : Affects (span 0 (file_length c.args.geometry.now)) (file_length c.args.geometry.now) 3 (g.D.Disk.state c.args.disk.now) (g.D.Disk.state c.write_between_syncs.new.disk) =
    affects_wider (λ i here. (here.0, omega (arith, here.1, block, least))) (omega (arith, block, least)) (omega arith) c.write_between_syncs.ensures.effect in
    affects_more (g.met.D.Disk.timed c.write_between_syncs.new.disk) c.in_ok-write_between_syncs.ensures.faults first c.write_behind_gate.ensures.effect
    (λ i here. (omega arith, omega (arith, here.0, here.1))) (omega arith) (omega arith)

whole : (g : _) (c : After-write_between_syncs-2 g)
    → Affects (span 0 (file_length c.args.geometry.now)) (file_length c.args.geometry.now) ((file_length c.args.geometry.now - 1) / 4096 + 5) (g.D.Disk.state c.args.disk.now) (g.D.Disk.state c.write_behind_gate.new.disk)
    → Affects (span 0 (file_length c.args.geometry.now)) (file_length c.args.geometry.now) (8 + (file_length c.args.geometry.now - 1) / 4096) (g.D.Disk.state c.args.disk.now) (g.D.Disk.state c.write_between_syncs-2.new.disk)
whole g c behind =
    let least = head_inside c.args.geometry.now in
    affects_more (g.met.D.Disk.timed c.write_behind_gate.new.disk) (c.in_ok-write_behind_gate.ensures.faults ∙ c.in_ok-write_between_syncs.ensures.faults) behind c.write_between_syncs-2.ensures.effect
    (λ i here. (here.0, omega (arith, here.1, least))) (omega (arith, least)) (omega arith)

pub returns-in_err-write_behind_gate-clause-effect : goal.returns-in_err-write_behind_gate-clause-effect
returns-in_err-write_behind_gate-clause-effect g c =
    affects_wider (λ i here. here) (omega arith) (omega arith) (so_far g (goal.at.returns-in_err-write_behind_gate-clause-effect g c).After-write_behind_gate)

pub returns-in_err-write_between_syncs-2-clause-effect : goal.returns-in_err-write_between_syncs-2-clause-effect
returns-in_err-write_between_syncs-2-clause-effect g c =
    let at = goal.at.returns-in_err-write_between_syncs-2-clause-effect g c in
    whole g at.After-write_between_syncs-2 (so_far g at.After-write_behind_gate)

pub returns-clause-effect : goal.returns-clause-effect
returns-clause-effect g c =
    let at = goal.at.returns-clause-effect g c in
    whole g at.After-write_between_syncs-2 (so_far g at.After-write_behind_gate)

pub returns-clause-made : goal.returns-clause-made
returns-clause-made g c =
    let start = g.D.Disk.state c.args.disk.now in
    let last = g.D.Disk.state c.write_between_syncs-2.new.disk in
    let goes = goes_on_run c.write_between_syncs.ensures.effect.goes_on c.write_behind_gate.ensures.effect.goes_on in
    let still : IsTrue start.is_honest → IsTrue (g.D.Disk.state c.write_behind_gate.new.disk).is_honest = λ honest. subst IsTrue (sym goes.is_honest) honest in
    let tells : IsTrue start.tells_bytes → IsTrue (g.D.Disk.state c.write_behind_gate.new.disk).tells_bytes = λ told. subst IsTrue (sym goes.tells_bytes) told in
    let first = c.in_ok-write_between_syncs.ensures.written in
    let opened = c.in_ok-write_between_syncs-2.ensures.written in
    let whole : IsTrue start.is_honest → last.bytes ≡ first_file open_byte c.args.geometry.now = λ honest.
    let none = c.requires (g.met.D.Disk.honest_tells c.args.disk.now honest) in
    let blank = first.bytes honest ∙ overwritten_empty _ c.zero_bytes.result.now none ∙ c.zero_bytes.ensures.value in
    let shut = c.in_ok-write_behind_gate.ensures.written (subst IsTrue (sym c.write_between_syncs.ensures.effect.goes_on.is_honest) honest) blank in
    opened.bytes (still honest) ∙ ap (λ (l : List ℕ). overwritten l 0 (open_byte ∷ [])) shut ∙ gate_opened c.args.geometry.now in
    record {
      bytes = whole;
      made = λ honest. subst (IsMade c.args.geometry.now) (sym (whole honest)) (first_file_made c.args.geometry.now c.in_ok-write_behind_gate.ensures.fits);
      durable = λ honest. opened.durable (still honest);
      long = λ told. omega (arith, opened.long (tells told), c.in_ok-write_behind_gate.ensures.length (subst IsTrue (sym c.write_between_syncs.ensures.effect.goes_on.tells_bytes) told), head_inside c.args.geometry.now);
    }
