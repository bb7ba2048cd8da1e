use Rattle.std.proofs.Common.{◌≡◌, true, false, subst, arith}
use Rattle.std.specs.Prelude.{IsTrue, is_ok}
use Rattle.std.proofs.lemmas.Result.{err_from_is_err_and}
use Rattle.disk_trait.proofs.EffectLemmas.{affects_wider}
use Rattle.gated_log.proofs.AppendLemmas.{pack_write, write_inside, write_ends, leaves_appended}
use Rattle.gated_log.proofs.lanes.Lanes.append_pack.Goals as goal

pub returns-in_err-write_gated-clause-appends : goal.returns-in_err-write_gated-clause-appends
returns-in_err-write_gated-clause-appends g c = λ before honest is_end.
    let write = pack_write c.args.lane c.self.view_is c.place_in_file-at.ensures.place c.put_pack-length.ensures.text
    (omega (arith, c.requires.fits, c.put_pack-length.ensures.len, c.put_pack-length.ensures.weight))
    c.put_pack-length.ensures.is in
    leaves_appended write before is_end (g.met.D.Disk.timed c.write_gated.new.disk) honest
    (omega (arith, c.requires.length (g.met.D.Disk.honest_tells c.args.disk.now honest), write_ends c.requires.lane write))
    (c.write_gated.ensures.gated honest) c.write_gated.ensures.effect (λ done. let wrong : false ≡ true =
    subst (λ r. IsTrue (is_ok r)) (err_from_is_err_and c.from_residual.result c.from_residual.ensures.1).1 done in cc)

pub returns-in_err-write_gated-clause-effect : goal.returns-in_err-write_gated-clause-effect
returns-in_err-write_gated-clause-effect g c =
    let write = pack_write c.args.lane c.self.view_is c.place_in_file-at.ensures.place c.put_pack-length.ensures.text
    (omega (arith, c.requires.fits, c.put_pack-length.ensures.len, c.put_pack-length.ensures.weight))
    c.put_pack-length.ensures.is in
    affects_wider (write_inside write) (write_ends c.requires.lane write) (omega arith) c.write_gated.ensures.effect

pub returns-clause-appends : goal.returns-clause-appends
returns-clause-appends g c = λ before honest is_end.
    let write = pack_write c.args.lane c.self.view_is c.place_in_file-at.ensures.place c.put_pack-length.ensures.text
    (omega (arith, c.requires.fits, c.put_pack-length.ensures.len, c.put_pack-length.ensures.weight))
    c.put_pack-length.ensures.is in
    leaves_appended write before is_end (g.met.D.Disk.timed c.write_gated.new.disk) honest
    (omega (arith, c.requires.length (g.met.D.Disk.honest_tells c.args.disk.now honest), write_ends c.requires.lane write))
    (c.write_gated.ensures.gated honest) c.write_gated.ensures.effect (λ done. c.in_ok-write_gated.ensures.written)

pub returns-clause-effect : goal.returns-clause-effect
returns-clause-effect g c =
    let write = pack_write c.args.lane c.self.view_is c.place_in_file-at.ensures.place c.put_pack-length.ensures.text
    (omega (arith, c.requires.fits, c.put_pack-length.ensures.len, c.put_pack-length.ensures.weight))
    c.put_pack-length.ensures.is in
    affects_wider (write_inside write) (write_ends c.requires.lane write) (omega arith) c.write_gated.ensures.effect
