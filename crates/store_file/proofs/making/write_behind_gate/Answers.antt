use Rattle.std.proofs.Common.{◌≡◌, ◌∙◌, ◌+◌, ◌-◌, ◌/◌, IsTrue, List, ℕ, length, sym, ap, subst, arith}
use Rattle.disk_trait.specs.Disk.{overwritten}
use Rattle.disk_trait.specs.Effects.{Affects}
use Rattle.disk_trait.proofs.EffectLemmas.{affects_wider, affects_write_more}
use Rattle.disk_trait.specs.Region.{span}
use Rattle.blsm_model.specs.Geometry.{file_length}
use Rattle.store_file.specs.Layout.{zeros, superblock_text}
use Rattle.store_file.proofs.LayoutLemmas.{head_inside, parts_written, first_catalogue_is, length-superblock_text}
use Rattle.store_file.proofs.making.write_behind_gate.Goals as goal
use Rattle.store_file.proofs.making.write_behind_gate.Goals.{After-write, After-write-2}

-- what is affected with the first catalogue, and with what the superblock says
placed : (g : _) (c : After-write g)
    → Affects (span 1 (file_length c.args.geometry.now - 1)) (file_length c.args.geometry.now) ((file_length c.args.geometry.now - 1) / 4096 + 1) (g.D.Disk.state c.args.disk.now) (g.D.Disk.state c.write.new.self)
placed g c =
    let least = head_inside c.args.geometry.now in
    let end = c.length.ensures in
    let zeroed : Affects (span 1 (file_length c.args.geometry.now - 1)) (file_length c.args.geometry.now) ((file_length c.args.geometry.now - 1) / 4096) (g.D.Disk.state c.args.disk.now) (g.D.Disk.state c.write_zeros.new.disk) =
    affects_wider (λ i here. (omega (arith, here.0), omega (arith, here.0, here.1, end))) (omega (arith, end)) (omega (arith, end)) c.write_zeros.ensures.effect in
    affects_write_more 512 85 (g.met.D.Disk.timed c.write_zeros.new.disk) c.in_ok-write_zeros.ensures.faults zeroed c.write.ensures.passes c.write.ensures.no_sync c.write.ensures.within c.write.ensures.sure
    (λ i here. (omega (arith, here.0), omega (arith, here.1, least))) (omega (arith, least)) (omega arith)

written : (g : _) (c : After-write-2 g)
    → Affects (span 1 (file_length c.args.geometry.now - 1)) (file_length c.args.geometry.now) ((file_length c.args.geometry.now - 1) / 4096 + 1) (g.D.Disk.state c.args.disk.now) (g.D.Disk.state c.write.new.self)
    → Affects (span 1 (file_length c.args.geometry.now - 1)) (file_length c.args.geometry.now) ((file_length c.args.geometry.now - 1) / 4096 + 2) (g.D.Disk.state c.args.disk.now) (g.D.Disk.state c.write-2.new.self)
written g c placed =
    let least = head_inside c.args.geometry.now in
    let long : length c.superblock_text.result ≡ 26 = ap (length {A = ℕ}) c.superblock_text.ensures ∙ length-superblock_text c.args.geometry.now in
    affects_write_more 1 (length c.superblock_text.result) (g.met.D.Disk.timed c.write.new.self) (c.in_ok-write.ensures.stands ∙ c.in_ok-write_zeros.ensures.faults) placed
    c.write-2.ensures.passes c.write-2.ensures.no_sync c.write-2.ensures.within c.write-2.ensures.sure
    (λ i here. (here.0, omega (arith, here.1, least, long))) (omega (arith, least, long)) (omega arith)

pub returns-in_err-write-clause-effect : goal.returns-in_err-write-clause-effect
returns-in_err-write-clause-effect g c = affects_wider (λ i here. here) (omega arith) (omega arith) (placed g (goal.at.returns-in_err-write-clause-effect g c).After-write)

pub returns-in_err-write-2-clause-effect : goal.returns-in_err-write-2-clause-effect
returns-in_err-write-2-clause-effect g c = let at = goal.at.returns-in_err-write-2-clause-effect g c in written g at.After-write-2 (placed g at.After-write)

pub returns-clause-effect : goal.returns-clause-effect
returns-clause-effect g c = let at = goal.at.returns-clause-effect g c in written g at.After-write-2 (placed g at.After-write)

pub returns-clause-written : goal.returns-clause-written
returns-clause-written g c = λ honest blank.
    let still = subst IsTrue (sym c.write_zeros.ensures.effect.goes_on.is_honest) honest in
    let still' = subst IsTrue (sym c.write.ensures.passes.goes_on.is_honest) still in
    let zeroed = c.in_ok-write_zeros.ensures.written honest blank ∙ ap zeros c.length.ensures in
    let wide = (g.D.Disk.state c.write_zeros.new.disk).bytes in
    c.in_ok-write-2.ensures.bytes still'
    ∙ (λ i. overwritten (c.in_ok-write.ensures.bytes still i) 1 (c.superblock_text.ensures i))
    ∙ ap (λ (l : List ℕ). overwritten (overwritten wide 512 l) 1 (superblock_text c.args.geometry.now)) first_catalogue_is
    ∙ parts_written c.args.geometry.now wide (omega (arith, head_inside c.args.geometry.now)) zeroed
