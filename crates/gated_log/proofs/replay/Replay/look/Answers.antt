use Rattle.std.proofs.Common.{◌≡◌, ◌≤◌, ◌+◌, take, List, ℕ, ◌∙◌, ap, subst, rules, arith}
use Rattle.std.proofs.lemmas.List.{length-take}
use Rattle.disk_trait.specs.Disk.{part}
use Rattle.disk_trait.proofs.ReadLemmas.{only_reads_wider}
use Rattle.gated_log.specs.Records.{cost, head_len}
use Rattle.gated_log.specs.Replay.{ReplayState, next_gate}
use Rattle.blsm_model.specs.Lanes.{region_length}
use Rattle.gated_log.proofs.BlockLemmas.{IsOpenBlock, IsBrokenBlock, room_of, between_front, block_entries, broken_block, no_record_read, open_block}
use Rattle.gated_log.proofs.BlockLemmas.{open_fits}
use Rattle.gated_log.proofs.BlockLemmas.{opened_read, record_inside, record_read}
use Rattle.gated_log.proofs.replay.Replay.look.Goals as goal

pub returns-in_default-clause-effect : goal.returns-in_default-clause-effect
returns-in_default-clause-effect g c = only_reads_wider (search rules) (omega arith) c.read_block.ensures.effect

pub returns-then-block-ne-OPEN-clause-effect : goal.returns-then-block-ne-OPEN-clause-effect
returns-then-block-ne-OPEN-clause-effect g c = only_reads_wider (search rules) (omega arith) c.read_block.ensures.effect

pub returns-in-Some-clause-effect : goal.returns-in-Some-clause-effect
returns-in-Some-clause-effect g c = only_reads_wider (search rules) (omega arith) c.read_block.ensures.effect

pub returns-in-None-clause-effect : goal.returns-in-None-clause-effect
returns-in-None-clause-effect g c = only_reads_wider (search rules) (omega arith) c.read_block.ensures.effect

pub returns-in-None-clause-block : goal.returns-in-None-clause-block
returns-in-None-clause-block g c =
    let replay = c.args.self.now in
    let file = (g.D.Disk.state c.read_block.new.disk).bytes in
    let block : List ℕ = take (1 + c.min.result) c.in-Ok.bytes in
    let same : c.self.inside.lane ≡ replay.lane = ap (λ (r : ReplayState). r.lane) c.self.view_is in (
      same,
      λ tells.
          let read : block ≡ part file (next_gate replay) (1 + room_of replay) = search rules in
          let broken = subst IsBrokenBlock read (broken_block block c.if-block-ne-OPEN.false c.in-None.ensures.none) in
          (opened_read replay file broken, no_record_read replay file broken),
    )

pub returns-in-Some-clause-block : goal.returns-in-Some-clause-block
returns-in-Some-clause-block g c =
    let replay = c.args.self.now in
    let bytes = c.in-Ok.bytes in
    let n : ℕ = 1 + c.min.result in
    let file = (g.D.Disk.state c.read_block.new.disk).bytes in
    let found = c.in-Some.ensures.some in
    let es = found.0 in
    let block = open_block (take n bytes) es c.if-block-ne-OPEN.false found.1 in
    let short : cost es ≤ n = omega (arith, open_fits (take n bytes) es block, length-take n bytes) in
    let end : c.self.inside.end ≡ replay.end = ap (λ (r : ReplayState). r.end) c.self.view_is in
    let region : region_length c.self.inside.geometry ≡ region_length replay.sizes = ap (λ (r : ReplayState). region_length r.sizes) c.self.view_is in
    let fits : cost es ≤ 1 + room_of replay =
    omega (arith, short, end, region, c.min.ensures, c.saturating_sub-room.ensures, c.length_of.ensures.length) in
    let from_is : 1 + c.in-Some.from ≡ 1 + head_len es = omega (arith, found.2) in
    let to_is : 1 + c.in-Some.to ≡ cost es = omega (arith, found.3) in (
      es,
      record {
        is = block.is;
        inside = record_inside replay es block.is fits;
        from_is = from_is;
        to_is = to_is;
        entries = between_front bytes n _ _ (omega (arith, short, to_is)) ∙ block_entries (take n bytes) es _ _ block from_is to_is;
      },
      λ tells.
          let read : take n bytes ≡ part file (next_gate replay) (1 + room_of replay) = search rules in
          record_read replay file es (subst (λ (l : List ℕ). IsOpenBlock l es) read block),
    )
