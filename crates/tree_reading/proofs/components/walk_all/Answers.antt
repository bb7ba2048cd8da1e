use Rattle.std.proofs.Common.{◌∙◌, ◌++◌, ℕ, List, [], IsTrue, None, true, false, sym, subst, refl, arith}
use Rattle.blsm_model.specs.Geometry.{page_count}
use Rattle.page_file.specs.Component.{numbers_of}
use Rattle.tree_runs.proofs.ClaimLemmas.{taken_are_read, takes_none as claims_none}
use Rattle.tree_reading.specs.Damage.{in_c1, in_c1x, in_c2}
use Rattle.tree_reading.specs.Reading.{unnamed}
use Rattle.tree_reading.specs.Walk.{IsWalked}
use Rattle.tree_reading.proofs.ComponentsLemmas.{damaged_in, empty_without_pages, none_in_second, none_in_third, tagged_of, taken_as, taken_from, tells_run, walked_in}
use Rattle.tree_reading.proofs.CallsLemmas.{reads_as, reads_then, still, still_then}
use Rattle.tree_reading.proofs.FaultLemmas.{handed_on}
use Rattle.tree_reading.proofs.MapLemmas.{no_role_yet, takes_none}
use Rattle.page_file.specs.Component.{ReadsAs}
use Rattle.tree_runs.specs.Runs.{IsReserved, guide_at}
use Rattle.tree_runs.proofs.GuideLemmas.{reserved_still}
use Rattle.tree_reading.proofs.NoteLemmas.{guide_after, guide_named, room_kept, room_then, same_room}
use Rattle.tree_reading.proofs.components.walk_all.Goals as goal
use Rattle.tree_reading.proofs.components.walk_all.Goals.{After-new-2, After-new-3}

-- ---- what was walked

walked_c1 : (g : _) (c : After-new-2 g) → IsTrue (g.D.Disk.state c.args.disk.now).is_honest
    → IsWalked c.args.head.now.geometry c.args.head.now.catalogue.c1 false [] 0 c.args.space.now c.walk.new.space (g.D.Disk.state c.args.disk.now).bytes
walked_c1 g c honest = walked_in c.new.ensures refl (c.in_ok-walk.ensures.tells [] honest (takes_none (page_count c.args.head.now.geometry) c.args.space.now c.requires.unused))

walked_c1x : (g : _) (c : After-new-3 g) → IsTrue (g.D.Disk.state c.args.disk.now).is_honest
    → (one : IsWalked c.args.head.now.geometry c.args.head.now.catalogue.c1 false [] 0 c.args.space.now c.walk.new.space (g.D.Disk.state c.args.disk.now).bytes)
    → IsWalked c.args.head.now.geometry c.args.head.now.catalogue.c1x false (numbers_of one.pages) 1 c.walk.new.space c.walk-2.new.space (g.D.Disk.state c.args.disk.now).bytes
walked_c1x g c honest one =
    let same = still c.walk.ensures.reads.effect honest in
    walked_in c.new-2.ensures same.1 (c.in_ok-walk-2.ensures.tells (numbers_of one.pages) same.0 one.takes)

-- ---- the goals

pub returns-in_err-walk-clause-tells : goal.returns-in_err-walk-clause-tells
returns-in_err-walk-clause-tells g c = λ honest.
    let bytes = (g.D.Disk.state c.args.disk.now).bytes in
    let sizes = c.args.head.now.geometry in
    let takes = takes_none (page_count sizes) c.args.space.now c.requires.unused in
    tells_run c.walk.new.space (handed_on c.from_residual.ensures.1)
    (λ n is. in_c1 (damaged_in sizes c.args.head.now.catalogue.c1 false [] c.new.result c.args.space.now c.walk.new.space bytes bytes c.in_err-walk.field-0.0 refl (c.in_err-walk.ensures.tells [] honest takes) n is))

pub returns-in_err-walk-clause-reads : goal.returns-in_err-walk-clause-reads
returns-in_err-walk-clause-reads g c = reads_as (handed_on c.from_residual.ensures.1 ∙ sym c.in_err-walk.was) (omega arith) c.walk.ensures.reads

pub returns-in_err-walk-2-clause-tells : goal.returns-in_err-walk-2-clause-tells
returns-in_err-walk-2-clause-tells g c = λ honest.
    let first = g.D.Disk.state c.args.disk.now in
    let mid = g.D.Disk.state c.walk.new.disk in
    let sizes = c.args.head.now.geometry in
    let one = walked_c1 g (goal.at.returns-in_err-walk-2-clause-tells g c).After-new-2 honest in
    let same = still c.walk.ensures.reads.effect honest in
    tells_run c.walk-2.new.space (handed_on c.from_residual-in_err-walk-2.ensures.1)
    (λ n is.
    in_c1x one.pages one.reads
    (damaged_in sizes c.args.head.now.catalogue.c1x false (numbers_of one.pages) c.new-2.result c.walk.new.space c.walk-2.new.space mid.bytes first.bytes c.in_err-walk-2.field-0.0 same.1
    (c.in_err-walk-2.ensures.tells (numbers_of one.pages) same.0 one.takes) n is))

pub returns-in_err-walk-2-clause-reads : goal.returns-in_err-walk-2-clause-reads
returns-in_err-walk-2-clause-reads g c =
    reads_as (handed_on c.from_residual-in_err-walk-2.ensures.1 ∙ sym c.in_err-walk-2.was) (omega arith)
    (reads_then (g.met.D.Disk.timed c.walk.new.disk) c.in_ok-walk.was c.walk.ensures.reads c.walk-2.ensures.reads)

pub returns-in_err-walk-3-clause-tells : goal.returns-in_err-walk-3-clause-tells
returns-in_err-walk-3-clause-tells g c = λ honest.
    let first = g.D.Disk.state c.args.disk.now in
    let late = g.D.Disk.state c.walk-2.new.disk in
    let arm = (goal.at.returns-in_err-walk-3-clause-tells g c).After-new-3 in
    let one = walked_c1 g (goal.at.returns-in_err-walk-3-clause-tells g c).After-new-2 honest in
    let two = walked_c1x g arm honest one in
    let same = still_then c.walk.ensures.reads.effect c.walk-2.ensures.reads.effect honest in
    tells_run c.walk-3.new.space (handed_on c.from_residual-in_err-walk-3.ensures.1)
    (λ n is.
    in_c2 one.pages two.pages one.reads two.reads
    (damaged_in c.args.head.now.geometry c.args.head.now.catalogue.c2 true (numbers_of one.pages ++ numbers_of two.pages) c.new-3.result c.walk-2.new.space c.walk-3.new.space late.bytes first.bytes
    c.in_err-walk-3.field-0.0 same.2 (c.in_err-walk-3.ensures.tells (numbers_of one.pages ++ numbers_of two.pages) same.1 two.takes) n is))

pub returns-in_err-walk-3-clause-reads : goal.returns-in_err-walk-3-clause-reads
returns-in_err-walk-3-clause-reads g c =
    reads_as (handed_on c.from_residual-in_err-walk-3.ensures.1 ∙ sym c.in_err-walk-3.was) (omega arith)
    (reads_then (g.met.D.Disk.timed c.walk-2.new.disk) c.in_ok-walk-2.was
    (reads_then (g.met.D.Disk.timed c.walk.new.disk) c.in_ok-walk.was c.walk.ensures.reads c.walk-2.ensures.reads) c.walk-3.ensures.reads)

pub returns-clause-tags : goal.returns-clause-tags
returns-clause-tags g c =
    let sizes = c.args.head.now.geometry in
    let third = taken_as c.new-3.result 2 _ _ _ c.new-3.ensures c.in_ok-walk-3.ensures.taken in
    taken_are_read sizes (unnamed c.args.head.now.catalogue) c.walk.new.space c.walk-2.new.space c.walk-3.new.space c.walk-3.new.space
    c.requires.right.geometry c.in_ok-walk.ensures.filled
    c.in_ok-walk-2.ensures.filled c.in_ok-walk-3.ensures.filled
    (taken_from (page_count sizes) 0 _ c.args.space.now c.walk.new.space c.requires.unused (taken_as c.new.result 0 _ _ _ c.new.ensures c.in_ok-walk.ensures.taken))
    (taken_as c.new-2.result 1 _ _ _ c.new-2.ensures c.in_ok-walk-2.ensures.taken) third
    (claims_none 4 None c.walk-3.new.space third.shape refl)

pub returns-clause-tells : goal.returns-clause-tells
returns-clause-tells g c = λ honest.
    let arm = (goal.at.returns-clause-tells g c).After-new-3 in
    let one = walked_c1 g (goal.at.returns-clause-tells g c).After-new-2 honest in
    let two = walked_c1x g arm honest one in
    let same = still_then c.walk.ensures.reads.effect c.walk-2.ensures.reads.effect honest in
    tagged_of c.args.head.now.geometry c.args.head.now.catalogue c.args.space.now c.walk.new.space c.walk-2.new.space c.walk-3.new.space (g.D.Disk.state c.args.disk.now).bytes c.requires.unused
    (taken_as c.new.result 0 _ _ _ c.new.ensures c.in_ok-walk.ensures.taken) (taken_as c.new-2.result 1 _ _ _ c.new-2.ensures c.in_ok-walk-2.ensures.taken)
    (taken_as c.new-3.result 2 _ _ _ c.new-3.ensures c.in_ok-walk-3.ensures.taken) one two
    (walked_in c.new-3.ensures same.2 (c.in_ok-walk-3.ensures.tells (numbers_of one.pages ++ numbers_of two.pages) same.1 two.takes))

pub returns-clause-reads : goal.returns-clause-reads
returns-clause-reads g c =
    reads_as (sym c.in_ok-walk-3.was) (omega arith)
    (reads_then (g.met.D.Disk.timed c.walk-2.new.disk) c.in_ok-walk-2.was
    (reads_then (g.met.D.Disk.timed c.walk.new.disk) c.in_ok-walk.was c.walk.ensures.reads c.walk-2.ensures.reads) c.walk-3.ensures.reads)

-- ---- no page has the tag of the next one yet

pub walk-requires-clause-none : goal.walk-requires-clause-none
walk-requires-clause-none g c = λ k. no_role_yet (page_count c.args.head.now.geometry) c.new.result k c.args.space.now c.requires.unused

pub walk-requires-2-clause-none : goal.walk-requires-2-clause-none
walk-requires-2-clause-none g c = λ k.
    none_in_second (page_count c.args.head.now.geometry) c.new-2.result k c.args.space.now c.walk.new.space c.requires.unused c.in_ok-walk.ensures.taken
    (λ same. omega (arith, same, c.new.ensures, c.new-2.ensures))

pub walk-requires-3-clause-none : goal.walk-requires-3-clause-none
walk-requires-3-clause-none g c = λ k.
    none_in_third (page_count c.args.head.now.geometry) c.new-3.result k c.args.space.now c.walk.new.space c.walk-2.new.space c.requires.unused c.in_ok-walk.ensures.taken c.in_ok-walk-2.ensures.taken
    (λ same. omega (arith, same, c.new.ensures, c.new-3.ensures)) (λ same. omega (arith, same, c.new-2.ensures, c.new-3.ensures))

-- ---- a component without pages is empty

pub walk-requires-clause-empty : goal.walk-requires-clause-empty
walk-requires-clause-empty g c = empty_without_pages (page_count c.args.head.now.geometry) c.args.head.now.catalogue.c1 c.requires.right.valid.c1

pub walk-requires-2-clause-empty : goal.walk-requires-2-clause-empty
walk-requires-2-clause-empty g c = empty_without_pages (page_count c.args.head.now.geometry) c.args.head.now.catalogue.c1x c.requires.right.valid.c1x

pub walk-requires-3-clause-empty : goal.walk-requires-3-clause-empty
walk-requires-3-clause-empty g c = empty_without_pages (page_count c.args.head.now.geometry) c.args.head.now.catalogue.c2 c.requires.right.valid.c2

-- ---- filters and fences

pub walk-requires-clause-rooms : goal.walk-requires-clause-rooms
walk-requires-clause-rooms g c = λ below. subst (λ (t : ℕ). IsReserved c.args.head.now.catalogue.c1.weight (guide_at c.args.guides.now t))
    (sym c.new.ensures)
    (c.requires.rooms.c1 (omega (arith, below, c.new.ensures)))

pub walk-requires-2-clause-rooms : goal.walk-requires-2-clause-rooms
walk-requires-2-clause-rooms g c = room_kept 1 c.new-2.result (same_room c.walk.ensures.rooms) c.new-2.ensures c.requires.rooms.c1x

pub walk-requires-3-clause-rooms : goal.walk-requires-3-clause-rooms
walk-requires-3-clause-rooms g c =
    room_kept 2 c.new-3.result (same_room c.walk-2.ensures.rooms) c.new-3.ensures
    (λ below. reserved_still 2 (same_room c.walk.ensures.rooms) (c.requires.rooms.c2 (omega (arith, below, c.walk.ensures.rooms.many))))

pub returns-clause-reserved : goal.returns-clause-reserved
returns-clause-reserved g c = room_then (same_room c.walk.ensures.rooms) (room_then (same_room c.walk-2.ensures.rooms)
    (same_room c.walk-3.ensures.rooms))

pub returns-clause-guided : goal.returns-clause-guided
returns-clause-guided g c = λ honest are tree c1 c1x c2.
    let sizes = c.args.head.now.geometry in
    let catalogue = c.args.head.now.catalogue in
    let same = still c.walk.ensures.reads.effect honest in
    let later = still_then c.walk.ensures.reads.effect c.walk-2.ensures.reads.effect honest in
    let one = c.walk.ensures.rooms in
    let two = c.walk-2.ensures.rooms in
    let three = c.walk-3.ensures.rooms in
    let first = guide_named c.walk.new.guides tree.c1 c.new.ensures (c.in_ok-walk.ensures.guided tree.c1 honest
    (omega (arith, c.new.ensures, are.five, one.many, two.many, three.many)) c1) in
    let second = guide_named c.walk-2.new.guides tree.c1x c.new-2.ensures
    (c.in_ok-walk-2.ensures.guided tree.c1x same.0 (omega (arith, c.new-2.ensures, are.five, two.many, three.many))
    (subst (λ (b : List ℕ). ReadsAs sizes catalogue.c1x tree.c1x b) (sym same.1) c1x)) in
    let third = guide_named c.walk-3.new.guides tree.c2 c.new-3.ensures
    (c.in_ok-walk-3.ensures.guided tree.c2 later.1 (omega (arith, c.new-3.ensures, are.five, three.many))
    (subst (λ (b : List ℕ). ReadsAs sizes catalogue.c2 tree.c2 b) (sym later.2) c2)) in
    record {
      c1 = λ some. guide_after 0 tree.c1 three (λ e. omega (arith, e, c.new-3.ensures))
          (guide_after 0 tree.c1 two (λ e. omega (arith, e, c.new-2.ensures)) first);
      c1x = λ some. guide_after 1 tree.c1x three (λ e. omega (arith, e, c.new-3.ensures)) second;
      c2 = λ some. third;
    }

pub returns-clause-once : goal.returns-clause-once
returns-clause-once g c = omega (arith, c.in_ok-walk.ensures.once, c.in_ok-walk-2.ensures.once, c.in_ok-walk-3.ensures.once)
