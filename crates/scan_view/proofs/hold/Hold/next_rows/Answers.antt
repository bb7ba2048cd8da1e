use Rattle.std.specs.List.{Contains}
use Rattle.std.specs.Prelude.{◌≢◌, ⊤, Result}
use Rattle.std.proofs.Common.{◌≡◌, ◌∙◌, ℕ, IsTrue, List, take, drop, Ok, Err, ap, sym, subst, refl}
use Rattle.disk_trait.proofs.ReadLemmas.{only_reads_same}
use Rattle.blsm_model.specs.declared.component.Component.{Component}
use Rattle.blsm_model.specs.declared.row.Row.{Row}
use Rattle.blsm_model.specs.Sizes.{Sizes}
use Rattle.record_delta.specs.Entries.{Entries, above}
use Rattle.page_file.specs.declared.file.Broken.{Broken}
use Rattle.page_file.specs.declared.file.Broken.TheVariants.{Fault}
use Rattle.page_file.specs.File.{page_at}
use Rattle.scan_view.specs.Hold.{HoldState, HasRows, pages_held, rows_of}
use Rattle.scan_view.specs.Told.{AreTold, ArePartsOf, Contents, IsNeeded, hold_over, sources_of, view_by}
use Rattle.scan_view.proofs.StayLemmas.{rows_kept}
use Rattle.scan_view.proofs.ReadLemmas.{parts_told}
use Rattle.scan_view.proofs.ScanLemmas.{parts_have}
use Rattle.scan_view.proofs.LeftLemmas.{not_failed, failed_as, calm_of}
use Rattle.scan_view.proofs.hold.Hold.next_rows.Goals as goal
use Rattle.scan_view.proofs.hold.Hold.next_rows.Goals.{After-gather}

-- what is inside
abbrev seen : (g : _) (c : After-gather g) → HoldState
seen g c =
    let inside = c.self.inside in
    record {
      low = inside.low;
      high = inside.high;
      memory = inside.memory.items;
      front = inside.front;
      released = inside.released;
      c1 = inside.c1;
      c1x = inside.c1x;
      c2 = inside.c2;
      place = inside.place;
    }

-- the hold, as its scan began
hold_is : (g : _) (c : After-gather g)
    → hold_over c.self.inside.low c.self.inside.high c.deref.result.now (sources_of (seen g c)) c.start-scan.result.at ≡ c.args.self.now
hold_is g c =
    let inside = c.self.inside in
    (λ i. record (seen g c) { memory = c.deref.ensures.value i; place = (c.start-scan.ensures.at ∙ c.copy_of.ensures) i }) ∙ c.self.view_is

abbrev lists_of : {sizes : Sizes} {hold : HoldState} {rows : List Row} {file : List ℕ} → HasRows sizes hold rows file → Contents
lists_of has = record { front = has.of_front; c1 = has.of_c1; c1x = has.of_c1x; c2 = has.of_c2 }

pub returns-in_err-gather-clause-rows : goal.returns-in_err-gather-clause-rows
returns-in_err-gather-clause-rows g c = λ rows honest has other.
    let file = (g.D.Disk.state c.args.disk.now).bytes in
    let held = subst (λ (h : HoldState). HasRows c.args.geo.now h rows file) (sym c.self.view_is) has in
    let scan = c.start-scan.ensures.list c.args.geo.now (lists_of held) file held.front held.c1 held.c1x held.c2 in
    absurd (not_failed c.from_residual.ensures.1 c.in_err-gather.was other
    (λ calm. (c.gather.ensures.rows file c.self.inside.released (lists_of held) _ (record { honest = honest; bytes_are = refl }) scan calm).0))

pub returns-in_err-gather-clause-damaged : goal.returns-in_err-gather-clause-damaged
returns-in_err-gather-clause-damaged g c = λ k damaged honest.
    let file = (g.D.Disk.state c.args.disk.now).bytes in
    let arm = (goal.at.returns-in_err-gather-clause-damaged g c).After-gather in
    subst (λ (h : HoldState). IsNeeded c.args.geo.now c.args.n h k file) (hold_is g arm)
    (c.gather.ensures.damaged k file (sources_of (seen g arm)) _ (failed_as c.from_residual.ensures.1 c.in_err-gather.was damaged)
    (record { honest = honest; bytes_are = refl }) (c.start-scan.ensures.read c.args.geo.now file))

-- and as it ends
abbrev after : (g : _) (c : After-gather g) → Component × Component → HoldState
after g c parts =
    let scan = c.gather.new.scan in
    record (seen g c) { front = parts.0; c1 = parts.1; c1x = scan.c1x.here; c2 = scan.c2.here; place = scan.at }

pub returns-clause-told : goal.returns-clause-told
returns-clause-told g c = λ honest.
    let sizes = c.args.geo.now in
    let file = (g.D.Disk.state c.args.disk.now).bytes in
    let arm = (goal.at.returns-clause-told g c).After-gather in
    let of = sources_of (seen g arm) in
    let came = c.in_ok-gather.ensures.told file of _ (record { honest = honest; bytes_are = refl }) (c.start-scan.ensures.read sizes file) in
    let parts = parts_told sizes file of c.gather.new.scan came.1 came.2 c.parts.result c.parts.ensures in
    subst (λ (h : HoldState). AreTold sizes c.args.n h c.gather.new.scan.at c.gather.new.rows file × ArePartsOf sizes h (after g arm c.parts.result) file)
    (hold_is g arm) (came.0, record { front = parts.0; c1 = parts.1; c1x = came.2.c1x.part; c2 = came.2.c2.part })

pub returns-clause-rows : goal.returns-clause-rows
returns-clause-rows g c =
    let answer : Result ⊤ Broken = Ok tt in
    let inside = c.self.inside in
    let arm = (goal.at.returns-clause-rows g c).After-gather in
    let now = after g arm c.parts.result in
    subst (λ (h : HoldState). (rows : List Row) → IsTrue (g.D.Disk.state c.args.disk.now).is_honest → (before : HasRows c.args.geo.now h rows (g.D.Disk.state c.args.disk.now).bytes) → answer ≢ Err Fault
    → (answer ≡ Ok tt) × (c.gather.new.rows ≡ take c.args.n rows) × (has : HasRows c.args.geo.now now (drop c.args.n rows) (g.D.Disk.state c.gather.new.disk).bytes)
    × ((page : ℕ) → Contains (pages_held has) page → Contains (pages_held before) page))
    (hold_is g arm)
    (λ rows honest held other.
    let sizes = c.args.geo.now in
    let file = (g.D.Disk.state c.args.disk.now).bytes in
    let n = c.args.n in
    let lists = lists_of held in
    let scan = c.start-scan.ensures.list sizes lists file held.front held.c1 held.c1x held.c2 in
    let came = c.gather.ensures.rows file inside.released lists (pages_held held) (record { honest = honest; bytes_are = refl }) scan
    (calm_of c.gather.result tt c.in_ok-gather.was) in
    let left = ap (λ (l : List Row). drop n l) held.rows_are ∙ sym came.2
    ∙ ap (λ (m : Entries). rows_of inside.low inside.high (above c.gather.new.scan.at (view_by m inside.released lists))) c.deref.ensures.value in
    let parts = parts_have sizes now c.gather.new.scan lists (pages_held held) (drop n rows) file c.self.invariant.sorted came.3 c.parts.ensures
    refl refl refl left in
    let same = only_reads_same c.gather.ensures.reads.effect honest in
    let kept = rows_kept sizes now (drop n rows) file (g.D.Disk.state c.gather.new.disk).bytes parts.0 (λ k has. ap (λ (f : List ℕ). page_at sizes k f) same) in
    (refl, came.1 ∙ ap (λ (l : List Row). take n l) (sym held.rows_are), kept.0, λ page has. parts.1 page (subst (λ (ns : List ℕ). Contains ns page) kept.1 has)))
