use Rattle.std.proofs.Common.{rules, ◌≡◌, ◌∙◌, ◌++◌, List, Option, Some, None, Ok, refl, ap, sym, subst, arith}
use mathlib.Core.Path.{subst₂}
use Rattle.disk_trait.proofs.ReadLemmas.{only_reads_start}
use Rattle.blsm_model.specs.declared.key.Key.{Key}
use Rattle.blsm_model.specs.declared.row.Row.{Row}
use Rattle.blsm_model.specs.Geometry.{file_length}
use Rattle.record_delta.specs.declared.record.Rec.{Rec}
use Rattle.record_delta.specs.Entries.{Entries, AreSorted, above, first_of}
use Rattle.page_file.specs.File.{Reads}
use Rattle.scan_view.specs.Hold.{AreGiven, rows_of, splice}
use Rattle.scan_view.specs.Told.{view_by}
use Rattle.scan_view.specs.Left.{key_or}
use Rattle.scan_view.specs.Scan.{AreWalks, AreFurther, pages_left}
use Rattle.scan_view.proofs.LeftLemmas.{not_failed, failed_as, calm_of, one_value, file_on, key_is_ahead, reads_after, reads_err, reads_ok}
use Rattle.scan_view.proofs.ReadLemmas.{scan_begins, told_by}
use Rattle.scan_view.proofs.ScanLemmas.{view_sorted}
use Rattle.scan_view.proofs.RangeLemmas.{rows_behind}
use Rattle.scan_view.proofs.RowLemmas.{AreSoFar, AreFirst, rows_none, rows_on, first_rows, last_rows, given_none, given_more}
use Rattle.scan_view.proofs.gather.gather.Goals as goal
use Rattle.scan_view.proofs.gather.gather.Goals.{After-next, In_ok-key, In_default, Else-is_before, After-loop-scan}

-- one entry more
reads_on : (g : _) (c : After-next g) → Reads (file_length c.args.geo.now) (pages_left c.args.scan.now) c.next.result (g.D.Disk.state c.args.disk.now) (g.D.Disk.state c.next.new.disk)
reads_on g c =
    let inv = c.loop-scan.invariant in
    reads_after (pages_left c.args.scan.now) (g.met.D.Disk.timed c.loop-scan.disk) inv.stands inv.effect c.next.ensures.reads (omega (arith, inv.one_a_page, c.next.ensures.reads.effect.effect.calls))

-- the walks have gone on
further_on : (g : _) (c : In_ok-key g) → AreWalks c.args.scan.now → AreFurther c.args.scan.now c.next.new.self
further_on g c walks =
    let before = c.loop-scan.invariant.walks walks in
    let on = c.in_ok-key.ensures.walks before.0 in
    (on.0, omega (arith, on.1, before.1))

-- nothing is left
none_left : (g : _) (c : In_default g) (view : Entries) → AreSoFar c.args.low.now c.args.high.now c.args.scan.now.at c.loop-scan.scan.at c.loop-scan.rows view → first_of (above c.loop-scan.scan.at view) ≡ None
    → AreFirst c.args.n c.args.low.now c.args.high.now c.args.scan.now.at c.next.new.self.at c.loop-scan.rows view
none_left g c view is none =
    let at = c.loop-scan.scan.at in
    subst (λ (k : Option Key). AreFirst c.args.n c.args.low.now c.args.high.now c.args.scan.now.at k c.loop-scan.rows view)
    (sym (c.in_ok-key.ensures.passed ∙ ap (λ (found : Option (Key × Rec)). key_or found at) c.in_default.is))
    (last_rows c.args.n c.args.low.now c.args.high.now c.args.scan.now.at at c.loop-scan.rows view is (rows_none c.args.low.now c.args.high.now at view none) c.loop-scan.invariant.given.few)

-- what is left is behind the range
none_inside : (g : _) (c : Else-is_before g) (view : Entries) → AreSorted view → AreSoFar c.args.low.now c.args.high.now c.args.scan.now.at c.loop-scan.scan.at c.loop-scan.rows view
    → AreFirst c.args.n c.args.low.now c.args.high.now c.args.scan.now.at c.loop-scan.scan.at c.loop-scan.rows view
none_inside g c view sorted is =
    last_rows c.args.n c.args.low.now c.args.high.now c.args.scan.now.at c.loop-scan.scan.at c.loop-scan.rows view is
    (rows_behind c.args.low.now c.args.high.now c.loop-scan.scan.at view (sym c.is_before.ensures ∙ c.if-is_before.false) sorted) c.loop-scan.invariant.given.few

-- n rows are there
filled : (g : _) (c : After-loop-scan g) (view : Entries) → AreSoFar c.args.low.now c.args.high.now c.args.scan.now.at c.loop-scan.scan.at c.loop-scan.rows view
    → AreFirst c.args.n c.args.low.now c.args.high.now c.args.scan.now.at c.loop-scan.scan.at c.loop-scan.rows view
filled g c view is = first_rows c.args.n c.args.low.now c.args.high.now c.args.scan.now.at c.loop-scan.scan.at c.loop-scan.rows view is (omega (arith, c.loop-scan.invariant.given.few, c.loop-scan-test.false, c.len.ensures))

-- ---- the goals

pub loop-scan-init : goal.loop-scan-init
loop-scan-init g c = record {
  given = subst (AreGiven c.args.n c.args.low.now c.args.high.now c.args.scan.now.at c.args.scan.now.at) (sym c.clear.ensures)
      (given_none c.args.n c.args.low.now c.args.high.now c.args.scan.now.at);
  effect = only_reads_start (g.D.Disk.state c.args.disk.now) (g.met.D.Disk.timed c.args.disk.now);
  one_a_page = omega arith;
  stands = refl;
  walks = λ walks. (walks, omega arith);
  list = λ file released lists pages is scan.
      (scan, sym (ap (λ (l : List Row). l ++ rows_of c.args.low.now c.args.high.now (above c.args.scan.now.at (view_by c.args.memory.now released lists))) c.clear.ensures));
  read = λ file of read is have. (
    record { now = read; read = have; onward = λ all fronts. fronts },
    λ all fronts. sym (ap (λ (l : List Row). l ++ rows_of c.args.low.now c.args.high.now (above c.args.scan.now.at (view_by c.args.memory.now of.released all))) c.clear.ensures),
  );
}

pub returns-in_err-key-clause-rows : goal.returns-in_err-key-clause-rows
returns-in_err-key-clause-rows g c = λ file released lists pages is scan other.
    let inv = c.loop-scan.invariant in
    absurd (not_failed c.from_residual.ensures.1 c.in_err-key.was other (λ calm. (c.next.ensures.list file released lists pages (file_on inv.effect is) (inv.list file released lists pages is scan).0 calm).0))

pub returns-in_err-key-clause-damaged : goal.returns-in_err-key-clause-damaged
returns-in_err-key-clause-damaged g c = λ k file of read damaged is have.
    let inv = c.loop-scan.invariant in
    let now = inv.read file of read is have in
    record {
      at = c.loop-scan.scan.at;
      inside = search rules;
      rows = c.loop-scan.rows;
      few = search rules;
      read = now.0.now;
      begin = scan_begins c.args.geo.now file of c.loop-scan.scan now.0.now now.0.read;
      first = now.1;
      damage = c.next.ensures.damaged k file of now.0.now (failed_as c.from_residual.ensures.1 c.in_err-key.was damaged) (file_on inv.effect is) now.0.read;
    }

pub returns-in_err-key-clause-reads : goal.returns-in_err-key-clause-reads
returns-in_err-key-clause-reads g c = reads_err c.from_residual.ensures.1 c.in_err-key.was (reads_on g (goal.at.returns-in_err-key-clause-reads g c).After-next)

pub returns-in_default-clause-rows : goal.returns-in_default-clause-rows
returns-in_default-clause-rows g c = λ file released lists pages is scan other.
    let inv = c.loop-scan.invariant in
    let now = inv.list file released lists pages is scan in
    let came = c.next.ensures.list file released lists pages (file_on inv.effect is) now.0 (calm_of c.next.result _ c.in_ok-key.was) in
    let none = one_value c.next.result _ _ came.0 (c.in_ok-key.was ∙ ap Ok c.in_default.is) in
    let rows = none_left g (goal.at.returns-in_default-clause-rows g c).In_default (view_by c.args.memory.now released lists) now.1 none in
    (refl, rows.0, rows.1, came.1)

pub returns-in_default-clause-told : goal.returns-in_default-clause-told
returns-in_default-clause-told g c = λ file of read is have.
    let inv = c.loop-scan.invariant in
    let was = inv.read file of read is have in
    let now = c.in_ok-key.ensures.read file of was.0.now (file_on inv.effect is) was.0.read in (
      told_by now.0 (λ all fronts.
          none_left g (goal.at.returns-in_default-clause-told g c).In_default (view_by c.args.memory.now of.released all) (was.1 all (now.0.onward all fronts)) (sym (now.1 all fronts) ∙ c.in_default.is)),
      now.0.now,
      now.0.read,
    )

pub returns-in_default-clause-reads : goal.returns-in_default-clause-reads
returns-in_default-clause-reads g c = reads_ok c.in_ok-key.was (reads_on g (goal.at.returns-in_default-clause-reads g c).After-next)

pub loop-scan-preserved : goal.loop-scan-preserved
loop-scan-preserved g c =
    let inv = c.loop-scan.invariant in
    let low = c.args.low.now in
    let high = c.args.high.now in
    let memory = c.args.memory.now in
    let old = c.args.scan.now.at in
    let at = c.loop-scan.scan.at in
    let key = c.in-Some.key in
    let e : Key × Rec = (key, c.in-Some.rec) in
    let at_is : c.next.new.self.at ≡ Some key = c.in_ok-key.ensures.passed ∙ ap (λ (found : Option (Key × Rec)). key_or found at) c.in-Some.is in
    let above_at = key_is_ahead at _ e c.in-Some.is c.in_ok-key.ensures.ahead in
    let reads = reads_on g (goal.at.loop-scan-preserved g c).After-next in
    record {
      given = subst₂ (AreGiven c.args.n low high old) (sym at_is) (sym c.put_row.ensures)
          (given_more c.args.n low high old at key c.in-Some.rec c.loop-scan.rows above_at (omega (arith, c.loop-scan-test.true, c.len.ensures)) inv.given);
      effect = reads.effect;
      one_a_page = omega (arith, inv.one_a_page, c.in_ok-key.ensures.one_a_page);
      stands = reads.stands (calm_of c.next.result _ c.in_ok-key.was);
      walks = further_on g (goal.at.loop-scan-preserved g c).In_ok-key;
      list = λ file released lists pages is scan.
          let now = inv.list file released lists pages is scan in
          let came = c.next.ensures.list file released lists pages (file_on inv.effect is) now.0 (calm_of c.next.result _ c.in_ok-key.was) in
          let first = one_value c.next.result _ _ came.0 (c.in_ok-key.was ∙ ap Ok c.in-Some.is) in
          (came.1, rows_on low high old at _ c.loop-scan.rows _ (view_by memory released lists) e (view_sorted memory (splice lists.front released lists.c1) lists.c1x lists.c2 now.0.sorted.c2) first now.1 c.put_row.ensures at_is);
      read = λ file of read is have.
          let was = inv.read file of read is have in
          let now = c.in_ok-key.ensures.read file of was.0.now (file_on inv.effect is) was.0.read in (
            record { now = now.0.now; read = now.0.read; onward = λ all fronts. was.0.onward all (now.0.onward all fronts) },
            λ all fronts. rows_on low high old at _ c.loop-scan.rows _ (view_by memory of.released all) e (view_sorted memory (splice all.front of.released all.c1) all.c1x all.c2 fronts.c2.sorted) (sym (now.1 all fronts) ∙ c.in-Some.is)
                (was.1 all (now.0.onward all fronts)) c.put_row.ensures at_is,
          );
    }

pub returns-else-is_before-clause-rows : goal.returns-else-is_before-clause-rows
returns-else-is_before-clause-rows g c = λ file released lists pages is scan other.
    let now = c.loop-scan.invariant.list file released lists pages is scan in
    let rows = none_inside g (goal.at.returns-else-is_before-clause-rows g c).Else-is_before (view_by c.args.memory.now released lists) (view_sorted c.args.memory.now (splice lists.front released lists.c1) lists.c1x lists.c2 now.0.sorted.c2) now.1 in
    (refl, rows.0, rows.1, now.0)

pub returns-else-is_before-clause-told : goal.returns-else-is_before-clause-told
returns-else-is_before-clause-told g c = λ file of read is have.
    let memory = c.args.memory.now in
    let now = c.loop-scan.invariant.read file of read is have in (
      told_by now.0 (λ all fronts.
          none_inside g (goal.at.returns-else-is_before-clause-told g c).Else-is_before (view_by memory of.released all) (view_sorted memory (splice all.front of.released all.c1) all.c1x all.c2 fronts.c2.sorted) (now.1 all fronts)),
      now.0.now,
      now.0.read,
    )

pub returns-after-loop-scan-clause-rows : goal.returns-after-loop-scan-clause-rows
returns-after-loop-scan-clause-rows g c = λ file released lists pages is scan other.
    let now = c.loop-scan.invariant.list file released lists pages is scan in
    let rows = filled g (goal.at.returns-after-loop-scan-clause-rows g c).After-loop-scan (view_by c.args.memory.now released lists) now.1 in
    (refl, rows.0, rows.1, now.0)

pub returns-after-loop-scan-clause-told : goal.returns-after-loop-scan-clause-told
returns-after-loop-scan-clause-told g c = λ file of read is have.
    let now = c.loop-scan.invariant.read file of read is have in (
      told_by now.0 (λ all fronts. filled g (goal.at.returns-after-loop-scan-clause-told g c).After-loop-scan (view_by c.args.memory.now of.released all) (now.1 all fronts)),
      now.0.now,
      now.0.read,
    )

pub returns-in_default-clause-walks : goal.returns-in_default-clause-walks
returns-in_default-clause-walks g c = further_on g (goal.at.returns-in_default-clause-walks g c).In_ok-key
