use Rattle.std.specs.Prelude.{is_some}
use Rattle.std.proofs.Common.{rules, ◌≡◌, ◌∙◌, ◌⊎◌, ◌+◌, ◌≤◌, ℕ, List, [], true, false, Option, Some, None, Ok, inl, inr, refl, ap, sym, subst, arith}
use Rattle.std.proofs.lemmas.Result.{on_ok_weaker}
use Rattle.blsm_model.specs.declared.component.Component.{Component}
use Rattle.blsm_model.specs.declared.key.Key.{Key}
use Rattle.record_delta.specs.declared.record.Rec.{Rec}
use Rattle.record_delta.specs.Entries.{Entries}
use Rattle.scan_view.specs.Hold.{later}
use Rattle.scan_view.specs.Left.{HasRead, IsAheadOf, count_left}
use Rattle.scan_view.specs.Splice.{IsIn, ReadsFront, ReadsIn, pages_of_rest}
use Rattle.scan_view.specs.Told.{IsFront}
use Rattle.scan_view.proofs.LeftLemmas.{calm_of, failed_as, file_on, not_failed, reads_after}
use Rattle.scan_view.proofs.SeekLemmas.{ahead_both, begun_rest, both_on, counts_fall, damage_behind, front_ends, front_goes, front_heads, none_of}
use Rattle.scan_view.proofs.SeekLemmas.{passed_all, reads_rest, rest_goes, rest_heads}
use Rattle.scan_view.proofs.splice.Splice.seek.Goals as goal

-- ---- where the front is through already

pub returns-in_default-clause-list : goal.returns-in_default-clause-list
returns-in_default-clause-list g c = λ file front rest pages is has other.
    rest_goes c.args.at.now c.args.self.now.released front c.in_default.is c.later.ensures has (λ left. c.seek.ensures.list false file rest pages is left other)

pub returns-in_default-clause-read : goal.returns-in_default-clause-read
returns-in_default-clause-read g c = λ file of_front of_c1 front rest is has.
    let sizes = c.args.geo.now in
    let old = c.args.self.now in
    let at = c.args.at.now in
    let reads = subst (λ (p : Option Component). ReadsIn p sizes of_front of_c1 at old.released old.walk front rest file) c.in_default.is has in
    let read = subst (λ (k : Option Key). HasRead false sizes of_c1 k old.walk rest file) (sym c.later.ensures) reads.read in
    on_ok_weaker c.seek.result (λ on. (
      record {
        now_front = front;
        now_rest = on.0.now;
        read = subst (λ (p : Option Component). ReadsIn p sizes of_front of_c1 at old.released c.seek.new.walk front on.0.now file) (sym c.in_default.is)
            (reads_rest c.later.ensures reads.begins reads.whole reads.passed on.0);
        onward_front = λ all fronts. fronts;
        onward_rest = on.0.onward;
      },
      rest_heads at old.released on.0.now c.seek.new.walk.cursor.head c.later.ensures reads.whole reads.passed on.1,
    )) (c.seek.ensures.read false file of_c1 rest is read)

pub returns-in_default-clause-damaged : goal.returns-in_default-clause-damaged
returns-in_default-clause-damaged g c = λ k file of front rest damaged is released_is has.
    let sizes = c.args.geo.now in
    let old = c.args.self.now in
    let at = c.args.at.now in
    let reads = subst (λ (p : Option Component). ReadsIn p sizes of.front of.c1 at old.released old.walk front rest file) c.in_default.is has in
    let read = subst (λ (low : Option Key). HasRead false sizes of.c1 low old.walk rest file) (sym c.later.ensures) reads.read in
    inr (damage_behind c.later.ensures released_is reads.whole reads.passed (c.seek.ensures.damaged false k file of.c1 rest damaged is read))

pub returns-in_default-clause-ahead : goal.returns-in_default-clause-ahead
returns-in_default-clause-ahead g c =
    let head = c.seek.new.walk.cursor.head in
    on_ok_weaker c.seek.result (λ ahead. ahead_both c.args.at.now c.args.self.now.released head
    (subst (λ (low : Option Key). IsAheadOf low head) c.later.ensures ahead)) c.seek.ensures.ahead

pub returns-in_default-clause-falls : goal.returns-in_default-clause-falls
returns-in_default-clause-falls g c =
    let at = c.args.at.now in
    let released = c.args.self.now.released in
    let old = c.args.self.now.walk.cursor in
    let new = c.seek.new.walk.cursor in
    both_on c.seek.result c.seek.ensures.ahead c.seek.ensures.falls (λ ahead falls. omega (
      arith,
      counts_fall at released old new (subst (λ (low : Option Key). IsAheadOf low new.head) c.later.ensures ahead)
          (subst (λ (low : Option Key). count_left low new ≤ count_left low old) c.later.ensures falls),
    ))

-- ---- in the front

pub returns-in_err-seek-clause-list : goal.returns-in_err-seek-clause-list
returns-in_err-seek-clause-list g c = λ file front rest pages is has other.
    let old = c.args.self.now in
    let inside = subst (λ (p : Option Component). IsIn p c.args.geo.now c.args.at.now old.released old.walk front rest pages file) c.in-Some.is has in
    absurd (not_failed c.from_residual.ensures.1 c.in_err-seek.was other (λ calm. (c.seek-2.ensures.list true file front pages is inside.left calm).0))

pub returns-in_err-seek-clause-damaged : goal.returns-in_err-seek-clause-damaged
returns-in_err-seek-clause-damaged g c = λ k file of front rest damaged is released_is has.
    let old = c.args.self.now in
    let reads = subst (λ (p : Option Component). ReadsIn p c.args.geo.now of.front of.c1 c.args.at.now old.released old.walk front rest file)
    c.in-Some.is has in
    inl (c.seek-2.ensures.damaged true k file of.front front (failed_as c.from_residual.ensures.1 c.in_err-seek.was damaged) is reads.read)

pub returns-then-is_some-clause-list : goal.returns-then-is_some-clause-list
returns-then-is_some-clause-list g c = λ file front rest pages is has other.
    let some : is_some c.seek-2.new.walk.cursor.head ≡ true = search rules in
    let on = front_goes c.args.self.now.released rest c.in-Some.is some has
    (λ left. let came = c.seek-2.ensures.list true file front pages is left (calm_of c.seek-2.result tt c.in_ok-seek.was) in (came.1, came.2)) in
    (refl, on.0, on.1)

pub returns-then-is_some-clause-read : goal.returns-then-is_some-clause-read
returns-then-is_some-clause-read g c = λ file of_front of_c1 front rest is has.
    let sizes = c.args.geo.now in
    let old = c.args.self.now in
    let at = c.args.at.now in
    let some : is_some c.seek-2.new.walk.cursor.head ≡ true = search rules in
    let reads = subst (λ (p : Option Component). ReadsIn p sizes of_front of_c1 at old.released old.walk front rest file) c.in-Some.is has in
    let on = c.in_ok-seek.ensures.read true file of_front front is reads.read in
    let now : ReadsFront sizes of_front of_c1 at c.seek-2.new.walk c.in-Some.rest on.0.now rest file =
    record { c1_is = reads.c1_is; read = on.0.read; none = reads.none } in (
      record {
        now_front = on.0.now;
        now_rest = rest;
        read = subst (λ (p : Option Component). ReadsIn p sizes of_front of_c1 at old.released c.seek-2.new.walk on.0.now rest file) (sym c.in-Some.is) now;
        onward_front = on.0.onward;
        onward_rest = λ all fronts. fronts;
      },
      front_heads at old.released of_front of_c1 on.0.now rest c.seek-2.new.walk.cursor.head some on.1,
    )

-- ---- behind the front

pub returns-clause-list : goal.returns-clause-list
returns-clause-list g c = λ file front rest pages is has other.
    let none = none_of c.seek-2.new.walk.cursor.head (search rules) in
    let is_mid = file_on c.seek-2.ensures.reads.effect is in
    let inside = front_ends {low = c.later-2.result.now} c.in-Some.is c.later-2.ensures none has
    (λ left. let came = c.seek-2.ensures.list true file front pages is left (calm_of c.seek-2.result tt c.in_ok-seek.was) in (came.1, came.2))
    c.restart.ensures.cursor c.restart.ensures.here (λ list. c.restart.ensures.list c.args.geo.now rest file list) in
    rest_goes {part = None} c.args.at.now c.args.self.now.released front refl c.later-2.ensures inside (λ left. c.seek-3.ensures.list false file rest pages is_mid left other)

pub returns-clause-read : goal.returns-clause-read
returns-clause-read g c = λ file of_front of_c1 front rest is has.
    let sizes = c.args.geo.now in
    let old = c.args.self.now in
    let at = c.args.at.now in
    let none = none_of c.seek-2.new.walk.cursor.head (search rules) in
    let reads = subst (λ (p : Option Component). ReadsIn p sizes of_front of_c1 at old.released old.walk front rest file) c.in-Some.is has in
    let first = c.in_ok-seek.ensures.read true file of_front front is reads.read in
    let whole = first.2 none in
    let passed = passed_all true sizes of_front at c.seek-2.new.walk first.0.now file none first.0.read in
    let begun = begun_rest c.later-2.result.now reads.c1_is c.restart.ensures.cursor c.restart.ensures.here (c.restart.ensures.given sizes file) in
    on_ok_weaker c.seek-3.result (λ on. (
      record {
        now_front = first.0.now;
        now_rest = on.0.now;
        read = reads_rest c.later-2.ensures (record { cursor = c.seek-2.new.walk.cursor; given = first.0.read.begins }) whole passed on.0;
        onward_front = first.0.onward;
        onward_rest = λ all fronts. subst (λ (l : Entries). IsFront of_c1 l all) (sym reads.none) (on.0.onward all fronts);
      },
      rest_heads at old.released on.0.now c.seek-3.new.walk.cursor.head c.later-2.ensures whole passed on.1,
    )) (c.seek-3.ensures.read false file of_c1 [] (file_on c.seek-2.ensures.reads.effect is) begun)

pub returns-clause-damaged : goal.returns-clause-damaged
returns-clause-damaged g c = λ k file of front rest damaged is released_is has.
    let sizes = c.args.geo.now in
    let old = c.args.self.now in
    let at = c.args.at.now in
    let none = none_of c.seek-2.new.walk.cursor.head (search rules) in
    let reads = subst (λ (p : Option Component). ReadsIn p sizes of.front of.c1 at old.released old.walk front rest file) c.in-Some.is has in
    let first = c.in_ok-seek.ensures.read true file of.front front is reads.read in
    let passed = passed_all true sizes of.front at c.seek-2.new.walk first.0.now file none first.0.read in
    let begun = begun_rest c.later-2.result.now reads.c1_is c.restart.ensures.cursor c.restart.ensures.here (c.restart.ensures.given sizes file) in
    inr (damage_behind c.later-2.ensures released_is (first.2 none) passed
    (c.seek-3.ensures.damaged false k file of.c1 [] damaged (file_on c.seek-2.ensures.reads.effect is) begun))

pub returns-clause-ahead : goal.returns-clause-ahead
returns-clause-ahead g c =
    let head = c.seek-3.new.walk.cursor.head in
    on_ok_weaker c.seek-3.result (λ ahead. ahead_both c.args.at.now c.args.self.now.released head
    (subst (λ (low : Option Key). IsAheadOf low head) c.later-2.ensures ahead)) c.seek-3.ensures.ahead

pub returns-clause-reads : goal.returns-clause-reads
returns-clause-reads g c =
    let total = c.args.self.now.walk.cursor.pages + pages_of_rest c.args.self.now.rest in
    reads_after total (g.met.D.Disk.timed c.seek-2.new.disk) (c.seek-2.ensures.reads.stands (calm_of c.seek-2.result tt c.in_ok-seek.was))
    c.seek-2.ensures.reads.effect c.seek-3.ensures.reads
    (omega (
      arith,
      c.in_ok-seek.ensures.one_a_page,
      c.seek-3.ensures.reads.effect.effect.calls,
      ap {B = ℕ} pages_of_rest c.in-Some.is,
      ap {B = ℕ} (λ s. s.pages) c.restart.ensures.cursor,
    ))
