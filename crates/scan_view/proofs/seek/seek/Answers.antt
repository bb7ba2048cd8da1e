use Rattle.std.proofs.Common.{rules, ◌≡◌, ◌≢◌, ◌∙◌, ◌⊎◌, ◌+◌, ◌≤◌, ℕ, Bool, true, List, Option, None, Ok, Err, inl, inr, refl, ap, sym, subst, arith}
use Rattle.std.proofs.lemmas.Grind.{common_steps}
use Rattle.std.proofs.lemmas.Bool.Decides.{nat_tests}
use Rattle.disk_trait.proofs.ReadLemmas.{only_reads_start}
use Rattle.blsm_model.specs.declared.component.Component.{Component}
use Rattle.blsm_model.specs.Components.{empty_component}
use Rattle.blsm_model.specs.declared.key.Key.{Key}
use Rattle.record_delta.specs.declared.record.Rec.{Rec}
use Rattle.blsm_model.specs.Geometry.{file_length}
use Rattle.page_file.specs.File.{Reads}
use Rattle.page_file.specs.declared.file.Broken.TheVariants.{Fault}
use Rattle.record_delta.specs.Entries.{Entries}
use Rattle.run_cursor.specs.declared.walk.Walk.{Walk}
use Rattle.run_cursor.specs.Cursor.{CursorState, IsDamageAt}
use Rattle.run_cursor.specs.Given.{HasGivenMoreOf}
use Rattle.merge_ends.specs.Input.{head_above}
use Rattle.std.proofs.lemmas.Bool.{false≢true}
use Rattle.run_cursor.specs.Part.{IsNextPart}
use Rattle.scan_view.specs.Left.{IsFile, HasLeft, HasRead, HasReadOn}
use Rattle.scan_view.proofs.LeftLemmas.{not_failed, failed_as, calm_of, file_on, advance_left, head_first, left_ended, walks_on, walks_ended, at_end, count_falls, reads_after, reads_err, reads_ok, Ends}
use Rattle.scan_view.proofs.ReadLemmas.{ReadsOn, stale_none, advance_read, read_first}
use Rattle.scan_view.proofs.seek.seek.Goals as goal
use Rattle.scan_view.proofs.seek.seek.Goals.{After-advance, In_ok-advance}

-- one call for each page that not_so read yet
few_calls : (pages all old mid new : ℕ) → mid + pages ≤ old + all → new ≤ mid + 1 → (pages ≡ 0 → new ≡ mid) → new ≤ old + all
few_calls pages all old mid new so_far one none = grind (arith, common_steps, nat_tests)

-- ---- one call of `advance` more

-- the walk behind it, in the part where the entry stands that it came to
abbrev on_part : (g : _) (c : After-advance g) → Walk
on_part g c = record { cursor = c.advance.new.self; here = c.next_part-part.result }

reads_on : (g : _) (c : After-advance g) → Reads (file_length c.args.geo.now) c.args.walk.now.cursor.pages c.advance.result (g.D.Disk.state c.args.disk.now) (g.D.Disk.state c.advance.new.disk)
reads_on g c =
    let inv = c.loop-walk.invariant in
    reads_after c.args.walk.now.cursor.pages (g.met.D.Disk.timed c.loop-walk.disk) inv.stands inv.effect c.advance.ensures.reads
    (few_calls _ _ _ _ _ inv.one_a_page c.advance.ensures.reads.effect.effect.calls c.advance.ensures.no_call)

list_on : (g : _) (c : After-advance g) (is_front : Bool) (file : List ℕ) (entries : Entries) (pages : List ℕ) → IsFile file (g.D.Disk.state c.args.disk.now)
    → HasLeft is_front c.args.geo.now c.args.at.now c.args.walk.now entries pages file
    → c.advance.result ≢ Err Fault → (c.advance.result ≡ Ok tt) × HasLeft is_front c.args.geo.now c.args.at.now (on_part g c) entries pages file
list_on g c is_front file entries pages is has =
    let inv = c.loop-walk.invariant in
    let here = file_on inv.effect is in
    advance_left {old = c.loop-walk.walk} {new = on_part g c} (file_on c.advance.ensures.reads.effect here).bytes_are (sym c.is_above.ensures ∙ c.loop-walk-test.true) (inv.list is_front file entries pages is has)
    (λ rest ahead. c.next_part-part.ensures.list rest file ahead) (λ end rest ahead. c.next_part-part.ensures.front end rest file ahead)
    (λ end rest before. c.advance.ensures.list end rest (g.met.D.Disk.honest_tells c.loop-walk.disk here.honest) before)

read_on : (g : _) (c : In_ok-advance g) (walk : Walk) → walk.cursor ≡ c.advance.new.self
    → IsNextPart c.loop-walk.walk.cursor c.loop-walk.walk.here walk.here ⊎ ((walk.cursor.head ≡ None) × (walk.here ≡ empty_component)) → (is_front : Bool) (file : List ℕ)
    (run : Component) (given : Entries) → IsFile file (g.D.Disk.state c.args.disk.now)
    → HasRead is_front c.args.geo.now run c.args.at.now c.args.walk.now given file → ReadsOn is_front c.args.geo.now run c.args.at.now walk given file
read_on g c walk cursor part is_front file run given is has =
    let inv = c.loop-walk.invariant in
    let here = file_on inv.effect is in
    let was = inv.read is_front file run given is has in
    advance_read {old = c.loop-walk.walk} (file_on c.advance.ensures.reads.effect here).bytes_are (sym c.is_above.ensures ∙ c.loop-walk-test.true) part was
    (λ has_given. subst (λ (s : CursorState). HasGivenMoreOf is_front c.args.geo.now run s s.head was.now (g.D.Disk.state c.advance.new.disk).bytes) (sym cursor)
    (c.in_ok-advance.ensures.given is_front run was.now (g.met.D.Disk.honest_tells c.loop-walk.disk here.honest) has_given))

-- ---- the goals

pub loop-walk-init : goal.loop-walk-init
loop-walk-init g c = record {
  effect = only_reads_start (g.D.Disk.state c.args.disk.now) (g.met.D.Disk.timed c.args.disk.now);
  one_a_page = omega arith;
  stands = refl;
  falls = omega arith;
  walks = λ walk. (walk, omega arith);
  list = λ is_front file entries pages is has. has;
  read = λ is_front file run given is has. record { now = given; read = has; onward = λ all front. front };
}

pub returns-in_err-advance-clause-list : goal.returns-in_err-advance-clause-list
returns-in_err-advance-clause-list g c = λ is_front file entries pages is has other.
    absurd (not_failed c.from_residual.ensures.1 c.in_err-advance.was other (λ calm. (list_on g (goal.at.returns-in_err-advance-clause-list g c).After-advance is_front file entries pages is has calm).0))

pub returns-in_err-advance-clause-damaged : goal.returns-in_err-advance-clause-damaged
returns-in_err-advance-clause-damaged g c = λ is_front k file run given is_damage is has.
    let inv = c.loop-walk.invariant in
    let here = file_on inv.effect is in
    let was = inv.read is_front file run given is has in
    record {
      cursor = c.loop-walk.walk.cursor;
      given = was.now;
      begins = was.read.begins;
      passed = was.read.passed ∙ stale_none c.args.at.now c.loop-walk.walk.cursor.head (sym c.is_above.ensures ∙ c.loop-walk-test.true);
      damage = subst (λ (b : List ℕ). IsDamageAt c.args.geo.now c.loop-walk.walk.cursor k b) (file_on c.advance.ensures.reads.effect here).bytes_are
          (c.advance.ensures.damaged k (failed_as c.from_residual.ensures.1 c.in_err-advance.was is_damage) (g.met.D.Disk.honest_tells c.loop-walk.disk here.honest));
    }

pub returns-in_err-advance-clause-reads : goal.returns-in_err-advance-clause-reads
returns-in_err-advance-clause-reads g c = reads_err c.from_residual.ensures.1 c.in_err-advance.was (reads_on g (goal.at.returns-in_err-advance-clause-reads g c).After-advance)

pub returns-then-is_none-clause-list : goal.returns-then-is_none-clause-list
returns-then-is_none-clause-list g c = λ is_front file entries pages is has other.
    let arm = (goal.at.returns-then-is_none-clause-list g c).After-advance in
    let on = (list_on g arm is_front file entries pages is has (calm_of c.advance.result tt c.in_ok-advance.was)).1 in
    let ended = at_end c.loop-walk.walk.cursor c.advance.new.self (search rules) c.in_ok-advance.ensures.ended in
    (refl, left_ended {old = on_part g arm} refl c.no_component-walk.ensures.empty ended.0 ended.1 on, head_first is_front c.args.geo.now file c.args.at.now (on_part g arm) entries pages on (inr ended))

pub returns-then-is_none-clause-read : goal.returns-then-is_none-clause-read
returns-then-is_none-clause-read g c = λ is_front file run given is has.
    let ended = at_end c.loop-walk.walk.cursor c.advance.new.self (search rules) c.in_ok-advance.ensures.ended in
    let walk : Walk = record { cursor = c.advance.new.self; here = c.no_component-walk.result } in
    let on = read_on g (goal.at.returns-then-is_none-clause-read g c).In_ok-advance walk refl (inr (ended.0, c.no_component-walk.ensures.empty)) is_front file run given is has in
    (on.0, λ all front. read_first is_front c.args.geo.now file run c.args.at.now walk on.0.now on.0.read (inr ended) all front, on.1)

pub returns-then-is_none-clause-walks : goal.returns-then-is_none-clause-walks
returns-then-is_none-clause-walks g c = λ was.
    let before = c.loop-walk.invariant.walks was in
    let ended = subst (λ (h : Option (Key × Rec)). Ends c.loop-walk.walk.cursor c.advance.new.self h) (at_end c.loop-walk.walk.cursor c.advance.new.self (search rules) c.in_ok-advance.ensures.ended).0
    c.in_ok-advance.ensures.ended in
    walks_ended c.args.walk.now (record { cursor = c.advance.new.self; here = c.no_component-walk.result }) c.no_component-walk.ensures.empty ended.3

pub returns-then-is_none-clause-reads : goal.returns-then-is_none-clause-reads
returns-then-is_none-clause-reads g c = reads_ok c.in_ok-advance.was (reads_on g (goal.at.returns-then-is_none-clause-reads g c).After-advance)

pub loop-walk-preserved : goal.loop-walk-preserved
loop-walk-preserved g c =
    let inv = c.loop-walk.invariant in
    let arm = (goal.at.loop-walk-preserved g c).In_ok-advance in
    let after = (goal.at.loop-walk-preserved g c).After-advance in
    let reads = reads_on g after in
    let calm = calm_of c.advance.result tt c.in_ok-advance.was in
    record {
      effect = reads.effect;
      one_a_page = omega (arith, inv.one_a_page, c.in_ok-advance.ensures.one_a_page);
      stands = reads.stands calm;
      falls = omega (arith, inv.falls, count_falls c.args.at.now c.loop-walk.walk.cursor c.advance.new.self (sym c.is_above.ensures ∙ c.loop-walk-test.true) c.in_ok-advance.ensures.falls c.in_ok-advance.ensures.ended);
      walks = λ was.
          let before = inv.walks was in
          let on = walks_on c.loop-walk.walk (on_part g after) before.0 c.next_part-part.ensures.part c.in_ok-advance.ensures.turns c.in_ok-advance.ensures.stays
          (omega (arith, c.in_ok-advance.ensures.one_a_page, c.advance.ensures.reads.effect.effect.goes_on.clock)) in
          (on.0, omega (arith, on.1, before.1));
      list = λ is_front file entries pages is has. (list_on g after is_front file entries pages is has calm).1;
      read = λ is_front file run given is has.
          (read_on g arm (on_part g after) refl (inl c.next_part-part.ensures.part) is_front file run given is has).0;
    }

pub returns-clause-list : goal.returns-clause-list
returns-clause-list g c = λ is_front file entries pages is has other.
    let now = c.loop-walk.invariant.list is_front file entries pages is has in
    (refl, now, head_first is_front c.args.geo.now file c.args.at.now c.loop-walk.walk entries pages now (inl (sym c.is_above.ensures ∙ c.loop-walk-test.false)))

pub returns-clause-read : goal.returns-clause-read
returns-clause-read g c = λ is_front file run given is has.
    let on = c.loop-walk.invariant.read is_front file run given is has in
    let above_at : head_above c.args.at.now c.loop-walk.walk.cursor.head ≡ true = sym c.is_above.ensures ∙ c.loop-walk-test.false in (
      on,
      λ all front. read_first is_front c.args.geo.now file run c.args.at.now c.loop-walk.walk on.now on.read (inl above_at) all front,
      λ none. absurd (false≢true (sym (ap (head_above c.args.at.now) none) ∙ above_at)),
    )
