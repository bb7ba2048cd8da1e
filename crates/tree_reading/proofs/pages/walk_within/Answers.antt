use Rattle.std.proofs.Common.{◌≡◌, ◌∙◌, ◌≤◌, ◌∷◌, ◌++◌, ℕ, List, [], Option, Some, None, Result, Err, IsTrue, false, refl, ap, sym, subst, arith}
use mathlib.Core.Path.{subst₂}
use Rattle.std.proofs.lemmas.Bool.{false≢true}
use Rattle.disk_trait.proofs.ReadLemmas.{only_reads_start}
use Rattle.blsm_model.specs.declared.key.Key.{Key}
use Rattle.blsm_model.specs.Geometry.{file_length}
use Rattle.record_delta.specs.declared.record.Rec.{Rec}
use Rattle.record_delta.specs.Entries.{Entries}
use Rattle.page_file.specs.declared.file.Broken.{Broken}
use Rattle.page_file.specs.File.{Reads}
use Rattle.run_cursor.specs.Cursor.{CursorState, IsDamageAt}
use Rattle.run_cursor.specs.Given.{HasGiven, HasGivenMore}
use Rattle.page_space.specs.Space.{SpaceState}
use Rattle.output_reading.specs.Walk.{TakesUp}
use Rattle.tree_reading.specs.Walk.{ChangesOnly, TellsStop}
use Rattle.tree_reading.proofs.CallsLemmas.{not_a_fault, reads_after, reads_as, reads_calm, still_then}
use Rattle.tree_reading.proofs.FaultLemmas.{handed_on, same_error}
use Rattle.tree_reading.proofs.WalkLemmas.{ArePagesTaken, IsClaiming, IsFilling, allowed_join, ended_pages, filled_end, filling_on, filling_start, taken_all, entered_err, few_calls, no_head, not_fault, tells_broken, walked_start, taken_on, claiming_start, claiming_on, changed_within, changed_entered, refused_damage, damage_at, not_allowed, some_pages, walked_end}
use Rattle.tree_runs.specs.Runs.{guide_at}
use Rattle.output_reading.proofs.NotedLemmas.{rooms_none, rooms_then}
use Rattle.tree_reading.proofs.NoteLemmas.{ends_there, noted_end, noted_on, noted_start}
use Rattle.tree_reading.proofs.pages.walk_within.Goals as goal
use Rattle.tree_reading.proofs.pages.walk_within.Goals.{After-advance, After-head}

-- ---- the page that was entered, and an advance of the cursor

reads_on : (g : _) (c : After-advance g) → Reads (file_length c.args.geo.now) c.args.run.now.pages c.advance.result (g.D.Disk.state c.args.disk.now) (g.D.Disk.state c.advance.new.disk)
reads_on g c =
    let inv = c.loop-page.invariant in
    reads_after (g.met.D.Disk.timed c.loop-page.disk) inv.stands inv.effect c.advance.ensures.reads
    (few_calls _ _ _ _ _ inv.one_a_page c.advance.ensures.reads.effect.effect.calls c.advance.ensures.no_call)

fewer : (g : _) (c : After-head g) → c.advance.new.self.pages ≤ c.loop-page.cursor.pages
fewer g c = omega (arith, c.in_ok-advance.ensures.one_a_page, c.advance.ensures.reads.effect.effect.goes_on.clock)

claims : (g : _) (c : After-head g) → IsClaiming c.args.role c.args.run.now.pages c.advance.new.self.pages c.args.space.now c.enter.new.space
claims g c =
    claiming_on c.args.role c.args.run.now.pages c.loop-page.page _ c.args.space.now c.loop-page.space c.enter.new.space c.loop-page.cursor c.advance.new.self c.loop-page.invariant.claims c.in_ok-page.ensures
    c.in_ok-advance.ensures.turns c.in_ok-advance.ensures.stays (fewer g c)

filling : (g : _) (c : After-head g) → IsFilling c.args.run.now c.advance.new.self
filling g c =
    let was = c.loop-page.invariant.filling in
    filling_on c.args.run.now c.loop-page.page c.args.role _ c.loop-page.space c.enter.new.space c.loop-page.cursor c.advance.new.self was (c.in_ok-advance.ensures.full c.args.run.now was.full) c.in_ok-page.ensures
    c.in_ok-advance.ensures.turns c.in_ok-advance.ensures.stays (fewer g c)

ended : (g : _) (c : After-head g) → c.head.result ≡ None → c.advance.new.self.pages ≡ 0
ended g c none = ended_pages c.loop-page.cursor c.advance.new.self (sym c.head.ensures ∙ none) c.in_ok-advance.ensures.ended

given_on : (g : _) (c : After-head g) (given : Entries) (head : Option (Key × Rec)) → IsTrue (g.D.Disk.state c.args.disk.now).is_honest → c.head.result ≡ head
    → HasGiven c.args.geo.now c.args.run.now c.loop-page.cursor given (g.D.Disk.state c.args.disk.now).bytes
    → HasGivenMore c.args.geo.now c.args.run.now c.advance.new.self head given (g.D.Disk.state c.args.disk.now).bytes
given_on g c given head honest is has =
    let same = still_then c.loop-page.invariant.effect c.advance.ensures.reads.effect honest in
    subst₂ (λ (h : Option (Key × Rec)) (b : List ℕ). HasGivenMore c.args.geo.now c.args.run.now c.advance.new.self h given b) (sym c.head.ensures ∙ is) same.2
    (c.in_ok-advance.ensures.given false c.args.run.now given (g.met.D.Disk.honest_tells c.loop-page.disk same.0)
    (subst (λ (b : List ℕ). HasGiven c.args.geo.now c.args.run.now c.loop-page.cursor given b) (sym same.2) has))

taken_in : (g : _) (c : After-head g) (earlier : List ℕ) (more : Entries) → IsTrue (g.D.Disk.state c.args.disk.now).is_honest → TakesUp earlier c.args.space.now
    → (h : HasGiven c.args.geo.now c.args.run.now c.advance.new.self more (g.D.Disk.state c.args.disk.now).bytes) → ArePagesTaken earlier c.args.role c.args.space.now h.pages c.in_ok-page.page c.enter.new.space
taken_in g c earlier more honest takes h =
    let w = c.loop-page.invariant.walked earlier honest takes in
    taken_on c.args.geo.now c.args.run.now earlier c.args.role c.loop-page.page _ c.args.space.now c.loop-page.space c.enter.new.space c.loop-page.cursor c.advance.new.self w.given more
    (g.D.Disk.state c.args.disk.now).bytes c.loop-page.invariant.few w.has h w.taken c.in_ok-page.ensures c.in_ok-advance.ensures.turns c.in_ok-advance.ensures.stays (fewer g c)

-- ---- the goals

pub loop-page-init : goal.loop-page-init
loop-page-init g c =
    let first = g.D.Disk.state c.args.disk.now in
    record {
      few = omega (arith, c.pages-pages.ensures.pages, c.pages-pages.ensures.bound);
      effect = only_reads_start first (g.met.D.Disk.timed c.args.disk.now);
      one_a_page = omega (arith, ap (λ (s : CursorState). s.pages) c.start-cursor.ensures.start);
      stands = refl;
      claims = subst (λ n. IsClaiming c.args.role c.args.run.now.pages n c.args.space.now c.args.space.now) (sym (ap (λ (s : CursorState). s.pages) c.start-cursor.ensures.start))
          (claiming_start c.args.role c.args.run.now.pages c.args.space.now c.requires.shape);
      filling = filling_start c.args.run.now c.start-cursor.result c.start-cursor.ensures.full (ap (λ (s : CursorState). s.pages) c.start-cursor.ensures.start);
      walked = λ earlier honest takes. walked_start c.args.geo.now c.args.run.now c.args.bases_only earlier c.args.role c.args.space.now c.start-cursor.result _ first.bytes
          (c.start-cursor.ensures.given c.args.geo.now first.bytes) (ap (λ (s : CursorState). s.pages) c.start-cursor.ensures.start) refl takes;
      rooms = rooms_none c.args.role c.args.guides.now;
      noted = λ honest clear.
          noted_start c.args.geo.now c.args.run.now c.start-cursor.result c.args.role c.args.guides.now first.bytes
          (c.start-cursor.ensures.given c.args.geo.now first.bytes)
          (ap (λ (s : CursorState). s.pages) c.start-cursor.ensures.start) clear;
    }

pub loop-page-preserved : goal.loop-page-preserved
loop-page-preserved g c =
    let inv = c.loop-page.invariant in
    let arm = (goal.at.loop-page-preserved g c).After-head in
    let reads = reads_on g (goal.at.loop-page-preserved g c).After-advance in
    record {
      few = inv.few;
      effect = reads.effect;
      one_a_page = omega (arith, inv.one_a_page, c.in_ok-advance.ensures.one_a_page);
      stands = reads.stands (not_a_fault c.advance.result c.in_ok-advance.was);
      claims = claims g arm;
      filling = filling g arm;
      walked = λ earlier honest takes.
          let w = inv.walked earlier honest takes in
          let e : Key × Rec = c.in-Some.entry in
          let more = given_on g arm w.given (Some e) honest c.in-Some.is w.has in
          record {
            given = w.given ++ e ∷ [];
            has = more;
            at_first = λ none. absurd (some_pages c.args.geo.now c.args.run.now c.advance.new.self w.given e (g.D.Disk.state c.args.disk.now).bytes more none);
            allowed = allowed_join c.args.bases_only w.given (e ∷ []) w.allowed (c.is_allowed.ensures.0 c.if-not-is_allowed.false);
            taken = taken_in g arm earlier (w.given ++ e ∷ []) honest takes more;
          };
      rooms = rooms_then inv.rooms c.note.ensures.rooms;
      noted = λ honest clear.
          let n = inv.noted honest clear in
          let e : Key × Rec = c.in-Some.entry in
          let more = given_on g arm n.given (Some e) honest c.in-Some.is n.has in
          record {
            given = n.given ++ e ∷ [];
            has = more;
            noted =
                noted_on c.args.geo.now c.args.run.now c.loop-page.cursor c.advance.new.self c.start_of-start.result n.given e
                (guide_at c.loop-page.guides c.args.role) (guide_at c.note.new.self c.args.role)
                (g.D.Disk.state c.args.disk.now).bytes inv.few n.has more c.start_of-start.ensures c.in_ok-advance.ensures.turns
                c.in_ok-advance.ensures.stays (fewer g arm)
                (omega (arith, clear.room, inv.rooms.fences)) (c.note.ensures.notes (omega (arith, clear.below, inv.rooms.many))) n.noted;
          };
    }

-- ---- a page that isn't free

pub returns-in_err-page-clause-changed : goal.returns-in_err-page-clause-changed
returns-in_err-page-clause-changed g c =
    let refused = entered_err c.loop-page.cursor c.loop-page.page c.args.role c.loop-page.space c.enter.new.space c.in_err-page.field-0.0 c.in_err-page.ensures in
    subst (λ (s : SpaceState). ChangesOnly c.args.role c.args.space.now s) (sym refused.same)
    (changed_within c.args.role c.args.run.now.pages c.loop-page.cursor.pages c.args.space.now c.loop-page.space c.loop-page.invariant.claims)

pub returns-in_err-page-clause-tells : goal.returns-in_err-page-clause-tells
returns-in_err-page-clause-tells g c = λ earlier honest takes.
    let bytes = (g.D.Disk.state c.args.disk.now).bytes in
    let inv = c.loop-page.invariant in
    let refused = entered_err c.loop-page.cursor c.loop-page.page c.args.role c.loop-page.space c.enter.new.space c.in_err-page.field-0.0 c.in_err-page.ensures in
    subst (λ (r : Result (Unit {0}) Broken). TellsStop c.args.geo.now c.args.run.now c.args.bases_only earlier c.args.role c.args.space.now c.enter.new.space bytes r)
    (sym (handed_on c.from_residual.ensures.1 ∙ ap Err refused.broken_is))
    (refused_damage c.args.geo.now c.args.run.now c.args.bases_only earlier c.args.role c.args.space.now c.loop-page.cursor c.loop-page.page refused.number c.loop-page.space bytes inv.few
    (inv.walked earlier honest takes) (inv.claims.pages ∙ c.requires.pages) refused.refused)

pub returns-in_err-page-clause-reads : goal.returns-in_err-page-clause-reads
returns-in_err-page-clause-reads g c =
    let inv = c.loop-page.invariant in
    let refused = entered_err c.loop-page.cursor c.loop-page.page c.args.role c.loop-page.space c.enter.new.space c.in_err-page.field-0.0 c.in_err-page.ensures in
    record {
      effect = inv.effect;
      stands = λ other. inv.stands;
      failed = λ is. absurd (not_fault refused.number (same_error {A = Unit {0}} _ _ (sym (handed_on c.from_residual.ensures.1 ∙ ap Err refused.broken_is) ∙ is)));
    }

-- ---- a page that is damaged, or a fault

pub returns-in_err-advance-clause-changed : goal.returns-in_err-advance-clause-changed
returns-in_err-advance-clause-changed g c =
    changed_entered c.args.role c.args.run.now.pages c.loop-page.page _ c.args.space.now c.loop-page.space c.enter.new.space c.loop-page.cursor c.loop-page.invariant.claims c.in_ok-page.ensures

pub returns-in_err-advance-clause-tells : goal.returns-in_err-advance-clause-tells
returns-in_err-advance-clause-tells g c = λ earlier honest takes.
    let bytes = (g.D.Disk.state c.args.disk.now).bytes in
    let inv = c.loop-page.invariant in
    let same = still_then inv.effect c.advance.ensures.reads.effect honest in
    subst (λ (r : Result (Unit {0}) Broken). TellsStop c.args.geo.now c.args.run.now c.args.bases_only earlier c.args.role c.args.space.now c.enter.new.space bytes r)
    (sym (handed_on c.from_residual-in_err-advance.ensures.1))
    (tells_broken c.args.geo.now c.args.run.now c.args.bases_only earlier c.args.role c.args.space.now c.enter.new.space bytes c.in_err-advance.field-0.0
    (λ n is. damage_at c.args.geo.now c.args.run.now c.args.bases_only earlier c.args.role c.args.space.now c.loop-page.cursor c.loop-page.page _ n c.loop-page.space c.enter.new.space bytes inv.few
    (inv.walked earlier honest takes) (inv.claims.pages ∙ c.requires.pages) c.in_ok-page.ensures
    (subst (λ (b : List ℕ). IsDamageAt c.args.geo.now c.loop-page.cursor n b) same.2 (c.advance.ensures.damaged n (c.in_err-advance.was ∙ ap Err is) (g.met.D.Disk.honest_tells c.loop-page.disk same.0)))))

pub returns-in_err-advance-clause-reads : goal.returns-in_err-advance-clause-reads
returns-in_err-advance-clause-reads g c =
    reads_as (handed_on c.from_residual-in_err-advance.ensures.1 ∙ sym c.in_err-advance.was) (omega arith) (reads_on g (goal.at.returns-in_err-advance-clause-reads g c).After-advance)

-- ---- the end

pub returns-in_default-clause-changed : goal.returns-in_default-clause-changed
returns-in_default-clause-changed g c =
    changed_within c.args.role c.args.run.now.pages c.advance.new.self.pages c.args.space.now c.enter.new.space (claims g (goal.at.returns-in_default-clause-changed g c).After-head)

pub returns-in_default-clause-taken : goal.returns-in_default-clause-taken
returns-in_default-clause-taken g c =
    let arm = (goal.at.returns-in_default-clause-taken g c).After-head in
    taken_all c.args.role c.args.run.now.pages c.advance.new.self.pages c.args.space.now c.enter.new.space (claims g arm) (ended g arm (no_head c.head.result c.in_default.not-Some))

pub returns-in_default-clause-filled : goal.returns-in_default-clause-filled
returns-in_default-clause-filled g c =
    let arm = (goal.at.returns-in_default-clause-filled g c).After-head in
    filled_end c.args.run.now c.advance.new.self c.requires.empty (filling g arm) (ended g arm (no_head c.head.result c.in_default.not-Some))

pub returns-in_default-clause-tells : goal.returns-in_default-clause-tells
returns-in_default-clause-tells g c = λ earlier honest takes.
    let arm = (goal.at.returns-in_default-clause-tells g c).After-head in
    let inv = c.loop-page.invariant in
    let w = inv.walked earlier honest takes in
    let none = no_head c.head.result c.in_default.not-Some in
    let more = given_on g arm w.given None honest none w.has in
    walked_end c.args.geo.now c.args.run.now c.args.bases_only earlier c.args.role c.args.space.now c.advance.new.self w.given _ c.enter.new.space (g.D.Disk.state c.args.disk.now).bytes inv.few more.0 more.1
    (ended g arm none) (taken_in g arm earlier w.given honest takes more.1) w.allowed

pub returns-in_default-clause-guided : goal.returns-in_default-clause-guided
returns-in_default-clause-guided g c = λ pages honest clear reads.
    let arm = (goal.at.returns-in_default-clause-guided g c).After-head in
    let inv = c.loop-page.invariant in
    let n = inv.noted honest clear in
    let none = no_head c.head.result c.in_default.not-Some in
    let file = (g.D.Disk.state c.args.disk.now).bytes in
    let more = given_on g arm n.given None honest none n.has in
    noted_end c.args.geo.now c.args.run.now c.advance.new.self c.args.role c.loop-page.guides n.given file n.has.pages pages inv.few n.noted more.1
    (ends_there c.args.geo.now c.args.run.now c.loop-page.cursor c.advance.new.self n.given file inv.few n.has more.1 c.in_ok-advance.ensures.turns
    c.in_ok-advance.ensures.stays (fewer g arm))
    more.0 (ended g arm none) reads

pub returns-in_default-clause-reads : goal.returns-in_default-clause-reads
returns-in_default-clause-reads g c = reads_as (sym c.in_ok-advance.was) (omega arith) (reads_on g (goal.at.returns-in_default-clause-reads g c).After-advance)

-- ---- an entry that the component may not have

pub returns-then-not-is_allowed-clause-changed : goal.returns-then-not-is_allowed-clause-changed
returns-then-not-is_allowed-clause-changed g c =
    changed_within c.args.role c.args.run.now.pages c.advance.new.self.pages c.args.space.now c.enter.new.space (claims g (goal.at.returns-then-not-is_allowed-clause-changed g c).After-head)

pub returns-then-not-is_allowed-clause-tells : goal.returns-then-not-is_allowed-clause-tells
returns-then-not-is_allowed-clause-tells g c = λ earlier honest takes.
    let arm = (goal.at.returns-then-not-is_allowed-clause-tells g c).After-head in
    let inv = c.loop-page.invariant in
    let w = inv.walked earlier honest takes in
    let e : Key × Rec = c.in-Some.entry in
    let more = given_on g arm w.given (Some e) honest c.in-Some.is w.has in
    not_allowed c.args.geo.now c.args.run.now c.args.bases_only earlier c.args.role c.args.space.now c.advance.new.self w.given e _ c.enter.new.space (g.D.Disk.state c.args.disk.now).bytes inv.few more
    (taken_in g arm earlier (w.given ++ e ∷ []) honest takes more) w.allowed (λ ok. false≢true (sym c.if-not-is_allowed.true ∙ c.is_allowed.ensures.1 ok))

pub returns-then-not-is_allowed-clause-reads : goal.returns-then-not-is_allowed-clause-reads
returns-then-not-is_allowed-clause-reads g c =
    reads_calm (λ fault. absurd (cc)) c.in_ok-advance.was (reads_on g (goal.at.returns-then-not-is_allowed-clause-reads g c).After-advance)
