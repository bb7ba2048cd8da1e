use Rattle.std.proofs.Common.{rules, ◌≡◌, ◌∙◌, ◌++◌, ℕ, Option, None, Some, Ok, Err, inr, ap, sym, subst, refl}
use Rattle.std.specs.Prelude.{◌≢◌, IsTrue}
use Rattle.blsm_model.specs.Geometry.{file_length}
use Rattle.blsm_model.specs.Sizes.{Sizes}
use Rattle.std.specs.declared.result.Result.{Result}
use Rattle.page_file.specs.declared.file.Broken.{Broken}
use Rattle.page_file.specs.declared.file.Broken.TheVariants.{Damaged, Fault}
use Rattle.page_file.specs.Component.{ReadsOn}
use Rattle.page_file.specs.File.{Reads}
use Rattle.record_delta.specs.declared.record.Rec.{Rec}
use Rattle.record_delta.specs.Entries.{over_any}
use Rattle.run_cursor.specs.Lookup.{IsDamaged, IsFoundBy}
use Rattle.tree_runs.specs.Holding.{IsGuidedBy}
use Rattle.tree_runs.specs.Lookups.{CountsYes, HasRecord, HidesOlder, IsToldBy}
use Rattle.tree_runs.specs.Runs.{GuideState, filter_of, guide_at}
use Rattle.tree_runs.proofs.GuideLemmas.{guide_named}
use Rattle.tree_runs.proofs.FindLemmas.{answered, no_fault, not_failed, reads_failed, reads_found}
use Rattle.tree_runs.proofs.runs.Runs.find_below.Goals as goal
use Rattle.tree_runs.proofs.runs.Runs.find_below.Goals.{After-guide, After-find}

-- ---- the filter and the fences that were asked are the tag's

guide_was : (g : _) (c : After-guide g) → ◌≡◌ {A = GuideState} (record { filter = c.guide.inside.filter; fences = c.guide.inside.fences }) (guide_at c.args.self.now.guides c.args.role)
guide_was g c =
    let had : c.self.inside.guides.items ≡ c.args.self.now.guides = search rules in
    guide_named c.requires.five had c.number.ensures.number c.number.ensures.in_range c.guide.view_is c.index-guide.ensures

-- ---- it was asked once at most

asked_once : (g : _) (c : After-find g) → ◌≡◌ {A = GuideState} (record { filter = c.guide.inside.filter; fences = c.guide.inside.fences }) (guide_at c.args.self.now.guides c.args.role) → (n : ℕ) → CountsYes (filter_of c.args.self.now c.args.role) c.args.key.now n
    → Reads (file_length c.args.self.now.sizes) n c.find.result (g.D.Disk.state c.args.disk.now) (g.D.Disk.state c.find.new.disk)
asked_once g c was n counts =
    let sizes : c.self.inside.geometry ≡ c.args.self.now.sizes = search rules in
    subst (λ (s : Sizes). Reads (file_length s) n c.find.result (g.D.Disk.state c.args.disk.now) (g.D.Disk.state c.find.new.disk)) sizes
    (answered (filter_of c.args.self.now c.args.role) c.guide.inside.filter c.args.key.now n (ap (λ (r : GuideState). r.filter) was)
    (λ not. ap g.D.Disk.state (c.find.ensures.no_call not)) (g.met.D.Disk.timed c.args.disk.now) counts c.find.ensures.reads)

pub returns-in-Err-clause-reads : goal.returns-in-Err-clause-reads
returns-in-Err-clause-reads g c = λ n counts.
    let at = goal.at.returns-in-Err-clause-reads g c in
    reads_failed (Err c.in-Err.broken) c.in-Err.is refl (asked_once g at.After-find (guide_was g at.After-guide) n counts)

pub returns-in-Ok-Some-clause-reads : goal.returns-in-Ok-Some-clause-reads
returns-in-Ok-Some-clause-reads g c = λ n counts.
    let at = goal.at.returns-in-Ok-Some-clause-reads g c in
    reads_found _ c.in-Ok-Some.is (asked_once g at.After-find (guide_was g at.After-guide) n counts)

pub returns-in-Ok-None-clause-reads : goal.returns-in-Ok-None-clause-reads
returns-in-Ok-None-clause-reads g c = λ n counts.
    let at = goal.at.returns-in-Ok-None-clause-reads g c in
    reads_found _ c.in-Ok-None.is (asked_once g at.After-find (guide_was g at.After-guide) n counts)

-- ---- what it tells

-- what was found so far is no base and no tombstone
plain : (g : _) (c : After-find g) → HidesOlder c.args.found.now → ⊥
plain g c = λ hides. let yes = c.hides_older.ensures.1 hides in cc (yes, c.if-hides_older.false)

over_none : (newer : Option Rec) → newer ≡ over_any newer None
over_none None = refl
over_none (Some newer) = refl

-- the component's record, told by the page that was asked, stands under it
under : (g : _) (c : After-find g) (older found : Option Rec) (calls : ℕ) → IsFoundBy c.self.inside.geometry c.args.run.now c.guide.inside.filter c.guide.inside.fences c.args.key.now older calls (g.D.Disk.state c.args.disk.now).bytes
    → found ≡ over_any c.args.found.now older
    → ◌≡◌ {A = GuideState} (record { filter = c.guide.inside.filter; fences = c.guide.inside.fences }) (guide_at c.args.self.now.guides c.args.role)
    → IsToldBy c.args.self.now.sizes c.args.key.now (g.D.Disk.state c.args.disk.now).bytes (c.args.run.now, guide_at c.args.self.now.guides c.args.role) c.args.found.now found
under g c older found calls told is was =
    let now = c.args.self.now in
    let file = (g.D.Disk.state c.args.disk.now).bytes in
    let sizes : c.self.inside.geometry ≡ now.sizes = search rules in
    let newer = c.args.found.now in
    let key = c.args.key.now in
    let run = c.args.run.now in
    subst (λ (s : Sizes). IsToldBy s key file (run, guide_at now.guides c.args.role) newer found) sizes
    (subst (λ (r : GuideState). IsToldBy c.self.inside.geometry key file (run, r) newer found) was (inr (plain g c, older, calls, told, is)))

pub returns-in-Ok-Some-clause-told : goal.returns-in-Ok-Some-clause-told
returns-in-Ok-Some-clause-told g c = λ honest.
    let at = goal.at.returns-in-Ok-Some-clause-told g c in
    under g at.After-find c.in-Ok-Some.field-0 c.put_under.new.found _ (c.in-Ok-Some.ensures.told honest) (c.put_under.ensures ∙ ap (over_any c.args.found.now) (sym c.in-Ok-Some.field-0-is)) (guide_was g at.After-guide)

pub returns-in-Ok-None-clause-told : goal.returns-in-Ok-None-clause-told
returns-in-Ok-None-clause-told g c = λ honest.
    let at = goal.at.returns-in-Ok-None-clause-told g c in
    under g at.After-find c.in-Ok-None.field-0 c.args.found.now _ (c.in-Ok-None.ensures.told honest) (over_none c.args.found.now ∙ ap (over_any c.args.found.now) (sym c.in-Ok-None.field-0-is)) (guide_was g at.After-guide)

damaged_as : (broken : Broken) (n : ℕ) → ◌≡◌ {A = Result (Unit {0}) Broken} (Err broken) (Err (Damaged n)) → ◌≡◌ {A = Result (Option Rec) Broken} (Err broken) (Err (Damaged n))
damaged_as broken n is = cc is

pub returns-in-Err-clause-damaged : goal.returns-in-Err-clause-damaged
returns-in-Err-clause-damaged g c = λ n is honest.
    let now = c.args.self.now in
    let d = g.D.Disk.state c.args.disk.now in
    let at = goal.at.returns-in-Err-clause-damaged g c in
    let sizes : c.self.inside.geometry ≡ now.sizes = search rules in (
      plain g at.After-find,
      subst (λ (r : GuideState). IsDamaged now.sizes c.args.run.now r.filter r.fences c.args.key.now n d.bytes) (guide_was g at.After-guide)
          (subst (λ (s : Sizes). IsDamaged s c.args.run.now c.guide.inside.filter c.guide.inside.fences c.args.key.now n d.bytes) sizes
          (c.find.ensures.damaged n (c.in-Err.is ∙ damaged_as c.in-Err.broken n is) honest)),
    )

-- ---- the record that the pages have

-- what the run's lookup found is that
record_found : (g : _) (c : After-find g) (rec : Option Rec) → IsTrue (g.D.Disk.state c.args.disk.now).is_honest
    → HasRecord c.args.self.now.sizes c.args.run.now (guide_at c.args.self.now.guides c.args.role) c.args.key.now
    (g.D.Disk.state c.args.disk.now).bytes rec
    → ◌≡◌ {A = GuideState} (record { filter = c.guide.inside.filter; fences = c.guide.inside.fences }) (guide_at c.args.self.now.guides c.args.role)
    → c.find.result ≢ Err Fault → ◌≡◌ {A = Result (Option Rec) Broken} c.find.result (Ok rec)
record_found g c rec honest has was other =
    let file = (g.D.Disk.state c.args.disk.now).bytes in
    let sizes : c.self.inside.geometry ≡ c.args.self.now.sizes = search rules in
    c.find.ensures.front has.pages has.behind has.next honest (subst (λ (s : Sizes). ReadsOn s c.args.run.now has.pages has.next file)
    (sym sizes) has.reads)
    (subst (λ (r : GuideState). IsGuidedBy r (has.pages ++ has.behind)) (sym was) has.guided) has.below other ∙ ap Ok (sym has.found_is)

unit_fault : (broken : Broken) → ◌≡◌ {A = Result (Option Rec) Broken} (Err broken) (Err Fault)
    → ◌≡◌ {A = Result (Unit {0}) Broken} (Err broken) (Err Fault)
unit_fault broken is = cc is

same_record : (one other : Option Rec) → ◌≡◌ {A = Result (Option Rec) Broken} (Ok one) (Ok other) → one ≡ other
same_record one other same = cc same

pub returns-in-Err-clause-list : goal.returns-in-Err-clause-list
returns-in-Err-clause-list g c = λ rec honest has other.
    let at = goal.at.returns-in-Err-clause-list g c in
    absurd (not_failed (sym c.in-Err.is ∙ record_found g at.After-find rec honest has (guide_was g at.After-guide)
    (λ is. other (unit_fault c.in-Err.broken (sym c.in-Err.is ∙ is)))))

pub returns-in-Ok-Some-clause-list : goal.returns-in-Ok-Some-clause-list
returns-in-Ok-Some-clause-list g c = λ rec honest has other.
    let at = goal.at.returns-in-Ok-Some-clause-list g c in
    let found = record_found g at.After-find rec honest has (guide_was g at.After-guide)
    (λ is. no_fault c.in-Ok-Some.field-0 (sym c.in-Ok-Some.is ∙ is)) in
    ap Ok (c.put_under.ensures ∙ ap (over_any c.args.found.now) (sym c.in-Ok-Some.field-0-is
    ∙ same_record c.in-Ok-Some.field-0 rec (sym c.in-Ok-Some.is ∙ found)))

pub returns-in-Ok-None-clause-list : goal.returns-in-Ok-None-clause-list
returns-in-Ok-None-clause-list g c = λ rec honest has other.
    let at = goal.at.returns-in-Ok-None-clause-list g c in
    let found = record_found g at.After-find rec honest has (guide_was g at.After-guide)
    (λ is. no_fault c.in-Ok-None.field-0 (sym c.in-Ok-None.is ∙ is)) in
    ap Ok (over_none c.args.found.now
    ∙ ap (over_any c.args.found.now) (sym c.in-Ok-None.field-0-is ∙ same_record c.in-Ok-None.field-0 rec (sym c.in-Ok-None.is ∙ found)))
