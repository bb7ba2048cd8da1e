use Rattle.std.proofs.Common.{
  ◌∙◌,
  ◌≡◌,
  ◌+◌,
  ◌<◌,
  ◌≤◌,
  ◌^◌,
  ℕ,
  Bool,
  false,
  IsTrue,
  inr,
  List,
  length,
  Option,
  Result,
  Some,
  Err,
  ap,
  refl,
  sym,
  subst,
  arith,
}
use Rattle.std.proofs.lemmas.Bool.{false≢true}
use Rattle.std.proofs.Math.ListN.{length-replicate}
use Rattle.bloom_bits.specs.Filter.{rounded}
use Rattle.blsm_model.specs.declared.key.Key.{Key}
use Rattle.blsm_model.specs.Components.{no_page}
use Rattle.blsm_model.specs.Geometry.{file_length, page_count}
use Rattle.page_file.specs.declared.file.Broken.{Broken}
use Rattle.page_file.specs.Component.{HasList, numbers_of}
use Rattle.page_file.specs.File.{Reads}
use Rattle.record_delta.specs.Entries.{Entries}
use Rattle.run_writer.specs.Run.{pages_of}
use Rattle.merge_ends.specs.Merge.{HasFinished}
use Rattle.merge_ends.specs.Output.{most_pages}
use Rattle.tree_runs.specs.Runs.{GuideState, guide_at}
use Rattle.output_reading.specs.declared.inputs.Inputs.{Inputs}
use Rattle.output_reading.specs.declared.output.Output.{Output}
use Rattle.tree_runs.specs.declared.resumable.Resumable.{Resumable}
use Rattle.output_reading.specs.Noted.{HasNoted, MayNote}
use Rattle.tree_file.specs.Output.{settled_up_to, weight_up_to}
use Rattle.output_reading.specs.Output.{IsLight}
use Rattle.output_reading.specs.Walk.{AreInputs, HasClaimed, HasMet, HasPassed, TakesUp, TellsOutput, left_of, pages_ahead, unbounded}
use Rattle.output_reading.proofs.CallsLemmas.{damage_is_calm, handed_on, ok_is_calm, ok_not_err, reads_after, reads_calm, reads_handed, reads_wider, still}
use Rattle.output_reading.proofs.EndLemmas.{all_is_met, end_told, fault_told, is_walked, stops_told}
use Rattle.output_reading.proofs.NotedLemmas.{noted_onward, noted_start, rooms_then}
use Rattle.output_reading.proofs.NumberLemmas.{claimed_more, claimed_none, ended_calm, light_end}
use Rattle.output_reading.proofs.RightLemmas.{none_departs}
use Rattle.output_reading.proofs.ResumeLemmas.{may_resume, none_before, none_finished, noted_end, noted_entries, resumes_over, role_in}
use Rattle.output_reading.proofs.walk.walk_output.Goals as goal
use Rattle.output_reading.proofs.walk.walk_output.Goals.{After-goes_on, In_ok-end, In_ok-goes_on, In_ok-z}

-- ---- what was followed

few_pages : (g : _) (c : In_ok-z g) → page_count c.args.geo.now ≤ no_page
few_pages g c = omega (arith, c.pages-pages.ensures.pages, c.pages-pages.ensures.bound)

same_count : (g : _) (c : In_ok-z g) → c.follow.new.space.pages ≡ page_count c.args.geo.now
same_count g c = c.follow.ensures.same_pages ∙ c.requires.pages

walked_reads : (g : _) (c : In_ok-z g) → Reads (file_length c.args.geo.now)
    (c.args.c1x.now.pages + c.args.c2.now.pages + c.args.progress.now.output.pages + 1) c.follow.result
    (g.D.Disk.state c.args.disk.now) (g.D.Disk.state c.follow.new.disk)
walked_reads g c =
    reads_wider
    (omega (
      arith,
      ap (λ (s : Inputs). pages_ahead s) c.start-inputs.ensures.started,
      ap (λ (s : Output). s.cursor.pages)
          c.start-output.ensures.started,
    ))
    c.follow.ensures.reads

met : (g : _) (c : In_ok-z g) (earlier : List ℕ) (newer older : Entries)
    (list : HasList c.args.geo.now c.args.c1x.now newer (g.D.Disk.state c.args.disk.now).bytes)
    (below : HasList c.args.geo.now c.args.c2.now older (g.D.Disk.state c.args.disk.now).bytes) → IsTrue (g.D.Disk.state c.args.disk.now).is_honest →
    TakesUp earlier c.args.space.now
    → AreInputs c.args.geo.now c.follow.new.inputs (numbers_of list.pages) (numbers_of below.pages) newer older (g.D.Disk.state c.args.disk.now).bytes
    × HasMet c.args.geo.now c.args.progress.now.output earlier c.args.role c.args.space.now c.follow.new.output c.follow.new.space
    (settled_up_to (Some c.args.progress.now.key) newer older) (g.D.Disk.state c.args.disk.now).bytes
    × (settled_up_to c.follow.new.inputs.at newer older ≡ settled_up_to (Some c.args.progress.now.key) newer older)
    × (c.in_ok-z.z ≡ weight_up_to (Some c.args.progress.now.key) newer older)
met g c earlier newer older list below honest takes =
    let file = (g.D.Disk.state c.args.disk.now).bytes in
    c.in_ok-z.ensures.met c.args.progress.now.output earlier c.args.space.now (numbers_of list.pages) (numbers_of below.pages) newer older honest
    (c.start-inputs.ensures.inputs c.args.geo.now newer older file list below)
    (c.start-output.ensures.met c.args.geo.now earlier c.args.role c.args.space.now file takes)

all_is : (g : _) (c : In_ok-z g) → c.in_ok-z.z + left_of c.follow.new.inputs ≡ c.args.c1x.now.weight + c.args.c2.now.weight
all_is g c = omega (arith, c.in_ok-z.ensures.z, ap (λ (s : Inputs). left_of s) c.start-inputs.ensures.started)

light : (g : _) (c : In_ok-end g) → c.in_ok-z.z + left_of c.follow.new.inputs ≡ c.args.c1x.now.weight + c.args.c2.now.weight
    → IsLight c.args.progress.now (c.args.c1x.now.weight + c.args.c2.now.weight)
light g c all =
    light_end c.args.progress.now c.follow.new.output c.in_ok-z.z (left_of c.follow.new.inputs) (c.args.c1x.now.weight + c.args.c2.now.weight)
    c.follow.new.space
    (c.in_ok-z.ensures.full (unbounded c.args.progress.now.output) c.start-output.ensures.full)
    (subst (λ (s : Output). HasPassed s.cursor c.follow.new.output.cursor c.in_ok-z.z) c.start-output.ensures.started c.in_ok-z.ensures.passed)
    c.in_ok-end.ensures all

claimed : (g : _) (c : In_ok-end g) → HasClaimed c.args.role (c.args.progress.now.output.pages + 1) 1 c.args.space.now c.follow.new.space
claimed g c =
    let all = c.args.progress.now.output.pages + 1 in
    subst (λ n. HasClaimed c.args.role all n c.args.space.now c.follow.new.space) c.in_ok-end.ensures.last
    (c.in_ok-z.ensures.claims all c.args.space.now
    (subst (λ n. HasClaimed c.args.role all n c.args.space.now c.args.space.now)
    (sym (ap (λ (s : Output). s.cursor.pages) c.start-output.ensures.started))
    (claimed_none c.args.role all c.args.space.now c.requires.shape)))

-- ---- what is above it

on_reads : (g : _) (c : After-goes_on g) → Reads (file_length c.args.geo.now)
    (c.args.c1x.now.pages + c.args.c2.now.pages + c.args.progress.now.output.pages + 1) c.follow.result
    (g.D.Disk.state c.args.disk.now) (g.D.Disk.state c.follow.new.disk)
    → Reads (file_length c.args.geo.now) (c.args.c1x.now.pages + c.args.c2.now.pages + c.args.progress.now.output.pages + 1) c.goes_on.result
    (g.D.Disk.state c.args.disk.now) (g.D.Disk.state c.goes_on.new.disk)
on_reads g c walked =
    reads_after (g.met.D.Disk.timed c.follow.new.disk) (walked.stands (ok_is_calm c.in_ok-z.was)) walked.effect c.goes_on.ensures.reads
    (omega (
      arith,
      ap (λ (s : Inputs). pages_ahead s) c.start-inputs.ensures.started,
      ap (λ (s : Output). s.cursor.pages) c.start-output.ensures.started,
      c.in_ok-z.ensures.once,
      c.in_ok-z.ensures.left,
      c.goes_on.ensures.calls,
    ))

noted : (g : _) (c : In_ok-goes_on g) → c.args.role < length c.args.guides.now
    → HasNoted c.args.geo.now (g.D.Disk.state c.args.disk.now).is_honest (g.D.Disk.state c.args.disk.now).bytes c.args.progress.now.output
    c.args.role c.follow.new.output
    c.follow.new.space (guide_at c.follow.new.guides c.args.role) c.goes_on.new.self.at
noted g c below =
    let file = (g.D.Disk.state c.args.disk.now).bytes in
    let honest = (g.D.Disk.state c.args.disk.now).is_honest in
    let run = c.args.progress.now.output in
    let begun = c.begin.ensures.begun below in
    let all : left_of c.start-inputs.result ≡ c.args.c1x.now.weight + c.args.c2.now.weight =
    omega (arith, ap (λ (s : Inputs). left_of s) c.start-inputs.ensures.started) in
    let may : MayNote run c.args.role c.start-output.result c.begin.new.self (left_of c.start-inputs.result) = record {
      below = omega (arith, below, c.begin.ensures.rooms.many);
      full = c.start-output.ensures.full;
      all = ap (λ (s : Output). s.cursor.weight) c.start-output.ensures.started;
      room = subst (λ n. most_pages n ≤ (guide_at c.begin.new.self c.args.role).fences.reserved) (sym all)
          (omega (arith, (c.requires.rooms below).pages, c.begin.ensures.rooms.fences));
    } in
    noted_onward c.in_ok-goes_on.ensures.onward (c.in_ok-z.ensures.noted run may
    (noted_start c.args.geo.now honest file run c.args.role c.start-output.result c.args.space.now (guide_at c.begin.new.self c.args.role)
    (ap (λ (s : Output). s.cursor) c.start-output.ensures.started) (c.start-output.ensures.given c.args.geo.now file) begun.1
    (ap (λ (s : GuideState). s.fences.list) begun.0)))

-- ---- the goals

pub returns-in_err-z-clause-tells : goal.returns-in_err-z-clause-tells
returns-in_err-z-clause-tells g c = λ earlier newer older honest takes list below.
    let file = (g.D.Disk.state c.args.disk.now).bytes in
    let progress = c.args.progress.now in
    let small : progress.output.pages < 2 ^ 32 = omega (arith, c.requires.few, c.pages-pages.ensures.pages, c.pages-pages.ensures.bound) in
    subst (λ (r : Result Resumable Broken). TellsOutput c.args.geo.now progress newer older earlier c.args.role c.args.space.now c.follow.new.space
    file r)
    (sym (handed_on c.from_residual.ensures.1))
    (stops_told c.args.geo.now progress newer older earlier c.args.role c.args.space.now c.follow.new.space file c.in_err-z.field-0.0
    (c.in_err-z.ensures.stops progress.output earlier c.args.space.now (numbers_of list.pages) (numbers_of below.pages) newer older honest
    c.requires.some small
    (c.start-inputs.ensures.inputs c.args.geo.now newer older file list below)
    (c.start-output.ensures.met c.args.geo.now earlier c.args.role c.args.space.now file takes)))

pub returns-in_err-end-clause-tells : goal.returns-in_err-end-clause-tells
returns-in_err-end-clause-tells g c = λ earlier newer older honest takes list below.
    let file = (g.D.Disk.state c.args.disk.now).bytes in
    let progress = c.args.progress.now in
    let arm = (goal.at.returns-in_err-end-clause-tells g c).In_ok-z in
    let m = met g arm earlier newer older list below honest takes in
    subst (λ (r : Result Resumable Broken). TellsOutput c.args.geo.now progress newer older earlier c.args.role c.args.space.now c.follow.new.space
    file r)
    (sym (handed_on c.from_residual-in_err-end.ensures.1))
    (end_told c.args.geo.now progress newer older earlier c.args.role c.args.space.now c.follow.new.output c.follow.new.space file (few_pages g arm)
    c.requires.some
    (same_count g arm) m.1 c.in_ok-z.z c.in_err-end.field-0.0 m.3 c.in_ok-z.ensures.left c.in_err-end.ensures)

pub returns-in_err-end-clause-reads : goal.returns-in_err-end-clause-reads
returns-in_err-end-clause-reads g c =
    reads_calm
    (ended_calm c.follow.new.output c.args.progress.now c.in_ok-z.z c.follow.new.space (handed_on c.from_residual-in_err-end.ensures.1)
    c.in_err-end.ensures)
    (ok_is_calm c.in_ok-z.was) (walked_reads g (goal.at.returns-in_err-end-clause-reads g c).In_ok-z)

pub returns-in_err-goes_on-clause-tells : goal.returns-in_err-goes_on-clause-tells
returns-in_err-goes_on-clause-tells g c = λ earlier newer older honest takes list below.
    let file = (g.D.Disk.state c.args.disk.now).bytes in
    let progress = c.args.progress.now in
    let m = met g (goal.at.returns-in_err-goes_on-clause-tells g c).In_ok-z earlier newer older list below honest takes in
    let same = still c.follow.ensures.reads.effect honest in
    let now = subst (λ (b : List ℕ). AreInputs c.args.geo.now c.follow.new.inputs (numbers_of list.pages) (numbers_of below.pages) newer older b)
    (sym same.1) m.0 in
    subst (λ (r : Result Resumable Broken). TellsOutput c.args.geo.now progress newer older earlier c.args.role c.args.space.now c.follow.new.space
    file r)
    (sym (handed_on c.from_residual-in_err-goes_on.ensures.1))
    (fault_told c.args.geo.now progress newer older earlier c.args.role c.args.space.now c.follow.new.space file c.in_err-goes_on.field-0.0 (λ n is.
    (c.goes_on.ensures.tells (numbers_of list.pages) (numbers_of below.pages) newer older same.0 now
    (damage_is_calm (c.in_err-goes_on.was ∙ ap Err is))).1 n
    (c.in_err-goes_on.was ∙ ap Err is)))

pub returns-in_err-goes_on-clause-rooms : goal.returns-in_err-goes_on-clause-rooms
returns-in_err-goes_on-clause-rooms g c = rooms_then c.begin.ensures.rooms c.follow.ensures.rooms

pub returns-in_err-goes_on-clause-reads : goal.returns-in_err-goes_on-clause-reads
returns-in_err-goes_on-clause-reads g c =
    let arm = goal.at.returns-in_err-goes_on-clause-reads g c in
    reads_handed (handed_on c.from_residual-in_err-goes_on.ensures.1) c.in_err-goes_on.was (on_reads g arm.After-goes_on (walked_reads g arm.In_ok-z))

pub returns-then-not-branch-clause-tells : goal.returns-then-not-branch-clause-tells
returns-then-not-branch-clause-tells g c = λ earlier newer older honest takes list below.
    let file = (g.D.Disk.state c.args.disk.now).bytes in
    let arm = (goal.at.returns-then-not-branch-clause-tells g c).In_ok-z in
    let m = met g arm earlier newer older list below honest takes in
    let same = still c.follow.ensures.reads.effect honest in
    let now = subst (λ (b : List ℕ). AreInputs c.args.geo.now c.follow.new.inputs (numbers_of list.pages) (numbers_of below.pages) newer older b)
    (sym same.1) m.0 in
    let told = (c.in_ok-goes_on.ensures.tells (numbers_of list.pages) (numbers_of below.pages) newer older same.0 now (ok_is_calm refl)).0 in
    all_is_met c.args.geo.now c.args.progress.now newer older earlier c.args.role c.args.space.now c.follow.new.output c.follow.new.space file
    (few_pages g arm)
    c.requires.some (same_count g arm) m.1 c.in_ok-end.ensures.none_left c.in_ok-end.ensures.last
    (λ more. false≢true (sym c.if-not-branch.true ∙ told.1 (λ all. more (sym m.2 ∙ all))))

pub returns-then-not-branch-clause-rooms : goal.returns-then-not-branch-clause-rooms
returns-then-not-branch-clause-rooms g c = rooms_then c.begin.ensures.rooms c.follow.ensures.rooms

pub returns-then-not-branch-clause-reads : goal.returns-then-not-branch-clause-reads
returns-then-not-branch-clause-reads g c =
    let arm = goal.at.returns-then-not-branch-clause-reads g c in
    reads_calm (damage_is_calm refl) (ok_is_calm c.in_ok-goes_on.was) (on_reads g arm.After-goes_on (walked_reads g arm.In_ok-z))

pub returns-in_default-clause-tells : goal.returns-in_default-clause-tells
returns-in_default-clause-tells g c = λ earlier newer older honest takes list below.
    let arm = goal.at.returns-in_default-clause-tells g c in
    let none = none_before c.follow.new.inputs.at c.goes_on.new.self.at c.in_ok-goes_on.ensures.onward c.in_default.ensures.none in
    absurd (none_finished c.args.progress.now c.follow.new.output c.follow.new.space (c.args.c1x.now.weight + c.args.c2.now.weight) c.in_ok-z.z
    c.requires.some
    (light g arm.In_ok-end (all_is g arm.In_ok-z)) c.in_ok-end.ensures (c.in_ok-z.ensures.none none))

pub returns-in_default-clause-rooms : goal.returns-in_default-clause-rooms
returns-in_default-clause-rooms g c = rooms_then c.begin.ensures.rooms c.follow.ensures.rooms

pub returns-in_default-clause-reads : goal.returns-in_default-clause-reads
returns-in_default-clause-reads g c =
    let arm = goal.at.returns-in_default-clause-reads g c in
    reads_calm (damage_is_calm refl) (ok_is_calm c.in_ok-goes_on.was) (on_reads g arm.After-goes_on (walked_reads g arm.In_ok-z))

pub returns-clause-tells : goal.returns-clause-tells
returns-clause-tells g c = λ earlier newer older honest takes list below.
    let file = (g.D.Disk.state c.args.disk.now).bytes in
    let arm = (goal.at.returns-clause-tells g c).In_ok-z in
    let m = met g arm earlier newer older list below honest takes in
    let same = still c.follow.ensures.reads.effect honest in
    let now = subst (λ (b : List ℕ). AreInputs c.args.geo.now c.follow.new.inputs (numbers_of list.pages) (numbers_of below.pages) newer older b)
    (sym same.1) m.0 in
    let told = (c.in_ok-goes_on.ensures.tells (numbers_of list.pages) (numbers_of below.pages) newer older same.0 now (ok_is_calm refl)).0 in
    is_walked c.args.geo.now c.args.progress.now newer older earlier c.args.role c.args.space.now c.follow.new.output c.follow.new.space file
    (few_pages g arm)
    c.requires.some (same_count g arm) m.1 c.claim.new.self c.in_ok-z.z m.3 c.in_ok-end.ensures (λ all. told.0 c.if-not-branch.false (m.2 ∙ all))
    c.claim.ensures

pub returns-clause-taken : goal.returns-clause-taken
returns-clause-taken g c =
    claimed_more c.args.role (c.args.progress.now.output.pages + 1) 0 c.args.progress.now.next c.args.space.now c.follow.new.space c.claim.new.self
    (claimed g (goal.at.returns-clause-taken g c).In_ok-end) c.in_ok-end.ensures.whole.free c.claim.ensures

pub returns-clause-numbers : goal.returns-clause-numbers
returns-clause-numbers g c = let arm = goal.at.returns-clause-numbers g c in light g arm.In_ok-end (all_is g arm.In_ok-z)

pub returns-clause-resumes : goal.returns-clause-resumes
returns-clause-resumes g c =
    let arm = goal.at.returns-clause-resumes g c in
    may_resume c.args.progress.now c.in-Some.ahead
    (role_in c.claim.new.self c.args.role c.args.progress.now.next c.claim.ensures.shape
    ((c.claim.ensures.tags c.args.role c.args.progress.now.next).1 (inr (refl, refl))))
    (omega (arith, c.requires.few, c.pages-pages.ensures.pages, c.pages-pages.ensures.bound)) c.in-Some.ensures.some c.in_ok-goes_on.ensures.ready
    (light g arm.In_ok-end (all_is g arm.In_ok-z)) c.in_ok-end.ensures (all_is g arm.In_ok-z) c.in_ok-goes_on.ensures.light

pub returns-clause-finished : goal.returns-clause-finished
returns-clause-finished g c = λ below.
    let file = (g.D.Disk.state c.args.disk.now).bytes in
    let honest = (g.D.Disk.state c.args.disk.now).is_honest in
    let arm = goal.at.returns-clause-finished g c in
    let w = c.in-Some.ensures.some in
    let n = subst (λ (k : Option Key). HasNoted c.args.geo.now honest file c.args.progress.now.output c.args.role c.follow.new.output
    c.follow.new.space
    (guide_at c.follow.new.guides c.args.role) k) w.at_is (noted g arm.In_ok-goes_on below) in (
      pages_of n.run,
      noted_end c.args.progress.now c.in_ok-z.z c.in-Some.ahead.done (few_pages g arm.In_ok-z) (same_count g arm.In_ok-z) c.requires.some n
          c.in_ok-end.ensures
          c.claim.ensures w.output_is w.next_is,
    )

pub returns-clause-over : goal.returns-clause-over
returns-clause-over g c = λ earlier newer older honest role_below takes list one below other.
    let file = (g.D.Disk.state c.args.disk.now).bytes in
    let told_honest = (g.D.Disk.state c.args.disk.now).is_honest in
    let guide = guide_at c.follow.new.guides c.args.role in
    let arm = goal.at.returns-clause-over g c in
    let m = met g arm.In_ok-z earlier newer older list below honest takes in
    let same = still c.follow.ensures.reads.effect honest in
    let now = subst (λ (b : List ℕ). AreInputs c.args.geo.now c.follow.new.inputs (numbers_of list.pages) (numbers_of below.pages) newer older b)
    (sym same.1) m.0 in
    let told = (c.in_ok-goes_on.ensures.tells (numbers_of list.pages) (numbers_of below.pages) newer older same.0 now (ok_is_calm refl)).0 in
    let on = c.in_ok-goes_on.ensures.inputs (numbers_of list.pages) (numbers_of below.pages) newer older same.0 now in
    let w = c.in-Some.ensures.some in
    let n = subst (λ (k : Option Key). HasNoted c.args.geo.now told_honest file c.args.progress.now.output c.args.role c.follow.new.output
    c.follow.new.space guide k)
    w.at_is (noted g arm.In_ok-goes_on role_below) in
    let finished = noted_end c.args.progress.now c.in_ok-z.z c.in-Some.ahead.done (few_pages g arm.In_ok-z) (same_count g arm.In_ok-z)
    c.requires.some n
    c.in_ok-end.ensures c.claim.ensures w.output_is w.next_is in
    resumes_over c.in-Some.ahead list.pages below.pages (pages_of n.run) w c.in_ok-goes_on.ensures.ready
    (subst (λ (b : List ℕ). AreInputs c.args.geo.now c.goes_on.new.self (numbers_of list.pages) (numbers_of below.pages) newer older b) same.1 on.0)
    (claimed_more c.args.role (c.args.progress.now.output.pages + 1) 0 c.args.progress.now.next c.args.space.now c.follow.new.space c.claim.new.self
    (claimed g arm.In_ok-end) c.in_ok-end.ensures.whole.free c.claim.ensures)
    one other
    (subst (λ (b : Bool). HasFinished c.args.geo.now b file c.claim.new.self c.args.role guide.filter guide.fences c.in-Some.ahead.done
    (pages_of n.run)) honest finished)
    (noted_entries (few_pages g arm.In_ok-z) honest c.in_ok-end.ensures.none_left n m.1 ∙ sym m.2 ∙ sym on.1)
    (λ all. told.0 c.if-not-branch.false (sym on.1 ∙ all))

pub returns-clause-rooms : goal.returns-clause-rooms
returns-clause-rooms g c = rooms_then c.begin.ensures.rooms c.follow.ensures.rooms

pub returns-clause-size : goal.returns-clause-size
returns-clause-size g c = λ below.
    c.in_ok-z.ensures.size (omega (arith, below, c.begin.ensures.rooms.many))
    ∙ ap (λ (guide : GuideState). length guide.filter.bits) (c.begin.ensures.begun below).0
    ∙ length-replicate (rounded (c.args.c1x.now.weight + c.args.c2.now.weight)) false

pub returns-clause-reads : goal.returns-clause-reads
returns-clause-reads g c =
    let arm = goal.at.returns-clause-reads g c in
    reads_calm (ok_is_calm refl) (ok_is_calm c.in_ok-goes_on.was) (on_reads g arm.After-goes_on (walked_reads g arm.In_ok-z))

pub returns-in_err-z-clause-right : goal.returns-in_err-z-clause-right
returns-in_err-z-clause-right g c = λ earlier newer older pages honest takes list below output apart n is.
    let few : page_count c.args.geo.now ≤ no_page = omega (arith, c.pages-pages.ensures.pages, c.pages-pages.ensures.bound) in
    let file = (g.D.Disk.state c.args.disk.now).bytes in
    none_departs c.args.geo.now c.args.progress.now newer older earlier file few n pages output apart
    (subst (λ (r : Result Resumable Broken). TellsOutput c.args.geo.now c.args.progress.now newer older earlier c.args.role c.args.space.now
    c.follow.new.space file r) is (returns-in_err-z-clause-tells g c earlier newer older honest takes list below))

pub returns-in_err-end-clause-right : goal.returns-in_err-end-clause-right
returns-in_err-end-clause-right g c = λ earlier newer older pages honest takes list below output apart n is.
    let few : page_count c.args.geo.now ≤ no_page = omega (arith, c.pages-pages.ensures.pages, c.pages-pages.ensures.bound) in
    let file = (g.D.Disk.state c.args.disk.now).bytes in
    none_departs c.args.geo.now c.args.progress.now newer older earlier file few n pages output apart
    (subst (λ (r : Result Resumable Broken). TellsOutput c.args.geo.now c.args.progress.now newer older earlier c.args.role c.args.space.now
    c.follow.new.space file r) is (returns-in_err-end-clause-tells g c earlier newer older honest takes list below))

pub returns-in_err-goes_on-clause-right : goal.returns-in_err-goes_on-clause-right
returns-in_err-goes_on-clause-right g c = λ earlier newer older pages honest takes list below output apart n is.
    let few : page_count c.args.geo.now ≤ no_page = omega (arith, c.pages-pages.ensures.pages, c.pages-pages.ensures.bound) in
    let file = (g.D.Disk.state c.args.disk.now).bytes in
    none_departs c.args.geo.now c.args.progress.now newer older earlier file few n pages output apart
    (subst (λ (r : Result Resumable Broken). TellsOutput c.args.geo.now c.args.progress.now newer older earlier c.args.role c.args.space.now
    c.follow.new.space file r) is (returns-in_err-goes_on-clause-tells g c earlier newer older honest takes list below))

pub returns-then-not-branch-clause-right : goal.returns-then-not-branch-clause-right
returns-then-not-branch-clause-right g c = λ earlier newer older pages honest takes list below output apart n is.
    let few : page_count c.args.geo.now ≤ no_page = omega (arith, c.pages-pages.ensures.pages, c.pages-pages.ensures.bound) in
    none_departs c.args.geo.now c.args.progress.now newer older earlier (g.D.Disk.state c.args.disk.now).bytes few c.follow.new.output.page pages output apart
    (returns-then-not-branch-clause-tells g c earlier newer older honest takes list below)

pub returns-in_default-clause-right : goal.returns-in_default-clause-right
returns-in_default-clause-right g c = λ earlier newer older pages honest takes list below output apart n is.
    let few : page_count c.args.geo.now ≤ no_page = omega (arith, c.pages-pages.ensures.pages, c.pages-pages.ensures.bound) in
    none_departs c.args.geo.now c.args.progress.now newer older earlier (g.D.Disk.state c.args.disk.now).bytes few c.follow.new.output.page pages output apart
    (returns-in_default-clause-tells g c earlier newer older honest takes list below)

pub returns-clause-right : goal.returns-clause-right
returns-clause-right g c = λ earlier newer older pages honest takes list below output apart n is. ok_not_err refl is
