use Rattle.std.proofs.Common.{◌∙◌, ◌+◌, ◌++◌, ◌≤◌, ◌*◌, Option, Result, Some, ap, refl, sym, subst, arith}
use Rattle.std.proofs.lemmas.List.Elements.{Contains-append_left, Contains-append_right}
use Rattle.disk_trait.proofs.ReadLemmas.{only_reads_start}
use Rattle.std.specs.Prelude.{IfSome}
use Rattle.blsm_model.specs.Geometry.{page_count}
use Rattle.catalog_swap.specs.declared.catalog.Progress.{Progress}
use Rattle.catalog_swap.specs.Text.{IsProgressOf}
use Rattle.page_file.specs.declared.file.Broken.{Broken}
use Rattle.page_file.specs.Component.{HasList, entries_of, numbers_of}
use Rattle.tree_runs.specs.declared.resumable.Resumable.{Resumable}
use Rattle.tree_runs.specs.Ahead.{IsAheadOn, MayResume, ResumesOver}
use Rattle.tree_runs.specs.Holding.{AreElsewhere}
use Rattle.tree_runs.specs.Noting.{KeepsRooms}
use Rattle.tree_runs.specs.Runs.{IsReserved, first_tags, guide_at}
use Rattle.output_reading.specs.Walk as output
use Rattle.output_reading.proofs.CallsLemmas.{handed_on, ok_is_calm, reads_calm, reads_handed, reads_wider}
use Rattle.output_reading.proofs.NotedLemmas.{rooms_none}
use Rattle.tree_reading.specs.Reading.{AreWalked, TellsTree, calls_of_output}
use Rattle.tree_reading.proofs.ComponentsLemmas.{empty_without_pages, taken_as}
use Rattle.tree_reading.proofs.NamedLemmas.{
  both_small,
  departed_told,
  elsewhere,
  few_named,
  named_free,
  not_named,
  read_more,
  read_named,
  read_plain,
  read_same,
}
use Rattle.tree_reading.proofs.components.walk_named.Goals as goal
use Rattle.tree_reading.proofs.components.walk_named.Goals.{In-Some}

-- ---- none is named

pub returns-in_default-clause-tags : goal.returns-in_default-clause-tags
returns-in_default-clause-tags g c =
    read_same c.args.head.now.geometry c.args.head.now.catalogue c.args.space.now (not_named _ c.in_default.not-Some) c.requires.read

pub returns-in_default-clause-ahead : goal.returns-in_default-clause-ahead
returns-in_default-clause-ahead g c = not_named _ c.in_default.not-Some

pub returns-in_default-clause-tells : goal.returns-in_default-clause-tells
returns-in_default-clause-tells g c = λ honest walked.
    read_plain c.args.head.now.geometry c.args.head.now.catalogue c.args.space.now c.args.guides.now (g.D.Disk.state c.args.disk.now).bytes
    (not_named _ c.in_default.not-Some) walked

pub returns-in_default-clause-rooms : goal.returns-in_default-clause-rooms
returns-in_default-clause-rooms g c = rooms_none first_tags.deep c.args.guides.now

pub returns-in_default-clause-reads : goal.returns-in_default-clause-reads
returns-in_default-clause-reads g c = record {
  effect = only_reads_start (g.D.Disk.state c.args.disk.now) (g.met.D.Disk.timed c.args.disk.now);
  stands = λ other. refl;
  failed = λ wrong. absurd (ok_is_calm refl wrong);
}

-- ---- what the catalogue names

named : (g : _) (c : In-Some g) → IsProgressOf (page_count c.args.head.now.geometry) c.args.head.now.catalogue.c1x c.in-Some.progress
named g c =
    subst (λ (p : Option Progress). IfSome p (IsProgressOf (page_count c.args.head.now.geometry) c.args.head.now.catalogue.c1x)) c.in-Some.is
    c.requires.right.valid.progress

pub walk_output-requires-clause-newer : goal.walk_output-requires-clause-newer
walk_output-requires-clause-newer g c = empty_without_pages (page_count c.args.head.now.geometry) c.args.head.now.catalogue.c1x
    c.requires.right.valid.c1x

pub walk_output-requires-clause-older : goal.walk_output-requires-clause-older
walk_output-requires-clause-older g c = empty_without_pages (page_count c.args.head.now.geometry) c.args.head.now.catalogue.c2
    c.requires.right.valid.c2

pub walk_output-requires-clause-light : goal.walk_output-requires-clause-light
walk_output-requires-clause-light g c =
    both_small c.args.head.now.geometry c.args.head.now.catalogue c.requires.right.geometry c.requires.right.fits

pub walk_output-requires-clause-rooms : goal.walk_output-requires-clause-rooms
walk_output-requires-clause-rooms g c = λ below.
    subst (λ r. IsReserved (c.args.head.now.catalogue.c1x.weight + c.args.head.now.catalogue.c2.weight) (guide_at c.args.guides.now r))
    (sym c.new.ensures) (c.requires.rooms (omega (arith, below, c.new.ensures)))

pub walk_output-requires-clause-some : goal.walk_output-requires-clause-some
walk_output-requires-clause-some g c = omega (arith, (named g (goal.at.walk_output-requires-clause-some g c).In-Some).output.some_page)

pub walk_output-requires-clause-few : goal.walk_output-requires-clause-few
walk_output-requires-clause-few g c = (named g (goal.at.walk_output-requires-clause-few g c).In-Some).output.no_more_pages

few : (g : _) (c : In-Some g) → c.args.head.now.catalogue.c1x.pages + c.args.head.now.catalogue.c2.pages + c.in-Some.progress.output.pages + 1
    ≤ 3 * page_count c.args.head.now.geometry
few g c =
    few_named c.args.head.now.geometry c.args.head.now.catalogue c.in-Some.progress.output c.requires.right.fits c.requires.read.c1x.filled
    c.requires.read.c2.filled (named g c).output.no_more_pages

-- ---- the walk

abbrev list : (g : _) (c : In-Some g) (walked : AreWalked c.args.head.now.geometry c.args.head.now.catalogue c.args.space.now
    (g.D.Disk.state c.args.disk.now).bytes)
    → HasList c.args.head.now.geometry c.args.head.now.catalogue.c1x (entries_of walked.tagged.c1x) (g.D.Disk.state c.args.disk.now).bytes
list g c walked = record { pages = walked.tagged.c1x; reads = walked.tagged.components.c1x_reads; entries_are = refl }

abbrev below : (g : _) (c : In-Some g) (walked : AreWalked c.args.head.now.geometry c.args.head.now.catalogue c.args.space.now
    (g.D.Disk.state c.args.disk.now).bytes)
    → HasList c.args.head.now.geometry c.args.head.now.catalogue.c2 (entries_of walked.tagged.c2) (g.D.Disk.state c.args.disk.now).bytes
below g c walked = record { pages = walked.tagged.c2; reads = walked.tagged.components.c2_reads; entries_are = refl }

pub returns-in_err-ahead-clause-tells : goal.returns-in_err-ahead-clause-tells
returns-in_err-ahead-clause-tells g c = λ honest walked.
    let sizes = c.args.head.now.geometry in
    let catalogue = c.args.head.now.catalogue in
    let file = (g.D.Disk.state c.args.disk.now).bytes in
    let t = walked.tagged in
    let arm = (goal.at.returns-in_err-ahead-clause-tells g c).In-Some in
    subst (λ (r : Result (Option Resumable) Broken). TellsTree sizes catalogue c.walk_output.new.space c.walk_output.new.guides file r)
    (sym (handed_on c.from_residual.ensures.1))
    (departed_told sizes catalogue c.in-Some.progress c.new.result c.args.space.now c.walk_output.new.space c.walk_output.new.guides file
    c.in_err-ahead.field-0.0 c.in-Some.is walked
    (c.in_err-ahead.ensures.tells (numbers_of t.c1 ++ numbers_of t.c1x ++ numbers_of t.c2) (entries_of t.c1x) (entries_of t.c2) honest walked.takes
    (list g arm walked) (below g arm walked)))

pub returns-in_err-ahead-clause-rooms : goal.returns-in_err-ahead-clause-rooms
returns-in_err-ahead-clause-rooms g c = subst (λ r. KeepsRooms r c.args.guides.now c.walk_output.new.guides) c.new.ensures c.walk_output.ensures.rooms

pub returns-in_err-ahead-clause-reads : goal.returns-in_err-ahead-clause-reads
returns-in_err-ahead-clause-reads g c =
    reads_handed (handed_on c.from_residual.ensures.1) c.in_err-ahead.was
    (reads_wider (few g (goal.at.returns-in_err-ahead-clause-reads g c).In-Some) c.walk_output.ensures.reads)

pub returns-clause-tags : goal.returns-clause-tags
returns-clause-tags g c =
    read_more c.args.head.now.geometry c.args.head.now.catalogue c.args.space.now c.walk_output.new.space c.requires.read
    (taken_as c.new.result first_tags.deep _ _ _ c.new.ensures
    (named_free c.new.result c.args.head.now.catalogue c.in-Some.progress c.args.space.now c.walk_output.new.space c.in-Some.is
    c.in_ok-ahead.ensures.taken))

pub returns-clause-ahead : goal.returns-clause-ahead
returns-clause-ahead g c = (
  c.in-Some.progress,
  c.in-Some.is,
  subst (λ r. MayResume r c.in-Some.progress (c.args.head.now.catalogue.c1x.weight + c.args.head.now.catalogue.c2.weight) c.in_ok-ahead.ahead)
      c.new.ensures
      c.in_ok-ahead.ensures.resumes,
)

pub returns-clause-stands : goal.returns-clause-stands
returns-clause-stands g c = λ below.
    subst (λ r. IsAheadOn c.args.head.now.geometry (g.D.Disk.state c.args.disk.now).is_honest (g.D.Disk.state c.args.disk.now).bytes
    c.walk_output.new.space r (guide_at c.walk_output.new.guides r) (Some c.in_ok-ahead.ahead)) c.new.ensures
    (c.in_ok-ahead.ensures.finished (omega (arith, below, c.new.ensures)))

pub returns-clause-tells : goal.returns-clause-tells
returns-clause-tells g c = λ honest walked.
    let sizes = c.args.head.now.geometry in
    let catalogue = c.args.head.now.catalogue in
    let file = (g.D.Disk.state c.args.disk.now).bytes in
    let t = walked.tagged in
    let arm = (goal.at.returns-clause-tells g c).In-Some in
    let live = numbers_of t.c1 ++ numbers_of t.c1x ++ numbers_of t.c2 in
    let space = c.args.space.now in
    let one_tag = c.requires.read.one_tag in
    let role = sym c.new.ensures in
    let newer = subst (λ r. AreElsewhere space r t.c1x) role
    (elsewhere space 1 t.c1x live one_tag (λ e. omega (arith, e)) t.c1x_tag walked.takes
    (λ k has. Contains-append_left (numbers_of t.c1 ++ numbers_of t.c1x) (numbers_of t.c2) k
    (Contains-append_right (numbers_of t.c1) (numbers_of t.c1x) k has))) in
    let older = subst (λ r. AreElsewhere space r t.c2) role
    (elsewhere space 2 t.c2 live one_tag (λ e. omega (arith, e)) t.c2_tag walked.takes
    (λ k has. Contains-append_right (numbers_of t.c1 ++ numbers_of t.c1x) (numbers_of t.c2) k has)) in
    let told = subst (λ r. output.IsWalked sizes c.in-Some.progress (entries_of t.c1x) (entries_of t.c2) live r space c.walk_output.new.space file)
    c.new.ensures
    (c.in_ok-ahead.ensures.tells live (entries_of t.c1x) (entries_of t.c2) honest walked.takes (list g arm walked) (below g arm walked)) in
    read_named sizes catalogue c.in-Some.progress space c.walk_output.new.space c.walk_output.new.guides c.in_ok-ahead.ahead file c.in-Some.is
    (λ other differs. c.in_ok-ahead.ensures.taken.others other (λ same. differs (same ∙ c.new.ensures))) walked told
    (λ are. subst (λ r. ResumesOver sizes file c.walk_output.new.space r (guide_at c.walk_output.new.guides r) (numbers_of t.c1x) (numbers_of t.c2)
    (entries_of t.c1x) (entries_of t.c2) c.in_ok-ahead.ahead) c.new.ensures
    (c.in_ok-ahead.ensures.over live (entries_of t.c1x) (entries_of t.c2) honest
    (omega (arith, are.five, c.walk_output.ensures.rooms.many, c.new.ensures)) walked.takes (list g arm walked) newer (below g arm walked) older))

pub returns-clause-rooms : goal.returns-clause-rooms
returns-clause-rooms g c = subst (λ r. KeepsRooms r c.args.guides.now c.walk_output.new.guides) c.new.ensures c.walk_output.ensures.rooms

pub returns-clause-once : goal.returns-clause-once
returns-clause-once g c = omega (arith, c.in_ok-ahead.ensures.once, ap (calls_of_output c.args.head.now.catalogue) c.in-Some.is)

pub returns-clause-reads : goal.returns-clause-reads
returns-clause-reads g c =
    reads_calm (ok_is_calm refl) (ok_is_calm c.in_ok-ahead.was)
    (reads_wider (few g (goal.at.returns-clause-reads g c).In-Some) c.walk_output.ensures.reads)
