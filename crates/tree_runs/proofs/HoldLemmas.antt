-- What the components and the merges keep when a seat pins other pages.
use Rattle.std.specs.Prelude.{◌≡◌, ◌≢◌, ◌⊎◌, ℕ, ◌+◌, ◌<◌, ◌≤◌, Bool, List, [], ◌++◌, map, Option, None, Some, slice_index_or}
use Rattle.std.proofs.lemmas.Grind.{common_steps}
use Rattle.std.proofs.lemmas.Bool.Decides.{nat_tests}
use Rattle.std.specs.List.{Contains}
use Rattle.std.proofs.Common.{⊎_elim, inl, inr, sym, subst, ap, ◌∙◌, arith}
use Rattle.std.proofs.lemmas.Bool.{cases_eq, true≢false}
use Rattle.std.proofs.lemmas.List.Elements.{Contains-append_cases}
use Rattle.disk_trait.specs.Region.{nowhere}
use Rattle.disk_trait.proofs.RegionLemmas.{same_file}
use Rattle.blsm_model.specs.Geometry.{capacity}
use Rattle.blsm_model.specs.Sizes.{Sizes}
use Rattle.blsm_model.specs.declared.component.Component.{Component}
use Rattle.blsm_model.specs.declared.key.Key.{Key}
use Rattle.blsm_model.specs.declared.row.Row.{Row}
use Rattle.bloom_bits.specs.declared.fences.Fence.{Fence}
use Rattle.bloom_bits.specs.Parts.{last_fences}
use Rattle.record_delta.specs.Entries.{Entries, replayed}
use Rattle.page_space.specs.PageSet.{Members, IsIn, none_of, size}
use Rattle.page_space.specs.Space.{SpaceState, HasRole, IsPinnedBy, IsSpace, KeepsOtherPins, pin_size, pins_of, role_size, seat_count}
use Rattle.scan_view.specs.Hold.{HoldState, HasRows, pages_held}
use Rattle.scan_view.specs.Pins.{IsUnpinned, HasHeld, Pins}
use Rattle.snow_merge.specs.Pass.{SnowState}
use Rattle.tree_file.specs.Tree.{Tree}
use Rattle.tree_runs.specs.Runs.{RunsState, AreRuns, AreRunning, PassHasTag, PassRuns, PinsOfPass, fences_of_tag, finished_by_pass, front_of, guide_at, hold_share}
use Rattle.tree_runs.specs.Holding.{AreOf, HoldFits, IsFrontFrom, IsNamed, IsOfParts, PinsFor, PinsParts}
use Rattle.tree_runs.proofs.FinishedLemmas.{finished_still}
use Rattle.tree_runs.proofs.PartLemmas.{share_of}
use Rattle.tree_runs.proofs.PinLemmas.{pins_fewer}
use Rattle.tree_runs.proofs.SourceLemmas.{finished_closed}
use Rattle.tree_runs.proofs.KeptMerges.{KeepsRun, KeepsPages, pass_runs_still, deep_runs_still, pass_over_still, deep_over_still}
use Rattle.tree_runs.proofs.BesideLemmas.{tag_of_pass, tag_of_deep, pass_has_it, deep_has_it}

-- The same pages have each tag; no run that is written has a pinned one, and no seat pins more than its share.
pub record Repinned (runs : RunsState) (after : SpaceState) : Type 0 where
  pub roles : after.roles ≡ runs.space.roles
  pub pages : after.pages ≡ runs.space.pages
  pub shape : IsSpace after
  pub open_unpinned : PinsOfPass after runs.pass
  pub deep_unpinned : IsUnpinned after runs.tags.deep
  pub share : (seat : ℕ) → seat < seat_count → pin_size after seat ≤ hold_share runs.sizes

has_then : (old after : SpaceState) → after.roles ≡ old.roles → (tag n : ℕ) → HasRole after tag n → HasRole old tag n
has_then old after roles tag n has = subst (λ (sets : List Members). IsIn (slice_index_or sets tag []) n) roles has

has_now : (old after : SpaceState) → after.roles ≡ old.roles → (tag n : ℕ) → HasRole old tag n → HasRole after tag n
has_now old after roles tag n has = subst (λ (sets : List Members). IsIn (slice_index_or sets tag []) n) (sym roles) has

size_now : (old after : SpaceState) → after.roles ≡ old.roles → (tag : ℕ) → role_size after tag ≡ role_size old tag
size_now old after roles tag = ap (λ (sets : List Members). size (slice_index_or sets tag [])) roles

keeps_run : {honest : Bool} (file : List ℕ) (sizes : Sizes) (old after : SpaceState) (tag : ℕ) → after.roles ≡ old.roles → KeepsRun sizes honest nowhere file file old after tag
keeps_run file sizes old after tag roles = record { no_more = has_then old after roles tag; tagged = has_now old after roles tag; same = λ told. same_file nowhere file; apart = λ i here. absurd here }

keeps_pages : (sizes : Sizes) (old after : SpaceState) (tag : ℕ) → after.roles ≡ old.roles → KeepsPages sizes old after nowhere tag
keeps_pages sizes old after tag roles = record { tagged = has_now old after roles tag; apart = λ i here. absurd here }

runs_repinned : (runs : RunsState) (after : SpaceState) → Repinned runs after → AreRuns runs → AreRuns (record runs { space = after })
runs_repinned runs after is are = record {
  geometry = are.geometry;
  pages = is.pages ∙ are.pages;
  shape = is.shape;
  tags = are.tags;
  one_tag = λ page one other has also. are.one_tag page one other (has_then runs.space after is.roles one page has) (has_then runs.space after is.roles other page also);
  c1 = record { filled = are.c1.filled; size = size_now runs.space after is.roles runs.tags.c1 ∙ are.c1.size };
  c1x = record { filled = are.c1x.filled; size = size_now runs.space after is.roles runs.tags.c1x ∙ are.c1x.size };
  c2 = record { filled = are.c2.filled; size = size_now runs.space after is.roles runs.tags.c2 ∙ are.c2.size };
  pass = record { filled = are.pass.filled; size = size_now runs.space after is.roles runs.tags.pass ∙ are.pass.size };
  deep = record { filled = are.deep.filled; size = size_now runs.space after is.roles runs.tags.deep ∙ are.deep.size };
  pass_tag = are.pass_tag;
  deep_tag = are.deep_tag;
  rests = are.rests;
  open_unpinned = is.open_unpinned;
  deep_unpinned = is.deep_unpinned;
  within = record {
    roles = omega (arith, size_now runs.space after is.roles 0, size_now runs.space after is.roles 1, size_now runs.space after is.roles 2, size_now runs.space after is.roles 3, size_now runs.space after is.roles 4, are.within.roles);
    seats = is.share;
  };
  guides = are.guides;
}

pub running_repinned : (runs : RunsState) (after : SpaceState) → Repinned runs after → (honest : Bool) (file : List ℕ) → AreRunning honest file runs
    → AreRunning honest file (record runs { space = after })
running_repinned runs after is honest file running = record {
  in_order = runs_repinned runs after is running.in_order;
  pass = pass_runs_still runs.tags.pass (guide_at runs.guides runs.tags.pass) runs.pass (keeps_run file runs.sizes runs.space after runs.tags.pass is.roles) running.in_order.pass_tag running.pass;
  deep = deep_runs_still runs.tags.deep (guide_at runs.guides runs.tags.deep) runs.deep (keeps_run file runs.sizes runs.space after runs.tags.deep is.roles) running.in_order.deep_tag running.deep;
}

pub lists_repinned : (runs : RunsState) (after : SpaceState) → after.roles ≡ runs.space.roles → (tree : Tree) (file : List ℕ) → AreOf runs tree file
    → AreOf (record runs { space = after }) tree file
lists_repinned runs after roles tree file of = record {
  holds = of.holds;
  catalogue = of.catalogue;
  c1 = λ n has. has_now runs.space after roles runs.tags.c1 n (of.c1 n has);
  c1x = λ n has. has_now runs.space after roles runs.tags.c1x n (of.c1x n has);
  c2 = λ n has. has_now runs.space after roles runs.tags.c2 n (of.c2 n has);
  pass = pass_over_still (guide_at runs.guides runs.tags.pass) runs.pass (replayed tree.lane_a.entries) tree.c1
      (keeps_run file runs.sizes runs.space after (tag_of_pass runs.pass) roles) (keeps_pages runs.sizes runs.space after runs.tags.c1 roles) (pass_has_it runs.pass) of.c1 of.pass;
  deep = deep_over_still (guide_at runs.guides runs.tags.deep) runs.deep tree.c1x tree.c2 (keeps_run file runs.sizes runs.space after (tag_of_deep runs.deep) roles)
      (keeps_pages runs.sizes runs.space after runs.tags.c1x roles) (keeps_pages runs.sizes runs.space after runs.tags.c2 roles) (deep_has_it runs.deep) of.c1x of.c2 of.deep;
  guided = of.guided;
  output = finished_still runs.space after (tag_of_deep runs.deep) runs.deep tree.output (deep_has_it runs.deep) (λ n has. has_now runs.space after roles (tag_of_deep runs.deep) n has) of.output;
}

-- ---- a hold's pins

-- a seat that pins the pages of three components pins none of a fourth tag, and the others pin what they did
pinned_by_others : (runs : RunsState) (after : SpaceState) (seat tag : ℕ) → AreRuns runs → Pins seat runs.tags.c1 runs.tags.c1x runs.tags.c2 runs.space after
    → runs.tags.c1 ≢ tag → runs.tags.c1x ≢ tag → runs.tags.c2 ≢ tag → (other page : ℕ) → IsPinnedBy after other page → HasRole runs.space tag page → IsPinnedBy runs.space other page
pinned_by_others runs after seat tag are pins not_c1 not_c1x not_c2 other page pinned had =
    elim (cases_eq other seat) [
      | inl same ↦ absurd (⊎_elim (λ first. not_c1 (are.one_tag page runs.tags.c1 tag first had))
          (⊎_elim (λ second. not_c1x (are.one_tag page runs.tags.c1x tag second had)) (λ third. not_c2 (are.one_tag page runs.tags.c2 tag third had)))
          ((pins.pinned page).0 (subst (λ (s : ℕ). IsPinnedBy after s page) same pinned)))
      | inr differs ↦ subst (λ (set : Members). IsIn set page) (pins.others other differs) pinned
    ]

unpinned_by : (runs : RunsState) (after : SpaceState) (seat tag : ℕ) → AreRuns runs → Pins seat runs.tags.c1 runs.tags.c1x runs.tags.c2 runs.space after
    → runs.tags.c1 ≢ tag → runs.tags.c1x ≢ tag → runs.tags.c2 ≢ tag → IsUnpinned runs.space tag → IsUnpinned after tag
unpinned_by runs after seat tag are pins not_c1 not_c1x not_c2 free other page pinned has =
    let had : HasRole runs.space tag page = subst (λ (sets : List Members). IsIn (slice_index_or sets tag []) page) pins.roles has in
    free other page (pinned_by_others runs after seat tag are pins not_c1 not_c1x not_c2 other page pinned had) had

pub held_repinned : (runs : RunsState) (after : SpaceState) (seat : ℕ) → AreRuns runs → runs.catalogue.c1.weight + runs.catalogue.c1x.weight + runs.catalogue.c2.weight ≤ capacity runs.sizes
    → Pins seat runs.tags.c1 runs.tags.c1x runs.tags.c2 runs.space after → Repinned runs after
held_repinned runs after seat are live pins = record {
  roles = pins.roles;
  pages = pins.pages;
  shape = pins.shape;
  open_unpinned = pins_fewer runs.space after runs.tags.pass runs.pass are.pass_tag pins.roles
      (pinned_by_others runs after seat runs.tags.pass are pins are.tags.c1_pass are.tags.c1x_pass are.tags.c2_pass) are.open_unpinned;
  deep_unpinned = unpinned_by runs after seat runs.tags.deep are pins are.tags.c1_deep are.tags.c1x_deep are.tags.c2_deep are.deep_unpinned;
  share = λ other below.
      elim (cases_eq other seat) [
        | inl same ↦ omega (arith, ap {B = ℕ} (λ (s : ℕ). pin_size after s) same, pins.size, share_of runs are live, are.c1.size, are.c1x.size, are.c2.size)
        | inr differs ↦ omega (arith, ap {B = ℕ} (λ (set : Members). size set) (pins.others other differs), are.within.seats other below)
      ];
}

-- Where it pins parts of what is finished and of C1: on any disk the fences of the pass's run name closed pages of it, and a page that is pinned as C1's has its
-- tag.
module _ (runs : RunsState) (after : SpaceState) (seat : ℕ) (front c1 : Component) (are : AreRuns runs) (pins : PinsParts seat front c1 runs after) where
  -- what the seat pins of a tag that isn't C1's, C1''s or C2's is of the finished pages; the others pin what they did
  pinned_cases : (tag : ℕ) → runs.tags.c1 ≢ tag → runs.tags.c1x ≢ tag → runs.tags.c2 ≢ tag → (other page : ℕ) → IsPinnedBy after other page → HasRole runs.space tag page
      → IsNamed runs.space runs.tags.pass (last_fences (front_of (finished_by_pass runs.pass)) front (fences_of_tag runs runs.tags.pass).list) page
      ⊎ IsPinnedBy runs.space other page
  pinned_cases tag not_c1 not_c1x not_c2 other page pinned had =
      elim (cases_eq other seat) [
        | inl same ↦
            ⊎_elim
            (λ tagged. absurd (⊎_elim (λ second. not_c1x (are.one_tag page runs.tags.c1x tag second had)) (λ third. not_c2 (are.one_tag page runs.tags.c2 tag third had)) tagged))
            (λ named. ⊎_elim (λ finished. inl finished) (λ (older : IsNamed runs.space runs.tags.c1 (last_fences runs.catalogue.c1 c1 (fences_of_tag runs runs.tags.c1).list) page).
            absurd (not_c1 (are.one_tag page runs.tags.c1 tag older.1 had))) named)
            ((pins.pinned page).0 (subst (λ (s : ℕ). IsPinnedBy after s page) same pinned))
        | inr differs ↦ inr (subst (λ (set : Members). IsIn set page) (pins.others other differs) pinned)
      ]

  deep_unpinned_still : IsUnpinned after runs.tags.deep
  deep_unpinned_still other page pinned has =
      let had = has_then runs.space after pins.roles runs.tags.deep page has in
      ⊎_elim (λ (named : IsNamed runs.space runs.tags.pass (last_fences (front_of (finished_by_pass runs.pass)) front (fences_of_tag runs runs.tags.pass).list) page).
      are.tags.pass_deep (are.one_tag page runs.tags.pass runs.tags.deep named.1 had))
      (λ was. are.deep_unpinned other page was had) (pinned_cases runs.tags.deep are.tags.c1_deep are.tags.c1x_deep are.tags.c2_deep other page pinned had)

  open_unpinned_still : (honest : Bool) (file : List ℕ) (pass : Option SnowState) → PassHasTag runs.tags.pass pass → PinsOfPass runs.space pass
      → PassRuns runs.sizes honest file runs.space (guide_at runs.guides runs.tags.pass) pass → front.pages ≤ (front_of (finished_by_pass pass)).pages
      → ((other page : ℕ) → IsPinnedBy after other page → HasRole runs.space runs.tags.pass page
      → IsNamed runs.space runs.tags.pass (last_fences (front_of (finished_by_pass pass)) front (fences_of_tag runs runs.tags.pass).list) page ⊎ IsPinnedBy runs.space other page)
      → PinsOfPass after pass
  open_unpinned_still honest file None tag was runs_on few cases = tt
  open_unpinned_still honest file (Some snow) tag was runs_on few cases = λ other page pinned has.
      let had : HasRole runs.space snow.writer.role page = has_then runs.space after pins.roles snow.writer.role page has in
      ⊎_elim
      (λ (named : IsNamed runs.space runs.tags.pass (last_fences (front_of (finished_by_pass (Some snow))) front (fences_of_tag runs runs.tags.pass).list) page).
      (has, (finished_closed runs.sizes honest file runs.space snow (guide_at runs.guides runs.tags.pass) runs_on.run.out front runs_on.run.pushed few page named.0).1))
      (λ before. (has, (was other page before had).1))
      (cases other page pinned (subst (λ (r : ℕ). HasRole runs.space r page) tag had))

  pub parts_repinned : front.pages ≤ (front_of (finished_by_pass runs.pass)).pages
      → front.pages + c1.pages + runs.catalogue.c1x.pages + runs.catalogue.c2.pages ≤ hold_share runs.sizes
      → (honest : Bool) (file : List ℕ) → AreRunning honest file runs → Repinned runs after
  parts_repinned few share honest file running = record {
    roles = pins.roles;
    pages = pins.pages;
    shape = pins.shape;
    open_unpinned = open_unpinned_still honest file runs.pass are.pass_tag are.open_unpinned running.pass few
        (pinned_cases runs.tags.pass are.tags.c1_pass are.tags.c1x_pass are.tags.c2_pass);
    deep_unpinned = deep_unpinned_still;
    share = λ other below.
        elim (cases_eq other seat) [
          | inl same ↦ omega (arith, ap {B = ℕ} (λ (s : ℕ). pin_size after s) same, pins.size, share, are.c1x.size, are.c2.size)
          | inr differs ↦ omega (arith, ap {B = ℕ} (λ (set : Members). size set) (pins.others other differs), are.within.seats other below)
        ];
  }

-- so it is by any floor
pub sources_repinned : (runs : RunsState) (after : SpaceState) (seat : ℕ) (a : Entries) (floor : Option Key) (front c1 : Component) → AreRuns runs → HoldFits runs a
    → PinsFor floor seat front c1 runs after → front.pages ≤ (front_of (finished_by_pass runs.pass)).pages
    → front.pages + c1.pages + runs.catalogue.c1x.pages + runs.catalogue.c2.pages ≤ hold_share runs.sizes
    → (honest : Bool) (file : List ℕ) → AreRunning honest file runs → Repinned runs after
sources_repinned runs after seat a None front c1 are fits pins few share honest file running = held_repinned runs after seat are fits.live pins
sources_repinned runs after seat a (Some floor) front c1 are fits pins few share honest file running =
    parts_repinned runs after seat front c1 are pins few share honest file running

-- what stays of the map whatever the floor is
pub record KeepsMap (seat : ℕ) (old new : SpaceState) : Type 0 where
  pub others : KeepsOtherPins seat old new
  pub roles : new.roles ≡ old.roles
  pub pages : new.pages ≡ old.pages

pub sources_keep : (floor : Option Key) (seat : ℕ) (front c1 : Component) (runs : RunsState) (after : SpaceState) → PinsFor floor seat front c1 runs after
    → KeepsMap seat runs.space after
sources_keep None seat front c1 runs after pins = record { others = pins.others; roles = pins.roles; pages = pins.pages }
sources_keep (Some floor) seat front c1 runs after pins = record { others = pins.others; roles = pins.roles; pages = pins.pages }

-- the rows of a hold whose pages are these, which the seat pins
pub rows_pinned : (sizes : Sizes) (pins : List Members) (seat : ℕ) (rows : List Row) (file : List ℕ) (numbers : List ℕ) (hold : HoldState)
    → (has : HasRows sizes hold rows file) × (pages_held has ≡ numbers)
    → ((page : ℕ) → Contains numbers page → IsIn (slice_index_or pins seat []) page) → HasHeld sizes pins seat (Some hold) (Some rows) file
rows_pinned sizes pins seat rows file numbers hold has pinned =
    record { has = has.0; pinned = λ page among. pinned page (subst (λ (ns : List ℕ). Contains ns page) has.1 among) }

-- The pages that it reads are pinned: those of a front and of C1 that the fences name, and those of C1' and C2.
pub sources_pinned : (runs : RunsState) (after : SpaceState) (seat : ℕ) (floor : Option Key) (low : Key) (front c1 : Component) → IsFrontFrom runs floor low front
    → PinsFor floor seat front c1 runs after → (fs os xs ys : List ℕ)
    → ((n : ℕ) → Contains fs n
    → IsNamed runs.space runs.tags.pass (last_fences (front_of (finished_by_pass runs.pass)) front (fences_of_tag runs runs.tags.pass).list) n)
    → ((n : ℕ) → Contains os n → IsNamed runs.space runs.tags.c1 (last_fences runs.catalogue.c1 c1 (fences_of_tag runs runs.tags.c1).list) n)
    → ((n : ℕ) → Contains xs n → HasRole runs.space runs.tags.c1x n) → ((n : ℕ) → Contains ys n → HasRole runs.space runs.tags.c2 n)
    → (n : ℕ) → Contains (fs ++ os ++ xs ++ ys) n → IsPinnedBy after seat n
sources_pinned runs after seat floor low front c1 from pins fs os xs ys of_front of_c1 of_c1x of_c2 n has =
    by floor from pins (four (Contains-append_cases (fs ++ os ++ xs) ys n has))
  where
    two : Contains fs n ⊎ Contains os n → IsOfParts runs front c1 n
    two (inl first) = inr (inl (of_front n first))
    two (inr second) = inr (inr (of_c1 n second))

    three : Contains (fs ++ os) n ⊎ Contains xs n → IsOfParts runs front c1 n
    three (inl before) = two (Contains-append_cases fs os n before)
    three (inr third) = inl (inl (of_c1x n third))

    four : Contains (fs ++ os ++ xs) n ⊎ Contains ys n → IsOfParts runs front c1 n
    four (inl before) = three (Contains-append_cases (fs ++ os) xs n before)
    four (inr last) = inl (inr (of_c2 n last))

    none : (k : ℕ) → Contains {X = ℕ} [] k → ⊥
    none k here = omega (arith, here.1)

    no_front : IsFrontFrom runs None low front → IsNamed runs.space runs.tags.pass (last_fences (front_of (finished_by_pass runs.pass)) front (fences_of_tag runs runs.tags.pass).list) n → ⊥
    no_front (inr some) named = true≢false some.0
    no_front (inl is) named =
        none n (subst (λ (c : Component). Contains (map (λ (f : Fence). f.page) (last_fences (front_of (finished_by_pass runs.pass)) c (fences_of_tag runs runs.tags.pass).list)) n) is.1 named.0)

    by : (at : Option Key) → IsFrontFrom runs at low front → PinsFor at seat front c1 runs after → IsOfParts runs front c1 n → IsPinnedBy after seat n
    by None is pinned (inl (inl second)) = (pinned.pinned n).1 (inr (inl second))
    by None is pinned (inl (inr third)) = (pinned.pinned n).1 (inr (inr third))
    by None is pinned (inr (inl named)) = absurd (no_front is named)
    by None is pinned (inr (inr named)) = (pinned.pinned n).1 (inl named.1)
    by (Some key) is pinned one = (pinned.pinned n).1 one

-- ---- a hold that is dropped

-- what `unpin` ensures
pub record Unpins (seat : ℕ) (old new : SpaceState) : Type 0 where
  pub this : pins_of new seat ≡ none_of old.pages
  pub others : KeepsOtherPins seat old new
  pub roles : new.roles ≡ old.roles
  pub pages : new.pages ≡ old.pages
  pub shape : IsSpace new
  pub size : pin_size new seat ≡ 0

pinned_without : (old new : SpaceState) (seat other page : ℕ) → Unpins seat old new → IsPinnedBy new other page → IsPinnedBy old other page
pinned_without old new seat other page drops pinned = grind (arith, common_steps, nat_tests)

unpinned_without : (old new : SpaceState) (seat tag : ℕ) → Unpins seat old new → IsUnpinned old tag → IsUnpinned new tag
unpinned_without old new seat tag drops free other page pinned has = grind (arith, common_steps, nat_tests)

pub dropped_repinned : (runs : RunsState) (after : SpaceState) (seat : ℕ) → AreRuns runs → Unpins seat runs.space after → Repinned runs after
dropped_repinned runs after seat are drops = record {
  roles = drops.roles;
  pages = drops.pages;
  shape = drops.shape;
  open_unpinned = pins_fewer runs.space after runs.tags.pass runs.pass are.pass_tag drops.roles (λ other page pinned had. pinned_without runs.space after seat other page drops pinned) are.open_unpinned;
  deep_unpinned = unpinned_without runs.space after seat runs.tags.deep drops are.deep_unpinned;
  share = λ other below.
      elim (cases_eq other seat) [
        | inl same ↦ omega (arith, ap {B = ℕ} (λ (s : ℕ). pin_size after s) same, drops.size)
        | inr differs ↦ omega (arith, ap {B = ℕ} (λ (set : Members). size set) (drops.others other differs), are.within.seats other below)
      ];
}
