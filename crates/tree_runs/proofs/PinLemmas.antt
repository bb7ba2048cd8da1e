-- The pages that seats pin: no run that is written has one, and nothing is written there.
use Rattle.std.specs.Prelude.{◌≡◌, ◌≢◌, ℕ, ◌<◌, Bool, List, [], Option, Some, None, slice_index_or}
use Rattle.std.proofs.lemmas.Grind.{common_steps}
use Rattle.std.proofs.lemmas.Bool.Decides.{nat_tests}
use Rattle.std.proofs.Common.{◌∙◌, sym, subst, inl, ⊎_elim, arith}
use Rattle.disk_trait.specs.Region.{IsWithin}
use Rattle.blsm_model.specs.Sizes.{Sizes, IsGeometry}
use Rattle.blsm_model.specs.Lanes.{AreRoles}
use Rattle.catalog_swap.specs.declared.catalog.Catalog.{Catalog}
use Rattle.page_space.specs.PageSet.{Members, IsIn}
use Rattle.blsm_model.specs.declared.component.Component.{Component}
use Rattle.page_space.specs.Space.{SpaceState, HasRole, IsPinnedBy, IsSpace, pin_size, seat_count}
use Rattle.run_writer.specs.Closed.{IsClosedPage}
use Rattle.run_writer.specs.Writer.{role_region}
use Rattle.run_writer.proofs.RegionLemmas.{closed_page_apart, open_tagged}
use Rattle.page_file.proofs.PageLemmas.{others_apart}
use Rattle.merge_ends.specs.Output.{TakesPages}
use Rattle.merge_ends.specs.Quantum.{grown_region}
use Rattle.snow_merge.specs.Pass.{SnowState, started}
use Rattle.tree_runs.specs.Runs.{AreRunning, PassHasTag, PassRuns, PinsOfPass, RunsState, guide_at}
use Rattle.tree_runs.specs.Writing.{open_of_pass}
use Rattle.scan_view.specs.Pins.{IsUnpinned, beside_pins}
use Rattle.tree_runs.specs.Holding.{commit_region}
use Rattle.tree_runs.proofs.ReleasedTags.{Released, none_has, has_before}
use Rattle.tree_runs.proofs.Terms.{swap_region}

-- ---- no run that is written has one

still_pinned : {role : ℕ} {old new : SpaceState} → Released role old new → (seat page : ℕ) → IsPinnedBy new seat page → IsPinnedBy old seat page
still_pinned is seat page pinned = subst (λ (pins : List Members). IsIn (slice_index_or pins seat []) page) is.pins pinned

pub unpinned_still : {role : ℕ} {old new : SpaceState} (tag : ℕ) → Released role old new → IsUnpinned old tag → IsUnpinned new tag
unpinned_still tag is free seat page pinned has = free seat page (still_pinned is seat page pinned) (has_before is tag page has)

pub released_unpinned : {role : ℕ} {old new : SpaceState} → Released role old new → IsUnpinned new role
released_unpinned {role} {old} {new} is seat page pinned has = none_has old.pages page _ is.this has

pub none_pinned : (space : SpaceState) (tag : ℕ) → IsSpace space → ((seat : ℕ) → seat < seat_count → pin_size space seat ≡ 0) → IsUnpinned space tag
none_pinned space tag shape none seat page pinned has = grind (arith, common_steps, nat_tests)

-- ---- of the pass's run the closed pages alone

pinned_before : (old new : SpaceState) → new.pins ≡ old.pins → (seat page : ℕ) → IsPinnedBy new seat page → IsPinnedBy old seat page
pinned_before old new same seat page pinned = subst (λ (pins : List Members). IsIn (slice_index_or pins seat []) page) same pinned

-- a run that begins has no open page
pub pins_begun : (space : SpaceState) (role : ℕ) (c1 : Component) → PinsOfPass space (Some (started role c1))
pins_begun space role c1 = λ seat page pinned has. (has, λ some. absurd (omega (arith, some)))

pub pins_still : {role : ℕ} {old new : SpaceState} (pass : Option SnowState) → Released role old new → PinsOfPass old pass → PinsOfPass new pass
pins_still None is free = tt
pins_still (Some snow) is free = λ seat page pinned has. (has, (free seat page (still_pinned is seat page pinned) (has_before is snow.writer.role page has)).1)

-- where the run takes pages, which were free
pub pins_on : (old new : SpaceState) (snow next : SnowState) → next.writer.role ≡ snow.writer.role → TakesPages snow.writer.role old new
    → ((n : ℕ) → IsClosedPage old snow.writer n → IsClosedPage new next.writer n) → PinsOfPass old (Some snow) → PinsOfPass new (Some next)
pins_on old new snow next same takes still free = λ seat page pinned has.
    let before = pinned_before old new takes.pins seat page pinned in
    still page
    (⊎_elim (λ had. free seat page before had) (λ was_free. absurd (was_free.no_pin seat before))
    (takes.only_free page (subst (λ (r : ℕ). HasRole new r page) same has)))

-- where another run takes them
pub pins_beside : (old new : SpaceState) (role tag : ℕ) (pass : Option SnowState) → PassHasTag tag pass → tag ≢ role → TakesPages role old new → PinsOfPass old pass → PinsOfPass new pass
pins_beside old new role tag None tagged differs takes free = tt
pins_beside old new role tag (Some snow) tagged differs takes free = λ seat page pinned has.
    let had : HasRole old snow.writer.role page =
    subst (λ (set : Members). IsIn set page) (takes.others snow.writer.role (λ same. differs (sym tagged ∙ same))) has in
    (has, (free seat page (pinned_before old new takes.pins seat page pinned) had).1)

-- where the seats' pins change, of those of pages with the tag some go away at most
pub pins_fewer : (old new : SpaceState) (tag : ℕ) (pass : Option SnowState) → PassHasTag tag pass → new.roles ≡ old.roles
    → ((seat page : ℕ) → IsPinnedBy new seat page → HasRole old tag page → IsPinnedBy old seat page) → PinsOfPass old pass → PinsOfPass new pass
pins_fewer old new tag None tagged roles fewer free = tt
pins_fewer old new tag (Some snow) tagged roles fewer free = λ seat page pinned has.
    let had : HasRole old snow.writer.role page = subst (λ (sets : List Members). IsIn (slice_index_or sets snow.writer.role []) page) roles has in
    (has, (free seat page (fewer seat page pinned (subst (λ (r : ℕ). HasRole old r page) tagged had)) had).1)

-- ---- nothing is written there

-- where the pass's run grows
pub grown_beside : (sizes : Sizes) (old new : SpaceState) (snow : SnowState) → TakesPages snow.writer.role old new → PinsOfPass old (Some snow)
    → IsWithin (grown_region sizes old new snow.writer) (beside_pins sizes old.pins)
grown_beside sizes old new snow takes free i here pinned =
    others_apart sizes here.0.0 pinned.1
    (λ is.
    let pin : IsPinnedBy old pinned.0 here.0.0 = subst (λ (n : ℕ). IsIn (slice_index_or old.pins pinned.0 []) n) (sym is) pinned.2 in
    ⊎_elim
    (λ had. closed_page_apart sizes old snow.writer here.0.0 (free pinned.0 here.0.0 pin had) i here.1 here.0.2)
    (λ was_free. was_free.no_pin pinned.0 pin)
    (takes.only_free here.0.0 here.0.1))
    i here.0.2 pinned.3

-- and where it ends
pub open_beside : (sizes : Sizes) (space : SpaceState) (tag : ℕ) (pass : Option SnowState) → PassHasTag tag pass → IsWithin (open_of_pass sizes pass) (role_region sizes space tag)
    → PinsOfPass space pass → IsWithin (open_of_pass sizes pass) (beside_pins sizes space.pins)
open_beside sizes space tag None tagged inside free i here pinned = absurd here
open_beside sizes space tag (Some snow) tagged inside free i here pinned =
    let there = subst (λ (r : ℕ). role_region sizes space r i) (sym tagged) (inside i here) in
    others_apart sizes there.0 pinned.1
    (λ is.
    let pin : IsPinnedBy space pinned.0 there.0 = subst (λ (n : ℕ). IsIn (slice_index_or space.pins pinned.0 []) n) (sym is) pinned.2 in
    closed_page_apart sizes space snow.writer there.0 (free pinned.0 there.0 pin there.1) i (inl here) there.2)
    i there.2 pinned.3

pub run_beside : (sizes : Sizes) (space : SpaceState) (tag : ℕ) → IsUnpinned space tag → IsWithin (role_region sizes space tag) (beside_pins sizes space.pins)
run_beside sizes space tag free i run pinned = grind (arith, common_steps, nat_tests)

pub commit_beside : (sizes : Sizes) (pins : List Members) (now : Catalog) → IsGeometry sizes → AreRoles now.lanes → IsWithin (commit_region sizes now) (beside_pins sizes pins)
commit_beside sizes pins now geometry roles i here = grind (arith, common_steps, nat_tests)

pub swap_beside : (sizes : Sizes) (space : SpaceState) (tag : ℕ) (now : Catalog) → IsGeometry sizes → AreRoles now.lanes → IsUnpinned space tag
    → IsWithin (swap_region sizes space tag now) (beside_pins sizes space.pins)
swap_beside sizes space tag now geometry roles free i here = grind (arith, common_steps, nat_tests)

pub pass_beside : {honest : Bool} {file : List ℕ} (runs : RunsState) → AreRunning honest file runs → IsWithin (open_of_pass runs.sizes runs.pass) (beside_pins runs.sizes runs.space.pins)
pass_beside {honest} {file} runs running =
    open_beside runs.sizes runs.space runs.tags.pass runs.pass running.in_order.pass_tag (tagged runs.pass running.in_order.pass_tag running.pass) running.in_order.open_unpinned
  where
    tagged : (pass : Option SnowState) → PassHasTag runs.tags.pass pass → PassRuns runs.sizes honest file runs.space (guide_at runs.guides runs.tags.pass) pass
        → IsWithin (open_of_pass runs.sizes pass) (role_region runs.sizes runs.space runs.tags.pass)
    tagged None is goes i here = absurd here
    tagged (Some snow) is goes i here =
        subst (λ (r : ℕ). role_region runs.sizes runs.space r i) is (open_tagged runs.sizes honest file runs.space snow.writer _ _ goes.run.out goes.run.pushed i here)
