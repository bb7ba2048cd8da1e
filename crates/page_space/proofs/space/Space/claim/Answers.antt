use Rattle.std.proofs.Common.{◌≡◌, ◌∙◌, ◌<◌, true, [], get_or, set, ap, length, refl, arith}
use Rattle.std.proofs.lemmas.List.{get_or_read, get_or-set_same, get_or-set_other, length-set}
use Rattle.page_space.specs.PageSet.{with_page, size}
use Rattle.page_space.specs.Space.{SpaceState, role_count, KeepsOtherRoles}
use Rattle.page_space.proofs.SpaceLemmas.{free_before_claim, shape_with_role}
use Rattle.page_space.proofs.SizeLemmas.{size-with}
use Rattle.page_space.proofs.FreeLemmas.{tags_after, free_after_claim}
use Rattle.page_space.proofs.space.Space.claim.Goals as goal
use Rattle.page_space.proofs.space.Space.claim.Goals.{After-insert}

-- the set that the page was put into is the role's
set_is : (c : After-insert) → c.insert.new.self ≡ with_page c.args.page (get_or c.self.inside.roles.items c.number.result [])
set_is c =
    let there : c.number.result < length c.self.inside.roles.items = omega (arith, c.self.invariant.0.roles, c.number.ensures.in_range) in
    c.insert.ensures ∙ ap (λ place. with_page place c.index_mut-set.result.now) c.from.ensures ∙ ap (with_page c.args.page) (get_or_read c.self.inside.roles.items c.number.result c.index_mut-set.result.now there c.index_mut-set.ensures.value [])

pub invariant_of-self : goal.invariant_of-self
invariant_of-self c =
    let inside = c.self.inside in
    let role = c.number.result in
    let b = (goal.at.invariant_of-self c).After-insert in
    let old : SpaceState = record { pages = inside.pages; roles = inside.roles.items; pins = inside.pins.items } in
    let shape = c.self.invariant.0 in
    let in_range : role < role_count = c.number.ensures.in_range in
    let long = length-set (get_or inside.roles.items role []) c.args.page true ∙ shape.of_role role in_range in
    rw (set_is b) (shape_with_role old role (with_page c.args.page (get_or inside.roles.items role [])) shape in_range long, λ k below free. c.self.invariant.1 k below (free_before_claim old role c.args.page k free))

within : (c : After-insert) → c.args.page < length (get_or c.self.inside.roles.items c.number.result [])
within c = omega (arith, c.requires, ap (λ (space : SpaceState). space.pages) c.self.view_is, c.self.invariant.0.of_role c.number.result c.number.ensures.in_range)

-- the role's set afterwards
this : (c : After-insert) → get_or (set c.self.inside.roles.items c.number.result c.insert.new.self) c.number.result [] ≡ with_page c.args.page (get_or c.self.inside.roles.items c.number.result [])
this c =
    let there : c.number.result < length c.self.inside.roles.items = omega (arith, c.self.invariant.0.roles, c.number.ensures.in_range) in
    get_or-set_same c.self.inside.roles.items c.number.result c.insert.new.self [] there ∙ set_is c

pub returns : goal.returns
returns c =
    let inside = c.self.inside in
    let role = c.number.result in
    let b = (goal.at.returns c).After-insert in
    let old : SpaceState = record { pages = inside.pages; roles = inside.roles.items; pins = inside.pins.items } in
    let new : SpaceState = record { pages = inside.pages; roles = set inside.roles.items role c.insert.new.self; pins = inside.pins.items } in
    let others : KeepsOtherRoles role old new = λ other differs. get_or-set_other inside.roles.items role other c.insert.new.self [] differs in
    let long = length-set (get_or inside.roles.items role []) c.args.page true ∙ c.self.invariant.0.of_role role c.number.ensures.in_range in
    rw (← c.self.view_is, ← c.number.ensures.number)
    (record {
      this = this b;
      others = others;
      pins = refl;
      pages = refl;
      shape = rw (set_is b) (shape_with_role old role (with_page c.args.page (get_or inside.roles.items role [])) c.self.invariant.0 c.number.ensures.in_range long);
      tags = tags_after old new role c.args.page (within b) (this b) others;
      free = free_after_claim old new role c.args.page (within b) (this b) others refl refl;
      size = λ untagged. ap size (this b) ∙ size-with (get_or inside.roles.items role []) c.args.page (within b) untagged;
    })
