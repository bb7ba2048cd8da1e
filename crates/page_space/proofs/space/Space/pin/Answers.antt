use Rattle.std.proofs.Common.{◌≡◌, ◌∙◌, ◌<◌, ℕ, false, [], slice_set, get_or, ap, sym, length, refl, arith}
use Rattle.std.proofs.lemmas.List.{get_or_read, get_or-set_same, get_or-set_other}
use Rattle.page_space.specs.PageSet.{Members, union}
use Rattle.page_space.specs.Space.{SpaceState, IsSpace, pages_with, role_count}
use Rattle.page_space.proofs.SpaceLemmas.{shape_with_pins, length_of_three}
use Rattle.page_space.proofs.FreeLemmas.{freed_of_seat, pinned_just}
use Rattle.page_space.proofs.SizeLemmas.{size-union_le}
use Rattle.page_space.proofs.space.Space.pin.Goals as goal
use Rattle.page_space.proofs.space.Space.pin.Goals.{After-set_to_union}

-- the set of a role that there is has all pages
length_read : (space : SpaceState) (role : ℕ) (set : Members) → IsSpace space → role < role_count → set ≡ get_or space.roles role set → length set ≡ space.pages
length_read space role set shape in_range read =
    ap (λ (s : Members). length s) (get_or_read space.roles role set (omega (arith, shape.roles)) read []) ∙ shape.of_role role in_range

shape_after : (c : After-set_to_union) → IsSpace (record { pages = c.self.inside.pages; roles = c.self.inside.roles.items; pins = slice_set c.self.inside.pins.items c.args.seat c.set_to_union.new.self })
shape_after c =
    let inside = c.self.inside in
    let before : SpaceState = record { pages = inside.pages; roles = inside.roles.items; pins = inside.pins.items } in
    let shape = c.self.invariant.0 in
    let long = length_of_three c.index.result.now c.index-2.result.now c.index-3.result.now inside.pages
    (length_read before c.number.result c.index.result.now shape c.number.ensures.in_range c.index.ensures)
    (length_read before c.number-2.result c.index-2.result.now shape c.number-2.ensures.in_range c.index-2.ensures)
    (length_read before c.number-3.result c.index-3.result.now shape c.number-3.ensures.in_range c.index-3.ensures) in
    shape_with_pins before c.args.seat c.set_to_union.new.self shape c.requires (ap (λ (s : Members). length s) c.set_to_union.ensures ∙ long)

pub invariant_of-self : goal.invariant_of-self
invariant_of-self c = (shape_after (goal.at.invariant_of-self c).After-set_to_union, λ page below free. omega (arith, below))

pub returns-clause-shape : goal.returns-clause-shape
returns-clause-shape c = shape_after (goal.at.returns-clause-shape c).After-set_to_union

-- the set that was read at a role's number is the role's
role_read : (space now : SpaceState) (role number : ℕ) (set : Members) → IsSpace space → space ≡ now → number ≡ role → number < role_count → set ≡ get_or space.roles number set → set ≡ pages_with now role
role_read space now role number set shape is same in_range read =
    get_or_read space.roles number set (omega (arith, shape.roles)) read [] ∙ ap (pages_with space) same ∙ ap (λ (s : SpaceState). pages_with s role) is

pins_are : (c : After-set_to_union) → get_or (slice_set c.self.inside.pins.items c.args.seat c.set_to_union.new.self) c.args.seat []
    ≡ union (pages_with c.args.self.now c.args.c1) (union (pages_with c.args.self.now c.args.c1x) (pages_with c.args.self.now c.args.c2))
pins_are c =
    let inside = c.self.inside in
    let old : SpaceState = record { pages = inside.pages; roles = inside.roles.items; pins = inside.pins.items } in
    let now = c.args.self.now in
    let shape = c.self.invariant.0 in
    let is_a = role_read old now c.args.c1 c.number.result c.index.result.now shape c.self.view_is c.number.ensures.number c.number.ensures.in_range c.index.ensures in
    let is_b = role_read old now c.args.c1x c.number-2.result c.index-2.result.now shape c.self.view_is c.number-2.ensures.number c.number-2.ensures.in_range c.index-2.ensures in
    let is_c = role_read old now c.args.c2 c.number-3.result c.index-3.result.now shape c.self.view_is c.number-3.ensures.number c.number-3.ensures.in_range c.index-3.ensures in
    get_or-set_same inside.pins.items c.args.seat c.set_to_union.new.self [] (omega (arith, shape.pins, c.requires))
    ∙ c.set_to_union.ensures
    ∙ ap (λ (s : Members). union s (union c.index-2.result.now c.index-3.result.now)) is_a
    ∙ ap (λ (s : Members). union (pages_with now c.args.c1) (union s c.index-3.result.now)) is_b
    ∙ ap (λ (s : Members). union (pages_with now c.args.c1) (union (pages_with now c.args.c1x) s)) is_c

pub returns-clause-pinned : goal.returns-clause-pinned
returns-clause-pinned c = λ page.
    let now = c.args.self.now in
    let just = pinned_just (pages_with now c.args.c1) (pages_with now c.args.c1x) (pages_with now c.args.c2) page in
    let is = ap (λ (s : Members). get_or s page false) (pins_are (goal.at.returns-clause-pinned c).After-set_to_union) in
    (λ pinned. just.0 (sym is ∙ pinned), λ has. is ∙ just.1 has)

pub returns-clause-freed : goal.returns-clause-freed
returns-clause-freed c =
    let inside = c.self.inside in
    let old : SpaceState = record { pages = inside.pages; roles = inside.roles.items; pins = inside.pins.items } in
    let new : SpaceState = record { pages = inside.pages; roles = inside.roles.items; pins = slice_set inside.pins.items c.args.seat c.set_to_union.new.self } in
    rw (← c.self.view_is) (freed_of_seat old new c.args.seat refl refl (λ other differs. get_or-set_other inside.pins.items c.args.seat other c.set_to_union.new.self [] differs))

pub returns-clause-size : goal.returns-clause-size
returns-clause-size c =
    let now = c.args.self.now in
    rw (pins_are (goal.at.returns-clause-size c).After-set_to_union)
    (omega (arith, size-union_le (pages_with now c.args.c1) (union (pages_with now c.args.c1x) (pages_with now c.args.c2)), size-union_le (pages_with now c.args.c1x) (pages_with now c.args.c2)))
