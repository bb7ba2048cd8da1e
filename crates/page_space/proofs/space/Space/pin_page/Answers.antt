use Rattle.std.proofs.Common.{◌≡◌, ◌∙◌, ◌<◌, true, false, [], get_or, ap, sym, length, refl, arith}
use Rattle.std.proofs.lemmas.List.{get_or_read, get_or-set_same, get_or-set_other, length-set}
use Rattle.page_space.specs.PageSet.{Members, with_page}
use Rattle.page_space.specs.Space.{SpaceState}
use Rattle.page_space.proofs.SpaceLemmas.{free_before_pin, shape_with_pins}
use Rattle.page_space.proofs.SizeLemmas.{size-with_le}
use Rattle.page_space.proofs.FreeLemmas.{pinned_more}
use Rattle.page_space.proofs.space.Space.pin_page.Goals as goal
use Rattle.page_space.proofs.space.Space.pin_page.Goals.{After-insert}

-- the set that the page was put into is the seat's
set_is : (c : After-insert) → c.insert.new.self ≡ with_page c.args.page (get_or c.self.inside.pins.items c.args.seat [])
set_is c =
    let there : c.args.seat < length c.self.inside.pins.items = omega (arith, c.self.invariant.0.pins, c.requires.seat) in
    c.insert.ensures ∙ ap (λ place. with_page place c.index_mut-pins.result.now) c.from.ensures
    ∙ ap (with_page c.args.page)
    (get_or_read c.self.inside.pins.items c.args.seat c.index_mut-pins.result.now there c.index_mut-pins.ensures.value [])

pub invariant_of-self : goal.invariant_of-self
invariant_of-self c =
    let inside = c.self.inside in
    let b = (goal.at.invariant_of-self c).After-insert in
    let old : SpaceState = record { pages = inside.pages; roles = inside.roles.items; pins = inside.pins.items } in
    let was = get_or inside.pins.items c.args.seat [] in
    let shape = c.self.invariant.0 in
    let long = length-set was c.args.page true ∙ shape.of_seat c.args.seat c.requires.seat in
    rw (set_is b) (
      shape_with_pins old c.args.seat (with_page c.args.page was) shape c.requires.seat long,
      λ k below free. c.self.invariant.1 k below (free_before_pin old c.args.seat c.args.page k free),
    )

pub returns : goal.returns
returns c =
    let inside = c.self.inside in
    let b = (goal.at.returns c).After-insert in
    let old : SpaceState = record { pages = inside.pages; roles = inside.roles.items; pins = inside.pins.items } in
    let was = get_or inside.pins.items c.args.seat [] in
    let shape = c.self.invariant.0 in
    let there : c.args.seat < length inside.pins.items = omega (arith, shape.pins, c.requires.seat) in
    let long = length-set was c.args.page true ∙ shape.of_seat c.args.seat c.requires.seat in
    let within : c.args.page < length was =
    omega (arith, c.requires.page, ap (λ (space : SpaceState). space.pages) c.self.view_is, shape.of_seat c.args.seat c.requires.seat) in
    let this = get_or-set_same inside.pins.items c.args.seat c.insert.new.self [] there ∙ set_is b in
    rw (← c.self.view_is)
    (record {
      this = this;
      others = λ other differs. get_or-set_other inside.pins.items c.args.seat other c.insert.new.self [] differs;
      roles = refl;
      pages = refl;
      shape = rw (set_is b) (shape_with_pins old c.args.seat (with_page c.args.page was) shape c.requires.seat long);
      pinned = λ other.
          let more = pinned_more was c.args.page other within in
          let is = ap (λ (s : Members). get_or s other false) this in
          (λ has. more.0 (sym is ∙ has), λ has. is ∙ more.1 has);
      free = rw (set_is b) (λ other free. free_before_pin old c.args.seat c.args.page other free);
      size = rw this (size-with_le was c.args.page);
    })
