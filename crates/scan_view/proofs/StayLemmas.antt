-- Holds while runs are written.
use Rattle.std.proofs.lemmas.Bool.Decides.{nat_tests}
use Rattle.std.proofs.lemmas.Grind.{common_steps}
use Rattle.std.specs.Prelude.{◌≢◌, ⊤, Option, Some, None, Result, Ok, slice_index_or, [], take, drop}
use Rattle.std.specs.List.{Contains}
use Rattle.std.proofs.Common.{◌≡◌, ◌∙◌, ◌+◌, ◌≤◌, ◌++◌, ℕ, List, refl, ap, sym, subst, inl, inr, ⊎_elim, arith}
use Rattle.std.proofs.lemmas.Bool.{cases_eq}
use Rattle.std.proofs.lemmas.List.Elements.{Contains-append_left, Contains-append_right}
use Rattle.disk_trait.specs.Region.{IsWithin as IsInside, IsSameOutside, outside, span}
use Rattle.disk_trait.proofs.RegionLemmas.{same_wider}
use Rattle.blsm_model.specs.declared.row.Row.{Row}
use Rattle.blsm_model.specs.Sizes.{Sizes}
use Rattle.page_space.specs.PageSet.{Members, IsIn, size}
use Rattle.page_space.specs.Space.{SpaceState, HasRole, IsPinnedBy, IsWithin, KeepsOtherPins, role_size, pin_size}
use Rattle.page_file.specs.declared.file.Broken.{Broken}
use Rattle.page_file.specs.Component.{RunPage, numbers_of}
use Rattle.page_file.specs.File.{AreSamePages, page_start, pages_region}
use Rattle.page_file.proofs.ComponentLemmas.{chain_kept, list_kept}
use Rattle.run_cursor.specs.Cursor.{HasFront}
use Rattle.blsm_model.specs.declared.component.Component.{Component}
use Rattle.record_delta.specs.Entries.{Entries}
use Rattle.page_file.proofs.PageLemmas.{before_apart, same_pages}
use Rattle.run_writer.specs.Writer.{role_region}
use Rattle.merge_ends.specs.Output.{TakesPages}
use Rattle.scan_view.specs.Hold.{HoldState, HasRows, pages_held}
use Rattle.scan_view.specs.Pins.{Pins, IsUnpinned, HasHeld, HasPinned, beside_pins}

front_kept : (sizes : Sizes) (front : Component) (entries : Entries) (old new : List ℕ) (end : ℕ) → (list : HasFront sizes front end entries old)
    → AreSamePages sizes (numbers_of list.pages) old new → (now : HasFront sizes front end entries new) × (now.pages ≡ list.pages)
front_kept sizes front entries old new end list same =
    let reads = list.reads in (
      record {
        pages = list.pages;
        reads = record {
          first_is = reads.first_is;
          chained = chain_kept sizes list.pages (Some end) old new same reads.chained;
          rise = reads.rise;
          apart = reads.apart;
          pages_is = reads.pages_is;
          entries_is = reads.entries_is;
          weight_is = reads.weight_is;
        };
        entries_are = list.entries_are;
      },
      refl,
    )

pub rows_kept : (sizes : Sizes) (hold : HoldState) (rows : List Row) (old new : List ℕ) → (before : HasRows sizes hold rows old)
    → AreSamePages sizes (pages_held before) old new → (now : HasRows sizes hold rows new) × (pages_held now ≡ pages_held before)
rows_kept sizes hold rows old new before same =
    let ls = numbers_of before.front.1.pages in
    let ns = numbers_of before.c1.pages in
    let ms = numbers_of before.c1x.pages in
    let ks = numbers_of before.c2.pages in
    let front = front_kept sizes hold.front before.of_front old new before.front.0 before.front.1
    (λ n has. same n (Contains-append_left (ls ++ ns ++ ms) ks n (Contains-append_left (ls ++ ns) ms n (Contains-append_left ls ns n has)))) in
    let one = list_kept sizes hold.c1 before.of_c1 old new before.c1
    (λ n has. same n (Contains-append_left (ls ++ ns ++ ms) ks n (Contains-append_left (ls ++ ns) ms n (Contains-append_right ls ns n has)))) in
    let two = list_kept sizes hold.c1x before.of_c1x old new before.c1x
    (λ n has. same n (Contains-append_left (ls ++ ns ++ ms) ks n (Contains-append_right (ls ++ ns) ms n has))) in
    let three = list_kept sizes hold.c2 before.of_c2 old new before.c2 (λ n has. same n (Contains-append_right (ls ++ ns ++ ms) ks n has)) in (
      record {
        of_front = before.of_front;
        of_c1 = before.of_c1;
        of_c1x = before.of_c1x;
        of_c2 = before.of_c2;
        front = (before.front.0, front.0);
        c1 = one.0;
        c1x = two.0;
        c2 = three.0;
        rows_are = before.rows_are;
      },
      (λ i. numbers_of (front.1 i) ++ numbers_of (one.1 i) ++ numbers_of (two.1 i) ++ numbers_of (three.1 i)),
    )

-- a hold's rows are read from pages that are pinned, so they stay where nothing else is written
pub held_beside : (sizes : Sizes) (pins : List Members) (seat : ℕ) (hold : Option HoldState) (rows : Option (List Row)) (old new : List ℕ)
    → IsSameOutside (beside_pins sizes pins) old new → HasHeld sizes pins seat hold rows old → HasHeld sizes pins seat hold rows new
held_beside sizes pins seat None None old new same held = tt
held_beside sizes pins seat None (Some rows) old new same held = absurd held
held_beside sizes pins seat (Some hold) None old new same held = absurd held
held_beside sizes pins seat (Some hold) (Some rows) old new same held =
    let kept = rows_kept sizes hold rows old new held.has (same_pages sizes (pages_held held.has) old new (same_wider elsewhere same)) in
    record { has = kept.0; pinned = λ page among. held.pinned page (subst (λ (ns : List ℕ). Contains ns page) kept.1 among) }
  where
    elsewhere : IsInside (beside_pins sizes pins) (outside (pages_region sizes (pages_held held.has)))
    elsewhere i out page = out (seat, page.0, held.pinned page.0 page.1, page.2)

pub held_by_others : (sizes : Sizes) (old new : SpaceState) (seat other : ℕ) (hold : Option HoldState) (rows : Option (List Row)) (file : List ℕ)
    → KeepsOtherPins seat old new → other ≢ seat → HasHeld sizes old.pins other hold rows file → HasHeld sizes new.pins other hold rows file
held_by_others sizes old new seat other None None file keeps differs held = tt
held_by_others sizes old new seat other None (Some rows) file keeps differs held = absurd held
held_by_others sizes old new seat other (Some hold) None file keeps differs held = absurd held
held_by_others sizes old new seat other (Some hold) (Some rows) file keeps differs held =
    record { has = held.has; pinned = λ page among. subst (λ (set : Members). IsIn set page) (sym (keeps other differs)) (held.pinned page among) }

-- and what is left of them once the first are given
pub next_pinned : (sizes : Sizes) (pins : List Members) (seat : ℕ) (rows : List Row) (n : ℕ) (old new : HoldState) (file later : List ℕ) (result : Result ⊤ Broken) (given : List Row)
    → ((before : HasRows sizes old rows file) → (result ≡ Ok tt) × (given ≡ take n rows) × (now : HasRows sizes new (drop n rows) later)
    × ((page : ℕ) → Contains (pages_held now) page → Contains (pages_held before) page))
    → HasPinned sizes pins seat old rows file → (result ≡ Ok tt) × (given ≡ take n rows) × HasPinned sizes pins seat new (drop n rows) later
next_pinned sizes pins seat rows n old new file later result given gives held =
    let came = gives held.has in (
      came.0,
      came.1,
      record { has = came.2; pinned = λ page among. held.pinned page (came.3 page among) },
    )

-- ---- runs that are written

-- with the same pins, a page that is pinned then was pinned before
pinned_before : (old new : SpaceState) → new.pins ≡ old.pins → (seat page : ℕ) → IsPinnedBy new seat page → IsPinnedBy old seat page
pinned_before old new same seat page pinned = subst (λ (pins : List Members). IsIn (slice_index_or pins seat []) page) same pinned

pub unpinned_on : (old new : SpaceState) (role tag : ℕ) → TakesPages role old new → IsUnpinned old tag → IsUnpinned new tag
unpinned_on old new role tag takes free seat page pinned has =
    let before = pinned_before old new takes.pins seat page pinned in
    elim (cases_eq tag role) [
      | inl same ↦ ⊎_elim (λ (had : HasRole old role page). free seat page before (subst (λ (r : ℕ). HasRole old r page) (sym same) had)) (λ was_free. was_free.no_pin seat before)
          (takes.only_free page (subst (λ (r : ℕ). HasRole new r page) same has))
      | inr differs ↦ free seat page before (subst (λ (set : Members). IsIn set page) (takes.others tag differs) has)
    ]

pub writes_beside : (sizes : Sizes) (old new : SpaceState) (role : ℕ) → TakesPages role old new → IsUnpinned old role → IsInside (role_region sizes new role) (beside_pins sizes old.pins)
writes_beside sizes old new role h1 h2 = grind (arith, common_steps, nat_tests)

pub head_beside : (sizes : Sizes) (pins : List Members) (at n : ℕ) → at + n ≤ page_start sizes 0 → IsInside (span at n) (beside_pins sizes pins)
head_beside sizes pins at n ends i inside pinned = before_apart sizes pinned.1 at n ends i pinned.3 inside

pub within_on : (old new : SpaceState) (seat c1 c1x c2 live share : ℕ) → Pins seat c1 c1x c2 old new → role_size old c1 + role_size old c1x + role_size old c2 ≤ share
    → IsWithin live share old → IsWithin live share new
within_on old new seat c1 c1x c2 live share pins few within = record {
  roles = subst (λ (roles : List Members). role_size (record old { roles = roles }) 0 + role_size (record old { roles = roles }) 1 + role_size (record old { roles = roles }) 2
      + role_size (record old { roles = roles }) 3 + role_size (record old { roles = roles }) 4 ≤ live) (sym pins.roles) within.roles;
  seats = λ other in_range.
      elim (cases_eq other seat) [
        | inl same ↦ omega (arith, ap {B = ℕ} (λ (s : ℕ). pin_size new s) same, pins.size, few)
        | inr apart ↦ omega (arith, ap {B = ℕ} (λ (set : Members). size set) (pins.others other apart), within.seats other in_range)
      ];
}
