-- What of the map is known once the components' pages are claimed in one that has none in use.
use Rattle.std.proofs.lemmas.Bool.Decides.{nat_tests}
use Rattle.std.proofs.lemmas.Grind.{common_steps}
use Rattle.std.proofs.Common.{◌≡◌, ◌≢◌, ◌∙◌, ℕ, List, [], ◌<◌, false, inl, inr, refl, sym, subst, ap, arith, Option, None}
use Rattle.std.specs.Prelude.{slice_index_or}
use Rattle.blsm_model.specs.Geometry.{page_count}
use Rattle.std.proofs.lemmas.Bool.{cases_Bool, cases_eq, false≢true}
use Rattle.std.proofs.lemmas.List.{get_or-replicate, get_or_past, length-replicate}
use Rattle.std.proofs.lemmas.List.Folds.{sum_by-replicate}
use Rattle.page_space.specs.PageSet.{Members, none_of, size}
use Rattle.page_space.specs.Space.{SpaceState, HasRole, IsFree, IsSpace, pages_with, pin_size, role_count, role_size, seat_count, unused}
use Rattle.catalog_swap.specs.declared.catalog.Progress.{Progress}
use Rattle.tree_runs.specs.Runs.{HasOneTag, pages_named}
use Rattle.tree_runs.specs.Laws.{TakesFree, ClaimsAdd, TakenAreRead}
use Rattle.tree_runs.proofs.ReleasedTags.{none_has}
use Rattle.tree_runs.proofs.StayLemmas.{one_tag_taken}

-- ---- no page is in use

none_in : (pages : ℕ) → size (none_of pages) ≡ 0
none_in pages = grind (arith, common_steps, nat_tests, sum_by-replicate)

unused_tags : (pages tag page : ℕ) → HasRole (unused pages) tag page → ⊥
unused_tags pages tag page has = grind (arith, common_steps, nat_tests, none_has, get_or-replicate, get_or_past, length-replicate)

unused_sizes : (pages tag : ℕ) → tag < role_count → role_size (unused pages) tag ≡ 0
unused_sizes pages tag below = ap size (get_or-replicate role_count tag (none_of pages) [] below) ∙ none_in pages

unused_pins : (pages seat : ℕ) → seat < seat_count → pin_size (unused pages) seat ≡ 0
unused_pins pages seat below = ap size (get_or-replicate seat_count seat (none_of pages) [] below) ∙ none_in pages

-- ---- pages that were free get a tag

other_still : {tag count : ℕ} {old new : SpaceState} → TakesFree tag count old new → (other : ℕ) → other ≢ tag → role_size new other ≡ role_size old other
other_still takes other differs = ap size (takes.others other differs)

-- what is free after it, and hadn't the tag before, was free
free_before : {tag count : ℕ} {old new : SpaceState} → TakesFree tag count old new → (page : ℕ) → IsFree new page → (HasRole old tag page → ⊥) → IsFree old page
free_before takes page free lacks = grind (arith, common_steps, nat_tests, cases_eq)

pub claims_add : ClaimsAdd
claims_add tag count page old mid new takes free claims = record {
  pages = claims.pages ∙ takes.pages;
  shape = claims.shape;
  pins = claims.pins ∙ takes.pins;
  others = λ other differs. claims.others other differs ∙ takes.others other differs;
  fresh = λ k has.
      elim ((claims.tags tag k).0 has) [
        | inl had ↦ takes.fresh k had
        | inr is ↦
            elim (cases_Bool (slice_index_or (pages_with old tag) k false)) [
              | inl in_it ↦ inl in_it
              | inr lacks ↦ inr (free_before takes k (subst (λ (n : ℕ). IsFree mid n) (sym is.1) free) (λ in_it. false≢true (sym lacks ∙ in_it)))
            ]
      ];
  size = omega (arith, claims.size (free.no_role tag), takes.size);
}

-- where none is named none is taken
pub takes_none : (tag : ℕ) (progress : Option Progress) (space : SpaceState) → IsSpace space → progress ≡ None → TakesFree tag (pages_named progress) space space
takes_none tag progress space shape none = record {
  pages = refl;
  shape = shape;
  pins = refl;
  others = λ other differs. refl;
  fresh = λ page has. inl has;
  size = omega (arith, ap pages_named none);
}

pub taken_are_read : TakenAreRead
taken_are_read sizes catalogue s1 s2 s3 s4 geometry c1 c1x c2 first second third fourth =
    let pages = page_count sizes in
    let start : HasOneTag (unused pages) = λ page one other has also. absurd (unused_tags pages one page has) in
    record {
      geometry = geometry;
      pages = fourth.pages ∙ third.pages ∙ second.pages ∙ first.pages;
      shape = fourth.shape;
      one_tag = one_tag_taken 4 s3 s4 fourth.others fourth.fresh
          (one_tag_taken 2 s2 s3 third.others third.fresh (one_tag_taken 1 s1 s2 second.others second.fresh (one_tag_taken 0 (unused pages) s1 first.others first.fresh start)));
      c1 = record {
        filled = c1;
        size = omega (arith, first.size, unused_sizes pages 0 (omega arith), other_still second 0 (omega arith), other_still third 0 (omega arith), other_still fourth 0 (omega arith));
      };
      c1x = record {
        filled = c1x;
        size = omega (arith, second.size, unused_sizes pages 1 (omega arith), other_still first 1 (omega arith), other_still third 1 (omega arith), other_still fourth 1 (omega arith));
      };
      c2 = record {
        filled = c2;
        size = omega (arith, third.size, unused_sizes pages 2 (omega arith), other_still first 2 (omega arith), other_still second 2 (omega arith), other_still fourth 2 (omega arith));
      };
      pass = other_still fourth 3 (omega arith) ∙ other_still third 3 (omega arith) ∙ other_still second 3 (omega arith) ∙ other_still first 3 (omega arith) ∙ unused_sizes pages 3 (omega arith);
      deep = omega (arith, fourth.size, unused_sizes pages 4 (omega arith), other_still first 4 (omega arith), other_still second 4 (omega arith), other_still third 4 (omega arith));
      no_pins = λ seat below. ap (λ (pins : List Members). size (slice_index_or pins seat [])) (fourth.pins ∙ third.pins ∙ second.pins ∙ first.pins) ∙ unused_pins pages seat below;
    }
