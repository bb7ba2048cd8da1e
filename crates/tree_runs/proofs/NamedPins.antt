-- The pages that fences name, pinned one after the other.
use Rattle.std.specs.Prelude.{◌≡◌, ◌↔◌, ◌⊎◌, ◌<◌, ◌≤◌, ◌+◌, ◌-◌, ℕ, List, [], ◌∷◌, ◌++◌, length, map, take, drop, slice_index_or}
use Rattle.std.specs.List.{Contains}
use Rattle.std.proofs.Common.{⊎_elim, ap, inl, inr, refl, sym, subst, ◌∙◌, get_or, length-append, arith}
use Rattle.std.proofs.lemmas.Grind.{common_steps}
use Rattle.std.proofs.lemmas.Bool.Decides.{nat_tests}
use Rattle.std.proofs.lemmas.List.{length-take, map-append, take_more}
use Rattle.std.proofs.lemmas.List.Elements.{Contains-append_left, Contains-append_right, Contains-append_cases}
use Rattle.blsm_model.specs.declared.component.Component.{Component}
use Rattle.bloom_bits.specs.declared.fences.Fence.{Fence}
use Rattle.bloom_bits.specs.Parts.{last_fences}
use Rattle.page_space.specs.PageSet.{Members, IsIn}
use Rattle.page_space.specs.Space.{SpaceState, HasRole, IsFree, IsPinnedBy, IsSpace, KeepsOtherPins, PinsMore, pin_size, role_size}
use Rattle.tree_runs.specs.Runs.{RunsState, fences_of_tag, finished_by_pass, front_of}
use Rattle.tree_runs.specs.Holding.{IsNamed, IsOfParts, PinsNamed, PinsParts}

none_in : (n : ℕ) → Contains {X = ℕ} [] n → ⊥
none_in n has = omega (arith, has.1)

pub pins_none : (seat tag : ℕ) (space : SpaceState) → IsSpace space → PinsNamed seat tag [] space space
pins_none seat tag space shape = record {
  others = λ other differs. refl;
  roles = refl;
  pages = refl;
  shape = shape;
  pinned = λ page. (λ has. inl has, λ had. ⊎_elim (λ old. old) (λ named. absurd (none_in page named.0)) had);
  freed = λ page free. free;
  size = omega arith;
}

-- what these fences name, and what one more names
named_before : (fences : List Fence) (fence : Fence) (n : ℕ) → Contains (map (λ (f : Fence). f.page) fences) n
    → Contains (map (λ (f : Fence). f.page) (fences ++ fence ∷ [])) n
named_before fences fence n has =
    subst (λ (ns : List ℕ). Contains ns n) (sym (map-append (λ (f : Fence). f.page) fences (fence ∷ [])))
    (Contains-append_left (map (λ (f : Fence). f.page) fences) (fence.page ∷ []) n has)

named_last : (fences : List Fence) (fence : Fence) → Contains (map (λ (f : Fence). f.page) (fences ++ fence ∷ [])) fence.page
named_last fences fence =
    subst (λ (ns : List ℕ). Contains ns fence.page) (sym (map-append (λ (f : Fence). f.page) fences (fence ∷ [])))
    (Contains-append_right (map (λ (f : Fence). f.page) fences) (fence.page ∷ []) fence.page (0, omega arith, refl))

named_cases : (fences : List Fence) (fence : Fence) (n : ℕ) → Contains (map (λ (f : Fence). f.page) (fences ++ fence ∷ [])) n
    → Contains (map (λ (f : Fence). f.page) fences) n ⊎ (n ≡ fence.page)
named_cases fences fence n has =
    ⊎_elim (λ before. inl before) (λ last. inr (only fence.page n last))
    (Contains-append_cases (map (λ (f : Fence). f.page) fences) (fence.page ∷ []) n
    (subst (λ (ns : List ℕ). Contains ns n) (map-append (λ (f : Fence). f.page) fences (fence ∷ [])) has))
  where
    only : (m k : ℕ) → Contains (m ∷ []) k → k ≡ m
    only m k here = grind (arith, common_steps, nat_tests)

role_now : (old new : SpaceState) → new.roles ≡ old.roles → (tag page : ℕ) → HasRole new tag page → HasRole old tag page
role_now old new roles tag page has = subst (λ (sets : List Members). IsIn (slice_index_or sets tag []) page) roles has

-- one more of them was gone through
pub taken : (fences : List Fence) (i : ℕ) (fence : Fence) → fence ≡ get_or fences i fence → i < length fences → take i fences ++ fence ∷ [] ≡ take (i + 1) fences
taken fences i fence is within = ap (λ (f : Fence). take i fences ++ f ∷ []) is ∙ sym (take_more fences i fence within)

module _ {seat tag : ℕ} {fences : List Fence} {old mid : SpaceState} (fence : Fence) (so_far : PinsNamed seat tag fences old mid) where
  -- one page more, which has the tag
  pub pins_one : (new : SpaceState) → HasRole mid tag fence.page → PinsMore seat fence.page mid new → PinsNamed seat tag (fences ++ fence ∷ []) old new
  pins_one new tagged more = record {
    others = λ other differs. more.others other differs ∙ so_far.others other differs;
    roles = more.roles ∙ so_far.roles;
    pages = more.pages ∙ so_far.pages;
    shape = more.shape;
    pinned = λ page. (
      λ has.
          ⊎_elim
          (λ before. ⊎_elim (λ had. inl had) (λ (named : IsNamed old tag fences page). inr (named_before fences fence page named.0, named.1)) ((so_far.pinned page).0 before))
          (λ is. inr (
            subst (Contains (map (λ (f : Fence). f.page) (fences ++ fence ∷ []))) (sym is) (named_last fences fence),
            subst (HasRole old tag) (sym is) (role_now old mid so_far.roles tag fence.page tagged),
          ))
          ((more.pinned page).0 has),
      λ is.
          (more.pinned page).1
          (⊎_elim (λ had. inl ((so_far.pinned page).1 (inl had)))
          (λ (named : IsNamed old tag (fences ++ fence ∷ []) page).
          ⊎_elim (λ before. inl ((so_far.pinned page).1 (inr (before, named.1)))) (λ last. inr last) (named_cases fences fence page named.0))
          is),
    );
    freed = λ page free. so_far.freed page (more.free page free);
    size = omega (arith, more.size, so_far.size, length-append fences (fence ∷ []));
  }

  -- and one that hasn't
  pub pins_no_more : (HasRole mid tag fence.page → ⊥) → PinsNamed seat tag (fences ++ fence ∷ []) old mid
  pins_no_more without = record {
    others = so_far.others;
    roles = so_far.roles;
    pages = so_far.pages;
    shape = so_far.shape;
    pinned = λ page. (
      λ has.
          ⊎_elim (λ had. inl had) (λ (named : IsNamed old tag fences page). inr (named_before fences fence page named.0, named.1)) ((so_far.pinned page).0 has),
      λ is.
          ⊎_elim (λ had. (so_far.pinned page).1 (inl had))
          (λ (named : IsNamed old tag (fences ++ fence ∷ []) page).
          ⊎_elim (λ before. (so_far.pinned page).1 (inr (before, named.1)))
          (λ last. absurd (without (role_now mid old (sym so_far.roles) tag fence.page (subst (HasRole old tag) last named.1)))) (named_cases fences fence page named.0))
          is,
    );
    freed = so_far.freed;
    size = omega (arith, so_far.size, length-append fences (fence ∷ []));
  }

-- ---- the pages of two tags, and then those of two parts

-- what `pin_two` ensures
pub record PinsTwo (seat one other : ℕ) (old new : SpaceState) : Type 0 where
  pub others : KeepsOtherPins seat old new
  pub roles : new.roles ≡ old.roles
  pub pages : new.pages ≡ old.pages
  pub pinned : (page : ℕ) → IsPinnedBy new seat page ↔ (HasRole old one page ⊎ HasRole old other page)
  pub freed : (page : ℕ) → IsFree new page → IsFree old page ⊎ IsPinnedBy old seat page
  pub size : pin_size new seat ≤ role_size old one + role_size old other

few_last : (run part : Component) (fences : List Fence) → length (last_fences run part fences) ≤ part.pages
few_last run part fences = omega (arith, length-take part.pages (drop (run.pages - part.pages) fences))

pub parts_pinned : (runs : RunsState) (seat : ℕ) (front c1 : Component) (two mid new : SpaceState) → PinsTwo seat runs.tags.c1x runs.tags.c2 runs.space two
    → PinsNamed seat runs.tags.pass (last_fences (front_of (finished_by_pass runs.pass)) front (fences_of_tag runs runs.tags.pass).list) two mid
    → PinsNamed seat runs.tags.c1 (last_fences runs.catalogue.c1 c1 (fences_of_tag runs runs.tags.c1).list) mid new → PinsParts seat front c1 runs new
parts_pinned runs seat front c1 two mid new first second third = record {
  others = λ other differs. third.others other differs ∙ second.others other differs ∙ first.others other differs;
  roles = third.roles ∙ second.roles ∙ first.roles;
  pages = third.pages ∙ second.pages ∙ first.pages;
  shape = third.shape;
  pinned = λ page. (
    λ has. all page ((third.pinned page).0 has),
    λ is. back page is,
  );
  freed = λ page free. first.freed page (second.freed page (third.freed page free));
  size = omega (
    arith,
    first.size,
    second.size,
    third.size,
    few_last (front_of (finished_by_pass runs.pass)) front (fences_of_tag runs runs.tags.pass).list,
    few_last runs.catalogue.c1 c1 (fences_of_tag runs runs.tags.c1).list,
  );
}
  where
    finished : List Fence
    finished = last_fences (front_of (finished_by_pass runs.pass)) front (fences_of_tag runs runs.tags.pass).list

    older : List Fence
    older = last_fences runs.catalogue.c1 c1 (fences_of_tag runs runs.tags.c1).list

    before : (page : ℕ) → IsPinnedBy two seat page ⊎ IsNamed two runs.tags.pass finished page → IsOfParts runs front c1 page
    before page (inl had) = inl ((first.pinned page).0 had)
    before page (inr named) = inr (inl (named.0, role_now runs.space two first.roles runs.tags.pass page named.1))

    all : (page : ℕ) → IsPinnedBy mid seat page ⊎ IsNamed mid runs.tags.c1 older page → IsOfParts runs front c1 page
    all page (inl had) = before page ((second.pinned page).0 had)
    all page (inr named) = inr (inr (named.0, role_now runs.space mid (second.roles ∙ first.roles) runs.tags.c1 page named.1))

    back : (page : ℕ) → IsOfParts runs front c1 page → IsPinnedBy new seat page
    back page (inl tagged) = (third.pinned page).1 (inl ((second.pinned page).1 (inl ((first.pinned page).1 tagged))))
    back page (inr (inl named)) =
        (third.pinned page).1 (inl ((second.pinned page).1 (inr (named.0, role_now two runs.space (sym first.roles) runs.tags.pass page named.1))))
    back page (inr (inr named)) =
        (third.pinned page).1 (inr (named.0, role_now mid runs.space (sym (second.roles ∙ first.roles)) runs.tags.c1 page named.1))
