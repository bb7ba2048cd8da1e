-- Of an output that is right no page departs.
use Rattle.std.proofs.Common.{◌≡◌, ◌⊎◌, ◌∙◌, ℕ, ◌<◌, ◌≤◌, false, List, [], ◌∷◌, ◌++◌, length, Option, Some, None, refl, ap, sym, subst, inl, inr, ⊎_elim, arith, append-nil, append_assoc, length-append}
use Rattle.std.proofs.lemmas.Grind.{common_steps}
use Rattle.std.proofs.lemmas.Bool.Decides.{nat_tests}
use Rattle.std.specs.Prelude.{nat_eq}
use Rattle.std.specs.List.{AllByRecursion, Contains, IsDistinct, last_or}
use Rattle.std.proofs.lemmas.Bool.{cases_lt}
use Rattle.std.proofs.lemmas.List.{map-append, nil_from_length}
use Rattle.std.proofs.lemmas.List.Elements.{Contains-append_cases}
use Rattle.blsm_model.specs.declared.component.Component.{Component}
use Rattle.blsm_model.specs.Components.{no_page}
use Rattle.blsm_model.specs.Sizes.{Sizes}
use Rattle.blsm_model.specs.Geometry.{page_count}
use Rattle.record_delta.specs.Entries.{Entries}
use Rattle.page_file.specs.Page.{page_number, IsPageOf}
use Rattle.page_file.specs.File.{page_at}
use Rattle.page_file.specs.Component.{RunPage, AreChained, entries_of, first_number, numbers_of}
use Rattle.page_file.proofs.ComponentLemmas.{chain_split, entries_join}
use Rattle.catalog_swap.specs.declared.catalog.Progress.{Progress}
use Rattle.tree_file.specs.Output.{IsOutputOf, settled_up_to}
use Rattle.output_reading.specs.Output.{GoesOnAs, IsDeparted, IsDepartedPage, IsFront, IsLastPage, page, whole}
use Rattle.output_reading.proofs.PagesLemmas.{distinct_front, front_of_chain, last_push, same_pages}

-- a number isn't among those before it
pub before_differs : (xs : List ℕ) (n : ℕ) (ys : List ℕ) → IsDistinct nat_eq (xs ++ n ∷ ys) → Contains xs n → ⊥
unfolding IsDistinct
before_differs [] n ys apart has = omega (arith, has.1)
before_differs (x ∷ xs) n ys apart has =
    ⊎_elim
    (λ (first : Contains (x ∷ []) n). differs x n (only_one x n first) (in_middle xs apart.0))
    (λ (more : Contains xs n). before_differs xs n ys apart.1 more)
    (Contains-append_cases (x ∷ []) xs n has)
  where
    in_middle : (zs : List ℕ) → AllByRecursion (λ (z : ℕ). nat_eq x z ≡ false) (zs ++ n ∷ ys) → nat_eq x n ≡ false
    in_middle [] all = all.0
    in_middle (z ∷ zs) all = in_middle zs all.1

    only_one : (k m : ℕ) → Contains (k ∷ []) m → k ≡ m
    only_one k m h1 = grind (arith, common_steps, nat_tests)

    differs : (k m : ℕ) → k ≡ m → nat_eq k m ≡ false → ⊥
    differs k m h1 h2 = grind (arith, common_steps, nat_tests)

-- a chain that goes on somewhere names a page
names_some : (ps : List RunPage) (next : ℕ) → (n : ℕ) × (first_number ps (Some next) ≡ Some n)
names_some [] next = (next, refl)
names_some (p ∷ ps) next = (p.number, refl)

module _ (sizes : Sizes) (run : Component) (fold : Entries) (earlier : List ℕ) (file : List ℕ) (few : page_count sizes ≤ no_page) where
  -- no page departs that is one of a run's which goes on
  no_page_of : (n : ℕ) → (p : IsDepartedPage sizes run fold earlier n file) → (pages : List RunPage) (end : ℕ) → AreChained sizes pages (Some end) file
      → IsDistinct nat_eq (earlier ++ numbers_of pages) → IsFront (entries_of pages) fold → (rest : List RunPage) → pages ≡ p.pages ++ rest
      → page_number (first_number rest (Some end)) ≡ n → (rest ≡ []) ⊎ ⊥
  no_page_of n p pages end chained apart front [] parts is = inl refl
  no_page_of n p pages end chained apart front (q ∷ rest) parts is =
      let there = (chain_split sizes p.pages (q ∷ rest) (Some end) file (subst (λ (l : List RunPage). AreChained sizes l (Some end) file) parts chained)).1 in
      let named = names_some rest end in
      let numbers : earlier ++ numbers_of pages ≡ (earlier ++ numbers_of p.pages) ++ n ∷ numbers_of rest =
      ap (λ (l : List RunPage). earlier ++ numbers_of l) parts
      ∙ ap (λ (l : List ℕ). earlier ++ l) (map-append (λ (r : RunPage). r.number) p.pages (q ∷ rest))
      ∙ ap (λ (k : ℕ). earlier ++ (numbers_of p.pages ++ k ∷ numbers_of rest)) is
      ∙ sym (append_assoc earlier (numbers_of p.pages) (n ∷ numbers_of rest)) in
      let here : entries_of pages ≡ entries_of p.pages ++ (q.entries ++ entries_of rest) = ap entries_of parts ∙ entries_join p.pages (q ∷ rest) in
      let entries : fold ≡ (entries_of p.pages ++ q.entries) ++ (entries_of rest ++ front.0) =
      front.1 ∙ ap (λ (l : Entries). l ++ front.0) (here ∙ sym (append_assoc (entries_of p.pages) q.entries (entries_of rest)))
      ∙ append_assoc (entries_of p.pages ++ q.entries) (entries_of rest) front.0 in
      inr (⊎_elim
      (λ (has : Contains (earlier ++ numbers_of p.pages) n). before_differs (earlier ++ numbers_of p.pages) n (numbers_of rest)
      (subst (IsDistinct nat_eq) numbers apart) has)
      (λ (not : (next : ℕ) (here : Entries) → GoesOnAs sizes fold p.pages n next here file → ⊥). not named.0 q.entries (record {
        inside = subst (λ (k : ℕ). k < page_count sizes) is there.0;
        valid = subst (λ (k : ℕ). IsPageOf (page_count sizes) (Some named.0) q.entries (page_at sizes k file)) is
            (subst (λ (e : Option ℕ). IsPageOf (page_count sizes) e q.entries (page_at sizes q.number file)) named.1 there.1);
        front = (entries_of rest ++ front.0, entries);
      }))
      p.departs)

  -- so it comes behind all of them
  comes_last : (n : ℕ) → (p : IsDepartedPage sizes run fold earlier n file) → (pages : List RunPage) (end : ℕ)
      → page_number (first_number pages (Some end)) ≡ run.first → AreChained sizes pages (Some end) file
      → IsDistinct nat_eq (earlier ++ numbers_of pages) → IsFront (entries_of pages) fold → length p.pages ≤ length pages → (p.pages ≡ pages) × (n ≡ end)
  comes_last n p pages end first chained apart front long =
      elim (front_of_chain sizes p.pages pages (Some n) (Some end) file few p.begins.chained chained (p.begins.first_is ∙ sym first)) [
        | inl b ↦ by b.rest b.parts b.on
        | inr b ↦ same b.rest b.parts b.on
      ]
    where
      by : (rest : List RunPage) → pages ≡ p.pages ++ rest → page_number (first_number rest (Some end)) ≡ n → (p.pages ≡ pages) × (n ≡ end)
      by rest parts is =
          ⊎_elim
          (λ (none : rest ≡ []). (
            sym (parts ∙ ap (λ (l : List RunPage). p.pages ++ l) none ∙ append-nil p.pages),
            sym is ∙ ap (λ (l : List RunPage). page_number (first_number l (Some end))) none,
          ))
          (λ (wrong : ⊥). absurd wrong) (no_page_of n p pages end chained apart front rest parts is)

      same : (rest : List RunPage) → p.pages ≡ pages ++ rest → page_number (first_number rest (Some n)) ≡ end → (p.pages ≡ pages) × (n ≡ end)
      same rest parts is =
          let none : rest ≡ [] = nil_from_length rest (omega (arith, ap (λ (l : List RunPage). length l) parts, length-append pages rest, long)) in (
            parts ∙ ap (λ (l : List RunPage). pages ++ l) none ∙ append-nil pages,
            sym (ap (λ (l : List RunPage). page_number (first_number l (Some n))) none) ∙ is,
          )

  one_page : (n m : ℕ) → IsDepartedPage sizes run fold earlier n file → IsDepartedPage sizes run fold earlier m file → n ≡ m
  one_page n m p r =
      elim (cases_lt (length r.pages) (length p.pages)) [
        | inl less ↦
            sym (comes_last m r p.pages n p.begins.first_is p.begins.chained p.begins.apart p.begins.front (omega (arith, less))).1
        | inr few ↦ (comes_last n p r.pages m r.begins.first_is r.begins.chained r.begins.apart r.begins.front (omega (arith, few))).1
      ]

  -- where all pages are right none of them departs
  not_both : (n m : ℕ) → IsDepartedPage sizes run fold earlier n file → IsLastPage sizes run fold earlier m file → ⊥
  not_both n m p end =
      let all = end.before ++ end.last ∷ [] in
      let last = comes_last n p all end.next end.begins.first_is end.begins.chained end.begins.apart end.begins.front (omega (arith, p.more, end.all)) in
      omega (arith, ap (λ (l : List RunPage). length l) last.0, p.more, end.all)

  one_last : (n m : ℕ) → IsLastPage sizes run fold earlier n file → IsLastPage sizes run fold earlier m file → n ≡ m
  one_last n m one other =
      let same = same_pages sizes (one.before ++ one.last ∷ []) (other.before ++ other.last ∷ []) (Some one.next) (Some other.next) file few one.begins.chained
      other.begins.chained (one.begins.first_is ∙ sym other.begins.first_is) (one.all ∙ sym other.all) in
      let last : one.last ≡ other.last =
      some_same (sym (last_push None one.before one.last) ∙ ap (last_or None) same ∙ last_push None other.before other.last) in
      sym one.number_is ∙ ap (λ (q : RunPage). q.number) last ∙ other.number_is
    where
      some_same : {p q : RunPage} → Some p ≡ Some q → p ≡ q
      some_same is = cc

module _ (sizes : Sizes) (progress : Progress) (newer older : Entries) (earlier : List ℕ) (file : List ℕ) (few : page_count sizes ≤ no_page) where
  abbrev fold : Entries
  fold = settled_up_to (Some progress.key) newer older

  -- one page is the first that departs
  pub one_departs : (n m : ℕ) → IsDeparted sizes progress newer older earlier n file → IsDeparted sizes progress newer older earlier m file → n ≡ m
  one_departs n m (page p) (page r) = one_page sizes progress.output fold earlier file few n m p r
  one_departs n m (page p) (whole end met) = absurd (not_both sizes progress.output fold earlier file few n m p end)
  one_departs n m (whole end met) (page r) = absurd (not_both sizes progress.output fold earlier file few m n r end)
  one_departs n m (whole one met) (whole other also) = one_last sizes progress.output fold earlier file few n m one other

  -- and none, where the pages are the output, and they and the next one are apart, also from the earlier ones
  pub none_departs : (n : ℕ) (pages : List RunPage) → IsOutputOf sizes progress newer older pages file
      → IsDistinct nat_eq (earlier ++ numbers_of pages ++ progress.next ∷ []) → IsDeparted sizes progress newer older earlier n file → ⊥
  none_departs n pages output apart departed = by departed
    where
      by : IsDeparted sizes progress newer older earlier n file → ⊥
      by (page p) =
          let last = comes_last sizes progress.output fold earlier file few n p pages progress.next output.reads.first_is output.reads.chained
          (distinct_front (earlier ++ numbers_of pages) (progress.next ∷ []) apart)
          (subst (λ (l : Entries). IsFront l fold) (sym output.entries_are) ([], sym (append-nil fold))) (omega (arith, p.more, output.reads.pages_is)) in
          omega (arith, ap (λ (l : List RunPage). length l) last.0, p.more, output.reads.pages_is)
      by (whole end met) =
          let all = end.before ++ end.last ∷ [] in
          let same : all ≡ pages = same_pages sizes all pages (Some end.next) (Some progress.next) file few end.begins.chained output.reads.chained
          (end.begins.first_is ∙ sym output.reads.first_is) (end.all ∙ sym output.reads.pages_is) in
          let has = met (subst (λ (l : List RunPage). IsOutputOf sizes progress newer older l file) (sym same) output) in
          before_differs (earlier ++ numbers_of pages) progress.next [] apart
          (subst (λ (l : List RunPage). Contains (earlier ++ numbers_of l) progress.next) same has)
