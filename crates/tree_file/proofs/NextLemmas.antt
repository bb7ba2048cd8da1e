-- The next tree's components read in the file where a run, on pages that aren't the tree's, takes the place of what it was made of.
use Rattle.std.specs.Prelude.{◌≡◌, ℕ, List, [], ◌∷◌, ◌++◌, zero, suc, false, nat_eq, refl, Option, None}
use Rattle.std.specs.List.{AllByRecursion, Contains, IsDistinct}
use Rattle.std.proofs.Common.{⊎_elim, append_assoc, sym, subst, ◌∙◌, arith}
use Rattle.std.proofs.lemmas.Bool.{false≢true, eq-eqb, ne_eqb}
use Rattle.std.proofs.lemmas.List.Elements.{Contains-append_left, Contains-append_right, Contains-append_cases}
use Rattle.blsm_model.specs.Sizes.{Sizes}
use Rattle.blsm_model.specs.Components.{empty_component}
use Rattle.blsm_model.specs.declared.component.Component.{Component}
use Rattle.page_file.specs.Component.{RunPage, ReadsAs, entries_of, numbers_of}
use Rattle.gated_log.specs.Lane.{Lane}
use Rattle.catalog_swap.specs.declared.catalog.Catalog.{Catalog}
use Rattle.catalog_swap.specs.declared.catalog.Progress.{Progress}
use Rattle.tree_machine.specs.Layers.{AreBases}
use Rattle.tree_file.specs.Tree.{Tree, HasProgress, HoldsTree, live_pages}
use Rattle.tree_file.specs.Places.{ReadsNext}
use Rattle.tree_file.proofs.OneTree.{no_pages, none_apart}

-- ---- lists of pages none of which is in two of them

abbrev AreOthers : List ℕ → List ℕ → Type 0
AreOthers xs ys = (n : ℕ) → Contains xs n → Contains ys n → ⊥

first_in : (x : ℕ) (xs : List ℕ) → Contains (x ∷ xs) x
first_in x xs = Contains-append_left (x ∷ []) xs x (0, omega arith, refl)

rest_in : (x : ℕ) (xs : List ℕ) (n : ℕ) → Contains xs n → Contains (x ∷ xs) n
rest_in x xs n = Contains-append_right (x ∷ []) xs n

none_in : (n : ℕ) → Contains {X = ℕ} [] n → ⊥
none_in n (k, within, is) = omega (arith, within)

all_front : (P : ℕ → Type 0) (xs ys : List ℕ) → AllByRecursion P (xs ++ ys) → AllByRecursion P xs
all_front P [] ys all = tt
all_front P (x ∷ xs) ys all = (all.0, all_front P xs ys all.1)

all_back : (P : ℕ → Type 0) (xs ys : List ℕ) → AllByRecursion P (xs ++ ys) → AllByRecursion P ys
all_back P [] ys all = all
all_back P (x ∷ xs) ys all = all_back P xs ys all.1

all_both : (P : ℕ → Type 0) (xs ys : List ℕ) → AllByRecursion P xs → AllByRecursion P ys → AllByRecursion P (xs ++ ys)
all_both P [] ys one other = other
all_both P (x ∷ xs) ys one other = (one.0, all_both P xs ys one.1 other)

all_has : (P : ℕ → Type 0) (xs : List ℕ) (n : ℕ) → AllByRecursion P xs → Contains xs n → P n
all_has P [] n all has = absurd (none_in n has)
all_has P (x ∷ xs) n all (zero, within, is) = subst P is all.0
all_has P (x ∷ xs) n all (suc k, within, is) = all_has P xs n all.1 (k, omega (arith, within), is)

all_differ : (x : ℕ) (ys : List ℕ) → (Contains ys x → ⊥) → AllByRecursion (λ y. nat_eq x y ≡ false) ys
all_differ x [] fresh = tt
all_differ x (y ∷ ys) fresh = (ne_eqb x y (λ same. fresh (subst (Contains (y ∷ ys)) (sym same) (first_in y ys))), all_differ x ys (λ has. fresh (rest_in y ys x has)))

distinct_both : (xs ys : List ℕ) → IsDistinct nat_eq xs → IsDistinct nat_eq ys → AreOthers xs ys → IsDistinct nat_eq (xs ++ ys)
unfolding IsDistinct
distinct_both [] ys one other others = other
distinct_both (x ∷ xs) ys one other others = (
  all_both (λ y. nat_eq x y ≡ false) xs ys one.0 (all_differ x ys (others x (first_in x xs))),
  distinct_both xs ys one.1 other (λ n has. others n (rest_in x xs n has)),
)

distinct_front : (xs ys : List ℕ) → IsDistinct nat_eq (xs ++ ys) → IsDistinct nat_eq xs
unfolding IsDistinct
distinct_front [] ys distinct = tt
distinct_front (x ∷ xs) ys distinct = (all_front (λ y. nat_eq x y ≡ false) xs ys distinct.0, distinct_front xs ys distinct.1)

distinct_back : (xs ys : List ℕ) → IsDistinct nat_eq (xs ++ ys) → IsDistinct nat_eq ys
unfolding IsDistinct
distinct_back [] ys distinct = distinct
distinct_back (x ∷ xs) ys distinct = distinct_back xs ys distinct.1

pub distinct_others : (xs ys : List ℕ) → IsDistinct nat_eq (xs ++ ys) → AreOthers xs ys
unfolding IsDistinct
distinct_others [] ys distinct n has also = none_in n has
distinct_others (x ∷ xs) ys distinct n (zero, within, is) also =
    false≢true (sym (all_has (λ y. nat_eq x y ≡ false) ys n (all_back (λ y. nat_eq x y ≡ false) xs ys distinct.0) also) ∙ eq-eqb x n is)
distinct_others (x ∷ xs) ys distinct n (suc k, within, is) also = distinct_others xs ys distinct.1 n (k, omega (arith, within), is) also

-- pages that aren't the components', and the one behind them
pub kept_apart : (live output : List ℕ) (n : ℕ) → IsDistinct nat_eq live → IsDistinct nat_eq (output ++ n ∷ []) → AreOthers live (output ++ n ∷ [])
    → IsDistinct nat_eq ((live ++ output) ++ n ∷ [])
kept_apart live output n one other others = subst (IsDistinct nat_eq) (sym (append_assoc live output (n ∷ []))) (distinct_both live (output ++ n ∷ []) one other others)

-- ---- the next tree

-- what is known of the run: it reads, on pages that aren't the tree's
pub record IsRunBeside (sizes : Sizes) (tree : Tree) (component : Component) (run : List RunPage) (file : List ℕ) : Type 0 where
  pub reads : ReadsAs sizes component run file
  pub others : (n : ℕ) → Contains (numbers_of run) n → Contains (live_pages tree) n → ⊥

-- the three components' pages, as they are apart
record AreThree (one two three : List ℕ) : Type 0 where
  front : IsDistinct nat_eq one
  middle : IsDistinct nat_eq two
  back : IsDistinct nat_eq three
  front_middle : AreOthers one two
  front_back : AreOthers one three
  middle_back : AreOthers two three

three_of : (one two three : List ℕ) → IsDistinct nat_eq (one ++ two ++ three) → AreThree one two three
three_of one two three distinct =
    let fronts = distinct_front (one ++ two) three distinct in
    let backs = distinct_others (one ++ two) three distinct in
    record {
      front = distinct_front one two fronts;
      middle = distinct_back one two fronts;
      back = distinct_back (one ++ two) three distinct;
      front_middle = distinct_others one two fronts;
      front_back = λ n has. backs n (Contains-append_left one two n has);
      middle_back = λ n has. backs n (Contains-append_right one two n has);
    }

three_distinct : (one two three : List ℕ) → AreThree one two three → IsDistinct nat_eq (one ++ two ++ three)
three_distinct one two three are =
    distinct_both (one ++ two) three (distinct_both one two are.front are.middle are.front_middle) are.back
    (λ n has also. ⊎_elim (λ first. are.front_back n first also) (λ second. are.middle_back n second also) (Contains-append_cases one two n has))

-- its catalogue names no deep merge's progress
pub none_named : (sizes : Sizes) (next : Tree) (file : List ℕ) → next.catalogue.progress ≡ None → next.output ≡ [] → HasProgress sizes next.catalogue.progress next file
none_named sizes next file none output = subst (λ (p : Option Progress). HasProgress sizes p next file) (sym none) output

module _ (sizes : Sizes) (tree : Tree) (file : List ℕ) (holds : HoldsTree sizes tree file) where
  lived : AreThree (numbers_of tree.c1) (numbers_of tree.c1x) (numbers_of tree.c2)
  lived = three_of (numbers_of tree.c1) (numbers_of tree.c1x) (numbers_of tree.c2) holds.apart

  live_c1 : (n : ℕ) → Contains (numbers_of tree.c1) n → Contains (live_pages tree) n
  live_c1 n has = Contains-append_left (numbers_of tree.c1 ++ numbers_of tree.c1x) (numbers_of tree.c2) n (Contains-append_left (numbers_of tree.c1) (numbers_of tree.c1x) n has)

  live_c1x : (n : ℕ) → Contains (numbers_of tree.c1x) n → Contains (live_pages tree) n
  live_c1x n has = Contains-append_left (numbers_of tree.c1 ++ numbers_of tree.c1x) (numbers_of tree.c2) n (Contains-append_right (numbers_of tree.c1) (numbers_of tree.c1x) n has)

  live_c2 : (n : ℕ) → Contains (numbers_of tree.c2) n → Contains (live_pages tree) n
  live_c2 n has = Contains-append_right (numbers_of tree.c1 ++ numbers_of tree.c1x) (numbers_of tree.c2) n has

  -- the pass's run becomes C1
  pub live_of_pass : (component : Component) (run : List RunPage) → IsRunBeside sizes tree component run file
      → IsDistinct nat_eq (numbers_of run ++ numbers_of tree.c1x ++ numbers_of tree.c2)
  live_of_pass component run is =
      three_distinct (numbers_of run) (numbers_of tree.c1x) (numbers_of tree.c2) (record {
        front = is.reads.apart;
        middle = lived.middle;
        back = lived.back;
        front_middle = λ n has also. is.others n has (live_c1x n also);
        front_back = λ n has also. is.others n has (live_c2 n also);
        middle_back = lived.middle_back;
      })

  -- beside what a deep merge has finished, if that is named
  pub next_of_pass : (next : Catalog) (a b : Lane) (component : Component) (run output : List RunPage) → IsRunBeside sizes tree component run file
      → next.c1 ≡ component → next.c1x ≡ tree.catalogue.c1x → next.c2 ≡ tree.catalogue.c2
      → HasProgress sizes next.progress (record { catalogue = next; c1 = run; c1x = tree.c1x; c2 = tree.c2; output = output; lane_a = a; lane_b = b }) file
      → ReadsNext sizes (record { catalogue = next; c1 = run; c1x = tree.c1x; c2 = tree.c2; output = output; lane_a = a; lane_b = b }) file
  next_of_pass next a b component run output is c1 c1x c2 progress = record {
    c1 = subst (λ (c : Component). ReadsAs sizes c run file) (sym c1) is.reads;
    c1x = subst (λ (c : Component). ReadsAs sizes c tree.c1x file) (sym c1x) holds.c1x;
    c2 = subst (λ (c : Component). ReadsAs sizes c tree.c2 file) (sym c2) holds.c2;
    apart = live_of_pass component run is;
    bases = holds.bases;
    progress = progress;
  }

  -- or, where C1' is empty, C1', and C1 is empty
  pub next_of_rotated_pass : (next : Catalog) (a b : Lane) (component : Component) (run : List RunPage) → IsRunBeside sizes tree component run file
      → next.c1 ≡ empty_component → next.c1x ≡ component → next.c2 ≡ tree.catalogue.c2 → next.progress ≡ None
      → ReadsNext sizes (record { catalogue = next; c1 = []; c1x = run; c2 = tree.c2; output = []; lane_a = a; lane_b = b }) file
  next_of_rotated_pass next a b component run is c1 c1x c2 none = record {
    c1 = subst (λ (c : Component). ReadsAs sizes c [] file) (sym c1) (no_pages sizes file);
    c1x = subst (λ (c : Component). ReadsAs sizes c run file) (sym c1x) is.reads;
    c2 = subst (λ (c : Component). ReadsAs sizes c tree.c2 file) (sym c2) holds.c2;
    apart = distinct_both (numbers_of run) (numbers_of tree.c2) is.reads.apart lived.back (λ n has also. is.others n has (live_c2 n also));
    bases = holds.bases;
    progress = none_named sizes (record { catalogue = next; c1 = []; c1x = run; c2 = tree.c2; output = []; lane_a = a; lane_b = b }) file none refl;
  }

  -- C1 becomes C1' by itself
  pub next_of_rotation : (next : Catalog) (a b : Lane) → next.c1 ≡ empty_component → next.c1x ≡ tree.catalogue.c1 → next.c2 ≡ tree.catalogue.c2
      → next.progress ≡ None
      → ReadsNext sizes (record { catalogue = next; c1 = []; c1x = tree.c1; c2 = tree.c2; output = []; lane_a = a; lane_b = b }) file
  next_of_rotation next a b c1 c1x c2 none = record {
    c1 = subst (λ (c : Component). ReadsAs sizes c [] file) (sym c1) (no_pages sizes file);
    c1x = subst (λ (c : Component). ReadsAs sizes c tree.c1 file) (sym c1x) holds.c1;
    c2 = subst (λ (c : Component). ReadsAs sizes c tree.c2 file) (sym c2) holds.c2;
    apart = distinct_both (numbers_of tree.c1) (numbers_of tree.c2) lived.front lived.back lived.front_back;
    bases = holds.bases;
    progress = none_named sizes (record { catalogue = next; c1 = []; c1x = tree.c1; c2 = tree.c2; output = []; lane_a = a; lane_b = b }) file none refl;
  }

  -- the deep merge's run becomes C2, and C1' is empty
  pub next_of_deep : (next : Catalog) (a b : Lane) (component : Component) (run : List RunPage) → IsRunBeside sizes tree component run file
      → AreBases (entries_of run)
      → next.c1 ≡ tree.catalogue.c1 → next.c1x ≡ empty_component → next.c2 ≡ component → next.progress ≡ None
      → ReadsNext sizes (record { catalogue = next; c1 = tree.c1; c1x = []; c2 = run; output = []; lane_a = a; lane_b = b }) file
  next_of_deep next a b component run is bases c1 c1x c2 none = record {
    c1 = subst (λ (c : Component). ReadsAs sizes c tree.c1 file) (sym c1) holds.c1;
    c1x = subst (λ (c : Component). ReadsAs sizes c [] file) (sym c1x) (no_pages sizes file);
    c2 = subst (λ (c : Component). ReadsAs sizes c run file) (sym c2) is.reads;
    apart = three_distinct (numbers_of tree.c1) [] (numbers_of run) (record {
      front = lived.front;
      middle = none_apart;
      back = is.reads.apart;
      front_middle = λ n has also. none_in n also;
      front_back = λ n has also. is.others n also (live_c1 n has);
      middle_back = λ n has also. none_in n has;
    });
    bases = bases;
    progress = none_named sizes (record { catalogue = next; c1 = tree.c1; c1x = []; c2 = run; output = []; lane_a = a; lane_b = b }) file none refl;
  }
