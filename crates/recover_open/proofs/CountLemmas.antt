-- How many quanta an opening settles by, from what it found on.
use Rattle.std.proofs.lemmas.Bool.Decides.{nat_tests}
use Rattle.std.proofs.lemmas.Grind.{common_steps}
use Rattle.std.specs.Prelude.{
  ◌≡◌,
  ℕ,
  ◌+◌,
  ◌*◌,
  ◌/◌,
  ◌≤◌,
  ◌<◌,
  IsTrue,
  List,
  Option,
  None,
  Some,
  Result,
  Ok,
  Err,
  IfOk,
  IfSome,
  if◌then◌else◌,
  is_some,
  nat_eq,
}
use Rattle.std.proofs.Common.{◌∙◌, ap, sym, subst, arith}
use Rattle.std.proofs.Math.Nat.{add-mul-div_left, le-div_iff_mul-le, mul-le-mul_right}
use Rattle.disk_trait.specs.Disk.{DiskState}
use Rattle.blsm_model.specs.Components.{empty_component}
use Rattle.blsm_model.specs.Geometry.{page_count}
use Rattle.blsm_model.specs.Sizes.{Sizes}
use Rattle.blsm_model.specs.declared.component.Component.{Component}
use Rattle.catalog_swap.specs.Text.{IsComponent, IsProgressOf}
use Rattle.catalog_swap.specs.declared.catalog.Catalog.{Catalog}
use Rattle.catalog_swap.specs.declared.catalog.Progress.{Progress}
use Rattle.core_moves.specs.declared.held.Settled.{Settled}
use Rattle.page_space.specs.Space.{SpaceState}
use Rattle.record_delta.specs.Entries.{entries_weight}
use Rattle.tree_file.specs.Tree.{HoldsTree}
use Rattle.tree_log.specs.Log.{LogState, listed_in_a}
use Rattle.tree_reading.specs.Reading.{HoldsFound, IsHead}
use Rattle.tree_reading.specs.declared.found.Found.{Found}
use Rattle.tree_reading.specs.declared.found.Unreadable.{Unreadable}
use Rattle.tree_runs.specs.declared.resumable.Resumable.{Resumable}
use Rattle.tree_runs.specs.Ahead.{IsAhead}
use Rattle.tree_runs.specs.Runs.{GuideState, RestsEmpty, RunsState, due_from, first_tags, left_for_deep, opened_from}
use Rattle.tree_settling.specs.Counting.{
  CountsQuanta,
  TakeQuanta,
  most_merges,
  passes_due,
  quanta_bound,
  settling_due,
  settling_least,
  untaken,
  where_so,
  where_some,
}
use Rattle.tree_settling.specs.Settling.{components_of, taken_before}
use Rattle.tree_settling.proofs.LightLemmas.{due_before_it, left_before_it}
use Rattle.recover_open.specs.declared.beginning.Begun.{Begun}
use Rattle.recover_open.specs.Opening.{HasOpenedOn, IsReady}
use Rattle.recover_open.specs.Settled.{CountsSettling, IsLeft, SettlesWithin, opening_due, opening_least}

-- a component has pages just where it weighs something
weighs_some : (pages : ℕ) (component : Component) (n : ℕ) → IsComponent pages component
    → (if nat_eq component.pages 0 then 0 else n) ≡ where_some component.weight n
weighs_some pages component n valid = grind (arith, common_steps, nat_tests)

-- and it does where a deep merge of it is named
named_weighs : (pages : ℕ) (c1x : Component) (progress : Progress) (n : ℕ) → IsProgressOf pages c1x progress → n ≡ where_some c1x.weight n
named_weighs pages c1x progress n named = grind (arith, common_steps, nat_tests)

module _ (sizes : Sizes) (catalogue : Catalog) (head : IsHead sizes catalogue) where
  abbrev both : ℕ
  both = catalogue.c1x.weight + catalogue.c2.weight

  named_in : (progress : Progress) (n : ℕ) → catalogue.progress ≡ Some progress → n ≡ where_some catalogue.c1x.weight n
  named_in progress n is =
      named_weighs (page_count sizes) catalogue.c1x progress n
      (subst (λ (p : Option Progress). IfSome p (IsProgressOf (page_count sizes) catalogue.c1x)) is head.valid.progress)

  -- what is left for the deep merge that was begun with
  pub left_found : (ahead : Option Resumable) → IsAhead first_tags.deep catalogue.progress both ahead
      → IsLeft catalogue (left_for_deep (due_from first_tags.deep catalogue ahead))
  left_found None is =
      let all = left_before_it catalogue ∙ weighs_some (page_count sizes) catalogue.c1x both head.valid.c1x in
      let unnamed : untaken catalogue ≡ both = omega (arith, ap taken_before is) in
      record { within = omega (arith, all, ap (where_some catalogue.c1x.weight) unnamed); all = λ none. all }
  left_found (Some ahead) is = record {
    within = omega (arith, is.2.left, is.2.left_is, ap taken_before is.1, named_in is.0 (untaken catalogue) is.1);
    all = λ none. absurd (some_named is.0 (sym is.1 ∙ none));
  }
    where
      some_named : (progress : Progress) → ◌≡◌ {A = Option Progress} (Some progress) None → ⊥
      some_named progress wrong = cc

  due_here : (ahead : Option Resumable) → IsAhead first_tags.deep catalogue.progress both ahead
      → where_so (is_some (due_from first_tags.deep catalogue ahead)) (untaken catalogue) ≡ where_some catalogue.c1x.weight (untaken catalogue)
  due_here None is = due_before_it catalogue (untaken catalogue) ∙ weighs_some (page_count sizes) catalogue.c1x (untaken catalogue) head.valid.c1x
  due_here (Some ahead) is = named_in is.0 (untaken catalogue) is.1

  -- what is due of what was found
  pub due_found : (space : SpaceState) (guides : List GuideState) (ahead : Option Resumable) (log : LogState)
      → IsAhead first_tags.deep catalogue.progress both ahead
      → settling_due (opened_from sizes catalogue space guides ahead) log ≡ opening_due sizes catalogue (listed_in_a log)
      (entries_weight log.b.entries)
  due_found space guides ahead log is =
      let a = listed_in_a log in
      let b = entries_weight log.b.entries in
      ap (λ (n : ℕ). n + passes_due sizes catalogue.c1.weight a b (components_of catalogue + (a + b))) (due_here ahead is)

-- as many as there are whole quanta, and one more for each merge
few_by : (q n due merges : ℕ) → 0 < q → q * n ≤ due + merges * q → n ≤ due / q + merges
few_by q n due merges some few =
    let within : n ≤ (due + q * merges) / q = (le-div_iff_mul-le {k = q} {x = n} {y = due + q * merges} some).1 (omega (arith, few)) in
    subst (λ (most : ℕ). n ≤ most) (add-mul-div_left due merges some) within

five_merges : (a b : ℕ) → 1 + most_merges a b ≤ 5
five_merges a b = grind (arith, common_steps, nat_tests)

-- with both lanes empty
one_merge : (a b : ℕ) → a ≡ 0 → b ≡ 0 → 1 + most_merges a b ≡ 1
one_merge a b none_a none_b = grind (arith, common_steps, nat_tests)

one_due : (sizes : Sizes) (c1x n c1 a b all : ℕ) → a ≡ 0 → b ≡ 0 → where_some c1x n + passes_due sizes c1 a b all ≤ n
one_due sizes c1x n c1 a b all none_a none_b = grind (arith, common_steps, nat_tests)

pub settles_within : (sizes : Sizes) (catalogue : Catalog) (a b : ℕ) (old new : RunsState) (settled : Settled) (left least due : ℕ) → 0 <
    sizes.quantum
    → old.sizes ≡ sizes → old.catalogue ≡ catalogue
    → IsLeft catalogue left → least ≡ opening_least catalogue left a b → due ≡ opening_due sizes catalogue a b
    → settled.bound ≡ quanta_bound sizes due
    → settled.version ≡ new.catalogue.version → CountsQuanta (1 + most_merges a b) least due old new settled.quanta
    → SettlesWithin sizes catalogue a b new.catalogue settled
settles_within sizes catalogue a b old new settled left least due some same components left_is least_is due_is bound_is version counts =
    let takes = subst (λ (s : Sizes). TakeQuanta s (1 + most_merges a b) settled.quanta counts.taken) same counts.takes in
    let five = mul-le-mul_right sizes.quantum (five_merges a b) in
    record {
      version = version;
      bound = bound_is ∙ ap (quanta_bound sizes) due_is;
      few = omega (arith, bound_is, few_by sizes.quantum settled.quanta due 5 some (omega (arith, takes.enough, counts.within, five)));
      left = left;
      left_is = left_is;
      much = omega (arith, takes.light, counts.all, least_is);
      none = λ no_due. omega (arith, takes.some, counts.within, due_is, no_due);
      grows = omega (arith, counts.grows, takes.light, ap components_of components);
      one = λ none_a none_b.
          few_by sizes.quantum settled.quanta (untaken catalogue) 1 some
          (omega (
            arith,
            takes.enough,
            ap (λ (m : ℕ). m * sizes.quantum) (one_merge a b none_a none_b),
            counts.within,
            due_is,
            one_due sizes catalogue.c1x.weight (untaken catalogue) catalogue.c1.weight a b (components_of catalogue + (a + b)) none_a none_b,
          ));
    }

-- what was begun with was settled
pub counts_from : (result : Result Begun Unreadable) (found : Found) (begun : Begun) → 0 < found.geometry.quantum
    → IsHead found.geometry found.catalogue
    → IsAhead first_tags.deep found.catalogue.progress (found.catalogue.c1x.weight + found.catalogue.c2.weight) found.ahead
    → begun.runs ≡ opened_from found.geometry found.catalogue found.space found.guides found.ahead
    → begun.log ≡ record { a = found.a; b = found.b; lanes = found.lanes } → found.a.dropped ≡ 0
    → begun.settled.bound ≡ quanta_bound begun.runs.sizes (settling_due begun.runs begun.log)
    → IfOk result (λ ready. CountsQuanta (1 + most_merges (listed_in_a begun.log) (entries_weight begun.log.b.entries))
    (settling_least begun.runs begun.log) (settling_due begun.runs begun.log) begun.runs ready.runs ready.settled.quanta
    × (ready.settled.bound ≡ begun.settled.bound) × (ready.settled.version ≡ ready.runs.catalogue.version))
    → IfOk result (λ ready. SettlesWithin found.geometry found.catalogue (entries_weight found.a.entries) (entries_weight found.b.entries)
    ready.runs.catalogue ready.settled)
counts_from (Ok ready) found begun some head ahead runs_are log_are none_dropped bound_is counts =
    let sizes = found.geometry in
    let due = settling_due begun.runs begun.log in
    let listed : listed_in_a begun.log ≡ entries_weight found.a.entries = omega (arith, ap listed_in_a log_are, none_dropped) in
    let other : entries_weight begun.log.b.entries ≡ entries_weight found.b.entries = ap (λ (l : LogState). entries_weight l.b.entries) log_are in
    let due_is : due ≡ opening_due sizes found.catalogue (entries_weight found.a.entries) (entries_weight found.b.entries) =
    ap (λ (r : RunsState). settling_due r begun.log) runs_are ∙ due_found sizes found.catalogue head found.space found.guides found.ahead begun.log
    ahead
    ∙ ap (λ (n : ℕ). opening_due sizes found.catalogue n (entries_weight begun.log.b.entries)) listed
    ∙ ap (opening_due sizes found.catalogue (entries_weight found.a.entries)) other in
    let left = left_for_deep (due_from first_tags.deep found.catalogue found.ahead) in
    let least_is : settling_least begun.runs begun.log ≡ opening_least found.catalogue left (entries_weight found.a.entries)
    (entries_weight found.b.entries) =
    ap (λ (r : RunsState). settling_least r begun.log) runs_are
    ∙ ap (λ (n : ℕ). opening_least found.catalogue left n (entries_weight begun.log.b.entries)) listed
    ∙ ap (opening_least found.catalogue left (entries_weight found.a.entries)) other in
    settles_within sizes found.catalogue (entries_weight found.a.entries) (entries_weight found.b.entries) begun.runs ready.runs ready.settled
    left (settling_least begun.runs begun.log) due some
    (ap (λ (r : RunsState). r.sizes) runs_are) (ap (λ (r : RunsState). r.catalogue) runs_are)
    (left_found sizes found.catalogue head found.ahead ahead)
    least_is due_is
    (counts.1 ∙ bound_is ∙ ap (λ (r : RunsState). quanta_bound r.sizes due) runs_are) counts.2
    (subst (λ (n : ℕ). CountsQuanta (1 + n) (settling_least begun.runs begun.log) due begun.runs ready.runs ready.settled.quanta)
    (ap (λ (n : ℕ). most_merges n (entries_weight begun.log.b.entries)) listed ∙ ap (most_merges (entries_weight found.a.entries)) other) counts.0)
counts_from (Err why) found begun some head ahead runs_are log_are none_dropped bound_is counts = tt

-- components that had counted none count these quanta alone
pub counted_first : (result : Result Begun Unreadable) (begun : Begun) → begun.runs.quanta ≡ 0
    → IfOk result (λ ready. begun.runs.quanta ≡ 0 → ready.runs.quanta ≡ ready.settled.quanta)
    → IfOk result (λ ready. ready.runs.quanta ≡ ready.settled.quanta)
counted_first (Ok ready) begun none counted = counted none
counted_first (Err why) begun none counted = tt

-- where no deep merge runs C1' is empty
rests_empty : (runs : RunsState) → runs.deep ≡ None → RestsEmpty runs.deep runs.catalogue.c1x → runs.catalogue.c1x ≡ empty_component
rests_empty runs is rests = subst (λ merge. RestsEmpty merge runs.catalogue.c1x) is rests

-- so of any answer
pub counted_as : (result : Result Begun Unreadable) (found : Found) (version : ℕ) (old new : DiskState) → IsHead found.geometry found.catalogue
    → (IsTrue old.is_honest → HoldsFound found old.bytes)
    → IfOk result (λ begun. SettlesWithin found.geometry found.catalogue (entries_weight found.a.entries) (entries_weight found.b.entries)
    begun.runs.catalogue begun.settled)
    → IfOk result (λ begun. IsReady found.geometry version begun.runs begun.log new)
    → (IsTrue old.is_honest → IfOk result (λ begun. HasOpenedOn begun.runs old.bytes new))
    → IfOk result (λ begun. CountsSettling begun.runs.sizes begun.runs.catalogue begun.settled old new)
counted_as (Ok begun) found version old new head holds counts ready opened =
    subst (λ (s : Sizes). CountsSettling s begun.runs.catalogue begun.settled old new) (sym ready.sizes_are)
    (record {
      catalogue = found.catalogue;
      head = head;
      a = entries_weight found.a.entries;
      b = entries_weight found.b.entries;
      counts = counts;
      empty = rests_empty begun.runs ready.settled.deep ready.may.running.in_order.rests;
      reads = λ honest.
          let has = holds honest in
          (has.tree, has.holds, has.catalogue, ap entries_weight (sym has.table_a), ap entries_weight (sym has.table_b));
      now = λ honest.
          let stands = (opened honest).stands in (
            stands.tree,
            subst (λ (s : Sizes). HoldsTree s stands.tree new.bytes) ready.sizes_are stands.over.are_of.holds,
            stands.over.are_of.catalogue,
            stands.lane_a,
            stands.lane_b,
          );
    })
counted_as (Err why) found version old new head holds counts ready opened = tt
