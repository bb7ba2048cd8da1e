-- Lookups in one component after the other.
use Rattle.std.specs.Prelude.{◌≡◌, ◌≢◌, ◌⊎◌, ℕ, ◌+◌, ◌≤◌, IsTrue, List, length, Option, Result, Ok, Err, IfOk}
use Rattle.std.proofs.lemmas.Grind.{common_steps}
use Rattle.std.proofs.lemmas.Bool.Decides.{nat_tests}
use Rattle.std.proofs.Common.{◌∙◌, inl, inr, ap, sym, subst, refl, arith}
use Rattle.refusal.specs.Count.{HasRisen}
use Rattle.disk_trait.specs.Disk.{DiskState}
use Rattle.disk_trait.specs.Moments.{IsTimed}
use Rattle.disk_trait.proofs.ReadLemmas.{only_reads_more, only_reads_same}
use Rattle.blsm_model.specs.declared.component.Component.{Component}
use Rattle.blsm_model.specs.declared.key.Key.{Key}
use Rattle.blsm_model.specs.Sizes.{Sizes}
use Rattle.blsm_model.specs.Geometry.{file_length}
use Rattle.record_delta.specs.declared.record.Rec.{Rec}
use Rattle.record_delta.specs.Entries.{over_any, record_of_key}
use Rattle.page_file.specs.declared.file.Broken.{Broken}
use Rattle.page_file.specs.declared.file.Broken.TheVariants.{Damaged, Fault}
use Rattle.page_file.specs.File.{Reads}
use Rattle.page_file.specs.Component.{ReadsAs, entries_of}
use Rattle.bloom_bits.specs.BitSet.{BitState}
use Rattle.bloom_bits.specs.Filter.{MayHave}
use Rattle.catalog_swap.specs.declared.catalog.Catalog.{Catalog}
use Rattle.tree_machine.proofs.FoldLemmas.{over_any_assoc}
use Rattle.tree_file.specs.Tree.{Tree, HoldsTree}
use Rattle.run_cursor.specs.Lookup.{IsDamaged}
use Rattle.tree_runs.specs.Lookups.{AreAsked, CountsAsked, CountsYes, HasRecord, HidesOlder, IsDamageBelow, IsFloorOf, IsToldBy, found_by}
use Rattle.tree_runs.specs.Lookups.{first_record, first_run, first_tag, from_newest}
use Rattle.tree_runs.specs.Runs.{RunsState, filter_of, guide_at}
use Rattle.tree_runs.specs.Holding.{AreGuided}
use Rattle.tree_runs.proofs.ReleasedLemmas.{component_has, first_has}
use Rattle.tree_runs.proofs.ToldLemmas.{Tells, TellsOne, tells_behind, tells_failed, tells_last}

-- the record of the first over that of the second
abbrev pub AreBoth : (List ℕ → Option Rec → Type 0) → (List ℕ → Option Rec → Type 0) → List ℕ → Option Rec → Type 0
AreBoth First Second file rec = (one : Option Rec) × (other : Option Rec) × First file one × Second file other × (rec ≡ over_any one other)

-- what a lookup gives: the newer record over what the file has below it
pub record Looks (sizes : Sizes) (pages : ℕ) (Has : List ℕ → Option Rec → Type 0) (newer : Option Rec) (result : Result (Option Rec) Broken) (old new : DiskState) : Type 0 where
  pub list : (older : Option Rec) → IsTrue old.is_honest → Has old.bytes older → result ≢ Err Fault → result ≡ Ok (over_any newer older)
  pub reads : Reads (file_length sizes) pages result old new

pub no_fault : (found : Option Rec) → ◌≡◌ {A = Result (Option Rec) Broken} (Ok found) (Err Fault) → ⊥
no_fault found wrong = cc

same_found : (found other : Option Rec) → ◌≡◌ {A = Result (Option Rec) Broken} (Ok found) (Ok other) → found ≡ other
same_found found other is = cc

-- one lookup behind another
pub looks_behind : {First Second : List ℕ → Option Rec → Type 0} {newer found : Option Rec} {result : Result (Option Rec) Broken} {old mid new : DiskState} (sizes : Sizes) (p q : ℕ) → IsTimed mid
    → Looks sizes p First newer (Ok found) old mid → Looks sizes q Second found result mid new → Looks sizes (p + q) (AreBoth First Second) newer result old new
looks_behind {First} {Second} {newer} {found} {result} {old} {mid} {new} sizes p q timed one two = record {
  list = λ older honest has other.
      let is = same_found found (over_any newer has.0) (one.list has.0 honest has.2 (no_fault found)) in
      let same = only_reads_same one.reads.effect honest in
      two.list has.1 (subst IsTrue (sym one.reads.effect.effect.goes_on.is_honest) honest) (subst (λ (file : List ℕ). Second file has.1) (sym same) has.3) other
      ∙ ap (λ (o : Option Rec). Ok (over_any o has.1)) is
      ∙ ap (λ (o : Option Rec). Ok o) (over_any_assoc newer has.0 has.1 ∙ ap (over_any newer) (sym has.4));
  reads = record {
    effect = only_reads_more timed calm one.reads.effect two.reads.effect (omega arith) (omega arith);
    stands = λ other. two.reads.stands other ∙ calm;
    failed = λ is. subst (λ (n : ℕ). HasRisen n new.faults) calm (two.reads.failed is);
  };
}
  where
    calm : mid.faults ≡ old.faults
    calm = one.reads.stands (no_fault found)

-- a lookup that failed, before another
pub looks_failed : {First Second : List ℕ → Option Rec → Type 0} {newer : Option Rec} {broken : Broken} {result : Result (Option Rec) Broken} {old new : DiskState} (sizes : Sizes) (p q : ℕ)
    → Looks sizes p First newer (Err broken) old new → result ≡ Err broken → Looks sizes (p + q) (AreBoth First Second) newer result old new
looks_failed sizes p q h1 h2 = grind (arith, common_steps, nat_tests)

-- ---- how often one is asked

-- it is asked once at most, and where its filter says no not at all
pub asked : {A : Type 0} {end : ℕ} {result : Result A Broken} {old new : DiskState} → IsTimed old → (n : ℕ) → (1 ≤ n) ⊎ (new ≡ old) → Reads end 1 result old new → Reads end n result old new
asked h1 n h2 h3 = grind (arith, common_steps, nat_tests)

-- nor where what is newer hides it
pub asked_below : {A : Type 0} {end : ℕ} {result : Result A Broken} {old new : DiskState} (newer : Option Rec) (filter : BitState) (key : Key) (n : ℕ) → IsTimed old
    → ((n : ℕ) → CountsYes filter key n → Reads end n result old new) → (HidesOlder newer → new ≡ old) → CountsAsked newer filter key n → Reads end n result old new
asked_below newer filter key n timed reads none (inl hides) = asked timed n (inr (none hides)) (reads 1 (inl (omega arith)))
asked_below newer filter key n timed reads none (inr counts) = reads n counts

-- ---- one component

-- what the lookup in one run ensures, whose pages have this tag
pub record FindsBelow (runs : RunsState) (component : Component) (tag : ℕ) (key : Key) (newer : Option Rec) (result : Result (Option Rec) Broken) (old new : DiskState) : Type 1 where
  pub list : (rec : Option Rec) → IsTrue old.is_honest → HasRecord runs.sizes component (guide_at runs.guides tag) key old.bytes rec
      → result ≢ Err Fault
      → result ≡ Ok (over_any newer rec)
  pub told : TellsOne runs.sizes key (component, guide_at runs.guides tag) newer result old
  pub reads : (n : ℕ) → CountsYes (filter_of runs tag) key n → Reads (file_length runs.sizes) n result old new
  pub none : HidesOlder newer → new ≡ old

looks_below : {component : Component} {tag : ℕ} {newer : Option Rec} {result : Result (Option Rec) Broken} {old new : DiskState} (runs : RunsState) (key : Key) → IsTimed old
    → FindsBelow runs component tag key newer result old new → (n : ℕ) → CountsAsked newer (filter_of runs tag) key n
    → Looks runs.sizes n (HasRecord runs.sizes component (guide_at runs.guides tag) key) newer result old new
looks_below {component} {tag} {newer} runs key timed one n counts = record {
  list = one.list;
  reads = asked_below newer (filter_of runs tag) key n timed one.reads one.none counts;
}

-- where components and tags are those of equal runs
pub finds_where : {before runs : RunsState} {key : Key} {newer : Option Rec} {result : Result (Option Rec) Broken} {old new : DiskState} (component : RunsState → Component) (tag : RunsState → ℕ) → before ≡ runs
    → FindsBelow runs (component before) (tag before) key newer result old new → FindsBelow runs (component runs) (tag runs) key newer result old new
finds_where {runs = runs} {key = key} {newer = newer} {result = result} {old = old} {new = new} component tag is finds = subst (λ (s : RunsState). FindsBelow runs (component s) (tag s) key newer result old new) is finds

-- or are these
pub finds_as : {component other : Component} {tag role : ℕ} {runs : RunsState} {key : Key} {newer : Option Rec} {result : Result (Option Rec) Broken}
    {old new : DiskState}
    → component ≡ other → tag ≡ role → FindsBelow runs component tag key newer result old new → FindsBelow runs other role key newer result old new
finds_as {component} {other} {tag} {role} {runs} {key} {newer} {result} {old} {new} is_run is_tag finds =
    subst (λ (t : ℕ). FindsBelow runs other t key newer result old new) is_tag
    (subst (λ (c : Component). FindsBelow runs c tag key newer result old new) is_run finds)

-- what was found there
found_in : {component : Component} {tag : ℕ} {key : Key} {newer found : Option Rec} {old new : DiskState} {runs : RunsState} → FindsBelow runs component tag key newer (Ok found) old new → IsTrue old.is_honest
    → (rec : Option Rec) → HasRecord runs.sizes component (guide_at runs.guides tag) key old.bytes rec → found ≡ over_any newer rec
found_in {newer = newer} {found = found} one honest rec has = same_found found (over_any newer rec) (one.list rec honest has (no_fault found))

-- ---- all three

-- what a lookup gives in C1, or in what stands in its place, and in C1' and C2
abbrev pub LooksUp : RunsState → Option Key → Key → ℕ → Option Rec → Result (Option Rec) Broken → DiskState → DiskState → Type 0
LooksUp runs floor key calls newer result old new =
    Looks runs.sizes calls
    (AreBoth
    (AreBoth (HasRecord runs.sizes (first_run floor key runs) (guide_at runs.guides (first_tag floor key runs)) key)
    (HasRecord runs.sizes runs.catalogue.c1x (guide_at runs.guides runs.tags.c1x) key))
    (HasRecord runs.sizes runs.catalogue.c2 (guide_at runs.guides runs.tags.c2) key))
    newer result old new

-- in this file the tree is read, and the floor is that of its table A
pub record IsTreeAt (runs : RunsState) (floor : Option Key) (tree : Tree) (file : List ℕ) : Type 0 where
  pub holds : HoldsTree runs.sizes tree file
  pub now : tree.catalogue ≡ runs.catalogue
  pub guided : AreGuided runs.guides runs.tags tree
  pub released : IsFloorOf floor runs tree file

pub record FindsAll (runs : RunsState) (floor : Option Key) (key : Key) (newer : Option Rec) (result : Result (Option Rec) Broken)
    (old new : DiskState) : Type 0 where
  pub looks : (c1 c1x c2 : ℕ) → CountsYes (filter_of runs (first_tag floor key runs)) key c1 → CountsYes (filter_of runs runs.tags.c1x) key c1x
      → CountsYes (filter_of runs runs.tags.c2) key c2
      → LooksUp runs floor key (c1 + c1x + c2) newer result old new
  pub ends : (tree : Tree) (c1 c1x c2 : ℕ) → IsTrue old.is_honest → IsTreeAt runs floor tree old.bytes
      → AreAsked newer floor key runs tree c1 c1x c2
      → Reads (file_length runs.sizes) (c1 + c1x + c2) result old new
  pub tells : Tells runs.sizes key (from_newest floor key runs) newer result old

-- the records that the tree has
module _ (runs : RunsState) (floor : Option Key) (key : Key) (tree : Tree) (file : List ℕ) (at : IsTreeAt runs floor tree file) where
  first_at : HasRecord runs.sizes (first_run floor key runs) (guide_at runs.guides (first_tag floor key runs)) key file
      (first_record floor key tree)
  first_at = first_has runs floor key tree file at.holds at.now at.guided at.released

  second_at : HasRecord runs.sizes runs.catalogue.c1x (guide_at runs.guides runs.tags.c1x) key file (record_of_key key (entries_of tree.c1x))
  second_at = component_has runs.sizes runs.catalogue.c1x (guide_at runs.guides runs.tags.c1x) key tree.c1x file
      (subst (λ (k : Catalog). ReadsAs runs.sizes k.c1x tree.c1x file) at.now at.holds.c1x) at.guided.c1x

  third_at : HasRecord runs.sizes runs.catalogue.c2 (guide_at runs.guides runs.tags.c2) key file (record_of_key key (entries_of tree.c2))
  third_at = component_has runs.sizes runs.catalogue.c2 (guide_at runs.guides runs.tags.c2) key tree.c2 file
      (subst (λ (k : Catalog). ReadsAs runs.sizes k.c2 tree.c2 file) at.now at.holds.c2) at.guided.c2

-- the first wasn't read
pub finds_failed : {newer : Option Rec} {broken : Broken} {result : Result (Option Rec) Broken} {old new : DiskState} (runs : RunsState)
    (floor : Option Key) (key : Key) → IsTimed old
    → FindsBelow runs (first_run floor key runs) (first_tag floor key runs) key newer (Err broken) old new → result ≡ Err broken
    → FindsAll runs floor key newer result old new
finds_failed {newer} {broken} {result} {old} {new} runs floor key timed one is = record {
  looks = λ c1 c1x c2 asked others last. looks c1 c1x c2 (inr asked);
  ends = λ tree c1 c1x c2 honest at asked. (looks c1 c1x c2 asked.first).reads;
  tells = tells_failed runs.sizes key _ _ one.told is;
}
  where
    looks : (c1 c1x c2 : ℕ) → CountsAsked newer (filter_of runs (first_tag floor key runs)) key c1
        → LooksUp runs floor key (c1 + c1x + c2) newer result old new
    looks c1 c1x c2 asked = looks_failed runs.sizes (c1 + c1x) c2 (looks_failed runs.sizes c1 c1x (looks_below runs key timed one c1 asked) refl) is

module _ (runs : RunsState) (floor : Option Key) (key : Key) {newer found : Option Rec} {old mid : DiskState} (timed : IsTimed old)
    (one : FindsBelow runs (first_run floor key runs) (first_tag floor key runs) key newer (Ok found) old mid) (timed_too : IsTimed mid) where
  -- what was found first in a tree that is read hides C1' or doesn't
  found_first : (tree : Tree) (n : ℕ) → IsTrue old.is_honest → IsTreeAt runs floor tree old.bytes
      → CountsAsked (over_any newer (first_record floor key tree)) (filter_of runs runs.tags.c1x) key n
      → CountsAsked found (filter_of runs runs.tags.c1x) key n
  found_first tree n honest at asked =
      subst (λ (r : Option Rec). CountsAsked r (filter_of runs runs.tags.c1x) key n)
      (sym (found_in one honest (first_record floor key tree) (first_at runs floor key tree old.bytes at))) asked

  -- the first was, and C1' wasn't
  pub finds_failed_second : {broken : Broken} {result : Result (Option Rec) Broken} {new : DiskState}
      → FindsBelow runs runs.catalogue.c1x runs.tags.c1x key found (Err broken) mid new → result ≡ Err broken
      → FindsAll runs floor key newer result old new
  finds_failed_second {broken} {result} {new} two is = record {
    looks = λ c1 c1x c2 asked others last. looks c1 c1x c2 (inr asked) (inr others);
    ends = λ tree c1 c1x c2 honest at asked. (looks c1 c1x c2 asked.first (found_first tree c1x honest at asked.second)).reads;
    tells = tells_behind runs.sizes key _ _ one.told (one.reads 1 (inl (omega arith))).effect (tells_failed runs.sizes key _ _ two.told is);
  }
    where
      looks : (c1 c1x c2 : ℕ) → CountsAsked newer (filter_of runs (first_tag floor key runs)) key c1
          → CountsAsked found (filter_of runs runs.tags.c1x) key c1x → LooksUp runs floor key (c1 + c1x + c2) newer result old new
      looks c1 c1x c2 asked others = looks_failed runs.sizes (c1 + c1x) c2 (looks_behind runs.sizes c1 c1x timed_too (looks_below runs key timed one c1 asked) (looks_below runs key timed_too two c1x others)) is

  -- both were
  pub finds_all : {found' : Option Rec} {result : Result (Option Rec) Broken} {then new : DiskState} → FindsBelow runs runs.catalogue.c1x runs.tags.c1x key found (Ok found') mid then → IsTimed then
      → FindsBelow runs runs.catalogue.c2 runs.tags.c2 key found' result then new → FindsAll runs floor key newer result old new
  finds_all {found'} {result} {then} {new} two timed_last three = record {
    looks = λ c1 c1x c2 asked others last. looks c1 c1x c2 (inr asked) (inr others) (inr last);
    ends = λ tree c1 c1x c2 honest at asked.
        let read = (one.reads 1 (inl (omega arith))).effect in
        let there = record_of_key key (entries_of tree.c1x) in
        let second = subst (λ (file : List ℕ). HasRecord runs.sizes runs.catalogue.c1x (guide_at runs.guides runs.tags.c1x) key file there)
        (sym (only_reads_same read honest))
        (second_at runs floor key tree old.bytes at) in
        let below = found_in two (subst IsTrue (sym read.effect.goes_on.is_honest) honest) there second
        ∙ ap (λ (r : Option Rec). over_any r there) (found_in one honest (first_record floor key tree)
        (first_at runs floor key tree old.bytes at)) in
        (looks c1 c1x c2 asked.first (found_first tree c1x honest at asked.second)
        (subst (λ (r : Option Rec). CountsAsked r (filter_of runs runs.tags.c2) key c2) (sym below) asked.third)).reads;
    tells = tells_behind runs.sizes key _ _ one.told (one.reads 1 (inl (omega arith))).effect
        (tells_behind runs.sizes key _ _ two.told (two.reads 1 (inl (omega arith))).effect (tells_last runs.sizes key _ three.told));
  }
    where
      looks : (c1 c1x c2 : ℕ) → CountsAsked newer (filter_of runs (first_tag floor key runs)) key c1
          → CountsAsked found (filter_of runs runs.tags.c1x) key c1x → CountsAsked found' (filter_of runs runs.tags.c2) key c2
          → LooksUp runs floor key (c1 + c1x + c2) newer result old new
      looks c1 c1x c2 asked others last =
          looks_behind runs.sizes (c1 + c1x) c2 timed_last
          (looks_behind runs.sizes c1 c1x timed_too (looks_below runs key timed one c1 asked) (looks_below runs key timed_too two c1x others)) (looks_below runs key timed_last three c2 last)

module _ {runs : RunsState} {floor : Option Key} {key : Key} {newer : Option Rec} {result : Result (Option Rec) Broken} {old new : DiskState}
    (all : FindsAll runs floor key newer result old new) where
  -- each was asked once at most
  pub once_each : LooksUp runs floor key 3 newer result old new
  once_each = all.looks 1 1 1 (inl (omega arith)) (inl (omega arith)) (inl (omega arith))

  pub looked_up : (tree : Tree) → IsTrue old.is_honest → IsTreeAt runs floor tree old.bytes → result ≢ Err Fault
      → result ≡ Ok (over_any newer (over_any (first_record floor key tree)
      (over_any (record_of_key key (entries_of tree.c1x)) (record_of_key key (entries_of tree.c2)))))
  looked_up tree honest at other =
      once_each.list (over_any (over_any one two) three) honest (
        over_any one two,
        three,
        (one, two, first_at runs floor key tree old.bytes at, second_at runs floor key tree old.bytes at, refl),
        third_at runs floor key tree old.bytes at,
        refl,
      ) other
      ∙ ap (λ (o : Option Rec). Ok (over_any newer o)) (over_any_assoc one two three)
    where
      one : Option Rec
      one = first_record floor key tree

      two : Option Rec
      two = record_of_key key (entries_of tree.c1x)

      three : Option Rec
      three = record_of_key key (entries_of tree.c2)

-- ---- what was found, and what was not

pub not_failed : {A : Type 0} {newer : A} {broken : Broken} → ◌≡◌ {A = Result A Broken} (Err broken) (Ok newer) → ⊥
not_failed is = cc

-- what a filter that was asked says of its lookup's calls
pub answered : {A : Type 0} {end : ℕ} {result : Result A Broken} {old new : DiskState} (filter other : BitState) (key : Key) (n : ℕ) → other ≡ filter
    → ((MayHave other key → ⊥) → new ≡ old) → IsTimed old → CountsYes filter key n → Reads end 1 result old new → Reads end n result old new
answered {A} {end} {result} {old} {new} filter other key n is quiet timed (inl some) reads = asked timed n (inl some) reads
answered {A} {end} {result} {old} {new} filter other key n is quiet timed (inr quietly) reads =
    asked timed n (inr (quiet (subst (λ (f : BitState). MayHave f key → ⊥) (sym is) quietly))) reads

-- the same calls, told otherwise
pub reads_failed : {A B : Type 0} {end n : ℕ} {broken : Broken} {result : Result A Broken} {old new : DiskState} (outcome : Result B Broken) → result ≡ Err broken → outcome ≡ Err broken → Reads end n result old new
    → Reads end n outcome old new
reads_failed outcome h1 h2 h3 = grind (arith, common_steps, nat_tests)

pub reads_found : {A B : Type 0} {end n : ℕ} {found : A} {result : Result A Broken} {old new : DiskState} (other : B) → result ≡ Ok found → Reads end n result old new → Reads end n (Ok other) old new
reads_found other h1 h2 = grind (arith, common_steps, nat_tests)

-- calls that went well, and others
pub reads_then : {A B : Type 0} {end m n total : ℕ} {value : A} {result : Result B Broken} {old mid new : DiskState} → IsTimed mid → Reads end m (Ok value) old mid → Reads end n result mid new → m + n ≤ total
    → Reads end total result old new
reads_then h1 h2 h3 h4 = grind (arith, common_steps, nat_tests)

-- the file stays as long
pub reads_long : {A : Type 0} {end n : ℕ} {result : Result A Broken} {old new : DiskState} → Reads end n result old new → (IsTrue old.tells_bytes → length old.bytes ≡ end) → IsTrue new.tells_bytes → length new.bytes ≡ end
reads_long reads long tells = grind (arith, common_steps, nat_tests)

pub no_unit_fault : (value : Unit {0}) → ◌≡◌ {A = Result (Unit {0}) Broken} (Ok value) (Err Fault) → ⊥
no_unit_fault value wrong = cc

-- ---- what is left in a place, told as an answer

pub reads_by : {end n : ℕ} {old new : DiskState} (result : Result (Unit {0}) Broken) (found : Option Rec) → Reads end n result old new → Reads end n (found_by result found) old new
reads_by (Ok value) found reads = reads_found found refl reads
reads_by (Err broken) found reads = reads_failed (Err broken) refl refl reads

reads_of : {end n : ℕ} {old new : DiskState} (result : Result (Unit {0}) Broken) (found : Option Rec) → Reads end n (found_by result found) old new → Reads end n result old new
reads_of (Ok value) found reads = reads_found value refl reads
reads_of (Err broken) found reads = reads_failed (Err broken) refl refl reads

same_broken : (one other : Broken) → ◌≡◌ {A = Result (Option Rec) Broken} (Err one) (Err other) → one ≡ other
same_broken one other is = cc

broken_by : (result : Result (Unit {0}) Broken) (found : Option Rec) (broken : Broken) → found_by result found ≡ Err broken → result ≡ Err broken
broken_by (Ok value) found broken is = absurd (not_failed (sym is))
broken_by (Err other) found broken is = ap Err (same_broken other broken is)

-- what the lookup in one run ensures
pub below_by : {runs : RunsState} {component : Component} {tag : ℕ} {key : Key} {newer : Option Rec} {old new : DiskState} (result : Result (Unit {0}) Broken) (found : Option Rec)
    → ((rec : Option Rec) → IsTrue old.is_honest → HasRecord runs.sizes component (guide_at runs.guides tag) key old.bytes rec → result ≢ Err Fault
    → found_by result found ≡ Ok (over_any newer rec))
    → IfOk (found_by result found) (λ rec. IsTrue old.is_honest → IsToldBy runs.sizes key old.bytes (component, guide_at runs.guides tag) newer rec)
    → ((n : ℕ) → result ≡ Err (Damaged n) → IsTrue old.is_honest
    → (HidesOlder newer → ⊥) × IsDamaged runs.sizes component (guide_at runs.guides tag).filter (guide_at runs.guides tag).fences key n old.bytes)
    → ((n : ℕ) → CountsYes (filter_of runs tag) key n → Reads (file_length runs.sizes) n result old new) → (HidesOlder newer → new ≡ old)
    → FindsBelow runs component tag key newer (found_by result found) old new
below_by result found list told damaged reads none = record {
  list = λ rec honest has other. list rec honest has (λ is. other (ap (λ (r : Result (Unit {0}) Broken). found_by r found) is));
  told = record { told = told; damaged = λ n is honest. damaged n (broken_by result found (Damaged n) is) honest };
  reads = λ n counts. reads_by result found (reads n counts);
  none = none;
}

-- and what all three give
module _ {runs : RunsState} {floor : Option Key} {key : Key} {newer : Option Rec} {old new : DiskState} (result : Result (Unit {0}) Broken)
    (found : Option Rec)
    (all : FindsAll runs floor key newer (found_by result found) old new) where
  pub lists_by : (tree : Tree) → IsTrue old.is_honest → HoldsTree runs.sizes tree old.bytes → tree.catalogue ≡ runs.catalogue
      → AreGuided runs.guides runs.tags tree
      → IsFloorOf floor runs tree old.bytes → result ≢ Err Fault
      → found_by result found ≡ Ok (over_any newer (over_any (first_record floor key tree)
      (over_any (record_of_key key (entries_of tree.c1x)) (record_of_key key (entries_of tree.c2)))))
  lists_by tree honest holds is guided released other =
      looked_up all tree honest (record { holds = holds; now = is; guided = guided; released = released })
      (λ wrong. other (broken_by result found Fault wrong))

  pub damaged_by : (n : ℕ) → result ≡ Err (Damaged n) → IsTrue old.is_honest
      → IsDamageBelow runs.sizes key old.bytes (from_newest floor key runs) newer n
  damaged_by n is honest = all.tells.damaged n (ap (λ (r : Result (Unit {0}) Broken). found_by r found) is) honest

  pub asks_by : (c1 c1x c2 : ℕ) → CountsYes (filter_of runs (first_tag floor key runs)) key c1 → CountsYes (filter_of runs runs.tags.c1x) key c1x
      → CountsYes (filter_of runs runs.tags.c2) key c2
      → Reads (file_length runs.sizes) (c1 + c1x + c2) result old new
  asks_by c1 c1x c2 one two three = reads_of result found (all.looks c1 c1x c2 one two three).reads

  pub ends_by : (tree : Tree) (c1 c1x c2 : ℕ) → IsTrue old.is_honest → HoldsTree runs.sizes tree old.bytes
      → tree.catalogue ≡ runs.catalogue → AreGuided runs.guides runs.tags tree
      → IsFloorOf floor runs tree old.bytes → AreAsked newer floor key runs tree c1 c1x c2
      → Reads (file_length runs.sizes) (c1 + c1x + c2) result old new
  ends_by tree c1 c1x c2 honest holds now guided released asked =
      reads_of result found (all.ends tree c1 c1x c2 honest (record { holds = holds; now = now; guided = guided; released = released }) asked)

  pub thrice_by : Reads (file_length runs.sizes) 3 result old new
  thrice_by = reads_of result found (once_each all).reads
