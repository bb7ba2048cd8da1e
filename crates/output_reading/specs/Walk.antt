-- What a walk over an output does to the free-page map, how far it has come, and what it tells. Weights are in bytes.
use Rattle.std.specs.Prelude.{◌≡◌, ◌↔◌, ◌⊎◌, ◌+◌, ◌*◌, ◌^◌, ◌<◌, ◌≤◌, ℕ, List, [], ◌∷◌, ◌++◌, nat_eq, Option, Some, None, Result, Ok, Err, IfSome, ⊤}
use Rattle.std.specs.List.{Contains, IsDistinct, last_or}
use Rattle.blsm_model.specs.declared.component.Component.{Component}
use Rattle.blsm_model.specs.declared.key.Key.{Key}
use Rattle.blsm_model.specs.Format.{least_weight}
use Rattle.blsm_model.specs.Sizes.{Sizes}
use Rattle.record_delta.specs.declared.record.Rec.{Rec}
use Rattle.record_delta.specs.Records.{weight}
use Rattle.record_delta.specs.Entries.{Entries}
use Rattle.page_file.specs.declared.file.Broken.{Broken}
use Rattle.page_file.specs.declared.file.Broken.TheVariants.{Fault, Damaged}
use Rattle.page_file.specs.Component.{RunPage, entries_of, numbers_of}
use Rattle.page_file.specs.Page.{most_used}
use Rattle.page_space.specs.Space.{SpaceState, Claims, HasRole, IsFree, IsSpace, KeepsOtherRoles, role_size}
use Rattle.run_cursor.specs.Cursor.{CursorState}
use Rattle.run_cursor.specs.Given.{HasGiven}
use Rattle.merge_ends.specs.Input.{left_in, IsBehind, IsInput, IsReady}
use Rattle.output_reading.specs.declared.inputs.Inputs.{Inputs}
use Rattle.output_reading.specs.declared.output.Output.{Output}
use Rattle.catalog_swap.specs.declared.catalog.Progress.{Progress}
use Rattle.tree_runs.specs.declared.resumable.Resumable.{Resumable}
use Rattle.tree_file.specs.Output.{IsOutputOf}
use Rattle.output_reading.specs.Output.{IsDeparted, IsDepartedPage, IsLastPage}

-- ---- the map

-- none of these pages is free, each other page is, and they are apart
pub record TakesUp (numbers : List ℕ) (space : SpaceState) : Type 0 where
  pub apart : IsDistinct nat_eq numbers
  pub each : (k : ℕ) → Contains numbers k → IsFree space k → ⊥
  pub others : (k : ℕ) → k < space.pages → IsFree space k ⊎ Contains numbers k

-- Of so many pages that are to have the tag, all have it but so many that are left. They were free, and nothing else has changed.
pub record HasClaimed (role all left : ℕ) (old new : SpaceState) : Type 0 where
  pub pages : new.pages ≡ old.pages
  pub shape : IsSpace new
  pub pins : new.pins ≡ old.pins
  pub others : KeepsOtherRoles role old new
  pub fresh : (k : ℕ) → HasRole new role k → HasRole old role k ⊎ IsFree old k
  pub none_freed : (k : ℕ) → IsFree new k → IsFree old k
  pub size : role_size new role + left ≡ role_size old role + all

-- The finished pages and the next one have the tag, and with the earlier ones just they are in use.
pub record IsWalked (sizes : Sizes) (progress : Progress) (newer older : Entries) (earlier : List ℕ) (role : ℕ) (old new : SpaceState)
    (file : List ℕ) : Type 0 where
  pub pages : List RunPage
  pub output : IsOutputOf sizes progress newer older pages file
  pub takes : TakesUp (earlier ++ numbers_of pages ++ progress.next ∷ []) new
  pub tags : (k : ℕ) → HasRole new role k ↔ (HasRole old role k ⊎ Contains (numbers_of pages ++ progress.next ∷ []) k)

-- What an answer says of an output: it was walked, or this is its first page that departs. After a fault nobody knows.
abbrev pub TellsOutput : Sizes → Progress → Entries → Entries → List ℕ → ℕ → SpaceState → SpaceState → List ℕ → Result Resumable Broken → Type 0
TellsOutput sizes progress newer older earlier role old new file (Ok ahead) = IsWalked sizes progress newer older earlier role old new file
TellsOutput sizes progress newer older earlier role old new file (Err (Damaged n)) = IsDeparted sizes progress newer older earlier n file
TellsOutput sizes progress newer older earlier role old new file (Err Fault) = ⊤

-- ---- the inputs

-- the cursors haven't gone past the key
abbrev pub AreBehind : Inputs → Type 0
AreBehind inputs = IsBehind inputs.at inputs.newer × IsBehind inputs.at inputs.older

-- each is at an entry above the key, or at the end
abbrev pub AreReady : Inputs → Type 0
AreReady inputs = IsReady inputs.at inputs.newer × IsReady inputs.at inputs.older

-- how much is left above the key, and how many pages aren't read yet
abbrev pub left_of : Inputs → ℕ
left_of inputs = left_in inputs.at inputs.newer + left_in inputs.at inputs.older

abbrev pub pages_ahead : Inputs → ℕ
pages_ahead inputs = inputs.newer.pages + inputs.older.pages

-- a map without pages, for which it doesn't matter where the inputs' pages are
abbrev pub no_space : SpaceState
no_space = record { pages = 0; roles = []; pins = [] }

-- a group, if there is one, weighs something, and no less than its record
abbrev pub IsGroup : Option (Key × Rec × ℕ) → Type 0
IsGroup group = IfSome group (λ g. (least_weight ≤ g.2) × (weight g.0 g.1 ≤ g.2))

-- In this file the cursors have what these lists have above the key, on some of these pages.
pub record AreInputs (sizes : Sizes) (inputs : Inputs) (newer_pages older_pages : List ℕ) (newer older : Entries) (file : List ℕ) : Type 0 where
  pub newer_is : IsInput sizes file no_space 0 inputs.at inputs.newer newer_pages newer
  pub older_is : IsInput sizes file no_space 0 inputs.at inputs.older older_pages older

-- ---- the output

-- the run, as if it had a page more, and sums that no run's pages have
abbrev pub unbounded : Component → Component
unbounded run = record { first = run.first; pages = run.pages + 1; entries = 2 ^ 63; weight = 2 ^ 63 }

-- In this file the run begins with these entries, which its cursor has given. Just its pages and the earlier ones are in use, and have the tag.
pub record HasMet (sizes : Sizes) (run : Component) (earlier : List ℕ) (role : ℕ) (old : SpaceState) (output : Output) (space : SpaceState)
    (met : Entries) (file : List ℕ) : Type 0 where
  pub has : HasGiven sizes (unbounded run) output.cursor met file
  pub takes : TakesUp (earlier ++ numbers_of has.pages) space
  pub tags : (k : ℕ) → HasRole space role k ↔ (HasRole old role k ⊎ Contains (numbers_of has.pages) k)
  -- the cursor is on the last of these pages
  pub page_is : (last : RunPage) → last_or None has.pages ≡ Some last → last.number ≡ output.page
  pub at_first : has.pages ≡ [] → output.page ≡ run.first

-- Where a run stops that is to have these entries: at a page that departs, or at its last one, though they go on.
pub data IsStopped (sizes : Sizes) (run : Component) (entries : Entries) (earlier : List ℕ) (n : ℕ) (file : List ℕ) : Type 0 where
  departs : IsDepartedPage sizes run entries earlier n file → IsStopped sizes run entries earlier n file
  short : (end : IsLastPage sizes run entries earlier n file) → (entries_of (end.before ++ end.last ∷ []) ≡ entries → ⊥)
      → IsStopped sizes run entries earlier n file

abbrev pub TellsStop : Sizes → Component → Entries → List ℕ → List ℕ → Broken → Type 0
TellsStop sizes run entries earlier file (Damaged n) = IsStopped sizes run entries earlier n file
TellsStop sizes run entries earlier file Fault = ⊤

-- the entry was given: it and its weight are less left
pub record HasFallen (old new : CursorState) (entry : Key × Rec) : Type 0 where
  pub entries_is : old.entries ≡ new.entries + 1
  pub weight_is : old.weight ≡ weight entry.0 entry.1 + new.weight

-- Entries were given that weigh no more than this, and each something.
pub record HasPassed (old new : CursorState) (most : ℕ) : Type 0 where
  pub entries : new.entries ≤ old.entries
  pub weight : new.weight ≤ old.weight
  pub few : old.entries + new.weight ≤ new.entries + old.weight
  pub light : old.weight ≤ new.weight + most

-- The cursor reads a page next, which isn't the one behind the last. It was free and has the tag now, and the output is on it. Or it reads none.
pub data IsEntered (old new : Output) (role : ℕ) (space now : SpaceState) : Type 0 where
  due : old.cursor.behind ≡ [] → 1 < old.cursor.pages → new.page ≡ old.cursor.next → IsFree space new.page → Claims role new.page space now
      → IsEntered old new role space now
  on : (old.cursor.behind ≡ [] → old.cursor.pages ≡ 0) → new.page ≡ old.page → now ≡ space → IsEntered old new role space now

-- Or the page behind the last one would be next, or one that isn't free. Where there is no page of that number, the page departs that names it.
pub data IsRefused (output : Output) (space : SpaceState) (n : ℕ) : Type 0 where
  at_last : output.cursor.behind ≡ [] → output.cursor.pages ≡ 1 → n ≡ output.page → IsRefused output space n
  in_use : output.cursor.behind ≡ [] → 1 < output.cursor.pages → n ≡ output.cursor.next → n < space.pages → (IsFree space n → ⊥)
      → IsRefused output space n
  nowhere : output.cursor.behind ≡ [] → 1 < output.cursor.pages → n ≡ output.page → space.pages ≤ output.cursor.next → IsRefused output space n

abbrev pub Enters : Output → Output → ℕ → SpaceState → SpaceState → Result (Unit {0}) Broken → Type 0
Enters old new role space now (Ok done) = (new.cursor ≡ old.cursor) × IsEntered old new role space now
Enters old new role space now (Err (Damaged n)) = (new ≡ old) × (now ≡ space) × IsRefused old space n
Enters old new role space now (Err Fault) = ⊥

-- ---- the end

-- The run's numbers, of which so much is left to the cursor's, are those of the progress, which took so much. The next page is free.
pub record IsWhole (left : Component) (progress : Progress) (z : ℕ) (space : SpaceState) : Type 0 where
  pub next_is : left.first ≡ progress.next
  pub entries_are : progress.output.entries + left.entries ≡ 2 ^ 63
  pub weight_is : progress.output.weight + left.weight ≡ 2 ^ 63
  pub fits : progress.output.weight ≤ most_used * progress.output.pages
  pub z_is : z ≡ progress.z
  pub free : IsFree space progress.next

-- what a cursor has ahead, as a component
abbrev pub rest_of : CursorState → Component
rest_of cursor = record { first = cursor.next; pages = cursor.pages; entries = cursor.entries; weight = cursor.weight }

-- its last page is through, and so are its numbers
pub record IsEnd (output : Output) (progress : Progress) (z : ℕ) (space : SpaceState) : Type 0 where
  pub none_left : output.cursor.behind ≡ []
  pub last : output.cursor.pages ≡ 1
  pub whole : IsWhole (rest_of output.cursor) progress z space

-- Or the page has entries left, or another page comes, or the numbers are others.
pub data IsNoEnd (output : Output) (progress : Progress) (z : ℕ) (space : SpaceState) (n : ℕ) : Type 0 where
  on_page : (output.cursor.behind ≡ [] → output.cursor.pages ≡ 0) → n ≡ output.page → IsNoEnd output progress z space n
  comes : output.cursor.behind ≡ [] → 1 < output.cursor.pages → n ≡ output.cursor.next → n < space.pages → IsNoEnd output progress z space n
  nowhere : output.cursor.behind ≡ [] → 1 < output.cursor.pages → n ≡ output.page → space.pages ≤ output.cursor.next
      → IsNoEnd output progress z space n
  differs : output.cursor.behind ≡ [] → output.cursor.pages ≡ 1 → n ≡ output.page → (IsEnd output progress z space → ⊥)
      → IsNoEnd output progress z space n

abbrev pub Ends : Output → Progress → ℕ → SpaceState → Result (Unit {0}) Broken → Type 0
Ends output progress z space (Ok done) = IsEnd output progress z space
Ends output progress z space (Err (Damaged n)) = IsNoEnd output progress z space n
Ends output progress z space (Err Fault) = ⊥
