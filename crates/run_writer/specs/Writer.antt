-- What contracts see of a writer, and which run it holds.
use Rattle.std.specs.Prelude.{◌≡◌, ◌⊎◌, ℕ, ◌+◌, ◌-◌, ◌*◌, ◌<◌, ◌≤◌, Bool, true, ◌&&◌, nat_lt, nat_le, nat_eq, if◌then◌else◌, IsTrue, List, [], ◌∷◌, ◌++◌, length, take, Some, None}
use Rattle.std.specs.List.{Contains, IsDistinct}
use Rattle.disk_trait.specs.Region.{Region}
use Rattle.blsm_model.specs.Format.{least_full}
use Rattle.blsm_model.specs.declared.key.Key.{Key}
use Rattle.blsm_model.specs.declared.component.Component.{Component}
use Rattle.blsm_model.specs.Sizes.{Sizes}
use Rattle.bloom_bits.specs.BitSet.{BitState}
use Rattle.bloom_bits.specs.Fences.{FencesState}
use Rattle.bloom_bits.specs.declared.fences.Fence.{Fence}
use Rattle.bloom_bits.specs.Guides.{Guide}
use Rattle.record_delta.specs.declared.record.Rec.{Rec}
use Rattle.record_delta.specs.Records.{weight}
use Rattle.record_delta.specs.Entries.{Entries, entries_weight}
use Rattle.page_space.specs.Space.{SpaceState, HasRole, role_count}
use Rattle.blsm_model.specs.Components.{no_page}
use Rattle.page_file.specs.Entry.{AreRising}
use Rattle.page_file.specs.Page.{most_used, page_number}
use Rattle.page_file.specs.File.{page_region}
use Rattle.blsm_model.specs.Components.{empty_component}
use Rattle.page_file.specs.Component.{RunPage, first_number, numbers_of, entries_of, AreChained}
use Rattle.run_writer.specs.Buffer.{BufferState, empty_buffer, with_entry, IsBufferOf}
use Rattle.run_writer.specs.Run.{Run, pages_of, all_numbers, IsRun, AreTagged}

-- The role of the run's pages, the component that the run is so far, the number of the open page, and its buffer.
pub record WriterState : Type 0 where
  pub role : ℕ
  pub component : Component
  pub number : ℕ
  pub buffer : BufferState

-- the writer of the empty run
abbrev pub started : ℕ → WriterState
started role = record { role = role; component = empty_component; number = no_page; buffer = empty_buffer }

-- there is an open page, and an entry of this weight fits into it
abbrev pub has_place : WriterState → ℕ → Bool
has_place writer weight = nat_lt 0 writer.component.pages && nat_le (length writer.buffer.text + weight) most_used

-- the open page, if there is one, has an entry
abbrev pub HasEntries : WriterState → Type 0
HasEntries writer = 0 < writer.component.pages → 0 < length writer.buffer.text

-- whether an entry of this weight is the first one of its page
abbrev pub begins_page : WriterState → ℕ → Bool
begins_page writer weight = if has_place writer weight then nat_eq (length writer.buffer.text) 0 else true

-- how many of the pages have no fence yet: the open one, as long as it has no entry
abbrev pub unfenced : WriterState → ℕ
unfenced writer = if nat_eq (length writer.buffer.text) 0 && nat_lt 0 writer.component.pages then 1 else 0

-- the open page, if there is one, is below this number
abbrev pub IsInside : ℕ → WriterState → Type 0
IsInside pages writer = 0 < writer.component.pages → writer.number < pages

-- where the open page is in the file; nowhere, if there is none
abbrev pub open_region : Sizes → WriterState → Region
open_region sizes writer = λ i. (0 < writer.component.pages) × page_region sizes writer.number i

-- where a role's pages are
abbrev pub role_region : Sizes → SpaceState → ℕ → Region
role_region sizes space role = λ i. (n : ℕ) × HasRole space role n × page_region sizes n i

-- where bytes may change and the run stays: in its open page, and outside of its role's pages
abbrev pub loose_region : Sizes → SpaceState → WriterState → Region
loose_region sizes space writer = λ i. open_region sizes writer i ⊎ (role_region sizes space writer.role i → ⊥)

-- the writer with one entry more in its open page
abbrev pub put_in : Key → Rec → WriterState → WriterState
put_in key rec writer = record writer {
  component = record writer.component { entries = writer.component.entries + 1; weight = writer.component.weight + weight key rec };
  buffer = with_entry key rec writer.buffer;
}

-- the writer with a new open page, which is empty
abbrev pub turned : ℕ → WriterState → WriterState
turned page writer = record writer {
  component = record writer.component { first = if nat_eq writer.component.pages 0 then page else writer.component.first; pages = writer.component.pages + 1 };
  number = page;
  buffer = empty_buffer;
}

-- the fence of the open page, which this key is to begin
abbrev pub next_fence : Key → WriterState → Fence
next_fence key writer = record { first = key; page = writer.number; entries = writer.component.entries; weight = writer.component.weight }

-- the fences once this key is put into the open page
abbrev pub fenced : Key → WriterState → FencesState → FencesState
fenced key writer fences = if nat_eq (length writer.buffer.text) 0 then record fences { list = fences.list ++ next_fence key writer ∷ [] } else fences

-- the writer of a run that goes on behind these pages with this one, which is empty
abbrev pub resumed : ℕ → Component → ℕ → WriterState
resumed role finished page = record { role = role; component = record finished { pages = finished.pages + 1 }; number = page; buffer = empty_buffer }

-- the closed pages as a run of their own, by its numbers, which goes on with the open page; where none is closed that page is its first
abbrev pub closed_of : WriterState → Component
closed_of writer = record {
  first = if nat_lt 1 writer.component.pages then writer.component.first else writer.number;
  pages = writer.component.pages - 1;
  entries = writer.component.entries - writer.buffer.count;
  weight = writer.component.weight - length writer.buffer.text;
}

-- what all pages are, as that run, once this page is taken behind them; where there are none it is the first
abbrev pub whole_of : ℕ → Component → Component
whole_of page component = record component { first = if nat_lt 0 component.pages then component.first else page }

-- of the entries that were pushed, those on the closed pages
abbrev pub closed_entries : WriterState → Entries → Entries
closed_entries writer entries = take (writer.component.entries - writer.buffer.count) entries

-- what always holds of a writer's numbers; on any disk each closed page has nearly as many bytes of entries as it may have
pub record IsCounted (writer : WriterState) : Type 0 where
  pub role : writer.role < role_count
  pub none : writer.component.pages ≡ 0 → length writer.buffer.text ≡ 0
  pub fits : length writer.buffer.text ≤ most_used
  pub weight : writer.component.weight ≤ most_used * (writer.component.pages - 1) + length writer.buffer.text
  pub entries : writer.component.entries ≤ writer.component.weight
  pub here : writer.buffer.count ≤ writer.component.entries
  pub floor : least_full * (writer.component.pages - 1) + length writer.buffer.text ≤ writer.component.weight

-- The writer holds this run: the open page's entries are in its buffer, and the component has the run's numbers.
pub record Holds (writer : WriterState) (run : Run) : Type 0 where
  pub buffer : IsBufferOf writer.buffer run.entries
  pub fits : length writer.buffer.text ≤ most_used
  pub number : writer.number ≡ run.number
  pub first_is : page_number (first_number (pages_of run) None) ≡ writer.component.first
  pub pages_is : length (all_numbers run) ≡ writer.component.pages
  pub entries_is : length (entries_of (pages_of run)) ≡ writer.component.entries
  pub weight_is : entries_weight (entries_of (pages_of run)) ≡ writer.component.weight

-- The run's closed pages stand in this file: each reads as its entries and names the one behind it, the last one names the open page.
abbrev pub Stands : Sizes → Run → List ℕ → Type 0
Stands sizes run file = AreChained sizes run.closed (Some run.number) file

-- This list was pushed so far: the writer holds a run whose entries these are, filter and fences are those of its pages, each page of the run
-- has the writer's tag, and where nobody else changes the file the closed pages stand in it.
pub record HasPushed (sizes : Sizes) (honest : Bool) (file : List ℕ) (space : SpaceState) (writer : WriterState) (filter : BitState) (fences : FencesState) (entries : Entries) : Type 0 where
  pub run : Run
  pub held : Holds writer run
  pub is_run : IsRun run
  pub guide : Guide filter fences (pages_of run)
  pub one_a_page : length fences.list + unfenced writer ≡ writer.component.pages
  pub counted : IsCounted writer
  pub tagged : AreTagged space writer.role run
  pub entries_are : entries_of (pages_of run) ≡ entries
  pub stands : IsTrue honest → Stands sizes run file

-- What a run has that can be taken up behind these pages: they are the component's, each names the one behind it, and the last one this page, which
-- isn't one of them. All have the role's tag.
pub record IsResumed (sizes : Sizes) (honest : Bool) (file : List ℕ) (space : SpaceState) (role : ℕ) (finished : Component) (page : ℕ) (closed : List RunPage) : Type 0 where
  pub some : closed ≡ [] → ⊥
  pub first_is : page_number (first_number closed (Some page)) ≡ finished.first
  pub chained : IsTrue honest → AreChained sizes closed (Some page) file
  pub rise : AreRising (entries_of closed)
  pub apart : IsDistinct nat_eq (numbers_of closed ++ page ∷ [])
  pub tagged : (n : ℕ) → Contains (numbers_of closed ++ page ∷ []) n → HasRole space role n
  pub pages_is : length closed ≡ finished.pages
  pub entries_is : length (entries_of closed) ≡ finished.entries
  pub weight_is : entries_weight (entries_of closed) ≡ finished.weight
