-- What contracts see of a cursor, and where it stands in its component.
use Rattle.std.specs.Prelude.{◌≡◌, ◌↔◌, ◌⊎◌, ℕ, ◌+◌, ◌-◌, ◌*◌, ◌<◌, ◌≤◌, Bool, true, false, is_some, IsTrue, List, [], ◌∷◌, ◌++◌, length, Option, Some, None, IsSome, ⊤}
use Rattle.std.specs.List.{Contains, between}
use Rattle.blsm_model.specs.Format.{page_length, least_full}
use Rattle.std.specs.declared.cmp.Ordering.TheVariants.{Less}
use Rattle.blsm_model.specs.declared.component.Component.{Component}
use Rattle.blsm_model.specs.declared.key.Key.{Key}
use Rattle.blsm_model.specs.Keys.{key_cmp}
use Rattle.blsm_model.specs.Sizes.{Sizes}
use Rattle.blsm_model.specs.Geometry.{page_count}
use Rattle.record_delta.specs.declared.record.Rec.{Rec}
use Rattle.record_delta.specs.Records.{weight}
use Rattle.page_file.specs.Entry.{IsPageEntry, entry_bytes, entries_bytes, AreEntries, AreRising}
use Rattle.page_file.specs.Page.{page_number, most_used, IsPageOf}
use Rattle.page_file.specs.File.{page_at}
use Rattle.page_file.specs.Component.{RunPage, numbers_of, entries_of, first_number, AreChained, ReadsOn}
use Rattle.record_delta.specs.Entries.{entries_weight, Entries}

-- The head; the bytes of the entries behind it on its page; the number of the page behind; by the component's numbers, how many pages aren't read
-- yet, and how many entries come after the head, of which weight; and whether it is a front, whose last page names one more.
pub record CursorState : Type 0 where
  pub head : Option (Key × Rec)
  pub behind : List ℕ
  pub next : ℕ
  pub pages : ℕ
  pub entries : ℕ
  pub weight : ℕ
  pub is_front : Bool

-- before the first entry of a component, or of a front, the finished pages of a run that goes on
abbrev pub begun : Bool → Component → CursorState
begun is_front run = record {
  head = None;
  behind = [];
  next = run.first;
  pages = run.pages;
  entries = run.entries;
  weight = run.weight;
  is_front = is_front;
}

abbrev pub started : Component → CursorState
started run = begun false run

abbrev pub started_front : Component → CursorState
started_front run = begun true run

-- the head, if there is one, and then these entries
abbrev pub from_head : Option (Key × Rec) → Entries → Entries
from_head None entries = entries
from_head (Some head) entries = head ∷ entries

-- What each cursor keeps: there are entries behind the head on its page, which rise from the head on, and no more of them than the
-- component's numbers say; on its last page just as many.
pub record IsCursor (cursor : CursorState) : Type 0 where
  pub here : Entries
  pub each : AreEntries here
  pub behind_is : cursor.behind ≡ entries_bytes here
  pub rise : AreRising (from_head cursor.head here)
  pub few : length here ≤ cursor.entries
  pub light : entries_weight here ≤ cursor.weight
  pub all : cursor.pages ≡ 0 → (length here ≡ cursor.entries) × (entries_weight here ≡ cursor.weight)

-- what contracts see of a cursor's fields
abbrev pub seen : Option (Key × Rec) → List ℕ → ℕ → ℕ → ℕ → ℕ → ℕ → ℕ → Bool → CursorState
seen head page at end next pages entries weight_left is_front = record {
  head = head;
  behind = between at end page;
  next = next;
  pages = pages;
  entries = entries;
  weight = weight_left;
  is_front = is_front;
}

-- what a cursor keeps of its fields
abbrev pub IsKept : Option (Key × Rec) → List ℕ → ℕ → ℕ → ℕ → ℕ → ℕ → ℕ → Bool → Type 0
IsKept head page at end next pages entries weight_left is_front =
    (at ≤ end) × (end ≤ page_length) × IsCursor (seen head page at end next pages entries weight_left is_front)

-- ---- on a page's end

-- The numbers of a page are those of the component's next one: it has a next page where it isn't the last one, or is a front's, and no more entries
-- and weight than are left; the last one has just that, and one before it leaves weight enough to fill all pages behind it but the last.
pub record AreInNumber (cursor : CursorState) (next : Option ℕ) (count weight : ℕ) : Type 0 where
  pub follows : IsSome next ↔ ((1 < cursor.pages) ⊎ IsTrue cursor.is_front)
  pub few : count ≤ cursor.entries
  pub light : weight ≤ cursor.weight
  pub all : cursor.pages ≡ 1 → (count ≡ cursor.entries) × (weight ≡ cursor.weight)
  pub enough : IsSome next → weight + least_full * (cursor.pages - 2) ≤ cursor.weight

-- a page with these entries and this next page goes on behind the cursor: its keys rise over the page's end, and its numbers are right
pub record PageGoesOn (cursor : CursorState) (next : Option ℕ) (entries : Entries) : Type 0 where
  pub rise : AreRising (from_head cursor.head entries)
  pub numbers : AreInNumber cursor next (length entries) (entries_weight entries)

-- in this file the cursor's next page is a valid one that has these entries and this next page, and goes on
pub record GoesOnAt (sizes : Sizes) (cursor : CursorState) (next : Option ℕ) (entries : Entries) (file : List ℕ) : Type 0 where
  pub inside : cursor.next < page_count sizes
  pub valid : IsPageOf (page_count sizes) next entries (page_at sizes cursor.next file)
  pub goes_on : PageGoesOn cursor next entries

-- the page of this number is the cursor's next one, and it isn't valid or doesn't go on
pub record IsDamageAt (sizes : Sizes) (cursor : CursorState) (n : ℕ) (file : List ℕ) : Type 0 where
  pub is_next : n ≡ cursor.next
  pub none_left : cursor.behind ≡ []
  pub more_pages : 0 < cursor.pages
  pub damaged : (next : Option ℕ) (entries : Entries) → GoesOnAt sizes cursor next entries file → ⊥

-- the cursor before the entries of its next page
abbrev pub turned : Option ℕ → Entries → CursorState → CursorState
turned next entries cursor = record cursor { behind = entries_bytes entries; next = page_number next; pages = cursor.pages - 1 }

-- ---- one entry further

-- the cursor went on to the next entry of its page
pub record IsStepped (old new : CursorState) (head : Key × Rec) : Type 0 where
  pub right : IsPageEntry head
  pub head_is : new.head ≡ Some head
  pub behind_is : old.behind ≡ entry_bytes head ++ new.behind
  pub next_is : new.next ≡ old.next
  pub pages_is : new.pages ≡ old.pages
  pub front_is : new.is_front ≡ old.is_front
  pub entries_is : old.entries ≡ new.entries + 1
  pub weight_is : old.weight ≡ weight head.0 head.1 + new.weight

-- the head's key is above that of the head before it
abbrev pub Rises : Option (Key × Rec) → Option (Key × Rec) → Type 0
Rises (Some old) (Some new) = key_cmp old.0 new.0 ≡ Less
Rises (Some old) None = ⊤
Rises None new = ⊤

-- ---- what the pages weigh

-- what weighs so much from the page of the cursor's head on, has that page before what is left
abbrev pub IsOnPage : ℕ → CursorState → Type 0
IsOnPage weight cursor = weight + length cursor.behind ≤ cursor.weight + most_used

-- On any disk, by the numbers: where a page was due, what was left weighs enough to fill all pages that were left but the last, and begins with
-- the page on which the cursor is now. Where none was due the cursor is on the page on which it was.
pub record PartGoesOn (old new : CursorState) : Type 0 where
  pub enough : old.behind ≡ [] → 0 < old.pages → least_full * (old.pages - 1) ≤ old.weight
  pub begins : old.behind ≡ [] → 0 < old.pages → IsOnPage old.weight new
  pub stays : (part : ℕ) → (old.behind ≡ [] → old.pages ≡ 0) → IsOnPage part old → IsOnPage part new

-- On any disk: of the component's pages that were read, each but its last one weighs least_full at least; what isn't given of them stands
-- behind the head.
pub record AreFull (run : Component) (cursor : CursorState) : Type 0 where
  pub within : cursor.pages ≤ run.pages
  pub more : 0 < cursor.pages → least_full * (run.pages - cursor.pages) + cursor.weight ≤ run.weight + length cursor.behind
  pub last : cursor.pages ≡ 0 → least_full * (run.pages - 1) + cursor.weight ≤ run.weight + length cursor.behind

-- ---- the list

-- each of the pages has one of these numbers
abbrev pub AreAmong : List RunPage → List ℕ → Type 0
AreAmong pages numbers = (n : ℕ) → Contains (numbers_of pages) n → Contains numbers n

-- In this file these are the entries that come after the cursor's head: those behind it on its page, and those of the pages that
-- aren't read yet, of which the last one names this next page, as a front's does.
pub record HasAheadTo (end : Option ℕ) (sizes : Sizes) (cursor : CursorState) (rest : Entries) (file : List ℕ) : Type 0 where
  pub front_is : cursor.is_front ≡ is_some end
  pub here : Entries
  pub coming : List RunPage
  pub each : AreEntries here
  pub behind_is : cursor.behind ≡ entries_bytes here
  pub first_is : page_number (first_number coming end) ≡ cursor.next
  pub chained : AreChained sizes coming end file
  pub rest_is : rest ≡ here ++ entries_of coming
  pub rise : AreRising (from_head cursor.head rest)
  pub pages_is : length coming ≡ cursor.pages
  pub entries_is : length rest ≡ cursor.entries
  pub weight_is : entries_weight rest ≡ cursor.weight

abbrev pub HasAhead : Sizes → CursorState → Entries → List ℕ → Type 0
HasAhead sizes cursor rest file = HasAheadTo None sizes cursor rest file

-- the cursor went on to the first of these entries and has the others ahead, on pages among these; where there are none, it is at the end
abbrev pub IsAdvancedTo : Option ℕ → Sizes → CursorState → List ℕ → Entries → List ℕ → Type 0
IsAdvancedTo end sizes new pages [] file = (new.head ≡ None) × (after : HasAheadTo end sizes new [] file) × AreAmong after.coming pages
IsAdvancedTo end sizes new pages (e ∷ es) file = (new.head ≡ Some e) × (after : HasAheadTo end sizes new es file) × AreAmong after.coming pages

abbrev pub IsAdvanced : Sizes → CursorState → List ℕ → Entries → List ℕ → Type 0
IsAdvanced sizes new pages rest file = IsAdvancedTo None sizes new pages rest file

-- In this file a front reads as this list; its last page names this next one, which isn't the front's.
pub record HasFront (sizes : Sizes) (front : Component) (end : ℕ) (entries : Entries) (file : List ℕ) : Type 0 where
  pub pages : List RunPage
  pub reads : ReadsOn sizes front pages (Some end) file
  pub entries_are : entries_of pages ≡ entries
