-- How far a scan of the memory table's records and of the three components has come.
use Rattle.std.specs.Prelude.{◌≡◌, false, ℕ, ◌+◌, ◌≤◌, List, length, Option}
use Rattle.blsm_model.specs.declared.key.Key.{Key}
use Rattle.blsm_model.specs.Sizes.{Sizes}
use Rattle.record_delta.specs.Entries.{Entries, AreSorted, above, first_of}
use Rattle.run_cursor.specs.Walk.{IsWalk}
use Rattle.scan_view.specs.declared.scan.Scan.{Scan}
use Rattle.scan_view.specs.Left.{IsAheadOf, HasLeft, HasRead, count_left}
use Rattle.scan_view.specs.Hold.{IsEmptyOrPaged, splice}
use Rattle.scan_view.specs.Splice.{HasSplice, HasReadSplice, splice_pages, splice_ahead, splice_count}
use Rattle.scan_view.specs.Told.{Contents, Sources, AreFronts}

-- keys rise in each list
pub record AreSortedLists (lists : Contents) : Type 0 where
  pub front : AreSorted lists.front
  pub c1 : AreSorted lists.c1
  pub c1x : AreSorted lists.c1x
  pub c2 : AreSorted lists.c2

-- In this file each walk has left what its list has above the key that was passed last, on pages among these.
pub record IsScan (sizes : Sizes) (scan : Scan) (released : Option Key) (lists : Contents) (pages : List ℕ) (file : List ℕ) : Type 0 where
  pub released_is : scan.c1.released ≡ released
  pub c1 : HasSplice sizes scan.at scan.c1 lists.front lists.c1 pages file
  pub c1x : HasLeft false sizes scan.at scan.c1x lists.c1x pages file
  pub c2 : HasLeft false sizes scan.at scan.c2 lists.c2 pages file
  pub sorted : AreSortedLists lists

-- and is at the first of that
pub record IsAtHeads (scan : Scan) (released : Option Key) (lists : Contents) : Type 0 where
  pub c1 : scan.c1.walk.cursor.head ≡ first_of (above scan.at (splice lists.front released lists.c1))
  pub c1x : scan.c1x.cursor.head ≡ first_of (above scan.at lists.c1x)
  pub c2 : scan.c2.cursor.head ≡ first_of (above scan.at lists.c2)

-- on any disk: each cursor is at an entry above the key, or at the end
pub record AreAhead (scan : Scan) : Type 0 where
  pub c1 : IsAheadOf scan.at scan.c1.walk.cursor.head
  pub c1x : IsAheadOf scan.at scan.c1x.cursor.head
  pub c2 : IsAheadOf scan.at scan.c2.cursor.head

-- in this file each walk has given so much of its component, its head alone above the key
pub record HaveRead (sizes : Sizes) (of : Sources) (scan : Scan) (read : Contents) (file : List ℕ) : Type 0 where
  pub released : scan.c1.released ≡ of.released
  pub paged : IsEmptyOrPaged of.c1
  pub c1 : HasReadSplice sizes of.front of.c1 scan.at scan.c1 read.front read.c1 file
  pub c1x : HasRead false sizes of.c1x scan.at scan.c1x read.c1x file
  pub c2 : HasRead false sizes of.c2 scan.at scan.c2 read.c2 file

-- and has gone on from so much
pub record HaveReadOn (sizes : Sizes) (of : Sources) (scan : Scan) (before : Contents) (file : List ℕ) : Type 0 where
  pub now : Contents
  pub read : HaveRead sizes of scan now file
  pub onward : (all : Contents) → AreFronts of now all → AreFronts of before all

-- how many pages aren't read yet
abbrev pub pages_left : Scan → ℕ
pages_left scan = splice_pages scan.c1 + scan.c1x.cursor.pages + scan.c2.cursor.pages

-- how many pages the parts have in which the walks stand
abbrev pub pages_ahead : Scan → ℕ
pages_ahead scan = splice_ahead scan.c1 + scan.c1x.here.pages + scan.c2.here.pages

-- what walks keep on any disk
pub record AreWalks (scan : Scan) : Type 0 where
  pub c1 : IsWalk scan.c1.walk
  pub c1x : IsWalk scan.c1x
  pub c2 : IsWalk scan.c2

-- and they have gone on: no more pages are ahead than before
abbrev pub AreFurther : Scan → Scan → Type 0
AreFurther old new = AreWalks new × (pages_ahead new ≤ pages_ahead old)

-- how many entries are left of the components above a key, and with those of the memory table
abbrev pub components_left : Option Key → Scan → ℕ
components_left at scan = splice_count at scan.c1 + count_left at scan.c1x.cursor + count_left at scan.c2.cursor

abbrev pub all_left : Entries → Scan → ℕ
all_left memory scan = length (above scan.at memory) + components_left scan.at scan
