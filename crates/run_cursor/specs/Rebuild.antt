-- A walk over a run's pages that fills its filter and its fences.
use Rattle.std.specs.Prelude.{ℕ, ◌+◌, length, Option}
use Rattle.record_delta.specs.Entries.{Entries, entries_weight}
use Rattle.page_file.specs.Page.{page_number}
use Rattle.run_cursor.specs.declared.guides.Place.{Place}

-- the place behind a page with these entries and this next page
abbrev pub place_behind : Place → Option ℕ → Entries → Place
place_behind at next entries =
    record { page = page_number next; entries = at.entries + length entries; weight = at.weight + entries_weight entries }
