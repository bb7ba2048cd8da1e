-- A store that was just made is settled.
use Rattle.std.specs.Prelude.{◌≡◌, ◌⊎◌, ℕ, zero, suc, ◌≤◌, false, [], ◌∷◌, IsTrue, List, length, replicate, slice_index_or, sum}
use Rattle.std.proofs.Common.{◌∙◌, refl, ap, sym, subst, inl, inr, arith}
use Rattle.std.proofs.lemmas.List.{get_or-replicate, get_or_past, length-replicate}
use Rattle.std.proofs.lemmas.Bool.{cases_lt, false≢true}
use Rattle.blsm_model.specs.Book.{Book}
use Rattle.blsm_model.specs.declared.room.Room.{Room}
use Rattle.blsm_model.specs.Components.{empty_component}
use Rattle.blsm_model.specs.Format.{most_entries}
use Rattle.blsm_model.specs.Geometry.{file_length, high_mark, page_count}
use Rattle.blsm_model.specs.Lanes.{AreRoles}
use Rattle.blsm_model.specs.Sizes.{Sizes, IsGeometry}
use Rattle.blsm_model.proofs.GeometryLemmas.{half_below}
use Rattle.catalog_swap.specs.Text.{first_catalog}
use Rattle.catalog_swap.specs.declared.catalog.Catalog.{Catalog}
use Rattle.disk_trait.specs.Disk.{DiskState}
use Rattle.gated_log.specs.Lanes.{LanesState}
use Rattle.mem_table.specs.Tables.{Contents, empty_table}
use Rattle.pacing.specs.Laws.{IsOpening}
use Rattle.page_space.specs.PageSet.{Members, none_of, size}
use Rattle.page_space.specs.Space.{SpaceState, pages_with, pin_size, role_count, seat_count, unused}
use Rattle.page_space.proofs.SpaceLemmas.{shape_unused}
use Rattle.tree_log.specs.Log.{LogState}
use Rattle.tree_machine.proofs.PlayLemmas.{of_replicate}
use Rattle.tree_runs.specs.Runs.{GuideState, RunsState, AreRead, AreRunning, HasOneTag, IsFilled, opened}
use Rattle.tree_core.specs.Parts.{AreSettled}

-- ---- a map of which no page is in use

size_none : (pages : ℕ) → size (none_of pages) ≡ 0
size_none zero = refl
size_none (suc pages) = size_none pages

none_at : (n pages at : ℕ) → (slice_index_or (replicate n (none_of pages)) at [] ≡ none_of pages) ⊎ (slice_index_or (replicate n (none_of pages)) at [] ≡ [])
none_at n pages at =
    elim (cases_lt at n) [
      | inl below ↦ inl (get_or-replicate n at (none_of pages) [] below)
      | inr past ↦ inr (get_or_past (replicate n (none_of pages)) at [] (omega (arith, past, length-replicate n (none_of pages))))
    ]

no_role : (pages role page : ℕ) → IsTrue (slice_index_or (pages_with (unused pages) role) page false) → ⊥
no_role pages role page has =
    elim (none_at role_count pages role) [
      | inl is ↦ false≢true (sym (ap (λ (set : Members). slice_index_or set page false) is ∙ of_replicate pages page false) ∙ has)
      | inr is ↦ false≢true (sym (ap (λ (set : Members). slice_index_or set page false) is) ∙ has)
    ]

no_pins : (pages seat : ℕ) → pin_size (unused pages) seat ≡ 0
no_pins pages seat =
    elim (none_at seat_count pages seat) [
      | inl is ↦ ap size is ∙ size_none pages
      | inr is ↦ ap size is
    ]

one_tag : (pages : ℕ) → HasOneTag (unused pages)
one_tag pages page one other has also = absurd (no_role pages one page has)

-- ---- the parts of a core

roles : AreRoles (0 ∷ 1 ∷ 2 ∷ [])
roles = record {
  a_below = omega arith;
  b_below = omega arith;
  spare_below = omega arith;
  a_not_b = omega arith;
  a_not_spare = omega arith;
  b_not_spare = omega arith;
}

filled : IsFilled empty_component
filled = record { none = λ is. refl; full = omega arith }

pub first_read : (sizes : Sizes) (catalogue : Catalog) (space : SpaceState) (pages : ℕ) → IsGeometry sizes → catalogue ≡ first_catalog → space ≡ unused pages → pages ≡ page_count sizes → AreRead sizes catalogue space
first_read sizes catalogue space pages geometry first none many =
    let empty = size_none (page_count sizes) in
    let read : AreRead sizes first_catalog (unused (page_count sizes)) = record {
      geometry = geometry;
      pages = refl;
      shape = shape_unused (page_count sizes);
      one_tag = one_tag (page_count sizes);
      c1 = record { filled = filled; size = empty };
      c1x = record { filled = filled; size = empty };
      c2 = record { filled = filled; size = empty };
      pass = empty;
      deep = empty;
      no_pins = λ seat below. no_pins (page_count sizes) seat;
    } in
    subst (λ (c : Catalog). AreRead sizes c space) (sym first)
    (subst (λ (s : SpaceState). AreRead sizes first_catalog s) (sym (none ∙ ap unused many)) read)

opening : (sizes : Sizes) → IsGeometry sizes → IsOpening sizes 0 0
opening sizes geometry = record {
  geometry = geometry;
  mark = omega (arith, half_below sizes.ratio sizes.half geometry.ratio.0, geometry.half.0);
  full = omega arith;
}

abbrev empty_lanes : Sizes → LanesState
empty_lanes sizes = record { sizes = sizes; roles = 0 ∷ 1 ∷ 2 ∷ []; ends = 0 ∷ 0 ∷ 0 ∷ [] }

abbrev log_of : Contents → Contents → LanesState → LogState
log_of a b lanes = record { a = a; b = b; lanes = lanes }

abbrev annals_of : Room → Book
annals_of room = record { entries = []; quanta = []; room = room }

pub made_runs : (sizes : Sizes) (runs : RunsState) (catalogue : Catalog) (space : SpaceState) (guides : List GuideState) (pages : ℕ) → runs ≡ opened sizes catalogue space guides → catalogue ≡ first_catalog → space ≡ unused pages
    → pages ≡ page_count sizes → runs ≡ opened sizes first_catalog (unused (page_count sizes)) guides
made_runs sizes runs catalogue space guides pages is first none many =
    is ∙ ap (λ (c : Catalog). opened sizes c space guides) first ∙ ap (λ (s : SpaceState). opened sizes first_catalog s guides) (none ∙ ap unused many)

pub made_log : (sizes : Sizes) (log : LogState) (a b : Contents) (lanes : LanesState) (room_a room_b : ℕ) → log ≡ log_of a b lanes → a ≡ empty_table room_a → b ≡ empty_table room_b → lanes ≡ empty_lanes sizes
    → room_a ≡ high_mark sizes → room_b ≡ high_mark sizes → log ≡ log_of (empty_table (high_mark sizes)) (empty_table (high_mark sizes)) (empty_lanes sizes)
made_log sizes log a b lanes room_a room_b is a_is b_is lanes_is for_a for_b =
    is
    ∙ ap (λ (x : Contents). log_of x b lanes) (a_is ∙ ap empty_table for_a)
    ∙ ap (λ (x : Contents). log_of (empty_table (high_mark sizes)) x lanes) (b_is ∙ ap empty_table for_b)
    ∙ ap (λ (x : LanesState). log_of (empty_table (high_mark sizes)) (empty_table (high_mark sizes)) x) lanes_is

-- The components of the first catalogue, empty tables and empty annals are a settled core's.
first_settled : (sizes : Sizes) (guides : List GuideState) (room : Room) (d : DiskState) → IsGeometry sizes → (IsTrue d.tells_bytes → length d.bytes ≡ file_length sizes) → sum room.entries ≤ most_entries
    → AreRunning d.is_honest d.bytes (opened sizes first_catalog (unused (page_count sizes)) guides)
    → AreSettled (opened sizes first_catalog (unused (page_count sizes)) guides) (log_of (empty_table (high_mark sizes)) (empty_table (high_mark sizes)) (empty_lanes sizes)) (annals_of room) d
first_settled sizes guides room d geometry long few running = record {
  pass = refl;
  deep = refl;
  running = running;
  long = long;
  components = opening sizes geometry;
  version = omega arith;
  roles = roles;
  lanes = refl;
  lane_roles = refl;
  a = refl;
  whole_a = (refl, refl);
  b = refl;
  end_a = refl;
  end_b = refl;
  reserved_a = omega arith;
  reserved_b = omega arith;
  entries = refl;
  quanta = refl;
  room = few;
}

pub settled_as : (sizes : Sizes) (guides : List GuideState) (runs : RunsState) (log : LogState) (annals : Book) (room : Room) (d : DiskState) → IsGeometry sizes → (IsTrue d.tells_bytes → length d.bytes ≡ file_length sizes)
    → sum room.entries ≤ most_entries → AreRunning d.is_honest d.bytes runs → runs ≡ opened sizes first_catalog (unused (page_count sizes)) guides
    → log ≡ log_of (empty_table (high_mark sizes)) (empty_table (high_mark sizes)) (empty_lanes sizes) → annals ≡ annals_of room → AreSettled runs log annals d
settled_as sizes guides runs log annals room d geometry long few running runs_are log_is annals_are =
    subst (λ (r : RunsState). AreSettled r log annals d) (sym runs_are)
    (subst (λ (l : LogState). AreSettled (opened sizes first_catalog (unused (page_count sizes)) guides) l annals d) (sym log_is)
    (subst (λ (book : Book). AreSettled (opened sizes first_catalog (unused (page_count sizes)) guides) (log_of (empty_table (high_mark sizes)) (empty_table (high_mark sizes)) (empty_lanes sizes)) book d) (sym annals_are)
    (first_settled sizes guides room d geometry long few (subst (λ (r : RunsState). AreRunning d.is_honest d.bytes r) runs_are running))))
