-- A scan that starts, and one that passes a key.
use Rattle.std.proofs.Common.{◌≡◌, ◌∙◌, ◌⊎◌, ⊎_elim, ◌++◌, ℕ, ◌<◌, true, false, [], Option, Some, None, List, inl, inr, refl, ap, sym, subst, arith}
use Rattle.std.proofs.lemmas.Grind.{common_steps}
use Rattle.std.proofs.lemmas.Bool.Decides.{nat_tests}
use Rattle.std.proofs.lemmas.List.Elements.{Contains-append_cases}
use Rattle.std.specs.List.{Contains}
use Rattle.blsm_model.specs.declared.component.Component.{Component}
use Rattle.blsm_model.specs.declared.key.Key.{Key}
use Rattle.blsm_model.specs.declared.row.Row.{Row}
use Rattle.blsm_model.specs.Sizes.{Sizes}
use Rattle.record_delta.specs.Entries.{Entries, AreSorted, folded_over, above, is_above, first_of}
use Rattle.page_file.specs.Component.{RunPage, numbers_of, HasList}
use Rattle.page_file.proofs.OrderLemmas.{orders}
use Rattle.run_cursor.specs.declared.walk.Walk.{Walk}
use Rattle.run_cursor.specs.Cursor.{CursorState, started, started_front, from_head, HasAhead, HasAheadTo, HasFront, AreAmong}
use Rattle.run_cursor.specs.Given.{HasListOf}
use Rattle.merge_step.proofs.MergedLemmas.{sorted_folded}
use Rattle.merge_ends.specs.Input.{key_of}
use Rattle.merge_ends.proofs.GroupLemmas.{above_further}
use Rattle.scan_view.specs.declared.scan.Scan.{Scan}
use Rattle.scan_view.specs.declared.splice.Splice.{Splice}
use Rattle.scan_view.specs.Hold.{HoldState, HasRows, later, pages_held, rows_of, splice, view_of}
use Rattle.scan_view.specs.Splice.{AreParts, ArePartsBy, HasSplice, IsIn}
use Rattle.scan_view.specs.Told.{Contents, view_by}
use Rattle.scan_view.specs.Left.{HasLeft, HasPart}
use Rattle.scan_view.specs.Scan.{IsScan, all_left}
use Rattle.scan_view.proofs.FoldLemmas.{where_folded}
use Rattle.scan_view.proofs.LeftLemmas.{Listed, left_further, none_listed, count_further, count_less, memory_further, memory_less}
use Rattle.scan_view.proofs.SpliceLemmas.{later_step, sorted_splice, splice_alike}

pub started_left : (sizes : Sizes) (run : Component) (at : Option Key) (walk : Walk) (entries : Entries) (pages : List ℕ) (file : List ℕ)
    → walk.cursor ≡ started run → walk.here ≡ run
    → (list : HasList sizes run entries file) → (ahead : HasAhead sizes walk.cursor entries file) × (ahead.coming ≡ list.pages) → AreAmong list.pages pages
    → HasLeft false sizes at walk entries pages file
started_left sizes run at walk entries pages file cursor here list given among = record {
  end = None;
  ends = refl;
  rest = entries;
  ahead = given.0;
  left_is = ap (λ (c : CursorState). above at (from_head c.head entries)) cursor;
  among = subst (λ (ps : List RunPage). AreAmong ps pages) (sym given.1) among;
  part = subst (λ (p : Component). HasPart false sizes at p entries pages file) (sym here)
      (record { of_part = entries; list = list; left_is = refl; among = among });
}

pub front_left : (sizes : Sizes) (front : Component) (at : Option Key) (walk : Walk) (entries : Entries) (pages : List ℕ) (file : List ℕ) (end : ℕ)
    → walk.cursor ≡ started_front front → walk.here ≡ front
    → (list : HasFront sizes front end entries file) → (ahead : HasAheadTo (Some end) sizes walk.cursor entries file) × (ahead.coming ≡ list.pages)
    → AreAmong list.pages pages → HasLeft true sizes at walk entries pages file
front_left sizes front at walk entries pages file end cursor here list given among = record {
  end = Some end;
  ends = refl;
  rest = entries;
  ahead = given.0;
  left_is = ap (λ (c : CursorState). above at (from_head c.head entries)) cursor;
  among = subst (λ (ps : List RunPage). AreAmong ps pages) (sym given.1) among;
  part = subst (λ (p : Component). HasPart true sizes at p entries pages file) (sym here)
      (record { of_part = entries; list = (end, list); left_is = refl; among = among });
}

pub list_sorted : (sizes : Sizes) (run : Component) (entries : Entries) (file : List ℕ) → HasList sizes run entries file → AreSorted entries
list_sorted sizes run entries file list = subst AreSorted list.entries_are ((orders _).0 list.reads.rise)

pub front_sorted : (sizes : Sizes) (front : Component) (entries : Entries) (file : List ℕ) → HasListOf true sizes front entries file → AreSorted entries
front_sorted sizes front entries file list = subst AreSorted list.1.entries_are ((orders _).0 list.1.reads.rise)

splice_further : (sizes : Sizes) (at : Option Key) (key : Key) (s : Splice) (front rest : Entries) (pages : List ℕ) (file : List ℕ) → is_above at key ≡ true
    → HasSplice sizes at s front rest pages file → HasSplice sizes (Some key) s front rest pages file
splice_further sizes at key s front rest pages file key_above has = by s.rest has
  where
    later_left : (later (Some key) s.released ≡ later at s.released)
        ⊎ ((later (Some key) s.released ≡ Some key) × (is_above (later at s.released) key ≡ true))
        → HasLeft false sizes (later at s.released) s.walk rest pages file → HasLeft false sizes (later (Some key) s.released) s.walk rest pages file
    later_left (inl same) left = subst (λ (low : Option Key). HasLeft false sizes low s.walk rest pages file) (sym same) left
    later_left (inr is) left = subst (λ (low : Option Key). HasLeft false sizes low s.walk rest pages file) (sym is.0)
        (left_further false sizes file (later at s.released) key s.walk rest pages is.1 left)

    by : (part : Option Component) → IsIn part sizes at s.released s.walk front rest pages file
        → IsIn part sizes (Some key) s.released s.walk front rest pages file
    by (Some c1) inside = record {
      left = left_further true sizes file at key s.walk front pages key_above inside.left;
      list = inside.list;
      among = inside.among;
    }
    by None inside = record {
      passed = above_further at key front key_above ∙ ap (above (Some key)) inside.passed;
      left = later_left (later_step at s.released key key_above) inside.left;
    }

pub scan_further : (sizes : Sizes) (scan : Scan) (key : Key) (released : Option Key) (lists : Contents) (pages : List ℕ) (file : List ℕ)
    → is_above scan.at key ≡ true → IsScan sizes scan released lists pages file → IsScan sizes (record scan { at = Some key }) released lists pages file
scan_further sizes scan key released lists pages file key_above is = record {
  released_is = is.released_is;
  c1 = splice_further sizes scan.at key scan.c1 lists.front lists.c1 pages file key_above is.c1;
  c1x = left_further false sizes file scan.at key scan.c1x lists.c1x pages key_above is.c1x;
  c2 = left_further false sizes file scan.at key scan.c2 lists.c2 pages key_above is.c2;
  sorted = is.sorted;
}

pub passes_one : (memory : Entries) (scan : Scan) (key : Key) → AreSorted memory → is_above scan.at key ≡ true
    → (key_of (first_of (above scan.at memory)) ≡ Some key) ⊎ ((key_of scan.c1.walk.cursor.head ≡ Some key) ⊎ ((key_of scan.c1x.cursor.head ≡ Some key) ⊎ (key_of scan.c2.cursor.head ≡ Some key)))
    → all_left memory (record scan { at = Some key }) < all_left memory scan
passes_one memory scan key h1 h2 h3 = grind (arith, common_steps, nat_tests, memory_less, count_further, memory_further, count_less)

pub view_sorted : (memory xs ys zs : Entries) → AreSorted zs → AreSorted (view_of memory xs ys zs)
view_sorted memory xs ys zs sorted = sorted_folded memory (folded_over xs (folded_over ys zs)) (sorted_folded xs (folded_over ys zs) (sorted_folded ys zs sorted))

-- ---- the parts, when a scan ends

above_folded : (at : Option Key) (xs ys : Entries) → AreSorted xs → AreSorted ys → above at (folded_over xs ys) ≡ folded_over (above at xs) (above at ys)
above_folded at xs ys sorted_xs sorted_ys = where_folded (λ k. is_above at k) xs ys sorted_xs sorted_ys

above_view : (at : Option Key) (memory xs ys zs : Entries) → AreSorted memory → AreSorted xs → AreSorted ys → AreSorted zs
    → above at (view_of memory xs ys zs) ≡ view_of (above at memory) (above at xs) (above at ys) (above at zs)
above_view at memory xs ys zs memory_sorted sorted_xs sorted_ys sorted_zs =
    let deep = sorted_folded ys zs sorted_zs in
    above_folded at memory (folded_over xs (folded_over ys zs)) memory_sorted (sorted_folded xs (folded_over ys zs) deep)
    ∙ ap (folded_over (above at memory)) (above_folded at xs (folded_over ys zs) sorted_xs deep ∙ ap (folded_over (above at xs)) (above_folded at ys zs sorted_ys sorted_zs))

-- lists that have the same above a key have the same rows above it
view_alike : (at : Option Key) (memory xs ys zs xs2 ys2 zs2 : Entries) → AreSorted memory → AreSorted xs → AreSorted ys → AreSorted zs → AreSorted xs2 → AreSorted ys2 → AreSorted zs2
    → above at xs2 ≡ above at xs → above at ys2 ≡ above at ys → above at zs2 ≡ above at zs → above at (view_of memory xs ys zs) ≡ above at (view_of memory xs2 ys2 zs2)
view_alike at memory xs ys zs xs2 ys2 zs2 memory_sorted sorted_xs sorted_ys sorted_zs sorted_xs2 sorted_ys2 sorted_zs2 same_xs same_ys same_zs =
    above_view at memory xs ys zs memory_sorted sorted_xs sorted_ys sorted_zs ∙ (λ i. view_of (above at memory) (sym same_xs i) (sym same_ys i) (sym same_zs i))
    ∙ sym (above_view at memory xs2 ys2 zs2 memory_sorted sorted_xs2 sorted_ys2 sorted_zs2)

among_four : {X : Type 0} (ws xs ys zs all : List X) → ((x : X) → Contains ws x → Contains all x) → ((x : X) → Contains xs x → Contains all x)
    → ((x : X) → Contains ys x → Contains all x) → ((x : X) → Contains zs x → Contains all x) → (x : X) → Contains (ws ++ xs ++ ys ++ zs) x → Contains all x
among_four ws xs ys zs all in_ws in_xs in_ys in_zs x has =
    ⊎_elim (λ three. ⊎_elim (λ two. ⊎_elim (in_ws x) (in_xs x) (Contains-append_cases ws xs x two)) (in_ys x) (Contains-append_cases (ws ++ xs) ys x three))
    (in_zs x) (Contains-append_cases (ws ++ xs ++ ys) zs x has)

-- The parts in which a walk over a front and a component stands have what is left of both, on pages among these.
pub record HaveParts (sizes : Sizes) (at released : Option Key) (front c1 : Component) (of_front of_c1 : Entries) (pages : List ℕ) (file : List ℕ) : Type 0 where
  pub part_front : Entries
  pub part_c1 : Entries
  pub front_list : HasListOf true sizes front part_front file
  pub c1_list : HasList sizes c1 part_c1 file
  pub left_is : above at (splice part_front released part_c1) ≡ above at (splice of_front released of_c1)
  pub among_front : AreAmong front_list.1.pages pages
  pub among_c1 : AreAmong c1_list.pages pages

pub splice_parts : (sizes : Sizes) (at released : Option Key) (s : Splice) (of_front of_c1 : Entries) (pages : List ℕ) (file : List ℕ)
    → s.released ≡ released → HasSplice sizes at s of_front of_c1 pages file → (parts : Component × Component) → ArePartsBy s parts
    → HaveParts sizes at released parts.0 parts.1 of_front of_c1 pages file
splice_parts sizes at released s of_front of_c1 pages file released_is has parts are = by s.rest has are
  where
    by : (part : Option Component) → IsIn part sizes at s.released s.walk of_front of_c1 pages file → AreParts part s.walk parts
        → HaveParts sizes at released parts.0 parts.1 of_front of_c1 pages file
    by (Some c1) inside is =
        let list = subst (λ (p : Component). HasPart true sizes at p of_front pages file) (sym is.0) inside.left.part in
        let behind = subst (λ (p : Component). (more : HasList sizes p of_c1 file) × AreAmong more.pages pages) (sym is.1) (inside.list, inside.among) in
        record {
          part_front = list.of_part;
          part_c1 = of_c1;
          front_list = list.list;
          c1_list = behind.0;
          left_is = splice_alike at released list.of_part of_c1 of_front of_c1 list.left_is refl;
          among_front = list.among;
          among_c1 = behind.1;
        }
    by None inside is =
        let front = subst (λ (p : Component). Listed true sizes p [] [] file) (sym is.0) (none_listed true sizes file) in
        let part = subst (λ (p : Component). HasPart false sizes (later at released) p of_c1 pages file) (sym is.1)
        (subst (λ (key : Option Key). HasPart false sizes (later at key) s.walk.here of_c1 pages file) released_is inside.left.part) in
        record {
          part_front = [];
          part_c1 = part.of_part;
          front_list = front.0;
          c1_list = part.list;
          left_is = splice_alike at released [] part.of_part of_front of_c1 (sym inside.passed) part.left_is;
          among_front = subst (λ (ps : List RunPage). AreAmong ps pages) (sym front.1) (λ n in_none. absurd (omega (arith, in_none.1)));
          among_c1 = part.among;
        }

-- Where a scan has ended, the parts in which it stands have the rows that are left, on pages among those of before.
pub parts_have : (sizes : Sizes) (hold : HoldState) (scan : Scan) (lists : Contents) (pages : List ℕ) (rows : List Row) (file : List ℕ)
    → AreSorted hold.memory → IsScan sizes scan hold.released lists pages file
    → ArePartsBy scan.c1 (hold.front, hold.c1) → hold.c1x ≡ scan.c1x.here → hold.c2 ≡ scan.c2.here → hold.place ≡ scan.at
    → rows ≡ rows_of hold.low hold.high (above scan.at (view_by hold.memory hold.released lists))
    → (has : HasRows sizes hold rows file) × ((page : ℕ) → Contains (pages_held has) page → Contains pages page)
parts_have sizes hold scan lists pages rows file sorted is parts c1x c2 place rows_are =
    let one = splice_parts sizes scan.at hold.released scan.c1 lists.front lists.c1 pages file is.released_is is.c1 (hold.front, hold.c1) parts in
    let two = subst (λ (p : Component). HasPart false sizes scan.at p lists.c1x pages file) (sym c1x) is.c1x.part in
    let three = subst (λ (p : Component). HasPart false sizes scan.at p lists.c2 pages file) (sym c2) is.c2.part in
    let front_rises = front_sorted sizes hold.front one.part_front file one.front_list in
    let c1_rises = list_sorted sizes hold.c1 one.part_c1 file one.c1_list in (
      record {
        of_front = one.part_front;
        of_c1 = one.part_c1;
        of_c1x = two.of_part;
        of_c2 = three.of_part;
        front = one.front_list;
        c1 = one.c1_list;
        c1x = two.list;
        c2 = three.list;
        rows_are = rows_are
            ∙ ap (rows_of hold.low hold.high) (view_alike scan.at hold.memory (splice lists.front hold.released lists.c1) lists.c1x lists.c2
            (splice one.part_front hold.released one.part_c1) two.of_part three.of_part sorted
            (sorted_splice lists.front hold.released lists.c1 is.sorted.front is.sorted.c1) is.sorted.c1x is.sorted.c2
            (sorted_splice one.part_front hold.released one.part_c1 front_rises c1_rises)
            (list_sorted sizes hold.c1x two.of_part file two.list) (list_sorted sizes hold.c2 three.of_part file three.list)
            one.left_is two.left_is three.left_is)
            ∙ ap (λ (at : Option Key). rows_of hold.low hold.high
            (above at (view_of hold.memory (splice one.part_front hold.released one.part_c1) two.of_part three.of_part))) (sym place);
      },
      among_four (numbers_of one.front_list.1.pages) (numbers_of one.c1_list.pages) (numbers_of two.list.pages) (numbers_of three.list.pages) pages
          one.among_front one.among_c1 two.among three.among,
    )
