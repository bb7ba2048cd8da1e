-- A cursor that goes on, and one whose pages stay.
use Rattle.std.proofs.lemmas.Bool.Decides.{nat_tests}
use Rattle.std.proofs.lemmas.Grind.{common_steps}
use Rattle.std.proofs.Common.{◌≡◌, ◌∙◌, ℕ, ◌<◌, true, false, List, [], ◌∷◌, Option, None, refl, ap, sym, subst, inl, inr, ⊎_elim, arith}
use Rattle.std.proofs.lemmas.Bool.{false≢true}
use Rattle.std.specs.List.{Contains}
use Rattle.disk_trait.specs.Region.{IsWithin, IsSameOutside, outside}
use Rattle.disk_trait.proofs.RegionLemmas.{same_wider}
use Rattle.blsm_model.specs.declared.component.Component.{Component}
use Rattle.blsm_model.specs.declared.key.Key.{Key}
use Rattle.blsm_model.specs.Sizes.{Sizes}
use Rattle.record_delta.specs.declared.record.Rec.{Rec}
use Rattle.record_delta.specs.Entries.{Entries, AreSorted, above}
use Rattle.page_space.specs.Space.{SpaceState, HasRole, IsFree}
use Rattle.page_file.specs.File.{pages_region}
use Rattle.page_file.specs.Component.{RunPage, numbers_of, HasList}
use Rattle.page_file.proofs.PageLemmas.{others_apart, same_pages}
use Rattle.run_cursor.specs.Cursor.{CursorState, from_head, started, HasAhead, IsAdvanced, PartGoesOn}
use Rattle.run_cursor.specs.Part.{IsNextPart}
use Rattle.run_cursor.proofs.AheadLemmas.{ahead_kept}
use Rattle.run_cursor.proofs.CursorLemmas.{started_ahead}
use Rattle.run_writer.specs.Writer.{role_region}
use Rattle.merge_ends.specs.Input.{head_above, FillsPages, IsInPart, IsInput}
use Rattle.merge_ends.specs.Output.{TakesPages}

-- a head that isn't above the key is no part of what is
pub stale_left : (at : Option Key) (head : Option (Key × Rec)) (rest : Entries) → head_above at head ≡ false → above at (from_head head rest) ≡ above at rest
stale_left at head rest h1 = grind (arith, common_steps, nat_tests)

-- A cursor that has taken nothing yet, over pages that don't have the run's tag and aren't free.
pub input_begun : {sizes : Sizes} {file : List ℕ} {space : SpaceState} {role tag : ℕ} {component : Component} {cursor : CursorState} {entries : Entries} {pages : List RunPage} → tag ≡ role → cursor ≡ started component → AreSorted entries
    → (ahead : HasAhead sizes cursor entries file) × (ahead.coming ≡ pages) → ((n : ℕ) → Contains (numbers_of pages) n → (HasRole space role n → ⊥) × (IsFree space n → ⊥))
    → IsInput sizes file space tag None cursor (numbers_of pages) entries
input_begun {space = space} {entries = entries} same is sorted ahead elsewhere =
    let there = λ (n : ℕ) (has : Contains (numbers_of ahead.0.coming) n). subst (λ (ps : List RunPage). Contains (numbers_of ps) n) ahead.1 has in
    record {
      sorted = sorted;
      rest = entries;
      ahead = ahead.0;
      left_is = ap (λ (s : CursorState). above None (from_head s.head entries)) is;
      among = there;
      apart = λ n has tagged. (elsewhere n (there n has)).0 (subst (λ (r : ℕ). HasRole space r n) same tagged);
      in_use = λ n has. (elsewhere n (there n has)).1;
    }

pub went_on : (sizes : Sizes) (file : List ℕ) (space : SpaceState) (role : ℕ) (at : Option Key) (old new : CursorState) (pages : List ℕ) (entries : Entries) → head_above at old.head ≡ false
    → (input : IsInput sizes file space role at old pages entries) → IsAdvanced sizes new (numbers_of input.ahead.coming) input.rest file → IsInput sizes file space role at new pages entries
went_on sizes file space role at old new pages entries stale input advanced = by_rest input.rest refl advanced
  where
    by_rest : (rest : Entries) → input.rest ≡ rest → IsAdvanced sizes new (numbers_of input.ahead.coming) rest file → IsInput sizes file space role at new pages entries
    by_rest [] is then = record {
      sorted = input.sorted;
      rest = [];
      ahead = then.1;
      left_is = ap (λ h. above at (from_head h [])) then.0 ∙ sym (ap (above at) is) ∙ sym (stale_left at old.head input.rest stale) ∙ input.left_is;
      among = λ n has. input.among n (then.2 n has);
      apart = λ n has. input.apart n (then.2 n has);
      in_use = λ n has. input.in_use n (then.2 n has);
    }
    by_rest (e ∷ es) is then = record {
      sorted = input.sorted;
      rest = es;
      ahead = then.1;
      left_is = ap (λ h. above at (from_head h es)) then.0 ∙ sym (ap (above at) is) ∙ sym (stale_left at old.head input.rest stale) ∙ input.left_is;
      among = λ n has. input.among n (then.2 n has);
      apart = λ n has. input.apart n (then.2 n has);
      in_use = λ n has. input.in_use n (then.2 n has);
    }

-- a part that reads as what the cursor has ahead, which is at no entry above the key
pub part_input : (sizes : Sizes) (file : List ℕ) (space : SpaceState) (role : ℕ) (at : Option Key) (cursor : CursorState) (part : Component) (pages : List ℕ) (entries : Entries)
    → head_above at cursor.head ≡ false → (input : IsInput sizes file space role at cursor pages entries)
    → (list : HasList sizes part input.rest file) × (list.pages ≡ input.ahead.coming) → IsInput sizes file space role at (started part) pages entries
part_input sizes file space role at cursor part pages entries stale input list =
    let ahead = started_ahead sizes part input.rest file list.0 in
    let back = λ (n : ℕ) (has : Contains (numbers_of ahead.0.coming) n). subst (λ (ps : List RunPage). Contains (numbers_of ps) n) (ahead.1 ∙ list.1) has in
    record {
      sorted = input.sorted;
      rest = input.rest;
      ahead = ahead.0;
      left_is = sym (stale_left at cursor.head input.rest stale) ∙ input.left_is;
      among = λ n has. input.among n (back n has);
      apart = λ n has. input.apart n (back n has);
      in_use = λ n has. input.in_use n (back n has);
    }

-- ---- by the numbers

-- where the cursor is at an entry some of the part was read
pub read_fills : (at : Option Key) (cursor : CursorState) (part : Component) → head_above at cursor.head ≡ true → IsInPart cursor part → FillsPages part
read_fills at cursor part is in_part =
    ⊎_elim (λ fills. fills) (λ unread. absurd (false≢true (sym (ap (head_above at) unread.0) ∙ is))) in_part.filled

pub in_part_on : (old new : CursorState) (here part : Component) → IsNextPart old here part → PartGoesOn old new → IsInPart old here → IsInPart new part × FillsPages part
in_part_on old new here part (inl begins) goes was =
    let pages : part.pages ≡ old.pages = ap (λ (s : CursorState). s.pages) begins.part_is in
    let weight : part.weight ≡ old.weight = ap (λ (s : CursorState). s.weight) begins.part_is in
    let some : 0 < old.pages = omega (arith, begins.some, pages) in
    let fills : FillsPages part = omega (arith, goes.enough begins.none_left some, pages, weight) in
    (record { on_page = omega (arith, goes.begins begins.none_left some, weight); filled = inl fills }, fills)
in_part_on old new here part (inr same) goes was =
    let fills : FillsPages here = ⊎_elim (λ fills. fills) (λ unread. omega (arith, unread.2, same.1 unread.1)) was.filled in
    subst (λ (p : Component). IsInPart new p × FillsPages p) (sym same.0)
    (record { on_page = goes.stays here.weight same.1 was.on_page; filled = inl fills }, fills)

-- An input stays where the role's pages alone are written, and the pages that the role takes were free.
pub input_kept : (sizes : Sizes) (old new : List ℕ) (space after : SpaceState) (role : ℕ) (at : Option Key) (cursor : CursorState) (pages : List ℕ) (entries : Entries)
    → IsSameOutside (role_region sizes space role) old new → TakesPages role space after → IsInput sizes old space role at cursor pages entries → IsInput sizes new after role at cursor pages entries
input_kept sizes old new space after role at cursor pages entries same takes input =
    let now = ahead_kept None sizes cursor input.rest old new input.ahead (same_pages sizes (numbers_of input.ahead.coming) old new (same_wider elsewhere same)) in
    let back = λ (n : ℕ) (has : Contains (numbers_of now.0.coming) n). subst (λ (ps : List RunPage). Contains (numbers_of ps) n) now.1 has in
    record {
      sorted = input.sorted;
      rest = input.rest;
      ahead = now.0;
      left_is = input.left_is;
      among = λ n has. input.among n (back n has);
      apart = λ n has tagged. ⊎_elim (input.apart n (back n has)) (input.in_use n (back n has)) (takes.only_free n tagged);
      in_use = λ n has free. input.in_use n (back n has) (takes.free n free);
    }
  where
    elsewhere : IsWithin (role_region sizes space role) (outside (pages_region sizes (numbers_of input.ahead.coming)))
    elsewhere i inside page =
        others_apart sizes inside.0 page.0 (λ is. input.apart page.0 page.1 (subst (λ (n : ℕ). HasRole space role n) is inside.1)) i inside.2 page.2
