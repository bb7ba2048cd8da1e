-- The end of an output: all of its pages were met, and what is told of it.
use Rattle.std.proofs.Common.{
  ◌≡◌,
  ℕ,
  ◌<◌,
  ◌≤◌,
  List,
  [],
  ◌∷◌,
  ◌++◌,
  length,
  refl,
  ap,
  sym,
  subst,
  ◌∙◌,
  arith,
  inl,
  inr,
  ⊎_elim,
  Option,
  Some,
  append-nil,
}
use Rattle.std.specs.Prelude.{Err}
use Rattle.std.specs.List.{Contains}
use Rattle.std.proofs.lemmas.List.Elements.{Contains-append_left, Contains-push, Contains-push_cases}
use Rattle.blsm_model.specs.Components.{no_page}
use Rattle.blsm_model.specs.Sizes.{Sizes}
use Rattle.blsm_model.specs.Geometry.{page_count}
use Rattle.record_delta.specs.Entries.{Entries, entries_weight}
use Rattle.page_file.specs.Entry.{AreRising}
use Rattle.page_file.specs.Page.{page_number}
use Rattle.page_file.specs.Component.{RunPage, AreChained, entries_of, first_number, numbers_of}
use Rattle.page_file.proofs.ComponentLemmas.{chain_split}
use Rattle.page_space.specs.Space.{Claims, SpaceState}
use Rattle.output_reading.specs.declared.output.Output.{Output}
use Rattle.catalog_swap.specs.declared.catalog.Progress.{Progress}
use Rattle.tree_file.specs.Output.{IsOutputOf, settled_fold, settled_up_to, weight_up_to}
use Rattle.output_reading.specs.Output.{IsDeparted, IsFront, page, whole}
use Rattle.page_file.specs.declared.file.Broken.{Broken}
use Rattle.page_file.specs.declared.file.Broken.TheVariants.{Fault, Damaged}
use Rattle.output_reading.specs.Walk.{
  Ends,
  HasMet,
  IsEnd,
  IsNoEnd,
  IsStopped,
  IsWalked,
  TellsOutput,
  TellsStop,
  comes,
  departs,
  differs,
  nowhere,
  on_page,
  short,
}
use Rattle.output_reading.proofs.MetLemmas.{all_given, begins_at, front_itself, last_page, longer, more_departs, nowhere_departs}
use Rattle.output_reading.proofs.PagesLemmas.{chain_holds, distinct_back, is_some, one_end, rise_front, takes_push, unsnoc}

-- a run that stops before the fold's end departs
pub stopped_departs : {sizes : Sizes} {progress : Progress} {newer older : Entries} {earlier : List ℕ} {n : ℕ} {file : List ℕ}
    → IsStopped sizes progress.output (settled_up_to (Some progress.key) newer older) earlier n file → IsDeparted sizes progress newer older earlier
    n file
stopped_departs (departs p) = page p
stopped_departs (short end not) = whole end (λ output. absurd (not output.entries_are))

pub stops_told : (sizes : Sizes) (progress : Progress) (newer older : Entries) (earlier : List ℕ) (role : ℕ) (old new : SpaceState) (file : List ℕ)
    (broken : Broken)
    → TellsStop sizes progress.output (settled_up_to (Some progress.key) newer older) earlier file broken → TellsOutput sizes progress newer older
    earlier role old new file (Err broken)
stops_told sizes progress newer older earlier role old new file (Damaged n) stopped = stopped_departs stopped
stops_told sizes progress newer older earlier role old new file Fault stopped = tt

-- a fault says nothing
pub fault_told : (sizes : Sizes) (progress : Progress) (newer older : Entries) (earlier : List ℕ) (role : ℕ) (old new : SpaceState) (file : List ℕ)
    (broken : Broken)
    → ((n : ℕ) → broken ≡ Damaged n → ⊥) → TellsOutput sizes progress newer older earlier role old new file (Err broken)
fault_told sizes progress newer older earlier role old new file (Damaged n) none = absurd (none n refl)
fault_told sizes progress newer older earlier role old new file Fault none = tt

module _ (sizes : Sizes) (progress : Progress) (newer older : Entries) (earlier : List ℕ) (role : ℕ) (first : SpaceState) (output : Output)
    (space : SpaceState) (file : List ℕ) (few : page_count sizes ≤ no_page)
    (some : 0 < progress.output.pages) (count : space.pages ≡ page_count sizes)
    (h : HasMet sizes progress.output earlier role first output space (settled_up_to (Some progress.key) newer older) file) where
  abbrev fold : Entries
  fold = settled_up_to (Some progress.key) newer older

  -- the last page departs from an output whose pages these are, but for one thing
  at_end : output.cursor.behind ≡ [] → output.cursor.pages ≡ 1 → (IsOutputOf sizes progress newer older h.has.pages file → Contains
      (earlier ++ numbers_of h.has.pages) progress.next)
      → IsDeparted sizes progress newer older earlier output.page file
  at_end none one not =
      elim (last_page sizes progress.output fold earlier role first output space fold file few some none one (front_itself fold) h) [
        | inl p ↦ page p
        | inr last ↦ whole last.0 (subst (λ (l : List RunPage). IsOutputOf sizes progress newer older l file → Contains (earlier ++ numbers_of l)
            progress.next) (sym last.1) not)
      ]

  -- the pages of an output name the next one
  next_of : (o : IsOutputOf sizes progress newer older h.has.pages file) → (ps : List RunPage) (p : RunPage) → h.has.pages ≡ ps ++ p ∷ [] →
      (progress.next < page_count sizes) × (h.has.end ≡ Some progress.next)
  next_of o ps p parts =
      let named = subst (λ (l : List RunPage). AreChained sizes l (Some progress.next) file) parts o.reads.chained in
      let there = subst (λ (l : List RunPage). AreChained sizes l h.has.end file) parts h.has.chained in (
        (chain_split sizes ps (p ∷ []) (Some progress.next) file named).1.1.content.head.next_is,
        one_end sizes ps p h.has.end (Some progress.next) file few there named,
      )

  -- where the numbers differ
  differing : (z : ℕ) → z ≡ weight_up_to (Some progress.key) newer older → output.cursor.behind ≡ [] → output.cursor.pages ≡ 1 →
      (IsEnd output progress z space → ⊥)
      → IsOutputOf sizes progress newer older h.has.pages file → Contains (earlier ++ numbers_of h.has.pages) progress.next
  differing z z_is none one not o =
      elim (unsnoc h.has.pages) [
        | inl nothing ↦ absurd (omega (arith, h.has.pages_is, one, some, ap (λ (l : List RunPage). length l) nothing))
        | inr more ↦
            let next = next_of o more.0 more.1 more.2 in
            let are = all_given progress.output h.has none in
            let held = chain_holds sizes h.has.pages h.has.end file h.has.chained in
            ⊎_elim (λ free. absurd (not (record {
              none_left = none;
              last = one;
              whole = record {
                next_is = sym h.has.end_is ∙ ap page_number next.1;
                entries_are = omega (arith, h.has.entries_is, o.reads.entries_is, ap (λ (l : Entries). length l) are);
                weight_is = omega (arith, h.has.weight_is, o.reads.weight_is, ap entries_weight are);
                fits = omega (arith, held.light, o.reads.weight_is, o.reads.pages_is);
                z_is = z_is ∙ sym o.z_is;
                free = free;
              };
            }))) (λ has. has) (h.takes.others progress.next (omega (arith, next.0, count)))
      ]

  pub no_end : (z n : ℕ) → z ≡ weight_up_to (Some progress.key) newer older → 0 < output.cursor.pages → IsNoEnd output progress z space n →
      IsDeparted sizes progress newer older earlier n file
  no_end z n z_is left (on_page none is) =
      subst (λ k. IsDeparted sizes progress newer older earlier k file) (sym is)
      (page (more_departs sizes progress.output earlier role first output space fold file few left (λ nothing. omega (arith, none nothing, left)) h))
  no_end z n z_is left (comes none two next inside) =
      page (record {
        pages = h.has.pages;
        begins = begins_at sizes progress.output fold earlier role first output space fold n file few none left next (omega (arith, inside, count))
            (front_itself fold) h;
        more = omega (arith, h.has.pages_is, two);
        departs = inr (λ after here go.
            let nothing = longer fold here (subst (λ (l : Entries). IsFront (l ++ here) fold) (all_given progress.output h.has none) go.front) in
            omega (arith, nothing, go.valid.content.head.some));
      })
  no_end z n z_is left (nowhere none two is past) =
      subst (λ k. IsDeparted sizes progress newer older earlier k file) (sym is)
      (page (nowhere_departs sizes progress.output fold earlier role first output space fold file few none two (omega (arith, past, count))
      (front_itself fold) h))
  no_end z n z_is left (differs none one is not) =
      subst (λ k. IsDeparted sizes progress newer older earlier k file) (sym is) (at_end none one (differing z z_is none one not))

  pub end_told : (z : ℕ) (broken : Broken) → z ≡ weight_up_to (Some progress.key) newer older → 0 < output.cursor.pages → Ends output progress z
      space (Err broken)
      → TellsOutput sizes progress newer older earlier role first space file (Err broken)
  end_told z (Damaged n) z_is left ends = no_end z n z_is left ends
  end_told z Fault z_is left wrong = absurd wrong

  -- nothing comes above the key
  pub all_is_met : output.cursor.behind ≡ [] → output.cursor.pages ≡ 1 → ((fold ≡ settled_fold newer older → ⊥) → ⊥) → IsDeparted sizes progress
      newer older earlier output.page file
  all_is_met none one not = at_end none one (λ o. absurd (not (λ all. o.more (all_given progress.output h.has none ∙ all))))

  pub is_walked : (now : SpaceState) (z : ℕ) → z ≡ weight_up_to (Some progress.key) newer older → IsEnd output progress z space →
      (fold ≡ settled_fold newer older → ⊥) → Claims role progress.next space now
      → IsWalked sizes progress newer older earlier role first now file
  is_walked now z z_is end more claims =
      let w = end.whole in
      let are = all_given progress.output h.has end.none_left in
      let numbers = numbers_of h.has.pages in
      let named : h.has.end ≡ Some progress.next = is_some h.has.end progress.next (h.has.end_is ∙ w.next_is)
      (omega (arith, w.free.in_range, count, few)) in
      record {
        pages = h.has.pages;
        output = record {
          reads = record {
            first_is = ap (λ (e : Option ℕ). page_number (first_number h.has.pages e)) (sym named) ∙ h.has.first_is;
            chained = subst (λ (e : Option ℕ). AreChained sizes h.has.pages e file) named h.has.chained;
            rise = rise_front (entries_of h.has.pages) [] (subst AreRising (sym (append-nil (entries_of h.has.pages) ∙ h.has.entries_are))
                h.has.rise);
            apart = distinct_back earlier (numbers_of h.has.pages) h.takes.apart;
            pages_is = omega (arith, h.has.pages_is, end.last);
            entries_is = omega (arith, h.has.entries_is, w.entries_are, ap (λ (l : Entries). length l) are);
            weight_is = omega (arith, h.has.weight_is, w.weight_is, ap entries_weight are);
          };
          entries_are = are;
          z_is = sym w.z_is ∙ z_is;
          more = λ all. more (sym are ∙ all);
        };
        takes = takes_push (earlier ++ numbers) role progress.next space now h.takes w.free claims;
        tags = λ k. (
          λ has. ⊎_elim (λ was_so. ⊎_elim inl (λ one. inr (Contains-append_left numbers (progress.next ∷ []) k one)) ((h.tags k).0 was_so))
              (λ same. inr (subst (Contains (numbers ++ progress.next ∷ [])) (sym same.1) (Contains-push numbers progress.next)))
              ((claims.tags role k).0 has),
          λ either. (claims.tags role k).1 (⊎_elim (λ old_so. inl ((h.tags k).1 (inl old_so)))
              (λ has. ⊎_elim (λ one. inl ((h.tags k).1 (inr one))) (λ same. inr (refl, sym same)) (Contains-push_cases numbers progress.next k has))
              either),
        );
      }
