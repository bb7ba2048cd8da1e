-- Whether a slot has a catalogue is decided by its bytes.
use Rattle.std.proofs.Common.{◌≡◌, ◌⊎◌, inl, inr, ⊎_elim, ℕ, ◌^◌, ◌<◌, ◌≤◌, true, false, List, [], ◌∷◌, length, drop, bytes_eq, refl, sym, subst, arith}
use Rattle.std.specs.Prelude.{Option, Some, None, IfSome}
use Rattle.std.proofs.lemmas.Bool.{cases_lt}
use Rattle.std.proofs.lemmas.Slice.Eq.{bytes_eq-Decides}
use Rattle.disk_trait.specs.Disk.{part}
use Rattle.gated_write.specs.Gated.{open_byte, IsClosed}
use Rattle.blsm_model.specs.declared.component.Component.{Component}
use Rattle.blsm_model.specs.Sizes.{Sizes}
use Rattle.blsm_model.specs.Geometry.{page_count}
use Rattle.catalog_swap.specs.declared.catalog.Catalog.{Catalog}
use Rattle.catalog_swap.specs.declared.catalog.Progress.{Progress}
use Rattle.blsm_model.specs.Components.{no_page}
use Rattle.blsm_model.specs.Lanes.{a_of, b_of, spare_of, AreRoles}
use Rattle.catalog_swap.specs.Text.{AreNumbers, FitsBody, FitsProgress, IsComponent, IsInRange, IsProgressOf, IsCatalog, slot_text}
use Rattle.catalog_swap.specs.Slots.{slot_of, odd_slot, even_slot, slot_length, HasSlot, IsBroken, IsNewest, IsDamagedSlots, none_open, odd_broken, even_broken}
use Rattle.catalog_swap.proofs.SaidLemmas.{catalog_in, catalog_back}
use Rattle.catalog_swap.proofs.SlotLemmas.{slot_begins, newest_alone, newest_above}

-- it holds, or it doesn't
abbrev pub Decided : Type 0 → Type 0
Decided A = A ⊎ (A → ⊥)

both : {A B : Type 0} → Decided A → Decided B → Decided (A × B)
both (inl a) (inl b) = inl (a, b)
both (inl a) (inr b) = inr (λ p. b p.1)
both (inr a) b = inr (λ p. a p.0)

either : {A B : Type 0} → Decided A → Decided B → Decided (A ⊎ B)
either (inl a) b = inl (inl a)
either (inr a) (inl b) = inl (inr b)
either (inr a) (inr b) = inr (⊎_elim a b)

not : {A : Type 0} → Decided A → Decided (A → ⊥)
not (inl a) = inr (λ none. none a)
not (inr a) = inl a

iff : {A B : Type 0} → (A → B) → (B → A) → Decided A → Decided B
iff to from (inl a) = inl (to a)
iff to from (inr a) = inr (λ b. a (from b))

below : (a b : ℕ) → Decided (a < b)
below a b = elim (cases_lt a b) [
  | inl less ↦ inl less
  | inr more ↦ inr (λ less. omega (arith, less, more))
]

at_most : (a b : ℕ) → Decided (a ≤ b)
at_most a b = elim (cases_lt b a) [
  | inl more ↦ inr (λ less. omega (arith, less, more))
  | inr less ↦ inl less
]

same : (a b : ℕ) → Decided (a ≡ b)
same a b = iff (λ (p : (a ≤ b) × (b ≤ a)). let x = p.0 in let y = p.1 in omega (arith, x, y)) (λ e. (omega (arith, e), omega (arith, e))) (both (at_most a b) (at_most b a))

bytes_same : (a b : List ℕ) → Decided (a ≡ b)
bytes_same a b =
    elim (bytes_eq a b) as (λ t. bytes_eq a b ≡ t → Decided (a ≡ b)) [
      | true ↦ λ is. inl ((bytes_eq-Decides a b).0 is)
      | false ↦ λ other. inr (λ e. let is = (bytes_eq-Decides a b).1 e in absurd (cc (other, is)))
    ] refl

numbers : (c : Component) → Decided (AreNumbers c)
numbers c =
    iff (λ p. record { first = p.0; pages = p.1.0; entries = p.1.1.0; weight = p.1.1.1 }) (λ n. (n.first, (n.pages, (n.entries, n.weight))))
    (both (below c.first (2 ^ 32)) (both (below c.pages (2 ^ 32)) (both (below c.entries (2 ^ 64)) (below c.weight (2 ^ 64)))))

in_range : (pages : ℕ) (c : Component) → Decided (IsInRange pages c)
in_range pages c =
    iff (λ p. record { first = p.0; some_page = p.1.0; no_more_pages = p.1.1.0; some_entry = p.1.1.1.0; some_weight = p.1.1.1.1 })
    (λ n. (n.first, (n.some_page, (n.no_more_pages, (n.some_entry, n.some_weight)))))
    (both (below c.first pages) (both (at_most 1 c.pages) (both (at_most c.pages pages) (both (at_most 1 c.entries) (at_most 14 c.weight)))))

component : (pages : ℕ) (c : Component) → Decided (IsComponent pages c)
component pages c =
    either
    (iff (λ p. record { first = p.0; pages = p.1.0; entries = p.1.1.0; weight = p.1.1.1 }) (λ n. (n.first, (n.pages, (n.entries, n.weight))))
    (both (same c.first no_page) (both (same c.pages 0) (both (same c.entries 0) (same c.weight 0)))))
    (in_range pages c)

named_fits : (p : Option Progress) → Decided (IfSome p FitsProgress)
named_fits None = inl tt
named_fits (Some p) =
    iff (λ d. record { output = d.0; next = d.1.0; z = d.1.1.0; some_key = d.1.1.1.0; short_key = d.1.1.1.1 }) (λ n. (n.output, (n.next, (n.z, (n.some_key, n.short_key)))))
    (both (numbers p.output) (both (below p.next (2 ^ 32)) (both (below p.z (2 ^ 64)) (both (at_most 1 (length p.key)) (at_most (length p.key) 64)))))

named : (pages : ℕ) (c1x : Component) (p : Option Progress) → Decided (IfSome p (IsProgressOf pages c1x))
named pages c1x None = inl tt
named pages c1x (Some p) =
    iff (λ d. record { some_c1x = d.0; output = d.1.0; next = d.1.1 }) (λ n. (n.some_c1x, (n.output, n.next)))
    (both (in_range pages c1x) (both (in_range pages p.output) (below p.next pages)))

lanes : (l : List ℕ) → Decided (AreRoles l)
lanes l =
    iff (λ p. record { a_below = p.0; b_below = p.1.0; spare_below = p.1.1.0; a_not_b = p.1.1.1.0; a_not_spare = p.1.1.1.1.0; b_not_spare = p.1.1.1.1.1 })
    (λ n. (n.a_below, (n.b_below, (n.spare_below, (n.a_not_b, (n.a_not_spare, n.b_not_spare))))))
    (both (below (a_of l) 3) (both (below (b_of l) 3) (both (below (spare_of l) 3)
    (both (not (same (a_of l) (b_of l))) (both (not (same (a_of l) (spare_of l))) (not (same (b_of l) (spare_of l))))))))

fits : (c : Catalog) → Decided (FitsBody c)
fits c =
    iff (λ p. record { version = p.0; lanes = p.1.0; c1 = p.1.1.0; c1x = p.1.1.1.0; c2 = p.1.1.1.1.0; progress = p.1.1.1.1.1 })
    (λ n. (n.version, (n.lanes, (n.c1, (n.c1x, (n.c2, n.progress))))))
    (both (below c.version (2 ^ 64)) (both (same (length c.lanes) 3) (both (numbers c.c1) (both (numbers c.c1x) (both (numbers c.c2) (named_fits c.progress))))))

pub catalog : (sizes : Sizes) (c : Catalog) → Decided (IsCatalog sizes c)
catalog sizes c =
    let pages = page_count sizes in
    iff (λ p. record {
      fits = p.0;
      some_version = p.1.0;
      lanes = p.1.1.0;
      c1 = p.1.1.1.0;
      c1x = p.1.1.1.1.0;
      c2 = p.1.1.1.1.1.0;
      progress = p.1.1.1.1.1.1;
    })
    (λ n. (n.fits, (n.some_version, (n.lanes, (n.c1, (n.c1x, (n.c2, n.progress)))))))
    (both (fits c) (both (at_most 1 c.version) (both (lanes c.lanes)
    (both (component pages c.c1) (both (component pages c.c1x) (both (component pages c.c2)
    (named pages c.c1x c.progress)))))))

-- ---- a slot

slot : (sizes : Sizes) (at : ℕ) (file : List ℕ) → Decided ((c : Catalog) × HasSlot sizes at c file)
slot sizes at file =
    let said = catalog_in (drop 1 (part file at slot_length)) in
    iff (λ (p : IsCatalog sizes said × ((slot_of said.version ≡ at) × (part file at (length (slot_text said)) ≡ slot_text said))).
    (said, record { fits = p.0; parity = p.1.0; text = p.1.1 }))
    (λ has.
    let is : said ≡ has.0 = catalog_back has.0 (drop 1 (part file at slot_length)) has.1.fits.fits (slot_begins has.1) in (
      subst (IsCatalog sizes) (sym is) has.1.fits,
      (
        subst (λ (c : Catalog). slot_of c.version ≡ at) (sym is) has.1.parity,
        subst (λ (c : Catalog). part file at (length (slot_text c)) ≡ slot_text c) (sym is) has.1.text,
      ),
    ))
    (both (catalog sizes said) (both (same (slot_of said.version) at) (bytes_same (part file at (length (slot_text said))) (slot_text said))))

abbrev Slot : Sizes → ℕ → List ℕ → Type 0
Slot sizes at file = IsClosed at file ⊎ ((c : Catalog) × HasSlot sizes at c file) ⊎ IsBroken sizes at file

slot_is : (sizes : Sizes) (at : ℕ) (file : List ℕ) → Slot sizes at file
slot_is sizes at file =
    elim (bytes_same (part file at 1) (open_byte ∷ [])) [
      | inr closed ↦ inl closed
      | inl opened ↦
          elim (slot sizes at file) [
            | inl has ↦ inr (inl has)
            | inr none ↦ inr (inr (record { opened = opened; no_body = λ c has. none (c, has) }))
          ]
    ]

newest_of : (sizes : Sizes) (file : List ℕ) → Slot sizes odd_slot file → Slot sizes even_slot file → ((c : Catalog) × IsNewest sizes c file) ⊎ IsDamagedSlots sizes file
newest_of sizes file (inr (inr broken)) even = inr (odd_broken broken)
newest_of sizes file (inl closed) (inr (inr broken)) = inr (even_broken broken)
newest_of sizes file (inr (inl has)) (inr (inr broken)) = inr (even_broken broken)
newest_of sizes file (inl closed) (inl closed') = inr (none_open closed closed')
newest_of sizes file (inl closed) (inr (inl has)) =
    let parity = has.1.parity in
    inl (has.0, newest_alone sizes has.0 even_slot odd_slot file has.1 (omega (arith, parity)) closed)
newest_of sizes file (inr (inl has)) (inl closed) =
    let parity = has.1.parity in
    inl (has.0, newest_alone sizes has.0 odd_slot even_slot file has.1 (omega (arith, parity)) closed)
newest_of sizes file (inr (inl one)) (inr (inl two)) =
    let parity = one.1.parity in
    let parity' = two.1.parity in
    elim (cases_lt one.0.version two.0.version) [
      | inl less ↦ inl (two.0, newest_above sizes two.0 one.0 even_slot odd_slot file two.1 (omega (arith, parity')) one.1 less)
      | inr more ↦ inl (one.0, newest_above sizes one.0 two.0 odd_slot even_slot file one.1 (omega (arith, parity)) two.1 (omega (arith, parity, parity', more)))
    ]

-- each file has a newest catalogue, or its slots are damaged
pub some_newest : (sizes : Sizes) (file : List ℕ) → ((c : Catalog) × IsNewest sizes c file) ⊎ IsDamagedSlots sizes file
some_newest sizes file = newest_of sizes file (slot_is sizes odd_slot file) (slot_is sizes even_slot file)
