-- The bytes of a page, worked, and what is no page.
use Rattle.std.proofs.Common.{◌≡◌, ℕ, ◌≤◌, List, [], ◌∷◌, length, take, Some, None, refl, ap, sym, subst, codes, lit≤, lit<, arith}
use Rattle.std.specs.List.{IsDistinct}
use Rattle.std.specs.List.Sorted.{IsStrictlySortedBy}
use Rattle.std.specs.Ordering.{is_lt}
use Rattle.std.proofs.lemmas.Bool.{false≢true}
use Rattle.std.proofs.lemmas.List.Elements.{All-nil, All-cons}
use Rattle.blsm_model.specs.declared.key.Key.{Key}
use Rattle.record_delta.specs.declared.record.Rec.{Rec}
use Rattle.record_delta.specs.declared.record.Rec.TheVariants.{Base, Delta}
use Rattle.record_delta.specs.Entries.{Entries}
use Rattle.entry_codec.specs.Spelling.{head, spelling}
use Rattle.page_file.specs.Entry.{IsPageEntry, AreRising}
use Rattle.blsm_model.specs.declared.component.Component.{Component}
use Rattle.blsm_model.specs.Sizes.{Sizes}
use Rattle.page_file.specs.Page.{page_head, page_bytes, IsContent, IsPageOf, IsPage}
use Rattle.page_file.specs.File.{page_at}
use Rattle.page_file.specs.Component.{RunPage, ReadsAs}

-- x, a base of count 100 and text "old"
base_x : Key × Rec
base_x = (codes "x", Base (record { count = 100; text = codes "old" }))

-- the page of this entry alone: 1 entry in 17 bytes, no next page
page_of_x : take 26 (page_bytes None (base_x ∷ [])) ≡ 0 ∷ 1 ∷ 0 ∷ 0x11 ∷ 0xff ∷ 0xff ∷ 0xff ∷ 0xff
    ∷ 1 ∷ 0 ∷ 1 ∷ 0 ∷ 3 ∷ 0 ∷ 0 ∷ 0 ∷ 0 ∷ 0 ∷ 0 ∷ 0 ∷ 0x64 ∷ 0x78 ∷ 0x6f ∷ 0x6c ∷ 0x64 ∷ 0 ∷ []
unfolding page_bytes page_head spelling head base_x
page_of_x = refl

page_of_x_long : length (page_bytes None (base_x ∷ [])) ≡ 4096
unfolding page_bytes page_head spelling head base_x
page_of_x_long = refl

is_entry_x : IsPageEntry base_x
unfolding base_x
is_entry_x = record { key_least = lit≤ tt; key_most = lit≤ tt; in_range = record { count_fits = lit< tt; text_fits = lit≤ tt } }

-- it is valid
page_x : IsPageOf 798 None (base_x ∷ []) (page_bytes None (base_x ∷ []))
unfolding spelling head base_x IsStrictlySortedBy
page_x = record {
  content = record {
    head = record { some = lit≤ tt; fits = lit≤ tt; next_is = tt; full = λ none. absurd (false≢true none) };
    each = All-cons IsPageEntry base_x [] is_entry_x (All-nil IsPageEntry);
    rise = (tt, tt);
  };
  spelled = refl;
}

valid_x : IsPage 798 (page_bytes None (base_x ∷ []))
valid_x = (None, base_x ∷ [], page_x)

-- but with a next page it is not full enough
not_full_x : (next : ℕ) → IsContent 798 (Some next) (base_x ∷ []) → ⊥
unfolding spelling head base_x
not_full_x next content = let full : 3577 ≤ 17 = content.head.full refl in omega (arith, full)

-- keys that fall, and keys that are the same, don't rise
named : List ℕ → Key × Rec
named key = (key, Delta (record { count = 1; text = [] }))

rising : AreRising (named (codes "a") ∷ named (codes "aa") ∷ named (codes "b") ∷ [])
unfolding named IsStrictlySortedBy
rising = ((refl, (refl, tt)), ((refl, tt), (tt, tt)))

falling : AreRising (named (codes "b") ∷ named (codes "aa") ∷ []) → ⊥
unfolding named IsStrictlySortedBy
falling rise = false≢true (ap is_lt rise.0.0)

twice : AreRising (named (codes "a") ∷ named (codes "a") ∷ []) → ⊥
unfolding named IsStrictlySortedBy
twice rise = false≢true (ap is_lt rise.0.0)

-- In a file of the smallest store whose page 0 is that of x, the component of this page alone reads as x, which weighs 17.
smallest : Sizes
smallest = record { half = 17408; ratio = 2; low = 16384; quantum = 4096 }

component_of_x : ℕ → Component
component_of_x weight = record { first = 0; pages = 1; entries = 1; weight = weight }

pages_of_x : List RunPage
pages_of_x = record { number = 0; entries = base_x ∷ [] } ∷ []

reads_x : (file : List ℕ) → page_at smallest 0 file ≡ page_bytes None (base_x ∷ []) → ReadsAs smallest (component_of_x 17) pages_of_x file
unfolding smallest component_of_x pages_of_x base_x IsStrictlySortedBy IsDistinct
reads_x file there = record {
  first_is = refl;
  chained = (lit< tt, subst (IsPageOf 798 None (base_x ∷ [])) (sym there) page_x, tt);
  rise = (tt, tt);
  apart = (tt, tt);
  pages_is = refl;
  entries_is = refl;
  weight_is = refl;
}

-- but not where it is said to weigh 18
wrong_weight_x : (file : List ℕ) → ReadsAs smallest (component_of_x 18) pages_of_x file → ⊥
unfolding component_of_x pages_of_x base_x
wrong_weight_x file reads = let weight : 17 ≡ 18 = reads.weight_is in omega (arith, weight)

-- nor do two pages with the same key, nor the same page twice
twice_x : (component : Component) (file : List ℕ) → ReadsAs smallest component (record { number = 0; entries = base_x ∷ [] } ∷ record { number = 1; entries = base_x ∷ [] } ∷ []) file → ⊥
unfolding base_x IsStrictlySortedBy
twice_x component file reads = false≢true (ap is_lt reads.rise.0.0)

again_x : (component : Component) (es fs : Entries) (file : List ℕ) → ReadsAs smallest component (record { number = 0; entries = es } ∷ record { number = 0; entries = fs } ∷ []) file → ⊥
unfolding IsDistinct
again_x component es fs file reads = false≢true (sym reads.apart.0.0)
