-- Examples of runs that are written, and of what is none.
use Rattle.std.proofs.Common.{◌≡◌, true, false, [], ◌∷◌, take, None, refl}
use Rattle.std.specs.List.{IsDistinct}
use Rattle.std.specs.List.Sorted.{IsStrictlySortedBy}
use Rattle.std.specs.Prelude.{replicate}
use Rattle.blsm_model.specs.declared.key.Key.{Key}
use Rattle.record_delta.specs.declared.record.Rec.TheVariants.{Base, Tomb}
use Rattle.entry_codec.specs.Spelling.{head, spelling}
use Rattle.page_file.specs.Entry.{keys_of}
use Rattle.page_file.specs.Page.{page_head}
use Rattle.blsm_model.specs.Components.{empty_component}
use Rattle.page_file.specs.Component.{numbers_of, entries_of}
use Rattle.run_writer.specs.Buffer.{empty_buffer, with_entry, sealed}
use Rattle.run_writer.specs.Run.{Run, pages_of, all_numbers, IsRun}
use Rattle.run_writer.proofs.RunLemmas.{empty_run, pushed_here, pushed_on}
use Rattle.run_writer.specs.Writer.{WriterState, started, has_place}

a : Key
a = 97 ∷ []

b : Key
b = 98 ∷ []

c : Key
c = 99 ∷ []

-- a and b in page 3
two : Run
two = pushed_here b Tomb (pushed_on 3 a Tomb empty_run)

-- and c in page 7
three : Run
three = pushed_on 7 c Tomb two

numbers : numbers_of (pages_of three) ≡ 3 ∷ 7 ∷ []
unfolding three two
numbers = refl

keys : keys_of (entries_of (pages_of three)) ≡ a ∷ b ∷ c ∷ []
unfolding three two
keys = refl

is_run : IsRun three
unfolding three two a b c IsStrictlySortedBy IsDistinct
is_run = record { rise = ((refl, (refl, tt)), ((refl, tt), (tt, tt))); apart = ((refl, tt), (tt, tt)) }

-- a and b on page 3 again, behind which the run is taken up: page 7 has no entry yet
again : Run
again = record { closed = pages_of two; number = 7; entries = [] }

its_numbers : all_numbers again ≡ 3 ∷ 7 ∷ []
unfolding again two
its_numbers = refl

its_keys : keys_of (entries_of (pages_of again)) ≡ a ∷ b ∷ []
unfolding again two
its_keys = refl

-- page 3 is no page for c
page_twice : IsRun (pushed_on 3 c Tomb two) → ⊥
unfolding two a b c IsStrictlySortedBy IsDistinct
page_twice run = let apart = run.apart in cc

-- b doesn't come twice
key_twice : IsRun (pushed_here b Tomb two) → ⊥
unfolding two a b c IsStrictlySortedBy IsDistinct
key_twice run = let rise = run.rise in cc

-- ---- the buffer

-- the page of a with a base of count 5 and the text "hi" begins so
page_begins : take 24 (sealed None (with_entry a (Base (record { count = 5; text = 104 ∷ 105 ∷ [] })) empty_buffer)) ≡
    0 ∷ 1 ∷ 0 ∷ 16 ∷ 255 ∷ 255 ∷ 255 ∷ 255 ∷ 1 ∷ 0 ∷ 1 ∷ 0 ∷ 2 ∷ 0 ∷ 0 ∷ 0 ∷ 0 ∷ 0 ∷ 0 ∷ 0 ∷ 5 ∷ 97 ∷ 104 ∷ 105 ∷ []
unfolding a page_head spelling head
page_begins = refl

-- the empty run has no place for any entry; an open page with 16 bytes has one for 4,072 more
nothing_open : has_place (started 0) 14 ≡ false
nothing_open = refl

abbrev some_open : WriterState
some_open = record { role = 0; component = record empty_component { pages = 1 }; number = 3; buffer = record { count = 1; text = replicate 16 0 } }

fits : has_place some_open 4072 ≡ true
fits = refl

too_long : has_place some_open 4073 ≡ false
too_long = refl
