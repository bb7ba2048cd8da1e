-- Lists of keys and records, folded and settled.
use Rattle.std.proofs.Common.{◌≡◌, [], ◌∷◌, Some, refl, codes}
use Rattle.record_delta.specs.declared.record.Rec.{Rec}
use Rattle.record_delta.specs.declared.record.Rec.TheVariants.{Base, Delta, Tomb}
use Rattle.record_delta.specs.Entries.{Entries, entries_weight, folded_over, settled_entries, above, up_to, first_of}

-- x removed and 4 added to y, over x with 100 and z with 1
-- four is added
abbrev four : Rec
four = Delta (record { count = 4; text = [] })

abbrev newer : Entries
newer = (codes "x", Tomb) ∷ (codes "y", four) ∷ []

abbrev older : Entries
older = (codes "x", Base (record { count = 100; text = codes "old" })) ∷ (codes "z", Base (record { count = 1; text = [] })) ∷ []

-- y with 4 and z with 1 are left
merged : settled_entries (folded_over newer older) ≡ (codes "y", Base (record { count = 4; text = [] })) ∷ (codes "z", Base (record { count = 1; text = [] })) ∷ []
merged = refl

both_weigh : entries_weight newer ≡ 28
both_weigh = refl

-- the other way round it would be another list
turned : folded_over older newer ≡ (codes "x", Base (record { count = 100; text = codes "old" })) ∷ (codes "y", four) ∷ (codes "z", Base (record { count = 1; text = [] })) ∷ []
turned = refl

-- up to x the removal is kept, and above it stands what is left
front : folded_over (up_to (Some (codes "x")) newer) (up_to (Some (codes "x")) older) ≡ (codes "x", Tomb) ∷ []
front = refl

behind : folded_over (above (Some (codes "x")) newer) (above (Some (codes "x")) older) ≡ (codes "y", four) ∷ (codes "z", Base (record { count = 1; text = [] })) ∷ []
behind = refl

-- the first entry above a key isn't that of the key itself
next : first_of (above (Some (codes "x")) newer) ≡ Some (codes "y", four)
next = refl

not_itself : first_of (above (Some (codes "y")) newer) ≡ Some (codes "y", four) → ⊥
not_itself wrong = cc
