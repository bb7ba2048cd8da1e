-- Examples of merges.
use Rattle.std.proofs.Common.{◌≡◌, [], ◌∷◌, Some, refl, codes}
use Rattle.record_delta.specs.declared.record.Rec.{Rec}
use Rattle.record_delta.specs.declared.record.Rec.TheVariants.{Base, Delta, Tomb}
use Rattle.record_delta.specs.Entries.{Entries, folded_over, settled_entries, above, up_to}

-- x removed and 4 added to y, over x with 100 and z with 1
-- four is added
abbrev four : Rec
four = Delta (record { count = 4; text = [] })

newer : Entries
newer = (codes "x", Tomb) ∷ (codes "y", four) ∷ []

older : Entries
older = (codes "x", Base (record { count = 100; text = codes "old" })) ∷ (codes "z", Base (record { count = 1; text = [] })) ∷ []

-- y with 4 and z with 1 are left
merged : settled_entries (folded_over newer older) ≡ (codes "y", Base (record { count = 4; text = [] })) ∷ (codes "z", Base (record { count = 1; text = [] })) ∷ []
unfolding newer older
merged = refl

-- up to x the removal is kept, and above it stands what is left
front : folded_over (up_to (Some (codes "x")) newer) (up_to (Some (codes "x")) older) ≡ (codes "x", Tomb) ∷ []
unfolding newer older
front = refl

behind : folded_over (above (Some (codes "x")) newer) (above (Some (codes "x")) older) ≡ (codes "y", four) ∷ (codes "z", Base (record { count = 1; text = [] })) ∷ []
unfolding newer older
behind = refl

-- the other way round it would be another list
turned : folded_over older newer ≡ (codes "x", Base (record { count = 100; text = codes "old" })) ∷ (codes "y", four) ∷ (codes "z", Base (record { count = 1; text = [] })) ∷ []
unfolding newer older
turned = refl
